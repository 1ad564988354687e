-- The node that is named by a coordinate, a class, a name and a descriptor.
use Rattle.std.proofs.Common.{◌≡◌, ℕ, List, sym, ap, subst, ◌∙◌, refl}
use Rattle.std.specs.Prelude.{◌&&◌, true, false, not, Bool, Option, Some, None, Contains}
use Rattle.std.specs.List.{IsDistinct}
use Rattle.std.specs.Cmp.Lexicographic.{bytes_decides}
use Rattle.std.proofs.lemmas.Bool.{and_from}
use Rattle.fcg_views.specs.declared.uri.MethodUri.{MethodUri}
use Rattle.fcg_partial.specs.Parts.{PartShown}
use Rattle.fcg_analysis.specs.NamesAndFlags.{same}
use Rattle.fcg_analysis.specs.Declarations.{Placed, has_signature, is_named, is_type}
use Rattle.fcg_analysis.specs.Types.{type_named}
use Rattle.fcg_analysis.specs.Nodes.{Node, identity, declared}
use Rattle.fcg_analysis.proofs.General.Members.{IsIn-from_Contains, and_first, and_second, find_in, find_none}
use Rattle.fcg_analysis.proofs.General.Places.{member_at}
use Rattle.fcg_analysis.proofs.NameLaws.{find_type}
use Rattle.fcg_analysis.proofs.NodeMembers.{node_method, declared_own}
use Rattle.fcg_analysis.proofs.WinnerLaws.{is_type_self, known_distinct}
use Rattle.fcg_join.specs.Parts.{placed, types_of, nodes_of}
use Rattle.fcg_join.specs.Joined.{IsTypeNumber, HasType, GivesType, GivesNode, signature}
use Rattle.fcg_join.specs.NodeTables.{IsNumberOf}
use Rattle.fcg_join.specs.declared.id.TypeId.{TypeId}
use Rattle.fcg_join.specs.declared.id.MethodId.{MethodId}
use Rattle.fcg_stitch.specs.Names.{GivesNamed}

module _ (parts : List PartShown) (uri : MethodUri) where
  distinct : IsDistinct is_type (types_of parts)
  distinct = known_distinct (placed parts)

  -- a node that is named so has an owner that is found by its name
  owner_found : (n : Node) → Contains (nodes_of parts) n → identity n ≡ uri → type_named (types_of parts) uri.class ≡ Some n.owner
  owner_found n c e =
      let class : n.owner.view.name ≡ uri.class = ap (λ (u : MethodUri). u.class) e in
      find_type (types_of parts) distinct uri.class n.owner (IsIn-from_Contains _ n.owner (node_method (types_of parts) n c).0) ((bytes_decides uri.class n.owner.view.name).1 (sym class))

  -- there is no type of the name
  pub none_of_class : GivesType parts None (type_named (types_of parts) uri.class) → GivesNamed parts None uri
  none_of_class g = λ n c e. subst (λ (o : Option Placed). IsTypeNumber (types_of parts) None o) (owner_found n c e) g

  -- there is one: it is the type of the name
  pub one_of_class : (t : TypeId) → GivesType parts (Some t) (type_named (types_of parts) uri.class) → (x : Placed) × HasType parts t x × (type_named (types_of parts) uri.class ≡ Some x)
  one_of_class t g = at (type_named (types_of parts) uri.class) refl g
    where
      at : (o : Option Placed) → type_named (types_of parts) uri.class ≡ o → IsTypeNumber (types_of parts) (Some t.0) o → (x : Placed) × HasType parts t x × (type_named (types_of parts) uri.class ≡ Some x)
      at None e h = absurd h
      at (Some x) e h = (x, h, e)

  module _ (t : TypeId) (x : Placed) (h : HasType parts t x) (named : type_named (types_of parts) uri.class ≡ Some x) where
    owner_is : (n : Node) → Contains (nodes_of parts) n → identity n ≡ uri → n.owner ≡ x
    owner_is n c e = let s : Some n.owner ≡ Some x = sym (owner_found n c e) ∙ named in cc

    -- the type is of another release
    pub none_of_release : (x.coordinate ≡ uri.coordinate → ⊥) → GivesNamed parts None uri
    none_of_release other = λ n c e. other (sym (ap (λ (u : Placed). u.coordinate) (owner_is n c e)) ∙ ap (λ (u : MethodUri). u.coordinate) e)

    -- the type declares no such method
    pub none_declared : GivesNode parts None (declared (types_of parts) (signature uri.name uri.desc) x) → GivesNamed parts None uri
    none_declared g = λ n c e. at (declared (types_of parts) (signature uri.name uri.desc) x) refl g n c e
      where
        at : (o : Option Node) → declared (types_of parts) (signature uri.name uri.desc) x ≡ o → IsNumberOf (types_of parts) None o → (n : Node) → Contains (nodes_of parts) n → identity n ≡ uri → ⊥
        at (Some m) f g n c e = g
        at None f g n c e =
            find_none (λ m. is_type x m.owner && has_signature (signature uri.name uri.desc) m.method) (nodes_of parts) n f (IsIn-from_Contains _ n c)
            (and_from (is_type x n.owner) (has_signature (signature uri.name uri.desc) n.method)
            (subst (λ u. is_type x u ≡ true) (sym (owner_is n c e)) (is_type_self x))
            (and_from (same uri.name n.method.name) (same uri.desc n.method.desc)
            ((bytes_decides uri.name n.method.name).1 (sym (ap (λ (u : MethodUri). u.name) e)))
            ((bytes_decides uri.desc n.method.desc).1 (sym (ap (λ (u : MethodUri). u.desc) e)))))

    -- the type declares the method
    pub one_declared : x.coordinate ≡ uri.coordinate → (m : MethodId) → GivesNode parts (Some m) (declared (types_of parts) (signature uri.name uri.desc) x) → GivesNamed parts (Some m.0) uri
    one_declared release m g = at (declared (types_of parts) (signature uri.name uri.desc) x) refl g
      where
        class : x.view.name ≡ uri.class
        class = sym ((bytes_decides uri.class x.view.name).0 (find_in (is_named uri.class) (types_of parts) x named).1)

        at : (o : Option Node) → declared (types_of parts) (signature uri.name uri.desc) x ≡ o → IsNumberOf (types_of parts) (Some m.0) o → GivesNamed parts (Some m.0) uri
        at None f g = absurd g
        at (Some n) f g =
            let d = declared_own (types_of parts) distinct x (signature uri.name uri.desc) n (member_at (types_of parts) t.0 x h) f in
            let name : uri.name ≡ n.method.name = (bytes_decides uri.name n.method.name).0 (and_first (same uri.name n.method.name) (same uri.desc n.method.desc) d.2) in
            let desc : uri.desc ≡ n.method.desc = (bytes_decides uri.desc n.method.desc).0 (and_second (same uri.name n.method.name) (same uri.desc n.method.desc) d.2) in
            let coordinate : n.owner.coordinate ≡ uri.coordinate = ap (λ (u : Placed). u.coordinate) d.0 ∙ release in
            let owner : n.owner.view.name ≡ uri.class = ap (λ (u : Placed). u.view.name) d.0 ∙ class in
            (n, g, λ i. record { coordinate = coordinate i; class = owner i; name = sym name i; desc = sym desc i })

-- ---- from what is given

-- the type of a name
pub none_given : (parts now : List PartShown) → parts ≡ now → (uri : MethodUri) (name : List ℕ) → name ≡ uri.class → GivesType parts None (type_named (types_of parts) name) → GivesNamed now None uri
none_given parts now e uri name f g =
    none_of_class now uri
    (subst (λ (ps : List PartShown). GivesType ps None (type_named (types_of ps) uri.class)) e
    (subst (λ (n : List ℕ). GivesType parts None (type_named (types_of parts) n)) f g))

pub one_given : (parts now : List PartShown) → parts ≡ now → (uri : MethodUri) (name : List ℕ) → name ≡ uri.class → (t : TypeId) → GivesType parts (Some t) (type_named (types_of parts) name)
    → (x : Placed) × HasType now t x × (type_named (types_of now) uri.class ≡ Some x)
one_given parts now e uri name f t g =
    one_of_class now uri t
    (subst (λ (ps : List PartShown). GivesType ps (Some t) (type_named (types_of ps) uri.class)) e
    (subst (λ (n : List ℕ). GivesType parts (Some t) (type_named (types_of parts) n)) f g))

-- the method of a name and a descriptor
pub declared_given : (parts now : List PartShown) → parts ≡ now → (uri : MethodUri) (name desc : List ℕ) → name ≡ uri.name → desc ≡ uri.desc → (t : TypeId) (o : Option MethodId)
    → ((x : Placed) → HasType parts t x → GivesNode parts o (declared (types_of parts) (signature name desc) x))
    → (x : Placed) → HasType now t x → GivesNode now o (declared (types_of now) (signature uri.name uri.desc) x)
declared_given parts now e uri name desc f g t o h =
    subst (λ (ps : List PartShown). (x : Placed) → HasType ps t x → GivesNode ps o (declared (types_of ps) (signature uri.name uri.desc) x)) e
    (subst (λ (n : List ℕ). (x : Placed) → HasType parts t x → GivesNode parts o (declared (types_of parts) (signature n uri.desc) x)) f
    (subst (λ (d : List ℕ). (x : Placed) → HasType parts t x → GivesNode parts o (declared (types_of parts) (signature name d) x)) g h))

-- whether the coordinate, which was read, is another
pub other_release : (read a b : List ℕ) (other : Bool) → read ≡ a → other ≡ not (same read b) → other ≡ true → a ≡ b → ⊥
other_release read a b other e f t q = let s : same read b ≡ true = (bytes_decides read b).1 (e ∙ q) in cc

pub same_release : (read a b : List ℕ) (other : Bool) → read ≡ a → other ≡ not (same read b) → other ≡ false → a ≡ b
same_release read a b other e f t = sym e ∙ (bytes_decides read b).0 (at (same read b) (sym f ∙ t))
  where
    at : (w : Bool) → not w ≡ false → w ≡ true
    at true h = refl
    at false h = absurd (cc)
