-- The tables of the first nodes, one node after another.
use Rattle.std.proofs.Common.{◌≡◌, ℕ, ◌<◌, ◌≤◌, ◌+◌, List, [], ◌∷◌, ◌++◌, length, take, refl, sym, ap, subst, ◌∙◌, inl, inr, arith}
use Rattle.std.specs.Prelude.{Bool, false, ◌||◌, ◌⊎◌, Some, slice_get, map}
use Rattle.std.proofs.lemmas.Bool.{cases_order}
use Rattle.std.proofs.lemmas.List.{length-map}
use Rattle.std.proofs.lemmas.List.Elements.{All-same, All-nil}
use Rattle.std.proofs.lemmas.Option.{slice_get_within}
use Rattle.fcg_partial.specs.Parts.{PartShown}
use Rattle.fcg_analysis.specs.Nodes.{Node}
use Rattle.fcg_analysis.specs.Edges as rules
use Rattle.fcg_join.specs.Parts.{types_of, nodes_of}
use Rattle.fcg_edges.specs.Rows.{Rows, IsWithCaller, no_rows, has, leads, edges_of}
use Rattle.fcg_stitch.specs.Targets.{caller_targets}
use Rattle.fcg_stitch.specs.Status.{status_shown}
use Rattle.fcg_stitch.specs.declared.status.SiteStatus.{SiteStatus}
use Rattle.fcg_stitch.specs.declared.callers.Work.{Work}
use Rattle.fcg_stitch.specs.Internal.Rows.{row_has, HaveMoreLists, IsRowWithin, AreStates, leads_to, first_sites, statuses_of_nodes}
use Rattle.fcg_stitch.specs.Internal.Calling.{IsWork, AddsTargets, AddsStatuses}
use Rattle.fcg_stitch.specs.Internal.Tables.{AreOfNodes}
use Rattle.fcg_stitch.proofs.MoreLists.{more_of_caller, more_states}
use Rattle.fcg_stitch.proofs.CallerRows.{flat_map_one_more, first_sites_one_more}
use Rattle.fcg_stitch.proofs.CallerEdges.{leads_at, no_more_edges}

-- ---- no node yet

pub no_nodes : (parts : List PartShown) (r : Rows) (count : ℕ) (ss : List SiteStatus) (fs : List ℕ) → r ≡ no_rows count → count ≡ length (nodes_of parts) → ss ≡ [] → fs ≡ [] → AreOfNodes parts 0 r ss fs
no_nodes parts r count ss fs e c s f = record {
  count = ap (λ (q : Rows). q.count) e ∙ c;
  callers = ap (λ (q : Rows). length q.targets) e;
  leads = λ a b l. absurd (omega arith);
  statuses = ap (map status_shown) s;
  firsts = f;
}

pub empty_row : (r : Rows) (ts us : List ℕ) → ts ≡ [] → us ≡ [] → IsRowWithin r ts us
empty_row r ts us e f = record { targets = All-same (λ b. b < r.count) ts [] e (All-nil (λ b. b < r.count)); uses = All-same (λ l. l < length r.lists) us [] f (All-nil (λ l. l < length r.lists)) }

pub first_work : (parts : List PartShown) (r : Rows) (count : ℕ) (w : Work) → r ≡ no_rows count → count ≡ length (nodes_of parts) → AreStates parts r.lists w.states → w.row.targets.items ≡ [] → w.row.uses.items ≡ [] → IsWork parts r w
first_work parts r count w e c s t u = record { count = ap (λ (q : Rows). q.count) e ∙ c; states = s; row = empty_row r w.row.targets.items w.row.uses.items t u }

-- ---- one node more

last_or_before : (a k : ℕ) → a < k + 1 → (a < k) ⊎ (a ≡ k)
last_or_before a k l = elim (cases_order a k) [ inl h ↦ inr h | inr (inl h) ↦ inl h | inr (inr h) ↦ absurd (omega arith) ]

-- n is the node of the number k, whose row is made after lists were added
module _ (parts : List PartShown) (k : ℕ) (n : Node) (r s t : Rows) (u w : Work) (fs : List ℕ)
    (e : slice_get (nodes_of parts) k ≡ Some n)
    (h : AreOfNodes parts k r u.statuses.items fs)
    (more : HaveMoreLists r s)
    (caller : IsWithCaller s t w.row.targets.items w.row.uses.items)
    (ts : u.row.targets.items ≡ []) (us : u.row.uses.items ≡ [])
    (adds : AddsTargets r s u w (caller_targets (types_of parts) n))
    (adds_statuses : AddsStatuses u w (rules.statuses_of (types_of parts) n)) where
  long : length s.targets ≡ k
  long = more.callers ∙ h.callers

  leads_last : (b : ℕ) → leads t k b ≡ leads_to (types_of parts) k b
  leads_last b =
      let none : row_has r.lists u.row.targets.items u.row.uses.items b ≡ false =
      ap (λ xs. row_has r.lists xs u.row.uses.items b) ts ∙ ap (λ xs. row_has r.lists [] xs b) us in
      ap (λ m. leads t m b) (sym long)
      ∙ caller.caller b
      ∙ adds b
      ∙ ap (λ (x : Bool). x || has (caller_targets (types_of parts) n) b) none
      ∙ sym (leads_at (types_of parts) k b n e)

  leads_first : (a b : ℕ) → a < k → leads t a b ≡ leads_to (types_of parts) a b
  leads_first a b l =
      caller.before a b (subst (λ m. a < m) (sym long) l)
      ∙ more.leads a b (subst (λ m. a < m) (sym h.callers) l)
      ∙ h.leads a b l

  statuses_more : map status_shown w.statuses.items ≡ statuses_of_nodes (types_of parts) (take (k + 1) (nodes_of parts))
  statuses_more =
      adds_statuses
      ∙ ap (λ qs. qs ++ rules.statuses_of (types_of parts) n) h.statuses
      ∙ sym (flat_map_one_more (rules.statuses_of (types_of parts)) (nodes_of parts) k n e)

  firsts_more : (more_fs : List ℕ) (len : ℕ) → len ≡ length u.statuses.items → more_fs ≡ fs ++ len ∷ [] → more_fs ≡ first_sites (take (k + 1) (nodes_of parts))
  firsts_more more_fs len l f =
      let count : length u.statuses.items ≡ length (statuses_of_nodes (types_of parts) (take k (nodes_of parts))) =
      sym (length-map u.statuses.items status_shown) ∙ ap length h.statuses in
      f
      ∙ ap (λ xs. xs ++ len ∷ []) h.firsts
      ∙ ap (λ m. first_sites (take k (nodes_of parts)) ++ m ∷ []) (l ∙ count)
      ∙ sym (first_sites_one_more (types_of parts) (nodes_of parts) k n e)

  pub one_node_more : (more_fs : List ℕ) (len : ℕ) → len ≡ length u.statuses.items → more_fs ≡ fs ++ len ∷ [] → AreOfNodes parts (k + 1) t w.statuses.items more_fs
  one_node_more more_fs len l f = record {
    count = caller.count ∙ more.count ∙ h.count;
    callers = caller.callers ∙ ap (λ m. m + 1) long;
    leads = λ a b i. elim (last_or_before a k i) [ inl before ↦ leads_first a b before | inr last ↦ subst (λ m. leads t m b ≡ leads_to (types_of parts) m b) (sym last) (leads_last b) ];
    statuses = statuses_more;
    firsts = firsts_more more_fs len l f;
  }

  -- all edges are no fewer
  pub more_edges : (m : ℕ) → m < length (edges_of t) → m < length (rules.edges (types_of parts))
  more_edges m l =
      let less : k < length (nodes_of parts) = slice_get_within (nodes_of parts) k n e in
      let few : length (edges_of t) ≤ length (rules.edges (types_of parts)) = no_more_edges parts (k + 1) t w.statuses.items (fs ++ length u.statuses.items ∷ []) (one_node_more (fs ++ length u.statuses.items ∷ []) (length u.statuses.items) refl refl) (omega arith) in
      omega arith

-- the row of the caller begins anew
pub next_work : (parts : List PartShown) (s t : Rows) (v w : Work) (ts us : List ℕ) → IsWork parts s v → IsWithCaller s t ts us → w.states ≡ v.states → w.row.targets.items ≡ [] → w.row.uses.items ≡ [] → IsWork parts t w
next_work parts s t v w ts us h c e f g = record {
  count = c.count ∙ h.count;
  states = more_states s.lists t.lists (more_of_caller s t ts us c) parts w.states (subst (λ q. AreStates parts s.lists q) (sym e) h.states);
  row = empty_row t w.row.targets.items w.row.uses.items f g;
}
