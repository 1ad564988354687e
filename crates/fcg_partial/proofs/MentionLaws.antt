-- Names that are collected by the numbers of texts.
use Rattle.std.proofs.Common.{◌≡◌, ℕ, zero, suc, ◌+◌, ◌<◌, ◌⊎◌, inl, inr, List, [], ◌∷◌, ◌++◌, length, get_or, take, drop, refl, sym, ap, subst, ◌∙◌, append_assoc, arith}
use Rattle.std.specs.Prelude.{map}
use Rattle.std.specs.List.{AllByRecursion, Contains}
use Rattle.std.proofs.lemmas.List.{length-append, append-nil, take_more}
use Rattle.fcg_grammar.specs.Table.{Rises, table, place}
use Rattle.fcg_grammar.proofs.Among.{Among, Contains-among, among_from_contains, among_at, among_all, among_left, among_right, among_either, map_among, map_append}
use Rattle.fcg_grammar.proofs.TableLaws.{place_at}
use Rattle.fcg_partial.specs.Views.{name_in}
use Rattle.fcg_partial.specs.Internal.Mentions.{IsTextOf, Extends, AreMentions}
use Rattle.fcg_partial.proofs.CollectedLaws.{same_table}

kept_at : (old more : List (List ℕ)) (k : ℕ) → k < length old → name_in (old ++ more) k ≡ name_in old k
kept_at [] more k lt = absurd (omega arith)
kept_at (x ∷ old) more zero lt = refl
kept_at (x ∷ old) more (suc k) lt = kept_at old more k (omega arith)

kept_all : (old more : List (List ℕ)) (numbers : List ℕ) → AllByRecursion (λ n. n < length old) numbers → map (name_in (old ++ more)) numbers ≡ map (name_in old) numbers
kept_all old more [] all = refl
kept_all old more (n ∷ ns) all = let a = kept_at old more n all.0 in let b = kept_all old more ns all.1 in cc

-- a text that is there
pub extends_same : (texts : List (List ℕ)) (name : List ℕ) (n : ℕ) → IsTextOf texts n name → Extends texts texts name n
extends_same texts name n is = record { more = []; new_is = sym (append-nil texts); each = tt; is = is }

-- a text that is added
added_at : (texts : List (List ℕ)) (name : List ℕ) → IsTextOf (texts ++ name ∷ []) (length texts) name
added_at [] name = (omega arith, refl)
added_at (x ∷ xs) name = let a = added_at xs name in ((let lt = a.0 in omega arith), a.1)

pub extends_added : (texts new : List (List ℕ)) (name copy : List ℕ) (n : ℕ) → copy ≡ name → new ≡ texts ++ copy ∷ [] → n ≡ length texts → Extends texts new name n
extends_added texts new name copy n same new_is n_is = record {
  more = copy ∷ [];
  new_is = new_is;
  each = (same, tt);
  is = subst (λ (m : ℕ). IsTextOf new m name) (sym n_is) (subst (λ (l : List (List ℕ)). IsTextOf l (length texts) name) (sym new_is) (subst (λ (c : List ℕ). IsTextOf (texts ++ c ∷ []) (length texts) name) (sym same) (added_at texts name)));
}

module _ (old new : List (List ℕ)) (numbers : List ℕ) (name : List ℕ) (n : ℕ) (are : AreMentions old numbers) (more : Extends old new name n) where
  pub mentions_more : map (name_in new) (numbers ++ n ∷ []) ≡ map (name_in old) numbers ++ name ∷ []
  mentions_more =
      map_append (name_in new) numbers (n ∷ [])
      ∙ ap (λ (l : List (List ℕ)). l ++ name_in new n ∷ []) (ap (λ (t : List (List ℕ)). map (name_in t) numbers) more.new_is ∙ kept_all old more.more numbers are.below)
      ∙ ap (λ (x : List ℕ). map (name_in old) numbers ++ x ∷ []) more.is.1

  below_more : (ns : List ℕ) → AllByRecursion (λ k. k < length old) ns → AllByRecursion (λ k. k < length new) (ns ++ n ∷ [])
  below_more [] all = (more.is.0, tt)
  below_more (k ∷ ks) all = ((let lt = all.0 in let long = ap (λ (l : List (List ℕ)). length l) more.new_is in let two = length-append old more.more in omega arith), below_more ks all.1)

  added_is : (x : List ℕ) → Among x more.more → name ≡ x
  added_is x h = sym (among_all (λ y. y ≡ name) more.more x more.each h)

  named_now : (x : List ℕ) → Among x old ⊎ Among x more.more → Contains (map (name_in old) numbers ++ name ∷ []) x
  named_now x (inl h) = Contains-among x (map (name_in old) numbers ++ name ∷ []) (among_left x (map (name_in old) numbers) (name ∷ []) (among_from_contains x (map (name_in old) numbers) (are.named x (Contains-among x old h))))
  named_now x (inr h) = Contains-among x (map (name_in old) numbers ++ name ∷ []) (among_right x (map (name_in old) numbers) (name ∷ []) (inl (added_is x h)))

  pub are_more : AreMentions new (numbers ++ n ∷ [])
  are_more = record {
    below = below_more numbers are.below;
    named = λ x c. subst (λ (l : List (List ℕ)). Contains l x) (sym mentions_more) (named_now x (among_either x old more.more (subst (λ (l : List (List ℕ)). Among x l) more.new_is (among_from_contains x new c))));
  }

-- names of a list that are added one after the other
pub listed_more : (old new : List (List ℕ)) (numbers : List ℕ) (listed : List (List ℕ)) (ns : List ℕ) (i d n : ℕ) (before : List (List ℕ)) → i < length ns → AreMentions old numbers → Extends old new (name_in listed (get_or ns i d)) n → map (name_in old) numbers ≡ before ++ map (name_in listed) (take i ns) → map (name_in new) (numbers ++ n ∷ []) ≡ before ++ map (name_in listed) (take (i + 1) ns)
listed_more old new numbers listed ns i d n before lt are more so_far =
    let name = name_in listed (get_or ns i d) in
    mentions_more old new numbers name n are more
    ∙ ap (λ (l : List (List ℕ)). l ++ name ∷ []) so_far
    ∙ append_assoc before (map (name_in listed) (take i ns)) (name ∷ [])
    ∙ ap (λ (l : List (List ℕ)). before ++ l) (sym (ap (map (name_in listed)) (take_more ns i d lt) ∙ map_append (name_in listed) (take i ns) (get_or ns i d ∷ [])))

-- a list that was written over whole
pub written_over : {X : Type 0} (n : ℕ) (new old : List X) → length new ≡ n → take n (new ++ drop (length new) old) ≡ new
written_over n new old long = ap (λ (k : ℕ). take k (new ++ drop (length new) old)) (sym long) ∙ take_front new (drop (length new) old)
  where
    take_front : {X : Type 0} (xs ys : List X) → take (length xs) (xs ++ ys) ≡ xs
    take_front [] ys = refl
    take_front (x ∷ xs) ys = ap (λ l. x ∷ l) (take_front xs ys)

-- the number of a name has a text
pub below_at : (count : ℕ) (numbers : List ℕ) (i d : ℕ) → AllByRecursion (λ n. n < count) numbers → i < length numbers → get_or numbers i d < count
below_at count numbers i d below lt = among_all (λ n. n < count) numbers (get_or numbers i d) below (among_at numbers i d lt)

-- the places in a table of the texts of numbers
pub places_of_texts : (table texts : List (List ℕ)) (places numbers : List ℕ) → places ≡ map (place table) texts → AllByRecursion (λ n. n < length texts) numbers → map (λ n. get_or places n 0) numbers ≡ map (place table) (map (name_in texts) numbers)
places_of_texts table texts places numbers is below = ap (λ (l : List ℕ). map (λ n. get_or l n 0) numbers) is ∙ each numbers below
  where
    at : (xs : List (List ℕ)) (k : ℕ) → k < length xs → get_or (map (place table) xs) k 0 ≡ place table (name_in xs k)
    at [] k lt = absurd (omega arith)
    at (x ∷ xs) zero lt = refl
    at (x ∷ xs) (suc k) lt = at xs k (omega arith)

    each : (ns : List ℕ) → AllByRecursion (λ n. n < length texts) ns → map (λ n. get_or (map (place table) texts) n 0) ns ≡ map (place table) (map (name_in texts) ns)
    each [] all = refl
    each (n ∷ ns) all = let a = at texts n all.0 in let b = each ns all.1 in cc

-- the table of the texts is that of the names
pub texts_table : (texts : List (List ℕ)) (numbers : List ℕ) → AreMentions texts numbers → table texts ≡ table (map (name_in texts) numbers)
texts_table texts numbers are = same_table texts (map (name_in texts) numbers)
    (λ z h. among_from_contains z (map (name_in texts) numbers) (are.named z (Contains-among z texts h)))
    (λ z h. (
    let m = map_among (name_in texts) z numbers h in
    subst (λ (x : List ℕ). Among x texts) m.2 (among_at texts m.0 [] (among_all (λ k. k < length texts) numbers m.0 are.below m.1))))

-- a text of a table has its place as its number
pub hint_is : (names : List (List ℕ)) (n : ℕ) (name : List ℕ) → Rises names → IsTextOf names n name → n ≡ place names name
hint_is names n name rises is = sym (place_at names n [] rises is.0) ∙ ap (place names) is.1

-- before the first name
pub none_yet : (texts : List (List ℕ)) (numbers : List ℕ) → texts ≡ [] → numbers ≡ [] → AreMentions texts numbers
none_yet texts numbers t n = subst (λ (l : List (List ℕ)). AreMentions l numbers) (sym t) (subst (λ (m : List ℕ). AreMentions [] m) (sym n) (record { below = tt; named = λ x c. absurd (among_from_contains x [] c) }))
