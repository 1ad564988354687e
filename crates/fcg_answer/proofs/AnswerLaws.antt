-- What a graph query is answered, from what the book has for its set.
use Rattle.std.proofs.Common.{◌≡◌, ℕ, ◌<◌, ◌≤◌, false, List, [], length, get_or, refl, sym, ap, ◌∙◌, arith}
use Rattle.std.specs.Prelude.{Result, Ok, Err, IfOk, Option, Some, nat_lt}
use Rattle.std.proofs.lemmas.Option.{slice_get-get_or}
use Rattle.std.proofs.lemmas.Bool.Decides.{nat_tests}
use Rattle.fcg_views.specs.Set.{releases_of}
use Rattle.fcg_partial.specs.Parts.{PartShown, encoded_len}
use Rattle.fcg_analysis.specs.Edges.{edges}
use Rattle.fcg_join.specs.Parts.{types_of}
use Rattle.fcg_stitch.specs.Limits.{IsStitchable}
use Rattle.fcg_json.specs.declared.query.GraphQuery.{GraphQuery}
use Rattle.fcg_json.specs.declared.reply.Reply.TheVariants.{AbsentRelease}
use Rattle.fcg_book.specs.Log.{Log}
use Rattle.fcg_book.specs.Sets.{keys_of, parts_named}
use Rattle.fcg_book.specs.Books.{index_of}
use Rattle.fcg_answer.specs.Answer.{page_of, graph_of_parts, graph_by, graph_answer}

not_less : (n m : ℕ) → m ≤ n → nat_lt n m ≡ false
not_less n m le = grind (arith, nat_tests, le)

-- a result in other words
pub if_ok_as : {X E : Type 0} (P Q : X → Type 0) (r : Result X E) → ((x : X) → P x → Q x) → IfOk r P → IfOk r Q
if_ok_as P Q (Ok x) f h = f x h
if_ok_as P Q (Err e) f h = tt

-- parts within the limits are answered by a page
pub page_is : (at : ℕ) (q : GraphQuery) (parts : List PartShown) → IsStitchable parts → page_of q.part at q (types_of parts) ≡ graph_of_parts at q parts
page_is at q parts s = rw (not_less 268435456 (encoded_len parts) s.bytes, not_less 32000000 (length (edges (types_of parts))) s.edges) refl

pub not_behind : (log : Log) (q : GraphQuery) (r : Result (List ℕ) ℕ) → nat_lt (length log) q.min ≡ false → keys_of log (releases_of q.releases) ≡ r → graph_by log q r ≡ graph_answer log q
not_behind log q r late keys = rw (late, keys) refl

-- a value that is kept for the set
pub hit_is : (log : Log) (q : GraphQuery) (key : List ℕ) (value : List PartShown) → q.min ≤ length log → keys_of log (releases_of q.releases) ≡ Ok key → (value ≡ parts_named log key) × IsStitchable (parts_named log key) → page_of q.part (length log) q (types_of value) ≡ graph_answer log q
hit_is log q key value late keys (same, s) =
    ap (λ (ps : List PartShown). page_of q.part (length log) q (types_of ps)) same ∙ page_is (length log) q (parts_named log key) s ∙ not_behind log q (Ok key) (not_less (length log) q.min late) keys

any_default : (xs : List (List ℕ)) (i : ℕ) (d e : List ℕ) → i < length xs → get_or xs i d ≡ get_or xs i e
any_default xs i d e low = (let h : some_text (get_or xs i d) ≡ some_text (get_or xs i e) = sym (slice_get-get_or xs i d low) ∙ slice_get-get_or xs i e low in cc)
  where
    some_text : List ℕ → Option (List ℕ)
    some_text x = Some x

-- a release that isn't live
pub absent_is : (log : Log) (q : GraphQuery) (index : ℕ) (release : List ℕ) → q.min ≤ length log → (i : ℕ) × (keys_of log (releases_of q.releases) ≡ Err i) × (i < length (releases_of q.releases)) × (index ≡ index_of i) → release ≡ get_or (releases_of q.releases) index release → AbsentRelease (length log) release ≡ graph_answer log q
absent_is log q index release late (i, keys, within, is) there =
    ap (λ (c : List ℕ). AbsentRelease (length log) c) (there ∙ any_default (releases_of q.releases) index release [] (omega (arith, within, is)) ∙ ap (λ (k : ℕ). get_or (releases_of q.releases) k []) is) ∙ not_behind log q (Err i) (not_less (length log) q.min late) keys
