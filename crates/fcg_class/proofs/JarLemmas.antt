-- Reading the entries of a bundle never gives the fault of a jar.
use Rattle.std.proofs.Common.{◌≡◌, ℕ, zero, suc, ◌+◌, Bool, true, false, cond, not, eqb, leb, None, List, [], length, ap, ◌∙◌}
use Rattle.std.specs.List.{list_any}
use Rattle.std.specs.Prelude.{Result, Ok, Err}
use Rattle.fcg_grammar.specs.declared.error.ReadError.{ReadError}
use Rattle.fcg_grammar.specs.declared.error.ReadError.TheVariants as errors
use Rattle.fcg_grammar.specs.Number.{u2_at, u4_at, part_at}
use Rattle.fcg_grammar.specs.Reading.{◌>>=◌, unless_broken, Gives}
use Rattle.fcg_grammar.specs.Rows.{rows}
use Rattle.fcg_grammar.proofs.LawLemmas.{whole, err_is, ok_or_err}
use Rattle.fcg_views.specs.declared.view.View.{View}
use Rattle.fcg_classfile.specs.declared.fault.ClassFault.{ClassFault}
use Rattle.fcg_classfile.specs.Breaks.Class.{class_of}
use Rattle.fcg_class.specs.declared.bundle.BundleFault.{BundleFault}
use Rattle.fcg_class.specs.declared.bundle.BundleFault.TheVariants.{Jar}
use Rattle.fcg_class.specs.declared.bundle.BundleRule.{BundleRule}
use Rattle.fcg_class.specs.declared.bundle.BundleRule.TheVariants.{Magic, Version, Cut, Path, Trailing, ManySites}
use Rattle.fcg_class.specs.Path.{is_path_length, is_path, is_class_path}
use Rattle.fcg_class.specs.Bundle.{broken, sites_in, EntriesBefore, in_entry, held, path_at, body_at, entry_at, entries_of}
use Rattle.fcg_views.specs.Valid.{is_same}

-- a fault that isn't that of a jar
abbrev IsOther : BundleFault → Type 0
IsOther f = f ≡ Jar → ⊥

-- where it is a fault, it is another
record IsNoJar {A : Type 0} (r : Result A BundleFault) : Type 0 where
  only : (f : BundleFault) → r ≡ Err f → IsOther f

ok_no_jar : {A : Type 0} (x : A) → IsNoJar (whole x)
ok_no_jar x = record { only = λ f e. absurd (ok_or_err x f e) }

err_no_jar : {A : Type 0} (g : BundleFault) → IsOther g → IsNoJar {A = A} (Err g)
err_no_jar g other = record { only = λ f e same. other (err_is g f e ∙ same) }

broken_other : (at k : ℕ) (rule : BundleRule) → IsOther (broken at k rule)
broken_other at k rule same = absurd cc

then : {A B : Type 0} (r : Result A BundleFault) (next : A → Result B BundleFault) → IsNoJar r → ((x : A) → IsNoJar (next x)) → IsNoJar (r >>= next)
then (Ok x) next is each = each x
then (Err f) next is each = record { only = λ g e. is.only g (ap (λ (h : BundleFault). Err h) (err_is f g e)) }

test : {A : Type 0} (b : Bool) (g : BundleFault) (x : A) → IsOther g → IsNoJar (cond b (Err g) (Ok x))
test true g x other = err_no_jar g other
test false g x other = ok_no_jar x

rule : {B : Type 0} (b : Bool) (at k : ℕ) (broke : BundleRule) (next : Unit {0} → Result B BundleFault) → ((u : Unit {0}) → IsNoJar (next u)) → IsNoJar (unless_broken b (broken at k broke) >>= next)
rule true at k broke next each = each tt
rule false at k broke next each = err_no_jar (broken at k broke) (broken_other at k broke)

u2_no_jar : (bytes : List ℕ) (k at : ℕ) → IsNoJar (u2_at (broken at k Cut) bytes at)
unfolding u2_at
u2_no_jar bytes k at = test _ _ _ (broken_other at k Cut)

u4_no_jar : (bytes : List ℕ) (k at : ℕ) → IsNoJar (u4_at (broken at k Cut) bytes at)
unfolding u4_at
u4_no_jar bytes k at = test _ _ _ (broken_other at k Cut)

part_no_jar : (bytes : List ℕ) (k at n : ℕ) → IsNoJar (part_at (broken at k Cut) bytes at n)
unfolding part_at
part_no_jar bytes k at n = test _ _ _ (broken_other at k Cut)

in_entry_no_jar : {A : Type 0} (k : ℕ) (r : Result A ClassFault) → IsNoJar (in_entry k r)
in_entry_no_jar k (Ok x) = ok_no_jar x
in_entry_no_jar k (Err f) = err_no_jar _ (λ same. absurd cc)

held_no_jar : (k : ℕ) (b : Bool) (body : List ℕ) → IsNoJar (held k b body)
held_no_jar k false body = ok_no_jar None
held_no_jar k true body = in_entry_no_jar k (class_of body)

path_no_jar : (bytes : List ℕ) (k at : ℕ) → IsNoJar (path_at bytes k at)
unfolding path_at
path_no_jar bytes k at =
    then (u2_at (broken at k Cut) bytes at) _ (u2_no_jar bytes k at) (λ n.
    rule (is_path_length n) at k Path _ (λ u.
    then (part_at (broken (at + 2) k Cut) bytes (at + 2) n) _ (part_no_jar bytes k (at + 2) n) (λ path.
    rule (is_path path) (at + 2) k Path _ (λ v. ok_no_jar _))))

body_no_jar : (bytes : List ℕ) (k : ℕ) (path : List ℕ) (at : ℕ) → IsNoJar (body_at bytes k path at)
unfolding body_at
body_no_jar bytes k path at =
    then (u4_at (broken at k Cut) bytes at) _ (u4_no_jar bytes k at) (λ n.
    then (part_at (broken (at + 4) k Cut) bytes (at + 4) n) _ (part_no_jar bytes k (at + 4) n) (λ body.
    then (held k (is_class_path path) body) _ (held_no_jar k (is_class_path path) body) (λ view. ok_no_jar _)))

entry_no_jar : (bytes : List ℕ) (k : ℕ) (s : EntriesBefore) → IsNoJar (entry_at bytes k s)
unfolding entry_at
entry_no_jar bytes k s =
    then (path_at bytes k s.at) _ (path_no_jar bytes k s.at) (λ path.
    rule (not (list_any (λ p. is_same p path.0) s.paths)) (s.at + 2) k Path _ (λ u.
    then (body_at bytes k path.0 path.1) _ (body_no_jar bytes k path.0 path.1) (λ body.
    rule (leb (sites_in body.0) s.room) (path.1 + 4) k ManySites _ (λ v. ok_no_jar _))))

rows_no_jar : {X S : Type 0} (read : ℕ → S → Result (X × S) BundleFault) → ((k : ℕ) (s : S) → IsNoJar (read k s)) → (n k : ℕ) (s : S) → IsNoJar (rows read n k s)
rows_no_jar read each zero k s = ok_no_jar _
rows_no_jar read each (suc n) k s = then (read k s) _ (each k s) (λ first. then (rows read n (k + 1) first.1) _ (rows_no_jar read each n (k + 1) first.1) (λ others. ok_no_jar _))

entries_no_jar : (bytes : List ℕ) → IsNoJar (entries_of bytes)
unfolding entries_of
entries_no_jar bytes =
    let first : EntriesBefore = record { at = 10; paths = []; room = 4000000 } in
    then (u4_at (broken 0 0 Cut) bytes 0) _ (u4_no_jar bytes 0 0) (λ magic.
    rule (eqb magic 0x46434742) 0 0 Magic _ (λ u.
    then (u2_at (broken 4 0 Cut) bytes 4) _ (u2_no_jar bytes 0 4) (λ version.
    rule (eqb version 1) 4 0 Version _ (λ v.
    then (u4_at (broken 6 0 Cut) bytes 6) _ (u4_no_jar bytes 0 6) (λ count.
    then (rows (entry_at bytes) count 0 first) _ (rows_no_jar (entry_at bytes) (entry_no_jar bytes) count 0 first) (λ read.
    rule (eqb (length bytes) read.1.at) read.1.at count Trailing _ (λ w. ok_no_jar _)))))))

abbrev jar : ReadError BundleFault
jar = errors.Fault Jar

-- what the reader answers, where it gives what the entries give, is not the fault of a jar
pub no_jar : (bytes : List ℕ) (r : Result (List View) (ReadError BundleFault)) → Gives (λ (v : List View). v) r (entries_of bytes) → r ≡ Err jar → ⊥
no_jar bytes (Ok views) given e = cc
no_jar bytes (Err errors.NoMemory) given e = cc
no_jar bytes (Err (errors.Fault f)) given e = let same : f ≡ Jar = cc in (entries_no_jar bytes).only f given same
