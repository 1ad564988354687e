-- A bundle's views have few sites.
use Rattle.std.proofs.Common.{ℕ, ◌<◌, ◌≤◌, ◌^◌, Bool, true, false, List, [], ◌∷◌, arith, ap}
use Rattle.std.specs.Prelude.{Option, Some, None, if◌then◌else◌}
use Rattle.std.specs.List.{sum_by}
use Rattle.std.proofs.lemmas.List.Sums.{sum_by-append, sum_by-cons}
use Rattle.fcg_views.specs.declared.view.View.{View}
use Rattle.fcg_views.specs.Valid.{site_count, sites_of_all}
use Rattle.fcg_class.specs.Bundle.{Content, Entry, shown, sites_in, some_of, views_of}
use Rattle.fcg_class.specs.Path.{is_versioned}

one_view : (versioned : Bool) (r : Option View) → sites_of_all (some_of (if versioned then None else r)) ≤ sites_in r
one_view true r = omega arith
one_view false None = omega arith
one_view false (Some v) = omega arith

shown_have_few : (es : List Entry) (rs : List (Option View)) → sites_of_all (views_of es rs) ≤ sum_by sites_in rs
shown_have_few [] rs = omega arith
shown_have_few (e ∷ es) [] = omega arith
shown_have_few (e ∷ es) (r ∷ rs) =
    let here = one_view (is_versioned e.path) r in
    let rest = shown_have_few es rs in
    let both = sum_by-append (λ (v : View). site_count v.methods) (some_of (shown e.path r)) (views_of es rs) in
    let all = sum_by-cons sites_in r rs in
    omega (arith, here, rest, both, all)

pub content_has_few : (bytes : List ℕ) (views : List View) → Content bytes views → sites_of_all views < 2 ^ 64
content_has_few bytes views c = omega (arith, shown_have_few c.entries c.reads, c.few_sites, ap sites_of_all c.views_are)
