use Rattle.std.proofs.Common.{◌<◌, List, length, ap, sym, subst, ◌∙◌, arith}
use Rattle.fcg_make.specs.declared.entry.Entry.{Entry}
use Rattle.fcg_make.specs.Entries.{index_of}
use Rattle.fcg_make.proofs.TableLemmas.{place_below, index_none, index_some}
use Rattle.fcg_make.proofs.table.EntryTable.index.Goals as goal

pub overflow_cast-result : goal.overflow_cast-result
overflow_cast-result c = let lt : c.in-Some.place.now < length c.args.self.now = subst (λ (pool : List Entry). c.in-Some.place.now < length pool) c.self.view_is (place_below c.self.inside.entries.items c.args.entry.now c.in-Some.place.now (sym (c.in-Some.ensures.value ∙ c.self.invariant c.args.entry.now))) in omega (arith, lt)

pub overflow_add-result : goal.overflow_add-result
overflow_add-result c = let lt : c.in-Some.place.now < length c.args.self.now = subst (λ (pool : List Entry). c.in-Some.place.now < length pool) c.self.view_is (place_below c.self.inside.entries.items c.args.entry.now c.in-Some.place.now (sym (c.in-Some.ensures.value ∙ c.self.invariant c.args.entry.now))) in omega (arith, lt)

pub returns-in_default : goal.returns-in_default
returns-in_default c = index_none c.self.inside.entries.items c.args.entry.now (sym (c.in_default.ensures.value ∙ c.self.invariant c.args.entry.now)) ∙ ap (λ (pool : List Entry). index_of pool c.args.entry.now) c.self.view_is

pub returns : goal.returns
returns c = index_some c.self.inside.entries.items c.args.entry.now c.in-Some.place.now (sym (c.in-Some.ensures.value ∙ c.self.invariant c.args.entry.now)) ∙ ap (λ (pool : List Entry). index_of pool c.args.entry.now) c.self.view_is
