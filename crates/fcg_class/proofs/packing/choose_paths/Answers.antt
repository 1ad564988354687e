use Rattle.std.proofs.Common.{rules, ap, ◌∙◌, List}
use Rattle.std.specs.Prelude.{String, string_bytes}
use Rattle.std.specs.List.{filter}
use Rattle.std.proofs.lemmas.List.Elements.{filter_from_retain}
use Rattle.fcg_bytes.specs.Files.{texts}
use Rattle.fcg_grammar.specs.Table.{table}
use Rattle.fcg_class.specs.Pack.{is_packed}
use Rattle.fcg_class.proofs.PackLemmas.{made_table, texts_filter}
use Rattle.fcg_class.proofs.packing.choose_paths.Goals as goal

pub returns : goal.returns
returns c =
    made_table c.retain.new.self.items c.sort_unstable.new.self.items c.dedup.new.self.items c.sort_unstable.ensures.permutation c.sort_unstable.ensures.sorted c.dedup.ensures.filtered
    ∙ ap table (
    ap (λ (l : List (String _)). texts l) (filter_from_retain _ (λ s. is_packed (string_bytes s)) (λ p x b q says. search rules) _ c.into_vec-paths.result.items c.retain.new.self.items c.retain.ensures.filtered)
    ∙ texts_filter is_packed c.into_vec-paths.result.items
    ∙ ap (λ (l : List (String _)). filter is_packed (texts l)) c.into_vec-paths.ensures)
