use Rattle.std.proofs.Common.{rules, ◌≡◌, ℕ, ◌+◌, ◌∷◌, [], List, length, drop, map, sym, ap, ◌∙◌, arith}
use Rattle.std.specs.Prelude.{string_bytes}
use Rattle.std.proofs.lemmas.List.{length-append}
use Rattle.fcg_views.specs.declared.coordinate.CoordinateFault.{CoordinateFault}
use Rattle.fcg_commands.specs.Words.{coordinates_from}
use Rattle.fcg_commands.proofs.WordLaws.{after, broken, texts_go_on, texts_stop}
use Rattle.fcg_commands.proofs.words.read_coordinates.Goals as goal

pub returns-in-Err-Fault : goal.returns-in-Err-Fault
returns-in-Err-Fault c =
    let exact = rw c.in-Err-Fault.field-0-is at c.in-Err-Fault.ensures.exact in
    let read = rw c.as_bytes.ensures.value at exact in
    let count : c.len-index.result ≡ length c.loop-text.list.items = search rules in
    let index : c.loop-text.text-index ≡ c.len-index.result = sym (count ∙ c.loop-text.invariant.0) in
    c.loop-text.invariant.1
    ∙ texts_stop (λ s. string_bytes s) c.args.texts.now c.loop-text.text-index c.text-item.result c.loop-text-test.true c.text-item.is c.in-Err-Fault.fault c.loop-text.list.items read
    ∙ ap (λ (n : ℕ). broken n c.in-Err-Fault.fault) index
    ∙ ap (λ (f : CoordinateFault). broken c.len-index.result f) (sym c.in-Err-Fault.fault-is)

pub loop-text-preserved : goal.loop-text-preserved
loop-text-preserved c =
    let i = c.loop-text.text-index in
    let texts = map (λ s. string_bytes s) c.args.texts.now in
    let read = rw c.as_bytes.ensures.value at c.in-Ok.ensures.exact in
    let more = ap length c.in_ok-push-in-Ok.ensures.items in
    let long = length-append c.loop-text.list.items (c.in-Ok.coordinate ∷ []) in
    let count = c.loop-text.invariant.0 in (
      omega (arith, more, long, count),
      c.loop-text.invariant.1
          ∙ texts_go_on (λ s. string_bytes s) c.args.texts.now i c.text-item.result c.loop-text-test.true c.text-item.is c.in-Ok.coordinate c.loop-text.list.items read
          ∙ ap (λ (cs : List (List ℕ)). after cs (coordinates_from (i + 1) (drop (i + 1) texts))) (sym c.in_ok-push-in-Ok.ensures.items),
    )
