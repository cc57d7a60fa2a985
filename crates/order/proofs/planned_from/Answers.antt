-- `planned_from`: at most 96 positions, of which each adds at most 65535 seconds.
use Rattle.std.proofs.Common.{rules}
use Rattle.std.proofs.lemmas.Iterator.{YieldsList-from_range, YieldsList-from_map}
use Rattle.std.proofs.lemmas.Iterator.Consumers.{sum_from_yields_List}
use Rattle.std.proofs.lemmas.Iterator.Adapters.{fits_from_length, at_most_from_yields_List}
use Rattle.std.specs.List.{range_with_len}
use mathlib.Core.List.{map}
use mathlib.Core.Path.{◌∙◌, refl}
use Prim.Native.Nat.{ℕ, ◌-◌, ◌^◌}
use native.Mathlib.Omega.{arith}
use Rattle.blocks.proofs.Laws.{sum-list}
use Rattle.order.specs.Order.{played_of, played_seconds}
use Rattle.order.proofs.Laws.{length-from}
use Rattle.order.proofs.Planned.{planned-list}
use Rattle.order.proofs.planned_from.Goals as goal

pub sum-requires-clause-fits : goal.sum-requires-clause-fits
sum-requires-clause-fits c =
    let at = c.args.position in
    fits_from_length _ _ 96 (2 ^ 32)
    (at_most_from_yields_List (YieldsList-from_range at 96 (96 - at) (cc) refl) (omega (arith, length-from at (96 - at))))
    c.map.ensures.closure (omega arith) (λ x r q k. search rules)

pub returns : goal.returns
returns c =
    let w = c.args.workout in
    let at = c.args.position in
    let each : ℕ → ℕ = λ k. played_seconds (played_of w k) in
    let total = sum_from_yields_List _ c.sum.result c.sum.ensures.ran (YieldsList-from_map _ each (YieldsList-from_range at 96 (96 - at) (cc) refl) c.map.ensures.closure (λ x r q k. search rules)) in
    let p = c.sum.ensures.runs tt in
    let few = fits_from_length _ _ 96 6291361
    (at_most_from_yields_List (YieldsList-from_range at 96 (96 - at) (cc) refl) (omega (arith, length-from at (96 - at))))
    c.map.ensures.closure (omega arith) (λ x r q k. search rules) p.0 p.0.seen p.1 in
    (total ∙ sum-list (map each (range_with_len at (96 - at))) ∙ planned-list w (96 - at) at refl, omega (arith, few, p.3))
