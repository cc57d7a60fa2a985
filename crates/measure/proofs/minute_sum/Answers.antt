-- `minute_sum`: the sum of the list; sixty numbers of 16 bits fit.
use Rattle.std.proofs.Common.{rules}
use Rattle.std.specs.List.{sum as list_sum}
use Rattle.std.proofs.lemmas.List.{map-id}
use Rattle.std.proofs.lemmas.Iterator.{YieldsList-from_slice, YieldsList-from_map}
use Rattle.std.proofs.lemmas.Iterator.Consumers.{sum_from_yields_List}
use Rattle.std.proofs.lemmas.Iterator.Adapters.{fits_from_length, at_most_from_yields_List}
use mathlib.Core.Path.{◌∙◌, ap}
use Prim.Native.Nat.{◌^◌, ◌≤◌}
use native.Mathlib.Omega.{arith}
use lib.ListN.{length}
use Rattle.blocks.proofs.Laws.{sum-list}
use Rattle.measure.proofs.minute_sum.Goals as goal

pub sum-requires-clause-fits : goal.sum-requires-clause-fits
sum-requires-clause-fits c =
    let few : length c.args.minute.now ≤ 60 = omega arith in
    fits_from_length _ _ 60 (2 ^ 32)
    (at_most_from_yields_List (YieldsList-from_slice c.args.minute.now cc) few) c.map.ensures.closure (omega arith) (λ x r q k. search rules)

pub returns : goal.returns
returns c =
    let s = c.args.minute.now in
    let few : length s ≤ 60 = omega arith in
    let total = sum_from_yields_List _ c.sum.result c.sum.ensures.ran (YieldsList-from_map _ (λ x. x) (YieldsList-from_slice s cc) c.map.ensures.closure (λ x r q k. search rules)) in
    let p = c.sum.ensures.runs tt in
    let fits = fits_from_length _ _ 60 3932101
    (at_most_from_yields_List (YieldsList-from_slice s cc) few) c.map.ensures.closure (omega arith) (λ x r q k. search rules) p.0 p.0.seen p.1 in
    (total ∙ ap list_sum (map-id s) ∙ sum-list s, omega (arith, fits, p.3))
