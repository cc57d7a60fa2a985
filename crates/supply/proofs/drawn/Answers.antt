-- `drawn`: the sum of the list at the level; four numbers of 16 bits fit.
use Rattle.std.proofs.Common.{rules, arith, ◌≡◌, ◌≤◌, ◌^◌, ℕ, length, refl, sym, ◌∙◌}
use Rattle.std.proofs.iter.runs.Made.{chains}
use Rattle.std.proofs.lemmas.Iterator.{YieldsList-from_slice}
use Rattle.std.proofs.lemmas.Iterator.Adapters.{fits_from_length, at_most_from_yields_List}
use Rattle.std.proofs.lemmas.List.Recursion.{is_sum_by}
use Rattle.std.specs.List.{sum_by}
use Rattle.common.specs.Lists.{sum}
use Rattle.supply.specs.Supply.{at_level}
use Rattle.supply.proofs.drawn.Goals as goal

pub sum-requires-clause-fits : goal.sum-requires-clause-fits
sum-requires-clause-fits c =
    let few : length c.args.wants ≤ 4 = search rules in
    fits_from_length _ _ 4 (2 ^ 64) (at_most_from_yields_List (YieldsList-from_slice c.args.wants cc) few) c.map.ensures.closure (omega arith) (λ x r q k. search rules)

pub returns : goal.returns
unfolding sum
returns c =
    let a = c.args in
    let run : c.sum.result ≡ sum_by (λ x. x) (at_level a.level a.wants) = search (rules, chains) in
    run ∙ sym (is_sum_by sum (λ (x : ℕ). x) refl (λ _ _. refl) (at_level a.level a.wants))
