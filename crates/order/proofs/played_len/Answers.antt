-- `played_len`: the steps in use are as many as the count says, and at most 12.
use mathlib.Core.Path.{◌≡◌}
use native.Mathlib.Omega.{arith}
use lib.ListN.{length, length-take}
use Rattle.order.specs.Order.{played_len}
use borrow.Author.Rules.{rules}
use Rattle.order.proofs.played_len.Goals as goal

pub returns : goal.returns
unfolding played_len
returns c = let w = c.args.workout in
    let long : length w.steps ≡ 12 = search rules in
    omega (arith, length-take w.step_count w.steps, c.repeats_of.ensures.0)
