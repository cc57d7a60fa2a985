-- `Power3s::watts`: the sums over the three places are the window's.
use lib.ListN.{length}
use mathlib.Core.Path.{◌≡◌, ◌∙◌}
use Rattle.power.proofs.Laws.{average-three}
use native.Mathlib.Omega.{arith}
use borrow.Author.Rules.{rules}
use Rattle.power.proofs.Power3s.watts.Goals as goal

pub overflow_add-total : goal.overflow_add-total
overflow_add-total c = omega (arith, c.given.ensures.2, c.given-2.ensures.2)

pub overflow_add-total-2 : goal.overflow_add-total-2
overflow_add-total-2 c = omega (arith, c.given.ensures.2, c.given-2.ensures.2, c.given-3.ensures.2)

pub returns : goal.returns
returns c = let present : length c.args.self.present ≡ 3 = search (rules, c.well_formed.0.1.1.1.0) in
    let watts : length c.args.self.watts ≡ 3 = search (rules, c.well_formed.0.1.1.0) in
    c.mean.ensures ∙ average-three c.args.self _ _ present watts
    (omega (arith, c.given.ensures.0, c.given-2.ensures.0, c.given-3.ensures.0))
    (omega (arith, c.one_if.ensures.0, c.one_if-2.ensures.0, c.one_if-3.ensures.0))
