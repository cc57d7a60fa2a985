-- `level`: the low end is borne, the high end isn't, and the gap halves.
use mathlib.Core.Path.{◌≡◌, subst}
use Prim.Native.Nat.{ℕ, ◌+◌, ◌<◌}
use native.Mathlib.Omega.{arith}
use Rattle.common.specs.Lists.{sum}
use Rattle.supply.specs.Supply.{at_level}
use Rattle.supply.proofs.Laws.{nothing-at-0, above-0, all-borne, next-over}
use Rattle.supply.proofs.level.Goals as goal

pub returns-then-most-supply : goal.returns-then-most-supply
returns-then-most-supply c = all-borne c.args.wants c.args.supply (omega arith)

pub loop-high-init : goal.loop-high-init
loop-high-init c =
    let a = c.args in
    let over : a.supply < sum (at_level a.supply a.wants) = omega arith in
    (above-0 a.wants a.supply over, omega arith, nothing-at-0 a.wants a.supply, over)

pub returns : goal.returns
returns c =
    let l = c.loop-high in
    let a = c.args in
    let next : l.high ≡ l.low + 1 = omega arith in
    next-over a.wants a.supply l.low (omega arith) l.invariant.2 (subst (λ (n : ℕ). a.supply < sum (at_level n a.wants)) next l.invariant.3)
