-- `asked_grants`: the watts of the first i grants, each of 16 bits.
use mathlib.Core.Path.{◌≡◌, ap, ap₂, ◌∙◌}
use Prim.Native.Nat.{◌+◌}
use native.Mathlib.Omega.{arith}
use Rattle.bench.specs.Grants.{asked_bikes, watts_total}
use Rattle.bench.proofs.Laws.{total-start, total-next}
use Rattle.bench.proofs.asked_grants.Goals as goal

pub loop-i-init : goal.loop-i-init
loop-i-init c = (total-start c.asked_bikes-bikes.result, omega arith)

pub loop-i-preserved : goal.loop-i-preserved
loop-i-preserved c =
    let at = c.loop-i in
    (ap₂ ◌+◌ at.invariant.0 c.asked_grant.ensures ∙ total-next at.i _, omega arith)

pub returns : goal.returns
returns c =
    let at = c.loop-i in
    let a = c.args in
    let all : at.i ≡ a.n = omega arith in
    at.invariant.0 ∙ ap₂ watts_total all (c.asked_bikes-bikes.ensures ∙ ap asked_bikes c.begun.ensures)
