-- `compare_cut::join` joins event by event. The invariant: what was joined and what is left come to the whole check word.
use mathlib.Core.Path.{◌∙◌, sym, ap}
use Prim.Native.Nat.{◌+◌, ℕ, ◌-◌, ◌%◌, min}
use native.Mathlib.Omega.{arith}
use Rattle.compare_cut.proofs.Laws.{joined-start, joined-next, joined_end}
use Rattle.compare_cut.specs.Cuts.{joined_from}
use Rattle.compare_cut.proofs.join.Goals as goal

pub loop-i-init : goal.loop-i-init
loop-i-init c = (omega arith, joined-start _ _ _ _)

pub loop-i-preserved : goal.loop-i-preserved
loop-i-preserved c = let a = c.args in
    let at = c.loop-i in
    let n = c.least-n.result in (
      c.join_one-joined.ensures.1,
      ap (joined_from a.kinds.now a.values.now (at.i + 1) (n - (at.i + 1))) c.join_one-joined.ensures.0
          ∙ joined-next a.kinds.now a.values.now n at.i at.joined (omega arith)
          ∙ at.invariant.1,
    )

pub returns : goal.returns
returns c = let a = c.args in
    let at = c.loop-i in
    let all = c.least-n.ensures ∙ ap (min a.events) c.least.ensures in
    sym (joined_end a.kinds.now a.values.now c.least-n.result at.i at.joined (omega arith))
    ∙ at.invariant.1
    ∙ ap (λ (n : ℕ). joined_from a.kinds.now a.values.now 0 n (a.check % 1000000007)) all
