-- `compare_player::check_of` mixes event by event. The invariant: what was mixed and what is left come to the whole check word.
use mathlib.Core.Path.{◌∙◌, sym, ap}
use Prim.Native.Nat.{◌+◌, ℕ, ◌-◌}
use native.Mathlib.Omega.{arith}
use Rattle.compare_player.proofs.Laws.{check-start, check-next, check-end}
use Rattle.compare_player.specs.Calls.{check_from}
use Rattle.compare_player.proofs.check_of.Goals as goal

pub loop-i-init : goal.loop-i-init
loop-i-init c = (omega arith, check-start _ _ _ 7)

pub loop-i-preserved : goal.loop-i-preserved
loop-i-preserved c = let a = c.args in
    let at = c.loop-i in
    let n = c.least-n.result in (
      c.mix-check.ensures.1,
      ap (check_from a.kinds.now a.values.now (at.i + 1) (n - (at.i + 1))) c.mix-check.ensures.0
          ∙ check-next a.kinds.now a.values.now n at.i at.check (omega arith)
          ∙ at.invariant.1,
    )

pub returns : goal.returns
returns c = let a = c.args in
    let at = c.loop-i in
    sym (check-end a.kinds.now a.values.now c.least-n.result at.i at.check (omega arith))
    ∙ at.invariant.1
    ∙ ap (λ (n : ℕ). check_from a.kinds.now a.values.now 0 n 7) c.least-n.ensures
