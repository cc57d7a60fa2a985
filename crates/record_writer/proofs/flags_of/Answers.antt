-- `flags_of`: the three flags added.
use mathlib.Core.Path.{◌∙◌, ap, ap₂}
use mathlib.Core.Bool.{Bool}
use Prim.Native.Nat.{ℕ, ◌+◌}
use native.Mathlib.Omega.{arith}
use Rattle.history.specs.Record.{flag, flags_of}
use Rattle.record_writer.proofs.flags_of.Goals as goal

pub overflow_add-result : goal.overflow_add-result
overflow_add-result c = omega (arith, c.flag_of-dated.ensures.1, c.flag_of-measured.ensures.1)

pub overflow_add-result-2 : goal.overflow_add-result-2
overflow_add-result-2 c = omega (arith, c.flag_of-finished.ensures.1, c.flag_of-dated.ensures.1, c.flag_of-measured.ensures.1)

pub returns : goal.returns
unfolding flags_of
returns c =
    ap₂ (λ (x y : ℕ). x + y) c.flag_of-finished.ensures.0
    (ap₂ (λ (x y : ℕ). x + y) (c.flag_of-dated.ensures.0 ∙ ap (λ (t : Bool). flag t 2) c.is_some.ensures)
    (c.flag_of-measured.ensures.0 ∙ ap (λ (t : Bool). flag t 4) c.is_some-2.ensures))
