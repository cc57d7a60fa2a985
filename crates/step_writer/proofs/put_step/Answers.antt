-- `step_writer::put_step` meets its contract: the fixed bytes, then the note behind them.
use native.Mathlib.Omega.{arith}
use Prim.Native.Nat.{◌+◌}
use mathlib.Core.Path.{refl}
use Rattle.steps.specs.Bytes.{fixed_bytes, step_bytes}
use Rattle.cursor.specs.Names.{name_bytes}
use Rattle.le.proofs.Laws.{more}
use Rattle.le.specs.Le.{bytes_of}
use Rattle.step_writer.proofs.Laws.{step-length}
use Rattle.step_writer.proofs.put_step.Goals as goal

pub put_fixed-requires : goal.put_fixed-requires
put_fixed-requires c = let p = c.requires in omega (arith, step-length c.args.step)

pub overflow_add-at : goal.overflow_add-at
overflow_add-at c = let p = c.requires in omega (arith, step-length c.args.step)

pub put_name-requires : goal.put_name-requires
put_name-requires c = let p = c.requires in
    let kept = c.put_fixed.auto.out in
    (p.0, omega (arith, step-length c.args.step))

pub returns : goal.returns
unfolding step_bytes fixed_bytes bytes_of
returns c = let a = c.args in
    let d = a.out.now in
    let p = c.requires in
    let s = a.step in
    let at-note = c.put_name.ensures in (
      omega (arith, step-length s, at-note.0),
      more d a.at (omega (arith, step-length s)) (fixed_bytes s.intensity s.length s.target) (name_bytes s.note) (a.at + 14) refl c.put_fixed.ensures at-note.1,
    )
