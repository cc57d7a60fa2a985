-- `put_times`: four fields, one behind the other.
use Rattle.line.proofs.Laws.{wrote_then}
use lib.ListN.{length}
use native.Mathlib.Omega.{arith}
use Prim.Native.Nat.{◌≤◌}
use borrow.Author.Rules.{rules}
use Rattle.line.proofs.put_times.Goals as goal

pub returns : goal.returns
returns c = let a = c.args in
    let h : a.at ≤ length a.out.now = omega arith in
    record { wrote = wrote_then h (wrote_then h (wrote_then h c.put_field-targeted.ensures.wrote c.put_field-inside.ensures.wrote) c.put_field-under.ensures.wrote) c.put_field.ensures.wrote; upper_bound = search rules }
