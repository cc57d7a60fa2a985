-- `put_counts`: three fields, one behind the other.
use Rattle.line.proofs.Laws.{wrote_then}
use lib.ListN.{length}
use native.Mathlib.Omega.{arith}
use Prim.Native.Nat.{◌≤◌}
use borrow.Author.Rules.{rules}
use Rattle.line.proofs.put_counts.Goals as goal

pub returns : goal.returns
returns c = let a = c.args in
    let h : 0 ≤ length a.out.now = omega arith in
    record { wrote = wrote_then h (wrote_then h c.put_field-done.ensures.wrote c.put_field-steps.ensures.wrote) c.put_field.ensures.wrote; upper_bound = search rules }
