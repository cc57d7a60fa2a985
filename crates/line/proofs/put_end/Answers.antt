-- `put_end`: two words, each with what it tells behind it.
use Rattle.line.proofs.Laws.{wrote_then}
use lib.ListN.{length}
use native.Mathlib.Omega.{arith}
use Prim.Native.Nat.{◌≤◌}
use borrow.Author.Rules.{rules}
use Rattle.line.proofs.put_end.Goals as goal

pub returns : goal.returns
returns c = let a = c.args in
    let h : a.at ≤ length a.out.now = omega arith in
    record { wrote = wrote_then h (wrote_then h (wrote_then h c.put_word-finished.ensures c.put_yes_or_no-answered.ensures.wrote) c.put_word-measured.ensures) c.put_watts.ensures.wrote; upper_bound = search rules }
