-- `put_summary`: counts, times and end, one behind the other.
use Rattle.line.proofs.Laws.{wrote_then}
use Rattle.line.specs.Line.{summary_text}
use lib.ListN.{length}
use native.Mathlib.Omega.{arith}
use Prim.Native.Nat.{◌≤◌}
use borrow.Author.Rules.{rules}
use Rattle.line.proofs.put_summary.Goals as goal

pub returns : goal.returns
unfolding summary_text
returns c = let a = c.args in
    let h : 0 ≤ length a.out.now = omega arith in
    record { wrote = wrote_then h (wrote_then h c.put_counts-counts.ensures.wrote c.put_times-times.ensures.wrote) c.put_end.ensures.wrote; upper_bound = search rules }
