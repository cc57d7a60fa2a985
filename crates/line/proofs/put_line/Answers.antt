-- `put_line`: the outcome, then the newline; the line has room.
use Rattle.line.proofs.Laws.{wrote_then}
use Rattle.line.specs.Line.{line_of}
use lib.Seq.{length-take-le}
use lib.ListN.{length}
use native.Mathlib.Omega.{arith}
use Prim.Native.Nat.{◌≤◌}
use mathlib.Core.Path.{sym}
use Rattle.line.proofs.put_line.Goals as goal

pub returns : goal.returns
unfolding line_of
returns c = let a = c.args in
    let h : 0 ≤ length a.out.now = omega arith in
    let w = wrote_then h c.put_outcome-end.ensures.wrote c.put_word.ensures in
    let within : c.put_word.result ≤ length c.put_word.new.out = omega (arith, c.put_outcome-end.ensures.upper_bound, c.put_word.ensures.place, c.put_word.auto.out, c.put_outcome-end.auto.out) in
    record {
      prefix_len = (within, sym (length-take-le c.put_word.result c.put_word.new.out within));
      value = omega (arith, w.place);
      out_after = w.bytes;
    }
