-- `put_field`: a word and a number, one written behind the other.
use Rattle.line.proofs.Laws.{wrote_then}
use lib.ListN.{length}
use native.Mathlib.Omega.{arith}
use Prim.Native.Nat.{◌≤◌}
use Rattle.line.proofs.put_field.Goals as goal

pub returns : goal.returns
returns c = let a = c.args in
    let h : a.at ≤ length a.out.now = omega arith in
    record { wrote = wrote_then h c.put_word-next.ensures c.put_number.ensures.wrote; upper_bound = omega (arith, c.put_word-next.ensures.place, c.put_number.ensures.upper_bound) }
