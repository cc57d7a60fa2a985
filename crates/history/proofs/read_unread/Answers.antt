-- `history::read_unread` meets its contract: the number of version 2, or 0.
use Rattle.history.specs.Decode.{unread_in}
use borrow.Author.Tests.{le-leb, lt-leb}
use lib.ListN.{get_or}
use native.Mathlib.Omega.{arith}
use Rattle.history.proofs.read_unread.Goals as goal

pub returns-then-bytes-lt-VERSION_2 : goal.returns-then-bytes-lt-VERSION_2
unfolding unread_in
returns-then-bytes-lt-VERSION_2 c = simp (lt-leb 2 (get_or c.args.bytes.now 4 0) c.if-bytes-lt-VERSION_2.true)

pub returns-then-size_of-lt-BODY_V2 : goal.returns-then-size_of-lt-BODY_V2
unfolding unread_in
returns-then-size_of-lt-BODY_V2 c = simp (le-leb 2 (get_or c.args.bytes.now 4 0) c.if-bytes-lt-VERSION_2.false, lt-leb 70 (get_or c.args.bytes.now 5 0) (omega (arith, c.if-size_of-lt-BODY_V2.true, c.size_of.ensures.0)))

pub returns : goal.returns
unfolding unread_in
returns c = simp (le-leb 2 (get_or c.args.bytes.now 4 0) c.if-bytes-lt-VERSION_2.false, le-leb 70 (get_or c.args.bytes.now 5 0) (omega (arith, c.if-size_of-lt-BODY_V2.false, c.size_of.ensures.0)), c.get_u32.ensures)
