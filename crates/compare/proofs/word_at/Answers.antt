-- `compare::word_at` gives the word at a place: the input has its four bytes, or it ends before them.
use borrow.Author.Tests.{le-leb, lt-leb}
use Rattle.compare.specs.Input.{word_at}
use Rattle.compare.proofs.word_at.Goals as goal

pub returns-then-at-input : goal.returns-then-at-input
unfolding word_at
returns-then-at-input c = simp (le-leb _ _ c.if-at-input.true) c.get_u32.ensures

pub returns-else-at-input : goal.returns-else-at-input
unfolding word_at
returns-else-at-input c = simp (lt-leb _ _ c.if-at-input.false)
