-- `compare_files::rest_word` gives a block, or past the blocks a word of the order.
use borrow.Author.Tests.{lt-ltb, le-ltb}
use Rattle.compare_files.specs.Files.{rest_word}
use Rattle.compare_files.proofs.rest_word.Goals as goal

pub returns-then-place-n : goal.returns-then-place-n
unfolding rest_word
returns-then-place-n c = simp (← c.least-n.ensures, lt-ltb _ _ c.if-place-n.true) c.block_word.ensures

pub returns-else-place-n : goal.returns-else-place-n
unfolding rest_word
returns-else-place-n c = simp (← c.least-n.ensures, le-ltb _ _ c.if-place-n.false) c.order_word.ensures
