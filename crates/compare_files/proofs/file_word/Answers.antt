-- `compare_files::file_word` gives a word of the head, or past it one of the body.
use borrow.Author.Tests.{lt-ltb, le-ltb}
use Rattle.compare_files.specs.Files.{file_word}
use Rattle.compare_files.proofs.file_word.Goals as goal

pub returns-then-place-lt10 : goal.returns-then-place-lt10
unfolding file_word
returns-then-place-lt10 c = simp (lt-ltb _ _ c.if-place-lt10.true) c.head_word.ensures

pub returns-else-place-lt10 : goal.returns-else-place-lt10
unfolding file_word
returns-else-place-lt10 c = simp (le-ltb _ _ c.if-place-lt10.false) c.body_word.ensures
