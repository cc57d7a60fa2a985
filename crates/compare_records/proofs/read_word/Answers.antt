-- `compare_records::read_word` gives a word of the head, of the summary or of the name.
use borrow.Author.Tests.{lt-ltb, le-ltb}
use Rattle.compare_records.specs.Records.{read_word}
use Rattle.compare_records.proofs.read_word.Goals as goal

pub returns-then-place-lt7 : goal.returns-then-place-lt7
unfolding read_word
returns-then-place-lt7 c = simp (lt-ltb _ _ c.if-place-lt7.true) c.head_word.ensures

pub returns-then-place-lt23 : goal.returns-then-place-lt23
unfolding read_word
returns-then-place-lt23 c = simp (le-ltb _ _ c.if-place-lt7.false, lt-ltb _ _ c.if-place-lt23.true) c.summary_word.ensures

pub returns : goal.returns
unfolding read_word
returns c = simp (le-ltb _ _ c.if-place-lt7.false, le-ltb _ _ c.if-place-lt23.false) c.text_word.ensures
