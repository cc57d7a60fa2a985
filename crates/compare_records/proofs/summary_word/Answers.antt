-- `compare_records::summary_word` gives a count, or past them a tally.
use borrow.Author.Tests.{lt-ltb, le-ltb}
use Rattle.compare_records.specs.Records.{summary_word}
use Rattle.compare_records.proofs.summary_word.Goals as goal

pub returns-then-place-lt6 : goal.returns-then-place-lt6
unfolding summary_word
returns-then-place-lt6 c = simp (lt-ltb _ _ c.if-place-lt6.true) c.count_word.ensures

pub returns-else-place-lt6 : goal.returns-else-place-lt6
unfolding summary_word
returns-else-place-lt6 c = simp (le-ltb _ _ c.if-place-lt6.false) c.tally_word.ensures
