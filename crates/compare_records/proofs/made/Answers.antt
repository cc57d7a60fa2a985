-- `compare_records::made` meets its contract: each field from its place.
use Rattle.compare_records.specs.Records.{made_of}
use Rattle.compare_records.proofs.made.Goals as goal

pub returns : goal.returns
unfolding made_of
returns c = simp (c.made_summary.ensures, c.test_by.ensures, c.word_at-4.ensures, c.from_bytes.ensures, c.then_some.ensures, c.pair_at.ensures, c.word_at-3.ensures, c.word_at-2.ensures, c.word_at.ensures, c.least-from.ensures)
