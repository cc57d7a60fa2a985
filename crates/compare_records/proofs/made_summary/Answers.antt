-- `compare_records::made_summary` meets its contract: each number from its place.
use Rattle.compare_records.specs.Records.{made_summary}
use Rattle.compare_records.proofs.made_summary.Goals as goal

pub returns : goal.returns
unfolding made_summary
returns c = simp (c.word_at-5.ensures, c.word_at-4.ensures, c.word_at-3.ensures, c.word_at-2.ensures, c.ftp_by.ensures, c.word_at.ensures, c.pair_at-5.ensures, c.pair_at-4.ensures, c.pair_at-3.ensures, c.pair_at-2.ensures, c.pair_at.ensures)
