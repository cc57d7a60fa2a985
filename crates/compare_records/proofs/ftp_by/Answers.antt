-- `compare_records::ftp_by` gives none for 0, else the watts.
use borrow.Author.Tests.{eq-eqb, ne_eqb}
use Rattle.compare_records.specs.Records.{ftp_by}
use Rattle.compare_records.proofs.ftp_by.Goals as goal

pub returns-then-word-eq0 : goal.returns-then-word-eq0
unfolding ftp_by
returns-then-word-eq0 c = simp (eq-eqb _ _ c.if-word-eq0.true)

pub returns : goal.returns
unfolding ftp_by
returns c = simp (ne_eqb _ _ c.if-word-eq0.false)
