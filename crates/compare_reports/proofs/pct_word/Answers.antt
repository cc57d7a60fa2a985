-- `compare_reports::pct_word` gives one more than the percentage, by its case.
use Rattle.compare_reports.proofs.pct_word.Goals as goal

pub returns-in-Some : goal.returns-in-Some
returns-in-Some c = simp c.in-Some.is
