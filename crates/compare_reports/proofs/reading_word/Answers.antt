-- `compare_reports::reading_word` gives one more than the reading, by its case.
use Rattle.compare_reports.proofs.reading_word.Goals as goal

pub returns-in-Some : goal.returns-in-Some
returns-in-Some c = simp c.in-Some.is
