-- `compare_reports::report` puts the reports together, each from what its call ensures.
use Rattle.compare_reports.proofs.report.Goals as goal

pub returns : goal.returns
returns c = simp (c.summary.ensures, c.remaining_secs.ensures, c.distance_step.ensures, c.until_end.ensures, c.now.ensures)
