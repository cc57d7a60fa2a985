-- `twenty_result`: only a timed step has seconds.
use Rattle.measure.proofs.twenty_result.Goals as goal

pub returns-in-Time : goal.returns-in-Time
returns-in-Time c = simp (c.in-Time.is, c.twenty_ftp.ensures, c.duration_ms.ensures)
