-- `measured_ok`: the time is asked first, so that the product fits.
use borrow.Author.Tests.{le-leb, lt-leb}
use Rattle.standing.proofs.measured_ok.Goals as goal

pub returns-then-total_ms-test_ms : goal.returns-then-total_ms-test_ms
returns-then-total_ms-test_ms c = simp (lt-leb _ _ c.if-total_ms-test_ms.true)

pub returns : goal.returns
returns c = simp (le-leb _ _ c.if-total_ms-test_ms.false)
