-- `twenty_ftp`: a mean of 16-bit watts has 16 bits; of no time there is none.
use Rattle.measure.proofs.Laws.{mean-small, no-mean}
use Rattle.measure.specs.Measure.{twenty_ftp}
use borrow.Author.Tests.{lt-ltb, le-ltb}
use native.Mathlib.Omega.{arith}
use Rattle.measure.proofs.twenty_ftp.Goals as goal

pub returns-then-ms-end_ms : goal.returns-then-ms-end_ms
unfolding twenty_ftp
returns-then-ms-end_ms c = simp (lt-ltb _ _ c.if-ms-end_ms.true)

pub returns-then-ms-eq0 : goal.returns-then-ms-eq0
unfolding twenty_ftp
returns-then-ms-eq0 c = simp (le-ltb _ _ c.if-ms-end_ms.false, no-mean c.args.measured.test_mj c.args.measured.test_ms c.if-ms-eq0.true)

pub overflow_mul-average : goal.overflow_mul-average
overflow_mul-average c = omega (arith, mean-small c.args.measured.test_mj c.args.measured.test_ms (omega arith) (omega arith))

pub overflow_add-average-2 : goal.overflow_add-average-2
overflow_add-average-2 c = omega (arith, mean-small c.args.measured.test_mj c.args.measured.test_ms (omega arith) (omega arith))

pub returns : goal.returns
unfolding twenty_ftp
returns c = simp (le-ltb _ _ c.if-ms-end_ms.false, c.kept_ftp.ensures)
