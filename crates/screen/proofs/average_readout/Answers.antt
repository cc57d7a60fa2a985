-- `average_readout`: the mean power of a `Twenty` test so far.
use Prim.Native.Nat.{◌<◌}
use native.Mathlib.Omega.{arith}
use borrow.Author.Tests.{le-leb, lt-leb}
use Rattle.measure.proofs.Laws.{mean-small}
use Rattle.screen.proofs.average_readout.Goals as goal

pub returns-then-ms-eq0 : goal.returns-then-ms-eq0
returns-then-ms-eq0 c = let m = c.args.measured in simp (le-leb m.test_ms 0 (omega (arith, c.if-ms-eq0.true)))

pub overflow_cast-result : goal.overflow_cast-result
overflow_cast-result c = let m = c.args.measured in let p : 0 < m.test_ms = omega (arith, c.if-ms-eq0.false) in record { fits = omega (arith, mean-small m.test_mj m.test_ms p c.requires.0) }

pub returns : goal.returns
returns c = let m = c.args.measured in let p : 0 < m.test_ms = omega (arith, c.if-ms-eq0.false) in simp (lt-leb m.test_ms 0 p)
