-- `twenty`: energy stays a sum of 16-bit readings.
use Rattle.measure.proofs.Laws.{energy-more}
use Rattle.common.proofs.Numbers.{product}
use native.Mathlib.Omega.{arith}
use mathlib.Core.Path.{refl}
use Rattle.measure.proofs.twenty.Goals as goal

pub overflow_mul-q : goal.overflow_mul-q
overflow_mul-q c = omega (arith, product c.args.watts c.args.ms 65535 604800000 (omega arith) (omega arith))

pub overflow_add-q : goal.overflow_add-q
overflow_add-q c = omega (arith, product c.args.watts c.args.ms 65535 604800000 (omega arith) (omega arith))

pub returns : goal.returns
returns c = (refl, energy-more c.args.measured.test_mj c.args.watts c.args.measured.test_ms c.args.ms (omega arith) (omega arith))
