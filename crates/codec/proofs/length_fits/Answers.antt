-- `length_fits`: each length's number has its type's range.
use Rattle.codec.specs.Typed.{LengthFits}
use native.Mathlib.Omega.{arith}
use mathlib.Core.Path.{subst, sym}
use Rattle.codec.proofs.length_fits.Goals as goal

pub returns-in-Time : goal.returns-in-Time
returns-in-Time c = subst LengthFits (sym c.in-Time.is) (omega arith)

pub returns-in-Distance : goal.returns-in-Distance
returns-in-Distance c = subst LengthFits (sym c.in-Distance.is) (omega arith)

pub returns-in-Open : goal.returns-in-Open
returns-in-Open c = subst LengthFits (sym c.in-Open.is) tt
