-- `target_fits`: each target's numbers have their types' ranges.
use Rattle.codec.specs.Typed.{TargetFits}
use native.Mathlib.Omega.{arith}
use mathlib.Core.Path.{subst, sym}
use Rattle.codec.proofs.target_fits.Goals as goal

pub returns-in-Free : goal.returns-in-Free
returns-in-Free c = subst TargetFits (sym c.in-Free.is) tt

pub returns-in-Ftp : goal.returns-in-Ftp
returns-in-Ftp c = subst TargetFits (sym c.in-Ftp.is) (omega arith, omega arith)

pub returns-in-Watts : goal.returns-in-Watts
returns-in-Watts c = subst TargetFits (sym c.in-Watts.is) (omega arith, omega arith)

pub returns-in-HeartZone : goal.returns-in-HeartZone
returns-in-HeartZone c = subst TargetFits (sym c.in-HeartZone.is) (omega arith)

pub returns-in-Lthr : goal.returns-in-Lthr
returns-in-Lthr c = subst TargetFits (sym c.in-Lthr.is) (omega arith, omega arith)

pub returns-in-Cadence : goal.returns-in-Cadence
returns-in-Cadence c = subst TargetFits (sym c.in-Cadence.is) (omega arith, omega arith)

pub returns-in-Ramp : goal.returns-in-Ramp
returns-in-Ramp c = subst TargetFits (sym c.in-Ramp.is) (omega arith, omega arith, omega arith)

pub returns-in-FtpRamp : goal.returns-in-FtpRamp
returns-in-FtpRamp c = subst TargetFits (sym c.in-FtpRamp.is) (omega arith, omega arith, omega arith)
