-- `compare::intensity_of` gives the intensity of a number: one arm a kind, and the last kind past them.
use Rattle.common.proofs.Matches.{past, at_least}
use Rattle.compare.specs.Input.{intensity_kinds, intensity_of}
use Rattle.model.specs.declared.Intensity.TheVariants.{Test}
use Rattle.compare.proofs.intensity_of.Goals as goal

pub returns-in-0 : goal.returns-in-0
unfolding intensity_of
returns-in-0 c = rw c.in-0.is

pub returns-in-1 : goal.returns-in-1
unfolding intensity_of
returns-in-1 c = rw c.in-1.is

pub returns-in-2 : goal.returns-in-2
unfolding intensity_of
returns-in-2 c = rw c.in-2.is

pub returns-in-3 : goal.returns-in-3
unfolding intensity_of
returns-in-3 c = rw c.in-3.is

pub returns-in_default : goal.returns-in_default
unfolding intensity_of
returns-in_default c = past intensity_kinds c.args.kind Test (at_least 4 _ c.in_default.in_default-own.rest)
