-- The step is the definition's, over the table.
use mathlib.Core.Path.{refl}
use Rattle.checksum.specs.Register.{shift, shifts, remainders, byte_step}
use Rattle.checksum.proofs.byte_step.Goals as goal

pub returns : goal.returns
unfolding byte_step remainders shifts shift
returns c = refl
