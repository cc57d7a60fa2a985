-- The statement is computed.
use mathlib.Core.Path.{refl}
use Rattle.checksum.specs.V42.{check_of, frame_check, bits, digits, number, remainder, add}
use Rattle.checksum.proofs.check_value.Goals as goal

pub returns : goal.returns
unfolding check_of frame_check bits digits number remainder add
returns c = refl
