-- `compare_records::half_word` gives the lower bits, then the upper ones.
use mathlib.Core.List.{[], ◌∷◌}
use Prim.Native.Nat.{◌/◌, ◌%◌}
use Rattle.common.proofs.Matches.{past, at_least}
use Rattle.compare_records.specs.Records.{half_word}
use Rattle.compare_records.proofs.half_word.Goals as goal

pub returns-in-0 : goal.returns-in-0
unfolding half_word
returns-in-0 c = rw c.in-0.is

pub returns-in_default : goal.returns-in_default
unfolding half_word
returns-in_default c = let a = c.args in past (a.number % 4294967296 ∷ []) a.place (a.number / 4294967296) (at_least 1 _ c.in_default.in_default-own.rest)
