-- `compare_records::start_word` gives 0, or 1 and the start.
use mathlib.Core.List.{[], ◌∷◌}
use mathlib.Core.Path.{◌∙◌}
use Prim.Native.Nat.{◌-◌}
use Rattle.common.proofs.Matches.{past, at_least}
use Rattle.compare_records.specs.Records.{half_word, start_word}
use Rattle.compare_records.proofs.start_word.Goals as goal

pub returns-in-None : goal.returns-in-None
unfolding start_word
returns-in-None c = rw c.in-None.is

pub returns-in-0 : goal.returns-in-0
unfolding start_word
returns-in-0 c = rw (c.in-Some.is, c.in-0.is)

pub returns-in_default : goal.returns-in_default
unfolding start_word
returns-in_default c = let ms = c.in-Some.ms in let place = c.args.place in rw c.in-Some.is (c.half_word.ensures ∙ past (1 ∷ []) place (half_word ms (place - 1)) (at_least 1 _ c.in_default.in_default-own.rest))
