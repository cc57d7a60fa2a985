-- `compare_records::ftp_word` gives 0, or 1 and the watts.
use mathlib.Core.List.{[], ◌∷◌}
use Rattle.common.proofs.Matches.{past, at_least}
use Rattle.compare_records.specs.Records.{ftp_word}
use Rattle.compare_records.proofs.ftp_word.Goals as goal

pub returns-in-None : goal.returns-in-None
unfolding ftp_word
returns-in-None c = rw c.in-None.is

pub returns-in-0 : goal.returns-in-0
unfolding ftp_word
returns-in-0 c = rw (c.in-Some.is, c.in-0.is)

pub returns-in_default : goal.returns-in_default
unfolding ftp_word
returns-in_default c = let watts = c.in-Some.watts in let place = c.args.place in rw c.in-Some.is (past (1 ∷ []) place watts (at_least 1 _ c.in_default.in_default-own.rest))
