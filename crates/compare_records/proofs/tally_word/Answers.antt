-- `compare_records::tally_word` gives the half of a tally.
use mathlib.Core.Path.{ap, ◌∙◌}
use Prim.Native.Nat.{ℕ, ◌/◌, ◌%◌}
use Rattle.common.proofs.Matches.{past, at_least}
use Rattle.compare_records.specs.Records.{half_word, tallies, tally_word}
use Rattle.compare_records.proofs.tally_word.Goals as goal

pub returns-in-0 : goal.returns-in-0
unfolding tally_word
returns-in-0 c = rw c.in-0.is c.half_word.ensures

pub returns-in-1 : goal.returns-in-1
unfolding tally_word
returns-in-1 c = rw c.in-1.is c.half_word-in-1.ensures

pub returns-in-2 : goal.returns-in-2
unfolding tally_word
returns-in-2 c = rw c.in-2.is c.half_word-in-2.ensures

pub returns-in-3 : goal.returns-in-3
unfolding tally_word
returns-in-3 c = rw c.in-3.is c.half_word-in-3.ensures

pub returns-in_default : goal.returns-in_default
unfolding tally_word
returns-in_default c = let a = c.args in c.half_word-in_default.ensures ∙ ap (λ (n : ℕ). half_word n (a.place % 2)) (past (tallies a.summary) (a.place / 2) a.summary.unread_ms (at_least 4 _ c.in_default.in_default-own.rest))
