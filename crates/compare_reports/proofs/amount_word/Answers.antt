-- `compare_reports::amount_word` gives unread, a number of what remains, of the distance or of the part, and past them a word of the band.
use mathlib.Core.Path.{◌∙◌}
use Prim.Native.Nat.{◌-◌}
use native.Mathlib.Omega.{arith}
use Rattle.common.proofs.Matches.{past, at_least}
use Rattle.compare.specs.Answers.{band_word}
use Rattle.compare_reports.specs.Words.{amount_word, amount_facts}
use Rattle.compare_reports.proofs.amount_word.Goals as goal

pub overflow_sub-place : goal.overflow_sub-place
overflow_sub-place c = omega (arith, at_least 9 _ c.in_default.in_default-own.rest)

pub returns-in-0 : goal.returns-in-0
unfolding amount_word
returns-in-0 c = rw c.in-0.is c.low32.ensures

pub returns-in-1 : goal.returns-in-1
unfolding amount_word
returns-in-1 c = rw c.in-1.is c.refused_number.ensures

pub returns-in-2 : goal.returns-in-2
unfolding amount_word
returns-in-2 c = rw c.in-2.is c.has_secs.ensures

pub returns-in-3 : goal.returns-in-3
unfolding amount_word
returns-in-3 c = rw c.in-3.is c.secs_value.ensures

pub returns-in-4 : goal.returns-in-4
unfolding amount_word
returns-in-4 c = rw c.in-4.is c.refused_number-in-4.ensures

pub returns-in-5 : goal.returns-in-5
unfolding amount_word
returns-in-5 c = rw c.in-5.is c.bit.ensures

pub returns-in-6 : goal.returns-in-6
unfolding amount_word
returns-in-6 c = rw c.in-6.is c.refused_number-in-6.ensures

pub returns-in-7 : goal.returns-in-7
unfolding amount_word
returns-in-7 c = rw c.in-7.is c.low32-in-7.ensures

pub returns-in-8 : goal.returns-in-8
unfolding amount_word
returns-in-8 c = rw c.in-8.is c.low32-in-8.ensures

pub returns-in_default : goal.returns-in_default
unfolding amount_word
returns-in_default c = let a = c.args in c.band_word.ensures ∙ past (amount_facts a.reported) a.place (band_word a.reported.now.now.band (a.place - 9)) (at_least 9 _ c.in_default.in_default-own.rest)
