-- `compare_reports::shown_word` gives what is left, the test's number and the steps' places, and past them 0.
use Rattle.common.proofs.Matches.{past, at_least}
use Rattle.compare_reports.specs.Words.{shown_word, shown_facts}
use Rattle.compare_reports.proofs.shown_word.Goals as goal

pub returns-in-0 : goal.returns-in-0
unfolding shown_word
returns-in-0 c = rw c.in-0.is c.left_kind.ensures

pub returns-in-1 : goal.returns-in-1
unfolding shown_word
returns-in-1 c = rw c.in-1.is c.left_value.ensures

pub returns-in-2 : goal.returns-in-2
unfolding shown_word
returns-in-2 c = rw c.in-2.is

pub returns-in-3 : goal.returns-in-3
unfolding shown_word
returns-in-3 c = rw c.in-3.is c.readout_kind.ensures

pub returns-in-4 : goal.returns-in-4
unfolding shown_word
returns-in-4 c = rw c.in-4.is c.readout_value.ensures

pub returns-in-5 : goal.returns-in-5
unfolding shown_word
returns-in-5 c = rw c.in-5.is c.played_word.ensures

pub returns-in-6 : goal.returns-in-6
unfolding shown_word
returns-in-6 c = rw c.in-6.is c.played_word-in-6.ensures

pub returns-in_default : goal.returns-in_default
unfolding shown_word
returns-in_default c = let a = c.args in past (shown_facts a.shown) a.place 0 (at_least 7 _ c.in_default.in_default-own.rest)
