-- `compare::compare_answer` gives a word of the answer: one arm a question, and 0 past them.
use Rattle.common.proofs.Matches.{past, at_least}
use Rattle.compare.specs.Answers.{answers, answer_word}
use Rattle.compare.proofs.compare_answer.Goals as goal

pub returns-in-0 : goal.returns-in-0
unfolding answer_word
returns-in-0 c = rw c.in-0.is c.percent_answer.ensures

pub returns-in-1 : goal.returns-in-1
unfolding answer_word
returns-in-1 c = rw c.in-1.is c.power_zone_answer.ensures

pub returns-in-2 : goal.returns-in-2
unfolding answer_word
returns-in-2 c = rw c.in-2.is c.heart_zone_answer.ensures

pub returns-in-3 : goal.returns-in-3
unfolding answer_word
returns-in-3 c = rw c.in-3.is c.power_range_answer.ensures

pub returns-in-4 : goal.returns-in-4
unfolding answer_word
returns-in-4 c = rw c.in-4.is c.heart_range_answer.ensures

pub returns-in-5 : goal.returns-in-5
unfolding answer_word
returns-in-5 c = rw c.in-5.is c.band_answer.ensures

pub returns-in-6 : goal.returns-in-6
unfolding answer_word
returns-in-6 c = rw c.in-6.is c.ramp_answer.ensures

pub returns-in-7 : goal.returns-in-7
unfolding answer_word
returns-in-7 c = rw c.in-7.is c.stage_answer.ensures

pub returns-in-8 : goal.returns-in-8
unfolding answer_word
returns-in-8 c = rw c.in-8.is c.name_answer.ensures

pub returns-in-9 : goal.returns-in-9
unfolding answer_word
returns-in-9 c = rw c.in-9.is c.validate_answer.ensures

pub returns-in-10 : goal.returns-in-10
unfolding answer_word
returns-in-10 c = rw c.in-10.is c.order_answer.ensures

pub returns-in_default : goal.returns-in_default
unfolding answer_word
returns-in_default c = let a = c.args in past (answers a.input.now a.place) a.question 0 (at_least 11 _ c.in_default.in_default-own.rest)
