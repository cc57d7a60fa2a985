-- `compare_reports::summary_word` gives the summary's numbers, and past them the percentage.
use mathlib.Core.Path.{◌∙◌, ap}
use Rattle.common.proofs.Matches.{past, at_least}
use Rattle.state.specs.State.{in_target_pct}
use Rattle.compare_reports.specs.Words.{summary_word, summary_facts, pct_word}
use Rattle.compare_reports.proofs.summary_word.Goals as goal

pub returns-in-0 : goal.returns-in-0
unfolding summary_word
returns-in-0 c = rw c.in-0.is c.refused_number.ensures

pub returns-in-1 : goal.returns-in-1
unfolding summary_word
returns-in-1 c = rw c.in-1.is c.low32.ensures

pub returns-in-2 : goal.returns-in-2
unfolding summary_word
returns-in-2 c = rw c.in-2.is c.low32-in-2.ensures

pub returns-in-3 : goal.returns-in-3
unfolding summary_word
returns-in-3 c = rw c.in-3.is c.low32-in-3.ensures

pub returns-in-4 : goal.returns-in-4
unfolding summary_word
returns-in-4 c = rw c.in-4.is c.low32-in-4.ensures

pub returns-in-5 : goal.returns-in-5
unfolding summary_word
returns-in-5 c = rw c.in-5.is c.reading_word.ensures

pub returns-in-6 : goal.returns-in-6
unfolding summary_word
returns-in-6 c = rw c.in-6.is

pub returns-in-7 : goal.returns-in-7
unfolding summary_word
returns-in-7 c = rw c.in-7.is

pub returns-in-8 : goal.returns-in-8
unfolding summary_word
returns-in-8 c = rw c.in-8.is

pub returns-in-9 : goal.returns-in-9
unfolding summary_word
returns-in-9 c = rw c.in-9.is c.bit.ensures

pub returns-in_default : goal.returns-in_default
unfolding summary_word
returns-in_default c = let a = c.args in c.pct_word.ensures ∙ ap pct_word c.in_target_pct.ensures ∙ past (summary_facts a.read) a.place (pct_word (in_target_pct a.read.summary)) (at_least 10 _ c.in_default.in_default-own.rest)
