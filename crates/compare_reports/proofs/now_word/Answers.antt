-- `compare_reports::now_word` gives the first numbers on screen, and past them the others.
use mathlib.Core.Path.{◌∙◌}
use Prim.Native.Nat.{◌-◌}
use Rattle.common.proofs.Matches.{past, at_least}
use Rattle.compare_reports.specs.Words.{now_word, now_facts, shown_word}
use Rattle.compare_reports.proofs.now_word.Goals as goal

pub returns-in-0 : goal.returns-in-0
unfolding now_word
returns-in-0 c = rw c.in-0.is c.refused_number.ensures

pub returns-in-1 : goal.returns-in-1
unfolding now_word
returns-in-1 c = rw c.in-1.is

pub returns-in-2 : goal.returns-in-2
unfolding now_word
returns-in-2 c = rw c.in-2.is

pub returns-in-3 : goal.returns-in-3
unfolding now_word
returns-in-3 c = rw c.in-3.is c.reading_word.ensures

pub returns-in-4 : goal.returns-in-4
unfolding now_word
returns-in-4 c = rw c.in-4.is c.reading_word-in-4.ensures

pub returns-in-5 : goal.returns-in-5
unfolding now_word
returns-in-5 c = rw c.in-5.is c.compliance_word.ensures

pub returns-in_default : goal.returns-in_default
unfolding now_word
returns-in_default c = let a = c.args in c.shown_word.ensures ∙ past (now_facts a.read) a.place (shown_word a.read.now (a.place - 6)) (at_least 6 _ c.in_default.in_default-own.rest)
