-- `compare_reports::given_word` gives a number of the call, and past them a word of the summary.
use mathlib.Core.Path.{◌∙◌}
use Prim.Native.Nat.{◌-◌}
use Rattle.common.proofs.Matches.{past, at_least}
use Rattle.compare_reports.specs.Words.{given_word, given_facts, summary_word}
use Rattle.compare_reports.proofs.given_word.Goals as goal

pub returns-in-0 : goal.returns-in-0
unfolding given_word
returns-in-0 c = rw c.in-0.is

pub returns-in-1 : goal.returns-in-1
unfolding given_word
returns-in-1 c = rw c.in-1.is

pub returns-in-2 : goal.returns-in-2
unfolding given_word
returns-in-2 c = rw c.in-2.is

pub returns-in-3 : goal.returns-in-3
unfolding given_word
returns-in-3 c = rw c.in-3.is

pub returns-in-4 : goal.returns-in-4
unfolding given_word
returns-in-4 c = rw c.in-4.is c.bit.ensures

pub returns-in_default : goal.returns-in_default
unfolding given_word
returns-in_default c = let a = c.args in c.summary_word.ensures ∙ past (given_facts a.given) a.place (summary_word a.read (a.place - 5)) (at_least 5 _ c.in_default.in_default-own.rest)
