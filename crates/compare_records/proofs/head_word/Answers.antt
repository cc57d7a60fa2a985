-- `compare_records::head_word` gives refusal, journal, ride id and test, and past them the start.
use mathlib.Core.Path.{◌∙◌}
use Prim.Native.Nat.{◌-◌}
use Rattle.common.proofs.Matches.{past, at_least}
use Rattle.compare_records.specs.Records.{start_word, head_facts, head_word}
use Rattle.compare_records.proofs.head_word.Goals as goal

pub returns-in-0 : goal.returns-in-0
unfolding head_word
returns-in-0 c = rw c.in-0.is c.refused_number.ensures

pub returns-in-1 : goal.returns-in-1
unfolding head_word
returns-in-1 c = rw c.in-1.is

pub returns-in-2 : goal.returns-in-2
unfolding head_word
returns-in-2 c = rw c.in-2.is

pub returns-in-3 : goal.returns-in-3
unfolding head_word
returns-in-3 c = rw c.in-3.is c.test_kind.ensures

pub returns-in_default : goal.returns-in_default
unfolding head_word
returns-in_default c = let a = c.args in c.start_word.ensures ∙ past (head_facts a.read) a.place (start_word a.read.«record».started_utc_ms (a.place - 4)) (at_least 4 _ c.in_default.in_default-own.rest)
