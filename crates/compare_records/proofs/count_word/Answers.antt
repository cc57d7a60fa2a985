-- `compare_records::count_word` gives the counts of steps and whether it is finished, and past them the FTP.
use mathlib.Core.Path.{◌∙◌}
use Prim.Native.Nat.{◌-◌}
use Rattle.common.proofs.Matches.{past, at_least}
use Rattle.compare_records.specs.Records.{ftp_word, count_facts, count_word}
use Rattle.compare_records.proofs.count_word.Goals as goal

pub returns-in-0 : goal.returns-in-0
unfolding count_word
returns-in-0 c = rw c.in-0.is

pub returns-in-1 : goal.returns-in-1
unfolding count_word
returns-in-1 c = rw c.in-1.is

pub returns-in-2 : goal.returns-in-2
unfolding count_word
returns-in-2 c = rw c.in-2.is

pub returns-in-3 : goal.returns-in-3
unfolding count_word
returns-in-3 c = rw c.in-3.is c.yes_word.ensures

pub returns-in_default : goal.returns-in_default
unfolding count_word
returns-in_default c = let a = c.args in c.ftp_word.ensures ∙ past (count_facts a.summary) a.place (ftp_word a.summary.ftp (a.place - 4)) (at_least 4 _ c.in_default.in_default-own.rest)
