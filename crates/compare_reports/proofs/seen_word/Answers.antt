-- `compare_reports::seen_word` gives a word of one of the five groups.
use mathlib.Core.Path.{◌∙◌, ap}
use Prim.Native.Nat.{◌/◌, ◌%◌}
use Rattle.common.proofs.Matches.{past, at_least}
use Rattle.compare_files.specs.Files.{step_word}
use Rattle.compare_reports.specs.Words.{seen_word, seen_words}
use Rattle.compare_reports.proofs.seen_word.Goals as goal
use Rattle.order.specs.declared.Played.{Played}
use Rattle.order.specs.Order.{played_in}

pub returns-in-0 : goal.returns-in-0
unfolding seen_word
returns-in-0 c = rw c.in-0.is c.given_word.ensures

pub returns-in-1 : goal.returns-in-1
unfolding seen_word
returns-in-1 c = rw c.in-1.is c.amount_word.ensures

pub returns-in-2 : goal.returns-in-2
unfolding seen_word
returns-in-2 c = rw c.in-2.is c.now_word.ensures

pub returns-in-3 : goal.returns-in-3
unfolding seen_word
returns-in-3 c = rw c.in-3.is c.step_word.ensures

pub returns-in_default : goal.returns-in_default
unfolding seen_word
returns-in_default c = let a = c.args in c.step_word-in_default.ensures ∙ ap (λ (n : Played). step_word n.step (a.place % 16)) c.unwrap_or-next.ensures ∙ past (seen_words a.given a.reported (a.place % 16)) (a.place / 16) (step_word (played_in a.reported.now.now.next).step (a.place % 16)) (at_least 4 _ c.in_default.in_default-own.rest)
