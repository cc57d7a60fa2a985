-- `compare::four_words` gives the word at a place: one arm a word, and 0 past them.
use mathlib.Core.List.{[], ◌∷◌}
use Rattle.common.proofs.Matches.{past, at_least}
use Rattle.compare.specs.Answers.{four_words}
use borrow.Author.Rules.{rules}
use Rattle.compare.proofs.four_words.Goals as goal

pub returns-in-0 : goal.returns-in-0
unfolding four_words
returns-in-0 c = search rules

pub returns-in-1 : goal.returns-in-1
unfolding four_words
returns-in-1 c = search rules

pub returns-in-2 : goal.returns-in-2
unfolding four_words
returns-in-2 c = search rules

pub returns-in-3 : goal.returns-in-3
unfolding four_words
returns-in-3 c = search rules

pub returns-in_default : goal.returns-in_default
unfolding four_words
returns-in_default c = let a = c.args in past (a.a ∷ a.b ∷ a.c ∷ a.d ∷ []) a.place 0 (at_least 4 _ c.in_default.in_default-own.rest)
