-- `compare_player::any_word` gives a word of the answer on the player, and of all others by `compare_files`.
use borrow.Author.Tests.{ne_eqb}
use Rattle.compare_player.specs.Calls.{any_word}
use Rattle.compare_player.proofs.any_word.Goals as goal

pub returns-in-13 : goal.returns-in-13
unfolding any_word
returns-in-13 c = rw c.in-13.is c.player_word.ensures

pub returns-in_default : goal.returns-in_default
unfolding any_word
returns-in_default c = simp (ne_eqb _ _ c.in_default.in_default-own.rest.1) c.question_word.ensures
