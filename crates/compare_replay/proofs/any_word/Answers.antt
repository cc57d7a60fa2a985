-- `compare_replay::any_word` gives a word of the answer on a replay, and of all others by `compare_player`.
use borrow.Author.Tests.{ne_eqb}
use Rattle.compare_replay.specs.Replays.{any_word}
use Rattle.compare_replay.proofs.any_word.Goals as goal

pub returns-in-14 : goal.returns-in-14
unfolding any_word
returns-in-14 c = rw c.in-14.is c.replay_word.ensures

pub returns-in_default : goal.returns-in_default
unfolding any_word
returns-in_default c = simp (ne_eqb _ _ c.in_default.in_default-own.rest.1) c.any_word.ensures
