-- `compare_replay::replay_word` parts the input into workout and sheet.
use Rattle.compare_replay.specs.Replays.{replay_word}
use Rattle.compare_replay.proofs.replay_word.Goals as goal

pub returns : goal.returns
unfolding replay_word
returns c = rw (← c.least-from.ensures, ← c.word_at.ensures, ← c.least.ensures, ← c.given_at.ensures) c.word_of.ensures
