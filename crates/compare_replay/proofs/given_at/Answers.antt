-- `compare_replay::given_at` reads each of the words.
use Rattle.compare_replay.specs.Replays.{given_at}
use Rattle.compare_replay.proofs.given_at.Goals as goal

pub returns : goal.returns
unfolding given_at
returns c = simp (c.word_at.ensures, c.word_at-2.ensures, c.word_at-3.ensures, c.word_at-4.ensures, c.word_at-5.ensures, c.word_at-6.ensures)
