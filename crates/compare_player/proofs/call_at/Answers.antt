-- `compare_player::call_at` reads eight words.
use Rattle.compare_player.specs.Calls.{call_at}
use Rattle.compare_player.proofs.call_at.Goals as goal

pub returns : goal.returns
unfolding call_at
returns c = simp (c.word_at.ensures, c.word_at-2.ensures, c.word_at-3.ensures, c.word_at-4.ensures, c.word_at-5.ensures, c.word_at-6.ensures, c.word_at-7.ensures, c.word_at-8.ensures)
