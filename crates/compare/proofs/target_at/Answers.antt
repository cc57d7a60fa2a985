-- `compare::target_at` gives the target of four words.
use Rattle.compare.specs.Input.{target_at}
use Rattle.compare.proofs.target_at.Goals as goal

pub returns : goal.returns
unfolding target_at
returns c = simp (c.target_of.ensures, c.word_at-4.ensures, c.word_at-3.ensures, c.word_at-2.ensures, c.word_at.ensures)
