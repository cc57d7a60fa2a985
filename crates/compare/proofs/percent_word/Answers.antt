-- `compare::percent_word` gives the percentage, cut in two ways.
use Rattle.compare.proofs.percent_word.Goals as goal

pub returns : goal.returns
returns c = simp (c.four_words.ensures, c.least.ensures)
