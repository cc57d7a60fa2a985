-- `compare::band_word` gives the words of a band.
use Rattle.compare.proofs.band_word.Goals as goal

pub returns-in-Some : goal.returns-in-Some
returns-in-Some c = simp (c.in-Some.is, c.four_words.ensures, c.metric_number.ensures)
