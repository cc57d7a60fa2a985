-- `compare::heart_zone_answer` gives the heart zone, from what its callees ensure.
use Rattle.compare.specs.Answers.{heart_zone_answer}
use Rattle.compare.proofs.heart_zone_answer.Goals as goal

pub returns : goal.returns
unfolding heart_zone_answer
returns c = simp (c.four_words.ensures, c.heart_zone.ensures, c.u16_at.ensures, c.profile_at.ensures)
