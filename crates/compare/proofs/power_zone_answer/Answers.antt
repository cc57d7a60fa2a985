-- `compare::power_zone_answer` gives the power zone, from what its callees ensure.
use Rattle.compare.specs.Answers.{power_zone_answer}
use Rattle.compare.proofs.power_zone_answer.Goals as goal

pub returns : goal.returns
unfolding power_zone_answer
returns c = simp (c.four_words.ensures, c.power_zone.ensures, c.u16_at.ensures, c.profile_at.ensures)
