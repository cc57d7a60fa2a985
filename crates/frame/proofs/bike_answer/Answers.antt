-- `bike_answer`: 20, then 10.
use mathlib.Core.Path.{sym, ◌∙◌}
use Rattle.zones.specs.Zones.{profile_answer}
use Rattle.frame.specs.Frame.{bikes_answer}
use Rattle.frame.proofs.bike_answer.Goals as goal

pub returns-then-not-is_standing : goal.returns-then-not-is_standing
unfolding bikes_answer
returns-then-not-is_standing c = simp (sym c.is_standing.ensures ∙ c.if-not-is_standing.true)

pub returns : goal.returns
unfolding bikes_answer profile_answer
returns c = simp (c.check.ensures, sym c.is_standing.ensures ∙ c.if-not-is_standing.false)
