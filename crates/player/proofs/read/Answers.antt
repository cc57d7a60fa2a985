-- `read`: one case for each answer.
use Rattle.player.specs.Calls.{read_of, read_answer}
use mathlib.Core.Path.{sym, ◌∙◌}
use Rattle.player.proofs.read.Goals as goal

pub returns-then-not-is_standing : goal.returns-then-not-is_standing
unfolding read_of read_answer
returns-then-not-is_standing c = simp (c.plain.ensures, sym c.is_standing.ensures ∙ c.if-not-is_standing.true)

pub returns-then-not-cadence_in : goal.returns-then-not-cadence_in
unfolding read_of read_answer
returns-then-not-cadence_in c = simp (c.plain-then-not-cadence_in.ensures, sym c.is_standing.ensures ∙ c.if-not-is_standing.false, sym c.cadence_in.ensures ∙ c.if-not-cadence_in.true)

pub returns : goal.returns
unfolding read_of read_answer
returns c = simp (c.plain-2.ensures, c.with_core.ensures, c.read.ensures, sym c.is_standing.ensures ∙ c.if-not-is_standing.false, sym c.cadence_in.ensures ∙ c.if-not-cadence_in.false)
