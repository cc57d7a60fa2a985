-- `extend_with`: one case for each answer and length.
use Rattle.player.proofs.Laws.{extra-fits}
use Rattle.player.specs.Calls.{extend_with}
use mathlib.Core.Path.{sym, ◌∙◌}
use Rattle.player.proofs.extend_with.Goals as goal

pub returns-then-not-is_standing : goal.returns-then-not-is_standing
unfolding extend_with
returns-then-not-is_standing c = simp (c.not_extended.ensures, sym c.is_standing.ensures ∙ c.if-not-is_standing.true)

pub returns-then-core : goal.returns-then-core
unfolding extend_with
returns-then-core c = simp (c.not_extended-then-core.ensures, sym c.is_standing.ensures ∙ c.if-not-is_standing.false, c.if-core.true)

pub extend_by-requires : goal.extend_by-requires
extend_by-requires c = extra-fits c.args.player (sym c.is_standing.ensures ∙ c.if-not-is_standing.false) c.if-core.false

pub returns : goal.returns
unfolding extend_with
returns c = simp (c.extend_by.ensures, sym c.is_standing.ensures ∙ c.if-not-is_standing.false, c.if-core.false)
