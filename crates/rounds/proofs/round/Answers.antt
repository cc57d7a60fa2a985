-- `round`: the part until the step's end, then the end, if it has come.
-- `round`: its two parts make the round of the definition (Turns).
use mathlib.Core.Path.{sym, ◌∙◌}
use Rattle.rounds.proofs.Turns.{turn-fits, end_fits, round-ended, round-left}
use Rattle.rounds.proofs.round.Goals as goal

pub turn-turned-requires : goal.turn-turned-requires
turn-turned-requires c = let a = c.args in (turn-fits a.workout a.ride a.kinds.now a.values.now c.requires.0 c.requires.1 c.requires.3, c.requires.2)

pub end_step-requires : goal.end_step-requires
end_step-requires c = let a = c.args in
    end_fits a.workout a.ride _ _ c.requires.0 c.requires.1 a.profile c.turn-turned.result c.turn-turned.ensures c.turn-turned.auto.kinds c.turn-turned.auto.values (sym c.is_over.ensures ∙ c.if-is_over.true)

pub returns-then-is_over : goal.returns-then-is_over
returns-then-is_over c = let a = c.args in
    round-ended a.workout a.ride _ _ c.requires.0 c.requires.1 a.profile c.turn-turned.result c.turn-turned.ensures c.end_step.result (sym c.is_over.ensures ∙ c.if-is_over.true) c.end_step.ensures

pub returns : goal.returns
returns c = let a = c.args in
    round-left a.workout a.ride _ _ c.requires.0 c.requires.1 a.profile c.turn-turned.result c.turn-turned.ensures (sym c.is_over.ensures ∙ c.if-is_over.false)
