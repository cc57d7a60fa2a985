-- `ride`: one case for each question that fails, and one where none does.
use Rattle.std.specs.Prelude.{Err}
use Rattle.outcomes.proofs.Laws.{answers-is, eventless-answers}
use Rattle.player.proofs.Laws.{asked-fits, update-passed, ride-20, ride-10, ride-refused, ride-taken}
use Rattle.standing.proofs.Known.{known}
use Rattle.refusal.specs.declared.Refusal.TheVariants as refusals
use mathlib.Core.Path.{sym, ◌∙◌}
use Rattle.player.proofs.ride.Goals as goal

pub returns-then-not-is_standing : goal.returns-then-not-is_standing
returns-then-not-is_standing c = let a = c.args in
    eventless-answers _ _ a.player _ _ (Err refusals.Standing) c.plain.ensures (ride-20 a.player a.ms.0 a.mm.0 a.profile _ _ (sym c.is_standing.ensures ∙ c.if-not-is_standing.true))

pub returns-then-not-is_sound : goal.returns-then-not-is_sound
returns-then-not-is_sound c = let a = c.args in
    eventless-answers _ _ a.player _ _ (Err refusals.Profile) c.plain-then-not-is_sound.ensures (ride-10 a.player a.ms.0 a.mm.0 a.profile _ _ (sym c.is_standing.ensures ∙ c.if-not-is_standing.false) (sym c.is_sound.ensures ∙ c.if-not-is_sound.true))

pub update_answer-requires : goal.update_answer-requires
update_answer-requires c = asked-fits c.args.player (sym c.is_standing.ensures ∙ c.if-not-is_standing.false)

pub ride_now-requires : goal.ride_now-requires
ride_now-requires c = let a = c.args in
    update-passed a.player.workout a.player.core a.ms.0 a.mm.0 _ _ (known a.player (sym c.is_standing.ensures ∙ c.if-not-is_standing.false)).core (sym c.update_answer.ensures ∙ c.in-Ok.is)

pub returns-in-Ok : goal.returns-in-Ok
returns-in-Ok c = let a = c.args in
    answers-is (ride-taken a.player a.ms.0 a.mm.0 a.profile _ _ (sym c.is_standing.ensures ∙ c.if-not-is_standing.false) (sym c.is_sound.ensures ∙ c.if-not-is_sound.false) (sym c.update_answer.ensures ∙ c.in-Ok.is)) c.ride_now.ensures

pub returns-in-Err : goal.returns-in-Err
returns-in-Err c = let a = c.args in
    eventless-answers _ _ a.player _ _ _ c.plain-in-Err.ensures (ride-refused a.player a.ms.0 a.mm.0 a.profile _ _ _ (sym c.is_standing.ensures ∙ c.if-not-is_standing.false) (sym c.is_sound.ensures ∙ c.if-not-is_sound.false) (sym c.update_answer.ensures ∙ c.in-Err.is))
