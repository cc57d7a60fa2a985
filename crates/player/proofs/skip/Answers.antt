-- `skip`: one case for each question that fails, and one where none does.
use Rattle.std.specs.Prelude.{Err}
use Rattle.outcomes.proofs.Laws.{answers-is, eventless-answers}
use Rattle.player.proofs.Laws.{few-steps, skip-20, skip-14, skip-taken, skip-supposes}
use Rattle.refusal.specs.declared.Refusal.TheVariants as refusals
use mathlib.Core.Path.{sym, ◌∙◌}
use Rattle.player.proofs.skip.Goals as goal

pub returns-then-not-is_standing : goal.returns-then-not-is_standing
returns-then-not-is_standing c = let a = c.args in
    eventless-answers _ _ a.player _ _ (Err refusals.Standing) c.plain.ensures (skip-20 a.player _ _ (sym c.is_standing.ensures ∙ c.if-not-is_standing.true))

pub places_ok-requires : goal.places_ok-requires
places_ok-requires c = few-steps c.args.player (sym c.is_standing.ensures ∙ c.if-not-is_standing.false)

pub returns-then-not-places_ok : goal.returns-then-not-places_ok
returns-then-not-places_ok c = let a = c.args in
    eventless-answers _ _ a.player _ _ (Err refusals.EventPlaces) c.plain-then-not-places_ok.ensures (skip-14 a.player _ _ (sym c.is_standing.ensures ∙ c.if-not-is_standing.false) (sym c.places_ok.ensures ∙ c.if-not-places_ok.true))

pub skip_now-requires : goal.skip_now-requires
skip_now-requires c = skip-supposes c.args.player _ _ (sym c.is_standing.ensures ∙ c.if-not-is_standing.false) (sym c.places_ok.ensures ∙ c.if-not-places_ok.false)

pub returns : goal.returns
returns c =
    answers-is (skip-taken c.args.player _ _ (sym c.is_standing.ensures ∙ c.if-not-is_standing.false) (sym c.places_ok.ensures ∙ c.if-not-places_ok.false)) c.skip_now.ensures
