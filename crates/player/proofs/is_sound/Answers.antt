-- `is_sound`: a profile is accepted where its test holds.
use Rattle.std.specs.Prelude.{Ok, Result, ⊤, is_ok}
use mathlib.Core.Bool.{Bool, true, false}
use mathlib.Core.Path.{◌≡◌, refl, ap, ◌∙◌}
use Rattle.refusal.specs.declared.Refusal.{Refusal}
use Rattle.refusal.specs.declared.Refusal.TheVariants as refusals
use Rattle.refusal.specs.Number.{ask}
use Rattle.zones.specs.Zones.{profile_ok, profile_answer}
use Rattle.player.proofs.is_sound.Goals as goal

asked : (t : Bool) → is_ok (ask t refusals.Profile (Ok tt)) ≡ t
asked true = refl
asked false = refl

pub returns : goal.returns
unfolding profile_answer
returns c = c.is_ok.ensures.value ∙ ap (λ (a : Result ⊤ Refusal). is_ok a) c.check.ensures ∙ asked (profile_ok c.args.profile)
