-- `known_ride`: questions 12 to 14 decide.
use mathlib.Core.Path.{◌≡◌, sym, ◌∙◌, subst}
use mathlib.Core.Bool.{true}
use Prim.Native.Nat.{ℕ, ◌<◌}
use native.Mathlib.Omega.{arith}
use lib.ListN.{length}
use Rattle.power.specs.Power.{or_zero}
use Rattle.state.specs.declared.Player.{Player}
use Rattle.standing.specs.Standing.{standing_of}
use Rattle.standing.proofs.Known.{known}
use Rattle.player.proofs.Laws.{asked-fits, update-passed}
use Rattle.bench.specs.Rides.{ridden_of}
use Rattle.bench.proofs.Laws.{refused-ride, taken-ride, ridden-stands}
use borrow.Author.Rules.{rules}
use Rattle.bench.proofs.known_ride.Goals as goal

pub update_answer-requires : goal.update_answer-requires
update_answer-requires c = asked-fits c.args.player c.requires

pub ride_now-update-requires : goal.ride_now-update-requires
ride_now-update-requires c = let a = c.args in update-passed a.player.workout a.player.core 250 2000 193 193 (known a.player c.requires).core (sym c.update_answer.ensures ∙ c.in-Ok.is)

pub returns-in-Ok : goal.returns-in-Ok
returns-in-Ok c = let a = c.args in
    let stands = c.requires in
    let twelve : length a.player.workout.steps ≡ 12 = search rules in
    let bits : or_zero a.player.core.readings.last_sample.power_watts < 65536 = subst (λ (n : ℕ). n < 65536) c.unwrap_or.ensures (omega arith) in
    let is : c.ride_now-update.result.player ≡ ridden_of a.player =
    c.ride_now-update.ensures.player ∙ taken-ride a.player stands (sym c.update_answer.ensures ∙ c.in-Ok.is) in
    (is, subst (λ (p : Player). standing_of p ≡ true) (sym is) (ridden-stands a.player stands (record { twelve = twelve; power = bits })))

pub returns-in-Err : goal.returns-in-Err
returns-in-Err c = let a = c.args in (refused-ride a.player c.requires _ (sym c.update_answer.ensures ∙ c.in-Err.is), c.requires)
