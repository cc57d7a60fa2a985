-- Document 02, c: "An update can't give more than twice the unended steps plus one event, and gives none after the finish." So a call
-- never gives more than the places that question 14 wants, nor more than 193.
use Rattle.std.specs.Prelude.{◌≡◌, true, List, [], ℕ, ◌+◌, ◌-◌, ◌*◌, ◌≤◌, length}
use Rattle.zones.specs.declared.TrainingProfile.{TrainingProfile}
use Rattle.order.specs.Order.{played_len}
use Rattle.events.specs.Events.{Event}
use Rattle.readings.specs.declared.Sample.{Sample}
use Rattle.state.specs.declared.Player.{Player}
use Rattle.state.specs.State.{event_places}
use Rattle.player.specs.Calls.{ride_of, add_of, skip_of}
use Rattle.keeps.specs.Keeps.{PowerFits, PlayerFits}

pub record Few (p : Player) (events : List Event) : Type 0 where
  pub steps : length events ≤ 2 * (played_len p.workout - p.core.position) + 1
  pub finished : p.core.done ≡ true → events ≡ []
  pub wanted : length events ≤ event_places p.core
  pub places : length events ≤ 193

-- Of a player that stands or not: what is refused gives none.
pub record FewEvents : Type 0 where
  pub ride : (p : Player) (ms mm : ℕ) (f : TrainingProfile) (kinds values : ℕ) → PlayerFits p → Few p (ride_of p ms mm f kinds values).events
  pub add : (p : Player) (ms mm : ℕ) (sample : Sample) (f : TrainingProfile) (kinds values : ℕ) → PlayerFits p → PowerFits sample
      → Few p (add_of p ms mm sample f kinds values).events
  pub skip : (p : Player) (kinds values : ℕ) → Few p (skip_of p kinds values).events
