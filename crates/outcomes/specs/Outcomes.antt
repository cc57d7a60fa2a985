-- What document 01's player calls give, and the extending of a step once only question 15 is left to be asked.
use Rattle.std.specs.Prelude.{◌≡◌, true, false, cond, List, [], ℕ, ◌+◌, ◌≤◌, leb, get_or, Err, Ok, Result, ⊤}
use Rattle.refusal.specs.declared.Refusal.TheVariants as refusals
use Rattle.refusal.specs.declared.Refusal.{Refusal}
use Rattle.model.specs.declared.Length.{Length}
use Rattle.model.specs.declared.Length.TheVariants.{Time, Distance, Open}
use Rattle.model.specs.declared.Workout.{Workout}
use Rattle.model.specs.Workout.{no_step}
use Rattle.events.specs.Events.{Event, Wrote}
use Rattle.state.specs.declared.Lap.{Lap}
use Rattle.state.specs.declared.Core.{Core}
use Rattle.state.specs.declared.Player.{Player}
use Rattle.state.specs.State.{extended_lap}
use Rattle.rounds.specs.Rounds.{Riding}
use Rattle.outcomes.specs.declared.Update.{Update}
use Rattle.outcomes.specs.declared.Extended.{Extended}
use Rattle.outcomes.specs.declared.ExtendedCore.{ExtendedCore}

-- What a call gives, its events as a list.
pub record Called : Type 0 where
  pub answer : Result ⊤ Refusal
  pub player : Player
  pub events : List Event
  pub parts : ℕ

-- The call's own answer: the events stand in the arrays from place 0 on, and later places stay.
pub record Answers (ks vs ks' vs' : List ℕ) (r : Update) (o : Called) : Type 0 where
  pub answer : r.answer ≡ o.answer
  pub player : r.player ≡ o.player
  pub parts : r.parts ≡ o.parts
  pub wrote : Wrote ks vs 0 ks' vs' r.events o.events

-- Without events or parts.
abbrev pub eventless_update : Result ⊤ Refusal → Player → Update
eventless_update answer p = record { answer = answer; player = p; events = 0; parts = 0 }

abbrev pub eventless : Result ⊤ Refusal → Player → Called
eventless answer p = record { answer = answer; player = p; events = []; parts = 0 }

-- The player of a core and its minute. The note is that of the step on now.
abbrev pub player_of : Workout → Riding → Player
player_of w s = record { core = s.core; workout = w; note = (get_or w.steps s.core.on.index no_step).note; minute = s.watts }

abbrev pub with_core : Core → Player → Player
with_core c p = record { core = c; workout = p.workout; note = p.note; minute = p.minute }

-- "else totals grow, also after the end"
abbrev pub totalled : ℕ → ℕ → Core → Core
totalled ms mm c =
    record {
      position = c.position;
      steps = c.steps;
      total_ms = record { 0 = c.total_ms.0 + ms };
      total_mm = record { 0 = c.total_mm.0 + mm };
      lap = c.lap;
      measured = c.measured;
      summary = c.summary;
      on = c.on;
      readings = c.readings;
      done = c.done;
    }

abbrev pub not_extended : Result ⊤ Refusal → Player → Extended
not_extended answer p = record { answer = answer; player = p; extended = false }

abbrev pub with_lap : Lap → Core → Core
with_lap lap c =
    record {
      position = c.position;
      steps = c.steps;
      total_ms = c.total_ms;
      total_mm = c.total_mm;
      lap = lap;
      measured = c.measured;
      summary = c.summary;
      on = c.on;
      readings = c.readings;
      done = c.done;
    }

abbrev pub not_longer : Result ⊤ Refusal → Core → ExtendedCore
not_longer answer c = record { answer = answer; core = c; extended = false }

abbrev pub longer_core : ℕ → ℕ → Core → ExtendedCore
longer_core secs metres c = record { answer = (Ok tt); core = with_lap (extended_lap secs metres c.lap) c; extended = true }

-- "Extend of an unfinished timed or distance step: its extra at most 86,400 s or 1,000,000 m after it? 15. Open .. gives `false`, no
-- refusal." The amount is the call's, and only that of the step's own unit counts.
unfoldable pub extend_core : ℕ → ℕ → Length → Core → ExtendedCore
extend_core secs metres (Time time) c =
    cond (leb (c.lap.extra_s + secs) 86400) (longer_core secs 0 c) (not_longer (Err refusals.Extra) c)
extend_core secs metres (Distance way) c =
    cond (leb (c.lap.extra_m + metres) 1000000) (longer_core 0 metres c) (not_longer (Err refusals.Extra) c)
extend_core secs metres Open c = not_longer (Ok tt) c

abbrev pub extended_by : Player → ExtendedCore → Extended
extended_by p r = record { answer = r.answer; player = with_core r.core p; extended = r.extended }

abbrev pub longer_by : ℕ → ℕ → Player → Extended
longer_by secs metres p = extended_by p (longer_core secs metres p.core)

unfoldable pub extend_by : ℕ → ℕ → Length → Player → Extended
extend_by secs metres lasts p = extended_by p (extend_core secs metres lasts p.core)

-- What `extend_core` supposes: extras within their limits.
pub record ExtraFits (c : Core) : Type 0 where
  pub extra-s : c.lap.extra_s ≤ 86400
  pub extra-m : c.lap.extra_m ≤ 1000000
