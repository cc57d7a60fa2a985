-- What an act of a ride sheet makes of the player, and the acts one after the other. (An act is document 01's word for an entry of a
-- ride sheet.)
use Rattle.std.specs.Prelude.{◌≡◌, Bool, true, false, cond, List, [], ◌∷◌, ℕ, ◌+◌, length, Err, None, Ok, Result, Some, ⊤}
use Rattle.refusal.specs.declared.Refusal.{Refusal}
use Rattle.names.specs.Names.{empty_name}
use Rattle.zones.specs.declared.TrainingProfile.{TrainingProfile}
use Rattle.model.specs.declared.Test.TheVariants as tests
use Rattle.model.specs.declared.Workout.{Workout}
use Rattle.events.specs.Events.{Wrote}
use Rattle.state.specs.declared.Core.{Core}
use Rattle.state.specs.declared.Player.{Player}
use Rattle.step_end.specs.StepEnd.{Outcome, next_of}
use Rattle.rounds.specs.Rounds.{riding}
use Rattle.standing.specs.Standing.{standing_of}
use Rattle.start.specs.Start.{no_summary}
use Rattle.outcomes.specs.declared.ExtendedCore.{ExtendedCore}
use Rattle.outcomes.specs.Outcomes.{Called, eventless, player_of, extend_core}
use Rattle.player.specs.Calls.{default_s, default_m}
use Rattle.machine.specs.Cutting.{Call, read, ride, skip, extend}
use Rattle.machine.specs.Runs.{called}
use Rattle.sheet.specs.declared.Act.{Act}
use Rattle.sheet.specs.declared.Act.TheVariants.{Profile, Read, Ride, Skip, ExtendLong, Extend}
use Rattle.sheet.specs.declared.ActAnswer.{ActAnswer}
use Rattle.sheet.specs.Sheet.{accepted_all}
use Rattle.replay.specs.declared.Acted.{Acted}
use Rattle.replay.specs.declared.Ridden.{Ridden}

-- The places of the replay's own event arrays: as many as any player's update can want.
abbrev pub places : ℕ
places = 193

-- Document 02, i: "kind 4 keeps 60 s and 500 m through a call with the amount".
abbrev pub long_s : ℕ
long_s = 60

abbrev pub long_m : ℕ
long_m = 500

-- The call that an act stands for. Question 17 lets a profile through as the first act alone, and that one is no call. "a new kind 5
-- means the default"
unfoldable pub act_called : TrainingProfile → Act → Player → Called
act_called p (Profile f) player = eventless (Ok tt) player
act_called p (Read sample) player = called p (read sample) player
act_called p (Ride ms mm) player = called p (ride ms.0 mm.0 places places) player
act_called p Skip player = called p (skip places places) player
act_called p ExtendLong player = called p (extend long_s long_m) player
act_called p Extend player = called p (extend default_s default_m) player

-- Acts in a row.

-- Err, nothing is ridden.
abbrev pub nothing_ridden : ActAnswer → Ridden
nothing_ridden outcome = record { outcome = outcome; name = empty_name; test = tests.None; summary = no_summary 0 }

-- "Its record is .. of .. the workout's name, test" and how it went.
abbrev pub ridden_to : Workout → Player → Ridden
ridden_to w player = record { outcome = accepted_all; name = w.name; test = w.test; summary = player.core.summary }

abbrev pub go_on : Result ⊤ Refusal → ActAnswer → Ridden → Ridden
go_on (Ok tt) outcome rest = rest
go_on (Err refusal) outcome rest = nothing_ridden outcome

-- One question or act after the other: the first that is refused ends all.
abbrev pub unless_refused : ActAnswer → Ridden → Ridden
unless_refused outcome rest = go_on outcome.answer outcome rest

abbrev pub at_no_act : Result ⊤ Refusal → ActAnswer
at_no_act answer = record { answer = answer; act = None }

abbrev pub at_act : ℕ → Result ⊤ Refusal → ActAnswer
at_act i answer = record { answer = answer; act = Some i }

-- "then each act; .. all refusals of acts name the first act at fault", i being the first one's number
unfoldable pub play_acts : Workout → TrainingProfile → List Act → ℕ → Player → Ridden
play_acts w p [] i player = ridden_to w player
play_acts w p (act ∷ acts) i player =
    unless_refused (at_act i (act_called p act player).answer) (play_acts w p acts (i + 1) (act_called p act player).player)

-- The calls that acts stand for, in their order.
unfoldable pub calls_of : List Act → List Call
calls_of [] = []
calls_of (Profile f ∷ acts) = calls_of acts
calls_of (Read sample ∷ acts) = read sample ∷ calls_of acts
calls_of (Ride ms mm ∷ acts) = ride ms.0 mm.0 places places ∷ calls_of acts
calls_of (Skip ∷ acts) = skip places places ∷ calls_of acts
calls_of (ExtendLong ∷ acts) = extend long_s long_m ∷ calls_of acts
calls_of (Extend ∷ acts) = extend default_s default_m ∷ calls_of acts

-- What the functions that play an act suppose and give. The player is that of its core and minute.

pub record Ready (w : Workout) (c : Core) (minute : List ℕ) : Type 0 where
  pub stands : standing_of (player_of w (riding c minute)) ≡ true
  pub twelve : length w.steps ≡ 12
  pub sixty : length minute ≡ 60

pub record Acts (w : Workout) (minute' ks vs ks' vs' : List ℕ) (r : Acted) (o : Called) : Type 0 where
  pub answer : r.answer ≡ o.answer
  pub player : player_of w (riding r.core minute') ≡ o.player
  pub wrote : Wrote ks vs 0 ks' vs' r.events o.events

abbrev pub eventless_act : Result ⊤ Refusal → Core → Acted
eventless_act answer c = record { answer = answer; core = c; events = 0 }

-- The acts that neither read nor ride.
abbrev pub is_quiet : Act → Bool
is_quiet (Profile f) = true
is_quiet (Read sample) = false
is_quiet (Ride ms mm) = false
is_quiet Skip = true
is_quiet ExtendLong = true
is_quiet Extend = true

-- Once nothing is left to be asked, a skip does nothing when finished, and else ends the step.
abbrev pub skip_outcome : Workout → Core → Outcome
skip_outcome w c = cond c.done (record { core = c; events = [] }) (next_of w true c)

pub record Skips (ks vs ks' vs' : List ℕ) (r : Acted) (o : Outcome) : Type 0 where
  pub answer : r.answer ≡ Ok tt
  pub core : r.core ≡ o.core
  pub wrote : Wrote ks vs 0 ks' vs' r.events o.events

abbrev pub of_extended : ExtendedCore → Acted
of_extended r = eventless_act r.answer r.core

abbrev pub extend_act : ℕ → ℕ → Core → Acted
extend_act secs metres c = cond c.done (eventless_act (Ok tt) c) (of_extended (extend_core secs metres c.on.length c))
