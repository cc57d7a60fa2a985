-- Document 01, 'Bench sheet': the lines marked P.
use Rattle.std.specs.Prelude.{◌≡◌, List, [], ◌∷◌, map, ℕ, length, replicate, None, Option, Some}
use Rattle.common.specs.Lists.{padded}
use Rattle.refusal.specs.Number.{answer_number}
use Rattle.names.specs.Names.{empty_name}
use Rattle.zones.specs.declared.TrainingProfile.{TrainingProfile}
use Rattle.zones.specs.Zones.{heart_zone}
use Rattle.model.specs.declared.Length.{Length}
use Rattle.model.specs.declared.Length.TheVariants.{Time, Distance}
use Rattle.model.specs.declared.Intensity.{Intensity}
use Rattle.model.specs.declared.Intensity.TheVariants as intensities
use Rattle.model.specs.declared.Test.{Test}
use Rattle.model.specs.declared.Step.{Step}
use Rattle.model.specs.declared.Block.{Block}
use Rattle.model.specs.declared.Workout.{Workout}
use Rattle.model.specs.declared.Metric.TheVariants as metrics
use Rattle.model.specs.declared.Target.TheVariants as targets
use Rattle.model.specs.declared.Test.TheVariants as tests
use Rattle.model.specs.Target.{band, band_of}
use Rattle.model.specs.Workout.{no_step, no_block}
use Rattle.order.specs.Order.{order_of, played_len}
use Rattle.validation.specs.Sound.{workout_answer}
use Rattle.decode.specs.Decode.{decode_of}
use Rattle.readings.specs.declared.Sample.{Sample}
use Rattle.power.specs.Power.{added, average_of}
use Rattle.readings.specs.Readings.{no_readings}
use Rattle.events.specs.Events.{countdown, started}
use Rattle.state.specs.declared.Player.{Player}
use Rattle.start.specs.Start.{new_of}
use Rattle.outcomes.specs.Outcomes.{Called}
use Rattle.player.specs.Calls.{read_of, ride_of}
use Rattle.reports.specs.Reports.{until_of}

abbrev pub profile : ℕ → ℕ → TrainingProfile
profile ftp lthr = record { ftp_watts = ftp; lthr_bpm = lthr }

-- a workout of open steps without targets, with one block
abbrev pub repeated : ℕ → Block → Workout
repeated steps block =
    record {
      name = empty_name;
      steps = replicate 12 no_step;
      step_count = steps;
      blocks = padded 8 no_block (block ∷ []);
      block_count = 1;
      test = tests.None;
    }

abbrev pub block : ℕ → ℕ → ℕ → Block
block first len count = record { first = first; len = len; count = count }

-- steps without targets, one after the other
abbrev pub in_order : Test → List Step → Workout
in_order test steps =
    record {
      name = empty_name;
      steps = padded 12 no_step steps;
      step_count = length steps;
      blocks = replicate 8 no_block;
      block_count = 0;
      test = test;
    }

abbrev pub step : Intensity → Length → Step
step intensity lasts = record { intensity = intensity; length = lasts; target = targets.Free; note = empty_name }

abbrev pub watts : ℕ → Sample
watts w = record { power_watts = Some w; heart_bpm = None; cadence_tenths = None }

-- a ride that is lent 193 places
abbrev pub ridden : Player → ℕ → Called
ridden p ms = ride_of p ms 0 (profile 200 160) 193 193

-- what a 1,200 s test gives at so many watts
abbrev pub tested : ℕ → Option ℕ
tested w =
    (ridden (read_of (new_of (in_order tests.Twenty (step intensities.Test (Time 1200) ∷ []))).player (watts w)).player 1200000
    ).player.core.summary.ftp

abbrev pub two_steps : Player
two_steps = (new_of (in_order tests.None (step intensities.Work (Time 10) ∷ step intensities.Work (Time 10) ∷ []))).player

pub record BenchSheet : Type 0 where
  -- "3 bytes: 1; 4: 2; 476: 1.": every file of that length
  pub bytes_3 : (s : List ℕ) → length s ≡ 3 → answer_number (decode_of s).answer ≡ 1
  pub bytes_4 : (s : List ℕ) → length s ≡ 4 → answer_number (decode_of s).answer ≡ 2
  pub bytes_476 : (s : List ℕ) → length s ≡ 476 → answer_number (decode_of s).answer ≡ 1
  -- "Block 0, 2, 3 over three steps plays 0,1,0,1,0,1,2."
  pub order : map (λ place. place.index) (order_of (repeated 3 (block 0 2 3))) ≡ 0 ∷ 1 ∷ 0 ∷ 1 ∷ 0 ∷ 1 ∷ 2 ∷ []
  -- "12 steps by 8 is 96, by 9 refused 9."
  pub by_8 : (played_len (repeated 12 (block 0 12 8)) ≡ 96) × (answer_number (workout_answer (repeated 12 (block 0 12 8))) ≡ 0)
  pub by_9 : answer_number (workout_answer (repeated 12 (block 0 12 9))) ≡ 9
  -- "FTP 250, 90 to 95%: 225 to 238."
  pub ftp : band_of (targets.Ftp 90 95) (profile 250 160) 0 ≡ Some (band metrics.Power 225 238)
  -- "LTHR 160: 129 is zone 1, 130 zone 2." and of the helpers' line: "at LTHR 160 zone 1 shows 104 to 129"
  pub heart : (heart_zone (profile 250 160) 129 ≡ 1) × (heart_zone (profile 250 160) 130 ≡ 2)
  pub zone_1 : band_of (targets.HeartZone 1) (profile 250 160) 0 ≡ Some (band metrics.Heart 104 129)
  -- "Readings 100, 101: 101."
  pub readings : average_of (added (Some 101) (added (Some 100) no_readings.power)) ≡ Some 101
  -- "1,200 s test at 53 W: 50; 52: none; 632: 600; 633: none."
  pub twenty : (tested 53 ≡ Some 50) × (tested 52 ≡ None) × (tested 632 ≡ Some 600) × (tested 633 ≡ None)
  -- "Two steps of 10 s, ride 15,000: started 1; as 8,000 and 7,000: countdown 3, 2, then started 1."
  pub at_once : (ridden two_steps 15000).events ≡ started 1 ∷ []
  pub in_two : ((ridden two_steps 8000).events ≡ countdown 3 ∷ countdown 2 ∷ []) × ((ridden (ridden two_steps 8000).player 7000).events ≡ started 1 ∷ [])
  -- "100 m, 3,000 ms with 150,000 mm: the part is 2,000 ms."
  pub share : (until_of (new_of (in_order tests.None (step intensities.Work (Distance 100) ∷ []))).player 3000 150000).part.ms.0 ≡ 2000
