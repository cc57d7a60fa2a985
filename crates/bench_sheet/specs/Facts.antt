-- Examples of document 01's sentences beside its bench sheet, of the Rust where the paper says 'as there', and of document 02's requests:
-- averages, bands, parts, countdowns, seconds left, ramps, extends, tests. The definitions are held against these: one made wrong together with
-- the code is refused here.
use Rattle.std.specs.Prelude.{◌≡◌, true, false, [], ◌∷◌, ℕ, Err, None, Ok, Option, Some}
use Rattle.refusal.specs.declared.Refusal.TheVariants as refusals
use Rattle.names.specs.Names.{empty_name}
use Rattle.zones.specs.Zones.{heart_zone}
use Rattle.model.specs.declared.Length.TheVariants.{Time, Distance, Open}
use Rattle.model.specs.declared.Intensity.TheVariants as intensities
use Rattle.model.specs.declared.Target.{Target}
use Rattle.model.specs.declared.Target.TheVariants as targets
use Rattle.model.specs.declared.Test.{Test}
use Rattle.model.specs.declared.Test.TheVariants as tests
use Rattle.model.specs.declared.Step.{Step}
use Rattle.model.specs.declared.Metric.TheVariants as metrics
use Rattle.model.specs.declared.Band.{Band}
use Rattle.model.specs.Target.{band, band_of}
use Rattle.power.specs.declared.Power3s.{Power3s}
use Rattle.power.specs.Power.{added, average_of}
use Rattle.readings.specs.declared.Sample.{Sample}
use Rattle.readings.specs.declared.Compliance.TheVariants.{Under, In, Over}
use Rattle.readings.specs.declared.ComplianceOption.{ComplianceOption}
use Rattle.readings.specs.declared.ComplianceOption.TheVariants as how
use Rattle.readings.specs.Readings.{no_readings, taken, compliance_of}
use Rattle.events.specs.Events.{Event}
use Rattle.state.specs.declared.Player.{Player}
use Rattle.start.specs.Start.{new_of}
use Rattle.outcomes.specs.Outcomes.{Called}
use Rattle.player.specs.Calls.{read_of, skip_of, extend_with, extend_of}
use Rattle.reports.specs.Reports.{remaining_secs}
use Rattle.bench_sheet.specs.BenchSheet.{profile, in_order, step, watts, ridden, two_steps}

abbrev pub no_power : Power3s
no_power = no_readings.power

-- Events by document 01's numbers: "kinds (0 countdown, 1 started, 2 finished, 3 FTP) and 16-bit values (seconds, position, 0, watts)".
abbrev pub event : ℕ → ℕ → Event
event kind value = record { kind = kind; value = value }

-- Compliance with a target at FTP 250 and LTHR 160, of a player that has read one sample.
abbrev pub compliance : Target → Sample → ComplianceOption
compliance target sample = compliance_of target (band_of target (profile 250 160) 0) (profile 250 160) (taken sample no_readings)

abbrev pub band_at : Target → ℕ → Option Band
band_at target elapsed = band_of target (profile 250 160) elapsed

abbrev pub power : ℕ → ℕ → Option Band
power low high = Some (band metrics.Power low high)

abbrev pub heart : ℕ → Sample
heart bpm = record { power_watts = None; heart_bpm = Some bpm; cadence_tenths = None }

abbrev pub tenths : ℕ → Sample
tenths cadence = record { power_watts = None; heart_bpm = None; cadence_tenths = Some cadence }

abbrev pub three_steps : Player
three_steps =
    (new_of
    (in_order tests.None (step intensities.Work (Time 10) ∷ step intensities.Work (Time 10) ∷ step intensities.Work (Time 10) ∷ []))
    ).player

-- The player after a ride.
abbrev pub after : Player → ℕ → Player
after p ms = (ridden p ms).player

abbrev pub seconds_left : Player → Option ℕ
seconds_left p = (remaining_secs p).secs

-- Two tests, one after the other, of so many seconds each.
abbrev pub two_tests : Test → ℕ → Player
two_tests test secs = (new_of (in_order test (step intensities.Test (Time secs) ∷ step intensities.Test (Time secs) ∷ []))).player

-- Ridden at so many watts; and a step given up, with 193 places for events.
abbrev pub ridden_at : ℕ → Player → ℕ → Called
ridden_at power p ms = ridden (read_of p (watts power)).player ms

abbrev pub skipped : Player → Called
skipped p = skip_of p 193 193

-- A player in the second of two tests, the first of them ridden at 53 W or, of a `Ramp` test with a full minute, at 200 W.
abbrev pub second_twenty : Player
second_twenty = (ridden_at 53 (two_tests tests.Twenty 10) 10000).player

abbrev pub second_ramp : Player
second_ramp = (ridden_at 200 (two_tests tests.Ramp 60) 60000).player

-- A step of a `Ramp` test: open, from 100 W, 20 W more every so many seconds. The test of it alone, ridden at so many watts.
abbrev pub up : ℕ → Step
up every = record { intensity = intensities.Test; length = Open; target = targets.Ramp 100 20 every; note = empty_name }

abbrev pub ramping : ℕ → ℕ → Player
ramping every power = (read_of (new_of (in_order tests.Ramp (up every ∷ []))).player (watts power)).player

abbrev pub hundred_metres : Player
hundred_metres = (new_of (in_order tests.None (step intensities.Work (Distance 100) ∷ []))).player

abbrev pub metres_more : Player → ℕ
metres_more p = p.core.lap.extra_m

pub record Facts : Type 0 where
  -- "Readings 100, 101: 101.", and of three: rounded half up
  pub three : average_of (added (Some 101) (added (Some 101) (added (Some 100) no_power))) ≡ Some 101
  pub four : average_of (added (Some 100) (added (Some 101) (added (Some 101) (added (Some 900) no_power)))) ≡ Some 101
  pub absent : average_of (added (Some 100) (added None (added (Some 150) no_power))) ≡ Some 125
  pub lone : average_of (added None (added (Some 150) no_power)) ≡ Some 150
  pub no-reading : average_of (added None no_power) ≡ None
  -- model.rs, `band`: one of each kind of target, at FTP 250 and LTHR 160, some seconds into its step
  pub no_target : band_at targets.Free 0 ≡ None
  pub watts_band : band_at (targets.Watts 100 200) 0 ≡ power 100 200
  pub lthr_band : band_at (targets.Lthr 81 90) 0 ≡ Some (band metrics.Heart 130 144)
  pub cadence_band : band_at (targets.Cadence 85 95) 0 ≡ Some (band metrics.Cadence 85 95)
  pub ramp-band : (band_at (targets.Ramp 100 20 60) 59 ≡ power 95 110) × (band_at (targets.Ramp 100 20 60) 60 ≡ power 114 132)
  pub ftp_ramp_band : (band_at (targets.FtpRamp 50 5 60) 59 ≡ power 119 138) × (band_at (targets.FtpRamp 50 5 60) 60 ≡ power 131 152)
  -- "FTP 250, 90 to 95%: 225 to 238.": a reading at either end is In
  pub low_end : (compliance (targets.Ftp 90 95) (watts 224) ≡ how.Some Under) × (compliance (targets.Ftp 90 95) (watts 225) ≡ how.Some In)
  pub high_end : (compliance (targets.Ftp 90 95) (watts 238) ≡ how.Some In) × (compliance (targets.Ftp 90 95) (watts 239) ≡ how.Some Over)
  -- player.rs, `reading`: tenths of a turn as whole turns, half a turn up
  pub turns : (compliance (targets.Cadence 90 95) (tenths 894) ≡ how.Some Under) × (compliance (targets.Cadence 90 95) (tenths 895) ≡ how.Some In)
  -- "For a heart zone compliance compares zones and not the band: at LTHR 160 zone 1 shows 104 to 129, and 90 bpm is In."
  pub zone_1 : (compliance (targets.HeartZone 1) (heart 90) ≡ how.Some In) × (compliance (targets.HeartZone 1) (heart 130) ≡ how.Some Over)
  pub zone_2 : (compliance (targets.HeartZone 2) (heart 129) ≡ how.Some Under) × (compliance (targets.HeartZone 2) (heart 130) ≡ how.Some In)
  pub zones : (heart_zone (profile 250 160) 1 ≡ 1) × (heart_zone (profile 250 160) 160 ≡ 5)
  pub no_heart : compliance (targets.HeartZone 1) (watts 150) ≡ how.NoReading
  pub no_band : compliance targets.Free (watts 150) ≡ how.NoBand
  -- "Answers carry the parts made, which are the rounds of that loop that ride; one left at its start is none."
  pub one_part : ((ridden three_steps 1).parts ≡ 1) × ((ridden three_steps 10000).parts ≡ 1)
  pub two_parts : ((ridden three_steps 10001).parts ≡ 2) × ((ridden three_steps 20000).parts ≡ 2)
  pub three_parts : ((ridden three_steps 20001).parts ≡ 3) × ((ridden three_steps 40000).parts ≡ 3)
  pub no_parts : ((ridden three_steps 0).parts ≡ 0) × ((ridden (after three_steps 30000) 1000).parts ≡ 0)
  -- "kinds (0 countdown, 1 started, 2 finished, 3 FTP)": a step's end, the last one's, and those of a `Twenty` test
  pub ends : (ridden three_steps 40000).events ≡ event 1 1 ∷ event 1 2 ∷ event 2 0 ∷ []
  pub tested : (ridden (read_of (new_of (in_order tests.Twenty (step intensities.Test (Time 10) ∷ []))).player (watts 200)).player 10000).events ≡ event 3 190 ∷ event 2 0 ∷ []
  -- player.rs, `COUNTDOWN_S`: 3, 2 and 1 s before a step's end, once each, and not in the part that ends it
  pub counted_at_once : (ridden two_steps 9999).events ≡ event 0 3 ∷ event 0 2 ∷ event 0 1 ∷ []
  pub before_mark : (ridden two_steps 6999).events ≡ []
  pub at_mark : ((ridden two_steps 7000).events ≡ event 0 3 ∷ []) × ((ridden (after two_steps 7000) 1).events ≡ [])
  pub in_many : ((ridden (after two_steps 7000) 1000).events ≡ event 0 2 ∷ []) × ((ridden (after two_steps 8000) 1000).events ≡ event 0 1 ∷ [])
  pub in_the_end : (ridden (after two_steps 9000) 1000).events ≡ event 1 1 ∷ []
  -- player.rs, `remaining_secs`: rounded up
  pub left : (seconds_left (after two_steps 1) ≡ Some 20) × (seconds_left (after two_steps 999) ≡ Some 20)
  pub left_less : (seconds_left (after two_steps 1000) ≡ Some 19) × (seconds_left (after two_steps 19999) ≡ Some 1)
  -- player.rs, `RAMP_FAIL_PCT`, `RAMP_FAIL_MS`: a rider under 90 % of the ramp for 10,000 ms gives up, and one at 90 % doesn't
  pub gives_up : (ridden (ramping 10 89) 10000).events ≡ event 2 0 ∷ []
  pub just_not : ((ridden (ramping 10 89) 9999).events ≡ []) × ((ridden (after (ramping 10 89) 9999) 1).events ≡ event 2 0 ∷ [])
  pub holds : (ridden (after (ramping 10 90) 9999) 1).events ≡ []
  -- document 02, i: "The plain extend call now gives 30 s or 250 m.", and a call with the amount
  pub plain : (seconds_left (extend_of two_steps).player ≡ Some 50) × (metres_more (extend_of hundred_metres).player ≡ 250)
  pub by_amount : (seconds_left (extend_with 60 500 two_steps).player ≡ Some 80) × (metres_more (extend_with 60 500 hundred_metres).player ≡ 500)
  -- "its extra at most 86,400 s or 1,000,000 m after it? 15"
  pub most_seconds : ((extend_with 86400 0 two_steps).answer ≡ Ok tt) × ((extend_with 86401 0 two_steps).answer ≡ Err refusals.Extra)
  pub most_metres : ((extend_with 0 1000000 hundred_metres).answer ≡ Ok tt) × ((extend_with 0 1000001 hundred_metres).answer ≡ Err refusals.Extra)
  -- 0 at the limit is let through; "Open or finished gives `false`, no refusal."
  pub none_more : (extend_with 0 0 (extend_with 86400 0 two_steps).player).extended ≡ true
  pub not_extended_lem : ((extend_of (ramping 10 90)).extended ≡ false) × ((extend_of (after three_steps 30000)).extended ≡ false)
  -- document 02, d: "Test sums, seconds' list, rest and best minute now begin empty whenever a step starts.", after an end and after a skip
  pub own_average : ((ridden_at 53 (two_tests tests.Twenty 10) 10000).events ≡ event 3 50 ∷ event 1 1 ∷ []) × ((ridden_at 200 second_twenty 10000).events ≡ event 3 190 ∷ event 2 0 ∷ [])
  pub own_after_skip : (ridden_at 200 (skipped (ridden_at 53 (two_tests tests.Twenty 10) 9000).player).player 10000).events ≡ event 3 190 ∷ event 2 0 ∷ []
  pub own_minute : ((ridden_at 200 (two_tests tests.Ramp 60) 60000).events ≡ event 3 150 ∷ event 1 1 ∷ []) × ((ridden_at 100 second_ramp 60000).events ≡ event 3 75 ∷ event 2 0 ∷ [])
  pub own_seconds : (skipped (ridden_at 200 second_ramp 59000).player).events ≡ event 2 0 ∷ []
  pub own_rest : (skipped (ridden_at 200 (skipped (ridden_at 200 (two_tests tests.Ramp 60) 500).player).player 59500).player).events ≡ event 2 0 ∷ []
  -- at the finish no step starts: what was measured stays
  pub at_finish : (after second_twenty 10000).core.measured.test_ms ≡ 10000
  -- the time under a ramp isn't in that list and runs on: 5,000 ms of one step and 6,000 of the next
  pub low_runs_on : (ridden (skipped (after (read_of (new_of (in_order tests.Ramp (up 6 ∷ up 6 ∷ []))).player (watts 89)).player 5000)).player 6000).events ≡ event 2 0 ∷ []
  -- player.rs, `ramp_failed`: not before the first stage's end
  pub first_stage : ((ridden (ramping 20 89) 19999).events ≡ []) × ((ridden (ramping 20 89) 20000).events ≡ event 2 0 ∷ [])
