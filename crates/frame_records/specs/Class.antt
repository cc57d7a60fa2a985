-- Four bikes in a full class, the supply short, then one finishes: what `grant` answers, call by call. So the statements about grants
-- and records are of something. Crate `class` is the same class as a program.
use Rattle.std.specs.Prelude.{◌≡◌, List, [], ◌∷◌, map, ℕ, Err, Ok}
use Rattle.refusal.specs.declared.Refusal.{Refusal}
use Rattle.refusal.specs.declared.Refusal.TheVariants.{Profile, Standing, BikeNumber}
use Rattle.names.specs.Names.{empty_name}
use Rattle.model.specs.declared.Intensity.TheVariants.{Work}
use Rattle.model.specs.declared.Length.{Length}
use Rattle.model.specs.declared.Length.TheVariants.{Time, Open}
use Rattle.model.specs.declared.Target.{Target}
use Rattle.model.specs.declared.Target.TheVariants.{Free, Ftp, Watts, HeartZone, Lthr, Cadence, Ramp, FtpRamp}
use Rattle.model.specs.declared.Test.TheVariants.{None}
use Rattle.model.specs.declared.Workout.{Workout}
use Rattle.model.specs.Workout.{empty_workout}
use Rattle.start.specs.Start.{new_of}
use Rattle.frame.specs.declared.Bike.{Bike}
use Rattle.frame.specs.declared.Granted.{Granted}
use Rattle.frame.specs.Frame.{want_of, bikes_answer}
use Rattle.machine.specs.Samples.{workout}
use Rattle.machine.specs.Cutting.{ride, skip}
use Rattle.frame_records.specs.Apart.{FrameCall, call, grant, frame_run}

abbrev pub one_step : Length → Target → Workout
one_step lasts target = workout None (record { intensity = Work; length = lasts; target = target; note = empty_name } ∷ [])

-- A fresh bike on a workout of one step, under its rider's FTP.
abbrev pub bike_of : ℕ → Length → Target → Bike
bike_of ftp lasts target = record { player = (new_of (one_step lasts target)).player; profile = record { ftp_watts = ftp; lthr_bpm = 160 } }

-- A rider at 90 to 100 % of FTP for ten minutes.
abbrev pub rider : ℕ → Bike
rider ftp = bike_of ftp (Time 600) (Ftp 90 100)

-- A bike whose workout was refused: its player doesn't stand.
abbrev pub without_workout : ℕ → Bike
without_workout ftp = record { player = (new_of empty_workout).player; profile = record { ftp_watts = ftp; lthr_bpm = 160 } }

abbrev pub riders : List Bike
riders = rider 200 ∷ rider 250 ∷ rider 300 ∷ rider 180 ∷ []

-- Each bike is asked for.
abbrev pub ask_all : ℕ → List FrameCall
ask_all supply = grant supply 0 ∷ grant supply 1 ∷ grant supply 2 ∷ grant supply 3 ∷ []

abbrev pub granted : ℕ → Granted
granted watts = record { answer = (Ok tt); watts = watts }

abbrev pub refused : Refusal → Granted
refused refusal = record { answer = Err refusal; watts = 0 }

pub record FullClass : Type 0 where
  pub stand : bikes_answer riders ≡ Ok tt
  pub wanted : map want_of riders ≡ 200 ∷ 250 ∷ 300 ∷ 180 ∷ []
  -- 930 W wanted of 800: at 210 W they come to 800
  pub short : (frame_run (ask_all 800) riders).grants ≡ granted 200 ∷ granted 210 ∷ granted 210 ∷ granted 180 ∷ []
  -- bike 2 skips its only step, lent the three places that question 14 wants, and is finished: its watts go to the others
  pub finished : (frame_run (call 2 (skip 3 3) ∷ ask_all 800) riders).grants ≡ granted 200 ∷ granted 250 ∷ granted 0 ∷ granted 180 ∷ []
  -- a power band of each kind, and steps without one
  pub power_bands : map want_of (bike_of 200 (Time 9) (Ftp 50 75) ∷ bike_of 200 (Time 9) (Watts 100 140) ∷ bike_of 200 Open (Ramp 100 20 60) ∷ bike_of 200 Open (FtpRamp 50 5 60) ∷ [])
      ≡ 150 ∷ 140 ∷ 110 ∷ 110 ∷ []
  pub no_power_lem : map want_of (bike_of 200 (Time 9) (HeartZone 2) ∷ bike_of 200 (Time 9) (Lthr 80 90) ∷ bike_of 200 (Time 9) (Cadence 80 90) ∷ bike_of 200 (Time 9) Free ∷ [])
      ≡ 0 ∷ 0 ∷ 0 ∷ 0 ∷ []
  -- a ramp's want rises with its stage: of 100 W in second 59, of 120 W in second 60
  pub rising : (frame_run (call 0 (ride 59999 0 193 193) ∷ grant 800 0 ∷ call 0 (ride 1 0 193 193) ∷ grant 800 0 ∷ [])
      (bike_of 200 Open (Ramp 100 20 60) ∷ rider 200 ∷ rider 200 ∷ rider 200 ∷ [])).grants
      ≡ granted 110 ∷ granted 132 ∷ []
  -- a rider's FTP is out of range: nobody is granted anything
  pub out_of_range : (frame_run (ask_all 800) (rider 200 ∷ rider 250 ∷ rider 300 ∷ rider 49 ∷ [])).grants
      ≡ refused Profile ∷ refused Profile ∷ refused Profile ∷ refused Profile ∷ []
  -- 20 before 10 in one bike; bike 0's 10 before bike 1's 20; bike 1's 20 before bike 2's 10, whichever bike is named
  pub standing_first : (frame_run (grant 800 3 ∷ []) (without_workout 49 ∷ rider 250 ∷ rider 300 ∷ rider 180 ∷ [])).grants ≡ refused Standing ∷ []
  pub in_turn : (frame_run (grant 800 3 ∷ []) (rider 49 ∷ without_workout 250 ∷ rider 300 ∷ rider 180 ∷ [])).grants ≡ refused Profile ∷ []
  pub turn_after : (frame_run (grant 800 0 ∷ []) (rider 200 ∷ without_workout 250 ∷ rider 49 ∷ rider 180 ∷ [])).grants ≡ refused Standing ∷ []
  -- 29 before all else
  pub no_such_bike : (frame_run (grant 800 4 ∷ []) (without_workout 49 ∷ rider 250 ∷ rider 300 ∷ rider 180 ∷ [])).grants ≡ refused BikeNumber ∷ []
