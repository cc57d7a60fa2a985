-- What the benchmark of the player rides.
use Rattle.std.specs.Prelude.{List, ℕ, zero, suc, None, Some}
use Rattle.zones.specs.declared.TrainingProfile.{TrainingProfile}
use Rattle.decode.specs.Decode.{decode_of}
use Rattle.readings.specs.declared.Sample.{Sample}
use Rattle.state.specs.declared.Player.{Player}
use Rattle.start.specs.Start.{new_of}
use Rattle.player.specs.Calls.{read_of, ride_of}

abbrev pub sample : Sample
sample = record { power_watts = Some 150; heart_bpm = None; cadence_tenths = None }

abbrev pub profile : TrainingProfile
profile = record { ftp_watts = 200; lthr_bpm = 160 }

-- A fresh player of a workout file, after a reading of 150 W.
unfoldable pub begun_of : List ℕ → Player
begun_of file = (read_of (new_of (decode_of file).workout).player sample).player

-- 250 ms over 2 m.
unfoldable pub ridden_of : Player → Player
ridden_of p = (ride_of p 250 2000 profile 193 193).player

unfoldable pub rides_of : ℕ → Player → Player
rides_of zero p = p
rides_of (suc n) p = rides_of n (ridden_of p)
