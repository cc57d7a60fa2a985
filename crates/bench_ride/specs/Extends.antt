-- Document 02, i: "kind 4 keeps 60 s and 500 m .., and a new kind 5 means the default", from the bytes of a sheet to how the bench
-- sheet's step of 10 s goes. The definitions are held against these numbers.
use Rattle.std.specs.Prelude.{◌≡◌, Bool, true, false, List, [], ◌∷◌, ◌++◌, ℕ}
use Rattle.le.specs.Le.{bytes_of}
use Rattle.replay.specs.Replay.{ridden_of}
use Rattle.bench_ride.specs.BenchRide.{file, answered}

-- A sheet of a profile of 200 and 160, an act of this kind with this byte first in its value, and a ride of so many milliseconds.
abbrev pub sheet_with : ℕ → ℕ → ℕ → List ℕ
sheet_with kind byte ms =
    (3 ∷ 0 ∷ 0 ∷ kind ∷ 2 ∷ 200 ∷ 0 ∷ 160 ∷ 0 ∷ 0 ∷ 0 ∷ 0 ∷ 0 ∷ byte ∷ 0 ∷ 0 ∷ 0 ∷ 0 ∷ 0 ∷ 0 ∷ 0 ∷ []) ++ (bytes_of 4 ms ++ bytes_of 4 0)

-- Whether the ride came to the step's end.
abbrev pub is_finished : ℕ → ℕ → Bool
is_finished kind ms = (ridden_of file (sheet_with kind 0 ms) 74).summary.finished

pub record ExtendedRides : Type 0 where
  -- 10 s and 60
  pub kind_4 : (is_finished 4 69999 ≡ false) × (is_finished 4 70000 ≡ true)
  -- 10 s and 30
  pub kind_5 : (is_finished 5 39999 ≡ false) × (is_finished 5 40000 ≡ true)
  -- "Unused bytes .. are 0", and there is no kind 6
  pub with_value : answered file (sheet_with 5 1 40000) ≡ record { refusal = 17; act = 1 }
  pub kind_6 : answered file (sheet_with 6 0 40000) ≡ record { refusal = 17; act = 1 }
