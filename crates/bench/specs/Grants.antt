-- What the benchmark of the four bikes asks.
use Rattle.std.specs.Prelude.{List, [], ◌∷◌, ℕ, zero, suc, ◌+◌, ◌%◌}
use Rattle.state.specs.declared.Player.{Player}
use Rattle.frame.specs.declared.Bike.{Bike}
use Rattle.frame.specs.Frame.{grant_of}

abbrev pub asked_bike : Player → ℕ → Bike
asked_bike p ftp = record { player = p; profile = record { ftp_watts = ftp; lthr_bpm = 160 } }

unfoldable pub asked_bikes : Player → List Bike
asked_bikes p = asked_bike p 180 ∷ asked_bike p 200 ∷ asked_bike p 250 ∷ asked_bike p 300 ∷ []

-- The i-th grant: the bikes in turn, of 700 to 899 W.
unfoldable pub asked_watts : List Bike → ℕ → ℕ
asked_watts bikes i = (grant_of bikes (700 + i % 200) (i % 4)).watts

unfoldable pub watts_total : ℕ → List Bike → ℕ
watts_total zero bikes = 0
watts_total (suc n) bikes = watts_total n bikes + asked_watts bikes n
