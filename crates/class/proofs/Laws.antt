-- One of the bikes changed, as a place of the array set.
use mathlib.Core.Path.{◌≡◌, refl, ap}
use mathlib.Core.List.{List, [], ◌∷◌}
use Prim.Native.Nat.{ℕ, zero, suc, ◌<◌}
use native.Mathlib.Omega.{arith}
use lib.ListN.{length, get_or, set}
use Rattle.frame.specs.declared.Bike.{Bike}
use Rattle.frame_records.specs.Apart.{changed_at}

pub set-changed : (change : Bike → Bike) (bikes : List Bike) (i : ℕ) (d : Bike) → i < length bikes → set bikes i (change (get_or bikes i d)) ≡ changed_at i change bikes
unfolding changed_at
set-changed change [] i d h = absurd (omega arith)
set-changed change (b ∷ bs) zero d h = refl
set-changed change (b ∷ bs) (suc i) d h = ap (λ (l : List Bike). b ∷ l) (set-changed change bs i d (omega arith))
