-- A sum over a time, and one that is e higher: how far a `Twenty` result moves, with both its roundings.
use Rattle.std.specs.Prelude.{None, Option, Some}
use mathlib.Core.Path.{◌≡◌, ap}
use mathlib.Core.Bool.{Bool, true, false, cond, ◌&&◌}
use mathlib.Core.List.{[]}
use Prim.Native.Nat.{ℕ, zero, suc, ◌+◌, ◌-◌, ◌*◌, ◌/◌, ◌≤◌, ◌<◌}
use native.Mathlib.Nat.{add-mul, one-mul, div-lt_iff_lt-mul, div-zero}
use native.Mathlib.Omega.{arith}
use lib.Dec.{leb}
use Rattle.power.specs.Power.{or_zero}
use Rattle.machine.specs.Machine.{Sums, kept, twenty_watts}
use Rattle.one_reading.specs.OneReading.{quotient_up}

some_is : {f g : ℕ} → Some f ≡ Some g → f ≡ g
some_is e = ap or_zero e

abbrev is_some : Option ℕ → ℕ
is_some None = 0
is_some (Some watts) = 1

pub none-not : {A : Type 0} {g : ℕ} → None ≡ Some g → A
none-not e = absurd (let z : ◌≡◌ {A = ℕ} 0 1 = ap is_some e in omega arith)

kept_by : (b : Bool) (f g : ℕ) → cond b (Some f) None ≡ Some g → f ≡ g
kept_by true f g e = some_is e
kept_by false f g e = none-not e

-- The machine's result of a sum over a time; the mean in it.
abbrev sums_of : ℕ → ℕ → Sums
sums_of S T = record { sum = S; time = T; rest = 0; seconds = [] }

abbrev pub twenty_of : ℕ → ℕ → Option ℕ
twenty_of S T = kept (twenty_watts (sums_of S T))

abbrev mean_of : ℕ → ℕ → ℕ
mean_of S T = (S + T / 2) / T

twenty-watts : (S T f : ℕ) → twenty_of S T ≡ Some f → twenty_watts (sums_of S T) ≡ f
twenty-watts S T f e =
    let watts : ℕ = twenty_watts (sums_of S T) in
    kept_by (leb 50 watts && leb watts 600) watts f e

-- without time there is no result
pub some_time : (S T f : ℕ) → twenty_of S T ≡ Some f → 0 < T
some_time S zero f e = none-not (rw (div-zero (S + 0)) at e)
some_time S (suc T) f e = omega arith

mean-not-lower : (S e T : ℕ) → 0 < T → mean_of S T ≤ mean_of (S + e) T
mean-not-lower S e T h =
    let above : S + e + T / 2 < (mean_of (S + e) T + 1) * T = (div-lt_iff_lt-mul h).0 (omega arith) in
    let below : mean_of S T < mean_of (S + e) T + 1 = (div-lt_iff_lt-mul h).1 (omega arith) in
    omega arith

mean-at-most : (S e T : ℕ) → 0 < T → mean_of (S + e) T ≤ mean_of S T + quotient_up e T
unfolding quotient_up
mean-at-most S e T h =
    let a : ℕ = mean_of S T in
    let k : ℕ = (e + (T - 1)) / T in
    let u : S + T / 2 < (a + 1) * T = (div-lt_iff_lt-mul h).0 (omega arith) in
    let v : e + (T - 1) < (k + 1) * T = (div-lt_iff_lt-mul h).0 (omega arith) in
    let z : S + e + T / 2 < (a + k + 1) * T = omega (arith, add-mul a 1 T, add-mul k 1 T, add-mul (a + k) 1 T, add-mul a k T, one-mul T) in
    let below : mean_of (S + e) T < a + k + 1 = (div-lt_iff_lt-mul h).1 z in
    omega arith

-- both roundings: 95 percent of a mean that is n higher is at most n higher
pub twenty-moves : (S e T f g : ℕ) → 0 < T → twenty_of S T ≡ Some f → twenty_of (S + e) T ≡ Some g → (f ≤ g) × (g ≤ f + quotient_up e T)
twenty-moves S e T f g h x y =
    let a = twenty-watts S T f x in
    let b = twenty-watts (S + e) T g y in
    let low = mean-not-lower S e T h in
    let high = mean-at-most S e T h in
    (omega arith, omega arith)
