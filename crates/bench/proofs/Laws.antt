-- Rides one after the other; grants one after the other.
use Rattle.std.specs.Prelude.{Err, Ok}
use mathlib.Core.Path.{◌≡◌, refl, sym, ap, ◌∙◌}
use Prim.Native.Nat.{ℕ, zero, suc, ◌+◌, ◌-◌, ◌≤◌, ◌<◌}
use native.Mathlib.Omega.{arith}
use mathlib.Core.Bool.{true, false}
use mathlib.Core.List.{List}
use native.Mathlib.Numerals.{add-one}
use Rattle.refusal.specs.declared.Refusal.{Refusal}
use Rattle.state.specs.declared.Player.{Player}
use Rattle.standing.specs.Standing.{standing_of}
use Rattle.outcomes.specs.Outcomes.{Called}
use Rattle.updates.specs.Updates.{ride_now}
use Rattle.player.specs.Calls.{update_answer}
use Rattle.player.proofs.Laws.{ride-20, ride-refused, ride-taken}
use Rattle.keeps.specs.Keeps.{PlayerFits}
use Rattle.keeps.proofs.Calls.{ride-kept}
use Rattle.frame.specs.declared.Bike.{Bike}
use Rattle.bench.specs.Rides.{profile, ridden_of, rides_of}
use Rattle.bench.specs.Grants.{asked_watts, watts_total}

pub rides-next : (n i : ℕ) (p q : Player) → i < n → rides_of (n - i) p ≡ q → rides_of (n - (i + 1)) (ridden_of p) ≡ q
unfolding rides_of
rides-next n i p q h e =
    let one : n - i ≡ suc (n - (i + 1)) = omega arith in
    sym (ap (λ (k : ℕ). rides_of k p) one) ∙ e

pub rides-start : (n : ℕ) (p q : Player) → p ≡ q → rides_of (n - 0) p ≡ rides_of n q
rides-start n p q e = let all : n - 0 ≡ n = omega arith in ap (λ (k : ℕ). rides_of k p) all ∙ ap (rides_of n) e

pub rides-end : (n i : ℕ) (p : Player) → n ≤ i → rides_of (n - i) p ≡ p
unfolding rides_of
rides-end n i p h = let none : n - i ≡ 0 = omega arith in ap (λ (k : ℕ). rides_of k p) none

module _ (p : Player) where
  not-ridden : standing_of p ≡ false → ridden_of p ≡ p
  unfolding ridden_of
  not-ridden e = sym (ap (λ (o : Called). o.player) (ride-20 p 250 2000 profile 193 193 e))

  -- a player that doesn't stand stays
  pub rides-refused : standing_of p ≡ false → (n : ℕ) → rides_of n p ≡ p
  unfolding rides_of
  rides-refused e zero = refl
  rides-refused e (suc n) = ap (rides_of n) (not-ridden e) ∙ rides-refused e n

  module _ (e : standing_of p ≡ true) where
    pub refused-ride : (r : Refusal) → update_answer p.core 250 2000 193 193 ≡ Err r → p ≡ ridden_of p
    unfolding ridden_of
    refused-ride r u = ap (λ (o : Called). o.player) (ride-refused p 250 2000 profile 193 193 r e refl u)

    pub taken-ride : update_answer p.core 250 2000 193 193 ≡ Ok tt → (ride_now p 250 2000 profile).player ≡ ridden_of p
    unfolding ridden_of
    taken-ride u = ap (λ (o : Called). o.player) (ride-taken p 250 2000 profile 193 193 e refl u)

    pub ridden-stands : PlayerFits p → standing_of (ridden_of p) ≡ true
    unfolding ridden_of
    ridden-stands fits = ride-kept p 250 2000 profile 193 193 fits e

pub total-start : (bikes : List Bike) → 0 ≡ watts_total 0 bikes
unfolding watts_total
total-start bikes = refl

pub total-next : (i : ℕ) (bikes : List Bike) → watts_total i bikes + asked_watts bikes i ≡ watts_total (i + 1) bikes
unfolding watts_total
total-next i bikes = sym (ap (λ (k : ℕ). watts_total k bikes) (add-one i))
