-- The average's places read backwards from the next one are the newest three readings, absent before the first.
use Rattle.std.specs.Prelude.{None, Option, Some, is_some}
use mathlib.Core.Path.{◌≡◌, refl, sym, ap, ap₂, ◌∙◌}
use mathlib.Core.Bool.{Bool}
use mathlib.Core.List.{List, [], ◌∷◌, ◌++◌, map, reverse, reverse-cons}
use Prim.Native.Nat.{ℕ, zero, suc, ◌+◌, ◌%◌, ◌≤◌, ◌<◌}
use native.Mathlib.Nat.{mod-lt, mod-eq_of_lt, le_of_suc-le-suc, not-suc-le-zero}
use native.Mathlib.Omega.{arith}
use lib.ListN.{length, take, drop, set, replicate, length-set, length-take, length-append, take-append-drop, length-map}
use lib.Seq.{take-take}
use Rattle.common.specs.Lists.{sum}
use Rattle.readings.specs.declared.Sample.{Sample}
use Rattle.power.specs.declared.Power3s.{Power3s}
use Rattle.power.specs.Power.{or_zero, count_of, reading_at, window, mean_by, average, average_of, added}
use Rattle.machine.specs.Machine.{if_present, present, average_watts, mean}
use Rattle.machine.proofs.Seconds.{backwards, stored, sum-append}

abbrev pub power_of : Sample → Option ℕ
power_of sample = sample.power_watts

pub record PowerIs (a : Power3s) (samples : List Sample) : Type 0 where
  pub watts : length a.watts ≡ 3
  pub present : length a.present ≡ 3
  pub place : a.next < 3
  pub few : length samples ≤ 3
  pub same : backwards (window a.present a.watts) a.next ≡ take 3 (map power_of samples ++ replicate 3 None)

-- A sum over the readings, whatever their order and however many are absent.
module _ {A : Type 0} (f : A → ℕ) where
  total-append : (xs ys : List A) → sum (map f (xs ++ ys)) ≡ sum (map f xs) + sum (map f ys)
  unfolding sum
  total-append [] ys = omega arith
  total-append (x ∷ xs) ys = omega (arith, total-append xs ys)

  total-reverse : (xs : List A) → sum (map f (reverse xs)) ≡ sum (map f xs)
  unfolding sum
  total-reverse [] = refl
  total-reverse (x ∷ xs) = rw (reverse-cons, total-append (reverse xs) (x ∷ [])) (omega (arith, total-reverse xs))

  total-backwards : (xs : List A) (at : ℕ) → sum (map f (backwards xs at)) ≡ sum (map f xs)
  unfolding backwards
  total-backwards xs at =
      rw (total-append, total-reverse (take at xs), total-reverse (drop at xs), ← total-append (take at xs) (drop at xs), take-append-drop) refl

  total-none : (z : A) → f z ≡ 0 → (k n : ℕ) → sum (map f (take k (replicate n z))) ≡ 0
  unfolding sum
  total-none z e zero n = refl
  total-none z e (suc k) zero = refl
  total-none z e (suc k) (suc n) = omega (arith, e, total-none z e k n)

  total-padded : (z : A) → f z ≡ 0 → (k n : ℕ) (xs : List A) → length xs ≤ k → sum (map f (take k (xs ++ replicate n z))) ≡ sum (map f xs)
  unfolding sum
  total-padded z e k n [] h = total-none z e k n
  total-padded z e zero n (x ∷ xs) h = absurd (not-suc-le-zero h)
  total-padded z e (suc k) n (x ∷ xs) h = omega (arith, total-padded z e k n xs (le_of_suc-le-suc h))

-- The window.

reading-same : (r : Option ℕ) → reading_at (is_some r) (or_zero r) ≡ r
reading-same None = refl
reading-same (Some watts) = refl

window-set : (i : ℕ) (r : Option ℕ) (bs : List Bool) (ws : List ℕ) → length bs ≡ length ws
    → window (set bs i (is_some r)) (set ws i (or_zero r)) ≡ set (window bs ws) i r
unfolding window
window-set i r [] [] e = refl
window-set i r [] (x ∷ ws) e = absurd (omega (arith, e))
window-set i r (c ∷ bs) [] e = absurd (omega (arith, e))
window-set zero r (c ∷ bs) (x ∷ ws) e = ap (λ (o : Option ℕ). o ∷ window bs ws) (reading-same r)
window-set (suc i) r (c ∷ bs) (x ∷ ws) e = ap (λ (l : List (Option ℕ)). reading_at c x ∷ l) (window-set i r bs ws (omega (arith, e)))

window-length : (bs : List Bool) (ws : List ℕ) → length bs ≡ length ws → length (window bs ws) ≡ length ws
unfolding window
window-length [] [] e = refl
window-length [] (x ∷ ws) e = absurd (omega (arith, e))
window-length (c ∷ bs) [] e = absurd (omega (arith, e))
window-length (c ∷ bs) (x ∷ ws) e = ap suc (window-length bs ws (omega (arith, e)))

map-take : {A B : Type 0} (f : A → B) (k : ℕ) (xs : List A) → map f (take k xs) ≡ take k (map f xs)
map-take f zero xs = refl
map-take f (suc k) [] = refl
map-take {A} {B} f (suc k) (x ∷ xs) = ap (λ (l : List B). f x ∷ l) (map-take f k xs)

take-front : {A : Type 0} (k : ℕ) (xs ys : List A) → take k (take k xs ++ ys) ≡ take k (xs ++ ys)
take-front zero xs ys = refl
take-front (suc k) [] ys = refl
take-front {A} (suc k) (x ∷ xs) ys = ap (λ (l : List A). x ∷ l) (take-front k xs ys)

-- The player's sums over all readings, absent ones as 0, are the machine's over those present.

one-sum : (r : Option ℕ) → sum (if_present r) ≡ or_zero r
unfolding sum
one-sum None = refl
one-sum (Some watts) = omega arith

one-length : (r : Option ℕ) → length (if_present r) ≡ count_of r
one-length None = refl
one-length (Some watts) = refl

present-sum : (samples : List Sample) → sum (map or_zero (map power_of samples)) ≡ sum (present samples)
unfolding sum present
present-sum [] = refl
present-sum (x ∷ xs) = omega (arith, sum-append (if_present (power_of x)) (present xs), one-sum (power_of x), present-sum xs)

present-length : (samples : List Sample) → sum (map count_of (map power_of samples)) ≡ length (present samples)
unfolding sum present
present-length [] = refl
present-length (x ∷ xs) = omega (arith, length-append (if_present (power_of x)) (present xs), one-length (power_of x), present-length xs)

mean-is : (ws : List ℕ) → mean_by (sum ws) (length ws) ≡ average_watts ws
unfolding mean_by mean
mean-is [] = refl
mean-is (w ∷ ws) = refl

-- the player's mean of some readings is the machine's
pub law-average : (samples : List Sample) → average (map power_of samples) ≡ average_watts (present samples)
unfolding average
law-average samples = ap₂ mean_by (present-sum samples) (present-length samples) ∙ mean-is (present samples)

-- "the three-reading average" is that of the newest three readings
pub average-is : (a : Power3s) (samples : List Sample) → PowerIs a samples → average_of a ≡ average_watts (present samples)
unfolding average_of average
average-is a samples R =
    let held : List (Option ℕ) = window a.present a.watts in
    let few : length (map power_of samples) ≤ 3 = rw (length-map samples power_of) R.few in
    ap₂ mean_by
    (sym (total-backwards or_zero held a.next) ∙ ap (λ (l : List (Option ℕ)). sum (map or_zero l)) R.same ∙ total-padded or_zero None refl 3 3 (map power_of samples) few)
    (sym (total-backwards count_of held a.next) ∙ ap (λ (l : List (Option ℕ)). sum (map count_of l)) R.same ∙ total-padded count_of None refl 3 3 (map power_of samples) few)
    ∙ law-average samples

module _ (sample : Sample) (a : Power3s) (samples : List Sample) (R : PowerIs a samples) where
  abbrev r : Option ℕ
  r = power_of sample

  same-added : backwards (window (set a.present a.next (is_some r)) (set a.watts a.next (or_zero r))) ((a.next + 1) % 3)
      ≡ r ∷ take 2 (map power_of (take 2 samples) ++ replicate 3 None)
  same-added =
      let held : List (Option ℕ) = window a.present a.watts in
      let l : length a.present ≡ length a.watts = R.present ∙ sym R.watts in
      let n : length held ≡ 3 = window-length a.present a.watts l ∙ R.watts in
      rw (window-set a.next r a.present a.watts l)
      (stored 2 a.next r held n R.place
      ∙ ap (λ (xs : List (Option ℕ)). r ∷ xs)
      (ap (take 2) R.same
      ∙ take-take 2 3 (map power_of samples ++ replicate 3 None) (omega arith)
      ∙ sym (take-front 2 (map power_of samples) (replicate 3 None))
      ∙ ap (λ (xs : List (Option ℕ)). take 2 (xs ++ replicate 3 None)) (sym (map-take power_of 2 samples))))

  -- "takes one reading a call"
  pub added_is : PowerIs (added sample.power_watts a) (take 3 (sample ∷ samples))
  unfolding added
  added_is =
      let here : a.next % 3 ≡ a.next = mod-eq_of_lt R.place in
      rw here
      (record {
        watts = rw length-set R.watts;
        present = rw length-set R.present;
        place = mod-lt (a.next + 1) (omega arith);
        few = rw (length-take 3 (sample ∷ samples)) (omega arith);
        same = same-added;
      })
