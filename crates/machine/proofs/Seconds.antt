-- The minute ring read backwards from its place is the newest part of the machine's seconds, and its best minute their greatest
-- mean. All of it is for a minute of any number of seconds but none.
use Rattle.std.specs.Prelude.{None, Option, Some}
use mathlib.Core.Path.{◌≡◌, refl, sym, ap, ◌∙◌, subst}
use mathlib.Core.Bool.{Bool, true, false}
use mathlib.Core.List.{List, [], ◌∷◌, ◌++◌, reverse, reverse-append, reverse-cons, append_assoc, append-nil}
use Prim.Native.Nat.{ℕ, zero, suc, ◌+◌, ◌-◌, ◌%◌, ◌≤◌, ◌<◌, min}
use native.Mathlib.Nat.{add-suc, suc-add, zero-min, min-zero, suc-min-suc, mod-lt, mod-eq_of_lt, mod_self, zero-add}
use native.Mathlib.Numerals.{add-one}
use native.Mathlib.Omega.{arith}
use lib.Dec.{leb, eqb}
use lib.ListN.{length, take, drop, set, get_or, replicate, length-append, length-take, length-drop, length-set, length-reverse, length-replicate, take-append-drop, drop_of_length-le}
use lib.Seq.{take-nil, take-suc-set, drop-set-lt, drop-cons, take_at, take_all, take-take}
use borrow.Author.Tests.{eqb-true, eqb-false, leb-true, leb-false, le-leb, lt-leb}
use Rattle.common.specs.Lists.{sum}
use Rattle.measure.specs.Measure.{Minute, above, best_after, mean_of, pushed, pushes}
use Rattle.machine.specs.Machine.{mean, greater, greatest}

-- A ring's places, the newest first: those before its place, and then those from it on, each part backwards.
unfoldable pub backwards : {A : Type 0} → List A → ℕ → List A
backwards cells at = reverse (take at cells) ++ reverse (drop at cells)

-- A minute of n places holds the newest n of some seconds.
pub record MinuteIs (n : ℕ) (m : Minute) (seconds : List ℕ) : Type 0 where
  pub size : length m.watts ≡ n
  pub place : m.ring.minute_at < n
  pub full : m.ring.minute_len ≡ min n (length seconds)
  pub same : take m.ring.minute_len (backwards m.watts m.ring.minute_at) ≡ take n seconds
  pub best : m.ring.best_minute ≡ greatest n seconds

-- Sums.

pub sum-append : (xs ys : List ℕ) → sum (xs ++ ys) ≡ sum xs + sum ys
unfolding sum
sum-append [] ys = omega arith
sum-append (x ∷ xs) ys = omega (arith, sum-append xs ys)

pub sum-reverse : (xs : List ℕ) → sum (reverse xs) ≡ sum xs
unfolding sum
sum-reverse [] = refl
sum-reverse (x ∷ xs) = rw (reverse-cons, sum-append (reverse xs) (x ∷ [])) (omega (arith, sum-reverse xs))

sum-backwards : (cells : List ℕ) (at : ℕ) → sum (backwards cells at) ≡ sum cells
unfolding backwards
sum-backwards cells at =
    rw (sum-append, sum-reverse (take at cells), sum-reverse (drop at cells), ← sum-append (take at cells) (drop at cells), take-append-drop) refl

-- One value more.

module _ {A : Type 0} (k at : ℕ) (w : A) (cells : List A) (l : length cells ≡ suc k) (h : at < suc k) where
  -- all but the oldest
  but-oldest : take k (backwards cells at) ≡ reverse (take at cells) ++ reverse (drop (suc at) cells)
  unfolding backwards
  but-oldest =
      let q : at < length cells = omega arith in
      rw (drop-cons cells at w, reverse-cons, ← append_assoc)
      (take_at (reverse (take at cells) ++ reverse (drop (suc at) cells)) (get_or cells at w ∷ []) k
      (simp (length-append, length-reverse, length-take, length-drop) (omega arith)))

  front : reverse (take (suc at) (set cells at w)) ≡ w ∷ reverse (take at cells)
  front =
      let q : at < length cells = omega arith in
      rw (take-suc-set, reverse-append) refl

  stored-by : (b : Bool) → leb (suc (suc at)) (suc k) ≡ b
      → backwards (set cells at w) (suc at % suc k) ≡ w ∷ (reverse (take at cells) ++ reverse (drop (suc at) cells))
  unfolding backwards
  stored-by true e =
      let lt : suc at < suc k = leb-true _ _ e in
      let z : at < suc at = omega arith in
      rw (mod-eq_of_lt lt, front, drop-set-lt (suc at) cells at w z) refl
  stored-by false e =
      let eq : at ≡ k = omega (arith, leb-false (suc (suc at)) (suc k) e) in
      let short : length cells ≤ suc at = omega arith in
      let whole : take (suc at) (set cells at w) ≡ set cells at w = take_all (suc at) (set cells at w) (simp length-set (omega arith)) in
      rw (← eq, mod_self, ← whole, front, drop_of_length-le cells short, append-nil) refl

  -- a value stored at the ring's place stands first from the next place on
  pub stored : backwards (set cells at w) ((at + 1) % suc k) ≡ w ∷ take k (backwards cells at)
  stored = rw (but-oldest, add-one) (stored-by (leb (suc (suc at)) (suc k)) refl)

backwards-length : {n : ℕ} (cells : List ℕ) (at : ℕ) → length cells ≡ n → length (backwards cells at) ≤ n
unfolding backwards
backwards-length cells at e = simp (length-append, length-reverse, length-take, length-drop) (omega arith)

take_min : {A : Type 0} (n k : ℕ) (xs : List A) → take (min n k) xs ≡ take k (take n xs)
take_min zero k xs = rw zero-min (sym (take-nil k))
take_min (suc n) zero xs = rw min-zero refl
take_min (suc n) (suc k) [] = rw suc-min-suc refl
take_min {A} (suc n) (suc k) (x ∷ xs) = rw suc-min-suc (ap (λ (l : List A). x ∷ l) (take_min n k xs))

-- a list and its second longer by one
take_more : (k w n : ℕ) (xs seconds : List ℕ) → take n xs ≡ take (suc k) seconds
    → take (min (n + 1) (suc k)) (w ∷ take k xs) ≡ take (suc k) (w ∷ seconds)
take_more k w n xs seconds e =
    let m : min (n + 1) (suc k) ≡ suc (min n k) = omega arith in
    rw m
    (ap (λ (l : List ℕ). w ∷ l) (take-take (min n k) k xs (omega arith) ∙ rw (take_min, e) (take-take k (suc k) seconds (omega arith))))

-- The greatest.

pub greatest-none : (n : ℕ) (ws : List ℕ) → length ws < n → greatest n ws ≡ None
unfolding greatest
greatest-none n [] h = refl
greatest-none n (w ∷ ws) h = rw (lt-leb n (suc (length ws)) h) refl

pub greatest-full : (n w : ℕ) (ws : List ℕ) → n ≤ suc (length ws)
    → greatest n (w ∷ ws) ≡ Some (greater (greatest n ws) (mean n (take n (w ∷ ws))))
unfolding greatest
greatest-full n w ws h = rw (le-leb n (suc (length ws)) h) refl

above-is : (o : Option ℕ) (watts : ℕ) → above o watts ≡ greater o watts
above-is None watts = refl
above-is (Some best) watts = refl

-- One second more.

module _ (k w : ℕ) (m : Minute) (seconds : List ℕ) (R : MinuteIs (suc k) m seconds) where
  abbrev cells : List ℕ
  cells = set m.watts m.ring.minute_at w

  abbrev place-next : ℕ
  place-next = (m.ring.minute_at + 1) % suc k

  abbrev long : ℕ
  long = min (m.ring.minute_len + 1) (suc k)

  push-same : take long (backwards cells place-next) ≡ take (suc k) (w ∷ seconds)
  push-same =
      rw (stored k m.ring.minute_at w m.watts R.size R.place)
      (take_more k w m.ring.minute_len (backwards m.watts m.ring.minute_at) seconds R.same)

  push-full : long ≡ min (suc k) (suc (length seconds))
  push-full = omega (arith, R.full)

  push-size : length cells ≡ suc k
  push-size = rw length-set R.size

  push-sum : long ≡ suc k → sum cells ≡ sum (take (suc k) (w ∷ seconds))
  push-sum e =
      sym (sum-backwards cells place-next)
      ∙ ap sum (sym (take_all (suc k) (backwards cells place-next) (backwards-length cells place-next push-size)) ∙ (rw e at push-same))

  push-best : (b : Bool) → eqb long (suc k) ≡ b → best_after b (suc k) m.ring.best_minute cells ≡ greatest (suc k) (w ∷ seconds)
  unfolding mean
  push-best true e =
      let f : long ≡ suc k = eqb-true long (suc k) e in
      ap Some (above-is m.ring.best_minute (mean_of (suc k) cells) ∙ rw (push-sum f, R.best) refl)
      ∙ sym (greatest-full (suc k) w seconds (omega (arith, push-full)))
  push-best false e =
      let f : suc (length seconds) < suc k = short (eqb-false long (suc k) e) in
      R.best ∙ greatest-none (suc k) seconds (omega arith) ∙ sym (greatest-none (suc k) (w ∷ seconds) f)
    where
      short : (long ≡ suc k → ⊥) → suc (length seconds) < suc k
      short n = omega (arith, push-full)

  pub push-is : MinuteIs (suc k) (pushed (suc k) w m) (w ∷ seconds)
  unfolding pushed
  push-is =
      record {
        size = push-size;
        place = mod-lt (m.ring.minute_at + 1) (omega arith);
        full = push-full;
        same = push-same;
        best = push-best (eqb long (suc k)) refl;
      }

-- Several seconds of the same watts.

pub replicate_more : {A : Type 0} (n : ℕ) (w : A) (xs : List A) → replicate n w ++ (w ∷ xs) ≡ replicate (suc n) w ++ xs
replicate_more zero w xs = refl
replicate_more {A} (suc n) w xs = ap (λ (l : List A). w ∷ l) (replicate_more n w xs)

pushes-are : (k n w : ℕ) (m : Minute) (seconds : List ℕ) → MinuteIs (suc k) m seconds → MinuteIs (suc k) (pushes (suc k) n w m) (replicate n w ++ seconds)
unfolding pushes
pushes-are k zero w m seconds R = R
pushes-are k (suc n) w m seconds R =
    rw (← (replicate_more n w seconds)) (pushes-are k n w (pushed (suc k) w m) (w ∷ seconds) (push-is k w m seconds R))

greater-again : (o : Option ℕ) (watts : ℕ) → greater (Some (greater o watts)) watts ≡ greater o watts
greater-again None watts = omega arith
greater-again (Some best) watts = omega arith

greatest-again : (k w x : ℕ) (xs : List ℕ) → suc k ≤ suc (length xs) → take (suc k) (w ∷ (x ∷ xs)) ≡ take (suc k) (x ∷ xs)
    → greatest (suc k) (w ∷ (x ∷ xs)) ≡ greatest (suc k) (x ∷ xs)
greatest-again k w x xs h e =
    let watts : ℕ = mean (suc k) (take (suc k) (x ∷ xs)) in
    greatest-full (suc k) w (x ∷ xs) (omega arith)
    ∙ rw (e, greatest-full (suc k) x xs h) (ap Some (greater-again (greatest (suc k) xs) watts))

take-replicate : (k w : ℕ) → take k (replicate (suc k) w) ≡ replicate k w
take-replicate zero w = refl
take-replicate (suc k) w = ap (λ (l : List ℕ). w ∷ l) (take-replicate k w)

steady : (k w : ℕ) (xs : List ℕ) → take (suc k) xs ≡ replicate (suc k) w → take (suc k) (w ∷ xs) ≡ take (suc k) xs
steady k w xs e = ap (λ (l : List ℕ). w ∷ l) (sym (take-take k (suc k) xs (omega arith)) ∙ ap (take k) e ∙ take-replicate k w) ∙ sym e

-- a ring full of the same watts holds one second more of them
one_more : (k w : ℕ) (m : Minute) (xs : List ℕ) → take (suc k) xs ≡ replicate (suc k) w → MinuteIs (suc k) m xs → MinuteIs (suc k) m (w ∷ xs)
one_more k w m [] e R = absurd (bad (ap length e))
  where
    bad : length {A = ℕ} [] ≡ length (replicate (suc k) w) → ⊥
    bad z = omega arith
one_more k w m (x ∷ xs) e R =
    let long : suc k ≤ suc (length xs) = omega (arith, simp (length-take, length-replicate) at (ap length e)) in
    record {
      size = R.size;
      place = R.place;
      full = omega (arith, R.full);
      same = R.same ∙ sym (steady k w (x ∷ xs) e);
      best = R.best ∙ sym (greatest-again k w x xs long (steady k w (x ∷ xs) e));
    }

take_same : (k d w : ℕ) (xs : List ℕ) → take k (replicate (d + k) w ++ xs) ≡ replicate k w
take_same zero d w xs = refl
take_same (suc k) d w xs = rw add-suc (ap (λ (l : List ℕ). w ∷ l) (take_same k d w xs))

more : (k d w : ℕ) (m : Minute) (xs : List ℕ) → MinuteIs (suc k) m (replicate (suc k) w ++ xs) → MinuteIs (suc k) m (replicate (d + suc k) w ++ xs)
more k zero w m xs R = rw zero-add R
more k (suc d) w m xs R = rw suc-add (one_more k w m (replicate (d + suc k) w ++ xs) (take_same (suc k) d w xs) (more k d w m xs R))

-- the Rust's cap: at most as many pushes as there are places, however many seconds
pub capped : (k q w : ℕ) (m : Minute) (seconds : List ℕ) → MinuteIs (suc k) m seconds
    → MinuteIs (suc k) (pushes (suc k) (min q (suc k)) w m) (replicate q w ++ seconds)
capped k q w m seconds R = go (leb q (suc k)) refl
  where
    go : (b : Bool) → leb q (suc k) ≡ b → MinuteIs (suc k) (pushes (suc k) (min q (suc k)) w m) (replicate q w ++ seconds)
    go true e =
        let n : min q (suc k) ≡ q = omega (arith, leb-true q (suc k) e) in
        rw n (pushes-are k q w m seconds R)
    go false e =
        let n : min q (suc k) ≡ suc k = omega (arith, leb-false q (suc k) e) in
        let s : q ≡ (q - suc k) + suc k = omega (arith, leb-false q (suc k) e) in
        rw n
        (subst (λ (j : ℕ). MinuteIs (suc k) (pushes (suc k) (suc k) w m) (replicate j w ++ seconds)) (sym s)
        (more k (q - suc k) w (pushes (suc k) (suc k) w m) seconds (pushes-are k (suc k) w m seconds R)))
