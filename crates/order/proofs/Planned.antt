-- The step at a place of the order, and the seconds planned from a position on.
use Rattle.std.specs.Prelude.{None, Option, Some}
use Rattle.std.specs.List.{range_with_len}
use mathlib.Core.Path.{◌≡◌, refl, sym, ap, ◌∙◌}
use mathlib.Core.Bool.{Bool, cond}
use mathlib.Core.List.{List, [], ◌∷◌, map}
use Prim.Native.Nat.{ℕ, zero, suc, ◌+◌, ◌-◌, ◌≤◌, ◌<◌, min}
use native.Mathlib.Omega.{arith}
use lib.ListN.{length, get_or, take, drop, length-take}
use lib.Seq.{get_or-take, take-nil, drop-nil}
use borrow.Author.Tests.{lt-ltb, le-ltb}
use Rattle.common.specs.Lists.{sum}
use Rattle.common.proofs.Lists.{get_d_any, used-end}
use Rattle.model.specs.declared.Step.{Step}
use Rattle.model.specs.declared.Workout.{Workout}
use Rattle.model.specs.Workout.{no_step, steps_of, blocks_of}
use Rattle.order.specs.declared.Place.{Place}
use Rattle.order.specs.declared.Played.{Played}
use Rattle.order.specs.Order.{nth, order, order_of, planned_from, nothing, step_at, played_by, played_of, played_seconds}

abbrev pub found : Place → Step → Option Played
found p step = Some (record { index = p.index; repetition = p.repetition; of = p.of; step = step })

module _ (steps : List Step) (count : ℕ) (p : Place) where
  pub step-found : (d : Step) → p.index < count → p.index < length steps → found p (get_or steps p.index d) ≡ step_at (take count steps) p
  unfolding step_at
  step-found d h l =
      ap (found p) (get_d_any steps p.index d no_step l ∙ sym (get_or-take count steps p.index no_step h))
      ∙ sym (ap (λ (t : Bool). cond t (found p (get_or (take count steps) p.index no_step)) nothing)
      (lt-ltb p.index (length (take count steps)) (omega (arith, length-take count steps))))

  pub step-none : min count (length steps) ≤ p.index → nothing ≡ step_at (take count steps) p
  unfolding step_at
  step-none h =
      sym (ap (λ (t : Bool). cond t (found p (get_or (take count steps) p.index no_step)) nothing)
      (le-ltb p.index (length (take count steps)) (omega (arith, length-take count steps))))

-- what a place adds to a sum over an order, if there is one
abbrev share : (Place → ℕ) → Option Place → ℕ
share f None = 0
share f (Some p) = f p

share-seconds : (steps : List Step) (o : Option Place) → played_seconds (played_by steps o) ≡ share (λ p. played_seconds (step_at steps p)) o
share-seconds steps None = refl
share-seconds steps (Some p) = refl

-- the sum from position k on, one position at a time
sum_step : (f : Place → ℕ) (l : List Place) (n k : ℕ) → k < n
    → sum (map f (drop k (take n l))) ≡ share f (nth l k) + sum (map f (drop (k + 1) (take n l)))
unfolding sum nth
sum_step f [] n k h = omega (arith, none n k, none n (k + 1))
  where
    none : (n j : ℕ) → sum (map f (drop j (take n []))) ≡ 0
    none n j = ap (λ (l : List Place). sum (map f (drop j l))) (take-nil n) ∙ ap (λ (l : List Place). sum (map f l)) (drop-nil j)
sum_step f (p ∷ l) zero k h = absurd (omega arith)
sum_step f (p ∷ l) (suc n) zero h = refl
sum_step f (p ∷ l) (suc n) (suc k) h =
    sum_step f l n k (omega arith) ∙ ap (λ (j : ℕ). share f (nth l k) + sum (map f (drop j (p ∷ take n l)))) (next k)
  where
    next : (k : ℕ) → suc (k + 1) ≡ suc k + 1
    next k = omega arith

-- past position n nothing is left
sum-end : (f : Place → ℕ) (l : List Place) (n k : ℕ) → n ≤ k → sum (map f (drop k (take n l))) ≡ 0
unfolding sum
sum-end f l n k h = ap (λ (xs : List Place). sum (map f xs)) (used-end l n k (omega arith))

-- the look-up in a workout's order, of as many steps as it has
pub played-lookup : (w : Workout) (n position : ℕ) (o : Option Place) → length w.steps ≡ 12 → n ≡ min w.step_count 12
    → o ≡ nth (order n (blocks_of w)) position → played_by (steps_of w) o ≡ played_of w position
unfolding played_of
played-lookup w n position o long e f =
    let used : n ≡ length (steps_of w) = omega (arith, length-take w.step_count w.steps) in
    ap (played_by (steps_of w)) (f ∙ ap (λ (m : ℕ). nth (order m (blocks_of w)) position) used)

module _ (w : Workout) (at : ℕ) where
  -- the planned seconds from a position on, one position at a time
  pub planned-step : at < 96 → planned_from w at ≡ played_seconds (played_of w at) + planned_from w (at + 1)
  unfolding planned_from played_of
  planned-step h =
      sum_step (λ p. played_seconds (step_at (steps_of w) p)) (order_of w) 96 at h
      ∙ ap (λ (n : ℕ). n + sum (map (λ p. played_seconds (step_at (steps_of w) p)) (drop (at + 1) (take 96 (order_of w)))))
      (sym (share-seconds (steps_of w) (nth (order_of w) at)))

  pub planned-end : 96 ≤ at → planned_from w at ≡ 0
  unfolding planned_from
  planned-end h = sum-end (λ p. played_seconds (step_at (steps_of w) p)) (order_of w) 96 at h

-- the seconds of the positions from one on up to 96, added up
pub planned-list : (w : Workout) (n at : ℕ) → n ≡ 96 - at → sum (map (λ k. played_seconds (played_of w k)) (range_with_len at n)) ≡ planned_from w at
unfolding sum
planned-list w zero at e = sym (planned-end w at (omega arith))
planned-list w (suc n) at e = omega (arith, planned-list w n (at + 1) (omega arith), planned-step w at (omega arith))
