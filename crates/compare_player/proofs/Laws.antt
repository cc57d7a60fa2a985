-- The check word place by place, what a call gave from its own answer, and one word more of the list.
use mathlib.Core.Path.{◌≡◌, ◌∙◌, refl, sym, ap}
use mathlib.Core.Bool.{Bool, true, false, cond}
use mathlib.Core.List.{List}
use Prim.Native.Nat.{ℕ, suc, ◌+◌, ◌-◌, ◌/◌, ◌%◌, ◌≤◌, ◌<◌, min}
use native.Mathlib.Nat.{zero-add}
use native.Mathlib.Numerals.{add-one}
use native.Mathlib.Omega.{arith}
use lib.Dec.{eqb}
use lib.ListN.{length, get_or, take, replicate, length-take, length-replicate}
use borrow.Author.Tests.{eqb-true, eqb-false}
use Rattle.compare_reports.specs.Words.{seen_word}
use Rattle.outcomes.specs.Outcomes.{Called, Answers}
use Rattle.outcomes.specs.declared.Update.{Update}
use Rattle.compare_player.specs.Calls.{check_from, mixed, places, turn_of, called_turn, turned, seen_after, next_seen, word_after}
use Rattle.compare_player.specs.declared.Seen.{Seen}

module _ (ks vs : List ℕ) (n : ℕ) where
  pub check-start : (h : ℕ) → check_from ks vs 0 (n - 0) h ≡ check_from ks vs 0 n h
  check-start h = ap (λ (k : ℕ). check_from ks vs 0 k h) (whole n)
    where
      whole : (n : ℕ) → n - 0 ≡ n
      whole n = omega arith

  pub check-next : (i h : ℕ) → i < n → check_from ks vs (i + 1) (n - (i + 1)) (mixed h (get_or ks i 0) (get_or vs i 0)) ≡ check_from ks vs i (n - i) h
  unfolding check_from
  check-next i h l = ap (λ (k : ℕ). check_from ks vs i k h) (left n i l)
    where
      left : (n i : ℕ) → i < n → suc (n - (i + 1)) ≡ n - i
      left n i l = omega arith

  pub check-end : (i h : ℕ) → n ≤ i → check_from ks vs i (n - i) h ≡ h
  unfolding check_from
  check-end i h l = ap (λ (k : ℕ). check_from ks vs i k h) (none n i l)
    where
      none : (n i : ℕ) → n ≤ i → n - i ≡ 0
      none n i l = omega arith

-- the first k places of an array of n
pub places-long : (n k : ℕ) → k ≤ n → k ≡ length {A = ℕ} (take k (replicate n 0))
places-long n k h = least n k h ∙ sym (length-take {A = ℕ} k (replicate n 0) ∙ ap (min k) (length-replicate {A = ℕ} n 0))
  where
    least : (n k : ℕ) → k ≤ n → k ≡ min k n
    least n k h = omega arith

-- a call's answer and its arrays, in words
pub answers-turn : {ks vs : List ℕ} {r : Update} {o : Called} → Answers places places ks vs r o
    → turn_of r (check_from ks vs 0 (min r.events 193) 7) ≡ called_turn o
answers-turn a = simp (a.answer, a.player, a.parts, a.wrote.count, a.wrote.kinds, a.wrote.values, zero-add)

pub seen-turn : (file calls : List ℕ) (i : ℕ) → turned calls (seen_after file calls i) i ≡ seen_after file calls (i + 1)
unfolding seen_after
seen-turn file calls i = rw add-one

-- the call that comes after word i is played before word i + 1
pub seen_next : (file calls : List ℕ) (i : ℕ) → next_seen calls (seen_after file calls (i / 80)) i ≡ seen_after file calls ((i + 1) / 80)
unfolding next_seen seen_after
seen_next file calls i = at (eqb (i % 80) 79) refl
  where
    over : (i : ℕ) → i % 80 ≡ 79 → suc (i / 80) ≡ (i + 1) / 80
    over i e = omega arith

    within : (i : ℕ) → (i % 80 ≡ 79 → ⊥) → i / 80 ≡ (i + 1) / 80
    within i e = omega arith

    at : (t : Bool) → eqb (i % 80) 79 ≡ t
        → cond t (turned calls (seen_after file calls (i / 80)) (i / 80)) (seen_after file calls (i / 80)) ≡ seen_after file calls ((i + 1) / 80)
    at true e = ap (seen_after file calls) (over i (eqb-true (i % 80) 79 e))
    at false e = ap (seen_after file calls) (within i (eqb-false (i % 80) 79 e))

pub word_after_lem : (file calls : List ℕ) (i : ℕ) (seen : Seen) → seen ≡ seen_after file calls (i / 80)
    → seen_word seen.given seen.reported (i % 80) ≡ word_after file calls i
unfolding word_after
word_after_lem file calls i seen e = ap (λ (s : Seen). seen_word s.given s.reported (i % 80)) e
