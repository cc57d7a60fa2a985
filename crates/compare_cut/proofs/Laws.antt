-- The check word place by place, what a call gave from its own answer, and one word more of the list.
use mathlib.Core.Path.{◌≡◌, refl, ap}
use mathlib.Core.Bool.{Bool, true, false, cond}
use mathlib.Core.List.{List}
use Prim.Native.Nat.{ℕ, suc, ◌+◌, ◌-◌, ◌/◌, ◌%◌, ◌≤◌, ◌<◌, min}
use native.Mathlib.Nat.{zero-add}
use native.Mathlib.Omega.{arith}
use lib.Dec.{eqb}
use lib.ListN.{length, get_or}
use borrow.Author.Tests.{eqb-true, eqb-false}
use Rattle.compare_player.specs.Calls.{turn_of}
use Rattle.compare_player.specs.declared.Seen.{Seen}
use Rattle.outcomes.specs.Outcomes.{Called, Answers}
use Rattle.outcomes.specs.declared.Update.{Update}
use Rattle.compare_cut.specs.Cuts.{joined_from, joined_one, called_cut, turned_cut, cut_after, next_cut, cut_word, word_after}

module _ (ks vs : List ℕ) (n : ℕ) where
  pub joined-start : (h : ℕ) → joined_from ks vs 0 (n - 0) h ≡ joined_from ks vs 0 n h
  joined-start h = ap (λ (k : ℕ). joined_from ks vs 0 k h) (whole n)
    where
      whole : (n : ℕ) → n - 0 ≡ n
      whole n = omega arith

  pub joined-next : (i h : ℕ) → i < n → joined_from ks vs (i + 1) (n - (i + 1)) (joined_one h (get_or ks i 0) (get_or vs i 0)) ≡ joined_from ks vs i (n - i) h
  unfolding joined_from
  joined-next i h l = ap (λ (k : ℕ). joined_from ks vs i k h) (left n i l)
    where
      left : (n i : ℕ) → i < n → suc (n - (i + 1)) ≡ n - i
      left n i l = omega arith

  pub joined_end : (i h : ℕ) → n ≤ i → joined_from ks vs i (n - i) h ≡ h
  unfolding joined_from
  joined_end i h l = ap (λ (k : ℕ). joined_from ks vs i k h) (none n i l)
    where
      none : (n i : ℕ) → n ≤ i → n - i ≡ 0
      none n i l = omega arith

-- a call's answer and its arrays, which keep their lengths, in words
pub answers-cut : {ks vs ks' vs' : List ℕ} {r : Update} {o : Called} (check : ℕ) → length ks' ≡ length ks → length vs' ≡ length vs
    → Answers ks vs ks' vs' r o
    → turn_of r (joined_from ks' vs' 0 (min r.events (min (length ks') (length vs'))) (check % 1000000007)) ≡ called_cut o ks vs check
answers-cut check k v a = rw (k, v) (simp (a.answer, a.player, a.parts, a.wrote.count, a.wrote.kinds, a.wrote.values, zero-add))

-- the call that comes after word i is played before word i + 1
pub cut-next : (file calls : List ℕ) (i : ℕ) → next_cut calls (cut_after file calls (i / 13)) i ≡ cut_after file calls ((i + 1) / 13)
unfolding next_cut cut_after
cut-next file calls i = at (eqb (i % 13) 12) refl
  where
    over : (i : ℕ) → i % 13 ≡ 12 → suc (i / 13) ≡ (i + 1) / 13
    over i e = omega arith

    within : (i : ℕ) → (i % 13 ≡ 12 → ⊥) → i / 13 ≡ (i + 1) / 13
    within i e = omega arith

    at : (t : Bool) → eqb (i % 13) 12 ≡ t
        → cond t (turned_cut calls (cut_after file calls (i / 13)) (i / 13)) (cut_after file calls (i / 13)) ≡ cut_after file calls ((i + 1) / 13)
    at true e = ap (cut_after file calls) (over i (eqb-true (i % 13) 12 e))
    at false e = ap (cut_after file calls) (within i (eqb-false (i % 13) 12 e))

pub word_after_lem : (file calls : List ℕ) (i : ℕ) (seen : Seen) → seen ≡ cut_after file calls (i / 13) → cut_word seen (i % 13) ≡ word_after file calls i
unfolding word_after
word_after_lem file calls i seen e = ap (λ (s : Seen). cut_word s (i % 13)) e
