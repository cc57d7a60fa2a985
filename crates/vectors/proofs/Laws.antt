-- An entry within the list, one word more compared, and one step more taken.
use mathlib.Core.Path.{◌≡◌, ap, ◌∙◌}
use mathlib.Core.Bool.{Bool, true, ◌&&◌, and_assoc, and-true}
use mathlib.Core.List.{List}
use Prim.Native.Nat.{ℕ, suc, ◌+◌, ◌-◌, ◌*◌, ◌≤◌, ◌<◌}
use native.Mathlib.Numerals.{add-one}
use native.Mathlib.Omega.{arith}
use lib.Dec.{eqb}
use Rattle.compare.specs.Input.{word_at}
use Rattle.compare_replay.specs.Replays.{any_word}
use Rattle.vectors.specs.Replays.{Within, agrees, step_of, steps}
use Rattle.vectors.specs.declared.Entry.{Entry}
use Rattle.vectors.specs.declared.Entry.TheVariants.{Asked}

-- an entry that was read lies within the list
pub inside : (size at : ℕ) (entry : Entry) (question end words : ℕ) → entry ≡ Asked question end words → Within size at entry
    → (at + 8 ≤ end) × (end + 4 + 4 * words ≤ size)
inside size at entry question end words e h = rw e at h

module _ (question : ℕ) (input answer : List ℕ) (n i : ℕ) (same : Bool) where
  pub agrees-next : i < n
      → ((same && eqb (any_word question input i) (word_at answer i)) && agrees question input answer (i + 1) (n - (i + 1)))
      ≡ (same && agrees question input answer i (n - i))
  unfolding agrees
  agrees-next h =
      and_assoc same (eqb (any_word question input i) (word_at answer i)) (agrees question input answer (i + 1) (n - (i + 1)))
      ∙ ap (λ (k : ℕ). same && agrees question input answer i k) (left n i h)
    where
      left : (n i : ℕ) → i < n → suc (n - (i + 1)) ≡ n - i
      left n i h = omega arith

  pub agrees_start : (true && agrees question input answer 0 (n - 0)) ≡ agrees question input answer 0 n
  agrees_start = ap (agrees question input answer 0) (whole n)
    where
      whole : (n : ℕ) → n - 0 ≡ n
      whole n = omega arith

  pub agrees-end : n ≤ i → (same && agrees question input answer i (n - i)) ≡ same
  unfolding agrees
  agrees-end h = ap (λ (k : ℕ). same && agrees question input answer i k) (none n i h) ∙ and-true same
    where
      none : (n i : ℕ) → n ≤ i → n - i ≡ 0
      none n i h = omega arith

pub steps_next_lem : (question : ℕ) (list : List ℕ) (i : ℕ) → step_of question list (steps question list i) ≡ steps question list (i + 1)
unfolding steps
steps_next_lem question list i = rw add-one
