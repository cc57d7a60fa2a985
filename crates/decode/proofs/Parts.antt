-- How reading a block goes on from what was handed out, and what the loops over steps and blocks end with.
use Rattle.std.specs.Prelude.{Err, Ok, Result, None}
use mathlib.Core.Path.{◌≡◌, sym, ap, ap₂, ◌∙◌}
use mathlib.Core.List.{List, ◌++◌}
use Prim.Native.Nat.{ℕ, ◌+◌, ◌-◌, ◌<◌}
use native.Mathlib.Nat.{add-zero}
use native.Mathlib.Omega.{arith}
use lib.ListN.{length, get_or, take, drop, replicate}
use Rattle.common.proofs.Lists.{get_d_part}
use Rattle.refusal.specs.declared.Refusal.{Refusal}
use Rattle.refusal.specs.declared.Refusal.TheVariants as refusals
use Rattle.model.specs.declared.Block.{Block}
use Rattle.cursor.specs.Reading.{Read, got, read_by, and_then}
use Rattle.cursor.specs.Names.{taken_at}
use Rattle.cursor.specs.declared.Cursor.{Cursor}
use Rattle.cursor.proofs.Laws.{TakenAt, taken-ended}
use Rattle.decode.specs.Decode.{block_of, read_block, block_at, filled_by}

abbrev block_with : ℕ → ℕ → ℕ → Block
block_with first len count = record { first = first; len = len; count = count }

module _ (s : List ℕ) (at : ℕ) where
  pub block_none : taken_at s at 3 ≡ None → Err refusals.Length ≡ block_at s at
  unfolding block_at read_block and_then
  block_none e = ap (λ (m : Read (List ℕ)). read_by at (and_then (drop at s) m (λ bytes _. got (block_of bytes) 0))) (sym (taken-ended s at 3 e))

  pub block-some : (from : ℕ) (c : Cursor) → TakenAt s at 3 from c
      → Ok (block_with (get_or s from 0) (get_or s (from + 1) 0) (get_or s (from + 2) 0), c) ≡ block_at s at
  unfolding block_at read_block and_then
  block-some from c there =
      ap₂ (λ (b : Block) (k : ℕ). Ok (b, record { at = k })) value there.after
      ∙ ap (λ (m : Read (List ℕ)). read_by at (and_then (drop at s) m (λ bytes _. got (block_of bytes) 0))) (sym there.reads)
    where
      element : (k : ℕ) → k < 3 → get_or s (from + k) 0 ≡ get_or (take 3 (drop at s)) k 0
      element k h = ap (λ (n : ℕ). get_or s (n + k) 0) there.place ∙ sym (get_d_part s at 3 k 0 h)

      value : block_with (get_or s from 0) (get_or s (from + 1) 0) (get_or s (from + 2) 0) ≡ block_of (take 3 (drop at s))
      value =
          ap (λ (x : ℕ). block_with x (get_or s (from + 1) 0) (get_or s (from + 2) 0))
          (ap (λ (k : ℕ). get_or s k 0) (sym (add-zero from)) ∙ element 0 (omega arith))
          ∙ ap₂ (block_with (get_or (take 3 (drop at s)) 0 0)) (element 1 (omega arith)) (element 2 (omega arith))

-- the array and the place that a loop ends with: one law over the element
abbrev filled_as : {A : Type 0} → List A → ℕ → Result (List A × Cursor) Refusal
filled_as array at = Ok (array, record { at = at })

pub filled-read : {A : Type 0} (size from at i : ℕ) (blank : A) (array done : List A) (used : ℕ) → length done ≡ i
    → array ≡ done ++ replicate (size - i) blank → at ≡ from + used → filled_as array at ≡ filled_by size blank from (got done used)
filled-read size from at i blank array done used count filled place =
    ap₂ filled_as (filled ∙ ap (λ (k : ℕ). done ++ replicate (size - k) blank) (sym count)) place
