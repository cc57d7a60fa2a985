-- How reading the body goes on from what its parts gave.
use Rattle.std.specs.Prelude.{Err, Ok}
use mathlib.Core.Path.{◌≡◌, refl, sym, ap, ◌∙◌}
use mathlib.Core.List.{List}
use Prim.Native.Nat.{ℕ, ◌+◌, ◌≤◌, ◌<◌}
use native.Mathlib.Omega.{arith}
use lib.ListN.{length, drop, drop_of_length-le}
use lib.Seq.{drop-drop, drop-cons}
use Rattle.common.specs.Lists.{padded}
use Rattle.refusal.specs.declared.Refusal.{Refusal}
use Rattle.refusal.specs.declared.Refusal.TheVariants as refusals
use Rattle.model.specs.declared.Step.{Step}
use Rattle.model.specs.declared.Block.{Block}
use Rattle.model.specs.declared.Workout.{Workout}
use Rattle.validation.specs.Sound.{valid_answer}
use Rattle.cursor.specs.declared.Cursor.{Cursor}
use Rattle.cursor.specs.Reading.{Read, got, refused, behind, and_then, read_many}
use Rattle.cursor.proofs.Answers.{ReadAt}
use Rattle.steps.specs.Steps.{read_step}
use Rattle.decode.specs.declared.Head.{Head}
use Rattle.decode.specs.Decode.{read_head, read_block, workout_of, ended, read_body, judged, validated, contents_of, filled_by}

abbrev blocks_next : Head → List Step → List ℕ → Read Workout
blocks_next h steps rest = and_then rest (read_many read_block h.blocks rest) (λ blocks rest₃. ended rest₃ (workout_of h steps blocks))

abbrev steps_next : Head → List ℕ → Read Workout
steps_next h rest = and_then rest (read_many read_step h.steps rest) (blocks_next h)

-- the size of what was read does not matter to the answer
sized : (n : ℕ) (m : Read Workout) → validated (behind n m) ≡ validated m
sized n (got w k) = refl
sized n (refused r) = refl

module _ {A : Type 0} (reader : List ℕ → Read A) (s : List ℕ) (at : ℕ) where
  then_at : (x : A) (k : ℕ) → ReadAt reader s at x k → (next : A → List ℕ → Read Workout)
      → validated (next x (drop k s)) ≡ validated (and_then (drop at s) (reader (drop at s)) next)
  unfolding and_then
  then_at x k g next =
      ap (λ (l : List ℕ). validated (next x l)) (ap (λ (j : ℕ). drop j s) g.after ∙ sym (drop-drop g.size at s))
      ∙ sym (sized g.size (next x (drop g.size (drop at s))))
      ∙ sym (ap (λ (m : Read A). validated (and_then (drop at s) m next)) g.reads)

  refused-at : (r : Refusal) → reader (drop at s) ≡ refused r → (next : A → List ℕ → Read Workout)
      → Err r ≡ validated (and_then (drop at s) (reader (drop at s)) next)
  unfolding and_then
  refused-at r e next = sym (ap (λ (m : Read A). validated (and_then (drop at s) m next)) e)

-- what an array's answer says of the bytes: the list that stands in it, and where it was read
pub record ListAt {A : Type 0} (reader : List ℕ → Read (List A)) (size : ℕ) (blank : A) (s : List ℕ) (at : ℕ) (array : List A) (next : ℕ) : Type 0 where
  pub list : List A
  pub array-is : array ≡ padded size blank list
  pub reading : ReadAt reader s at list next

module _ {A : Type 0} (reader : List ℕ → Read (List A)) (size : ℕ) (blank : A) (s : List ℕ) (at : ℕ) where
  pub list-given : (array : List A) (c : Cursor) → filled_by size blank at (reader (drop at s)) ≡ Ok (array, c)
      → ListAt reader size blank s at array c.at
  list-given array c = go (reader (drop at s)) refl
    where
      go : (m : Read (List A)) → reader (drop at s) ≡ m → filled_by size blank at m ≡ Ok (array, c) → ListAt reader size blank s at array c.at
      go (got xs n) p q =
          let pair : (array, c) ≡ (padded size blank xs, record { at = at + n }) = cc in
          record {
            list = xs;
            array-is = ap (λ (t : List A × Cursor). t.0) pair;
            reading = record { size = n; reads = p; after = ap (λ (t : List A × Cursor). t.1.at) pair };
          }
      go (refused w) p q = let z : ◌≡◌ {A = ℕ} 0 1 = cc in absurd (omega arith)

  pub list-refusal : (w : Refusal) → filled_by size blank at (reader (drop at s)) ≡ Err w → reader (drop at s) ≡ refused w
  list-refusal w = go (reader (drop at s)) refl
    where
      go : (m : Read (List A)) → reader (drop at s) ≡ m → filled_by size blank at m ≡ Err w → reader (drop at s) ≡ refused w
      go (got xs n) p q = let z : ◌≡◌ {A = ℕ} 0 1 = cc in absurd (omega arith)
      go (refused v) p q = let same : v ≡ w = cc in p ∙ ap (λ (y : Refusal). refused y) same

-- the contents, as far as they were read
module _ (s : List ℕ) where
  pub head-fails : (w : Refusal) → read_head (drop 3 s) ≡ refused w → Err w ≡ contents_of s
  unfolding contents_of read_body
  head-fails w e = refused-at read_head s 3 w e steps_next

  module _ (h : Head) (at-steps : ℕ) (head : ReadAt read_head s 3 h at-steps) where
    after-head : validated (steps_next h (drop at-steps s)) ≡ contents_of s
    unfolding contents_of read_body
    after-head = then_at read_head s 3 h at-steps head steps_next

    pub steps-fail : (w : Refusal) → read_many read_step h.steps (drop at-steps s) ≡ refused w → Err w ≡ contents_of s
    steps-fail w e = refused-at (read_many read_step h.steps) s at-steps w e (blocks_next h) ∙ after-head

    module _ (steps : List Step) (at-blocks : ℕ) (some : ReadAt (read_many read_step h.steps) s at-steps steps at-blocks) where
      after-steps : validated (blocks_next h steps (drop at-blocks s)) ≡ contents_of s
      after-steps = then_at (read_many read_step h.steps) s at-steps steps at-blocks some (blocks_next h) ∙ after-head

      pub blocks-fail : (w : Refusal) → read_many read_block h.blocks (drop at-blocks s) ≡ refused w → Err w ≡ contents_of s
      blocks-fail w e = refused-at (read_many read_block h.blocks) s at-blocks w e (λ blocks rest. ended rest (workout_of h steps blocks)) ∙ after-steps

      module _ (blocks : List Block) (at-end : ℕ) (last : ReadAt (read_many read_block h.blocks) s at-blocks blocks at-end) where
        after-blocks : validated (ended (drop at-end s) (workout_of h steps blocks)) ≡ contents_of s
        after-blocks = then_at (read_many read_block h.blocks) s at-blocks blocks at-end last (λ bs rest. ended rest (workout_of h steps bs)) ∙ after-steps

        pub left_over : at-end < length s → Err refusals.Length ≡ contents_of s
        left_over l = ap (λ (rest : List ℕ). validated (ended rest (workout_of h steps blocks))) (sym (drop-cons s at-end 0 l)) ∙ after-blocks

        pub all_read : length s ≤ at-end → judged (workout_of h steps blocks) (valid_answer (workout_of h steps blocks)) ≡ contents_of s
        all_read l = ap (λ (rest : List ℕ). validated (ended rest (workout_of h steps blocks))) (sym (drop_of_length-le s l)) ∙ after-blocks
