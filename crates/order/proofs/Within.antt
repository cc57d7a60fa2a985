-- In the playing order of sound blocks every place is one of the steps, so a step is played at each position below the order's length.
use Rattle.std.specs.Prelude.{Some, is_some}
use mathlib.Core.Path.{◌≡◌, refl, sym, ap, ◌∙◌}
use mathlib.Core.Bool.{Bool, true, false, cond}
use mathlib.Core.List.{List, [], ◌∷◌, map, flat_map}
use Prim.Native.Nat.{ℕ, zero, suc, ◌+◌, ◌≤◌, ◌<◌}
use native.Mathlib.Omega.{arith}
use lib.Dec.{eqb, ltb, leb-suc-suc}
use lib.ListN.{length, get_or}
use borrow.Author.Tests.{lt-ltb, le-ltb}
use Rattle.common.specs.Lists.{all, range}
use Rattle.common.proofs.Tests.{and_left, and_right, and_both}
use Rattle.common.proofs.Lists.{all_append}
use Rattle.model.specs.declared.Block.{Block}
use Rattle.model.specs.declared.Step.{Step}
use Rattle.model.specs.declared.Workout.{Workout}
use Rattle.model.specs.Workout.{no_step, steps_of, blocks_of}
use Rattle.blocks.specs.Blocks.{end, block_ok, blocks_sound}
use Rattle.blocks.proofs.Laws.{block-ok, sound-ok}
use Rattle.order.specs.declared.Place.{Place}
use Rattle.order.specs.Order.{place, run, runs, holds, block_at, piece, order, order_of, nth, nothing, step_at, played_by, played_of, played_len, PlayingOrder}
use Rattle.order.proofs.Count.{order_length}
use Rattle.order.proofs.Planned.{found}

module _ (steps : ℕ) where
  -- a place is one of the steps
  abbrev within : Place → Bool
  within p = ltb p.index steps

  within-run : (count repetition first len : ℕ) → first + len ≤ steps → all within (map (λ index. place index repetition count) (range first len)) ≡ true
  unfolding all range
  within-run count repetition first zero h = refl
  within-run count repetition first (suc len) h =
      and_both (lt-ltb first steps (omega arith)) (within-run count repetition (suc first) len (omega arith))

  within-runs : (b : Block) (r n : ℕ) → end b ≤ steps → all within (flat_map (run b) (range r n)) ≡ true
  unfolding all range flat_map run
  within-runs b r zero h = refl
  within-runs b r (suc n) h =
      all_append within (run b r) (flat_map (run b) (range (suc r) n))
      ∙ and_both (within-run b.count r b.first b.len h) (within-runs b (suc r) n h)

  within_block : (b : Block) (t : Bool) → end b ≤ steps → all within (cond t (runs b) []) ≡ true
  unfolding all runs
  within_block b true h = within-runs b 0 b.count h
  within_block b false h = refl

  within-piece : (bs : List Block) (i : ℕ) → all (block_ok steps) bs ≡ true → i < steps → all within (piece (block_at bs i) i) ≡ true
  unfolding all block_at
  within-piece [] i e h = and_both (lt-ltb i steps h) refl
  within-piece (b ∷ bs) i e h = go (holds b i) (within-piece bs i (and_right (block_ok steps b) (all (block_ok steps) bs) e) h)
    where
      go : (t : Bool) → all within (piece (block_at bs i) i) ≡ true → all within (piece (cond t (Some b) (block_at bs i)) i) ≡ true
      go true rest = within_block b (eqb b.first i) (block-ok steps b (and_left (block_ok steps b) (all (block_ok steps) bs) e)).within
      go false rest = rest

  within-from : (bs : List Block) (i n : ℕ) → all (block_ok steps) bs ≡ true → i + n ≤ steps
      → all within (flat_map (λ index. piece (block_at bs index) index) (range i n)) ≡ true
  unfolding all range flat_map
  within-from bs i zero e h = refl
  within-from bs i (suc n) e h =
      all_append within (piece (block_at bs i) i) (flat_map (λ index. piece (block_at bs index) index) (range (suc i) n))
      ∙ and_both (within-piece bs i e (omega arith)) (within-from bs (suc i) n e (omega arith))

step-flag : (steps : List Step) (p : Place) → is_some (step_at steps p) ≡ within (length steps) p
unfolding step_at
step-flag steps p = go (within (length steps) p)
  where
    go : (t : Bool) → is_some (cond t (found p (get_or steps p.index no_step)) nothing) ≡ t
    go true = refl
    go false = refl

-- where every place of a list is one of the steps, a step is found at each position below its length, and at no other
found_below : (steps : List Step) (l : List Place) (k : ℕ) → all (within (length steps)) l ≡ true → is_some (played_by steps (nth l k)) ≡ ltb k (length l)
unfolding all nth
found_below steps [] k h = sym (le-ltb k 0 (omega arith))
found_below steps (p ∷ l) zero h =
    step-flag steps p ∙ and_left (within (length steps) p) (all (within (length steps)) l) h ∙ sym (lt-ltb 0 (length (p ∷ l)) (omega arith))
found_below steps (p ∷ l) (suc k) h =
    found_below steps l k (and_right (within (length steps) p) (all (within (length steps)) l) h) ∙ sym (leb-suc-suc (suc k) (length l))

within-order : (steps : ℕ) (bs : List Block) → blocks_sound steps bs ≡ true → all (within steps) (order steps bs) ≡ true
unfolding order
within-order steps bs e = within-from steps bs 0 steps (sound-ok steps bs e) (omega arith)

length-played : (w : Workout) → blocks_sound (length (steps_of w)) (blocks_of w) ≡ true → length (order_of w) ≡ played_len w
unfolding played_len
length-played w e = order_length (length (steps_of w)) (blocks_of w) e

pub playing-order : PlayingOrder
unfolding played_of
playing-order =
    record {
      order_length = length-played;
      played_below =
          λ w e position.
          found_below (steps_of w) (order_of w) position (within-order (length (steps_of w)) (blocks_of w) e)
          ∙ ap (ltb position) (length-played w e);
    }
