-- Looking a place up in the playing order: in a block's runs by quotient and remainder, in the whole order piece by piece.
use Rattle.std.specs.Prelude.{None, Option, Some}
use Rattle.std.specs.Option.{option_map}
use Rattle.std.specs.List.{find, range_with_len}
use mathlib.Core.Path.{◌≡◌, refl, sym, ap, ap₂, ◌∙◌}
use mathlib.Core.Bool.{Bool, true, false, cond}
use mathlib.Core.List.{List, [], ◌∷◌, ◌++◌, map, flat_map}
use Prim.Native.Nat.{ℕ, zero, suc, ◌+◌, ◌-◌, ◌*◌, ◌/◌, ◌%◌, ◌≤◌, ◌<◌}
use native.Mathlib.Nat.{mul-zero, mul-suc, add-zero, zero-add, mod-eq_of_lt, div-eq_of_lt, mod-eq-sub-mod, div-eq-sub-div, div-lt_iff_lt-mul, mul_comm}
use native.Mathlib.Numerals.{add-one}
use native.Mathlib.Omega.{arith}
use lib.Dec.{eqb, ltb}
use lib.ListN.{length, length-append, length-map}
use borrow.Author.Tests.{ltb-true, ltb-false}
use Rattle.common.specs.Lists.{range}
use Rattle.common.proofs.Numbers.{factor-positive}
use Rattle.model.specs.declared.Block.{Block}
use Rattle.order.specs.declared.Place.{Place}
use Rattle.order.specs.Order.{place, run, runs, piece, piece_len, place_in, nth, holds, block_at, order}

pub nth_left : (xs ys : List Place) (k : ℕ) → k < length xs → nth (xs ++ ys) k ≡ nth xs k
unfolding nth
nth_left [] ys k h = absurd (omega arith)
nth_left (x ∷ xs) ys zero h = refl
nth_left (x ∷ xs) ys (suc k) h = nth_left xs ys k (omega arith)

pub nth_right : (xs ys : List Place) (k : ℕ) → length xs ≤ k → nth (xs ++ ys) k ≡ nth ys (k - length xs)
unfolding nth
nth_right [] ys k h = ap (nth ys) (omega arith)
nth_right (x ∷ xs) ys zero h = absurd (omega arith)
nth_right (x ∷ xs) ys (suc k) h = nth_right xs ys k (omega arith) ∙ ap (nth ys) (omega arith)

pub length-range : (i n : ℕ) → length (range i n) ≡ n
unfolding range
length-range i zero = refl
length-range i (suc n) = ap suc (length-range (suc i) n)

pub length-from : (i n : ℕ) → length (range_with_len i n) ≡ n
length-from i zero = refl
length-from i (suc n) = omega (arith, length-from (i + 1) n)

nth-range : (f : ℕ → Place) (i n k : ℕ) → k < n → nth (map f (range i n)) k ≡ Some (f (i + k))
unfolding nth range
nth-range f i zero k h = absurd (omega arith)
nth-range f i (suc n) zero h = ap (λ (m : ℕ). Some (f m)) (sym (add-zero i))
nth-range f i (suc n) (suc k) h = nth-range f (suc i) n k (omega arith) ∙ ap (λ (m : ℕ). Some (f m)) (omega arith)

length_run : (b : Block) (r : ℕ) → length (run b r) ≡ b.len
unfolding run
length_run b r = length-map (range b.first b.len) (λ index. place index r b.count) ∙ length-range b.first b.len

nth-run : (b : Block) (r k : ℕ) → k < b.len → nth (run b r) k ≡ Some (place (b.first + k) r b.count)
unfolding run
nth-run b r k h = nth-range (λ index. place index r b.count) b.first b.len k h

length_runs : (b : Block) (r n : ℕ) → length (flat_map (run b) (range r n)) ≡ b.len * n
unfolding flat_map range
length_runs b r zero = sym (mul-zero b.len)
length_runs b r (suc n) =
    omega (arith, length-append (run b r) (flat_map (run b) (range (suc r) n)), length_run b r, length_runs b (suc r) n, mul-suc b.len n)

-- the place in a block's runs from run r on, k places after the first
abbrev after : Block → ℕ → ℕ → Option Place
after b r k = Some (place (b.first + k % b.len) (r + k / b.len) b.count)

after_run : (b : Block) (r k : ℕ) → k < b.len → Some (place (b.first + k) r b.count) ≡ after b r k
after_run b r k h =
    let quotient : r ≡ r + k / b.len = omega (arith, div-eq_of_lt h) in
    ap₂ (λ (x y : ℕ). Some (place (b.first + x) y b.count)) (sym (mod-eq_of_lt h)) quotient

after_next : (b : Block) (r k : ℕ) → 0 < b.len → b.len ≤ k → after b (suc r) (k - b.len) ≡ after b r k
after_next b r k p h =
    let quotient : suc r + (k - b.len) / b.len ≡ r + k / b.len = omega (arith, div-eq-sub-div p h) in
    ap₂ (λ (x y : ℕ). Some (place (b.first + x) y b.count)) (sym (mod-eq-sub-mod h)) quotient

-- k is counted through in runs of the block's length
nth_runs : (b : Block) (r n k : ℕ) → k < b.len * n → nth (flat_map (run b) (range r n)) k ≡ after b r k
unfolding flat_map range
nth_runs b r zero k h = absurd (omega (arith, mul-zero b.len))
nth_runs b r (suc n) k h = go (ltb k b.len) refl (λ j. nth_runs b (suc r) n j)
  where
    rest : List Place
    rest = flat_map (run b) (range (suc r) n)

    go : (t : Bool) → ltb k b.len ≡ t → ((j : ℕ) → j < b.len * n → nth rest j ≡ after b (suc r) j) → nth (run b r ++ rest) k ≡ after b r k
    go true e ih =
        let below : k < b.len = ltb-true k b.len e in
        nth_left (run b r) rest k (omega (arith, length_run b r)) ∙ nth-run b r k below ∙ after_run b r k below
    go false e ih =
        let past : b.len ≤ k = ltb-false k b.len e in
        let some : 0 < b.len = factor-positive b.len (suc n) k h in
        nth_right (run b r) rest k (omega (arith, length_run b r))
        ∙ ap (λ (m : ℕ). nth rest (k - m)) (length_run b r)
        ∙ ih (k - b.len) (omega (arith, mul-suc b.len n))
        ∙ after_next b r k some past

pub length-piece : (found : Option Block) (index : ℕ) → length (piece found index) ≡ piece_len found index
unfolding runs
length-piece None index = refl
length-piece (Some b) index = go (eqb b.first index)
  where
    go : (t : Bool) → length (cond t (runs b) []) ≡ cond t (b.len * b.count) 0
    go true = length_runs b 0 b.count
    go false = refl

nth-piece : (found : Option Block) (index before : ℕ) → before < piece_len found index → nth (piece found index) before ≡ Some (place_in found index before)
unfolding runs nth
nth-piece None index zero h = refl
nth-piece None index (suc before) h = absurd (omega arith)
nth-piece (Some b) index before h = go (eqb b.first index) h
  where
    go : (t : Bool) → before < cond t (b.len * b.count) 0 → nth (cond t (runs b) []) before ≡ Some (place_in (Some b) index before)
    go true l = nth_runs b 0 b.count before l ∙ ap (λ (y : ℕ). Some (place (b.first + before % b.len) y b.count)) (zero-add (before / b.len))
    go false l = absurd (omega arith)

-- the order from step i on, of some steps
abbrev pub from : List Block → ℕ → ℕ → List Place
from bs steps i = flat_map (λ index. piece (block_at bs index) index) (range i (steps - i))

pub from_start : (bs : List Block) (steps : ℕ) → from bs steps 0 ≡ order steps bs
unfolding order
from_start bs steps = ap (λ (n : ℕ). flat_map (λ index. piece (block_at bs index) index) (range 0 n)) (all_left steps)
  where
    all_left : (n : ℕ) → n - 0 ≡ n
    all_left n = omega arith

module _ (bs : List Block) (steps i : ℕ) where
  from_cons : i < steps → from bs steps i ≡ piece (block_at bs i) i ++ from bs steps (i + 1)
  unfolding flat_map range
  from_cons h =
      ap (λ (n : ℕ). flat_map (λ index. piece (block_at bs index) index) (range i n)) (left h)
      ∙ ap (λ (j : ℕ). piece (block_at bs i) i ++ flat_map (λ index. piece (block_at bs index) index) (range j (steps - (i + 1)))) (sym (add-one i))
    where
      left : i < steps → steps - i ≡ suc (steps - (i + 1))
      left h = omega arith

  -- the place is at step i
  pub look-here : (before : ℕ) → i < steps → before < piece_len (block_at bs i) i → nth (from bs steps i) before ≡ Some (place_in (block_at bs i) i before)
  look-here before h l =
      ap (λ (xs : List Place). nth xs before) (from_cons h)
      ∙ nth_left (piece (block_at bs i) i) (from bs steps (i + 1)) before (omega (arith, length-piece (block_at bs i) i))
      ∙ nth-piece (block_at bs i) i before l

  -- it comes after step i
  pub look-past : (before : ℕ) → i < steps → piece_len (block_at bs i) i ≤ before
      → nth (from bs steps (i + 1)) (before - piece_len (block_at bs i) i) ≡ nth (from bs steps i) before
  look-past before h l =
      sym (ap (λ (xs : List Place). nth xs before) (from_cons h)
      ∙ nth_right (piece (block_at bs i) i) (from bs steps (i + 1)) before (omega (arith, length-piece (block_at bs i) i))
      ∙ ap (λ (n : ℕ). nth (from bs steps (i + 1)) (before - n)) (length-piece (block_at bs i) i))

  -- there is none
  pub look-end : (before : ℕ) → steps ≤ i → nth (from bs steps i) before ≡ None
  unfolding flat_map range nth
  look-end before h = ap (λ (n : ℕ). nth (flat_map (λ index. piece (block_at bs index) index) (range i n)) before) (none h)
    where
      none : steps ≤ i → steps - i ≡ 0
      none h = omega arith

-- the library's search for a block
pub find-block : (bs : List Block) (index : ℕ) → find (λ b. holds b index) bs ≡ block_at bs index
unfolding block_at
find-block [] index = refl
find-block (b ∷ bs) index = ap (λ (o : Option Block). cond (holds b index) (Some b) o) (find-block bs index)

pub as-it-is : {A : Type 0} (o : Option A) → option_map (λ x. x) o ≡ o
as-it-is None = refl
as-it-is (Some x) = refl

-- a place in a block's runs: the block has steps, and the run is one of its runs
pub in-runs : (b : Block) (index before : ℕ) → before < piece_len (Some b) index → (0 < b.len) × (before / b.len < b.count)
in-runs b index before = go (eqb b.first index)
  where
    go : (t : Bool) → before < cond t (b.len * b.count) 0 → (0 < b.len) × (before / b.len < b.count)
    go true h =
        let some : 0 < b.len = factor-positive b.len b.count before h in
        (some, (div-lt_iff_lt-mul some).1 (omega (arith, mul_comm b.len b.count)))
    go false h = absurd (omega arith)
