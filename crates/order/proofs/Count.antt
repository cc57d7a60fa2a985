-- The playing order of a workout with sound blocks is as long as `played_len` says.
use Rattle.std.specs.Prelude.{None, Option, Some}
use mathlib.Core.Path.{◌≡◌, refl, sym, ap, ap₂, ◌∙◌}
use mathlib.Core.Bool.{Bool, true, false, cond, ◌&&◌, and-false}
use mathlib.Core.Logic.{⊎_elim}
use mathlib.Core.List.{List, [], ◌∷◌, flat_map}
use Prim.Native.Nat.{ℕ, zero, suc, ◌+◌, ◌-◌, ◌*◌, ◌≤◌, ◌<◌}
use native.Mathlib.Nat.{mul-suc, add-zero, zero-add, suc-add}
use native.Mathlib.Omega.{arith}
use lib.Dec.{eqb, ltb, leb}
use lib.ListN.{length, length-append}
use borrow.Author.Tests.{lt-ltb, le-ltb, le-leb, lt-leb, eq-eqb, ne_eqb}
use Rattle.common.specs.Lists.{all, sum, range}
use Rattle.common.proofs.Tests.{and_left, and_right}
use Rattle.model.specs.declared.Block.{Block}
use Rattle.blocks.specs.Blocks.{end, apart, blocks_sound, extra, repeats}
use Rattle.blocks.proofs.Laws.{Ok, apart-cases, sound-head, sound-tail, head_apart, repeats-cons}
use Rattle.order.specs.Order.{holds, block_at, piece, piece_len, order}
use Rattle.order.proofs.Laws.{length-piece}

-- how many places come at the n steps from i on
unfoldable count : List Block → ℕ → ℕ → ℕ
count bs i zero = 0
count bs i (suc n) = piece_len (block_at bs i) i + count bs (suc i) n

length-order : (bs : List Block) (i n : ℕ) → length (flat_map (λ index. piece (block_at bs index) index) (range i n)) ≡ count bs i n
unfolding flat_map range count
length-order bs i zero = refl
length-order bs i (suc n) =
    length-append (piece (block_at bs i) i) (flat_map (λ index. piece (block_at bs index) index) (range (suc i) n))
    ∙ ap₂ (λ (x y : ℕ). x + y) (length-piece (block_at bs i) i) (length-order bs (suc i) n)

count_add : (bs : List Block) (i m n : ℕ) → count bs i (m + n) ≡ count bs i m + count bs (i + m) n
unfolding count
count_add bs i zero n = omega (arith, ap (count bs i) (zero-add n), ap (λ (j : ℕ). count bs j n) (add-zero i))
count_add bs i (suc m) n =
    omega (
      arith,
      ap (count bs i) (suc-add m n),
      count_add bs (suc i) m n,
      ap (λ (j : ℕ). count bs j n) (shifted i m),
    )
  where
    shifted : (i m : ℕ) → suc i + m ≡ i + suc m
    shifted i m = omega arith

-- without blocks each step is played once
count_none : (i n : ℕ) → count [] i n ≡ n
unfolding count block_at
count_none i zero = refl
count_none i (suc n) = omega (arith, count_none (suc i) n)

-- a block that is apart from b holds none of b's steps
apart-misses : (b c : Block) (j : ℕ) → b.first ≤ j → j < end b → apart b c ≡ true → holds c j ≡ false
apart-misses b c j p q h =
    ⊎_elim (λ before. ap (λ (t : Bool). t && ltb j (end c)) (lt-leb c.first j (omega arith)))
    (λ after. ap (λ (t : Bool). leb c.first j && t) (le-ltb j (end c) (omega arith)) ∙ and-false (leb c.first j))
    (apart-cases b c h)

-- so no block of a list that is apart from b does
apart-free : (b : Block) (bs : List Block) (j : ℕ) → b.first ≤ j → j < end b → all (apart b) bs ≡ true → block_at bs j ≡ None
unfolding all block_at
apart-free b [] j p q h = refl
apart-free b (c ∷ cs) j p q h =
    ap (λ (t : Bool). cond t (Some c) (block_at cs j)) (apart-misses b c j p q (and_left (apart b c) (all (apart b) cs) h))
    ∙ apart-free b cs j p q (and_right (apart b c) (all (apart b) cs) h)

count-free : (bs : List Block) (i n : ℕ) → ((j : ℕ) → i ≤ j → j < i + n → block_at bs j ≡ None) → count bs i n ≡ n
unfolding count
count-free bs i zero h = refl
count-free bs i (suc n) h =
    omega (
      arith,
      ap (λ (f : Option Block). piece_len f i) (h i (omega arith) (omega arith)),
      count-free bs (suc i) n (λ j p q. h j (omega arith) (omega arith)),
    )

-- the steps before b, b's own, and those after it
count-parts : (b : Block) (bs : List Block) (steps : ℕ) → end b ≤ steps
    → count bs 0 steps ≡ count bs 0 b.first + count bs b.first b.len + count bs (end b) (steps - end b)
count-parts b bs steps h =
    let whole : steps ≡ b.first + (b.len + (steps - end b)) = omega arith in
    omega (
      arith,
      ap (count bs 0) whole ∙ count_add bs 0 b.first (b.len + (steps - end b)),
      ap (λ (i : ℕ). count bs i (b.len + (steps - end b))) (zero-add b.first),
      count_add bs b.first b.len (steps - end b),
    )

module _ (b : Block) (bs : List Block) where
  miss : (i : ℕ) → holds b i ≡ false → piece_len (block_at (b ∷ bs) i) i ≡ piece_len (block_at bs i) i
  unfolding block_at
  miss i e = ap (λ (t : Bool). piece_len (cond t (Some b) (block_at bs i)) i) e

  hit : (i : ℕ) → b.first ≤ i → i < end b → piece_len (block_at (b ∷ bs) i) i ≡ cond (eqb b.first i) (b.len * b.count) 0
  unfolding block_at
  hit i p q =
      ap (λ (t : Bool). piece_len (cond t (Some b) (block_at bs i)) i)
      (ap₂ (λ (s t : Bool). s && t) (le-leb b.first i p) (lt-ltb i (end b) q))

  -- where b holds none of n steps, they count as without it
  count-miss : (i n : ℕ) → ((j : ℕ) → i ≤ j → j < i + n → holds b j ≡ false) → count (b ∷ bs) i n ≡ count bs i n
  unfolding count
  count-miss i zero h = refl
  count-miss i (suc n) h =
      ap₂ (λ (x y : ℕ). x + y) (miss i (h i (omega arith) (omega arith))) (count-miss (suc i) n (λ j p q. h j (omega arith) (omega arith)))

  count-before : count (b ∷ bs) 0 b.first ≡ count bs 0 b.first
  count-before = count-miss 0 b.first (λ j p q. ap (λ (t : Bool). t && ltb j (end b)) (lt-leb b.first j (omega arith)))

  count-after : (n : ℕ) → count (b ∷ bs) (end b) n ≡ count bs (end b) n
  count-after n = count-miss (end b) n (λ j p q. ap (λ (t : Bool). leb b.first j && t) (le-ltb j (end b) p) ∙ and-false (leb b.first j))

  -- b's steps after its first add no places of their own
  count-inside : (i n : ℕ) → b.first < i → i + n ≤ end b → count (b ∷ bs) i n ≡ 0
  unfolding count
  count-inside i zero f l = refl
  count-inside i (suc n) f l =
      omega (
        arith,
        hit i (omega arith) (omega arith) ∙ ap (λ (t : Bool). cond t (b.len * b.count) 0) (ne_eqb b.first i (λ e. omega arith)),
        count-inside (suc i) n (omega arith) (omega arith),
      )

  -- at its first step all its runs come
  count-block : (n : ℕ) → b.len ≡ suc n → count (b ∷ bs) b.first (suc n) ≡ b.len * b.count
  unfolding count
  count-block n e =
      omega (
        arith,
        hit b.first (omega arith) (omega arith) ∙ ap (λ (t : Bool). cond t (b.len * b.count) 0) (eq-eqb b.first b.first refl),
        count-inside (suc b.first) n (omega arith) (omega arith),
      )

  -- one block more adds its repeats
  count-more : (steps : ℕ) → Ok steps b → all (apart b) bs ≡ true → count (b ∷ bs) 0 steps ≡ count bs 0 steps + extra b
  count-more steps ok a =
      let one : b.len ≡ suc (b.len - 1) = omega (arith, ok.some) in
      let runs : b.count ≡ suc (b.count - 1) = omega (arith, ok.runs) in
      omega (
        arith,
        count-parts b (b ∷ bs) steps ok.within,
        count-parts b bs steps ok.within,
        count-before,
        count-after (steps - end b),
        ap (count (b ∷ bs) b.first) one ∙ count-block (b.len - 1) one,
        count-free bs b.first b.len (λ j p q. apart-free b bs j p q a),
        ap (λ (n : ℕ). b.len * n) runs ∙ mul-suc b.len (b.count - 1),
      )

-- the steps, and what repeats add
count-sound : (steps : ℕ) (bs : List Block) → blocks_sound steps bs ≡ true → count bs 0 steps ≡ steps + repeats bs
unfolding repeats sum
count-sound steps [] h = count_none 0 steps ∙ sym (add-zero steps)
count-sound steps (b ∷ bs) h =
    omega (
      arith,
      count-more b bs steps (sound-head steps b bs h) (head_apart steps b bs h),
      count-sound steps bs (sound-tail steps b bs h),
      repeats-cons b bs,
    )

pub order_length : (steps : ℕ) (bs : List Block) → blocks_sound steps bs ≡ true → length (order steps bs) ≡ steps + repeats bs
unfolding order
order_length steps bs h = length-order bs 0 steps ∙ count-sound steps bs h
