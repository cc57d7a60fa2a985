-- What a value that was read says of the readers it was read by: each step of a reading taken apart.
use mathlib.Core.Path.{◌≡◌, refl, sym, ap}
use mathlib.Core.Bool.{Bool, true, false, cond}
use mathlib.Core.List.{List, [], ◌∷◌}
use Prim.Native.Nat.{ℕ, ◌+◌, ◌≤◌}
use native.Mathlib.Omega.{arith}
use lib.Dec.{leb}
use lib.ListN.{length, take, drop}
use borrow.Author.Tests.{leb-true}
use Rattle.refusal.specs.declared.Refusal.TheVariants as refusals
use Rattle.cursor.specs.Reading.{Read, got, refused, behind, enough, allow, and_then, take_bytes, read_byte}

-- a reader and the one behind it
pub record Then {A B : Type 0} (l : List ℕ) (m : Read A) (next : A → List ℕ → Read B) (y : B) (k : ℕ) : Type 0 where
  pub value : A
  pub size : ℕ
  pub more : ℕ
  pub first : m ≡ got value size
  pub second : next value (drop size l) ≡ got y more
  pub sum : k ≡ size + more

pub behind-got : {A : Type 0} (n : ℕ) (m : Read A) (x : A) (k : ℕ) → behind n m ≡ got x k → (j : ℕ) × ((m ≡ got x j) × (k ≡ n + j))
behind-got n (got y j) x k e =
    let same : y ≡ x = cc in
    let size : n + j ≡ k = cc in
    (j, (ap (λ z. got z j) same, sym size))
behind-got n (refused r) x k e = let z : ◌≡◌ {A = ℕ} 0 1 = cc in absurd (omega arith)

pub then-got : {A B : Type 0} (l : List ℕ) (m : Read A) (next : A → List ℕ → Read B) (y : B) (k : ℕ) → and_then l m next ≡ got y k → Then l m next y k
unfolding and_then
then-got l (got x n) next y k e =
    let b = behind-got n (next x (drop n l)) y k e in
    record { value = x; size = n; more = b.0; first = refl; second = b.1.0; sum = b.1.1 }
then-got l (refused r) next y k e = let z : ◌≡◌ {A = ℕ} 0 1 = cc in absurd (omega arith)

pub allow-got : {A : Type 0} (t : Bool) (m : Read A) (x : A) (k : ℕ) → allow t m ≡ got x k → (t ≡ true) × (m ≡ got x k)
allow-got true m x k e = (refl, e)
allow-got false m x k e = let z : ◌≡◌ {A = ℕ} 0 1 = cc in absurd (omega arith)

pub enough-got : {A : Type 0} (n : ℕ) (l : List ℕ) (m : Read A) (x : A) (k : ℕ) → enough n l m ≡ got x k → (n ≤ length l) × (m ≡ got x k)
enough-got n l m x k = go (leb n (length l)) refl
  where
    go : (t : Bool) → leb n (length l) ≡ t → cond t m (refused refusals.Length) ≡ got x k → (n ≤ length l) × (m ≡ got x k)
    go true t e = (leb-true n (length l) t, e)
    go false t e = let z : ◌≡◌ {A = ℕ} 0 1 = cc in absurd (omega arith)

pub take-got : (n : ℕ) (l text : List ℕ) (k : ℕ) → take_bytes n l ≡ got text k → (n ≤ length l) × ((text ≡ take n l) × (k ≡ n))
unfolding take_bytes
take-got n l text k e =
    let f = enough-got n l (got (take n l) n) text k e in
    let g = f.1 in
    let same : take n l ≡ text = cc in
    let size : n ≡ k = cc in
    (f.0, (sym same, sym size))

pub byte-got : (l : List ℕ) (b k : ℕ) → read_byte l ≡ got b k → (k ≡ 1) × (l ≡ b ∷ drop 1 l)
unfolding read_byte
byte-got [] b k e = let z : ◌≡◌ {A = ℕ} 0 1 = cc in absurd (omega arith)
byte-got (x ∷ l) b k e =
    let same : x ≡ b = cc in
    let size : 1 ≡ k = cc in
    (sym size, ap (λ (y : ℕ). y ∷ l) same)
