-- Runs of text written one behind the other, and the digits of a number.
use mathlib.Core.Path.{◌≡◌, refl, ap, ap₂, ◌∙◌}
use mathlib.Core.Bool.{Bool, true, false}
use mathlib.Core.List.{List, [], ◌∷◌, ◌++◌}
use Prim.Native.Nat.{ℕ, zero, suc, ◌+◌, ◌*◌, ◌-◌, ◌/◌, ◌%◌, ◌^◌, ◌<◌, ◌≤◌}
use native.Mathlib.Nat.{pow-suc, one-le-pow, pow-le-pow_right}
use native.Mathlib.Numerals.{unary_clauses}
use native.Mathlib.Omega.{arith}
use lib.Dec.{ltb, lit<}
use lib.ListN.{length, length-append}
use borrow.Author.Tests.{ltb-true, ltb-false, lt-ltb, le-ltb}
use Rattle.le.specs.Le.{written}
use Rattle.le.proofs.Laws.{written_none, written-two}
use Rattle.io.specs.Digits.{last_digits, hex_digit_ascii, IsDigitCount}
use Rattle.line.specs.Line.{decimal_in, decimal_of, Wrote}

-- two runs, one behind the other
pub wrote_then : {d d' d'' : List ℕ} {at m r : ℕ} {bs cs : List ℕ} → at ≤ length d → Wrote d at d' m bs → Wrote d' m d'' r cs → Wrote d at d'' r (bs ++ cs)
wrote_then {d = d} {at = at} {m = m} {bs = bs} {cs = cs} h a b =
    record {
      place = omega (arith, a.place, b.place, length-append bs cs);
      bytes = b.bytes ∙ ap (λ (x : List ℕ). written x m cs) a.bytes ∙ written-two d at bs cs m h a.place;
    }

-- nothing written
pub wrote_none : (d : List ℕ) (at : ℕ) → Wrote d at d at []
wrote_none d at = record { place = omega arith; bytes = written_none d at }

-- the same text
pub wrote_as : {d d' : List ℕ} {at r : ℕ} {bs cs : List ℕ} → bs ≡ cs → Wrote d at d' r bs → Wrote d at d' r cs
wrote_as {d = d} {at = at} e w = record { place = w.place ∙ ap (λ (l : List ℕ). at + length l) e; bytes = w.bytes ∙ ap (written d at) e }

-- a digit's byte
glyph-is : (x : ℕ) → x < 10 → hex_digit_ascii x ≡ 48 + x
glyph-is x h = rw (lt-ltb x 10 h)

-- the fewest digits that hold a number are those of its decimal text
decimal-in : (f k n : ℕ) → k ≤ f → IsDigitCount 10 1 n k → last_digits 10 k n ≡ decimal_in f n
unfolding decimal_in
decimal-in zero k n h w = let l = w.0 in absurd (omega arith)
decimal-in (suc f) zero n h w = let l = w.0 in absurd (omega arith)
decimal-in (suc f) (suc zero) n h w =
    let less : n < 10 = omega (arith, w.1) in
    let one : n % 10 ≡ n = omega arith in
    rw (lt-ltb n 10 less, one, lt-ltb n 10 less)
decimal-in (suc f) (suc (suc k)) n h w =
    let lower : 10 ^ k * 10 ≤ n = simp unary_clauses at (w.2 (omega arith)) in
    let upper : n < 10 ^ suc (suc k) = w.1 in
    let one : 1 ≤ 10 ^ k = one-le-pow k 10 (lit< tt) in
    let ten : 10 ≤ n = omega arith in
    let digit : n % 10 < 10 = omega arith in
    let rest : last_digits 10 (suc k) (n / 10) ≡ decimal_in f (n / 10) =
    decimal-in f (suc k) (n / 10) (omega arith)
    (omega arith, omega (arith, pow-suc 10 (suc k)), λ _. simp unary_clauses (omega arith)) in
    rw (le-ltb n 10 ten) (ap₂ (λ (l : List ℕ) (x : ℕ). l ++ (x ∷ [])) rest (glyph-is (n % 10) digit))

-- a number of 64 bits has at most 20
pub most-places : (k n : ℕ) → n < 18446744073709551616 → IsDigitCount 10 1 n k → k ≤ 20
most-places k n h w = go (ltb 20 k) refl
  where
    go : (b : Bool) → ltb 20 k ≡ b → k ≤ 20
    go false e = ltb-false 20 k e
    go true e =
        let more : 20 < k = ltb-true 20 k e in
        let lower : 10 ^ (k - 1) ≤ n = w.2 (omega arith) in
        absurd (omega (arith, pow-le-pow_right {n = 10} (lit< tt) {i = 20} {j = k - 1} (omega arith)))

pub decimal-is : (k n : ℕ) → k ≤ 20 → IsDigitCount 10 1 n k → last_digits 10 k n ≡ decimal_of n
unfolding decimal_of
decimal-is k n h w = decimal-in 20 k n h w
