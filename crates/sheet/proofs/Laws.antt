-- Questions 16 and 17, case by case.
use Rattle.std.specs.Prelude.{Err, None, Ok, Some}
use mathlib.Core.Path.{◌≡◌, refl, sym, ap, ◌∙◌}
use mathlib.Core.Bool.{Bool, true, false, cond, ◌&&◌, and-false}
use mathlib.Core.List.{List}
use Prim.Native.Nat.{ℕ, zero, suc, ◌+◌, ◌-◌, ◌*◌, ◌≤◌, ◌<◌}
use native.Mathlib.Omega.{arith}
use lib.Dec.{leb, eqb}
use lib.ListN.{length}
use borrow.Author.Tests.{lt-ltb, le-ltb, ne_eqb, eqb-true, leb-true}
use Rattle.common.proofs.Tests.{and_left, and_right}
use Rattle.refusal.specs.declared.Refusal.TheVariants as refusals
use Rattle.sheet.specs.declared.ActAnswer.{ActAnswer}
use Rattle.sheet.specs.Sheet.{count_in, size_ok, valueless_ok, act_by, act_ok, fault_from, accepted_all, refused_at, fault_answer, check_of}

-- What question 16 says of a sheet that passes it.
pub record Sized (s : List ℕ) : Type 0 where
  pub some : 1 ≤ count_in s
  pub most : count_in s ≤ 4096
  pub long : length s ≡ 2 + 9 * count_in s

module _ (s : List ℕ) where
  abbrev least : Bool
  least = leb 1 (count_in s)

  abbrev most : Bool
  most = leb (count_in s) 4096

  abbrev exact : Bool
  exact = eqb (length s) (2 + 9 * count_in s)

  pub sized : size_ok s ≡ true → Sized s
  unfolding size_ok
  sized e =
      record {
        some = leb-true 1 (count_in s) (and_left least most (and_left (least && most) exact e));
        most = leb-true (count_in s) 4096 (and_right least most (and_left (least && most) exact e));
        long = eqb-true (length s) (2 + 9 * count_in s) (and_right (least && most) exact e);
      }

  -- a sheet without a whole count
  pub too_short : length s < 2 → false ≡ size_ok s
  unfolding size_ok
  too_short h = sym (ap (λ (b : Bool). least && most && b) (ne_eqb (length s) (2 + 9 * count_in s) (λ e. absurd (omega arith))) ∙ and-false (least && most))

  -- The answers.

  check-by : (b : Bool) → size_ok s ≡ b → check_of s ≡ cond b (fault_answer (fault_from s (count_in s) 0 (count_in s)) (count_in s)) (refused_at refusals.SheetLength None)
  unfolding check_of
  check-by b e = ap (λ (x : Bool). cond x (fault_answer (fault_from s (count_in s) 0 (count_in s)) (count_in s)) (refused_at refusals.SheetLength None)) e

  -- a sheet that passes both questions passes the first
  pub accepted-sized : (check_of s).answer ≡ Ok tt → size_ok s ≡ true
  accepted-sized h = at (size_ok s) refl
    where
      at : (b : Bool) → size_ok s ≡ b → size_ok s ≡ true
      at true e = e
      at false e =
          absurd (let z : Err refusals.SheetLength ≡ Ok tt = sym (ap (λ (r : ActAnswer). r.answer) (check-by false e)) ∙ h in let y : ◌≡◌ {A = ℕ} 0 1 = cc in omega arith)

  pub not-sized : size_ok s ≡ false → refused_at refusals.SheetLength None ≡ check_of s
  not-sized e = sym (check-by false e)

  check-at : (n fault : ℕ) → size_ok s ≡ true → n ≡ count_in s → fault ≡ fault_from s n 0 n → fault_answer fault n ≡ check_of s
  check-at n fault e c f =
      ap (λ (k : ℕ). fault_answer k n) f ∙ ap (λ (k : ℕ). fault_answer (fault_from s k 0 k) k) c ∙ sym (check-by true e)

  pub at-fault : (n fault : ℕ) → size_ok s ≡ true → n ≡ count_in s → fault ≡ fault_from s n 0 n → fault < n → refused_at refusals.Act (Some fault) ≡ check_of s
  at-fault n fault e c f h =
      sym (ap (λ (b : Bool). cond {A = ActAnswer} b (refused_at refusals.Act (Some fault)) accepted_all) (lt-ltb fault n h)) ∙ check-at n fault e c f

  pub no-fault : (n fault : ℕ) → size_ok s ≡ true → n ≡ count_in s → fault ≡ fault_from s n 0 n → n ≤ fault → accepted_all ≡ check_of s
  no-fault n fault e c f h =
      sym (ap (λ (b : Bool). cond {A = ActAnswer} b (refused_at refusals.Act (Some fault)) accepted_all) (le-ltb fault n h)) ∙ check-at n fault e c f

-- kinds 3 to 5
pub valueless : (first : Bool) (s : List ℕ) (at kind : ℕ) → 3 ≤ kind → kind < 6 → act_by first s at kind ≡ valueless_ok first s at
valueless first s at zero h g = absurd (omega arith)
valueless first s at (suc zero) h g = absurd (omega arith)
valueless first s at (suc (suc zero)) h g = absurd (omega arith)
valueless first s at (suc (suc (suc zero))) h g = refl
valueless first s at (suc (suc (suc (suc zero)))) h g = refl
valueless first s at (suc (suc (suc (suc (suc zero))))) h g = refl
valueless first s at (suc (suc (suc (suc (suc (suc kind)))))) h g = absurd (omega arith)

-- the first act at fault, from place i on
module _ (s : List ℕ) (n i : ℕ) where
  one_less : i < n → n - i ≡ suc (n - (i + 1))
  one_less h = omega arith

  pub fault-next : i < n → act_ok s n i ≡ true → fault_from s n (i + 1) (n - (i + 1)) ≡ fault_from s n i (n - i)
  unfolding fault_from
  fault-next h e =
      sym (ap (fault_from s n i) (one_less h) ∙ ap (λ (b : Bool). cond b (fault_from s n (i + 1) (n - (i + 1))) i) e)

  pub fault-here : i < n → act_ok s n i ≡ false → i ≡ fault_from s n i (n - i)
  unfolding fault_from
  fault-here h e = sym (ap (fault_from s n i) (one_less h) ∙ ap (λ (b : Bool). cond b (fault_from s n (i + 1) (n - (i + 1))) i) e)

  pub fault-end : n ≤ i → i ≡ fault_from s n i (n - i)
  unfolding fault_from
  fault-end h = let none : n - i ≡ 0 = omega arith in sym (ap (fault_from s n i) none)

pub fault-start : (s : List ℕ) (n : ℕ) → fault_from s n 0 (n - 0) ≡ fault_from s n 0 n
fault-start s n = let all : n - 0 ≡ n = omega arith in ap (fault_from s n 0) all
