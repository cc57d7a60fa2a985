-- The greatest mean of neighbouring seconds is the same with the newest second first or last.
use Rattle.std.specs.Prelude.{None, Option, Some}
use mathlib.Core.Path.{◌≡◌, refl, sym, ap, ap₂, ◌∙◌}
use mathlib.Core.Bool.{Bool, true, false}
use mathlib.Core.List.{List, [], ◌∷◌, ◌++◌, reverse, reverse-append, reverse-cons}
use Prim.Native.Nat.{ℕ, suc, ◌+◌, ◌-◌, ◌/◌, ◌≤◌, ◌<◌}
use native.Mathlib.Omega.{arith}
use lib.Dec.{leb}
use lib.ListN.{length, take, drop, length-append, length-drop, length-reverse, take-append-drop}
use lib.Seq.{take_all, take-append-le, drop_at}
use borrow.Author.Tests.{leb-true, leb-false}
use Rattle.common.specs.Lists.{sum}
use Rattle.machine.specs.Machine.{mean, greater, greatest}
use Rattle.machine.specs.ThirdDemand.{SecondsEitherWay}
use Rattle.machine.proofs.Seconds.{sum-reverse, greatest-none, greatest-full}

greater-swap : (o : Option ℕ) (a b : ℕ) → greater (Some (greater o a)) b ≡ greater (Some (greater o b)) a
greater-swap None a b = omega arith
greater-swap (Some best) a b = omega arith

-- one second at the far end
module _ (n w : ℕ) (h : 0 < n) where
  -- the last n seconds
  abbrev last_of : List ℕ → List ℕ
  last_of xs = drop (length xs + 1 - n) (xs ++ (w ∷ []))

  long : (xs : List ℕ) → length (xs ++ (w ∷ [])) ≡ length xs + 1
  long xs = length-append xs (w ∷ [])

  last_cons : (x : ℕ) (xs : List ℕ) → n ≤ length xs + 1 → last_of (x ∷ xs) ≡ last_of xs
  last_cons x xs e =
      let z : suc (length xs) + 1 - n ≡ suc (length xs + 1 - n) = omega arith in
      ap (λ (i : ℕ). drop i (x ∷ (xs ++ (w ∷ [])))) z

  last-all : (xs : List ℕ) → length xs + 1 ≡ n → last_of xs ≡ xs ++ (w ∷ [])
  last-all xs e =
      let z : length xs + 1 - n ≡ 0 = omega arith in
      ap (λ (i : ℕ). drop i (xs ++ (w ∷ []))) z

  snoc-full : (xs : List ℕ) → n ≤ length xs + 1 → greatest n (xs ++ (w ∷ [])) ≡ Some (greater (greatest n xs) (mean n (last_of xs)))
  snoc-full [] e =
      let one : n ≡ 1 = omega arith in
      greatest-full n w [] (omega arith) ∙ ap (λ (l : List ℕ). Some (greater (greatest n []) (mean n l))) (take_all n (w ∷ []) (omega arith) ∙ sym (last-all [] (omega arith)))
  snoc-full (x ∷ xs) e = at (leb n (length xs + 1)) refl (λ g. snoc-full xs g)
    where
      at : (b : Bool) → leb n (length xs + 1) ≡ b → (n ≤ length xs + 1 → greatest n (xs ++ (w ∷ [])) ≡ Some (greater (greatest n xs) (mean n (last_of xs))))
          → greatest n (x ∷ (xs ++ (w ∷ []))) ≡ Some (greater (greatest n (x ∷ xs)) (mean n (last_of (x ∷ xs))))
      at true t ih =
          let le : n ≤ length xs + 1 = leb-true n (length xs + 1) t in
          let front : take n (x ∷ (xs ++ (w ∷ []))) ≡ take n (x ∷ xs) = take-append-le n (x ∷ xs) (w ∷ []) (omega arith) in
          greatest-full n x (xs ++ (w ∷ [])) (omega (arith, long xs))
          ∙ ap₂ (λ (o : Option ℕ) (l : List ℕ). Some (greater o (mean n l))) (ih le) front
          ∙ ap Some (greater-swap (greatest n xs) (mean n (last_of xs)) (mean n (take n (x ∷ xs))))
          ∙ ap₂ (λ (o : Option ℕ) (l : List ℕ). Some (greater o (mean n l))) (sym (greatest-full n x xs (omega arith))) (sym (last_cons x xs le))
      at false t ih =
          let lt : length xs + 1 < n = leb-false n (length xs + 1) t in
          greatest-full n x (xs ++ (w ∷ [])) (omega (arith, long xs))
          ∙ ap₂ (λ (o : Option ℕ) (l : List ℕ). Some (greater o (mean n l)))
          (greatest-none n (xs ++ (w ∷ [])) (omega (arith, long xs)) ∙ sym (greatest-none n (x ∷ xs) (omega arith)))
          (take_all n (x ∷ (xs ++ (w ∷ []))) (omega (arith, long xs)) ∙ sym (last-all (x ∷ xs) (omega arith)))

-- the newest seconds of a list are the last ones of it reversed
mean-last : (n w : ℕ) (h : 0 < n) (ws : List ℕ) → n ≤ suc (length ws) → mean n (last_of n w h (reverse ws)) ≡ mean n (take n (w ∷ ws))
unfolding mean
mean-last n w h ws e =
    let l : List ℕ = w ∷ ws in
    let split : reverse ws ++ (w ∷ []) ≡ reverse (drop n l) ++ reverse (take n l) =
    sym (reverse-cons w ws) ∙ ap reverse (sym (take-append-drop n l)) ∙ reverse-append (take n l) (drop n l) in
    let place : length (reverse ws) + 1 - n ≡ length (reverse (drop n l)) = omega (arith, length-reverse ws, length-reverse (drop n l), length-drop n l) in
    ap (λ (s : ℕ). (s + n / 2) / n)
    (ap₂ (λ (i : ℕ) (x : List ℕ). sum (drop i x)) place split
    ∙ ap sum (drop_at (reverse (drop n l)) (reverse (take n l)) (length (reverse (drop n l))) refl)
    ∙ sum-reverse (take n l))

pub seconds-either-way : SecondsEitherWay
seconds-either-way n [] h = refl
seconds-either-way n (w ∷ ws) h = ap (greatest n) (reverse-cons w ws) ∙ at (leb n (suc (length ws))) refl (seconds-either-way n ws h)
  where
    at : (b : Bool) → leb n (suc (length ws)) ≡ b → greatest n (reverse ws) ≡ greatest n ws → greatest n (reverse ws ++ (w ∷ [])) ≡ greatest n (w ∷ ws)
    at true t ih =
        let le : n ≤ suc (length ws) = leb-true n (suc (length ws)) t in
        snoc-full n w h (reverse ws) (omega (arith, length-reverse ws))
        ∙ ap₂ (λ (o : Option ℕ) (m : ℕ). Some (greater o m)) ih (mean-last n w h ws le)
        ∙ sym (greatest-full n w ws le)
    at false t ih =
        let lt : suc (length ws) < n = leb-false n (suc (length ws)) t in
        greatest-none n (reverse ws ++ (w ∷ [])) (omega (arith, length-append (reverse ws) (w ∷ []), length-reverse ws)) ∙ sym (greatest-none n (w ∷ ws) lt)
