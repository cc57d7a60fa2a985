-- Laws of lists: a test asked of each element in turn, a sum, and an array that is filled place by place.
use mathlib.Core.Path.{◌≡◌, refl, sym, ap, ap₂, ◌∙◌}
use mathlib.Core.Bool.{Bool, true, cond, ◌&&◌, and_assoc, and-true}
use mathlib.Core.List.{List, [], ◌∷◌, ◌++◌, map}
use Prim.Native.Nat.{ℕ, zero, suc, ◌+◌, ◌-◌, ◌≤◌, ◌<◌, min}
use native.Mathlib.Nat.{zero-add}
use native.Mathlib.Numerals.{add-one}
use native.Mathlib.Omega.{arith}
use lib.Dec.{ltb}
use lib.ListN.{length, get_or, take, drop, set, replicate, drop_of_length-le, length-take, length-drop}
use lib.Seq.{drop-cons, drop-append-add, set_at, append_snoc, take-nil, get_or-take, get_or-drop, take-suc, length-take-le}
use borrow.Author.Tests.{lt-ltb, le-ltb}
use Rattle.common.specs.Lists.{all, all_at, sum}
use Rattle.common.proofs.Tests.{and_left, and_right, and_both}

module _ {A : Type 0} where
  -- one element more has been tested
  pub all-at-step : (test : ℕ → A → Bool) (ok : Bool) (xs : List A) (i : ℕ) (d : A) → i < length xs
      → ((ok && test i (get_or xs i d)) && all_at test (i + 1) (drop (i + 1) xs)) ≡ (ok && all_at test i (drop i xs))
  unfolding all_at
  all-at-step test ok xs i d h =
      and_assoc ok (test i (get_or xs i d)) (all_at test (i + 1) (drop (i + 1) xs))
      ∙ ap (λ (l : List A). ok && all_at test i l) (ap (λ (k : ℕ). get_or xs i d ∷ drop k xs) (add-one i) ∙ sym (drop-cons xs i d h))

  -- all elements have been tested
  pub all-at-end : (test : ℕ → A → Bool) (ok : Bool) (xs : List A) (i : ℕ) → length xs ≤ i → ok ≡ (ok && all_at test i (drop i xs))
  unfolding all_at
  all-at-end test ok xs i h = rw (drop_of_length-le xs h) (sym (and-true ok))

  -- past the first n places only the second test counts
  all_past : (p q : A → Bool) (n i : ℕ) (xs : List A) → n ≤ i → all_at (λ j x. cond (ltb j n) (p x) (q x)) i xs ≡ all q xs
  unfolding all_at all
  all_past p q n i [] h = refl
  all_past p q n i (x ∷ xs) h = rw (le-ltb i n h, all_past p q n (i + 1) xs (omega arith))

  -- one test for the elements below a place and another from there on
  split_from : (p q : A → Bool) (n i : ℕ) (xs : List A)
      → all_at (λ j x. cond (ltb j (i + n)) (p x) (q x)) i xs ≡ (all p (take n xs) && all q (drop n xs))
  unfolding all_at all
  split_from p q zero i xs = all_past p q (i + 0) i xs (omega arith)
  split_from p q (suc n) i [] = refl
  split_from p q (suc n) i (x ∷ xs) =
      rw (lt-ltb i (i + suc n) (omega arith))
      (ap (λ (t : Bool). p x && t) (ap (λ (m : ℕ). all_at (λ j y. cond (ltb j m) (p y) (q y)) (i + 1) xs) (omega arith) ∙ split_from p q n (i + 1) xs)
      ∙ sym (and_assoc (p x) (all p (take n xs)) (all q (drop n xs))))

  pub all_split : (p q : A → Bool) (n : ℕ) (xs : List A)
      → all_at (λ j x. cond (ltb j n) (p x) (q x)) 0 xs ≡ (all p (take n xs) && all q (drop n xs))
  all_split p q n xs = ap (λ (m : ℕ). all_at (λ j x. cond (ltb j m) (p x) (q x)) 0 xs) (sym (zero-add n)) ∙ split_from p q n 0 xs

  -- a test that every element passes holds of all
  pub all_any : (p : A → Bool) → ((x : A) → p x ≡ true) → (xs : List A) → all p xs ≡ true
  unfolding all
  all_any p f [] = refl
  all_any p f (x ∷ xs) = and_both (f x) (all_any p f xs)

  -- a test for the elements below place n alone, and one for those from there on alone
  pub all-used : (p : A → Bool) (n : ℕ) (xs : List A) → all_at (λ j x. cond (ltb j n) (p x) true) 0 xs ≡ all p (take n xs)
  all-used p n xs = all_split p (λ _. true) n xs ∙ ap (λ (t : Bool). all p (take n xs) && t) (all_any (λ _. true) (λ x. refl) (drop n xs)) ∙ and-true (all p (take n xs))

  pub all-unused : (q : A → Bool) (n : ℕ) (xs : List A) → all_at (λ j x. cond (ltb j n) true (q x)) 0 xs ≡ all q (drop n xs)
  all-unused q n xs = all_split (λ _. true) q n xs ∙ ap (λ (t : Bool). t && all q (drop n xs)) (all_any (λ _. true) (λ x. refl) (take n xs))

  -- what is taken stops at the list's end
  pub take-least : (k : ℕ) (xs : List A) → take (min (length xs) k) xs ≡ take k xs
  take-least k [] = take-nil (min 0 k) ∙ sym (take-nil k)
  take-least zero (x ∷ xs) = ap (λ (n : ℕ). take n (x ∷ xs)) (at_zero (length (x ∷ xs)))
    where
      at_zero : (n : ℕ) → min n 0 ≡ 0
      at_zero n = omega arith
  take-least (suc k) (x ∷ xs) = ap (λ (n : ℕ). take n (x ∷ xs)) (at_suc (length xs) k) ∙ ap (λ (l : List A). x ∷ l) (take-least k xs)
    where
      at_suc : (n k : ℕ) → min (suc n) (suc k) ≡ suc (min n k)
      at_suc n k = omega arith

  -- what is left of the first n elements from place i on: one element and the rest, or nothing
  pub used-cons : (xs : List A) (n i : ℕ) (d : A) → i < n → i < length xs → drop i (take n xs) ≡ get_or xs i d ∷ drop (i + 1) (take n xs)
  used-cons xs n i d h l =
      drop-cons (take n xs) i d (omega (arith, length-take n xs))
      ∙ ap₂ (λ (x : A) (k : ℕ). x ∷ drop k (take n xs)) (get_or-take n xs i d h) (sym (add-one i))

  pub used-end : (xs : List A) (n i : ℕ) → min n (length xs) ≤ i → drop i (take n xs) ≡ []
  used-end xs n i h = drop_of_length-le (take n xs) {i = i} (omega (arith, length-take n xs))

  -- within the list the default is never read
  pub get_d_any : (xs : List A) (i : ℕ) (d e : A) → i < length xs → get_or xs i d ≡ get_or xs i e
  get_d_any [] i d e h = absurd (omega arith)
  get_d_any (x ∷ xs) zero d e h = refl
  get_d_any (x ∷ xs) (suc i) d e h = get_d_any xs i d e (omega arith)

  -- one element more of a list has been tested, or all have
  pub all-step : (p : A → Bool) (ok : Bool) (xs : List A) (i : ℕ) (d : A) → i < length xs
      → ((ok && p (get_or xs i d)) && all p (drop (i + 1) xs)) ≡ (ok && all p (drop i xs))
  unfolding all
  all-step p ok xs i d h =
      and_assoc ok (p (get_or xs i d)) (all p (drop (i + 1) xs))
      ∙ ap (λ (l : List A). ok && all p l) (ap (λ (k : ℕ). get_or xs i d ∷ drop k xs) (add-one i) ∙ sym (drop-cons xs i d h))

  pub all_end : (p : A → Bool) (ok : Bool) (xs : List A) (i : ℕ) → length xs ≤ i → ok ≡ (ok && all p (drop i xs))
  unfolding all
  all_end p ok xs i h = rw (drop_of_length-le xs h) (sym (and-true ok))

  -- an element of a part of a list
  pub get_d_part : (xs : List A) (from n i : ℕ) (d : A) → i < n → get_or (take n (drop from xs)) i d ≡ get_or xs (from + i) d
  get_d_part xs from n i d h = get_or-take n (drop from xs) i d h ∙ get_or-drop from xs i d

  -- the next place of an array that is filled from the front
  pub fill : (n i : ℕ) (xs : List A) (a blank : A) → length xs ≡ i → i < n
      → set (xs ++ replicate (n - i) blank) i a ≡ (xs ++ (a ∷ [])) ++ replicate (n - (i + 1)) blank
  fill n i xs a blank e h =
      ap (λ (k : ℕ). set (xs ++ replicate k blank) i a) (left n i h)
      ∙ set_at xs blank (replicate (n - (i + 1)) blank) a i e
      ∙ sym (append_snoc xs a (replicate (n - (i + 1)) blank))
    where
      left : (n i : ℕ) → i < n → n - i ≡ suc (n - (i + 1))
      left n i h = omega arith

  -- and of one that is filled with a part of a list
  pub fill-part : (n i from : ℕ) (s : List A) (d blank : A) → i < n → from + i < length s
      → set (take i (drop from s) ++ replicate (n - i) blank) i (get_or s (from + i) d) ≡ take (i + 1) (drop from s) ++ replicate (n - (i + 1)) blank
  fill-part n i from s d blank h l =
      let within : i < length (drop from s) = omega (arith, length-drop from s) in
      fill n i (take i (drop from s)) (get_or s (from + i) d) blank (length-take-le i (drop from s) (omega arith)) h
      ∙ ap (λ (x : List A). x ++ replicate (n - (i + 1)) blank)
      (ap (λ (a : A). take i (drop from s) ++ (a ∷ [])) (sym (get_or-drop from s i d))
      ∙ sym (take-suc (drop from s) i d within)
      ∙ ap (λ (k : ℕ). take k (drop from s)) (sym (add-one i)))

  pub all_append : (p : A → Bool) (xs ys : List A) → all p (xs ++ ys) ≡ (all p xs && all p ys)
  unfolding all
  all_append p [] ys = refl
  all_append p (x ∷ xs) ys = ap (λ (t : Bool). p x && t) (all_append p xs ys) ∙ sym (and_assoc (p x) (all p xs) (all p ys))

  -- where two tests hold of all, so does what follows from both
  pub all_both : (p q r : A → Bool) → ((x : A) → p x ≡ true → q x ≡ true → r x ≡ true) → (xs : List A) → all p xs ≡ true → all q xs ≡ true
      → all r xs ≡ true
  unfolding all
  all_both p q r f [] h k = refl
  all_both p q r f (x ∷ xs) h k =
      and_both (f x (and_left (p x) (all p xs) h) (and_left (q x) (all q xs) k))
      (all_both p q r f xs (and_right (p x) (all p xs) h) (and_right (q x) (all q xs) k))

  -- where a test holds of all, so does what follows from it
  pub all-mono : (p r : A → Bool) → ((x : A) → p x ≡ true → r x ≡ true) → (xs : List A) → all p xs ≡ true → all r xs ≡ true
  all-mono p r f xs h = all_both p p r (λ x a b. f x a) xs h h

  -- what holds of all holds of the element at a place
  pub all-get : (p : A → Bool) (xs : List A) (i : ℕ) (d : A) → i < length xs → all p xs ≡ true → p (get_or xs i d) ≡ true
  unfolding all
  all-get p [] i d h e = absurd (omega arith)
  all-get p (x ∷ xs) zero d h e = and_left (p x) (all p xs) e
  all-get p (x ∷ xs) (suc i) d h e = all-get p xs i d (omega arith) (and_right (p x) (all p xs) e)

  -- one number more has been added
  pub sum_step : (f : A → ℕ) (xs : List A) (i : ℕ) (d : A) → i < length xs
      → f (get_or xs i d) + sum (map f (drop (i + 1) xs)) ≡ sum (map f (drop i xs))
  unfolding sum
  sum_step f xs i d h = rw (add-one, drop-cons xs i d)

  -- the blanks of a filled array that has room for one more
  pub padded-rest : (n : ℕ) (xs : List A) (blank : A) → length xs < n
      → drop (length xs + 1) (xs ++ replicate (n - length xs) blank) ≡ replicate (n - (length xs + 1)) blank
  padded-rest n xs blank h =
      let left : n - length xs ≡ suc (n - (length xs + 1)) = omega arith in
      drop-append-add xs (replicate (n - length xs) blank) 1 ∙ ap (λ (k : ℕ). drop 1 (replicate k blank)) left

  -- a list whose elements all pass two tests that only one value passes holds that value alone
  pub all_one : (p q : A → Bool) (value : A) → ((x : A) → p x ≡ true → q x ≡ true → x ≡ value) → (xs : List A) → all p xs ≡ true
      → all q xs ≡ true → xs ≡ replicate (length xs) value
  unfolding all
  all_one p q value f [] h k = refl
  all_one p q value f (x ∷ xs) h k =
      ap₂ (λ (y : A) (ys : List A). y ∷ ys) (f x (and_left (p x) (all p xs) h) (and_left (q x) (all q xs) k))
      (all_one p q value f xs (and_right (p x) (all p xs) h) (and_right (q x) (all q xs) k))
