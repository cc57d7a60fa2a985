-- Functions on lists that the definitions of several crates use.
use Rattle.std.specs.Prelude.{Bool, true, ◌&&◌, List, [], ◌∷◌, ◌++◌, ℕ, zero, suc, ◌+◌, ◌-◌, length, replicate}

module _ {A : Type 0} where
  -- every element passes the test
  unfoldable pub all : (A → Bool) → List A → Bool
  all test [] = true
  all test (x ∷ xs) = test x && all test xs

  -- every element passes the test of its place, the first one's place being i
  unfoldable pub all_at : (ℕ → A → Bool) → ℕ → List A → Bool
  all_at test i [] = true
  all_at test i (x ∷ xs) = test i x && all_at test (i + 1) xs

  -- the list, filled up to n places
  abbrev pub padded : ℕ → A → List A → List A
  padded n blank xs = xs ++ replicate (n - length xs) blank

-- the sum of a list of numbers
unfoldable pub sum : List ℕ → ℕ
sum [] = 0
sum (n ∷ ns) = n + sum ns

-- the n numbers from i on
unfoldable pub range : ℕ → ℕ → List ℕ
range i zero = []
range i (suc n) = i ∷ range (suc i) n
