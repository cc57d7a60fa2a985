-- Four wants and a supply, by hand.
use Rattle.std.specs.Prelude.{◌≡◌, List, [], ◌∷◌, ℕ}
use Rattle.supply.specs.Supply.{level_of, grants_of}

abbrev pub four : ℕ → ℕ → ℕ → ℕ → List ℕ
four a b c d = a ∷ b ∷ c ∷ d ∷ []

pub record SampleShares : Type 0 where
  -- the supply is the wants' sum, and one watt below it
  pub at_sum : grants_of (four 7 3 0 5) 15 ≡ four 7 3 0 5
  pub below_sum : grants_of (four 7 3 0 5) 14 ≡ four 6 3 0 5
  -- wants below the level are met, and what the others leave is theirs
  pub uneven : grants_of (four 10 2 6 1) 12 ≡ four 4 2 4 1
  -- watts that don't reach for one more each stay unused
  pub left_over : grants_of (four 9 9 9 9) 15 ≡ four 3 3 3 3
  -- one want alone takes what there is
  pub one_want : grants_of (four 0 0 20 0) 12 ≡ four 0 0 12 0
  -- a supply below one watt each, and none
  pub scarce : grants_of (four 9 9 9 9) 3 ≡ four 0 0 0 0
  pub no_supply : grants_of (four 9 9 9 9) 0 ≡ four 0 0 0 0
  pub no_wants : grants_of (four 0 0 0 0) 0 ≡ four 0 0 0 0
  -- the largest wants and the largest supply of 32 bits
  pub largest : grants_of (four 65535 65535 65535 65535) 4294967295 ≡ four 65535 65535 65535 65535
  pub its_level : level_of (four 10 2 6 1) 12 ≡ 4
