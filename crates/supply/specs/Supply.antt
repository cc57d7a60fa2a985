-- Document 02, l, 'Four bikes, one supply': how wants share a supply of so many watts.
use Rattle.std.specs.Prelude.{◌≡◌, cond, List, [], ◌∷◌, map, ℕ, zero, suc, ◌/◌, ◌≤◌, ◌<◌, min, leb, get_or}
use Rattle.common.specs.Lists.{sum}

-- "each gets the lesser of its want and the .. level"
abbrev pub at_level : ℕ → List ℕ → List ℕ
at_level level wants = map (λ want. min want level) wants

-- "the greatest whole level at which the four still sum to at most L", of those up to n
unfoldable pub level_up_to : ℕ → List ℕ → ℕ → ℕ
level_up_to zero wants supply = 0
level_up_to (suc n) wants supply = cond (leb (sum (at_level (suc n) wants)) supply) (suc n) (level_up_to n wants supply)

-- Wants that sum to more than the supply do so too at any level above it: `SupplyShared` says that this one is the greatest of all.
unfoldable pub level_of : List ℕ → ℕ → ℕ
level_of wants supply = level_up_to supply wants supply

-- "If the wants sum to at most L each gets its own. Otherwise each gets the lesser of its want and the greatest whole level"
unfoldable pub grants_of : List ℕ → ℕ → List ℕ
grants_of wants supply = cond (leb (sum wants) supply) wants (at_level (level_of wants supply) wants)

-- "the greatest whole level at which the four still sum to at most L", of all levels
pub record Greatest (wants : List ℕ) (supply level : ℕ) : Type 0 where
  pub borne : sum (at_level level wants) ≤ supply
  pub above : (other : ℕ) → sum (at_level other wants) ≤ supply → other ≤ level

-- What the client says of four wants, L and the four grants.
pub record Shared (wants : List ℕ) (supply : ℕ) (grants : List ℕ) : Type 0 where
  -- "If the wants sum to at most L each gets its own."
  pub own : sum wants ≤ supply → grants ≡ wants
  -- "Otherwise each gets the lesser of its want and the greatest whole level at which the four still sum to at most L."
  pub levelled : supply < sum wants → (grants ≡ at_level (level_of wants supply) wants) × Greatest wants supply (level_of wants supply)
  -- "the sum is at most L"
  pub total : sum grants ≤ supply
  -- "each bike gets at least the lesser of its want and L / 4 rounded down"
  pub quarter : (bike : ℕ) → bike < 4 → min (get_or wants bike 0) (supply / 4) ≤ get_or grants bike 0

-- "For every four wants and every L": numbers of any size.
pub record SupplyShared : Type 0 where
  pub shared : (a b c d supply : ℕ) → Shared (a ∷ b ∷ c ∷ d ∷ []) supply (grants_of (a ∷ b ∷ c ∷ d ∷ []) supply)
