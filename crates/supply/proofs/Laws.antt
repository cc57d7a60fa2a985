-- Laws of sharing a supply, over any number of wants.
use mathlib.Core.Path.{◌≡◌, refl, sym, ap, ap₂, ◌∙◌, subst}
use mathlib.Core.Bool.{Bool, true, false, cond}
use mathlib.Core.List.{List, [], ◌∷◌}
use Prim.Native.Nat.{ℕ, zero, suc, ◌+◌, ◌*◌, ◌/◌, ◌≤◌, ◌<◌, min}
use native.Mathlib.Omega.{arith}
use native.Mathlib.Nat.{suc-mul, mul-zero}
use lib.Dec.{leb}
use lib.ListN.{length, get_or}
use borrow.Author.Tests.{leb-true, leb-false, le-leb, lt-leb}
use Rattle.common.specs.Lists.{sum}
use Rattle.supply.specs.Supply.{at_level, level_up_to, level_of, grants_of, Greatest, Shared}

-- a higher level gives no less
rising : (l m : ℕ) (wants : List ℕ) → l ≤ m → sum (at_level l wants) ≤ sum (at_level m wants)
unfolding sum
rising l m [] h = omega arith
rising l m (w ∷ wants) h = let rest = rising l m wants h in omega arith

-- at a level the wants come to the level, or to all that they come to, at least
reaches : (l : ℕ) (wants : List ℕ) → min (sum wants) l ≤ sum (at_level l wants)
unfolding sum
reaches l [] = omega arith
reaches l (w ∷ wants) = step w (sum wants) l (sum (at_level l wants)) (reaches l wants)
  where
    step : (w s l x : ℕ) → min s l ≤ x → min (w + s) l ≤ min w l + x
    step w s l x h = omega arith

-- and to the level for each at most
at_most : (l : ℕ) (wants : List ℕ) → sum (at_level l wants) ≤ length wants * l
unfolding sum
at_most l [] = omega arith
at_most l (w ∷ wants) =
    let rest = at_most l wants in
    let more : suc (length wants) * l ≡ length wants * l + l = suc-mul (length wants) l in
    omega arith

pub nothing-at-0 : (wants : List ℕ) (supply : ℕ) → sum (at_level 0 wants) ≤ supply
nothing-at-0 wants supply = let z : length wants * 0 ≡ 0 = mul-zero (length wants) in omega (arith, at_most 0 wants, z)

pub above-0 : (wants : List ℕ) (supply : ℕ) → supply < sum (at_level supply wants) → 0 < supply
above-0 wants zero h = absurd (let none = nothing-at-0 wants 0 in omega arith)
above-0 wants (suc n) h = omega arith

-- at a level that no want is above nothing is cut
uncut : (l : ℕ) (wants : List ℕ) → sum wants ≤ l → at_level l wants ≡ wants
unfolding sum
uncut l [] h = refl
uncut l (w ∷ wants) h =
    let whole : min w l ≡ w = omega arith in
    ap₂ (λ (x : ℕ) (xs : List ℕ). x ∷ xs) whole (uncut l wants (omega arith))

-- a place at a level
pub place_at : (l : ℕ) (wants : List ℕ) (i : ℕ) → get_or (at_level l wants) i 0 ≡ min (get_or wants i 0) l
place_at l [] i = omega arith
place_at l (w ∷ wants) zero = refl
place_at l (w ∷ wants) (suc i) = place_at l wants i

module _ (wants : List ℕ) (supply : ℕ) where
  -- The level up to n: it is borne, it is at most n, and no level up to n that is borne is above it.
  borne-by : (t : Bool) (n m : ℕ) → leb (sum (at_level n wants)) supply ≡ t → sum (at_level m wants) ≤ supply → sum (at_level (cond t n m) wants) ≤ supply
  borne-by true n m e h = leb-true _ _ e
  borne-by false n m e h = h

  up-to-borne : (n : ℕ) → sum (at_level (level_up_to n wants supply) wants) ≤ supply
  unfolding level_up_to
  up-to-borne zero = nothing-at-0 wants supply
  up-to-borne (suc n) = borne-by (leb (sum (at_level (suc n) wants)) supply) (suc n) (level_up_to n wants supply) refl (up-to-borne n)

  within_by : (t : Bool) (n m : ℕ) → m ≤ n → cond t (suc n) m ≤ suc n
  within_by true n m h = omega arith
  within_by false n m h = omega arith

  up-to-within : (n : ℕ) → level_up_to n wants supply ≤ n
  unfolding level_up_to
  up-to-within zero = omega arith
  up-to-within (suc n) = within_by (leb (sum (at_level (suc n) wants)) supply) n (level_up_to n wants supply) (up-to-within n)

  above-by : (t : Bool) (l n m : ℕ) → leb (sum (at_level (suc n) wants)) supply ≡ t → l ≤ suc n → sum (at_level l wants) ≤ supply → (l ≤ n → l ≤ m) → l ≤ cond t (suc n) m
  above-by true l n m e h borne r = h
  above-by false l n m e h borne r =
      let z : supply < sum (at_level (suc n) wants) = leb-false _ _ e in
      r (less (λ (k : l ≡ suc n). let q : sum (at_level l wants) ≡ sum (at_level (suc n) wants) = ap (λ (v : ℕ). sum (at_level v wants)) k in omega arith))
    where
      less : (l ≡ suc n → ⊥) → l ≤ n
      less f = omega arith

  up-to-above : (n l : ℕ) → l ≤ n → sum (at_level l wants) ≤ supply → l ≤ level_up_to n wants supply
  unfolding level_up_to
  up-to-above zero l h borne = h
  up-to-above (suc n) l h borne = above-by (leb (sum (at_level (suc n) wants)) supply) l n (level_up_to n wants supply) refl h borne (λ k. up-to-above n l k borne)

  -- a level that is borne where the next one isn't, or that is the supply, is the one
  pub next-over : (l : ℕ) → l < supply → sum (at_level l wants) ≤ supply → supply < sum (at_level (l + 1) wants) → l ≡ level_of wants supply
  unfolding level_of
  next-over l h borne over =
      let low : l ≤ level_up_to supply wants supply = up-to-above supply l (omega arith) borne in
      let high : level_up_to supply wants supply ≤ l =
      not-above (λ (k : l + 1 ≤ level_up_to supply wants supply). omega (arith, rising (l + 1) (level_up_to supply wants supply) wants k, up-to-borne supply, over)) in
      omega arith
    where
      not-above : (l + 1 ≤ level_up_to supply wants supply → ⊥) → level_up_to supply wants supply ≤ l
      not-above f = omega arith

  pub all-borne : sum (at_level supply wants) ≤ supply → supply ≡ level_of wants supply
  unfolding level_of
  all-borne borne = omega (arith, up-to-above supply supply (omega arith) borne, up-to-within supply)

  -- of wants that the supply doesn't meet no level above the supply is borne
  pub greatest-is : supply < sum wants → Greatest wants supply (level_of wants supply)
  unfolding level_of
  greatest-is h =
      record {
        borne = up-to-borne supply;
        above = λ other borne. up-to-above supply other (let least-of = reaches other wants in omega arith) borne;
      }

  own_is : sum wants ≤ supply → grants_of wants supply ≡ wants
  unfolding grants_of
  own_is h = ap (λ (t : Bool). cond t wants (at_level (level_of wants supply) wants)) (le-leb (sum wants) supply h)

  levelled-is : supply < sum wants → grants_of wants supply ≡ at_level (level_of wants supply) wants
  unfolding grants_of
  levelled-is h = ap (λ (t : Bool). cond t wants (at_level (level_of wants supply) wants)) (lt-leb (sum wants) supply h)

  -- wants that the supply meets aren't cut at its level: one rule for both
  own-levelled : sum wants ≤ supply → grants_of wants supply ≡ at_level (level_of wants supply) wants
  own-levelled h =
      let fits : sum (at_level supply wants) ≤ supply = subst (λ (xs : List ℕ). sum xs ≤ supply) (sym (uncut supply wants h)) h in
      own_is h ∙ sym (uncut supply wants h) ∙ ap (λ (l : ℕ). at_level l wants) (all-borne fits)

  grants-by : (t : Bool) → leb (sum wants) supply ≡ t → grants_of wants supply ≡ at_level (level_of wants supply) wants
  grants-by true e = own-levelled (leb-true _ _ e)
  grants-by false e = levelled-is (leb-false _ _ e)

  pub grants-are : grants_of wants supply ≡ at_level (level_of wants supply) wants
  grants-are = grants-by (leb (sum wants) supply) refl

  level-borne : sum (at_level (level_of wants supply) wants) ≤ supply
  unfolding level_of
  level-borne = up-to-borne supply

  -- a quarter of the supply is borne by four
  quarter-in : length wants ≡ 4 → supply / 4 ≤ level_of wants supply
  unfolding level_of
  quarter-in four =
      let is : length wants * (supply / 4) ≡ 4 * (supply / 4) = ap (λ (n : ℕ). n * (supply / 4)) four in
      up-to-above supply (supply / 4) (omega arith) (let most = at_most (supply / 4) wants in omega arith)

  pub shared-is : length wants ≡ 4 → Shared wants supply (grants_of wants supply)
  shared-is four =
      record {
        own = own_is;
        levelled = λ h. (levelled-is h, greatest-is h);
        total = subst (λ (xs : List ℕ). sum xs ≤ supply) (sym grants-are) level-borne;
        quarter = λ bike b.
            let at : get_or (grants_of wants supply) bike 0 ≡ min (get_or wants bike 0) (level_of wants supply) =
            ap (λ (xs : List ℕ). get_or xs bike 0) grants-are ∙ place_at (level_of wants supply) wants bike in
            let q = quarter-in four in
            omega (arith, at, q);
      }
