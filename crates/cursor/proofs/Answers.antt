-- What an answer says of the reading that it stands for: one law over the value and its reader.
use Rattle.std.specs.Prelude.{Err, Ok}
use mathlib.Core.Path.{◌≡◌, refl, sym, ap, ◌∙◌}
use mathlib.Core.List.{List}
use Prim.Native.Nat.{ℕ, ◌+◌}
use native.Mathlib.Omega.{arith}
use lib.ListN.{drop}
use Rattle.refusal.specs.declared.Refusal.{Refusal}
use Rattle.cursor.specs.declared.Cursor.{Cursor}
use Rattle.cursor.specs.Reading.{Read, got, refused, read_by}

-- the value read at a place, and the place after it
pub record ReadAt {A : Type 0} (reader : List ℕ → Read A) (s : List ℕ) (at : ℕ) (x : A) (next : ℕ) : Type 0 where
  pub size : ℕ
  pub reads : reader (drop at s) ≡ got x size
  pub after : next ≡ at + size

module _ {A : Type 0} (reader : List ℕ → Read A) (s : List ℕ) (at : ℕ) where
  pub given : (x : A) (c : Cursor) → read_by at (reader (drop at s)) ≡ Ok (x, c) → ReadAt reader s at x c.at
  given x c = go (reader (drop at s)) refl
    where
      go : (m : Read A) → reader (drop at s) ≡ m → read_by at m ≡ Ok (x, c) → ReadAt reader s at x c.at
      go (got y n) p q =
          let pair : (x, c) ≡ (y, record { at = at + n }) = cc in
          record { size = n; reads = p ∙ ap (λ (t : A × Cursor). got t.0 n) (sym pair); after = ap (λ (t : A × Cursor). t.1.at) pair }
      go (refused w) p q = let z : ◌≡◌ {A = ℕ} 0 1 = cc in absurd (omega arith)

  pub refusal : (w : Refusal) → read_by at (reader (drop at s)) ≡ Err w → reader (drop at s) ≡ refused w
  refusal w = go (reader (drop at s)) refl
    where
      go : (m : Read A) → reader (drop at s) ≡ m → read_by at m ≡ Err w → reader (drop at s) ≡ refused w
      go (got y n) p q = let z : ◌≡◌ {A = ℕ} 0 1 = cc in absurd (omega arith)
      go (refused v) p q = let same : v ≡ w = cc in p ∙ ap (λ (y : Refusal). refused y) same
