-- Which of the questions 1 to 4 decides.
use Rattle.std.specs.Prelude.{Err}
use mathlib.Core.Path.{◌≡◌, sym}
use mathlib.Core.Bool.{true, false}
use mathlib.Core.List.{List}
use Prim.Native.Nat.{ℕ, ◌-◌, ◌≤◌, ◌<◌}
use lib.ListN.{length, get_or}
use borrow.Author.Tests.{le-leb, lt-leb, eq-eqb, ne_eqb}
use Rattle.le.specs.Le.{number_of, part}
use Rattle.checksum.specs.V42.{check_of}
use Rattle.refusal.specs.declared.Refusal.TheVariants as refusals
use Rattle.decode.specs.Decode.{contents_of, body_of, begins, file_of}

module _ (s : List ℕ) where
  pub too_short : length s < 4 → Err refusals.Length ≡ file_of s
  unfolding file_of
  too_short h = sym (simp (lt-leb 4 (length s) h))

  module _ (low : 4 ≤ length s) where
    pub too_long : 475 < length s → Err refusals.Length ≡ file_of s
    unfolding file_of
    too_long h = sym (simp (le-leb 4 (length s) low, lt-leb (length s) 475 h))

    module _ (high : length s ≤ 475) where
      pub no-magic : begins (body_of s) ≡ false → Err refusals.Magic ≡ file_of s
      unfolding file_of
      no-magic e = sym (simp (le-leb 4 (length s) low, le-leb (length s) 475 high, e))

      module _ (magic : begins (body_of s) ≡ true) where
        pub no-version : (get_or (body_of s) 2 0 ≡ 1 → ⊥) → Err refusals.Version ≡ file_of s
        unfolding file_of
        no-version e = sym (simp (le-leb 4 (length s) low, le-leb (length s) 475 high, magic, ne_eqb (get_or (body_of s) 2 0) 1 e))

        module _ (version : get_or (body_of s) 2 0 ≡ 1) where
          pub no-check : (check_of (body_of s) ≡ number_of (part s (length s - 4) 4) → ⊥) → Err refusals.Checksum ≡ file_of s
          unfolding file_of
          no-check e =
              sym
              (simp (
                le-leb 4 (length s) low,
                le-leb (length s) 475 high,
                magic,
                eq-eqb (get_or (body_of s) 2 0) 1 version,
                ne_eqb (check_of (body_of s)) (number_of (part s (length s - 4) 4)) e,
              ))

          pub checked : check_of (body_of s) ≡ number_of (part s (length s - 4) 4) → contents_of (body_of s) ≡ file_of s
          unfolding file_of
          checked e =
              sym
              (simp (
                le-leb 4 (length s) low,
                le-leb (length s) 475 high,
                magic,
                eq-eqb (get_or (body_of s) 2 0) 1 version,
                eq-eqb (check_of (body_of s)) (number_of (part s (length s - 4) 4)) e,
              ))
