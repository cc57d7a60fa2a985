-- Document 01, 'Workout file': a step. "intensity 0 to 4 (`Warmup`, `Work`, `Recovery`, `Cooldown`, `Test`); length kind (0 `Time`,
-- 1 `Distance`, 2 `Open`) and 4-byte value; target kind and three 2-byte values; a zero byte; its note, a name."
use Rattle.std.specs.Prelude.{cond, List, [], ◌∷◌, ℕ, ltb, eqb, get_or, drop, Option, None, Some, Result}
use Rattle.le.specs.Le.{number_of, part}
use Rattle.names.specs.declared.Name.{Name}
use Rattle.model.specs.declared.Intensity.{Intensity}
use Rattle.model.specs.declared.Intensity.TheVariants as intensities
use Rattle.model.specs.declared.Length.{Length}
use Rattle.model.specs.declared.Length.TheVariants as lengths
use Rattle.model.specs.declared.Target.{Target}
use Rattle.model.specs.declared.Target.TheVariants as targets
use Rattle.model.specs.declared.Step.{Step}
use Rattle.refusal.specs.declared.Refusal.{Refusal}
use Rattle.refusal.specs.declared.Refusal.TheVariants as refusals
use Rattle.cursor.specs.declared.Cursor.{Cursor}
use Rattle.cursor.specs.Reading.{Read, got, refused, read_by, behind, enough, and_then}
use Rattle.cursor.specs.Names.{read_name}

-- Each kind stands at its number in a table; a kind past the table is not allowed.

abbrev pub intensity_kinds : List (Option Intensity)
intensity_kinds =
    Some intensities.Warmup ∷ Some intensities.Work ∷ Some intensities.Recovery
    ∷ Some intensities.Cooldown ∷ Some intensities.Test ∷ []

unfoldable pub intensity_of : ℕ → Option Intensity
intensity_of kind = get_or intensity_kinds kind None

-- "`Time` fits 16 bits; an `Open` value is 0"
abbrev pub length_kinds : ℕ → List (Option Length)
length_kinds value =
    cond (ltb value 65536) (Some (lengths.Time value)) None
    ∷ Some (lengths.Distance value)
    ∷ cond (eqb value 0) (Some lengths.Open) None ∷ []

unfoldable pub length_of : ℕ → ℕ → Option Length
length_of kind value = get_or (length_kinds value) kind None

-- "values of kinds 1, 3, 4, 5 and the first two of 7 that are used fit a byte"
abbrev pub small_of : ℕ → ℕ → Option (ℕ × ℕ)
small_of a b = cond (ltb a 256) (cond (ltb b 256) (Some (a, b)) None) None

abbrev pub by_small : (ℕ → ℕ → Option Target) → Option (ℕ × ℕ) → Option Target
by_small made (Some (a, b)) = made a b
by_small made None = None

-- "the third is 0 except in 6 and 7"
abbrev pub plain_of : ℕ → Target → Option Target
plain_of c t = cond (eqb c 0) (Some t) None

-- "Target kinds: 0 `Free`, 1 `Ftp`, 2 `Watts`, 3 `HeartZone`, 4 `Lthr`, 5 `Cadence`, 6 `Ramp`, 7 `FtpRamp`." "Filler values are the
-- first two of `Free` and the second of `HeartZone`: read past".
abbrev pub target_kinds : ℕ → ℕ → ℕ → List (Option Target)
target_kinds a b c =
    plain_of c targets.Free
    ∷ by_small (λ x y. plain_of c (targets.Ftp x y)) (small_of a b)
    ∷ plain_of c (targets.Watts a b)
    ∷ by_small (λ x y. plain_of c (targets.HeartZone x)) (small_of a 0)
    ∷ by_small (λ x y. plain_of c (targets.Lthr x y)) (small_of a b)
    ∷ by_small (λ x y. plain_of c (targets.Cadence x y)) (small_of a b)
    ∷ Some (targets.Ramp a b c)
    ∷ by_small (λ x y. Some (targets.FtpRamp x y c)) (small_of a b) ∷ []

unfoldable pub target_of : ℕ → ℕ → ℕ → ℕ → Option Target
target_of kind a b c = get_or (target_kinds a b c) kind None

-- A step's bytes before its note, judged from left to right.
abbrev pub zero_then : Intensity → Length → ℕ → Option Target → Option (Intensity × Length × Target)
zero_then i l zero-byte (Some t) = cond (eqb zero-byte 0) (Some (i, l, t)) None
zero_then i l zero-byte None = None

abbrev pub target_then : Intensity → Option Target → ℕ → Option Length → Option (Intensity × Length × Target)
target_then i t zero-byte (Some l) = zero_then i l zero-byte t
target_then i t zero-byte None = None

abbrev pub length_then : Option Length → Option Target → ℕ → Option Intensity → Option (Intensity × Length × Target)
length_then l t zero-byte (Some i) = target_then i t zero-byte l
length_then l t zero-byte None = None

unfoldable pub fixed_of : List ℕ → Option (Intensity × Length × Target)
fixed_of l =
    length_then (length_of (get_or l 1 0) (number_of (part l 2 4)))
    (target_of (get_or l 6 0) (number_of (part l 7 2)) (number_of (part l 9 2)) (number_of (part l 11 2)))
    (get_or l 13 0)
    (intensity_of (get_or l 0 0))

abbrev pub step_of : Intensity → Length → Target → Name → Step
step_of i l t note = record { intensity = i; length = l; target = t; note = note }

abbrev pub note_then : Option (Intensity × Length × Target) → List ℕ → Read Step
note_then (Some (i, l, t)) rest = and_then rest (read_name rest) (λ note _. got (step_of i l t note) 0)
note_then None rest = refused refusals.Field

-- "(a step's 15 bytes up to its note's length are one, a block's three too), bytes enough? 1; value allowed? 5"
unfoldable pub read_step : List ℕ → Read Step
read_step l = enough 15 l (behind 14 (note_then (fixed_of l) (drop 14 l)))

-- The call's answer at a place of a slice.
unfoldable pub step_at : List ℕ → ℕ → Result (Step × Cursor) Refusal
step_at s at = read_by at (read_step (drop at s))
