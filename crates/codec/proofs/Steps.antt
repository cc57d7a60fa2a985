-- A step that is written is read again.
use Rattle.std.specs.Prelude.{Option, Some}
use mathlib.Core.Path.{◌≡◌, refl, ap, ap₂, ◌∙◌}
use mathlib.Core.Bool.{Bool, true, cond}
use mathlib.Core.List.{List, ◌++◌, append_assoc}
use Prim.Native.Nat.{ℕ, ◌+◌, ◌≤◌, ◌<◌, ◌^◌}
use native.Mathlib.Omega.{arith}
use lib.ListN.{length, drop, length-append}
use borrow.Author.Tests.{lt-ltb, le-leb}
use Rattle.le.specs.Le.{bytes_of}
use Rattle.le.proofs.Laws.{number_bytes}
use Rattle.refusal.specs.declared.Refusal.TheVariants as refusals
use Rattle.names.specs.declared.Name.{Name}
use Rattle.names.specs.Names.{name_ok}
use Rattle.model.specs.declared.Intensity.{Intensity}
use Rattle.model.specs.declared.Intensity.TheVariants as intensities
use Rattle.model.specs.declared.Length.{Length}
use Rattle.model.specs.declared.Length.TheVariants as lengths
use Rattle.model.specs.declared.Target.{Target}
use Rattle.model.specs.declared.Target.TheVariants as targets
use Rattle.model.specs.declared.Step.{Step}
use Rattle.cursor.specs.Reading.{Read, got, refused, behind, and_then}
use Rattle.cursor.specs.Names.{name_bytes}
use Rattle.steps.specs.Steps.{intensity_of, length_of, target_of, fixed_of, step_of, note_then, read_step}
use Rattle.steps.specs.Bytes.{intensity_kind, length_kind, length_value, target_kind, first_value, second_value, third_value, fixed_bytes, step_bytes}
use Rattle.step_writer.proofs.Laws.{name-size}
use Rattle.codec.specs.Typed.{LengthFits, TargetFits, StepFits}
use Rattle.codec.proofs.Names.{name-len, name_back}

intensity-back : (i : Intensity) → intensity_of (intensity_kind i) ≡ Some i
unfolding intensity_of
intensity-back intensities.Warmup = refl
intensity-back intensities.Work = refl
intensity-back intensities.Recovery = refl
intensity-back intensities.Cooldown = refl
intensity-back intensities.Test = refl

length_back : (l : Length) → LengthFits l → length_of (length_kind l) (length_value l) ≡ Some l
unfolding length_of
length_back (lengths.Time secs) h = rw (lt-ltb secs 65536 h)
length_back (lengths.Distance metres) h = refl
length_back lengths.Open h = refl

length-fits : (l : Length) → LengthFits l → length_value l < 256 ^ 4
length-fits (lengths.Time secs) h = omega arith
length-fits (lengths.Distance metres) h = omega arith
length-fits lengths.Open h = omega arith

-- the values of a target each fit two bytes
pub record ValuesFit (t : Target) : Type 0 where
  pub first : first_value t < 256 ^ 2
  pub second : second_value t < 256 ^ 2
  pub third : third_value t < 256 ^ 2

values-fit : (t : Target) → TargetFits t → ValuesFit t
values-fit targets.Free h = record { first = omega arith; second = omega arith; third = omega arith }
values-fit (targets.Ftp low high) h = record { first = omega arith; second = omega arith; third = omega arith }
values-fit (targets.Watts low high) h = record { first = omega arith; second = omega arith; third = omega arith }
values-fit (targets.HeartZone zone) h = record { first = omega arith; second = omega arith; third = omega arith }
values-fit (targets.Lthr low high) h = record { first = omega arith; second = omega arith; third = omega arith }
values-fit (targets.Cadence low high) h = record { first = omega arith; second = omega arith; third = omega arith }
values-fit (targets.Ramp start step every) h = record { first = omega arith; second = omega arith; third = omega arith }
values-fit (targets.FtpRamp start step every) h = record { first = omega arith; second = omega arith; third = omega arith }

target-back : (t : Target) → TargetFits t → target_of (target_kind t) (first_value t) (second_value t) (third_value t) ≡ Some t
unfolding target_of
target-back targets.Free h = refl
target-back (targets.Ftp low high) h = rw (lt-ltb low 256 h.0, lt-ltb high 256 h.1)
target-back (targets.Watts low high) h = refl
target-back (targets.HeartZone zone) h = rw (lt-ltb zone 256 h)
target-back (targets.Lthr low high) h = rw (lt-ltb low 256 h.0, lt-ltb high 256 h.1)
target-back (targets.Cadence low high) h = rw (lt-ltb low 256 h.0, lt-ltb high 256 h.1)
target-back (targets.Ramp start step every) h = refl
target-back (targets.FtpRamp start step every) h = rw (lt-ltb start 256 h.0, lt-ltb step 256 h.1)

fixed_back : (i : Intensity) (l : Length) (t : Target) (rest : List ℕ) → LengthFits l → TargetFits t → fixed_of (fixed_bytes i l t ++ rest) ≡ Some (i, l, t)
unfolding fixed_of fixed_bytes bytes_of
fixed_back i l t rest hl ht =
    let v = values-fit t ht in
    simp (
      number_bytes 4 (length_value l) (length-fits l hl),
      number_bytes 2 (first_value t) v.first,
      number_bytes 2 (second_value t) v.second,
      number_bytes 2 (third_value t) v.third,
      intensity-back i,
      length_back l hl,
      target-back t ht,
    )

-- what stands behind a step's fixed bytes
fixed-past : (i : Intensity) (l : Length) (t : Target) (rest : List ℕ) → drop 14 (fixed_bytes i l t ++ rest) ≡ rest
unfolding fixed_bytes bytes_of
fixed-past i l t rest = refl

fixed-long : (i : Intensity) (l : Length) (t : Target) → length (fixed_bytes i l t) ≡ 14
unfolding fixed_bytes bytes_of
fixed-long i l t = refl

module _ (s : Step) (fits : StepFits s) (ok : name_ok s.note ≡ true) where
  pub step_back : (rest : List ℕ) → read_step (step_bytes s ++ rest) ≡ got s (length (step_bytes s))
  unfolding read_step step_bytes and_then
  step_back rest =
      let i = s.intensity in
      let l = s.length in
      let t = s.target in
      let f = fixed_bytes i l t in
      let n = name_bytes s.note in
      let note-length = name-size s.note (name-len s.note fits.noted ok) fits.noted in
      let long : 15 ≤ length (f ++ (n ++ rest)) = omega (arith, length-append f (n ++ rest), length-append n rest, fixed-long i l t, note-length) in
      let size : 14 + (1 + s.note.len + 0) ≡ length (f ++ n) = omega (arith, length-append f n, fixed-long i l t, note-length) in
      ap read_step (append_assoc f n rest)
      ∙ ap (λ (b : Bool). cond b (behind 14 (note_then (fixed_of (f ++ (n ++ rest))) (drop 14 (f ++ (n ++ rest))))) (refused refusals.Length))
      (le-leb 15 (length (f ++ (n ++ rest))) long)
      ∙ ap₂ (λ (x : Option (Intensity × Length × Target)) (y : List ℕ). behind 14 (note_then x y)) (fixed_back i l t (n ++ rest) fits.lasts fits.aims) (fixed-past i l t (n ++ rest))
      ∙ ap (λ (m : Read Name). behind 14 (and_then (n ++ rest) m (λ note _. got (step_of i l t note) 0))) (name_back s.note fits.noted ok rest)
      ∙ ap (got s) size
