-- How reading a step at a place of a slice goes on from what the cursor handed out.
use Rattle.std.specs.Prelude.{Err, None, Ok, Option, Result, Some}
use mathlib.Core.Path.{◌≡◌, sym, ap, ap₂, ◌∙◌}
use mathlib.Core.List.{List}
use Prim.Native.Nat.{ℕ, ◌+◌}
use native.Mathlib.Nat.{add-zero}
use native.Mathlib.Omega.{arith}
use lib.ListN.{get_or, drop}
use lib.Seq.{get_or-drop, drop-drop}
use Rattle.le.specs.Le.{number_of, part}
use Rattle.refusal.specs.declared.Refusal.{Refusal}
use Rattle.refusal.specs.declared.Refusal.TheVariants as refusals
use Rattle.names.specs.declared.Name.{Name}
use Rattle.model.specs.declared.Intensity.{Intensity}
use Rattle.model.specs.declared.Length.{Length}
use Rattle.model.specs.declared.Target.{Target}
use Rattle.model.specs.declared.Step.{Step}
use Rattle.cursor.specs.Reading.{Read, got, refused, read_by, behind, and_then}
use Rattle.cursor.specs.Names.{read_name, taken_at, name_at}
use Rattle.cursor.specs.declared.Cursor.{Cursor}
use Rattle.cursor.proofs.Laws.{TakenAt, taken-short, enough-here, enough-end}
use Rattle.cursor.proofs.Answers.{given, refusal}
use Rattle.steps.specs.Steps.{intensity_of, length_of, target_of, length_then, fixed_of, step_of, note_then, read_step, step_at}

-- the bytes before a note, by their places in the slice
abbrev pub fixed_at : List ℕ → ℕ → Option (Intensity × Length × Target)
fixed_at s at =
    length_then (length_of (get_or s (at + 1) 0) (number_of (part s (at + 2) 4)))
    (target_of (get_or s (at + 6) 0) (number_of (part s (at + 7) 2)) (number_of (part s (at + 9) 2)) (number_of (part s (at + 11) 2)))
    (get_or s (at + 13) 0)
    (intensity_of (get_or s at 0))

pub fixed-place : (s : List ℕ) (at : ℕ) → fixed_of (drop at s) ≡ fixed_at s at
unfolding fixed_of
fixed-place s at = simp (get_or-drop, drop-drop, add-zero)

abbrev pub read_as : Step → ℕ → Result (Step × Cursor) Refusal
read_as step at = Ok (step, record { at = at })

module _ (s : List ℕ) (at : ℕ) where
  pub step_end : taken_at s at 15 ≡ None → Err refusals.Length ≡ step_at s at
  unfolding step_at read_step
  step_end e = ap (read_by at) (sym (enough-end 15 (drop at s) (behind 14 (note_then (fixed_of (drop at s)) (drop 14 (drop at s)))) (taken-short s at 15 e)))

  module _ (from : ℕ) (c : Cursor) (there : TakenAt s at 15 from c) where
    goes_on : (f : Option (Intensity × Length × Target)) → fixed_of (drop from s) ≡ f → read_by at (behind 14 (note_then f (drop (from + 14) s))) ≡ step_at s at
    unfolding step_at read_step
    goes_on f e =
        ap (read_by at)
        (sym (enough-here 15 (drop at s) (behind 14 (note_then (fixed_of (drop at s)) (drop 14 (drop at s)))) there.within
        ∙ ap₂ (λ (g : Option (Intensity × Length × Target)) (l : List ℕ). behind 14 (note_then g l)) (ap (λ (k : ℕ). fixed_of (drop k s)) (sym there.place) ∙ e)
        (drop-drop 14 at s ∙ ap (λ (k : ℕ). drop (k + 14) s) (sym there.place))))

    pub step-bad : fixed_of (drop from s) ≡ None → Err refusals.Field ≡ step_at s at
    step-bad e = goes_on None e

    module _ (i : Intensity) (l : Length) (t : Target) (e : fixed_of (drop from s) ≡ Some (i, l, t)) where
      -- the step with its note, as the note was read
      noted : (m : Read Name) → read_name (drop (from + 14) s) ≡ m
          → read_by at (behind 14 (and_then (drop (from + 14) s) m (λ note _. got (step_of i l t note) 0))) ≡ step_at s at
      noted m f =
          ap (λ (n : Read Name). read_by at (behind 14 (and_then (drop (from + 14) s) n (λ note _. got (step_of i l t note) 0)))) (sym f)
          ∙ goes_on (Some (i, l, t)) e

      pub step-refused : (r : Refusal) → name_at s (from + 14) ≡ Err r → Err r ≡ step_at s at
      unfolding and_then name_at
      step-refused r f = noted (refused r) (refusal read_name s (from + 14) r f)

      pub step-read : (note : Name) (past : Cursor) → name_at s (from + 14) ≡ Ok (note, past)
          → read_as (step_of i l t note) past.at ≡ step_at s at
      unfolding and_then name_at
      step-read note past f =
          let g = given read_name s (from + 14) note past f in
          let place : past.at ≡ at + (14 + (g.size + 0)) = omega (arith, g.after, there.place) in
          ap (read_as (step_of i l t note)) place ∙ noted (got note g.size) g.reads
