-- A file that is written has filler values of 0, so that an accepted file is written as it stood only where its own are 0.
use Rattle.std.specs.Prelude.{Ok}
use mathlib.Core.Path.{◌≡◌, refl, sym, ap, ◌∙◌}
use mathlib.Core.Bool.{true}
use mathlib.Core.List.{List, [], ◌∷◌, ◌++◌, append_assoc, flat_map}
use Prim.Native.Nat.{ℕ, suc}
use native.Mathlib.Omega.{arith}
use lib.ListN.{length, get_or, drop}
use lib.Seq.{drop_at, length-take-le}
use Rattle.common.specs.Lists.{all}
use Rattle.common.proofs.Tests.{and_left, and_right, and_both}
use Rattle.common.proofs.Lists.{all_append}
use Rattle.le.specs.Le.{number_of, bytes_of}
use Rattle.names.specs.Names.{is_zero}
use Rattle.model.specs.declared.Intensity.{Intensity}
use Rattle.model.specs.declared.Length.{Length}
use Rattle.model.specs.declared.Target.{Target}
use Rattle.model.specs.declared.Target.TheVariants as targets
use Rattle.model.specs.declared.Step.{Step}
use Rattle.model.specs.declared.Workout.{Workout}
use Rattle.model.specs.Workout.{steps_of, blocks_of}
use Rattle.form.specs.Form.{note_ok}
use Rattle.validation.specs.Sound.{workout_answer}
use Rattle.cursor.specs.Names.{name_bytes}
use Rattle.steps.specs.Bytes.{fixed_bytes, step_bytes}
use Rattle.encode.specs.Encode.{test_kind, block_bytes, file_bytes}
use Rattle.encode.proofs.File.{form-parts, accepted-form}
use Rattle.step_writer.proofs.Laws.{name-size, step-length}
use Rattle.codec.specs.Typed.{StepFits, AllFit, WorkoutFits}
use Rattle.codec.specs.Fillers.{step_fillers, step_size, steps_fillers, fillers}
use Rattle.codec.proofs.Padded.{fit-take}
use Rattle.codec.proofs.Names.{name-len}
use Rattle.codec.proofs.File.{body_is, body-of-file}
use Rattle.codec.specs.RoundTrip.{ReadIsWritten}
use Rattle.codec.proofs.ReadFile.{fillers-at, read_fits, read-accepted, read_again}

target-zero : (i : Intensity) (l : Length) (t : Target) (rest : List ℕ) → all is_zero (step_fillers (fixed_bytes i l t ++ rest)) ≡ true
unfolding step_fillers fixed_bytes bytes_of number_of all
target-zero i l targets.Free rest = refl
target-zero i l (targets.Ftp low high) rest = refl
target-zero i l (targets.Watts low high) rest = refl
target-zero i l (targets.HeartZone zone) rest = refl
target-zero i l (targets.Lthr low high) rest = refl
target-zero i l (targets.Cadence low high) rest = refl
target-zero i l (targets.Ramp start step every) rest = refl
target-zero i l (targets.FtpRamp start step every) rest = refl

module _ (s : Step) (rest : List ℕ) where
  step-zero : all is_zero (step_fillers (step_bytes s ++ rest)) ≡ true
  unfolding step_bytes
  step-zero =
      ap (λ (l : List ℕ). all is_zero (step_fillers l)) (append_assoc (fixed_bytes s.intensity s.length s.target) (name_bytes s.note) rest)
      ∙ target-zero s.intensity s.length s.target (name_bytes s.note ++ rest)

  note-length : get_or (step_bytes s ++ rest) 14 0 ≡ s.note.len
  unfolding step_bytes fixed_bytes bytes_of name_bytes
  note-length = refl

steps-zero : (xs : List Step) → AllFit StepFits xs → all note_ok xs ≡ true → (rest : List ℕ) → all is_zero (steps_fillers (length xs) (flat_map step_bytes xs ++ rest)) ≡ true
unfolding all steps_fillers flat_map
steps-zero [] fits ok rest = refl
steps-zero (x ∷ xs) fits ok rest =
    let more = flat_map step_bytes xs ++ rest in
    let l = step_bytes x ++ more in
    let n = length xs in
    let short = name-len x.note fits.0.noted (and_left (note_ok x) (all note_ok xs) ok) in
    let size : length (step_bytes x) ≡ step_size l = omega (arith, step-length x, name-size x.note short fits.0.noted, note-length x more) in
    ap (λ (m : List ℕ). all is_zero (steps_fillers (suc n) m)) (append_assoc (step_bytes x) (flat_map step_bytes xs) rest)
    ∙ all_append is_zero (step_fillers l) (steps_fillers n (drop (step_size l) l))
    ∙ and_both (step-zero x more)
    (ap (λ (m : List ℕ). all is_zero (steps_fillers n m)) (drop_at (step_bytes x) more (step_size l) size)
    ∙ steps-zero xs fits.1 (and_right (note_ok x) (all note_ok xs) ok) rest)

pub written-fillers : (w : Workout) → WorkoutFits w → workout_answer w ≡ Ok tt → all is_zero (fillers (file_bytes w)) ≡ true
unfolding fillers
written-fillers w fits accepted =
    let f = form-parts w (accepted-form w [] accepted) in
    let count : length (steps_of w) ≡ w.step_count = length-take-le w.step_count w.steps (omega (arith, fits.twelve, f.steps)) in
    let tail = flat_map step_bytes (steps_of w) ++ flat_map block_bytes (blocks_of w) in
    ap (all is_zero)
    (fillers-at (test_kind w.test) w.step_count w.block_count w.name tail f.name fits.named _
    (ap (drop 3) (body-of-file w fits accepted ∙ body_is w)))
    ∙ ap (λ (n : ℕ). all is_zero (steps_fillers n tail)) (sym count)
    ∙ steps-zero (steps_of w) (fit-take StepFits w.step_count w.steps fits.steps) f.notes (flat_map block_bytes (blocks_of w))

pub read-is-written : ReadIsWritten
read-is-written =
    record {
      sound = read-accepted;
      fits = read_fits;
      same = read_again;
      only = λ s bytes w e same. ap (λ (l : List ℕ). all is_zero (fillers l)) (sym same) ∙ written-fillers w (read_fits s bytes w e) (read-accepted s bytes w e);
    }
