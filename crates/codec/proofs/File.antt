-- A workout that is written is read again.
use Rattle.std.specs.Prelude.{Ok, Option, Some}
use mathlib.Core.Path.{◌≡◌, refl, sym, ap, ap₂, ◌∙◌}
use mathlib.Core.Bool.{Bool, true, false, ◌&&◌}
use mathlib.Core.List.{List, [], ◌∷◌, ◌++◌, append_assoc, append-nil, flat_map}
use Prim.Native.Nat.{ℕ, zero, suc, ◌+◌, ◌-◌, ◌*◌, ◌≤◌, ◌<◌}
use native.Mathlib.Omega.{arith}
use lib.Dec.{leb, ltb}
use lib.ListN.{length, get_or, take, drop, replicate, length-append, length-take, length-drop, take-append-drop}
use lib.Seq.{take_at, drop_at, drop-drop, drop-append_seam, length-take-le, take_all}
use borrow.Author.Tests.{le-leb, eq-eqb, ltb-true}
use Rattle.common.specs.Lists.{all, padded}
use Rattle.common.proofs.Tests.{and_left, and_right, and_both}
use Rattle.le.specs.Le.{number_of, bytes_of, part}
use Rattle.le.proofs.Laws.{number_bytes, length-bytes}
use Rattle.checksum.specs.V42.{check_of}
use Rattle.checksum.proofs.V42.{check-lt}
use Rattle.refusal.specs.declared.Invalid.TheVariants as invalids
use Rattle.refusal.specs.declared.Refusal.TheVariants as refusals
use Rattle.refusal.specs.Number.{ask}
use Rattle.blocks.specs.Blocks.{blocks_sound}
use Rattle.order.specs.Order.{played_len}
use Rattle.names.specs.declared.Name.{Name}
use Rattle.names.specs.Names.{name_ok}
use Rattle.model.specs.declared.Block.{Block}
use Rattle.model.specs.declared.Step.{Step}
use Rattle.model.specs.declared.Test.{Test}
use Rattle.model.specs.declared.Test.TheVariants as tests
use Rattle.model.specs.declared.Workout.{Workout}
use Rattle.model.specs.Workout.{no_step, no_block, steps_of, blocks_of}
use Rattle.form.specs.Form.{note_ok, note_sized, is_no_step, is_no_block, step_slots, block_slots, form_ok}
use Rattle.form.proofs.Laws.{unused-places}
use Rattle.validation.specs.Sound.{steps_sound, valid_answer, workout_answer}
use Rattle.cursor.specs.Reading.{Read, got, behind, and_then, take_bytes, read_byte, read_many}
use Rattle.cursor.specs.Names.{name_bytes}
use Rattle.steps.specs.Steps.{read_step}
use Rattle.steps.specs.Bytes.{step_bytes}
use Rattle.decode.specs.declared.Head.{Head}
use Rattle.decode.specs.Decode.{test_of, read_counts, name_then, read_head, read_block, workout_of, judged, contents_of, body_of, begins, decoded, decode_of}
use Rattle.decode.proofs.File.{checked}
use Rattle.cursor.proofs.Answers.{ReadAt}
use Rattle.decode.proofs.Body.{all_read}
use Rattle.encode.specs.Encode.{test_kind, block_bytes, head_bytes, body_bytes, file_bytes}
use Rattle.encode.proofs.Sizes.{head-length}
use Rattle.encode.proofs.File.{form-parts, body-length, file-length, file-size, accepted-form}
use Rattle.step_writer.proofs.Laws.{name-size, step-length}
use Rattle.codec.specs.Typed.{NameFits, StepFits, AllFit, WorkoutFits}
use Rattle.codec.specs.RoundTrip.{accepted_as, WrittenIsRead}
use Rattle.codec.proofs.Padded.{fit-take}
use Rattle.codec.proofs.Names.{name-len, name_back}
use Rattle.codec.proofs.Steps.{step_back}
use Rattle.codec.proofs.Many.{Back, many-back}

pub test_back : (t : Test) → test_of (test_kind t) ≡ Some t
unfolding test_of
test_back tests.None = refl
test_back tests.Twenty = refl
test_back tests.Ramp = refl

block_back : (b : Block) (rest : List ℕ) → read_block (block_bytes b ++ rest) ≡ got b 3
unfolding read_block take_bytes and_then
block_back b rest = rw (le-leb 3 (length (block_bytes b ++ rest)) (omega arith))

blocks-back : (bs : List Block) → Back read_block block_bytes bs
blocks-back [] = tt
blocks-back (b ∷ bs) = (block_back b, blocks-back bs)

steps_back : (xs : List Step) → AllFit StepFits xs → all note_ok xs ≡ true → Back read_step step_bytes xs
unfolding all
steps_back [] fits ok = tt
steps_back (x ∷ xs) fits ok = (step_back x fits.0 (and_left (note_ok x) (all note_ok xs) ok), steps_back xs fits.1 (and_right (note_ok x) (all note_ok xs) ok))

abbrev head_of : Workout → Head
head_of w = record { test = w.test; name = w.name; steps = w.step_count; blocks = w.block_count }

-- what stands before the steps
head-back : (w : Workout) (rest : List ℕ) → NameFits w.name → name_ok w.name ≡ true → w.step_count ≤ 12 → w.block_count ≤ 8
    → read_head (test_kind w.test ∷ (name_bytes w.name ++ (w.step_count ∷ w.block_count ∷ rest))) ≡ got (head_of w) (1 + (1 + w.name.len + 2))
unfolding read_head read_counts read_byte and_then
head-back w rest sized ok s b =
    let t = w.test in
    let counts = w.step_count ∷ w.block_count ∷ rest in
    let r = name_bytes w.name ++ counts in
    ap (λ (o : Option Test). behind 1 (name_then o r)) (test_back t)
    ∙ ap (λ (m : Read Name). behind 1 (and_then r m (read_counts t))) (name_back w.name sized ok counts)
    ∙ ap (λ (l : List ℕ). behind 1 (behind (1 + w.name.len) (read_counts t w.name l)))
    (drop_at (name_bytes w.name) counts (1 + w.name.len) (name-size w.name (name-len w.name sized ok) sized))
    ∙ simp (le-leb w.step_count 12 s, le-leb w.block_count 8 b)

-- the places that are not used hold NO_STEP and NO_BLOCK
sized-notes : (xs : List Step) (n : ℕ) → AllFit StepFits xs → all note_sized (drop n xs) ≡ true
unfolding all
sized-notes [] zero fits = refl
sized-notes [] (suc n) fits = refl
sized-notes (x ∷ xs) zero fits = and_both (eq-eqb (length x.note.bytes) 20 fits.0.noted) (sized-notes xs zero fits.1)
sized-notes (x ∷ xs) (suc n) fits = sized-notes xs n fits.1

filled : {A : Type 0} (n size : ℕ) (blank : A) (xs : List A) → length xs ≡ size → n ≤ size → drop n xs ≡ replicate (length (drop n xs)) blank
    → padded size blank (take n xs) ≡ xs
filled n size blank xs long h e =
    ap (λ (k : ℕ). take n xs ++ replicate k blank) left ∙ ap (λ (l : List _). take n xs ++ l) (sym e) ∙ take-append-drop n xs
  where
    left : size - length (take n xs) ≡ length (drop n xs)
    left = omega (arith, length-take n xs, length-drop n xs)

-- what question 5 says of the name and of the places that are not used
record Unused (w : Workout) : Type 0 where
  named : name_ok w.name ≡ true
  steps : all is_no_step (drop w.step_count w.steps) ≡ true
  blocks : all is_no_block (drop w.block_count w.blocks) ≡ true

form-unused : (w : Workout) → form_ok w ≡ true → Unused w
unfolding form_ok step_slots block_slots
form-unused w e =
    let a = leb w.step_count 12 && leb w.block_count 8 in
    let n = name_ok w.name in
    let s = step_slots w.steps w.step_count in
    let b = block_slots w.blocks w.block_count in
    let e₄ = and_left ((a && n) && s) b e in
    record {
      named = and_right a n (and_left (a && n) s e₄);
      steps = and_right (all note_ok (steps_of w)) (all is_no_step (drop w.step_count w.steps)) (and_right (a && n) s e₄);
      blocks = and_right ((a && n) && s) b e;
    }

abbrev with_parts : Workout → List Step → List Block → Workout
with_parts w steps blocks =
    record { name = w.name; steps = steps; step_count = w.step_count; blocks = blocks; block_count = w.block_count; test = w.test }

-- a body's parts, one behind the other
pub body_is : (w : Workout)
    → body_bytes w
    ≡ 86 ∷ 87 ∷ 1 ∷ test_kind w.test ∷ (name_bytes w.name ++ (w.step_count ∷ w.block_count ∷ (flat_map step_bytes (steps_of w) ++ flat_map block_bytes (blocks_of w))))
unfolding body_bytes head_bytes
body_is w =
    ap (λ (l : List ℕ). 86 ∷ 87 ∷ 1 ∷ test_kind w.test ∷ l)
    (append_assoc (name_bytes w.name) (w.step_count ∷ w.block_count ∷ []) (flat_map step_bytes (steps_of w) ++ flat_map block_bytes (blocks_of w)))

module _ (w : Workout) (fits : WorkoutFits w) (ok : form_ok w ≡ true) where
  same-workout : workout_of (head_of w) (steps_of w) (blocks_of w) ≡ w
  same-workout =
      let f = form-parts w ok in
      let u = form-unused w ok in
      ap₂ (with_parts w)
      (filled w.step_count 12 no_step w.steps fits.twelve f.steps
      (unused-places.steps (drop w.step_count w.steps) (sized-notes w.steps w.step_count fits.steps) u.steps))
      (filled w.block_count 8 no_block w.blocks fits.eight f.blocks (unused-places.blocks (drop w.block_count w.blocks) u.blocks))

  after-head : (n : ℕ) → length (head_bytes w) ≡ n → drop n (body_bytes w) ≡ flat_map step_bytes (steps_of w) ++ flat_map block_bytes (blocks_of w)
  unfolding body_bytes
  after-head n e = drop_at (head_bytes w) (flat_map step_bytes (steps_of w) ++ flat_map block_bytes (blocks_of w)) n e

  contents-back : valid_answer w ≡ Ok tt → contents_of (body_bytes w) ≡ Ok w
  contents-back v =
      let f = form-parts w ok in
      let u = form-unused w ok in
      let body = body_bytes w in
      let steps = flat_map step_bytes (steps_of w) in
      let blocks = flat_map block_bytes (blocks_of w) in
      let size = 1 + (1 + w.name.len + 2) in
      let at-steps = 3 + size in
      let at-blocks = at-steps + length steps in
      let at-end = at-blocks + length blocks in
      let head-size : length (head_bytes w) ≡ at-steps = omega (arith, head-length w, name-size w.name f.name fits.named) in
      let step-count : length (steps_of w) ≡ w.step_count = length-take-le w.step_count w.steps (omega (arith, fits.twelve, f.steps)) in
      let block-count : length (blocks_of w) ≡ w.block_count = length-take-le w.block_count w.blocks (omega (arith, fits.eight, f.blocks)) in
      let from-steps : drop at-steps body ≡ steps ++ blocks = after-head at-steps head-size in
      let from-blocks : drop at-blocks body ≡ blocks = sym (drop-drop (length steps) at-steps body) ∙ ap (drop (length steps)) from-steps ∙ drop-append_seam steps blocks in
      let head : ReadAt read_head body 3 (head_of w) at-steps = record { size = size; reads = ap (λ (l : List ℕ). read_head (drop 3 l)) (body_is w) ∙ head-back w (steps ++ blocks) fits.named u.named f.steps f.blocks; after = refl } in
      let some : ReadAt (read_many read_step w.step_count) body at-steps (steps_of w) at-blocks = record {
        size = length steps;
        reads =
            ap₂ (read_many read_step) (sym step-count) from-steps
            ∙ many-back read_step step_bytes (steps_of w) (steps_back (steps_of w) (fit-take StepFits w.step_count w.steps fits.steps) f.notes) blocks;
        after = refl;
      } in
      let last : ReadAt (read_many read_block w.block_count) body at-blocks (blocks_of w) at-end = record {
        size = length blocks;
        reads =
            ap₂ (read_many read_block) (sym block-count) (from-blocks ∙ sym (append-nil blocks))
            ∙ many-back read_block block_bytes (blocks_of w) (blocks-back (blocks_of w)) [];
        after = refl;
      } in
      sym (all_read body (head_of w) at-steps head (steps_of w) at-blocks some (blocks_of w) at-end last (omega (arith, body-length w)))
      ∙ ap (λ (x : Workout). judged x (valid_answer x)) same-workout
      ∙ ap (judged w) v

-- how many bytes some steps take
steps-most : (xs : List Step) → AllFit StepFits xs → all note_ok xs ≡ true
    → (15 * length xs ≤ length (flat_map step_bytes xs)) × (length (flat_map step_bytes xs) ≤ 35 * length xs)
unfolding all flat_map
steps-most [] fits ok = (omega arith, omega arith)
steps-most (x ∷ xs) fits ok =
    let rest = steps-most xs fits.1 (and_right (note_ok x) (all note_ok xs) ok) in
    let short = name-len x.note fits.0.noted (and_left (note_ok x) (all note_ok xs) ok) in
    let size = length-append (step_bytes x) (flat_map step_bytes xs) in
    let one = step-length x in
    let note = name-size x.note short fits.0.noted in
    (omega arith, omega arith)

accepted-steps : (w : Workout) → valid_answer w ≡ Ok tt → 0 < w.step_count
unfolding valid_answer
accepted-steps w = go (ltb 0 w.step_count) refl
  where
    go : (t : Bool) → ltb 0 w.step_count ≡ t
        → ask t (refusals.Invalid invalids.NoSteps)
        (ask (blocks_sound (length (steps_of w)) (blocks_of w)) (refusals.Invalid invalids.Block)
        (ask (steps_sound (steps_of w)) (refusals.Invalid invalids.Step) (ask (leb (played_len w) 96) (refusals.Invalid invalids.TooLong) (Ok tt))))
        ≡ Ok tt
        → 0 < w.step_count
    go true t e = ltb-true 0 w.step_count t
    go false t e = let z : ◌≡◌ {A = ℕ} 0 1 = cc in absurd (omega arith)

module _ (w : Workout) (fits : WorkoutFits w) (accepted : workout_answer w ≡ Ok tt) where
  passes-5 : form_ok w ≡ true
  passes-5 = accepted-form w [] accepted

  passes-6-to-9 : valid_answer w ≡ Ok tt
  unfolding workout_answer
  passes-6-to-9 = ap (λ (t : Bool). ask t refusals.Field (valid_answer w)) (sym passes-5) ∙ accepted

  size-bounds : (26 ≤ length (file_bytes w)) × (length (file_bytes w) ≤ 475)
  size-bounds =
      let f = form-parts w passes-5 in
      let some = accepted-steps w passes-6-to-9 in
      let step-count : length (steps_of w) ≡ w.step_count = length-take-le w.step_count w.steps (omega (arith, fits.twelve, f.steps)) in
      let bytes = steps-most (steps_of w) (fit-take StepFits w.step_count w.steps fits.steps) f.notes in
      let size = file-size w f.name fits.named fits.eight f.blocks in
      (omega (arith, bytes.0, f.steps), omega (arith, bytes.1, f.steps, f.blocks, f.name))

  pub body-of-file : body_of (file_bytes w) ≡ body_bytes w
  unfolding file_bytes
  body-of-file = take_at (body_bytes w) (bytes_of 4 (check_of (body_bytes w))) (length (file_bytes w) - 4) (omega (arith, file-length w))

  magic-again : begins (body_of (file_bytes w)) ≡ true
  magic-again = ap begins (body-of-file ∙ body_is w)

  version-again : get_or (body_of (file_bytes w)) 2 0 ≡ 1
  version-again = ap (λ (l : List ℕ). get_or l 2 0) (body-of-file ∙ body_is w)

  check-again : check_of (body_of (file_bytes w)) ≡ number_of (part (file_bytes w) (length (file_bytes w) - 4) 4)
  unfolding file_bytes
  check-again =
      let c = check_of (body_bytes w) in
      ap check_of body-of-file
      ∙ sym
      (ap (λ (l : List ℕ). number_of (take 4 l)) (drop_at (body_bytes w) (bytes_of 4 c) (length (file_bytes w) - 4) (omega (arith, file-length w)))
      ∙ ap number_of (take_all 4 (bytes_of 4 c) (omega (arith, length-bytes 4 c)))
      ∙ number_bytes 4 c (check-lt (body_bytes w)))

  file-back : decode_of (file_bytes w) ≡ accepted_as w
  unfolding decode_of
  file-back =
      ap decoded
      (sym (checked (file_bytes w) (omega (arith, size-bounds.0)) size-bounds.1 magic-again version-again check-again)
      ∙ ap contents_of body-of-file
      ∙ contents-back w fits passes-5 passes-6-to-9)

pub written-is-read : WrittenIsRead
written-is-read =
    record {
      same = file-back;
      shortest = λ w fits accepted. (size-bounds w fits accepted).0;
      longest = λ w fits accepted. (size-bounds w fits accepted).1;
    }
