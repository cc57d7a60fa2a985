-- The parts of a file and their lengths, and what the writer's answers say.
use Rattle.std.specs.Prelude.{Err, Ok, Result, ⊤}
use mathlib.Core.Path.{◌≡◌, refl, sym, ap, ◌∙◌}
use mathlib.Core.Bool.{Bool, true, false, cond, ◌&&◌}
use mathlib.Core.List.{List, [], ◌∷◌, ◌++◌, append_assoc, flat_map}
use Prim.Native.Nat.{ℕ, ◌+◌, ◌*◌, ◌≤◌, ◌<◌}
use native.Mathlib.Omega.{arith}
use lib.Dec.{leb}
use lib.ListN.{length, take, drop, length-append, length-take}
use borrow.Author.Tests.{leb-true, le-leb, lt-leb}
use Rattle.common.specs.Lists.{all}
use Rattle.common.proofs.Tests.{and_left, and_right}
use Rattle.le.specs.Le.{bytes_of, written}
use Rattle.le.proofs.Laws.{length-bytes, more, take-written}
use Rattle.checksum.specs.V42.{check_of}
use Rattle.refusal.specs.declared.Refusal.{Refusal}
use Rattle.refusal.specs.declared.Refusal.TheVariants as refusals
use Rattle.names.specs.Names.{name_ok}
use Rattle.model.specs.declared.Block.{Block}
use Rattle.model.specs.declared.Workout.{Workout}
use Rattle.model.specs.Workout.{steps_of, blocks_of}
use Rattle.form.specs.Form.{note_ok, is_no_step, step_slots, block_slots, form_ok}
use Rattle.refusal.specs.Number.{ask, answer_number}
use Rattle.validation.specs.Sound.{valid_answer, workout_answer}
use Rattle.steps.specs.Bytes.{step_bytes}
use Rattle.step_writer.proofs.Laws.{name-size}
use Rattle.encode.specs.Encode.{block_bytes, head_bytes, body_bytes, file_bytes, encoded_number, then_ask, writer_answer, encoded_by, encoded_of, output_by, output_of}
use Rattle.encode.proofs.Sizes.{name-fits, head-length}

-- what question 5 says of a workout that passes it
pub record Form (w : Workout) : Type 0 where
  pub steps : w.step_count ≤ 12
  pub blocks : w.block_count ≤ 8
  pub name : w.name.len ≤ 20
  pub notes : all note_ok (steps_of w) ≡ true

pub form-parts : (w : Workout) → form_ok w ≡ true → Form w
unfolding form_ok step_slots
form-parts w e =
    let a = leb w.step_count 12 in
    let b = leb w.block_count 8 in
    let n = name_ok w.name in
    let s = step_slots w.steps w.step_count in
    let e₄ = and_left (((a && b) && n) && s) (block_slots w.blocks w.block_count) e in
    let e₃ = and_left ((a && b) && n) s e₄ in
    let e₂ = and_left (a && b) n e₃ in
    record {
      steps = leb-true w.step_count 12 (and_left a b e₂);
      blocks = leb-true w.block_count 8 (and_right a b e₂);
      name = name-fits w.name (and_right (a && b) n e₃);
      notes = and_left (all note_ok (steps_of w)) (all is_no_step (drop w.step_count w.steps)) (and_right ((a && b) && n) s e₄);
    }

blocks-length : (bs : List Block) → length (flat_map block_bytes bs) ≡ 3 * length bs
unfolding flat_map
blocks-length [] = refl
blocks-length (b ∷ bs) = omega (arith, blocks-length bs)

module _ (w : Workout) where
  pub body-length : length (body_bytes w) ≡ length (head_bytes w) + length (flat_map step_bytes (steps_of w)) + length (flat_map block_bytes (blocks_of w))
  unfolding body_bytes
  body-length =
      omega (
        arith,
        length-append (head_bytes w) (flat_map step_bytes (steps_of w) ++ flat_map block_bytes (blocks_of w)),
        length-append (flat_map step_bytes (steps_of w)) (flat_map block_bytes (blocks_of w)),
      )

  pub file-length : length (file_bytes w) ≡ length (body_bytes w) + 4
  unfolding file_bytes
  file-length = length-append (body_bytes w) (bytes_of 4 (check_of (body_bytes w))) ∙ ap (λ (n : ℕ). length (body_bytes w) + n) (length-bytes 4 (check_of (body_bytes w)))

  pub file-size : w.name.len ≤ 20 → length w.name.bytes ≡ 20 → length w.blocks ≡ 8 → w.block_count ≤ 8
      → length (file_bytes w) ≡ 11 + w.name.len + length (flat_map step_bytes (steps_of w)) + 3 * w.block_count
  file-size n l b c =
      omega (
        arith,
        file-length,
        body-length,
        head-length w,
        name-size w.name n l,
        blocks-length (blocks_of w),
        length-take w.block_count w.blocks,
      )

-- the parts of the body, one written behind the other
pub body-written : (w : Workout) (d : List ℕ) {d₁ d₂ d₃ : List ℕ} (i j : ℕ) → i ≡ length (head_bytes w) → j ≡ i + length (flat_map step_bytes (steps_of w))
    → d₁ ≡ written d 0 (head_bytes w) → d₂ ≡ written d₁ i (flat_map step_bytes (steps_of w)) → d₃ ≡ written d₂ j (flat_map block_bytes (blocks_of w))
    → d₃ ≡ written d 0 (body_bytes w)
unfolding body_bytes
body-written w d i j ei ej e₁ e₂ e₃ =
    let head = head_bytes w in
    let steps = flat_map step_bytes (steps_of w) in
    let blocks = flat_map block_bytes (blocks_of w) in
    let at-steps : i ≡ 0 + length head = omega arith in
    let at-blocks : j ≡ 0 + length (head ++ steps) = omega (arith, length-append head steps) in
    more d 0 (omega arith) (head ++ steps) blocks j at-blocks (more d 0 (omega arith) head steps i at-steps e₁ e₂) e₃
    ∙ ap (written d 0) (append_assoc head steps blocks)

-- what the check word is taken of
pub body-taken : (w : Workout) (d : List ℕ) {d₃ : List ℕ} (k : ℕ) → k ≡ length (body_bytes w) → d₃ ≡ written d 0 (body_bytes w) → take k d₃ ≡ body_bytes w
body-taken w d k e f = ap (take k) f ∙ take-written d 0 (body_bytes w) k (omega arith) (omega arith)

-- the check word behind the body
pub file-written : (w : Workout) (d : List ℕ) {d₃ d₄ : List ℕ} (k c : ℕ) → k ≡ length (body_bytes w) → d₃ ≡ written d 0 (body_bytes w)
    → c ≡ check_of (body_bytes w) → d₄ ≡ written d₃ k (bytes_of 4 c) → d₄ ≡ written d 0 (file_bytes w)
unfolding file_bytes
file-written w d k c e f g h =
    let behind : k ≡ 0 + length (body_bytes w) = omega arith in
    more d 0 (omega arith) (body_bytes w) (bytes_of 4 c) k behind f h ∙ ap (λ (x : ℕ). written d 0 (body_bytes w ++ bytes_of 4 x)) g

-- the writer's answers
module _ (w : Workout) (out : List ℕ) where
  -- the writer's number is that of its questions
  by_number : (a : Result ⊤ Refusal) (size : ℕ) → encoded_number (encoded_by a size (length out)) ≡ answer_number (then_ask a (ask (leb size (length out)) refusals.Output (Ok tt)))
  by_number (Err r) size = refl
  by_number (Ok tt) size = at (leb size (length out))
    where
      at : (b : Bool) → encoded_number (cond b (Ok size) (Err refusals.Output)) ≡ answer_number (ask b refusals.Output (Ok tt))
      at true = refl
      at false = refl

  -- What `encode` gives.
  abbrev Gives : Result ℕ Refusal → List ℕ → Type 0
  Gives r next = (r ≡ encoded_of w (length out)) × ((next ≡ output_of w out) × (encoded_number r ≡ answer_number (writer_answer w (length out))))

  gives : (r : Result ℕ Refusal) (next : List ℕ) → r ≡ encoded_of w (length out) → next ≡ output_of w out → Gives r next
  unfolding encoded_of writer_answer
  gives r next e f = (e, (f, ap encoded_number e ∙ by_number (workout_answer w) (length (file_bytes w))))

  pub refused-form : (r : Refusal) → workout_answer w ≡ Err r → Gives (Err r) out
  unfolding encoded_of output_of
  refused-form r e =
      gives (Err r) out (sym (ap (λ (a : Result ⊤ Refusal). encoded_by a (length (file_bytes w)) (length out)) e))
      (sym (ap (λ (a : Result ⊤ Refusal). output_by (encoded_by a (length (file_bytes w)) (length out)) w out) e))

  by-room : (t : Bool) → workout_answer w ≡ Ok tt → leb (length (file_bytes w)) (length out) ≡ t
      → encoded_of w (length out) ≡ cond t (Ok (length (file_bytes w))) (Err refusals.Output)
  unfolding encoded_of
  by-room t e f =
      ap (λ (a : Result ⊤ Refusal). encoded_by a (length (file_bytes w)) (length out)) e
      ∙ ap (λ (x : Bool). cond x (Ok (length (file_bytes w))) (Err refusals.Output)) f

  pub no_room : workout_answer w ≡ Ok tt → length out < length (file_bytes w) → Gives (Err refusals.Output) out
  unfolding output_of
  no_room e h =
      let f = by-room false e (lt-leb (length (file_bytes w)) (length out) h) in
      gives (Err refusals.Output) out (sym f) (sym (ap (λ (x : Result ℕ Refusal). output_by x w out) f))

  pub room-enough : (n : ℕ) (next : List ℕ) → workout_answer w ≡ Ok tt → n ≡ length (file_bytes w) → n ≤ length out → next ≡ written out 0 (file_bytes w)
      → Gives (Ok n) next
  unfolding output_of
  room-enough n next e size h g =
      let f = by-room true e (le-leb (length (file_bytes w)) (length out) (omega arith)) in
      gives (Ok n) next (ap (λ (k : ℕ). Ok k) size ∙ sym f) (g ∙ sym (ap (λ (x : Result ℕ Refusal). output_by x w out) f))

  -- what passes 5 to 9 passes 5
  pub accepted-form : workout_answer w ≡ Ok tt → form_ok w ≡ true
  unfolding workout_answer
  accepted-form = go (form_ok w)
    where
      go : (t : Bool) → ask t refusals.Field (valid_answer w) ≡ Ok tt → t ≡ true
      go true e = refl
      go false e = let z : ◌≡◌ {A = ℕ} 0 1 = cc in absurd (omega arith)
