-- What a file that is accepted says of its workout: its body's bytes are the workout's where the filler values are 0.
use Rattle.std.specs.Prelude.{None, Option, Some}
use mathlib.Core.Path.{◌≡◌, refl, sym, ap, ap₂, ◌∙◌, subst}
use mathlib.Core.Bool.{true, ◌&&◌}
use mathlib.Core.List.{List, [], ◌∷◌, ◌++◌, append-nil, flat_map}
use Prim.Native.Nat.{ℕ, zero, suc, ◌+◌, ◌≤◌}
use native.Mathlib.Omega.{arith}
use lib.Dec.{leb}
use lib.ListN.{length, take, drop, take-append-drop}
use lib.Seq.{drop-drop, length-take-le}
use borrow.Author.Tests.{leb-true, le-leb}
use Rattle.common.specs.Lists.{all, padded}
use Rattle.common.proofs.Tests.{and_left, and_right, and_both}
use Rattle.common.proofs.Lists.{all_append}
use Rattle.le.specs.Le.{Bytes}
use Rattle.le.proofs.Laws.{bytes_drop}
use Rattle.names.specs.declared.Name.{Name}
use Rattle.names.specs.Names.{is_zero, name_ok}
use Rattle.model.specs.declared.Test.{Test}
use Rattle.model.specs.declared.Test.TheVariants as tests
use Rattle.model.specs.declared.Step.{Step}
use Rattle.model.specs.declared.Block.{Block}
use Rattle.model.specs.declared.Workout.{Workout}
use Rattle.model.specs.Workout.{no_step, no_block}
use Rattle.form.specs.Form.{note_ok, is_no_step, is_no_block, step_slots, block_slots, form_ok}
use Rattle.form.proofs.Laws.{unused-places}
use Rattle.cursor.specs.Reading.{got, take_bytes, read_byte, read_many}
use Rattle.cursor.specs.Names.{name_bytes, read_name}
use Rattle.steps.specs.Steps.{read_step}
use Rattle.steps.specs.Bytes.{step_bytes}
use Rattle.decode.specs.declared.Head.{Head}
use Rattle.decode.specs.Decode.{test_of, judge_counts, read_block_count, read_counts, name_then, read_head, block_of, read_block, workout_of, ended, read_body}
use Rattle.encode.specs.Encode.{test_kind, block_bytes, body_bytes}
use Rattle.codec.specs.Typed.{NameFits, StepFits, AllFit, WorkoutFits}
use Rattle.codec.specs.Fillers.{step_fillers, step_size, steps_fillers}
use Rattle.codec.proofs.Parts.{then-got, allow-got, take-got, byte-got}
use Rattle.codec.proofs.Padded.{padded-length, padded-used, padded-unused, padded-fits}
use Rattle.codec.proofs.ReadNames.{name-was}
use Rattle.codec.proofs.ReadSteps.{step-was}
use Rattle.codec.proofs.ReadMany.{many-each, many-again}
use Rattle.codec.proofs.File.{body_is}

-- a block's three bytes
three : (l : List ℕ) → length l ≡ 3 → block_bytes (block_of l) ≡ l
three [] h = absurd (omega arith)
three (a ∷ []) h = absurd (omega arith)
three (a ∷ b ∷ []) h = absurd (omega arith)
three (a ∷ b ∷ c ∷ []) h = refl
three (a ∷ b ∷ c ∷ d ∷ l) h = absurd (omega arith)

block-was : (l : List ℕ) (b : Block) (k : ℕ) → read_block l ≡ got b k → block_bytes b ++ drop k l ≡ l
unfolding read_block
block-was l b k e =
    let f = then-got l (take_bytes 3 l) (λ bytes _. got (block_of bytes) 0) b k e in
    let t = take-got 3 l f.value f.size f.first in
    let second = f.second in
    let made : block_of f.value ≡ b = cc in
    let none : 0 ≡ f.more = cc in
    let size : k ≡ 3 = omega (arith, f.sum, t.1.1) in
    ap₂ (λ (x : Block) (j : ℕ). block_bytes x ++ drop j l) (sym made ∙ ap block_of t.1.0) size
    ∙ ap (λ (x : List ℕ). x ++ drop 3 l) (three (take 3 l) (length-take-le 3 l t.0))
    ∙ take-append-drop 3 l

test-was : (kind : ℕ) (t : Test) → test_of kind ≡ Some t → test_kind t ≡ kind
unfolding test_of
test-was zero t e = let s : tests.None ≡ t = cc in sym (ap test_kind s)
test-was (suc zero) t e = let s : tests.Twenty ≡ t = cc in sym (ap test_kind s)
test-was (suc (suc zero)) t e = let s : tests.Ramp ≡ t = cc in sym (ap test_kind s)
test-was (suc (suc (suc k))) t e = let z : ◌≡◌ {A = ℕ} 0 1 = cc in absurd (omega arith)

-- what reading the head says of it and of the bytes it was read from
pub record HeadWas (l : List ℕ) (h : Head) (k : ℕ) : Type 0 where
  pub same : test_kind h.test ∷ (name_bytes h.name ++ (h.steps ∷ h.blocks ∷ drop k l)) ≡ l
  pub short : h.name.len ≤ 20
  pub fits : NameFits h.name
  pub ok : name_ok h.name ≡ true
  pub steps : h.steps ≤ 12
  pub blocks : h.blocks ≤ 8

-- the two counts
record CountsWas (t : Test) (name : Name) (l : List ℕ) (h : Head) (k : ℕ) : Type 0 where
  test : h.test ≡ t
  named : h.name ≡ name
  same : h.steps ∷ h.blocks ∷ drop k l ≡ l
  steps : h.steps ≤ 12
  blocks : h.blocks ≤ 8

counts-was : (t : Test) (name : Name) (l : List ℕ) (h : Head) (k : ℕ) → read_counts t name l ≡ got h k → CountsWas t name l h k
unfolding read_counts
counts-was t name l h k e =
    let first = then-got l (read_byte l) (read_block_count t name) h k e in
    let x = first.value in
    let p = byte-got l x first.size first.first in
    let r = drop first.size l in
    let second = then-got r (read_byte r) (judge_counts t name x) h first.more first.second in
    let y = second.value in
    let q = byte-got r y second.size second.first in
    let judge = allow-got (leb x 12 && leb y 8) _ h second.more second.second in
    let made = judge.1 in
    let same_test : h.test ≡ t = cc in
    let same_name : h.name ≡ name = cc in
    let same-steps : h.steps ≡ x = cc in
    let same_blocks : h.blocks ≡ y = cc in
    let none : 0 ≡ second.more = cc in
    let size : k ≡ 2 = omega (arith, first.sum, second.sum, p.0, q.0) in
    let rest : r ≡ drop 1 l = ap (λ (j : ℕ). drop j l) p.0 in
    record {
      test = same_test;
      named = same_name;
      same =
          ap₂ (λ (a b : ℕ). a ∷ b ∷ drop k l) same-steps same_blocks
          ∙ ap (λ (j : ℕ). x ∷ y ∷ drop j l) size
          ∙ ap (λ (m : List ℕ). x ∷ y ∷ m) (sym (drop-drop 1 1 l) ∙ ap (drop 1) (sym rest))
          ∙ ap (λ (m : List ℕ). x ∷ m) (sym q.1 ∙ rest)
          ∙ sym p.1;
      steps = omega (arith, same-steps, leb-true x 12 (and_left (leb x 12) (leb y 8) judge.0));
      blocks = omega (arith, same_blocks, leb-true y 8 (and_right (leb x 12) (leb y 8) judge.0));
    }

head-was : (l : List ℕ) (h : Head) (k : ℕ) → read_head l ≡ got h k → HeadWas l h k
unfolding read_head
head-was l h k e =
    let first = then-got l (read_byte l) (λ kind rest. name_then (test_of kind) rest) h k e in
    let p = byte-got l first.value first.size first.first in
    go (test_of first.value) refl (drop first.size l) (ap (λ (j : ℕ). drop j l) p.0) first.more first.second (omega (arith, first.sum, p.0))
    p.1
  where
    go : {kind : ℕ} (t : Option Test) → test_of kind ≡ t → (r : List ℕ) → r ≡ drop 1 l → (j : ℕ) → name_then t r ≡ got h j → k ≡ 1 + j → l ≡ kind ∷ drop 1 l
        → HeadWas l h k
    go {kind} (Some t) x r from j e sum first =
        let second = then-got r (read_name r) (read_counts t) h j e in
        let name = second.value in
        let n = name-was r name second.size second.first in
        let c = counts-was t name (drop second.size r) h second.more second.second in
        let behind : drop k l ≡ drop second.more (drop second.size r) =
        ap (λ (m : ℕ). drop m l) (sum ∙ ap (λ (m : ℕ). 1 + m) second.sum)
        ∙ sym (drop-drop (second.size + second.more) 1 l)
        ∙ ap (drop (second.size + second.more)) (sym from)
        ∙ sym (drop-drop second.more second.size r) in
        record {
          same =
              ap₂ (λ (y : Test) (m : List ℕ). test_kind y ∷ (name_bytes h.name ++ (h.steps ∷ h.blocks ∷ m))) c.test behind
              ∙ ap₂ (λ (y : Name) (m : List ℕ). test_kind t ∷ (name_bytes y ++ m)) c.named c.same
              ∙ ap₂ (λ (y : ℕ) (m : List ℕ). y ∷ m) (test-was kind t x) (n.same ∙ from)
              ∙ sym first;
          short = subst (λ (y : Name). y.len ≤ 20) (sym c.named) n.short;
          fits = subst NameFits (sym c.named) n.fits;
          ok = ap name_ok c.named ∙ n.ok;
          steps = c.steps;
          blocks = c.blocks;
        }
    go None x r from j e sum first = let z : ◌≡◌ {A = ℕ} 0 1 = cc in absurd (omega arith)

-- what holds of a step that was read
abbrev StepOk : Step → Type 0
StepOk s = StepFits s × (name_ok s.note ≡ true)

step_ok_lem : (l : List ℕ) (s : Step) (k : ℕ) → Bytes l → read_step l ≡ got s k → StepOk s
step_ok_lem l s k b e = let w = step-was l s k b e in (w.fits, w.ok)

-- n steps' filler values are 0
abbrev pub Zero : ℕ → List ℕ → Type 0
Zero n l = all is_zero (steps_fillers n l) ≡ true

step-again : (n : ℕ) (l : List ℕ) (s : Step) (k : ℕ) → Bytes l → read_step l ≡ got s k → Zero (suc n) l → (step_bytes s ++ drop k l ≡ l) × Zero n (drop k l)
unfolding steps_fillers
step-again n l s k b e z =
    let w = step-was l s k b e in
    let more = steps_fillers n (drop (step_size l) l) in
    let both = sym (all_append is_zero (step_fillers l) more) ∙ z in (
      w.same (and_left (all is_zero (step_fillers l)) (all is_zero more) both),
      ap (λ (j : ℕ). all is_zero (steps_fillers n (drop j l))) w.size ∙ and_right (all is_zero (step_fillers l)) (all is_zero more) both,
    )

-- a body that is read: its parts, and nothing behind them
pub record BodyWas (l : List ℕ) (w : Workout) : Type 0 where
  pub head : Head
  pub size : ℕ
  pub steps : List Step
  pub steps-size : ℕ
  pub blocks : List Block
  pub blocks-size : ℕ
  pub head_read : read_head l ≡ got head size
  pub steps-read : read_many read_step head.steps (drop size l) ≡ got steps steps-size
  pub blocks-read : read_many read_block head.blocks (drop steps-size (drop size l)) ≡ got blocks blocks-size
  pub end : drop blocks-size (drop steps-size (drop size l)) ≡ []
  pub made : workout_of head steps blocks ≡ w

ended-was : (l : List ℕ) (x w : Workout) (k : ℕ) → ended l x ≡ got w k → (l ≡ []) × (x ≡ w)
ended-was [] x w k e = (refl, cc)
ended-was (b ∷ l) x w k e = let z : ◌≡◌ {A = ℕ} 0 1 = cc in absurd (omega arith)

pub body-was : (l : List ℕ) (w : Workout) (k : ℕ) → read_body l ≡ got w k → BodyWas l w
unfolding read_body
body-was l w k e =
    let head = then-got l (read_head l) _ w k e in
    let r = drop head.size l in
    let h = head.value in
    let steps = then-got r (read_many read_step h.steps r) _ w head.more head.second in
    let r₂ = drop steps.size r in
    let blocks = then-got r₂ (read_many read_block h.blocks r₂) _ w steps.more steps.second in
    let end = ended-was (drop blocks.size r₂) (workout_of h steps.value blocks.value) w blocks.more blocks.second in
    record {
      head = h;
      size = head.size;
      steps = steps.value;
      steps-size = steps.size;
      blocks = blocks.value;
      blocks-size = blocks.size;
      head_read = head.first;
      steps-read = steps.first;
      blocks-read = blocks.first;
      end = end.0;
      made = end.1;
    }

-- each note of some steps passes
notes-ok : (xs : List Step) → AllFit StepOk xs → all note_ok xs ≡ true
unfolding all
notes-ok [] h = refl
notes-ok (x ∷ xs) h = and_both h.0.1 (notes-ok xs h.1)

steps-fit : (xs : List Step) → AllFit StepOk xs → AllFit StepFits xs
steps-fit [] h = tt
steps-fit (x ∷ xs) h = (h.0.0, steps-fit xs h.1)

-- the workout that was read
module _ (l : List ℕ) (bytes : Bytes l) (w : Workout) (b : BodyWas l w) where
  pub head-part : HeadWas l b.head b.size
  head-part = head-was l b.head b.size b.head_read

  steps-part : (length b.steps ≡ b.head.steps) × AllFit StepOk b.steps
  steps-part =
      many-each read_step StepOk step_ok_lem b.head.steps (drop b.size l) b.steps b.steps-size (bytes_drop b.size l bytes) b.steps-read

  blocks-part : (length b.blocks ≡ b.head.blocks) × AllFit (λ _. Unit) b.blocks
  blocks-part =
      many-each read_block (λ _. Unit) (λ m x k c e. tt) b.head.blocks (drop b.steps-size (drop b.size l)) b.blocks b.blocks-size
      (bytes_drop b.steps-size (drop b.size l) (bytes_drop b.size l bytes)) b.blocks-read

  used-steps : take b.head.steps (padded 12 no_step b.steps) ≡ b.steps
  used-steps = padded-used 12 no_step b.steps b.head.steps steps-part.0

  used-blocks : take b.head.blocks (padded 8 no_block b.blocks) ≡ b.blocks
  used-blocks = padded-used 8 no_block b.blocks b.head.blocks blocks-part.0

  pub body-fits : WorkoutFits w
  body-fits =
      subst WorkoutFits b.made
      (record {
        named = head-part.fits;
        steps = padded-fits 12 no_step b.steps StepFits (record { lasts = tt; aims = tt; noted = refl }) (steps-fit b.steps steps-part.1);
        twelve = padded-length 12 no_step b.steps (omega (arith, steps-part.0, head-part.steps));
        eight = padded-length 8 no_block b.blocks (omega (arith, blocks-part.0, head-part.blocks));
      })

  pub body-form : form_ok w ≡ true
  unfolding form_ok step_slots block_slots
  body-form =
      ap form_ok (sym b.made)
      ∙ and_both
      (and_both (and_both (and_both (le-leb b.head.steps 12 head-part.steps) (le-leb b.head.blocks 8 head-part.blocks)) head-part.ok)
      (and_both (ap (all note_ok) used-steps ∙ notes-ok b.steps steps-part.1)
      (padded-unused 12 no_step b.steps is_no_step unused-places.no_step_lem b.head.steps steps-part.0)))
      (padded-unused 8 no_block b.blocks is_no_block unused-places.no_block_lem b.head.blocks blocks-part.0)

  pub body-again : Zero b.head.steps (drop b.size l) → body_bytes w ≡ 86 ∷ 87 ∷ 1 ∷ l
  body-again z =
      let steps-again = many-again read_step step_bytes Zero step-again b.head.steps (drop b.size l) b.steps b.steps-size (bytes_drop b.size l bytes) b.steps-read z in
      let blocks-again = many-again read_block block_bytes (λ _ _. Unit) (λ n m x k c e u. (block-was m x k e, tt)) b.head.blocks (drop b.steps-size (drop b.size l)) b.blocks b.blocks-size
      (bytes_drop b.steps-size (drop b.size l) (bytes_drop b.size l bytes)) b.blocks-read tt in
      let tail : flat_map step_bytes b.steps ++ flat_map block_bytes b.blocks ≡ drop b.size l =
      ap (λ (m : List ℕ). flat_map step_bytes b.steps ++ m) (sym (append-nil (flat_map block_bytes b.blocks)) ∙ ap (λ (m : List ℕ). flat_map block_bytes b.blocks ++ m) (sym b.end) ∙ blocks-again)
      ∙ steps-again in
      ap body_bytes (sym b.made)
      ∙ body_is (workout_of b.head b.steps b.blocks)
      ∙ ap₂ (λ (x : List Step) (y : List Block). 86 ∷ 87 ∷ 1 ∷ test_kind b.head.test ∷ (name_bytes b.head.name ++ (b.head.steps ∷ b.head.blocks ∷ (flat_map step_bytes x ++ flat_map block_bytes y)))) used-steps used-blocks
      ∙ ap (λ (m : List ℕ). 86 ∷ 87 ∷ 1 ∷ test_kind b.head.test ∷ (name_bytes b.head.name ++ (b.head.steps ∷ b.head.blocks ∷ m))) tail
      ∙ ap (λ (m : List ℕ). 86 ∷ 87 ∷ 1 ∷ m) head-part.same
