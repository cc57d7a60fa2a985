-- `validate`: each return is the first of the questions 6 to 9 that fails, or none.
use mathlib.Core.Path.{◌≡◌, ◌∙◌, sym, ap}
use Prim.Native.Nat.{ℕ}
use native.Mathlib.Omega.{arith}
use lib.ListN.{length, length-take}
use Rattle.blocks.specs.Blocks.{blocks_sound}
use Rattle.model.specs.Workout.{steps_of, blocks_of}
use Rattle.validation.proofs.Laws.{no_steps, block-fault, step-fault, too_long, accepted}
use borrow.Author.Rules.{rules}
use Rattle.validation.proofs.validate.Goals as goal

pub returns-then-count-eq0 : goal.returns-then-count-eq0
returns-then-count-eq0 c = c.invalid.ensures ∙ no_steps c.args.workout c.if-count-eq0.true

pub returns-then-not-blocks_sound : goal.returns-then-not-blocks_sound
returns-then-not-blocks_sound c = let w = c.args.workout in
    let long : length w.steps ≡ 12 = search rules in
    let used : c.min.result ≡ length (steps_of w) = omega (arith, length-take w.step_count w.steps) in
    let blocks : c.blocks_sound.result ≡ blocks_sound (length (steps_of w)) (blocks_of w) = c.blocks_sound.ensures ∙ ap (λ (n : ℕ). blocks_sound n (blocks_of w)) used in
    c.invalid-then-not-blocks_sound.ensures ∙ block-fault w (omega arith) (sym blocks ∙ c.if-not-blocks_sound.true)

pub returns-then-not-steps_sound : goal.returns-then-not-steps_sound
returns-then-not-steps_sound c = let w = c.args.workout in
    let long : length w.steps ≡ 12 = search rules in
    let used : c.min.result ≡ length (steps_of w) = omega (arith, length-take w.step_count w.steps) in
    let blocks : c.blocks_sound.result ≡ blocks_sound (length (steps_of w)) (blocks_of w) = c.blocks_sound.ensures ∙ ap (λ (n : ℕ). blocks_sound n (blocks_of w)) used in
    c.invalid-then-not-steps_sound.ensures ∙ step-fault w (omega arith) (sym blocks ∙ c.if-not-blocks_sound.false) (sym c.steps_sound.ensures ∙ c.if-not-steps_sound.true)

pub returns-then-played_len-gt-MAX_PLAYED : goal.returns-then-played_len-gt-MAX_PLAYED
returns-then-played_len-gt-MAX_PLAYED c = let w = c.args.workout in
    let long : length w.steps ≡ 12 = search rules in
    let used : c.min.result ≡ length (steps_of w) = omega (arith, length-take w.step_count w.steps) in
    let blocks : c.blocks_sound.result ≡ blocks_sound (length (steps_of w)) (blocks_of w) = c.blocks_sound.ensures ∙ ap (λ (n : ℕ). blocks_sound n (blocks_of w)) used in
    c.invalid-then-played_len-gt-MAX_PLAYED.ensures ∙ too_long w (omega arith) (sym blocks ∙ c.if-not-blocks_sound.false) (sym c.steps_sound.ensures ∙ c.if-not-steps_sound.false) (omega (arith, c.played_len.ensures))

pub returns : goal.returns
returns c = let w = c.args.workout in
    let long : length w.steps ≡ 12 = search rules in
    let used : c.min.result ≡ length (steps_of w) = omega (arith, length-take w.step_count w.steps) in
    let blocks : c.blocks_sound.result ≡ blocks_sound (length (steps_of w)) (blocks_of w) = c.blocks_sound.ensures ∙ ap (λ (n : ℕ). blocks_sound n (blocks_of w)) used in
    accepted w (omega arith) (sym blocks ∙ c.if-not-blocks_sound.false) (sym c.steps_sound.ensures ∙ c.if-not-steps_sound.false) (omega (arith, c.played_len.ensures))
