-- The tests of unused places pass `NO_STEP` and `NO_BLOCK` alone.
use mathlib.Core.Path.{◌≡◌, refl, ap, ap₂, ◌∙◌}
use mathlib.Core.Bool.{Bool, true, false, cond, ◌&&◌}
use Prim.Native.Nat.{ℕ}
use lib.Dec.{eqb}
use lib.ListN.{length}
use borrow.Author.Tests.{eqb-true}
use Rattle.std.specs.Cmp.{both_ways}
use Rattle.common.specs.Lists.{all}
use Rattle.common.proofs.Tests.{and_left, and_right}
use Rattle.names.specs.declared.Name.{Name}
use Rattle.names.specs.Names.{is_blank}
use Rattle.names.proofs.Laws.{blank-empty}
use Rattle.common.proofs.Lists.{all_one}
use Rattle.model.specs.declared.Step.{Step}
use Rattle.model.specs.declared.Block.{Block}
use Rattle.model.specs.declared.Intensity.{Intensity}
use Rattle.model.specs.declared.Intensity.TheVariants.{Warmup, Work, Recovery, Cooldown, Test}
use Rattle.model.specs.declared.Length.{Length}
use Rattle.model.specs.declared.Length.TheVariants.{Time, Distance, Open}
use Rattle.model.specs.declared.Target.{Target}
use Rattle.model.specs.declared.Target.TheVariants.{Free, Ftp, Watts, HeartZone, Lthr, Cadence, Ramp, FtpRamp}
use Rattle.model.specs.Workout.{no_step, no_block}
use Rattle.form.specs.Form.{is_work, is_open, is_free, is_no_step, is_no_block, note_sized, UnusedPlaces}

-- of a test that fails, and holds, anything
any : {A : Type 0} (x y : A) → false ≡ true → x ≡ y
any x y e = ap (λ (t : Bool). cond t y x) e

work : (i : Intensity) → is_work i ≡ true → i ≡ Work
work Warmup e = any Warmup Work e
work Work e = refl
work Recovery e = any Recovery Work e
work Cooldown e = any Cooldown Work e
work Test e = any Test Work e

untimed : (l : Length) → is_open l ≡ true → l ≡ Open
untimed (Time secs) e = any (Time secs) Open e
untimed (Distance metres) e = any (Distance metres) Open e
untimed Open e = refl

free : (t : Target) → is_free t ≡ true → t ≡ Free
free Free e = refl
free (Ftp low high) e = any (Ftp low high) Free e
free (Watts low high) e = any (Watts low high) Free e
free (HeartZone zone) e = any (HeartZone zone) Free e
free (Lthr low high) e = any (Lthr low high) Free e
free (Cadence low high) e = any (Cadence low high) Free e
free (Ramp start step every) e = any (Ramp start step every) Free e
free (FtpRamp start step every) e = any (FtpRamp start step every) Free e

abbrev step_of : Intensity → Length → Target → Name → Step
step_of i l t n = record { intensity = i; length = l; target = t; note = n }

abbrev block_of : ℕ → ℕ → ℕ → Block
block_of f l c = record { first = f; len = l; count = c }

step_is_lem : (s : Step) → length s.note.bytes ≡ 20 → is_no_step s ≡ true → s ≡ no_step
unfolding is_no_step
step_is_lem s h e =
    let i = is_work s.intensity in
    let l = is_open s.length in
    let t = is_free s.target in
    let n = is_blank s.note in
    let ilt : (i && l && t) ≡ true = and_left (i && l && t) n e in
    let il : (i && l) ≡ true = and_left (i && l) t ilt in
    ap₂ (λ (x : Intensity) (y : Length). step_of x y s.target s.note) (work s.intensity (and_left i l il)) (untimed s.length (and_right i l il))
    ∙ ap₂ (step_of Work Open) (free s.target (and_right (i && l) t ilt))
    (blank-empty s.note h (and_right (i && l && t) n e))

-- what tells `NO_STEP` from other steps is the definition's test
pub no-step-test : (s : Step) (b : Bool) → length s.note.bytes ≡ 20 → (b ≡ true → s ≡ no_step) → (s ≡ no_step → b ≡ true) → b ≡ is_no_step s
unfolding is_no_step all
no-step-test s b h f g = both_ways b (is_no_step s) (λ e. ap is_no_step (f e)) (λ e. g (step_is_lem s h e))

block-is : (b : Block) → is_no_block b ≡ true → b ≡ no_block
block-is b e =
    let f = eqb b.first 0 in
    let l = eqb b.len 0 in
    let c = eqb b.count 0 in
    let fl : (f && l) ≡ true = and_left (f && l) c e in
    ap₂ (λ (x y : ℕ). block_of x y b.count) (eqb-true b.first 0 (and_left f l fl)) (eqb-true b.len 0 (and_right f l fl))
    ∙ ap (block_of 0 0) (eqb-true b.count 0 (and_right (f && l) c e))

pub unused-places : UnusedPlaces
unfolding all is_no_step
unused-places =
    record {
      no_step_lem = refl;
      no_block_lem = refl;
      step = step_is_lem;
      block = block-is;
      steps = all_one note_sized is_no_step no_step (λ s h k. step_is_lem s (eqb-true (length s.note.bytes) 20 h) k);
      blocks = λ xs e. all_one is_no_block is_no_block no_block (λ b h k. block-is b h) xs e e;
    }
