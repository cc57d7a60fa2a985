-- The step on now is the workout's step of its index, so its note is the one that is looked up.
use Rattle.std.specs.Prelude.{None, Option, Some, is_some}
use mathlib.Core.Path.{◌≡◌, refl, sym, ap, ◌∙◌, subst}
use mathlib.Core.Bool.{Bool, true, false, cond, ◌&&◌}
use mathlib.Core.List.{List, [], ◌∷◌}
use Prim.Native.Nat.{ℕ, suc, ◌+◌, ◌-◌, ◌<◌}
use native.Mathlib.Omega.{arith}
use lib.Dec.{ltb, eqb}
use lib.ListN.{length, get_or, length-take}
use lib.Seq.{get_or-take}
use borrow.Author.Tests.{ltb-true, lt-ltb, leb-false, eqb-true, eq-eqb}
use Rattle.common.specs.Lists.{all_at}
use Rattle.common.proofs.Tests.{and_left, and_right, and_both}
use Rattle.names.specs.declared.Name.{Name}
use Rattle.model.specs.declared.Step.{Step}
use Rattle.model.specs.declared.Workout.{Workout}
use Rattle.model.specs.Workout.{no_step, steps_of}
use Rattle.order.specs.declared.Played.{Played}
use Rattle.order.specs.declared.Place.{Place}
use Rattle.order.specs.Order.{order_of, nth, nothing, step_at, played_by, played_of, played_len, played_in}
use Rattle.order.proofs.Within.{playing-order}
use Rattle.validation.proofs.Passes.{passes}
use Rattle.steps.specs.Bytes.{intensity_kind}
use Rattle.state.specs.declared.Core.{Core}
use Rattle.state.specs.declared.StepNow.{StepNow}
use Rattle.state.specs.State.{step_now}
use Rattle.standing.specs.Standing.{same_length, same_target, same_step, byte_same, same_bytes, same_name, on_place}
use Rattle.standing.specs.Facts.{Within}

-- a name compared with itself
bytes_same : (l : List ℕ) (b : List ℕ) (i : ℕ) → ((j : ℕ) → get_or l j 0 ≡ get_or b (i + j) 0) → all_at (byte_same b) i l ≡ true
unfolding all_at
bytes_same [] b i same = refl
bytes_same (x ∷ l) b i same =
    and_both (eq-eqb x (get_or b i 0) (same 0 ∙ ap (λ (k : ℕ). get_or b k 0) (omega arith)))
    (bytes_same l b (i + 1) (λ j. same (suc j) ∙ ap (λ (k : ℕ). get_or b k 0) (omega arith)))

pub name-itself : (n : Name) → same_name n n ≡ true
unfolding same_name same_bytes
name-itself n = and_both (eq-eqb n.len n.len refl) (bytes_same n.bytes n.bytes 0 (λ j. ap (λ (k : ℕ). get_or n.bytes k 0) (omega arith)))

-- the step that is found is the workout's, of the index that is found with it
found-step : (steps : List Step) (o : Option Place) → is_some (played_by steps o) ≡ true
    → ((played_in (played_by steps o)).index < length steps) × ((played_in (played_by steps o)).step ≡ get_or steps (played_in (played_by steps o)).index no_step)
unfolding step_at
found-step steps None t = let z : ◌≡◌ {A = ℕ} 0 1 = ap (λ (b : Bool). cond b 1 0) t in absurd (omega arith)
found-step steps (Some p) t = at (ltb p.index (length steps)) refl t
  where
    made : Option Played
    made = Some (record { index = p.index; repetition = p.repetition; of = p.of; step = get_or steps p.index no_step })

    at : (b : Bool) → ltb p.index (length steps) ≡ b → is_some (cond b made nothing) ≡ true
        → ((played_in (cond b made nothing)).index < length steps) × ((played_in (cond b made nothing)).step ≡ get_or steps (played_in (cond b made nothing)).index no_step)
    at true e t = (ltb-true p.index (length steps) e, refl)
    at false e t = let z : ◌≡◌ {A = ℕ} 0 1 = ap (λ (b : Bool). cond b 1 0) t in absurd (omega arith)

-- a step compared with another has its index
same_index : (a b : StepNow) → same_step a b ≡ true → a.index ≡ b.index
unfolding same_step
same_index a b e =
    let l = same_length a.length b.length in
    let t = same_target a.target b.target in
    let i = eqb (intensity_kind a.intensity) (intensity_kind b.intensity) in
    let x = eqb a.index b.index in
    let r = eqb a.repetition b.repetition in
    eqb-true a.index b.index (and_right (l && t && i) x (and_left (l && t && i && x) r (and_left (l && t && i && x && r) (eqb a.of b.of) e)))

module _ (x y : ℕ) (w : Workout) (c : Core) (h : Within x y w c) (some : 0 < played_len w) where
  shown-below : on_place c < played_len w
  unfolding on_place
  shown-below = at c.done refl
    where
      at : (b : Bool) → c.done ≡ b → cond b (c.position - 1) c.position < played_len w
      at true e = omega (arith, h.position)
      at false e = leb-false (played_len w) c.position (sym h.done ∙ e)

  -- the step that is looked up by the index of the step on now
  pub step-here : get_or w.steps c.on.index no_step ≡ (played_in (played_of w (on_place c))).step
  unfolding played_of
  step-here =
      let n = on_place c in
      let v = passes w h.valid in
      let t : is_some (played_of w n) ≡ true = playing-order.played_below w v.blocks n ∙ lt-ltb n (played_len w) shown-below in
      let s = found-step (steps_of w) (nth (order_of w) n) t in
      let i = (played_in (played_of w n)).index in
      let index : c.on.index ≡ i = same_index c.on (step_now (played_in (played_of w n))) h.step in
      let below : i < w.step_count = omega (arith, s.0, length-take w.step_count w.steps) in
      ap (λ (k : ℕ). get_or w.steps k no_step) index ∙ sym (get_or-take w.step_count w.steps i no_step below) ∙ sym s.1

  -- and its note
  pub note-here : same_name (get_or w.steps c.on.index no_step).note (played_in (played_of w (on_place c))).step.note ≡ true
  note-here =
      let note = (get_or w.steps c.on.index no_step).note in
      subst (λ (m : Step). same_name note m.note ≡ true) step-here (name-itself note)
