-- One round: what it supposes of its parts, and what it makes.
use mathlib.Core.Path.{◌≡◌, refl, sym, ap, subst, ◌∙◌}
use mathlib.Core.Bool.{Bool, true, false, cond, ◌&&◌, ◌||◌}
use mathlib.Core.List.{List}
use Prim.Native.Nat.{ℕ, ◌-◌, ◌≤◌, ◌<◌}
use native.Mathlib.Omega.{arith}
use lib.Dec.{leb, eqb}
use borrow.Author.Tests.{eqb-false, ne_eqb}
use Rattle.validation.proofs.Passes.{Passes, passes}
use Rattle.common.proofs.Tests.{and_left, and_right}
use Rattle.zones.specs.declared.TrainingProfile.{TrainingProfile}
use Rattle.model.specs.declared.Workout.{Workout}
use Rattle.order.specs.Order.{played_len}
use Rattle.state.specs.declared.Core.{Core}
use Rattle.state.specs.declared.Part.{Part}
use Rattle.state.specs.State.{SmallEnergy}
use Rattle.step_end.specs.StepEnd.{NextFits}
use Rattle.standing.specs.Standing.{below_end, lap_ok}
use Rattle.standing.specs.Facts.{Within}
use Rattle.rounds.specs.declared.Ride.{Ride}
use Rattle.rounds.specs.Rounds.{Riding, riding, advanced, accounted, stays, round_of, is_stopped}
use Rattle.rounds.specs.Contracted.{AdvanceFits, Rides, part_of}
use Rattle.rounds.proofs.Parts.{PartIs, part-is}
use Rattle.rounds.proofs.Keeps.{within-advanced, not-done-below}

or-false-left : (a b : Bool) → (a || b) ≡ false → a ≡ false
or-false-left true b e = e
or-false-left false b e = refl

or-false-right : (a b : Bool) → (a || b) ≡ false → b ≡ false
or-false-right true true e = e
or-false-right true false e = refl
or-false-right false b e = e

-- What is known of a core from which a step may end.
pub next_fits : (x y : ℕ) (w : Workout) (c : Core) → Within x y w c → NextFits c
next_fits x y w c h =
    let v : Passes w = passes w h.valid in
    let few : played_len w ≤ 96 = v.most in
    record {
      position = omega (arith, h.position);
      done = omega (arith, h.position, h.steps-done);
      skipped = omega (arith, h.position, h.skipped);
      energy = h.energy;
      time = omega (arith, h.test-ms, h.total-ms);
    }

module _ (w : Workout) (s : Ride) (ks vs : ℕ) (r : Rides w s ks vs) (on : is_stopped s.core.done s.ms.0 ≡ false) where
  pub going : s.core.done ≡ false
  going = or-false-left s.core.done (eqb s.ms.0 0) on

  pub some_left : 0 < s.ms.0
  some_left = let e : (s.ms.0 ≡ 0 → ⊥) = eqb-false s.ms.0 0 (or-false-right s.core.done (eqb s.ms.0 0) on) in omega arith

  lap-parts : (below_end s.core.on.length s.core.lap && leb s.core.lap.extra_s 86400 && leb s.core.lap.extra_m 1000000) ≡ true
  lap-parts = subst (λ (b : Bool). lap_ok b s.core.on.length s.core.lap ≡ true) going r.stands.lap

  pub the-part : PartIs s.ms.0 s.mm.0 s.core.on.length s.core.lap (part_of s)
  the-part =
      part-is s.core s.ms.0 s.mm.0 going some_left
      (and_left (below_end s.core.on.length s.core.lap) (leb s.core.lap.extra_s 86400)
      (and_left (below_end s.core.on.length s.core.lap && leb s.core.lap.extra_s 86400) (leb s.core.lap.extra_m 1000000) lap-parts))

  pub extra-s : leb s.core.lap.extra_s 86400 ≡ true
  extra-s =
      and_right (below_end s.core.on.length s.core.lap) (leb s.core.lap.extra_s 86400)
      (and_left (below_end s.core.on.length s.core.lap && leb s.core.lap.extra_s 86400) (leb s.core.lap.extra_m 1000000) lap-parts)

  pub extra-m : leb s.core.lap.extra_m 1000000 ≡ true
  extra-m = and_right (below_end s.core.on.length s.core.lap && leb s.core.lap.extra_s 86400) (leb s.core.lap.extra_m 1000000) lap-parts

  pub unended : s.core.position < played_len w
  unended = not-done-below s.ms.0 s.mm.0 w s.core r.stands.within going

  pub advance-fits : AdvanceFits s.core (part_of s).ms.0 (part_of s).mm.0
  advance-fits =
      let h : Within s.ms.0 s.mm.0 w s.core = r.stands.within in
      let t : PartIs s.ms.0 s.mm.0 s.core.on.length s.core.lap (part_of s) = the-part in
      let a : (part_of s).ms.0 ≤ s.ms.0 = t.within-ms in
      let b : (part_of s).mm.0 ≤ s.mm.0 = t.within-mm in
      record {
        tally =
            record {
              targeted = omega (arith, h.targeted, h.total-ms);
              inside = omega (arith, h.targeted, h.total-ms, h.tallies);
              under = omega (arith, h.targeted, h.total-ms, h.tallies);
              over = omega (arith, h.targeted, h.total-ms, h.tallies);
              unread = omega (arith, h.targeted, h.total-ms);
            };
        measure =
            record {
              place = h.place;
              rest = h.rest;
              energy = h.energy;
              time = omega (arith, h.test-ms, h.total-ms);
              low = omega (arith, h.low, h.total-ms);
              step = omega (arith, h.step-ms, h.total-ms);
            };
        way = omega (arith, h.step-mm, h.total-mm);
      }

  -- the core after the part, but for its end
  abbrev ridden : TrainingProfile → List ℕ → Riding
  ridden p m = advanced w.test p (part_of s).ms.0 (part_of s).mm.0 (riding s.core m)

  pub ridden-within : (p : TrainingProfile) (m : List ℕ)
      → SmallEnergy (ridden p m).core.measured
      → Within (s.ms.0 - (part_of s).ms.0) (s.mm.0 - (part_of s).mm.0) w (ridden p m).core
  unfolding advanced
  ridden-within p m e =
      within-advanced w.test p (part_of s).ms.0 (part_of s).mm.0 (riding s.core m) s.ms.0 s.mm.0 w r.stands.within
      the-part.within-ms the-part.within-mm e

  pub round_is : (p : TrainingProfile) (m : List ℕ) → round_of w p (part_of s) (riding s.core m) ≡ accounted w p s.core.lap.step_ms (ridden p m)
  unfolding round_of
  round_is p m =
      ap (λ (b : Bool). cond b (stays (riding s.core m)) (accounted w p s.core.lap.step_ms (ridden p m)))
      (ne_eqb (part_of s).ms.0 0 (positive (part_of s).ms.0 the-part.some))
    where
      positive : (n : ℕ) → 0 < n → n ≡ 0 → ⊥
      positive n h e = omega arith

module _ (w : Workout) (s : Ride) (ks vs : ℕ) (r : Rides w s ks vs) (on : is_stopped s.core.done s.ms.0 ≡ false) (p : TrainingProfile) (m : List ℕ)
    (t : Part) (q : Riding) (et : t ≡ part_of s) (eq : q ≡ advanced w.test p t.ms.0 t.mm.0 (riding s.core m)) where
  -- the code's part is the definition's
  pub ridden-is : q ≡ advanced w.test p (part_of s).ms.0 (part_of s).mm.0 (riding s.core m)
  ridden-is = eq ∙ ap (λ (t : Part). advanced w.test p t.ms.0 t.mm.0 (riding s.core m)) et

  pub after-part : SmallEnergy q.core.measured
      → Within (s.ms.0 - (part_of s).ms.0) (s.mm.0 - (part_of s).mm.0) w q.core
  after-part e =
      subst (λ (q : Riding). Within (s.ms.0 - (part_of s).ms.0) (s.mm.0 - (part_of s).mm.0) w q.core) (sym ridden-is)
      (ridden-within w s ks vs r on p m (subst (λ (q : Riding). SmallEnergy q.core.measured) ridden-is e))

  pub round-made : round_of w p (part_of s) (riding s.core m) ≡ accounted w p s.core.lap.step_ms q
  round-made = round_is w s ks vs r on p m ∙ ap (accounted w p s.core.lap.step_ms) (sym ridden-is)
