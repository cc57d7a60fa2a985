-- What the third demand's workouts play: steps that are timed or open, without ramps, heart zones from 1 to 5, one at each position
-- below the played length.
use Rattle.std.specs.Prelude.{None, Some, is_some, Option}
use mathlib.Core.Path.{◌≡◌, refl, sym, ap, ◌∙◌, subst}
use mathlib.Core.Bool.{Bool, true, false, cond, not, ◌&&◌}
use mathlib.Core.List.{List}
use Prim.Native.Nat.{ℕ, ◌≤◌, ◌<◌}
use native.Mathlib.Omega.{arith}
use lib.Dec.{ltb, leb}
use lib.ListN.{length, get_or, length-take}
use borrow.Author.Tests.{leb-true, ltb-true, lt-ltb, le-ltb}
use Rattle.common.specs.Lists.{all}
use Rattle.common.proofs.Tests.{and_left, and_right}
use Rattle.common.proofs.Lists.{all-get}
use Rattle.model.specs.declared.Length.{Length}
use Rattle.model.specs.declared.Length.TheVariants.{Time, Distance, Open}
use Rattle.model.specs.declared.Target.{Target}
use Rattle.model.specs.declared.Target.TheVariants.{Free, Ftp, Watts, HeartZone, Lthr, Cadence, Ramp, FtpRamp}
use Rattle.model.specs.declared.Step.{Step}
use Rattle.model.specs.declared.Workout.{Workout}
use Rattle.model.specs.Workout.{no_step, steps_of}
use Rattle.order.specs.declared.Played.{Played}
use Rattle.order.specs.declared.Place.{Place}
use Rattle.order.specs.Order as order
use Rattle.order.specs.Order.{order_of, nth, nothing, played_by, played_of, played_len, played_in}
use Rattle.order.proofs.Within.{playing-order}
use Rattle.form.specs.Form.{is_open}
use Rattle.validation.specs.Sound.{length_ok, target_ok, step_ok}
use Rattle.validation.proofs.Passes.{Passes, passes}
use Rattle.machine.specs.Machine.{step_of, step_at}
use Rattle.machine.specs.ThirdDemand.{is_distance, is_ramp, is_plain, Taken}
use Rattle.machine.proofs.AtOnce.{apart}
use Rattle.machine.proofs.Alike.{Lasting, Zoned, Plain}

-- what holds of all of a workout's steps holds of a played one
by_place : (test : Step → Bool) (steps : List Step) (o : Option Place) → all test steps ≡ true → is_some (played_by steps o) ≡ true
    → test (played_in (played_by steps o)).step ≡ true
unfolding order.step_at
by_place test steps None a t = absurd (apart (sym t))
by_place test steps (Some p) a t = at (ltb p.index (length steps)) refl t
  where
    made : Option Played
    made = Some (record { index = p.index; repetition = p.repetition; of = p.of; step = get_or steps p.index no_step })

    at : (b : Bool) → ltb p.index (length steps) ≡ b → is_some (cond b made nothing) ≡ true → test (played_in (cond b made nothing)).step ≡ true
    at true e t = all-get test steps p.index no_step (ltb-true _ _ e) a
    at false e t = absurd (apart (sym t))

played-all : (test : Step → Bool) (w : Workout) (i : ℕ) → all test (steps_of w) ≡ true → is_some (played_of w i) ≡ true → test (played_in (played_of w i)).step ≡ true
unfolding played_of
played-all test w i a t = by_place test (steps_of w) (nth (order_of w) i) a t

lasting-is : (l : Length) → not (is_distance l) ≡ true → length_ok l ≡ true → Lasting l
lasting-is (Time secs) d h = ltb-true 0 secs h
lasting-is (Distance metres) d h = absurd (apart (sym d))
lasting-is Open d h = tt

zoned-is : (target : Target) (untimed : Bool) → target_ok target untimed ≡ true → Zoned target
zoned-is Free untimed h = tt
zoned-is (Ftp low high) untimed h = tt
zoned-is (Watts low high) untimed h = tt
zoned-is (HeartZone zone) untimed h = (leb-true 1 zone (and_left (leb 1 zone) (leb zone 5) h), leb-true zone 5 (and_right (leb 1 zone) (leb zone 5) h))
zoned-is (Lthr low high) untimed h = tt
zoned-is (Cadence low high) untimed h = tt
zoned-is (Ramp start step every) untimed h = tt
zoned-is (FtpRamp start step every) untimed h = tt

not-true : (b : Bool) → not b ≡ true → b ≡ false
not-true true e = sym e
not-true false e = refl

-- A workout that the demand takes, of which memory holds twelve steps.
pub record Held (w : Workout) : Type 0 where
  pub taken : Taken w
  pub twelve : length w.steps ≡ 12

module _ (w : Workout) (T : Held w) where
  valid : Passes w
  valid = passes w T.taken.passes

  pub few : played_len w ≤ 96
  few = valid.most

  -- a workout that passes 5 to 9 plays something
  pub plays : 0 < played_len w
  unfolding played_len
  plays = omega (arith, ltb-true 0 w.step_count valid.some, length-take w.step_count w.steps, T.twelve)

  found-is : (i : ℕ) → is_some (played_of w i) ≡ ltb i (played_len w)
  found-is i = playing-order.played_below w valid.blocks i

  pub past : (i : ℕ) → played_len w ≤ i → step_at w i ≡ None
  unfolding step_at
  past i h = ap (λ (b : Bool). cond b (Some (played_in (played_of w i)).step) None) (found-is i ∙ le-ltb i (played_len w) h)

  pub first : step_at w 0 ≡ Some (played_in (played_of w 0)).step
  unfolding step_at
  first = ap (λ (b : Bool). cond b (Some (played_in (played_of w 0)).step) None) (found-is 0 ∙ lt-ltb 0 (played_len w) plays)

  plain_at : (i : ℕ) → is_some (played_of w i) ≡ true → Plain (played_in (played_of w i)).step
  plain_at i found =
      let s : Step = (played_in (played_of w i)).step in
      let both : is_plain s ≡ true = played-all is_plain w i T.taken.plain found in
      let sound : length_ok s.length && target_ok s.target (is_open s.length) ≡ true = unfold step_ok in played-all step_ok w i valid.steps found in
      record {
        lasting =
            lasting-is s.length (and_left (not (is_distance s.length)) (not (is_ramp s.target)) both)
            (and_left (length_ok s.length) (target_ok s.target (is_open s.length)) sound);
        zoned = zoned-is s.target (is_open s.length) (and_right (length_ok s.length) (target_ok s.target (is_open s.length)) sound);
        flat = not-true (is_ramp s.target) (and_right (not (is_distance s.length)) (not (is_ramp s.target)) both);
      }

  pub each : (i : ℕ) (s : Step) → step_at w i ≡ Some s → Plain s
  unfolding step_at
  each i s e = at (played_of w i) (plain_at i) e
    where
      at : (o : Option Played) → (is_some o ≡ true → Plain (played_in o).step) → step_of o ≡ Some s → Plain s
      at (Some played) h q = subst Plain (same q) (h refl)
        where
          same : Some played.step ≡ Some s → played.step ≡ s
          same q = ap (λ (o : Option Step). or_else o) q
            where
              or_else : Option Step → Step
              or_else None = s
              or_else (Some t) = t
      at None h q = absurd (clash q)
        where
          clash : None ≡ Some s → ⊥
          clash q = let z : ◌≡◌ {A = ℕ} 0 1 = cc in omega arith
