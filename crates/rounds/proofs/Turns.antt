-- A round made of its two parts: `turn`, and `end_step` where the step's end has come.
use mathlib.Core.Path.{◌≡◌, refl, sym, ap, subst, ◌∙◌}
use mathlib.Core.Bool.{Bool, true, false}
use mathlib.Core.List.{List, []}
use Prim.Native.Nat.{ℕ, ◌+◌, ◌≤◌, ◌<◌}
use native.Mathlib.Omega.{arith}
use lib.ListN.{length}
use Rattle.zones.specs.declared.TrainingProfile.{TrainingProfile}
use Rattle.model.specs.declared.Workout.{Workout}
use Rattle.events.specs.Events.{Wrote}
use Rattle.events.proofs.Laws.{wrote_none, wrote_then}
use Rattle.state.specs.declared.Ms.{Ms}
use Rattle.state.specs.declared.Mm.{Mm}
use Rattle.state.specs.declared.Core.{Core}
use Rattle.state.specs.State.{SmallEnergy}
use Rattle.step_end.specs.StepEnd.{Outcome, NextFits, is_over, next_of}
use Rattle.rounds.specs.declared.Ride.{Ride}
use Rattle.rounds.specs.Rounds.{Riding, Rode, riding, riding_of, closed, closed_by, accounted, round_of, is_stopped}
use Rattle.rounds.specs.Contracted.{Rides, TurnFits, Turned, Ended, Round, part_of}
use Rattle.rounds.proofs.Parts.{over-silent}
use Rattle.rounds.proofs.One.{advance-fits, unended, the-part, next_fits, after-part, round-made}
use Rattle.rounds.proofs.Loop.{closed-over}

closed-left : (w : Workout) (p : TrainingProfile) (c : Core) → is_over p c ≡ false → closed w p c ≡ record { core = c; events = [] }
unfolding closed
closed-left w p c o = ap (λ (b : Bool). closed_by b w c) o

module _ (w : Workout) (s : Ride) (kl vl : List ℕ) (r : Rides w s (length kl) (length vl)) (on : is_stopped s.core.done s.ms.0 ≡ false) where
  pub turn-fits : s.parts < 97 → TurnFits s (length kl) (length vl)
  turn-fits few =
      let left = unended w s (length kl) (length vl) r on in
      let t = the-part w s (length kl) (length vl) r on in
      record {
        left-ms = r.ms;
        left_mm = r.mm;
        advance = advance-fits w s (length kl) (length vl) r on;
        ms = t.within-ms;
        mm = t.within-mm;
        parts = few;
        kinds = omega (arith, left, r.kinds on);
        values = omega (arith, left, r.values on);
      }

  module _ (p : TrainingProfile) {m m' kl' vl' : List ℕ} (t : Ride) (o : Turned w.test p m m' kl vl kl' vl' s t) where
    made : round_of w p (part_of s) (riding s.core m) ≡ accounted w p s.core.lap.step_ms (riding t.core m')
    made = round-made w s (length kl) (length vl) r on p m (part_of s) (riding t.core m') refl o.riding_is

    -- a step that is over has its places, since its last seconds are past
    pub end_fits : length kl' ≡ length kl → length vl' ≡ length vl → is_over p t.core ≡ true
        → NextFits t.core × (t.count + 2 ≤ length kl') × (t.count + 2 ≤ length vl')
    end_fits ek ev over =
        let none = ap length (over-silent p t.core s.core.lap.step_ms over) in
        let left = unended w s (length kl) (length vl) r on in (
          next_fits _ _ w t.core (after-part w s (length kl) (length vl) r on p m (part_of s) (riding t.core m') refl o.riding_is o.energy),
          omega (arith, none, left, o.wrote.count, r.kinds on, ek),
          omega (arith, none, left, o.wrote.count, r.values on, ev),
        )

    closed-round : {kl'' vl'' : List ℕ} (q : Ride) → Ended kl' vl' kl'' vl'' t q (closed w p t.core) → Round w p m m' kl vl kl'' vl'' s q
    closed-round {kl''} {vl''} q e =
        let left = unended w s (length kl) (length vl) r on in
        record {
          riding_is = ap (λ (k : Core). riding k m') e.core ∙ sym (ap riding_of made);
          ms = ap (λ (k : Ms). k.0) e.ms ∙ o.ms;
          mm = ap (λ (k : Mm). k.0) e.mm ∙ o.mm;
          parts = e.parts ∙ o.parts ∙ sym (ap (λ (k : Rode). s.parts + k.parts) made);
          wrote =
              subst (λ (k : Rode). Wrote kl vl s.count kl'' vl'' q.count k.events) (sym made)
              (wrote_then (omega (arith, left, r.kinds on)) (omega (arith, left, r.values on)) o.wrote e.wrote);
          energy =
              subst (λ (k : Riding). SmallEnergy k.core.measured) o.riding_is o.energy;
        }

    pub round-ended : {kl'' vl'' : List ℕ} (q : Ride) → is_over p t.core ≡ true → Ended kl' vl' kl'' vl'' t q (next_of w false t.core)
        → Round w p m m' kl vl kl'' vl'' s q
    round-ended {kl''} {vl''} q over e =
        closed-round q (subst (λ (k : Outcome). Ended kl' vl' kl'' vl'' t q k) (sym (closed-over w p t.core over)) e)

    pub round-left : is_over p t.core ≡ false → Round w p m m' kl vl kl' vl' s t
    round-left over =
        closed-round t
        (subst (λ (k : Outcome). Ended kl' vl' kl' vl' t t k) (sym (closed-left w p t.core over))
        (record { core = refl; ms = refl; mm = refl; parts = refl; wrote = wrote_none kl' vl' t.count }))
