-- The calls below the questions, outcome by outcome.
use Rattle.std.specs.Prelude.{Ok}
use mathlib.Core.Path.{◌≡◌, refl, sym, ap, subst, ◌∙◌}
use mathlib.Core.Bool.{Bool, true, false, cond}
use mathlib.Core.List.{List}
use Prim.Native.Nat.{ℕ, ◌+◌, ◌-◌, ◌*◌, ◌≤◌}
use native.Mathlib.Omega.{arith}
use borrow.Author.Tests.{eq-eqb, ne_eqb}
use Rattle.zones.specs.declared.TrainingProfile.{TrainingProfile}
use Rattle.model.specs.declared.Workout.{Workout}
use Rattle.order.specs.Order.{played_len}
use Rattle.readings.specs.declared.Sample.{Sample}
use Rattle.power.specs.Power.{added}
use Rattle.readings.specs.Readings.{taken}
use Rattle.state.specs.declared.Core.{Core}
use Rattle.state.specs.State.{event_places, read_core}
use Rattle.state.specs.declared.Player.{Player}
use Rattle.step_end.specs.declared.Moved.{Moved}
use Rattle.step_end.specs.StepEnd.{Moves, next_of}
use Rattle.rounds.specs.declared.Ride.{Ride}
use Rattle.rounds.specs.Rounds.{riding, is_stopped, rounds}
use Rattle.rounds.specs.Contracted.{Rides, Ridden}
use Rattle.standing.specs.Standing.{on_place, cadence_in}
use Rattle.standing.specs.Facts.{Within, Stands}
use Rattle.standing.proofs.Amounts.{amounts-within}
use Rattle.outcomes.specs.Outcomes.{Called, Answers, with_core, eventless, player_of, totalled}
use Rattle.updates.specs.Updates.{Supposes, add_now, begun, ride_by, rode_to, ride_now, skip_to, skip_now}

-- the totals grow by what is then still to be ridden
pub totalled-stands : (w : Workout) (c : Core) (ms mm : ℕ) → Stands 0 0 w c → c.total_ms.0 + ms ≤ 604800000 → c.total_mm.0 + mm ≤ 7000000000
    → Stands ms mm w (totalled ms mm c)
totalled-stands w c ms mm s a b =
    let h : Within 0 0 w c = s.within in
    record {
      within =
          amounts-within ms mm (c.total_ms.0 + ms) (c.total_mm.0 + mm) c.lap w c h
          (record {
            targeted = omega (arith, h.targeted);
            step-ms = omega (arith, h.step-ms);
            step-mm = omega (arith, h.step-mm);
            test-ms = omega (arith, h.test-ms);
            low = omega (arith, h.low);
            total-ms = a;
            total-mm = b;
          });
      lap = s.lap;
    }

-- the places that a core wants that isn't done
pub going-wants : (w : Workout) (c : Core) (n : ℕ) → Stands 0 0 w c → c.done ≡ false → event_places c ≤ n → 2 * (played_len w - c.position) + 1 ≤ n
going-wants w c n s d h =
    let e : event_places c ≡ 2 * (c.steps - c.position) + 1 = ap (λ (b : Bool). cond b 0 (2 * (c.steps - c.position) + 1)) d in
    omega (arith, e, h, s.within.steps)

not_stopped : (d : Bool) (ms : ℕ) → is_stopped d ms ≡ false → d ≡ false
not_stopped true ms e = e
not_stopped false ms e = refl

-- a ride's start
pub start-rides : (w : Workout) (c : Core) (ms mm k v : ℕ) → Supposes w c ms mm k v
    → Rides w (begun c ms mm) k v
start-rides w c ms mm k v s =
    record {
      stands = totalled-stands w c ms mm s.stands s.total-ms s.total-mm;
      ms = s.ms_in;
      mm = s.mm_in;
      parts = omega arith;
      kinds = λ e. omega (arith, going-wants w c k s.stands (not_stopped c.done ms e) s.kinds_in);
      values = λ e. omega (arith, going-wants w c v s.stands (not_stopped c.done ms e) s.values_in);
    }

module _ (p : Player) (ms mm : ℕ) (f : TrainingProfile) where
  pub ride-idle : ms ≡ 0 → eventless (Ok tt) p ≡ ride_now p ms mm f
  unfolding ride_now
  ride-idle e =
      sym (ap (λ (b : Bool). ride_by b p (rounds p.workout f 97 ms mm (riding (totalled ms mm p.core) p.minute))) (eq-eqb ms 0 e))

  ride-rode : (ms ≡ 0 → ⊥) → rode_to p.workout (rounds p.workout f 97 ms mm (riding (totalled ms mm p.core) p.minute)) ≡ ride_now p ms mm f
  unfolding ride_now
  ride-rode e =
      sym (ap (λ (b : Bool). ride_by b p (rounds p.workout f 97 ms mm (riding (totalled ms mm p.core) p.minute))) (ne_eqb ms 0 e))

  pub ride-made : {m' ks vs ks' vs' : List ℕ} (r : Ride) (q : Player) → (ms ≡ 0 → ⊥)
      → Ridden p.workout f p.minute m' ks vs ks' vs' (begun p.core ms mm) r
      → q ≡ player_of p.workout (riding r.core m')
      → Answers ks vs ks' vs' (record { answer = (Ok tt); player = q; events = r.count; parts = r.parts }) (ride_now p ms mm f)
  ride-made {m' = m'} {ks = ks} {vs = vs} {ks' = ks'} {vs' = vs'} r q e o eq =
      subst (λ (k : Called). Answers ks vs ks' vs' (record { answer = (Ok tt); player = q; events = r.count; parts = r.parts }) k) (ride-rode e)
      (record { answer = refl; player = eq ∙ ap (player_of p.workout) o.riding_is; parts = omega (arith, o.parts); wrote = o.wrote })

-- A skip.

pub skip-idle : (p : Player) → p.core.done ≡ true → eventless (Ok tt) p ≡ skip_now p
unfolding skip_now
skip-idle p e = sym (ap (λ (b : Bool). cond b (eventless (Ok tt) p) (skip_to p (next_of p.workout true p.core))) e)

skip-moved : (p : Player) → p.core.done ≡ false → skip_to p (next_of p.workout true p.core) ≡ skip_now p
unfolding skip_now
skip-moved p e = sym (ap (λ (b : Bool). cond b (eventless (Ok tt) p) (skip_to p (next_of p.workout true p.core))) e)

pub skip-made : {ks vs ks' vs' : List ℕ} (p : Player) (r : Moved) (q : Player) → p.core.done ≡ false
    → Moves ks vs 0 ks' vs' r (next_of p.workout true p.core) → q ≡ player_of p.workout (riding r.core p.minute)
    → Answers ks vs ks' vs' (record { answer = (Ok tt); player = q; events = r.count; parts = 0 }) (skip_now p)
skip-made {ks} {vs} {ks'} {vs'} p r q d o eq =
    subst (λ (k : Called). Answers ks vs ks' vs' (record { answer = (Ok tt); player = q; events = r.count; parts = 0 }) k) (skip-moved p d)
    (record { answer = refl; player = eq ∙ ap (λ (c : Core). player_of p.workout (riding c p.minute)) o.core; parts = refl; wrote = o.wrote })

-- Add.

-- a reading keeps standing
pub read-stands : (w : Workout) (c : Core) (sample : Sample) → Stands 0 0 w c → cadence_in sample.cadence_tenths ≡ true → Stands 0 0 w (read_core sample c)
unfolding on_place read_core taken added
read-stands w c sample s e =
    let h : Within 0 0 w c = s.within in
    record {
      within =
          record {
            valid = h.valid;
            steps = h.steps;
            summary_steps = h.summary_steps;
            steps-done = h.steps-done;
            skipped = h.skipped;
            position = h.position;
            done = h.done;
            finished = h.finished;
            step = h.step;
            tallies = h.tallies;
            targeted = h.targeted;
            step-ms = h.step-ms;
            step-mm = h.step-mm;
            energy = h.energy;
            test-ms = h.test-ms;
            low = h.low;
            rest = h.rest;
            place = h.place;
            long = h.long;
            next = omega arith;
            cadence = e;
            total-ms = h.total-ms;
            total-mm = h.total-mm;
          };
      lap = s.lap;
    }

pub read-supposes : (w : Workout) (c : Core) (sample : Sample) (ms mm k v : ℕ) → Supposes w c ms mm k v → cadence_in sample.cadence_tenths ≡ true
    → Supposes w (read_core sample c) ms mm k v
unfolding read_core
read-supposes w c sample ms mm k v s e =
    record {
      stands = read-stands w c sample s.stands e;
      ms_in = s.ms_in;
      mm_in = s.mm_in;
      total-ms = s.total-ms;
      total-mm = s.total-mm;
      kinds_in = s.kinds_in;
      values_in = s.values_in;
    }

module _ (p : Player) (ms mm : ℕ) (sample : Sample) (f : TrainingProfile) where
  pub add-idle : ms ≡ 0 → eventless (Ok tt) p ≡ add_now p ms mm sample f
  unfolding add_now
  add-idle e = sym (ap (λ (b : Bool). cond b (eventless (Ok tt) p) (ride_now (with_core (read_core sample p.core) p) ms mm f)) (eq-eqb ms 0 e))

  pub add-rode : (ms ≡ 0 → ⊥) → ride_now (with_core (read_core sample p.core) p) ms mm f ≡ add_now p ms mm sample f
  unfolding add_now
  add-rode e = sym (ap (λ (b : Bool). cond b (eventless (Ok tt) p) (ride_now (with_core (read_core sample p.core) p) ms mm f)) (ne_eqb ms 0 e))
