-- A call gives few events.
use Rattle.std.specs.Prelude.{Err, Ok, Result, ⊤}
use Rattle.refusal.specs.declared.Refusal.{Refusal}
use mathlib.Core.Path.{◌≡◌, refl, sym, ap, ◌∙◌, subst}
use mathlib.Core.Logic.{⊎_elim}
use mathlib.Core.Bool.{Bool, true, false, cond}
use mathlib.Core.List.{List, [], ◌∷◌, ◌++◌}
use Prim.Native.Nat.{ℕ, zero, suc, ◌+◌, ◌-◌, ◌*◌, ◌≤◌, ◌<◌}
use native.Mathlib.Omega.{arith}
use lib.Dec.{eqb}
use lib.ListN.{length, length-append}
use borrow.Author.Tests.{eq-eqb}
use Rattle.zones.specs.declared.TrainingProfile.{TrainingProfile}
use Rattle.zones.specs.Zones.{profile_ok}
use Rattle.model.specs.declared.Length.{Length}
use Rattle.model.specs.declared.Length.TheVariants.{Time, Distance, Open}
use Rattle.model.specs.declared.Workout.{Workout}
use Rattle.order.specs.Order.{played_len}
use Rattle.validation.proofs.Passes.{passes}
use Rattle.events.specs.Events.{Event, countdown}
use Rattle.events.proofs.Laws.{one_at_most}
use Rattle.readings.specs.declared.Sample.{Sample}
use Rattle.readings.specs.Readings.{taken}
use Rattle.state.specs.declared.Lap.{Lap}
use Rattle.state.specs.declared.Core.{Core}
use Rattle.state.specs.declared.Part.{Part}
use Rattle.state.specs.declared.Player.{Player}
use Rattle.state.specs.State.{until_end, duration_ms, read_core}
use Rattle.step_end.specs.StepEnd.{due_at, countdown_at, countdowns_to, countdowns_of, is_over, next_of}
use Rattle.standing.specs.Standing.{standing_of, cadence_in}
use Rattle.standing.specs.Facts.{Stands}
use Rattle.standing.proofs.Known.{known}
use Rattle.rounds.specs.Rounds.{Riding, riding, Rode, riding_of, advanced, closed_by, closed, accounted, round_of, stays, joined, is_stopped, rounds}
use Rattle.rounds.proofs.Keeps.{not-done-below}
use Rattle.rounds.proofs.Parts.{over-silent}
use Rattle.rounds.proofs.One.{round_is, unended}
use Rattle.rounds.proofs.Loop.{next-few, closed-over, used-or-ended}
use Rattle.outcomes.specs.Outcomes.{Called, eventless, with_core, totalled}
use Rattle.updates.specs.Updates.{Supposes, ride_by, ride_now, add_now, skip_to, skip_now}
use Rattle.updates.proofs.Laws.{totalled-stands, read-supposes}
use Rattle.player.specs.Calls.{update_answer, places_ok, ride_of, add_of, skip_of}
use Rattle.player.proofs.Laws.{update-passed, ride-20, ride-10, ride-refused, ride-taken, skip-20, skip-14, skip-taken, add-20, add-10, add-11, add-refused, add-taken}
use Rattle.keeps.specs.Keeps.{PowerFits, PlayerFits}
use Rattle.keeps.specs.Few.{Few, FewEvents}
use Rattle.keeps.proofs.Rides.{PowerIn, start_of, rides, round-stands, round-power}

-- the last seconds of a step give at most three events
countdowns-few : (l : Length) (lap : Lap) (before : ℕ) → length (countdowns_of l lap before) ≤ 3
unfolding countdowns_to
countdowns-few (Time secs) lap before =
    let end = duration_ms secs lap in
    let now = lap.step_ms in
    let three = countdown_at 3 end before now in
    let two = countdown_at 2 end before now in
    let one = countdown_at 1 end before now in
    omega (arith, length-append (three ++ two) one, length-append three two, one_at_most (due_at 3 end before now) (countdown 3), one_at_most (due_at 2 end before now) (countdown 2), one_at_most (due_at 1 end before now) (countdown 1))
countdowns-few (Distance metres) lap before = omega arith
countdowns-few Open lap before = omega arith

closed-going : (w : Workout) (p : TrainingProfile) (c : Core) → is_over p c ≡ false → (closed w p c).events ≡ []
unfolding closed
closed-going w p c o = ap (λ (b : Bool). (closed_by b w c).events) o

-- a part gives at most three events: its last seconds, or its end
part-few : (w : Workout) (p : TrainingProfile) (before : ℕ) (s : Riding) → length (accounted w p before s).events ≤ 3
part-few w p before s = at (is_over p s.core) refl
  where
    at : (t : Bool) → is_over p s.core ≡ t → length (accounted w p before s).events ≤ 3
    at true o =
        let few : length (next_of w false s.core).events ≤ 2 = next-few w false s.core in
        rw (over-silent p s.core before o, closed-over w p s.core o) (omega (arith, few))
    at false o = rw (closed-going w p s.core o) (omega (arith, length-append (countdowns_of s.core.on.length s.core.lap before) [], countdowns-few s.core.on.length s.core.lap before))

-- the most events of a ride: none once it is stopped
abbrev most : Bool → ℕ → ℕ
most stopped n = cond stopped 0 n

used-up : (done : Bool) (ms n : ℕ) → ms ≡ 0 → most (is_stopped done ms) n ≡ 0
used-up true ms n e = refl
used-up false ms n e = ap (λ (b : Bool). most b n) (eq-eqb ms 0 e)

when-done : (done : Bool) (ms n : ℕ) → done ≡ true → most (is_stopped done ms) n ≡ 0
when-done true ms n e = refl
when-done false ms n e = absurd (let z : ◌≡◌ {A = ℕ} 0 1 = ap (λ (b : Bool). cond b 1 0) e in omega arith)

pub at_most : (stopped : Bool) (n : ℕ) → cond stopped 0 n ≤ n
at_most true n = omega arith
at_most false n = omega arith

module _ (w : Workout) (p : TrainingProfile) where
  module _ (ms mm : ℕ) (c : Core) (m : List ℕ) (s : Stands ms mm w c) (ms_in : ms ≤ 86400000) (mm_in : mm ≤ 1000000000) (power : PowerIn c) (on : is_stopped c.done ms ≡ false) where
    abbrev after : Rode
    after = round_of w p (until_end c ms mm) (riding c m)

    round-few : length after.events ≤ 3
    round-few =
        rw (round_is w (start_of ms mm c) 193 193 (rides w p ms mm c m s ms_in mm_in power on) on p m)
        (part-few w p c.lap.step_ms (advanced w.test p (until_end c ms mm).ms.0 (until_end c ms mm).mm.0 (riding c m)))

    -- a round's events and those of the rounds after it
    one_more : (rest : List Event) → length rest ≤ most (is_stopped after.core.done (ms - (until_end c ms mm).ms.0)) (2 * (played_len w - after.core.position) + 1)
        → length (after.events ++ rest) ≤ 2 * (played_len w - c.position) + 1
    one_more rest h =
        let here : c.position < played_len w = unended w (start_of ms mm c) 193 193 (rides w p ms mm c m s ms_in mm_in power on) on in
        let bound : ℕ = 2 * (played_len w - after.core.position) + 1 in
        ⊎_elim
        (λ z. omega (arith, length-append after.events rest, round-few, h, used-up after.core.done (ms - (until_end c ms mm).ms.0) bound z))
        (λ e. omega (arith, length-append after.events rest, e.0, e.1, h, at_most (is_stopped after.core.done (ms - (until_end c ms mm).ms.0)) bound))
        (used-or-ended w (start_of ms mm c) 193 193 (rides w p ms mm c m s ms_in mm_in power on) on p m)

  rounds-few : (n ms mm : ℕ) (c : Core) (m : List ℕ) → Stands ms mm w c → ms ≤ 86400000 → mm ≤ 1000000000 → PowerIn c
      → length (rounds w p n ms mm (riding c m)).events ≤ most (is_stopped c.done ms) (2 * (played_len w - c.position) + 1)
  unfolding rounds
  rounds-few zero ms mm c m s a b power = omega arith
  rounds-few (suc n) ms mm c m s a b power =
      let part : Part = until_end c ms mm in
      at
      (λ e.
      rounds-few n (ms - part.ms.0) (mm - part.mm.0) one.core one.watts (round-stands w p ms mm c m s a b power e) (omega arith) (omega arith)
      (round-power w p ms mm c m s a b power e))
      (is_stopped c.done ms) refl
    where
      one : Rode
      one = round_of w p (until_end c ms mm) (riding c m)

      rest : Rode
      rest = rounds w p n (ms - (until_end c ms mm).ms.0) (mm - (until_end c ms mm).mm.0) (riding_of one)

      at : (is_stopped c.done ms ≡ false → length rest.events ≤ most (is_stopped one.core.done (ms - (until_end c ms mm).ms.0)) (2 * (played_len w - one.core.position) + 1))
          → (t : Bool) → is_stopped c.done ms ≡ t
          → length (cond t (stays (riding c m)) (joined one rest)).events ≤ most t (2 * (played_len w - c.position) + 1)
      at next true e = omega arith
      at next false e = one_more ms mm c m s a b power e rest.events (next e)

-- The calls.

none : (p : Player) → Few p []
none p = record { steps = omega arith; finished = λ _. refl; wanted = omega arith; places = omega arith }

eventless-few : (p : Player) (a : Result ⊤ Refusal) (o : Called) → eventless a p ≡ o → Few p o.events
eventless-few p a o e = subst (λ (o : Called). Few p o.events) e (none p)

called-few : (p : Player) (o o' : Called) → o ≡ o' → Few p o.events → Few p o'.events
called-few p o o' e h = subst (λ (o : Called). Few p o.events) e h

nothing : (es : List Event) → length es ≤ 0 → es ≡ []
nothing [] h = refl
nothing (e ∷ es) h = absurd (omega (arith, h))

-- no more than is wanted
few-wanted : (done : Bool) (bound n : ℕ) → n ≤ bound → (done ≡ true → n ≡ 0) → n ≤ cond done 0 bound
few-wanted true bound n h z = omega (arith, z refl)
few-wanted false bound n h z = h

-- a ride that is taken
rode-few : (p : Player) (c : Core) (ms mm : ℕ) (f : TrainingProfile) (k v : ℕ) → c.position ≡ p.core.position → c.steps ≡ p.core.steps → c.done ≡ p.core.done → PowerIn c
    → Supposes p.workout c ms mm k v → Few p (rounds p.workout f 97 ms mm (riding (totalled ms mm c) p.minute)).events
rode-few p c ms mm f k v at_c steps-c done-c power s =
    let w = p.workout in
    let few : played_len w ≤ 96 = (passes w s.stands.within.valid).most in
    let bound : ℕ = 2 * (played_len w - c.position) + 1 in
    let h = rounds-few w f 97 ms mm (totalled ms mm c) p.minute (totalled-stands w c ms mm s.stands s.total-ms s.total-mm) s.ms_in s.mm_in power in
    let under = at_most (is_stopped c.done ms) bound in
    record {
      steps = omega (arith, h, under, at_c);
      finished = λ d. nothing _ (omega (arith, h, when-done c.done ms bound (done-c ∙ d)));
      wanted =
          few-wanted p.core.done (2 * (p.core.steps - p.core.position) + 1) _ (omega (arith, h, under, at_c, steps-c, s.stands.within.steps))
          (λ d. omega (arith, h, when-done c.done ms bound (done-c ∙ d)));
      places = omega (arith, h, under, few);
    }

module _ (p : Player) (ms mm : ℕ) (f : TrainingProfile) (k v : ℕ) (fits : PlayerFits p) where
  now-few : Supposes p.workout p.core ms mm k v → Few p (ride_now p ms mm f).events
  unfolding ride_now
  now-few s = at (eqb ms 0)
    where
      at : (t : Bool) → Few p (ride_by t p (rounds p.workout f 97 ms mm (riding (totalled ms mm p.core) p.minute))).events
      at true = none p
      at false = rode-few p p.core ms mm f k v refl refl refl fits.power s

  ride-few : Few p (ride_of p ms mm f k v).events
  ride-few = at (standing_of p) refl (profile_ok f) refl (update_answer p.core ms mm k v) refl
    where
      at : (b : Bool) → standing_of p ≡ b → (t : Bool) → profile_ok f ≡ t → (a : Result ⊤ Refusal) → update_answer p.core ms mm k v ≡ a → Few p (ride_of p ms mm f k v).events
      at false e t g a u = eventless-few p _ _ (ride-20 p ms mm f k v e)
      at true e false g a u = eventless-few p _ _ (ride-10 p ms mm f k v e g)
      at true e true g (Err r) u = eventless-few p _ _ (ride-refused p ms mm f k v r e g u)
      at true e true g (Ok tt) u =
          called-few p _ _ (ride-taken p ms mm f k v e g u) (now-few (update-passed p.workout p.core ms mm k v (known p e).core u))

  module _ (sample : Sample) (power : PowerFits sample) where
    add-now-few : cadence_in sample.cadence_tenths ≡ true → Supposes p.workout p.core ms mm k v → Few p (add_now p ms mm sample f).events
    unfolding add_now ride_now read_core taken
    add-now-few c s = at (eqb ms 0)
      where
        at : (t : Bool)
            → Few p (cond t (eventless (Ok tt) p) (ride_by t (with_core (read_core sample p.core) p) (rounds p.workout f 97 ms mm (riding (totalled ms mm (read_core sample p.core)) p.minute)))).events
        at true = none p
        at false = rode-few p (read_core sample p.core) ms mm f k v refl refl refl power (read-supposes p.workout p.core sample ms mm k v s c)

    add-few : Few p (add_of p ms mm sample f k v).events
    add-few = at (standing_of p) refl (profile_ok f) refl (cadence_in sample.cadence_tenths) refl (update_answer p.core ms mm k v) refl
      where
        at : (b : Bool) → standing_of p ≡ b → (t : Bool) → profile_ok f ≡ t → (i : Bool) → cadence_in sample.cadence_tenths ≡ i → (a : Result ⊤ Refusal)
            → update_answer p.core ms mm k v ≡ a → Few p (add_of p ms mm sample f k v).events
        at false e t g i c a u = eventless-few p _ _ (add-20 p ms mm sample f k v e)
        at true e false g i c a u = eventless-few p _ _ (add-10 p ms mm sample f k v e g)
        at true e true g false c a u = eventless-few p _ _ (add-11 p ms mm sample f k v e g c)
        at true e true g true c (Err r) u = eventless-few p _ _ (add-refused p ms mm sample f k v r e g c u)
        at true e true g true c (Ok tt) u =
            called-few p _ _ (add-taken p ms mm sample f k v e g c u) (add-now-few c (update-passed p.workout p.core ms mm k v (known p e).core u))

module _ (p : Player) (k v : ℕ) where
  skip-now-few : standing_of p ≡ true → Few p (skip_now p).events
  unfolding skip_now
  skip-now-few e = at p.core.done refl
    where
      never : false ≡ true → ⊥
      never z = let y : ◌≡◌ {A = ℕ} 0 1 = ap (λ (b : Bool). cond b 1 0) z in omega arith

      at : (t : Bool) → p.core.done ≡ t → Few p (cond t (eventless (Ok tt) p) (skip_to p (next_of p.workout true p.core))).events
      at true d = none p
      at false d =
          let here : p.core.position < played_len p.workout = not-done-below 0 0 p.workout p.core (known p e).core.within d in
          let few : length (next_of p.workout true p.core).events ≤ 2 = next-few p.workout true p.core in
          record {
            steps = omega (arith, few, here);
            finished = λ z. absurd (never (sym d ∙ z));
            wanted =
                few-wanted p.core.done (2 * (p.core.steps - p.core.position) + 1) _ (omega (arith, few, here, (known p e).core.within.steps))
                (λ z. absurd (never (sym d ∙ z)));
            places = omega (arith, few);
          }

  skip-few : Few p (skip_of p k v).events
  skip-few = at (standing_of p) refl (places_ok p.core k v) refl
    where
      at : (b : Bool) → standing_of p ≡ b → (t : Bool) → places_ok p.core k v ≡ t → Few p (skip_of p k v).events
      at false e t g = eventless-few p _ _ (skip-20 p k v e)
      at true e false g = eventless-few p _ _ (skip-14 p k v e g)
      at true e true g = called-few p _ _ (skip-taken p k v e g) (skip-now-few e)

pub few-events : FewEvents
few-events =
    record {
      ride = λ p ms mm f k v fits. ride-few p ms mm f k v fits;
      add = λ p ms mm sample f k v fits power. add-few p ms mm f k v fits sample power;
      skip = skip-few;
    }
