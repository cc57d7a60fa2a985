-- The loop: what is known after each of its rounds.
use Rattle.std.specs.Prelude.{is_some}
use mathlib.Core.Path.{◌≡◌, refl, sym, ap, subst, ◌∙◌}
use mathlib.Core.Logic.{◌⊎◌, inl, inr, ⊎_elim}
use mathlib.Core.Bool.{Bool, true, false, cond}
use mathlib.Core.List.{List, [], ◌∷◌, ◌++◌, append-nil, append_assoc}
use Prim.Native.Nat.{ℕ, zero, suc, ◌+◌, ◌-◌, ◌*◌, ◌≤◌, ◌<◌}
use native.Mathlib.Omega.{arith}
use lib.Dec.{leb}
use lib.ListN.{length, length-append}
use borrow.Author.Tests.{eq-eqb}
use Rattle.zones.specs.declared.TrainingProfile.{TrainingProfile}
use Rattle.model.specs.declared.Workout.{Workout}
use Rattle.order.specs.Order.{played_len, played_of}
use Rattle.events.specs.Events.{Event, Wrote, ftp}
use Rattle.events.proofs.Laws.{wrote_none, wrote_then, one_at_most}
use Rattle.power.specs.Power.{or_zero}
use Rattle.state.specs.declared.Core.{Core}
use Rattle.state.specs.State.{SmallEnergy, until_end}
use Rattle.measure.specs.Measure.{result_of}
use Rattle.step_end.specs.StepEnd.{Outcome, is_over, next_of, arrived, ftp_events, after_event}
use Rattle.standing.specs.Facts.{Stands}
use Rattle.rounds.specs.declared.Ride.{Ride}
use Rattle.rounds.specs.Rounds.{Riding, riding, Rode, riding_of, advanced, closed, closed_by, accounted, stays, round_of, rounds, is_stopped, joined}
use Rattle.rounds.specs.Contracted.{Rides, Round, Ridden, part_of}
use Rattle.rounds.proofs.Parts.{reached-over, over-silent}
use Rattle.rounds.proofs.Keeps.{meter-keeps, closed-stands}
use Rattle.rounds.proofs.One.{going, unended, the-part, extra-s, extra-m, ridden-within, round_is}

-- a step's end gives at most two events
pub next-few : (w : Workout) (skipped : Bool) (c : Core) → length (next_of w skipped c).events ≤ 2
unfolding next_of
next-few w skipped c =
    let result = result_of w.test c.on c.lap skipped c.measured in
    omega (arith, length-append (ftp_events result) (after_event (is_some (played_of w (c.position + 1))) (c.position + 1) ∷ []), one_at_most (is_some result) (ftp (or_zero result)))

pub next-position : (w : Workout) (skipped : Bool) (c : Core) → (next_of w skipped c).core.position ≡ c.position + 1
unfolding next_of arrived
next-position w skipped c = refl

pub closed-over : (w : Workout) (p : TrainingProfile) (c : Core) → is_over p c ≡ true → closed w p c ≡ next_of w false c
unfolding closed
closed-over w p c o = ap (λ (b : Bool). closed_by b w c) o

module _ (w : Workout) (s : Ride) (ks vs : ℕ) (r : Rides w s ks vs) (on : is_stopped s.core.done s.ms.0 ≡ false) (p : TrainingProfile) (m : List ℕ) where
  abbrev after : Rode
  after = round_of w p (part_of s) (riding s.core m)

  abbrev ridden : Riding
  ridden = advanced w.test p (part_of s).ms.0 (part_of s).mm.0 (riding s.core m)

  -- a round uses the update up, or ends a step with two events at most
  pub used-or-ended : (s.ms.0 - (part_of s).ms.0 ≡ 0) ⊎ ((length after.events ≤ 2) × (after.core.position ≡ s.core.position + 1))
  unfolding advanced
  used-or-ended = ⊎_elim (λ e. inl (omega arith)) (λ h. inr (ended (reached-over p ridden.core h))) (the-part w s ks vs r on).ends
    where
      is : after ≡ accounted w p s.core.lap.step_ms ridden
      is = round_is w s ks vs r on p m

      ended : is_over p ridden.core ≡ true → (length after.events ≤ 2) × (after.core.position ≡ s.core.position + 1)
      ended o =
          let over : closed w p ridden.core ≡ next_of w false ridden.core = closed-over w p ridden.core o in
          let few : length (next_of w false ridden.core).events ≤ 2 = next-few w false ridden.core in (
            rw is
                (rw (over-silent p ridden.core s.core.lap.step_ms o, over) few),
            ap (λ (k : Rode). k.core.position) is ∙ ap (λ (k : Outcome). k.core.position) over ∙ next-position w false ridden.core,
          )

  pub minute-kept : length after.watts ≡ length m
  unfolding advanced
  minute-kept =
      ap (λ (k : Rode). length k.watts) (round_is w s ks vs r on p m)
      ∙ (meter-keeps w.test p (part_of s).ms.0 (part_of s).mm.0 (riding s.core m) s.ms.0 s.mm.0 w r.stands.within).places

  pub one_part : after.parts ≡ 1
  one_part = ap (λ (k : Rode). k.parts) (round_is w s ks vs r on p m)

  after-core : after.core ≡ (closed w p ridden.core).core
  after-core = ap (λ (k : Rode). k.core) (round_is w s ks vs r on p m)

  -- a round keeps standing
  pub after-stands : SmallEnergy ridden.core.measured
      → Stands (s.ms.0 - (part_of s).ms.0) (s.mm.0 - (part_of s).mm.0) w after.core
  unfolding advanced
  after-stands e =
      subst (λ (k : Core). Stands (s.ms.0 - (part_of s).ms.0) (s.mm.0 - (part_of s).mm.0) w k) (sym after-core)
      (closed-stands (s.ms.0 - (part_of s).ms.0) (s.mm.0 - (part_of s).mm.0) w p ridden.core
      (ridden-within w s ks vs r on p m e) still es em)
    where
      still : ridden.core.done ≡ false
      still = going w s ks vs r on

      es : leb ridden.core.lap.extra_s 86400 ≡ true
      es = extra-s w s ks vs r on

      em : leb ridden.core.lap.extra_m 1000000 ≡ true
      em = extra-m w s ks vs r on

  -- and what the next round supposes
  pub rides-after : (q : Ride) {m' kl vl kl' vl' : List ℕ} → s.parts < 97 → Round w p m m' kl vl kl' vl' s q → Rides w q ks vs
  rides-after q few o =
      let core_is : q.core ≡ after.core = ap (λ (k : Riding). k.core) o.riding_is in
      record {
        stands =
            subst (λ (k : Core). Stands q.ms.0 q.mm.0 w k) (sym core_is)
            (subst (λ (n : ℕ). Stands n q.mm.0 w after.core) (sym o.ms)
            (subst (λ (n : ℕ). Stands (s.ms.0 - (part_of s).ms.0) n w after.core) (sym o.mm)
            (after-stands o.energy)));
        ms = omega (arith, o.ms, r.ms);
        mm = omega (arith, o.mm, r.mm);
        parts = omega (arith, o.parts, one_part);
        kinds = λ g. room ks g (r.kinds on);
        values = λ g. room vs g (r.values on);
      }
    where
      stopped : (done : Bool) (n : ℕ) → n ≡ 0 → is_stopped done n ≡ true
      stopped true n e = refl
      stopped false n e = eq-eqb n 0 e

      never : true ≡ false → ⊥
      never e = let z : ◌≡◌ {A = ℕ} 1 0 = ap (λ (b : Bool). cond b 1 0) e in omega arith

      room : (n : ℕ) → is_stopped q.core.done q.ms.0 ≡ false → s.count + 2 * (played_len w - s.core.position) + 1 ≤ n
          → q.count + 2 * (played_len w - q.core.position) + 1 ≤ n
      room n g h =
          ⊎_elim (λ z. absurd (never (sym (stopped q.core.done q.ms.0 (o.ms ∙ z)) ∙ g)))
          (λ e. omega (arith, e.0, e.1, ap (λ (k : Riding). k.core.position) o.riding_is, o.wrote.count, unended w s ks vs r on))
          used-or-ended

-- the arrays keep their lengths
pub rides-sized : (w : Workout) (s : Ride) {k k' v v' : ℕ} → k' ≡ k → v' ≡ v → Rides w s k v → Rides w s k' v'
rides-sized w s {k} {k'} {v} {v'} e f r =
    subst (λ (n : ℕ). Rides w s n v') (sym e) (subst (λ (n : ℕ). Rides w s k n) (sym f) r)

module _ (w : Workout) (p : TrainingProfile) where
  -- a stopped ride stays
  rounds-stop : (n ms mm : ℕ) (s : Riding) → is_stopped s.core.done ms ≡ true → rounds w p n ms mm s ≡ stays s
  unfolding rounds
  rounds-stop zero ms mm s e = refl
  rounds-stop (suc n) ms mm s e =
      ap (λ (b : Bool). cond b (stays s) (joined (round_of w p (until_end s.core ms mm) s) (rounds w p n (ms - (until_end s.core ms mm).ms.0) (mm - (until_end s.core ms mm).mm.0) (riding_of (round_of w p (until_end s.core ms mm) s))))) e

  -- one round of several
  rounds-next : (n ms mm : ℕ) (s : Riding) → is_stopped s.core.done ms ≡ false
      → rounds w p (suc n) ms mm s
      ≡ joined (round_of w p (until_end s.core ms mm) s) (rounds w p n (ms - (until_end s.core ms mm).ms.0) (mm - (until_end s.core ms mm).mm.0) (riding_of (round_of w p (until_end s.core ms mm) s)))
  unfolding rounds
  rounds-next n ms mm s e =
      ap (λ (b : Bool). cond b (stays s) (joined (round_of w p (until_end s.core ms mm) s) (rounds w p n (ms - (until_end s.core ms mm).ms.0) (mm - (until_end s.core ms mm).mm.0) (riding_of (round_of w p (until_end s.core ms mm) s))))) e

  rounds-none : (n ms mm : ℕ) (s : Riding) → n ≡ 0 → rounds w p n ms mm s ≡ stays s
  unfolding rounds
  rounds-none n ms mm s e = ap (λ (k : ℕ). rounds w p k ms mm s) e

  -- What is known after i rounds: the events so far, and that the rest of the loop gives what is left.
  pub record At (m ks vs : List ℕ) (start : Ride) (i : ℕ) (m' ks' vs' : List ℕ) (s : Ride) : Type 0 where
    pub so_far : List Event
    pub wrote : Wrote ks vs start.count ks' vs' s.count so_far
    pub rides : Rides w s (length ks) (length vs)
    pub none : start.count ≡ 0
    pub parts : s.parts ≤ i
    pub minute : length m' ≡ 60
    pub riding_is : riding_of (rounds w p (97 - i) s.ms.0 s.mm.0 (riding s.core m')) ≡ riding_of (rounds w p 97 start.ms.0 start.mm.0 (riding start.core m))
    pub events-are : so_far ++ (rounds w p (97 - i) s.ms.0 s.mm.0 (riding s.core m')).events ≡ (rounds w p 97 start.ms.0 start.mm.0 (riding start.core m)).events
    pub parts_are : s.parts + (rounds w p (97 - i) s.ms.0 s.mm.0 (riding s.core m')).parts ≡ start.parts + (rounds w p 97 start.ms.0 start.mm.0 (riding start.core m)).parts

  pub at-start : (m ks vs : List ℕ) (start : Ride) → Rides w start (length ks) (length vs) → length m ≡ 60 → start.count ≡ 0 → start.parts ≡ 0
      → At m ks vs start 0 m ks vs start
  at-start m ks vs start r l n z =
      record {
        so_far = [];
        wrote = wrote_none ks vs start.count;
        rides = r;
        none = n;
        parts = omega arith;
        minute = l;
        riding_is = refl;
        events-are = refl;
        parts_are = refl;
      }

  -- the loop ends with what is left being nothing
  done-with : {m ks vs m' ks' vs' : List ℕ} {start s : Ride} (i : ℕ) → At m ks vs start i m' ks' vs' s
      → rounds w p (97 - i) s.ms.0 s.mm.0 (riding s.core m') ≡ stays (riding s.core m') → Ridden w p m m' ks vs ks' vs' start s
  done-with {ks = ks} {vs = vs} {ks' = ks'} {vs' = vs'} {start = start} {s = s} i a e =
      record {
        riding_is = sym (ap riding_of e) ∙ a.riding_is;
        parts = omega (arith, a.parts_are, ap (λ (k : Rode). k.parts) e);
        wrote =
            subst (λ (es : List Event). Wrote ks vs start.count ks' vs' s.count es)
            (sym (append-nil a.so_far) ∙ sym (ap (λ (k : Rode). a.so_far ++ k.events) e) ∙ a.events-are) a.wrote;
        sixty = a.minute;
      }

  pub at-stopped : {m ks vs m' ks' vs' : List ℕ} {start s : Ride} (i : ℕ) → At m ks vs start i m' ks' vs' s
      → is_stopped s.core.done s.ms.0 ≡ true → Ridden w p m m' ks vs ks' vs' start s
  at-stopped {m' = m'} {s = s} i a e = done-with i a (rounds-stop (97 - i) s.ms.0 s.mm.0 (riding s.core m') e)

  pub at-end : {m ks vs m' ks' vs' : List ℕ} {start s : Ride} (i : ℕ) → At m ks vs start i m' ks' vs' s → 97 ≤ i → Ridden w p m m' ks vs ks' vs' start s
  at-end {m' = m'} {s = s} i a h = done-with i a (rounds-none (97 - i) s.ms.0 s.mm.0 (riding s.core m') (omega arith))

  pub at_next : {m ks vs m' ks' vs' m'' ks'' vs'' : List ℕ} {start s : Ride} (q : Ride) (i : ℕ) → At m ks vs start i m' ks' vs' s
      → is_stopped s.core.done s.ms.0 ≡ false → i < 97 → Round w p m' m'' ks' vs' ks'' vs'' s q → At m ks vs start (i + 1) m'' ks'' vs'' q
  at_next {ks = ks} {vs = vs} {m' = m'} {m'' = m''} {start = start} {s = s} q i a on h o =
      let n : ℕ = 97 - (i + 1) in
      let one : Rode = round_of w p (part_of s) (riding s.core m') in
      let rest : Rode = rounds w p n (s.ms.0 - (part_of s).ms.0) (s.mm.0 - (part_of s).mm.0) (riding_of one) in
      let left : 97 - i ≡ suc n = omega arith in
      let step : rounds w p (97 - i) s.ms.0 s.mm.0 (riding s.core m') ≡ joined one rest =
      ap (λ (k : ℕ). rounds w p k s.ms.0 s.mm.0 (riding s.core m')) left ∙ rounds-next n s.ms.0 s.mm.0 (riding s.core m') on in
      let same : rounds w p n q.ms.0 q.mm.0 (riding q.core m'') ≡ rest =
      ap (λ (k : ℕ). rounds w p n k q.mm.0 (riding q.core m'')) o.ms
      ∙ ap (λ (k : ℕ). rounds w p n (s.ms.0 - (part_of s).ms.0) k (riding q.core m'')) o.mm
      ∙ ap (rounds w p n (s.ms.0 - (part_of s).ms.0) (s.mm.0 - (part_of s).mm.0)) o.riding_is in
      record {
        so_far = a.so_far ++ one.events;
        wrote = wrote_then (omega (arith, a.none)) (omega (arith, a.none)) a.wrote o.wrote;
        rides = rides-after w s (length ks) (length vs) a.rides on p m' q (omega (arith, a.parts)) o;
        none = a.none;
        parts = omega (arith, a.parts, o.parts, one_part w s (length ks) (length vs) a.rides on p m');
        minute =
            ap (λ (k : Riding). length k.watts) o.riding_is ∙ minute-kept w s (length ks) (length vs) a.rides on p m' ∙ a.minute;
        riding_is = ap riding_of same ∙ sym (ap riding_of step) ∙ a.riding_is;
        events-are =
            append_assoc a.so_far one.events (rounds w p n q.ms.0 q.mm.0 (riding q.core m'')).events
            ∙ ap (λ (k : Rode). a.so_far ++ (one.events ++ k.events)) same
            ∙ sym (ap (λ (k : Rode). a.so_far ++ k.events) step)
            ∙ a.events-are;
        parts_are = omega (arith, o.parts, ap (λ (k : Rode). k.parts) same, ap (λ (k : Rode). k.parts) step, a.parts_are);
      }
