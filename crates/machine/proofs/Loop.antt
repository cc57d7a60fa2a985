-- A round, and the loop of riding, keep the relation: the machine has ridden the same milliseconds.
use Rattle.std.specs.Prelude.{Option, None, Some}
use mathlib.Core.Path.{◌≡◌, refl, sym, ap, ap₂, ◌∙◌, subst}
use mathlib.Core.Logic.{◌⊎◌, inl, inr, ⊎_elim}
use mathlib.Core.Bool.{Bool, true, false, cond, ◌||◌}
use mathlib.Core.List.{List, ◌++◌, append-nil}
use Prim.Native.Nat.{ℕ, zero, suc, ◌+◌, ◌-◌, ◌*◌, ◌≤◌, ◌<◌}
use native.Mathlib.Omega.{arith}
use lib.Dec.{leb, ltb, eqb}
use borrow.Author.Tests.{leb-true, leb-false, ltb-true, ltb-false, ne_eqb}
use Rattle.zones.specs.declared.TrainingProfile.{TrainingProfile}
use Rattle.model.specs.declared.Length.{Length}
use Rattle.model.specs.declared.Length.TheVariants.{Time, Distance, Open}
use Rattle.model.specs.declared.Target.{Target}
use Rattle.model.specs.declared.Target.TheVariants.{Free, Ftp, Watts, HeartZone, Lthr, Cadence, Ramp, FtpRamp}
use Rattle.model.specs.declared.Step.{Step}
use Rattle.model.specs.declared.Workout.{Workout}
use Rattle.model.specs.Target.{ramp_option}
use Rattle.order.specs.Order.{played_len}
use Rattle.events.specs.Events.{Event}
use Rattle.state.specs.declared.Lap.{Lap}
use Rattle.state.specs.declared.Core.{Core}
use Rattle.state.specs.declared.Part.{Part}
use Rattle.state.specs.State.{part, time_share, share_of, until_end}
use Rattle.measure.specs.Measure.{ramp_failed}
use Rattle.step_end.specs.StepEnd.{Outcome, countdowns_of, over_by}
use Rattle.step_end.specs.StepEnd as player
use Rattle.rounds.specs.Rounds.{Riding, riding, Rode, riding_of, advanced, closed_by, closed, accounted, stays, round_of, is_stopped, joined, rounds, compliance_now}
use Rattle.machine.specs.Machine.{Machine, step_at, end_of, ended, milliseconds}
use Rattle.machine.specs.Runs.{Totals}
use Rattle.machine.specs.ThirdDemand.{is_ramp, compared}
use Rattle.machine.proofs.AtOnce.{apart, Before, EndsAt, ridden_by, milliseconds-add, milliseconds-done, milliseconds-within, milliseconds-end}
use Rattle.machine.proofs.Alike.{Riding-on, Now, Alike, Lasting, Plain, tallied-finished, advanced-is, compared-append, countdowns-left, join-events, next-is}

pub cond-true : {A : Type 0} (t : Bool) (x y : A) → t ≡ true → cond t x y ≡ x
cond-true t x y e = rw e refl

pub cond-false : {A : Type 0} (t : Bool) (x y : A) → t ≡ false → cond t x y ≡ y
cond-false t x y e = rw e refl

-- A part at most up to the step's end.
abbrev Upto : Length → ℕ → ℕ → Type 0
Upto (Time secs) extra time = time ≤ end_of secs extra
Upto (Distance metres) extra time = Unit
Upto Open extra time = Unit

-- a target that is no ramp has none to fail
never-failed : (target : Target) (p : TrainingProfile) (ms low : ℕ) → is_ramp target ≡ false → ramp_failed (ramp_option target p) ms low ≡ false
unfolding ramp_option
never-failed Free p ms low f = refl
never-failed (Ftp low' high) p ms low f = refl
never-failed (Watts low' high) p ms low f = refl
never-failed (HeartZone zone) p ms low f = refl
never-failed (Lthr low' high) p ms low f = refl
never-failed (Cadence low' high) p ms low f = refl
never-failed (Ramp start step every) p ms low f = absurd (apart f)
never-failed (FtpRamp start step every) p ms low f = absurd (apart f)

-- What `until_end` gives: some time, at most what is asked and what is left, and less than what is asked only to the step's end.
pub record Share (l : Length) (extra time ms a : ℕ) : Type 0 where
  pub some_time : 0 < a
  pub at_most : a ≤ ms
  pub upto : Upto l extra (time + a)
  pub or-ends : (a ≡ ms) ⊎ EndsAt l extra (time + a)

time-share : (t : Bool) (secs extra time n mm : ℕ) → ltb ((secs + extra) * 1000 - time) (suc n) ≡ t → time < end_of secs extra
    → Share (Time secs) extra time (suc n) (time_share ((secs + extra) * 1000 - time) (suc n) mm).ms.0
time-share true secs extra time n mm e h =
    let lt : (secs + extra) * 1000 - time < suc n = ltb-true ((secs + extra) * 1000 - time) (suc n) e in
    rw e (record { some_time = omega arith; at_most = omega arith; upto = omega arith; or-ends = inr (omega arith) })
time-share false secs extra time n mm e h =
    let le : suc n ≤ (secs + extra) * 1000 - time = ltb-false ((secs + extra) * 1000 - time) (suc n) e in
    rw e (record { some_time = omega arith; at_most = omega arith; upto = omega arith; or-ends = inl refl })

share-is : (l : Length) (lap : Lap) (extra time n mm : ℕ) → Lasting l → lap.extra_s ≡ extra → lap.step_ms ≡ time → Before l extra time
    → Share l extra time (suc n) (share_of l lap (suc n) mm).ms.0
unfolding share_of
share-is (Time secs) lap extra time n mm y e f h = rw (e, f) (time-share (ltb ((secs + extra) * 1000 - time) (suc n)) secs extra time n mm refl h)
share-is (Distance metres) lap extra time n mm y e f h = absurd y
share-is Open lap extra time n mm y e f h = record { some_time = omega arith; at_most = omega arith; upto = tt; or-ends = inl refl }

or_left : (c e : Bool) → c ≡ true → (c || e) ≡ true
or_left c e h = rw h refl

or_right : (c e : Bool) → e ≡ true → (c || e) ≡ true
or_right true e h = refl
or_right false e h = h

or-neither : (c e : Bool) → c ≡ false → e ≡ false → (c || e) ≡ false
or-neither c e h g = rw (h, g) refl

module _ (w : Workout) (each : (i : ℕ) (s : Step) → step_at w i ≡ Some s → Plain s) (p : TrainingProfile) (b : Totals) where
  -- What was ridden keeps the relation, its events joined to those before.
  abbrev Kept : List Event → Rode → Machine → Type 0
  Kept k r m = Alike w b (k ++ compared r.events) (riding_of r) m

  kept_by : (k : List Event) {r r' : Rode} {m m' : Machine} → r ≡ r' → m ≡ m' → Kept k r' m' → Kept k r m
  kept_by k {r} {r'} {m} {m'} e f R = subst (λ (x : Rode). Kept k x m) (sym e) (subst (λ (x : Machine). Kept k r' x) (sym f) R)

  now-at : (k : List Event) (s : Step) (x : Riding) (m : Machine) → Alike w b k x m → step_at w m.step.position ≡ Some s → Riding-on s x.core m
  now-at k s x m R e = subst (λ (o : Option Step). Now o x.core m) e R.now

  -- the player's own part, but that it has some time
  abbrev account : ℕ → ℕ → Riding → Rode
  account n d x = accounted w p x.core.lap.step_ms (advanced w.test p n d x)

  -- the countdowns count for nothing
  account-kept : (k : List Event) (before : ℕ) (x : Riding) (o : Outcome) (m : Machine) → closed w p x.core ≡ o
      → Alike w b (k ++ compared o.events) (riding o.core x.watts) m → Kept k (accounted w p before x) m
  account-kept k before x o m e R =
      let counts : List Event = countdowns_of x.core.on.length x.core.lap before in
      let quiet : (es : List Event) → compared (counts ++ es) ≡ compared es =
      λ es. compared-append counts es ∙ ap (λ (l : List Event). l ++ compared es) (countdowns-left x.core.on.length x.core.lap before) in
      subst (λ (y : Outcome). Alike w b (k ++ compared (counts ++ y.events)) (riding y.core x.watts) m) (sym e)
      (subst (λ (l : List Event). Alike w b (k ++ l) (riding o.core x.watts) m) (sym (quiet o.events)) R)

  closed-by : (t : Bool) (c : Core) → player.is_over p c ≡ t → closed w p c ≡ closed_by t w c
  unfolding closed
  closed-by t c e = ap (λ (x : Bool). closed_by x w c) e

  module _ (k : List Event) (s : Step) (g : Plain s) (x : Riding) (m : Machine) (R : Alike w b k x m) (e : step_at w m.step.position ≡ Some s) where
    abbrev on-now : Riding-on s x.core m
    on-now = now-at k s x m R e

    -- within the step
    within : (n d : ℕ) → player.is_over p (advanced w.test p n d x).core ≡ false → Before s.length m.step.extra (m.step.time + n)
        → Kept k (account n d x) (milliseconds w p n m)
    unfolding advanced ridden_by compared
    within n d over h =
        subst (λ (y : Machine). Kept k (account n d x) y)
        (sym (milliseconds-within w p s g.flat n m R.matches.measured.small e h))
        (account-kept k x.core.lap.step_ms (advanced w.test p n d x) _ (ridden_by w p s n m) (closed-by false (advanced w.test p n d x).core over)
        (subst (λ (l : List Event). Alike w b l (advanced w.test p n d x) (ridden_by w p s n m)) (sym (append-nil k))
        (record {
          matches = advanced-is w b k s x m R.matches on-now.on p n d g.zoned;
          now =
              subst (λ (o : Option Step). Now o (advanced w.test p n d x).core (ridden_by w p s n m)) (sym e)
              (record {
                done = on-now.done;
                finished = tallied-finished (compliance_now p x.core) n x.core.summary ∙ on-now.finished;
                on = record { length = on-now.on.length; target = on-now.on.target; intensity = on-now.on.intensity };
                before = h;
              });
        })))

    -- to its end
    to_end : (n d : ℕ) → player.is_over p (advanced w.test p (suc n) d x).core ≡ true → EndsAt s.length m.step.extra (m.step.time + suc n)
        → Kept k (account (suc n) d x) (milliseconds w p (suc n) m)
    unfolding advanced
    to_end n d over h =
        subst (λ (y : Machine). Kept k (account (suc n) d x) y)
        (sym (milliseconds-end w p s g.flat n m R.matches.measured.small e h))
        (account-kept k x.core.lap.step_ms (advanced w.test p (suc n) d x) _ (ended w s false (ridden_by w p s (suc n) m))
        (closed-by true (advanced w.test p (suc n) d x).core over)
        (next-is w each b k s false (advanced w.test p (suc n) d x) (ridden_by w p s (suc n) m)
        (advanced-is w b k s x m R.matches on-now.on p (suc n) d g.zoned)
        (record { length = on-now.on.length; target = on-now.on.target; intensity = on-now.on.intensity })))

    over-is : (n d : ℕ) (l : Length) (t : Bool) → s.length ≡ l → over_by l p (advanced w.test p n d x).core ≡ t
        → player.is_over p (advanced w.test p n d x).core ≡ t
    unfolding player.is_over advanced
    over-is n d l t f h = ap (λ (y : Length). over_by y p (advanced w.test p n d x).core) (on-now.on.length ∙ f) ∙ h

    timed : (t : Bool) (secs n d : ℕ) → s.length ≡ Time secs → m.step.time + suc n ≤ end_of secs m.step.extra
        → leb ((secs + x.core.lap.extra_s) * 1000) (x.core.lap.step_ms + suc n) ≡ t → Kept k (account (suc n) d x) (milliseconds w p (suc n) m)
    unfolding advanced
    timed true secs n d f h c =
        let z : m.step.time + suc n ≡ end_of secs m.step.extra =
        omega (arith, leb-true ((secs + x.core.lap.extra_s) * 1000) (x.core.lap.step_ms + suc n) c, R.matches.extra, R.matches.time) in
        to_end n d (over-is (suc n) d (Time secs) true f c) (rw f z)
    timed false secs n d f h c =
        let z : m.step.time + suc n < end_of secs m.step.extra =
        omega (arith, leb-false ((secs + x.core.lap.extra_s) * 1000) (x.core.lap.step_ms + suc n) c, R.matches.extra, R.matches.time) in
        within (suc n) d (over-is (suc n) d (Time secs) false f c) (rw f z)

    part_by : (l : Length) (n d : ℕ) → s.length ≡ l → Lasting l → Upto l m.step.extra (m.step.time + suc n) → Kept k (account (suc n) d x) (milliseconds w p (suc n) m)
    unfolding advanced
    part_by (Time secs) n d f y h = timed (leb ((secs + x.core.lap.extra_s) * 1000) (x.core.lap.step_ms + suc n)) secs n d f h refl
    part_by (Distance metres) n d f y h = absurd y
    part_by Open n d f y h =
        within (suc n) d
        (over-is (suc n) d Open false f
        (ap (λ (target : Target). ramp_failed (ramp_option target p) (advanced w.test p (suc n) d x).core.lap.step_ms (advanced w.test p (suc n) d x).core.measured.ramp_low_ms) on-now.on.target
        ∙ never-failed s.target p _ _ g.flat))
        (rw f tt)

    part-is : (a d : ℕ) → 0 < a → Upto s.length m.step.extra (m.step.time + a) → Kept k (account a d x) (milliseconds w p a m)
    part-is zero d z h = absurd (omega (arith, z))
    part-is (suc n) d z h = part_by s.length n d refl g.lasting h

    until-is : (n mm : ℕ) → Share s.length m.step.extra m.step.time (suc n) (until_end x.core (suc n) mm).ms.0
    unfolding until_end
    until-is n mm =
        subst (λ (y : Part). Share s.length m.step.extra m.step.time (suc n) y.ms.0)
        (sym (ap₂ (λ (done : Bool) (l : Length). cond done (part (suc n) mm) (share_of l x.core.lap (suc n) mm)) on-now.done on-now.on.length))
        (share-is s.length x.core.lap m.step.extra m.step.time n mm g.lasting R.matches.extra R.matches.time on-now.before)

    -- a part to the step's end brings the next position
    moved : (a : ℕ) → 0 < a → EndsAt s.length m.step.extra (m.step.time + a) → (milliseconds w p a m).step.position ≡ m.step.position + 1
    unfolding ended ridden_by
    moved zero z h = absurd (omega (arith, z))
    moved (suc n) z h = ap (λ (y : Machine). y.step.position) (milliseconds-end w p s g.flat n m R.matches.measured.small e h)

  round_is : (q : Part) (x : Riding) → 0 < q.ms.0 → round_of w p q x ≡ account q.ms.0 q.mm.0 x
  unfolding round_of
  round_is q x h = cond-false (eqb q.ms.0 0) (stays x) (account q.ms.0 q.mm.0 x) (ne_eqb q.ms.0 0 (λ z. omega arith))

  rounds-stop : (n ms mm : ℕ) (x : Riding) → is_stopped x.core.done ms ≡ true → rounds w p n ms mm x ≡ stays x
  unfolding rounds
  rounds-stop zero ms mm x e = refl
  rounds-stop (suc n) ms mm x e = cond-true (is_stopped x.core.done ms) (stays x) _ e

  rounds-next : (n ms mm : ℕ) (x : Riding) → is_stopped x.core.done ms ≡ false → 0 < (until_end x.core ms mm).ms.0
      → rounds w p (suc n) ms mm x
      ≡ joined (account (until_end x.core ms mm).ms.0 (until_end x.core ms mm).mm.0 x) (rounds w p n (ms - (until_end x.core ms mm).ms.0) (mm - (until_end x.core ms mm).mm.0) (riding_of (account (until_end x.core ms mm).ms.0 (until_end x.core ms mm).mm.0 x)))
  unfolding rounds
  rounds-next n ms mm x e h =
      cond-false (is_stopped x.core.done ms) (stays x) _ e
      ∙ ap (λ (o : Rode). joined o (rounds w p n (ms - (until_end x.core ms mm).ms.0) (mm - (until_end x.core ms mm).mm.0) (riding_of o)))
      (round_is (until_end x.core ms mm) x h)

  stopped : (n ms mm : ℕ) (k : List Event) (x : Riding) (m : Machine) → Alike w b k x m → rounds w p n ms mm x ≡ stays x → milliseconds w p ms m ≡ m
      → Kept k (rounds w p n ms mm x) (milliseconds w p ms m)
  unfolding compared
  stopped n ms mm k x m R e f = kept_by k e f (subst (λ (l : List Event). Alike w b l x m) (sym (append-nil k)) R)

  -- Rounds enough for the steps that are left.
  module _ (past : (i : ℕ) → played_len w ≤ i → step_at w i ≡ None) where
    abbrev Enough : ℕ → ℕ → Machine → Type 0
    Enough n ms m = (ms ≡ 0) ⊎ (played_len w < m.step.position + n)

    abbrev Loop : ℕ → Type 0
    Loop n = (ms mm : ℕ) (k : List Event) (x : Riding) (m : Machine) → Alike w b k x m → Enough n ms m → Kept k (rounds w p n ms mm x) (milliseconds w p ms m)

    loop-step : (s : Step) (n left mm : ℕ) → Loop n → (k : List Event) (x : Riding) (m : Machine) → Alike w b k x m → step_at w m.step.position ≡ Some s
        → Enough (suc n) (suc left) m → Kept k (rounds w p (suc n) (suc left) mm x) (milliseconds w p (suc left) m)
    loop-step s n left mm ih k x m R e h =
        let g : Plain s = each m.step.position s e in
        let a : ℕ = (until_end x.core (suc left) mm).ms.0 in
        let d : ℕ = (until_end x.core (suc left) mm).mm.0 in
        let S : Share s.length m.step.extra m.step.time (suc left) a = until-is k s g x m R e left mm in
        let one : Rode = account a d x in
        let rest : Rode = rounds w p n (suc left - a) (mm - d) (riding_of one) in
        let R1 : Kept k one (milliseconds w p a m) = part-is k s g x m R e a d S.some_time S.upto in
        let v : Enough n (suc left - a) (milliseconds w p a m) =
        ⊎_elim (λ (q : a ≡ suc left). inl (omega arith))
        (λ (z : EndsAt s.length m.step.extra (m.step.time + a)).
        let u : (milliseconds w p a m).step.position ≡ m.step.position + 1 = moved k s g x m R e a S.some_time z in
        ⊎_elim (λ (q : suc left ≡ 0). absurd (omega arith)) (λ (q : played_len w < m.step.position + suc n). inr (omega arith)) h) S.or-ends in
        let on : is_stopped x.core.done (suc left) ≡ false =
        or-neither x.core.done (eqb (suc left) 0) (now-at k s x m R e).done (ne_eqb (suc left) 0 (λ q. omega arith)) in
        let q : rounds w p (suc n) (suc left) mm x ≡ joined one rest = rounds-next n (suc left) mm x on S.some_time in
        let t : a + (suc left - a) ≡ suc left = omega (arith, S.at_most) in
        let R2 : Kept (k ++ compared one.events) rest (milliseconds w p (suc left - a) (milliseconds w p a m)) =
        ih (suc left - a) (mm - d) (k ++ compared one.events) (riding_of one) (milliseconds w p a m) R1 v in
        kept_by k q (ap (λ (y : ℕ). milliseconds w p y m) (sym t) ∙ milliseconds-add w p a (suc left - a) m)
        (subst (λ (l : List Event). Alike w b l (riding_of rest) (milliseconds w p (suc left - a) (milliseconds w p a m))) (join-events k one.events rest.events) R2)

    loop-by : (o : Option Step) (n ms mm : ℕ) → ((i : ℕ) → n ≡ suc i → Loop i) → (k : List Event) (x : Riding) (m : Machine) → Alike w b k x m
        → step_at w m.step.position ≡ o → Enough n ms m → Kept k (rounds w p n ms mm x) (milliseconds w p ms m)
    loop-by None n ms mm ih k x m R e h =
        let now : Now None x.core m = subst (λ (o : Option Step). Now o x.core m) e R.now in
        stopped n ms mm k x m R (rounds-stop n ms mm x (or_left x.core.done (eqb ms 0) now.0)) (milliseconds-done w p ms m e)
    loop-by (Some s) n zero mm ih k x m R e h =
        stopped n 0 mm k x m R (rounds-stop n 0 mm x (or_right x.core.done (eqb 0 0) refl)) (unfold milliseconds in refl)
    loop-by (Some s) zero (suc left) mm ih k x m R e h =
        ⊎_elim (λ (q : suc left ≡ 0). absurd (omega arith))
        (λ (q : played_len w < m.step.position + 0). absurd (clash (sym e ∙ past m.step.position (omega arith)))) h
      where
        clash : Some s ≡ None → ⊥
        clash c = let z : ◌≡◌ {A = ℕ} 0 1 = cc in omega arith
    loop-by (Some s) (suc n) (suc left) mm ih k x m R e h = loop-step s n left mm (ih n refl) k x m R e h

    loop-all : (n : ℕ) → Loop n
    loop-all zero ms mm k x m R h = loop-by (step_at w m.step.position) zero ms mm (λ i q. absurd (omega arith)) k x m R refl h
    loop-all (suc n) ms mm k x m R h =
        loop-by (step_at w m.step.position) (suc n) ms mm (λ i q. subst Loop (before q) (loop-all n)) k x m R refl h
      where
        before : {i : ℕ} → suc n ≡ suc i → n ≡ i
        before z = omega arith

    pub loop-is : (n ms mm : ℕ) (k : List Event) (x : Riding) (m : Machine) → Alike w b k x m → played_len w < m.step.position + n
        → Alike w b (k ++ compared (rounds w p n ms mm x).events) (riding_of (rounds w p n ms mm x)) (milliseconds w p ms m)
    loop-is n ms mm k x m R h = loop-all n ms mm k x m R (inr h)
