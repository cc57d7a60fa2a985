-- An act is the call that it stands for, kind by kind, and the player after it stands.
use Rattle.std.specs.Prelude.{Err, Ok, Result, ⊤}
use mathlib.Core.Path.{◌≡◌, refl, sym, ap, subst, ◌∙◌}
use mathlib.Core.Bool.{Bool, true, false, cond}
use mathlib.Core.List.{List, []}
use Prim.Native.Nat.{ℕ, ◌+◌}
use lib.Dec.{leb}
use lib.ListN.{length}
use native.Mathlib.Omega.{arith}
use Rattle.refusal.specs.declared.Refusal.{Refusal}
use Rattle.refusal.specs.declared.Refusal.TheVariants as refusals
use Rattle.refusal.specs.Number.{ask}
use Rattle.zones.specs.declared.TrainingProfile.{TrainingProfile}
use Rattle.zones.specs.Zones.{profile_ok}
use Rattle.model.specs.declared.Length.{Length}
use Rattle.model.specs.declared.Length.TheVariants.{Time, Distance, Open}
use Rattle.model.specs.declared.Workout.{Workout}
use Rattle.readings.specs.declared.Sample.{Sample}
use Rattle.events.proofs.Laws.{wrote_none}
use Rattle.state.specs.declared.Core.{Core}
use Rattle.state.specs.declared.StepNow.{StepNow}
use Rattle.state.specs.declared.Player.{Player}
use Rattle.state.specs.State.{read_core}
use Rattle.step_end.specs.StepEnd.{NextFits, Moves, next_of}
use Rattle.step_end.specs.declared.Moved.{Moved}
use Rattle.rounds.specs.declared.Ride.{Ride}
use Rattle.rounds.specs.Rounds.{riding}
use Rattle.rounds.specs.Contracted.{Ridden}
use Rattle.rounds.proofs.One.{next_fits}
use Rattle.standing.specs.Standing.{standing_of, cadence_in}
use Rattle.standing.proofs.Known.{known}
use Rattle.outcomes.specs.Outcomes.{Called, ExtraFits, eventless, player_of, not_extended, longer_core, not_longer, extend_core, extended_by, extend_by}
use Rattle.updates.specs.Updates.{begun, skip_to, skip_now}
use Rattle.updates.proofs.Laws.{ride-idle, ride-made}
use Rattle.player.specs.Calls.{default_s, default_m, read_by, read_answer, read_of, update_answer, extend_now, extend_with}
use Rattle.player.proofs.Laws.{ride-refused, ride-taken, skip-taken, extra-fits}
use Rattle.keeps.specs.Keeps.{PowerFits, PlayerFits}
use Rattle.keeps.proofs.Fresh.{keeps-standing}
use Rattle.keeps.proofs.Places.{passes-193}
use Rattle.machine.specs.Cutting.{read, ride, skip, extend}
use Rattle.machine.specs.Runs.{of_read, of_extend, called}
use Rattle.sheet.specs.declared.Act.{Act}
use Rattle.sheet.specs.declared.Act.TheVariants.{Profile, Read, Skip, ExtendLong, Extend}
use Rattle.sheet.specs.declared.Act.TheVariants as acts
use Rattle.replay.specs.declared.Acted.{Acted}
use Rattle.replay.specs.Acts.{long_s, long_m, act_called, Ready, Acts, is_quiet, eventless_act, skip_outcome, Skips, of_extended, extend_act}

-- question 11, then the reading
abbrev read_act : Sample → Core → Acted
read_act sample c =
    cond (cadence_in sample.cadence_tenths) (eventless_act (Ok tt) (read_core sample c)) (eventless_act (Err refusals.Cadence) c)

-- more time or way leaves the step on now
extend-on : (secs metres : ℕ) (l : Length) (c : Core) → (extend_core secs metres l c).core.on ≡ c.on
unfolding extend_core
extend-on secs metres (Time time) c = at (leb (c.lap.extra_s + secs) 86400)
  where
    at : (b : Bool) → (cond b (longer_core secs 0 c) (not_longer (Err refusals.Extra) c)).core.on ≡ c.on
    at true = refl
    at false = refl
extend-on secs metres (Distance way) c = at (leb (c.lap.extra_m + metres) 1000000)
  where
    at : (b : Bool) → (cond b (longer_core 0 metres c) (not_longer (Err refusals.Extra) c)).core.on ≡ c.on
    at true = refl
    at false = refl
extend-on secs metres Open c = refl

module _ (w : Workout) (c : Core) (m ks vs : List ℕ) where
  abbrev P : Player
  P = player_of w (riding c m)

  -- an act without events
  none-acts : (r : Acted) (a : Result ⊤ Refusal) (after : Core) (o : Called) → r ≡ eventless_act a after → eventless a (player_of w (riding after m)) ≡ o
      → Acts w m ks vs ks vs r o
  none-acts r a after o e f =
      subst (λ (o : Called). Acts w m ks vs ks vs r o) f
      (subst (λ (r : Acted). Acts w m ks vs ks vs r (eventless a (player_of w (riding after m)))) (sym e)
      (record { answer = refl; player = refl; wrote = wrote_none ks vs 0 }))

  pub profile-acts : (p f : TrainingProfile) (r : Acted) → r ≡ eventless_act (Ok tt) c → Acts w m ks vs ks vs r (act_called p (Profile f) P)
  unfolding act_called
  profile-acts p f r e = none-acts r (Ok tt) c (eventless (Ok tt) P) e refl

  module _ (p : TrainingProfile) (e : standing_of P ≡ true) where
    reads-by : (t : Bool) (sample : Sample) (r : Acted)
        → r ≡ cond t (eventless_act (Ok tt) (read_core sample c)) (eventless_act (Err refusals.Cadence) c)
        → Acts w m ks vs ks vs r (of_read (read_by (ask true refusals.Standing (ask t refusals.Cadence (Ok tt))) P sample))
    unfolding read_core
    reads-by true sample r f = none-acts r (Ok tt) (read_core sample c) (of_read (read_by (Ok tt) P sample)) f refl
    reads-by false sample r f = none-acts r (Err refusals.Cadence) c (of_read (read_by (Err refusals.Cadence) P sample)) f refl

    pub read-acts : (sample : Sample) (r : Acted) → r ≡ read_act sample c → Acts w m ks vs ks vs r (called p (read sample) P)
    unfolding called read_of read_answer
    read-acts sample r f =
        subst (λ (b : Bool). Acts w m ks vs ks vs r (of_read (read_by (ask b refusals.Standing (ask (cadence_in sample.cadence_tenths) refusals.Cadence (Ok tt))) P sample)))
        (sym e) (reads-by (cadence_in sample.cadence_tenths) sample r f)

    extended-same : (secs metres : ℕ) → of_extend (extended_by P (extend_core secs metres c.on.length c))
        ≡ eventless (extend_core secs metres c.on.length c).answer (player_of w (riding (extend_core secs metres c.on.length c).core m))
    extended-same secs metres =
        let x = extend_core secs metres c.on.length c in
        ap (λ (on : StepNow). eventless x.answer (record { core = x.core; workout = w; note = (player_of w (riding (record { position = c.position; steps = c.steps; total_ms = c.total_ms; total_mm = c.total_mm; lap = c.lap; measured = c.measured; summary = c.summary; on = on; readings = c.readings; done = c.done }) m)).note; minute = m }))
        (sym (extend-on secs metres c.on.length c))

    extends-by : (secs metres : ℕ) (d : Bool) (r : Acted) → r ≡ cond d (eventless_act (Ok tt) c) (of_extended (extend_core secs metres c.on.length c))
        → Acts w m ks vs ks vs r (of_extend (cond d (not_extended (Ok tt) P) (extend_by secs metres c.on.length P)))
    unfolding extend_by
    extends-by secs metres true r f = none-acts r (Ok tt) c (of_extend (not_extended (Ok tt) P)) f refl
    extends-by secs metres false r f =
        let x = extend_core secs metres c.on.length c in
        none-acts r x.answer x.core (of_extend (extended_by P x)) f (sym (extended-same secs metres))

    pub extend-acts : (secs metres : ℕ) (r : Acted) → r ≡ extend_act secs metres c → Acts w m ks vs ks vs r (called p (extend secs metres) P)
    unfolding called extend_with
    extend-acts secs metres r f =
        subst (λ (b : Bool). Acts w m ks vs ks vs r (of_extend (cond b (extend_now secs metres c.done P) (not_extended (Err refusals.Standing) P)))) (sym e)
        (extends-by secs metres c.done r f)

    skips-by : (d : Bool) (ks' vs' : List ℕ) (r : Acted) → Skips ks vs ks' vs' r (cond d (record { core = c; events = [] }) (next_of w true c))
        → Acts w m ks vs ks' vs' r (cond d (eventless (Ok tt) P) (skip_to P (next_of w true c)))
    skips-by true ks' vs' r s = record { answer = s.answer; player = ap (λ (k : Core). player_of w (riding k m)) s.core; wrote = s.wrote }
    skips-by false ks' vs' r s = record { answer = s.answer; player = ap (λ (k : Core). player_of w (riding k m)) s.core; wrote = s.wrote }

    pub skip-acts : (ks' vs' : List ℕ) (r : Acted) → Skips ks vs ks' vs' r (skip_outcome w c) → Acts w m ks vs ks' vs' r (called p (skip 193 193) P)
    unfolding called skip_now
    skip-acts ks' vs' r s =
        subst (λ (o : Called). Acts w m ks vs ks' vs' r o) (skip-taken P 193 193 e (passes-193 P e)) (skips-by c.done ks' vs' r s)

    module _ (g : profile_ok p ≡ true) (ms mm : ℕ) where
      pub refused-acts : (refusal : Refusal) (r : Acted) → update_answer c ms mm 193 193 ≡ Err refusal → r ≡ eventless_act (Err refusal) c
          → Acts w m ks vs ks vs r (called p (ride ms mm 193 193) P)
      unfolding called
      refused-acts refusal r u f = none-acts r (Err refusal) c _ f (ride-refused P ms mm p 193 193 refusal e g u)

      module _ (u : update_answer c ms mm 193 193 ≡ Ok tt) where
        pub idle-acts : (r : Acted) → ms ≡ 0 → r ≡ eventless_act (Ok tt) c → Acts w m ks vs ks vs r (called p (ride ms mm 193 193) P)
        unfolding called
        idle-acts r z f = none-acts r (Ok tt) c _ f (ride-idle P ms mm p z ∙ ride-taken P ms mm p 193 193 e g u)

        pub ride-acts : {m' ks' vs' : List ℕ} (d : Ride) → (ms ≡ 0 → ⊥) → Ridden w p m m' ks vs ks' vs' (begun c ms mm) d
            → Acts w m' ks vs ks' vs' (record { answer = (Ok tt); core = d.core; events = d.count }) (called p (ride ms mm 193 193) P)
        unfolding called
        ride-acts {m'} {ks'} {vs'} d z o =
            let a = ride-made P ms mm p d (player_of w (riding d.core m')) z o refl in
            subst (λ (k : Called). Acts w m' ks vs ks' vs' (record { answer = (Ok tt); core = d.core; events = d.count }) k) (ride-taken P ms mm p 193 193 e g u)
            (record { answer = a.answer; player = a.player; wrote = a.wrote })

  -- what the functions suppose of a core that is ready
  pub ready-next : Ready w c m → NextFits c
  ready-next h = next_fits 0 0 w c (known P h.stands).core.within

  pub ready-extra : Ready w c m → c.done ≡ false → ExtraFits c
  ready-extra h d = extra-fits P h.stands d

-- A skip's outcome, when finished and before.

module _ (w : Workout) (c : Core) (ks vs : List ℕ) where
  pub skip-none : (r : Acted) → c.done ≡ true → r ≡ eventless_act (Ok tt) c → Skips ks vs ks vs r (skip_outcome w c)
  skip-none r d e =
      subst (λ (b : Bool). Skips ks vs ks vs r (cond b (record { core = c; events = [] }) (next_of w true c))) (sym d)
      (subst (λ (r : Acted). Skips ks vs ks vs r (record { core = c; events = [] })) (sym e)
      (record { answer = refl; core = refl; wrote = wrote_none ks vs 0 }))

  pub skip-moved : (ks' vs' : List ℕ) (r : Moved) → c.done ≡ false → Moves ks vs 0 ks' vs' r (next_of w true c)
      → Skips ks vs ks' vs' (record { answer = (Ok tt); core = r.core; events = r.count }) (skip_outcome w c)
  skip-moved ks' vs' r d o =
      subst (λ (b : Bool). Skips ks vs ks' vs' (record { answer = (Ok tt); core = r.core; events = r.count }) (cond b (record { core = c; events = [] }) (next_of w true c))) (sym d)
      (record { answer = refl; core = o.core; wrote = o.wrote })

-- an act that reads or rides is none of the others
pub not-quiet : (act Known-as : Act) → act ≡ Known-as → is_quiet Known-as ≡ false → is_quiet act ≡ true → ⊥
not-quiet act Known-as e f t = let z : ◌≡◌ {A = ℕ} 0 1 = ap (λ (b : Bool). cond b 1 0) (sym f ∙ sym (ap is_quiet e) ∙ t) in omega arith

-- every act keeps standing
act-kept : (p : TrainingProfile) (act : Act) (player : Player) → PlayerFits player → standing_of player ≡ true → standing_of (act_called p act player).player ≡ true
unfolding act_called called
act-kept p (Profile f) player fits e = e
act-kept p (Read sample) player fits e = keeps-standing.read player sample e
act-kept p (acts.Ride ms mm) player fits e = keeps-standing.ride player ms.0 mm.0 p 193 193 fits e
act-kept p Skip player fits e = keeps-standing.skip player 193 193 fits e
act-kept p ExtendLong player fits e = keeps-standing.extend player long_s long_m e
act-kept p Extend player fits e = keeps-standing.extend player default_s default_m e

-- an act that is known, and the core that is ready for the next one
pub played : (w : Workout) (p : TrainingProfile) (act Known-as : Act) (c : Core) (m m' ks vs ks' vs' : List ℕ) (r : Acted) → Ready w c m
    → PowerFits c.readings.last_sample → length m' ≡ 60 → act ≡ Known-as → Acts w m' ks vs ks' vs' r (act_called p Known-as (player_of w (riding c m)))
    → Acts w m' ks vs ks' vs' r (act_called p act (player_of w (riding c m))) × Ready w r.core m'
played w p act Known-as c m m' ks vs ks' vs' r h power places e a =
    let P : Player = player_of w (riding c m) in (
      subst (λ (x : Act). Acts w m' ks vs ks' vs' r (act_called p x P)) (sym e) a,
      record {
        stands =
            subst (λ (q : Player). standing_of q ≡ true) (sym a.player)
            (act-kept p Known-as P (record { twelve = h.twelve; power = power }) h.stands);
        twelve = h.twelve;
        sixty = places;
      },
    )
