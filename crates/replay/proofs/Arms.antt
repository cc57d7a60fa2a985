-- The arms of `play`: what each kind of act leaves for the acts after it.
use Rattle.std.specs.Prelude.{Err, Ok, Some}
use mathlib.Core.Path.{◌≡◌, refl, sym, ap, ap₂, subst, ◌∙◌}
use mathlib.Core.Bool.{Bool, true, false, cond, not, ◌&&◌}
use mathlib.Core.List.{List, []}
use Prim.Native.Nat.{ℕ, zero, suc, ◌+◌, ◌-◌, ◌≤◌, ◌<◌}
use native.Mathlib.Omega.{arith}
use lib.Dec.{ltb}
use lib.ListN.{length, get_or}
use borrow.Author.Tests.{ltb-true, ltb-false, not-true}
use Rattle.common.proofs.Tests.{and_left, and_right}
use Rattle.refusal.specs.declared.Refusal.{Refusal}
use Rattle.refusal.specs.declared.Refusal.TheVariants as refusals
use Rattle.zones.specs.declared.TrainingProfile.{TrainingProfile}
use Rattle.zones.specs.Zones.{profile_ok}
use Rattle.model.specs.declared.Workout.{Workout}
use Rattle.readings.specs.declared.Sample.{Sample}
use Rattle.state.specs.declared.Core.{Core}
use Rattle.state.specs.declared.Player.{Player}
use Rattle.state.specs.State.{read_core}
use Rattle.rounds.specs.declared.Ride.{Ride}
use Rattle.rounds.specs.Rounds.{riding, is_stopped}
use Rattle.rounds.specs.Contracted.{Rides, Ridden}
use Rattle.rounds.proofs.Loop as loop
use Rattle.standing.specs.Standing.{cadence_in}
use Rattle.standing.proofs.Known.{known}
use Rattle.outcomes.specs.Outcomes.{player_of, totalled}
use Rattle.updates.specs.Updates.{Supposes}
use Rattle.updates.proofs.Laws.{start-rides}
use Rattle.player.specs.Calls.{update_answer}
use Rattle.player.proofs.Laws.{update-passed}
use Rattle.keeps.specs.Keeps.{PowerFits}
use Rattle.sheet.specs.declared.Act.{Act}
use Rattle.sheet.specs.declared.Act.TheVariants.{Read, Extend}
use Rattle.sheet.specs.declared.Act.TheVariants as acts
use Rattle.sheet.specs.Sheet.{word4, kind_in, place_of, sample_at, acts_at, act_in, acts_from, refused_at}
use Rattle.replay.specs.declared.Acted.{Acted}
use Rattle.replay.specs.declared.Ridden.{Ridden as Replayed}
use Rattle.replay.specs.Acts.{act_called, nothing_ridden, play_acts, Acts, is_quiet, eventless_act}
use Rattle.replay.proofs.Laws.{read-acts, refused-acts, idle-acts, ride-acts, played}
use Rattle.replay.proofs.Sheets.{At, at_next, at-refused}

-- an act of another kind neither reads nor rides
pub quiet-in : (s : List ℕ) (n i : ℕ) → (kind_in s i ≡ 1 → ⊥) → (kind_in s i ≡ 2 → ⊥) → is_quiet (act_in s n i) ≡ true
unfolding act_in
quiet-in s n i = at (kind_in s i)
  where
    at : (k : ℕ) → (k ≡ 1 → ⊥) → (k ≡ 2 → ⊥) → is_quiet (get_or (acts_at s (place_of n i)) k Extend) ≡ true
    at zero a b = refl
    at (suc zero) a b = absurd (a refl)
    at (suc (suc zero)) a b = absurd (b refl)
    at (suc (suc (suc zero))) a b = refl
    at (suc (suc (suc (suc zero)))) a b = refl
    at (suc (suc (suc (suc (suc k))))) a b = refl

-- The loop of a ride goes on while it has rounds left and is not stopped.
pub goes_on : (j : ℕ) (stopped : Bool) (s : Ride) → stopped ≡ is_stopped s.core.done s.ms.0 → (ltb j 97 && not stopped) ≡ true
    → (j < 97) × (is_stopped s.core.done s.ms.0 ≡ false)
goes_on j stopped s e t = (ltb-true j 97 (and_left (ltb j 97) (not stopped) t), sym e ∙ not-true stopped (and_right (ltb j 97) (not stopped) t))

-- a ride at its start, with the totals in its core already
abbrev started : Core → ℕ → ℕ → Ride
started k ms mm = record { core = k; ms = record { 0 = ms }; mm = record { 0 = mm }; count = 0; parts = 0 }

module _ (w : Workout) (p : TrainingProfile) where
  -- and ends as `ride_rounds` does
  pub loop-done : {m ks vs m' ks' vs' : List ℕ} {start s : Ride} (j : ℕ) (stopped : Bool) → loop.At w p m ks vs start j m' ks' vs' s
      → stopped ≡ is_stopped s.core.done s.ms.0 → (ltb j 97 && not stopped) ≡ false → Ridden w p m m' ks vs ks' vs' start s
  loop-done {m} {ks} {vs} {m'} {ks'} {vs'} {start} {s} j stopped a e = by (ltb j 97) refl stopped e
    where
      by : (t : Bool) → ltb j 97 ≡ t → (b : Bool) → b ≡ is_stopped s.core.done s.ms.0 → (t && not b) ≡ false → Ridden w p m m' ks vs ks' vs' start s
      by false f b g h = loop.at-end w p j a (ltb-false j 97 f)
      by true f true g h = loop.at-stopped w p j a (sym g)
      by true f false g h = absurd (let z : ◌≡◌ {A = ℕ} 1 0 = ap (λ (b : Bool). cond b 1 0) h in omega arith)

module _ (w : Workout) (p : TrainingProfile) (s : List ℕ) (n : ℕ) (c₀ : Core) (m₀ : List ℕ) (c : Core) (m : List ℕ) (i : ℕ)
    (at : At w p s n c₀ m₀ c m i) (power : PowerFits c.readings.last_sample) (h : i < n) where
  abbrev P : Player
  P = player_of w (riding c m)

  abbrev all : Replayed
  all = play_acts w p (acts_from s n 1 (n - 1)) 1 (player_of w (riding c₀ m₀))

  next-by : (act : Act) {m' ks vs ks' vs' : List ℕ} (r : Acted) → act_in s n i ≡ act → length m' ≡ 60 → Acts w m' ks vs ks' vs' r (act_called p act P)
      → r.answer ≡ Ok tt → At w p s n c₀ m₀ r.core m' (i + 1)
  next-by act {m'} {ks} {vs} {ks'} {vs'} r e sixty a accepted =
      let o = played w p (act_in s n i) act c m m' ks vs ks' vs' r at.ready power sixty e a in
      at_next w p s n c₀ m₀ c m i at (act_in s n i) r h refl o.0 o.1 accepted

  refused-by : (act : Act) {m' ks vs ks' vs' : List ℕ} (r : Acted) (refusal : Refusal) → act_in s n i ≡ act
      → Acts w m' ks vs ks' vs' r (act_called p act P) → r.answer ≡ Err refusal → nothing_ridden (refused_at refusal (Some i)) ≡ all
  refused-by act r refusal e a refused = at-refused w p s n c₀ m₀ c m i at act r refusal h (sym e) a refused

  -- A reading.
  module _ (kind : kind_in s i ≡ 1) (sample : Sample) (e : sample ≡ sample_at s (place_of n i)) where
    read-in : act_in s n i ≡ Read sample
    unfolding act_in
    read-in = ap (λ (k : ℕ). get_or (acts_at s (place_of n i)) k Extend) kind ∙ ap (λ (x : Sample). Read x) (sym e)

    reads : (b : Bool) → cadence_in sample.cadence_tenths ≡ b
        → Acts w m [] [] [] [] (cond b (eventless_act (Ok tt) (read_core sample c)) (eventless_act (Err refusals.Cadence) c)) (act_called p (Read sample) P)
    unfolding act_called
    reads b t =
        read-acts w c m [] [] p at.ready.stands sample _
        (sym (ap (λ (b : Bool). cond {A = Acted} b (eventless_act (Ok tt) (read_core sample c)) (eventless_act (Err refusals.Cadence) c)) t))

    pub read_next : (k : Core) → k ≡ read_core sample c → cadence_in sample.cadence_tenths ≡ true → At w p s n c₀ m₀ k m (i + 1)
    read_next k f t =
        subst (λ (k : Core). At w p s n c₀ m₀ k m (i + 1)) (sym f)
        (next-by (Read sample) (eventless_act (Ok tt) (read_core sample c)) read-in at.ready.sixty (reads true t) refl)

    pub read-refused : cadence_in sample.cadence_tenths ≡ false → nothing_ridden (refused_at refusals.Cadence (Some i)) ≡ all
    read-refused t = refused-by (Read sample) (eventless_act (Err refusals.Cadence) c) refusals.Cadence read-in (reads false t) refl

  -- A ride, once its questions are asked.
  module _ (ms mm : ℕ) (u : update_answer c ms mm 193 193 ≡ Ok tt) where
    supposes : {k v : ℕ} → k ≡ 193 → v ≡ 193 → Supposes w c ms mm k v
    supposes {k} {v} ek ev =
        update-passed w c ms mm k v (known P at.ready.stands).core (ap₂ (λ (k v : ℕ). update_answer c ms mm k v) ek ev ∙ u)

    pub totals-fit : (c.total_ms.0 + ms ≤ 604800000) × (c.total_mm.0 + mm ≤ 7000000000)
    totals-fit = let o = supposes refl refl in (o.total-ms, o.total-mm)

    pub ride-starts : (ks vs : List ℕ) (k : Core) → k ≡ totalled ms mm c → length ks ≡ 193 → length vs ≡ 193
        → loop.At w p m ks vs (started k ms mm) 0 m ks vs (started k ms mm)
    ride-starts ks vs k e ek ev =
        loop.at-start w p m ks vs (started k ms mm)
        (subst (λ (k : Core). Rides w (started k ms mm) (length ks) (length vs)) (sym e) (start-rides w c ms mm (length ks) (length vs) (supposes ek ev)))
        at.ready.sixty refl refl

  module _ (g : profile_ok p ≡ true) (kind : kind_in s i ≡ 2) (ms mm : ℕ) (ems : ms ≡ word4 s (place_of n i)) (emm : mm ≡ word4 s (place_of n i + 4)) where
    abbrev act : Act
    act = acts.Ride (record { 0 = ms }) (record { 0 = mm })

    ride-in : act_in s n i ≡ act
    unfolding act_in
    ride-in =
        ap (λ (k : ℕ). get_or (acts_at s (place_of n i)) k Extend) kind
        ∙ ap₂ (λ (a b : ℕ). acts.Ride (record { 0 = a }) (record { 0 = b })) (sym ems) (sym emm)

    pub ride-refused : (refusal : Refusal) → update_answer c ms mm 193 193 ≡ Err refusal → nothing_ridden (refused_at refusal (Some i)) ≡ all
    unfolding act_called
    ride-refused refusal u =
        refused-by act (eventless_act (Err refusal) c) refusal ride-in
        (refused-acts w c m [] [] p at.ready.stands g ms mm refusal (eventless_act (Err refusal) c) u refl) refl

    module _ (u : update_answer c ms mm 193 193 ≡ Ok tt) where
      pub idle-next : ms ≡ 0 → At w p s n c₀ m₀ c m (i + 1)
      unfolding act_called
      idle-next z =
          next-by act (eventless_act (Ok tt) c) ride-in at.ready.sixty
          (idle-acts w c m [] [] p at.ready.stands g ms mm u (eventless_act (Ok tt) c) z refl) refl

      pub ride-next : {m' ks vs ks' vs' : List ℕ} (k : Core) (d : Ride) → k ≡ totalled ms mm c → (ms ≡ 0 → ⊥)
          → Ridden w p m m' ks vs ks' vs' (started k ms mm) d → At w p s n c₀ m₀ d.core m' (i + 1)
      unfolding act_called
      ride-next {m'} {ks} {vs} {ks'} {vs'} k d e z o =
          next-by act (record { answer = (Ok tt); core = d.core; events = d.count }) ride-in o.sixty
          (ride-acts w c m ks vs p at.ready.stands g ms mm u d z (subst (λ (k : Core). Ridden w p m m' ks vs ks' vs' (started k ms mm) d) e o)) refl
