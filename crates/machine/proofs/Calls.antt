-- Each call keeps the relation between player and machine, and gives the machine's own answer.
use Rattle.std.specs.Prelude.{Err, None, Ok, Result, Some, ⊤, Option}
use mathlib.Core.Path.{◌≡◌, refl, sym, ap, ap₂, ◌∙◌, subst}
use mathlib.Core.Bool.{Bool, true, false, cond, ◌&&◌}
use mathlib.Core.List.{List, ◌++◌, append-nil}
use Prim.Native.Nat.{ℕ, ◌+◌, ◌-◌, ◌*◌, ◌≤◌}
use native.Mathlib.Omega.{arith}
use lib.Dec.{leb, eqb}
use borrow.Author.Tests.{eqb-true}
use Rattle.refusal.specs.declared.Refusal.{Refusal}
use Rattle.refusal.specs.declared.Refusal.TheVariants as refusals
use Rattle.refusal.specs.Number.{ask}
use Rattle.zones.specs.declared.TrainingProfile.{TrainingProfile}
use Rattle.zones.specs.Zones.{profile_ok}
use Rattle.model.specs.declared.Length.{Length}
use Rattle.model.specs.declared.Length.TheVariants.{Time, Distance, Open}
use Rattle.model.specs.declared.Step.{Step}
use Rattle.model.specs.declared.Workout.{Workout}
use Rattle.order.specs.Order.{played_len}
use Rattle.readings.specs.declared.Sample.{Sample}
use Rattle.readings.specs.Readings.{taken}
use Rattle.events.specs.Events.{Event}
use Rattle.state.specs.declared.Player.{Player}
use Rattle.state.specs.State.{event_places, read_core}
use Rattle.step_end.specs.StepEnd.{next_of}
use Rattle.rounds.specs.Rounds.{Riding, riding, Rode, riding_of, rounds}
use Rattle.standing.specs.Standing.{standing_of, cadence_in}
use Rattle.standing.proofs.Known.{known}
use Rattle.player.specs.Calls as player
use Rattle.outcomes.specs.Outcomes.{Called, eventless, player_of, with_core, totalled, not_extended, longer_core, not_longer, extended_by, longer_by, extend_core, extend_by}
use Rattle.updates.specs.Updates.{ride_by, ride_now, skip_to, skip_now}
use Rattle.player.specs.Calls.{answered, update_answer, ride_answer, ride_of, read_answer, read_by, read_of, skip_answer, skip_of, extend_now, extend_with}
use Rattle.machine.specs.Machine.{Machine, is_none, step_at, is_finished, reading, extra_in, extra_after, with_extra, skipped, milliseconds}
use Rattle.machine.specs.Cutting.{read, skip, extend, Piece}
use Rattle.machine.specs.Runs.{of_read, of_extend, called, Totals, Progress, cadence_ok, read_asks, piece_ok, places_wanted, places_ok, piece_asks, skip_asks, extra_asks, extend_asks, unless_refused, with_piece, after_piece, after_call}
use Rattle.machine.specs.ThirdDemand.{compared}
use Rattle.machine.proofs.Average.{added_is}
use Rattle.machine.proofs.AtOnce.{Before}
use Rattle.machine.proofs.Alike.{Now, Alike, Lasting, next-is}
use Rattle.machine.proofs.Loop.{cond-true, cond-false, loop-is}
use Rattle.machine.proofs.Scope.{Held, few, past, each}

-- The player and the machine.
pub record Same (w : Workout) (b : Totals) (k : List Event) (q : Player) (m : Machine) : Type 0 where
  pub workout : q.workout ≡ w
  pub alike : Alike w b k (riding q.core q.minute) m

-- A call's answer, and the relation after it.
pub record Goes (w : Workout) (k : List Event) (c : Called) (a : Result ⊤ Refusal) (s : Progress) : Type 0 where
  pub answer : c.answer ≡ a
  pub same : Same w s.totals (k ++ compared c.events) c.player s.machine

ask-passes : (t : Bool) (r : Refusal) (rest : Result ⊤ Refusal) → t ≡ true → ask t r rest ≡ rest
ask-passes t r rest e = ap (λ (b : Bool). ask b r rest) e

module _ (w : Workout) (p : TrainingProfile) (T : Held w) (ok : profile_ok p ≡ true) where
  goes_by : (k : List Event) {c c' : Called} {a : Result ⊤ Refusal} {s : Progress} → c ≡ c' → Goes w k c' a s → Goes w k c a s
  goes_by k {c} {c'} {a} {s} e G = subst (λ (x : Called). Goes w k x a s) (sym e) G

  -- a call that does nothing
  idle : (k : List Event) (a : Result ⊤ Refusal) (q : Player) (s : Progress) → Same w s.totals k q s.machine → Goes w k (eventless a q) a s
  unfolding compared
  idle k a q s R = record { answer = refl; same = subst (λ (l : List Event). Same w s.totals l q s.machine) (sym (append-nil k)) R }

  module _ (k : List Event) (q : Player) (s : Progress) (R : Same w s.totals k q s.machine) (st : standing_of q ≡ true) where
    abbrev m : Machine
    m = s.machine

    abbrev x : Riding
    x = riding q.core q.minute

    -- question 14 wants as many places of both

    done-is : (o : Option Step) → Now o q.core m → q.core.done ≡ is_none o
    done-is None n = n.0
    done-is (Some t) n = n.done

    wanted-are : event_places q.core ≡ places_wanted w m
    unfolding is_finished
    wanted-are =
        let steps : q.core.steps ≡ played_len w = (known q st).core.within.steps ∙ ap played_len R.workout in
        ap₂ (λ (a b : ℕ). cond q.core.done 0 (2 * (a - b) + 1)) steps R.alike.matches.position
        ∙ ap (λ (t : Bool). cond t 0 (2 * (played_len w - m.step.position) + 1)) (done-is (step_at w m.step.position) R.alike.now)

    places-are : (kinds values : ℕ) → player.places_ok q.core kinds values ≡ places_ok w m kinds values
    places-are kinds values = ap (λ (n : ℕ). leb n kinds && leb n values) wanted-are

    -- Read.

    cadence-is : (r : Option ℕ) → cadence_in r ≡ cadence_ok r
    cadence-is None = refl
    cadence-is (Some tenths) = refl

    read_answer_lem : (sample : Sample) → read_answer q sample ≡ read_asks sample
    unfolding read_answer
    read_answer_lem sample =
        ask-passes (standing_of q) refusals.Standing (ask (cadence_in sample.cadence_tenths) refusals.Cadence (Ok tt)) st
        ∙ ap (λ (b : Bool). ask b refusals.Cadence (Ok tt)) (cadence-is sample.cadence_tenths)

    read-now : (sample : Sample) (o : Option Step) → Now o q.core m → Now o (read_core sample q.core) (reading sample m)
    unfolding read_core reading
    read-now sample None n = n
    read-now sample (Some t) n =
        record { done = n.done; finished = n.finished; on = record { length = n.on.length; target = n.on.target; intensity = n.on.intensity }; before = n.before }

    read_same : (sample : Sample) → Same w s.totals k (with_core (read_core sample q.core) q) (reading sample m)
    unfolding read_core reading taken
    read_same sample =
        let M = R.alike.matches in
        record {
          workout = R.workout;
          alike =
              record {
                matches =
                    record {
                      position = M.position;
                      time = M.time;
                      extra = M.extra;
                      summary = M.summary;
                      measured = M.measured;
                      power = added_is sample q.core.readings.power m.readings M.power;
                      last = refl;
                      events = M.events;
                      total-ms = M.total-ms;
                      total-mm = M.total-mm;
                    };
                now = read-now sample (step_at w m.step.position) R.alike.now;
              };
        }

    read-by : (sample : Sample) (a : Result ⊤ Refusal) → Goes w k (of_read (read_by a q sample)) a (unless_refused a s (reading sample m))
    unfolding unless_refused
    read-by sample (Ok tt) = idle k (Ok tt) (with_core (read_core sample q.core) q) (record { machine = reading sample m; totals = s.totals }) (read_same sample)
    read-by sample (Err r) = idle k (Err r) q s R

    pub read_is : (sample : Sample) (qs : List Piece) → Goes w k (called p (read sample) q) (read_asks sample) (after_call w p (read sample) qs s)
    unfolding called after_call read_of
    read_is sample qs =
        goes_by k (ap (λ (a : Result ⊤ Refusal). of_read (read_by a q sample)) (read_answer_lem sample)) (read-by sample (read_asks sample))

    -- Skip.

    skip-answer : (kinds values : ℕ) → skip_answer q kinds values ≡ skip_asks w kinds values s
    unfolding skip_answer
    skip-answer kinds values =
        ask-passes (standing_of q) refusals.Standing (ask (player.places_ok q.core kinds values) refusals.EventPlaces (Ok tt)) st
        ∙ ap (λ (b : Bool). ask b refusals.EventPlaces (Ok tt)) (places-are kinds values)

    skip_by : (o : Option Step) → step_at w m.step.position ≡ o → Goes w k (skip_now q) (Ok tt) (record { machine = skipped w o m; totals = s.totals })
    unfolding skip_now skipped
    skip_by None e =
        let n : Now None q.core m = subst (λ (o : Option Step). Now o q.core m) e R.alike.now in
        goes_by k (cond-true q.core.done (eventless (Ok tt) q) (skip_to q (next_of q.workout true q.core)) n.0)
        (idle k (Ok tt) q (record { machine = m; totals = s.totals }) R)
    skip_by (Some t) e =
        let n : Now (Some t) q.core m = subst (λ (o : Option Step). Now o q.core m) e R.alike.now in
        goes_by k
        (cond-false q.core.done (eventless (Ok tt) q) (skip_to q (next_of q.workout true q.core)) n.done
        ∙ ap (λ (v : Workout). skip_to q (next_of v true q.core)) R.workout)
        (record {
          answer = refl;
          same = record { workout = R.workout; alike = next-is w (each w T) s.totals k t true x m R.alike.matches n.on };
        })

    skip-taken : (a : Result ⊤ Refusal) → Goes w k (answered a q (skip_now q)) a (unless_refused a s (skipped w (step_at w m.step.position) m))
    unfolding unless_refused
    skip-taken (Ok tt) = skip_by (step_at w m.step.position) refl
    skip-taken (Err r) = idle k (Err r) q s R

    pub skip_is : (kinds values : ℕ) (qs : List Piece) → Goes w k (called p (skip kinds values) q) (skip_asks w kinds values s) (after_call w p (skip kinds values) qs s)
    unfolding called after_call skip_of
    skip_is kinds values qs = goes_by k (ap (λ (a : Result ⊤ Refusal). answered a q (skip_now q)) (skip-answer kinds values)) (skip-taken (skip_asks w kinds values s))

    -- Extend.

    later : (l : Length) (time extra more : ℕ) → extra ≤ more → Before l extra time → Before l more time
    later (Time secs) time extra more h b = omega arith
    later (Distance metres) time extra more h b = tt
    later Open time extra more h b = tt

    longer-same : (t : Step) (secs : ℕ) → step_at w m.step.position ≡ Some t → Same w s.totals k (longer_by secs 0 q).player (with_extra (Some (m.step.extra + secs)) m)
    unfolding with_extra
    longer-same t secs e =
        let M = R.alike.matches in
        let n : Now (Some t) q.core m = subst (λ (o : Option Step). Now o q.core m) e R.alike.now in
        record {
          workout = R.workout;
          alike =
              record {
                matches =
                    record {
                      position = M.position;
                      time = M.time;
                      extra = ap (λ (y : ℕ). y + secs) M.extra;
                      summary = M.summary;
                      measured = M.measured;
                      power = M.power;
                      last = M.last;
                      events = M.events;
                      total-ms = M.total-ms;
                      total-mm = M.total-mm;
                    };
                now =
                    subst (λ (o : Option Step). Now o (longer_by secs 0 q).player.core (with_extra (Some (m.step.extra + secs)) m)) (sym e)
                    (record {
                      done = n.done;
                      finished = n.finished;
                      on = record { length = n.on.length; target = n.on.target; intensity = n.on.intensity };
                      before = later t.length m.step.time m.step.extra (m.step.extra + secs) (omega arith) n.before;
                    });
              };
        }

    longer-by : (t : Step) (secs : ℕ) (b : Bool) → step_at w m.step.position ≡ Some t
        → Goes w k (of_extend (extended_by q (cond b (longer_core secs 0 q.core) (not_longer (Err refusals.Extra) q.core)))) (ask b refusals.Extra (Ok tt))
        (unless_refused (ask b refusals.Extra (Ok tt)) s (with_extra (Some (m.step.extra + secs)) m))
    unfolding unless_refused
    longer-by t secs true e =
        idle k (Ok tt) (longer_by secs 0 q).player (record { machine = with_extra (Some (m.step.extra + secs)) m; totals = s.totals }) (longer-same t secs e)
    longer-by t secs false e = idle k (Err refusals.Extra) q s R

    extend-in : (l : Length) (t : Step) (secs metres : ℕ) → Lasting l → step_at w m.step.position ≡ Some t
        → Goes w k (of_extend (extend_by secs metres l q)) (extra_asks (extra_in l secs m.step.extra)) (unless_refused (extra_asks (extra_in l secs m.step.extra)) s (with_extra (extra_in l secs m.step.extra) m))
    unfolding extend_by extend_core
    extend-in (Time time) t secs metres y e =
        goes_by k
        (ap (λ (z : ℕ). of_extend (extended_by q (cond (leb (z + secs) 86400) (longer_core secs 0 q.core) (not_longer (Err refusals.Extra) q.core)))) R.alike.matches.extra)
        (longer-by t secs (leb (m.step.extra + secs) 86400) e)
    extend-in (Distance way) t secs metres y e = absurd y
    extend-in Open t secs metres y e = unfold unless_refused with_extra in idle k (Ok tt) q (record { machine = m; totals = s.totals }) R

    extend-by : (o : Option Step) (secs metres : ℕ) → step_at w m.step.position ≡ o
        → Goes w k (of_extend (cond q.core.done (not_extended (Ok tt) q) (extend_by secs metres q.core.on.length q))) (extra_asks (extra_after o secs m.step.extra))
        (unless_refused (extra_asks (extra_after o secs m.step.extra)) s (with_extra (extra_after o secs m.step.extra) m))
    extend-by None secs metres e =
        let n : Now None q.core m = subst (λ (o : Option Step). Now o q.core m) e R.alike.now in
        goes_by k (ap of_extend (cond-true q.core.done (not_extended (Ok tt) q) (extend_by secs metres q.core.on.length q) n.0))
        (unfold unless_refused with_extra in idle k (Ok tt) q (record { machine = m; totals = s.totals }) R)
    extend-by (Some t) secs metres e =
        let n : Now (Some t) q.core m = subst (λ (o : Option Step). Now o q.core m) e R.alike.now in
        goes_by k
        (ap of_extend (cond-false q.core.done (not_extended (Ok tt) q) (extend_by secs metres q.core.on.length q) n.done ∙ ap (λ (l : Length). extend_by secs metres l q) n.on.length))
        (extend-in t.length t secs metres (each w T m.step.position t e).lasting e)

    pub extend-is : (secs metres : ℕ) (qs : List Piece) → Goes w k (called p (extend secs metres) q) (extend_asks w secs s) (after_call w p (extend secs metres) qs s)
    unfolding called after_call extend_with
    extend-is secs metres qs =
        goes_by k (ap of_extend (cond-true (standing_of q) (extend_now secs metres q.core.done q) (not_extended (Err refusals.Standing) q) st))
        (extend-by (step_at w m.step.position) secs metres refl)

    -- Ride, one piece.

    ride-answer : (kinds values : ℕ) (e : Piece) → ride_answer q e.ms e.mm p kinds values ≡ piece_asks w kinds values s e
    unfolding ride_answer piece_asks update_answer
    ride-answer kinds values e =
        let M = R.alike.matches in
        let totals : ℕ → ℕ → Bool = λ a b. leb (a + e.ms) 604800000 && leb (b + e.mm) 7000000000 in
        ask-passes (standing_of q) refusals.Standing (ask (profile_ok p) refusals.Profile (update_answer q.core e.ms e.mm kinds values)) st
        ∙ ask-passes (profile_ok p) refusals.Profile (update_answer q.core e.ms e.mm kinds values) ok
        ∙ ap₂ (λ (t b : Bool). ask (piece_ok e) refusals.Update (ask t refusals.Totals (ask b refusals.EventPlaces (Ok tt))))
        (ap₂ totals M.total-ms M.total-mm) (places-are kinds values)

    totalled-now : (ms mm : ℕ) (o : Option Step) → Now o q.core m → Now o (totalled ms mm q.core) m
    totalled-now ms mm None n = n
    totalled-now ms mm (Some t) n =
        record { done = n.done; finished = n.finished; on = record { length = n.on.length; target = n.on.target; intensity = n.on.intensity }; before = n.before }

    totalled-is : (ms mm : ℕ) → Alike w (record { ms = s.totals.ms + ms; mm = s.totals.mm + mm }) k (riding (totalled ms mm q.core) q.minute) m
    totalled-is ms mm =
        let M = R.alike.matches in
        record {
          matches =
              record {
                position = M.position;
                time = M.time;
                extra = M.extra;
                summary = M.summary;
                measured = M.measured;
                power = M.power;
                last = M.last;
                events = M.events;
                total-ms = ap (λ (y : ℕ). y + ms) M.total-ms;
                total-mm = ap (λ (y : ℕ). y + mm) M.total-mm;
              };
          now = totalled-now ms mm (step_at w m.step.position) R.alike.now;
        }

    abbrev rode : Piece → Rode
    rode e = rounds q.workout p 97 e.ms e.mm (riding (totalled e.ms e.mm q.core) q.minute)

    rode-same : (e : Piece) → Same w (record { ms = s.totals.ms + e.ms; mm = s.totals.mm + e.mm }) (k ++ compared (rode e).events) (player_of q.workout (riding_of (rode e))) (milliseconds w p e.ms m)
    rode-same e =
        let begun : Riding = riding (totalled e.ms e.mm q.core) q.minute in
        let b : Totals = record { ms = s.totals.ms + e.ms; mm = s.totals.mm + e.mm } in
        record {
          workout = R.workout;
          alike =
              subst (λ (v : Workout). Alike w b (k ++ compared (rounds v p 97 e.ms e.mm begun).events) (riding_of (rounds v p 97 e.ms e.mm begun)) (milliseconds w p e.ms m))
              (sym R.workout)
              (loop-is w (each w T) p b (past w T) 97 e.ms e.mm k begun m (totalled-is e.ms e.mm) (omega (arith, few w T)));
        }

    ride-by : (t : Bool) (e : Piece) → eqb e.ms 0 ≡ t
        → Goes w k (ride_by t q (rode e)) (Ok tt)
        (record { machine = milliseconds w p e.ms m; totals = cond t s.totals (record { ms = s.totals.ms + e.ms; mm = s.totals.mm + e.mm }) })
    ride-by true e z =
        let None : milliseconds w p e.ms m ≡ m = ap (λ (n : ℕ). milliseconds w p n m) (eqb-true e.ms 0 z) ∙ (unfold milliseconds in refl) in
        idle k (Ok tt) q (record { machine = milliseconds w p e.ms m; totals = s.totals })
        (subst (λ (y : Machine). Same w s.totals k q y) (sym None) R)
    ride-by false e z = record { answer = refl; same = rode-same e }

    piece-by : (a : Result ⊤ Refusal) (e : Piece) → Goes w k (answered a q (ride_now q e.ms e.mm p)) a (after_piece w p a e s)
    unfolding after_piece ride_now with_piece
    piece-by (Ok tt) e = ride-by (eqb e.ms 0) e refl
    piece-by (Err r) e = idle k (Err r) q s R

    pub piece_is : (kinds values : ℕ) (e : Piece)
        → Goes w k (ride_of q e.ms e.mm p kinds values) (piece_asks w kinds values s e) (after_piece w p (piece_asks w kinds values s e) e s)
    unfolding ride_of
    piece_is kinds values e =
        goes_by k (ap (λ (a : Result ⊤ Refusal). answered a q (ride_now q e.ms e.mm p)) (ride-answer kinds values e)) (piece-by (piece_asks w kinds values s e) e)
