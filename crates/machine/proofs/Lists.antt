-- A whole list: the player's run keeps the relation with the machine's, and gives its answers, call by call.
use Rattle.std.specs.Prelude.{Err, Ok, Result, ⊤, Option, None, Some}
use Rattle.refusal.specs.declared.Refusal.{Refusal}
use mathlib.Core.Path.{◌≡◌, refl, sym, ap, ap₂, ◌∙◌, subst}
use mathlib.Core.Bool.{Bool, true, false, cond}
use mathlib.Core.List.{List, [], ◌∷◌, ◌++◌, map, append_assoc, append-nil}
use Prim.Native.Nat.{ℕ, zero, suc, ◌+◌}
use native.Mathlib.Omega.{arith}
use lib.ListN.{length, length-replicate}
use Rattle.zones.specs.declared.TrainingProfile.{TrainingProfile}
use Rattle.zones.specs.Zones.{profile_ok}
use Rattle.model.specs.declared.Step.{Step}
use Rattle.model.specs.declared.Workout.{Workout}
use Rattle.order.specs.Order.{played_of, played_in}
use Rattle.readings.specs.declared.Sample.{Sample}
use Rattle.power.specs.Power.{window}
use Rattle.events.specs.Events.{Event}
use Rattle.state.specs.declared.Player.{Player}
use Rattle.standing.specs.Standing.{standing_of}
use Rattle.start.specs.Start.{fresh, new_by, new_of}
use Rattle.keeps.specs.Keeps.{PowerFits, PlayerFits}
use Rattle.keeps.proofs.Fresh.{keeps-standing}
use Rattle.machine.specs.Machine.{Machine, start, step_at, is_none, is_finished, greatest, newest, reading, with_extra, skipped, ended, ridden, closed, millisecond_in, millisecond, milliseconds, ends_now, summary_of}
use Rattle.machine.specs.Cutting.{Call, read, ride, skip, extend, Piece, CutCall, piece_call, calls_of, cut, ReadFits, ReadsFit}
use Rattle.machine.specs.Runs.{called, Run, run, Progress, begun, read_asks, piece_asks, skip_asks, extend_asks, extra_next, unless_refused, after_piece, after_pieces, after_call, after_calls, pieces_ask, call_asks, calls_ask}
use Rattle.machine.specs.ThirdDemand.{compared}
use Rattle.machine.proofs.Seconds.{backwards}
use Rattle.machine.proofs.Average.{PowerIs}
use Rattle.machine.proofs.Alike.{MeasuredIs, Now, join-events, before-start}
use Rattle.machine.proofs.Scope.{Held, first, each}
use Rattle.machine.proofs.Calls.{Same, Goes, read_is, skip_is, extend-is, piece_is}

-- The machine's last reading fits its 16 bits.
abbrev Fits : Machine → Type 0
Fits m = PowerFits (newest m.readings)

-- Only a read changes the readings.

closed-readings : (w : Workout) (s : Step) (t : Bool) (m : Machine) → (cond t (ended w s false m) m).readings ≡ m.readings
unfolding ended
closed-readings w s true m = refl
closed-readings w s false m = refl

one-readings : (w : Workout) (p : TrainingProfile) (o : Option Step) (m : Machine) → (millisecond_in w p o m).readings ≡ m.readings
unfolding millisecond_in closed ridden
one-readings w p None m = refl
one-readings w p (Some s) m = closed-readings w s (ends_now s.length m.step.extra (m.step.time + 1)) (ridden w p s m)

readings-stay : (w : Workout) (p : TrainingProfile) (n : ℕ) (m : Machine) → (milliseconds w p n m).readings ≡ m.readings
unfolding milliseconds millisecond
readings-stay w p zero m = refl
readings-stay w p (suc n) m = readings-stay w p n (millisecond_in w p (step_at w m.step.position) m) ∙ one-readings w p (step_at w m.step.position) m

skip-readings : (w : Workout) (o : Option Step) (m : Machine) → (skipped w o m).readings ≡ m.readings
unfolding skipped ended
skip-readings w None m = refl
skip-readings w (Some s) m = refl

extra-readings : (o : Option ℕ) (m : Machine) → (with_extra o m).readings ≡ m.readings
unfolding with_extra
extra-readings None m = refl
extra-readings (Some extra) m = refl

unless-fits : (a : Result ⊤ Refusal) (s : Progress) (m : Machine) → Fits s.machine → Fits m → Fits (unless_refused a s m).machine
unfolding unless_refused
unless-fits (Ok tt) s m f g = g
unless-fits (Err r) s m f g = f

fits_by : (m m' : Machine) → m'.readings ≡ m.readings → Fits m → Fits m'
fits_by m m' e f = subst (λ (samples : List Sample). PowerFits (newest samples)) (sym e) f

piece-fits : (w : Workout) (p : TrainingProfile) (a : Result ⊤ Refusal) (e : Piece) (s : Progress) → Fits s.machine → Fits (after_piece w p a e s).machine
unfolding after_piece
piece-fits w p (Ok tt) e s f = fits_by s.machine (milliseconds w p e.ms s.machine) (readings-stay w p e.ms s.machine) f
piece-fits w p (Err r) e s f = f

pieces-fit : (w : Workout) (p : TrainingProfile) (kinds values : ℕ) (es : List Piece) (s : Progress) → Fits s.machine → Fits (after_pieces w p kinds values es s).machine
unfolding after_pieces
pieces-fit w p kinds values [] s f = f
pieces-fit w p kinds values (e ∷ es) s f =
    pieces-fit w p kinds values es (after_piece w p (piece_asks w kinds values s e) e s) (piece-fits w p (piece_asks w kinds values s e) e s f)

call_fits : (w : Workout) (p : TrainingProfile) (c : Call) (es : List Piece) (s : Progress) → ReadFits c → Fits s.machine → Fits (after_call w p c es s).machine
unfolding after_call reading
call_fits w p (read sample) es s h f = unless-fits (read_asks sample) s (reading sample s.machine) f h
call_fits w p (ride ms mm kinds values) es s h f = pieces-fit w p kinds values es s f
call_fits w p (skip kinds values) es s h f =
    unless-fits (skip_asks w kinds values s) s (skipped w (step_at w s.machine.step.position) s.machine) f (fits_by s.machine (skipped w (step_at w s.machine.step.position) s.machine) (skip-readings w (step_at w s.machine.step.position) s.machine) f)
call_fits w p (extend secs metres) es s h f =
    unless-fits (extend_asks w secs s) s (with_extra (extra_next w secs s) s.machine) f (fits_by s.machine (with_extra (extra_next w secs s) s.machine) (extra-readings (extra_next w secs s) s.machine) f)

module _ (p : TrainingProfile) where
  -- every call keeps standing
  pub call-keeps : (c : Call) (q : Player) → PlayerFits q → standing_of q ≡ true → standing_of (called p c q).player ≡ true
  unfolding called
  call-keeps (read sample) q f st = keeps-standing.read q sample st
  call-keeps (ride ms mm kinds values) q f st = keeps-standing.ride q ms mm p kinds values f st
  call-keeps (skip kinds values) q f st = keeps-standing.skip q kinds values f st
  call-keeps (extend secs metres) q f st = keeps-standing.extend q secs metres st

-- Runs of joined lists.

module _ (p : TrainingProfile) where
  run-player : (xs ys : List Call) (q : Player) → (run p (xs ++ ys) q).player ≡ (run p ys (run p xs q).player).player
  unfolding run
  run-player [] ys q = refl
  run-player (c ∷ xs) ys q = run-player xs ys (called p c q).player

  run-events : (xs ys : List Call) (q : Player) → (run p (xs ++ ys) q).events ≡ (run p xs q).events ++ (run p ys (run p xs q).player).events
  unfolding run
  run-events [] ys q = refl
  run-events (c ∷ xs) ys q =
      ap (λ (l : List Event). (called p c q).events ++ l) (run-events xs ys (called p c q).player)
      ∙ sym (append_assoc (called p c q).events (run p xs (called p c q).player).events (run p ys (run p xs (called p c q).player).player).events)

  run-answers : (xs ys : List Call) (q : Player) → (run p (xs ++ ys) q).answers ≡ (run p xs q).answers ++ (run p ys (run p xs q).player).answers
  unfolding run
  run-answers [] ys q = refl
  run-answers (c ∷ xs) ys q = ap (λ (l : List (Result ⊤ Refusal)). (called p c q).answer ∷ l) (run-answers xs ys (called p c q).player)

-- The run.

module _ (w : Workout) (p : TrainingProfile) (T : Held w) (ok : profile_ok p ≡ true) where
  -- Player and machine after some calls, with the events so far.
  pub record After (k : List Event) (q : Player) (s : Progress) : Type 0 where
    pub same : Same w s.totals k q s.machine
    pub stands : standing_of q ≡ true
    pub fits : Fits s.machine

  -- A run, and the machine's answers and state.
  pub record RunIs (k : List Event) (r : Run) (xa : List (Result ⊤ Refusal)) (s : Progress) : Type 0 where
    pub answers : r.answers ≡ xa
    pub after : After (k ++ compared r.events) r.player s

  player-fits : {k : List Event} {q : Player} {s : Progress} → After k q s → PlayerFits q
  player-fits {k} {q} {s} A =
      record {
        twelve = ap (λ (v : Workout). length v.steps) A.same.workout ∙ T.twelve;
        power = subst PowerFits (sym A.same.alike.matches.last) A.fits;
      }

  -- One call.

  none_yet : (k : List Event) (q : Player) (s : Progress) → After k q s → After (k ++ compared []) q s
  unfolding compared
  none_yet k q s A = subst (λ (l : List Event). After l q s) (sym (append-nil k)) A

  one-call : (k : List Event) (c : Call) (q : Player) (a : Result ⊤ Refusal) (s' : Progress) → Goes w k (called p c q) a s' → standing_of (called p c q).player ≡ true
      → Fits s'.machine → RunIs k (run p (c ∷ []) q) (a ∷ []) s'
  unfolding run
  one-call k c q a s' G st f =
      record {
        answers = ap (λ (x : Result ⊤ Refusal). x ∷ []) G.answer;
        after =
            subst (λ (l : List Event). After (k ++ compared l) (called p c q).player s') (sym (append-nil (called p c q).events))
            (record { same = G.same; stands = st; fits = f });
      }

  -- one run after the other
  joined : (k : List Event) (xs ys : List Call) (q : Player) (xa ya : List (Result ⊤ Refusal)) (s s' : Progress) → RunIs k (run p xs q) xa s
      → RunIs (k ++ compared (run p xs q).events) (run p ys (run p xs q).player) ya s' → RunIs k (run p (xs ++ ys) q) (xa ++ ya) s'
  joined k xs ys q xa ya s s' A B =
      let events : List Event = (run p ys (run p xs q).player).events in
      record {
        answers = run-answers p xs ys q ∙ ap₂ (λ (x y : List (Result ⊤ Refusal)). x ++ y) A.answers B.answers;
        after =
            subst (λ (l : List Event). After (k ++ compared l) (run p (xs ++ ys) q).player s') (sym (run-events p xs ys q))
            (subst (λ (v : Player). After (k ++ compared ((run p xs q).events ++ events)) v s') (sym (run-player p xs ys q))
            (subst (λ (l : List Event). After l (run p ys (run p xs q).player).player s') (join-events k (run p xs q).events events) B.after));
      }

  pieces_are : (kinds values : ℕ) (es : List Piece) (k : List Event) (q : Player) (s : Progress) → After k q s
      → RunIs k (run p (map (piece_call kinds values) es) q) (pieces_ask w p kinds values es s) (after_pieces w p kinds values es s)
  unfolding pieces_ask after_pieces
  pieces_are kinds values [] k q s A = unfold run in record { answers = refl; after = none_yet k q s A }
  pieces_are kinds values (e ∷ es) k q s A =
      let c : Call = piece_call kinds values e in
      let s' : Progress = after_piece w p (piece_asks w kinds values s e) e s in
      let G : Goes w k (called p c q) (piece_asks w kinds values s e) s' = unfold called in piece_is w p T ok k q s A.same A.stands kinds values e in
      let one : RunIs k (run p (c ∷ []) q) (piece_asks w kinds values s e ∷ []) s' =
      one-call k c q (piece_asks w kinds values s e) s' G (call-keeps p c q (player-fits A) A.stands) (piece-fits w p (piece_asks w kinds values s e) e s A.fits) in
      joined k (c ∷ []) (map (piece_call kinds values) es) q (piece_asks w kinds values s e ∷ []) (pieces_ask w p kinds values es s') s' (after_pieces w p kinds values es s') one
      (pieces_are kinds values es (k ++ compared (run p (c ∷ []) q).events) (run p (c ∷ []) q).player s' one.after)

  call-is : (c : Call) (es : List Piece) → ReadFits c → (k : List Event) (q : Player) (s : Progress) → After k q s
      → RunIs k (run p (calls_of c es) q) (call_asks w p c es s) (after_call w p c es s)
  unfolding calls_of call_asks
  call-is (read sample) es h k q s A =
      one-call k (read sample) q (read_asks sample) (after_call w p (read sample) es s) (read_is w p T ok k q s A.same A.stands sample es)
      (call-keeps p (read sample) q (player-fits A) A.stands) (call_fits w p (read sample) es s h A.fits)
  call-is (ride ms mm kinds values) es h k q s A = unfold after_call in pieces_are kinds values es k q s A
  call-is (skip kinds values) es h k q s A =
      one-call k (skip kinds values) q (skip_asks w kinds values s) (after_call w p (skip kinds values) es s) (skip_is w p T ok k q s A.same A.stands kinds values es)
      (call-keeps p (skip kinds values) q (player-fits A) A.stands) (call_fits w p (skip kinds values) es s h A.fits)
  call-is (extend secs metres) es h k q s A =
      one-call k (extend secs metres) q (extend_asks w secs s) (after_call w p (extend secs metres) es s) (extend-is w p T ok k q s A.same A.stands secs metres es)
      (call-keeps p (extend secs metres) q (player-fits A) A.stands) (call_fits w p (extend secs metres) es s h A.fits)

  pub list-is : (l : List CutCall) → ReadsFit l → (k : List Event) (q : Player) (s : Progress) → After k q s
      → RunIs k (run p (cut l) q) (calls_ask w p l s) (after_calls w p l s)
  unfolding cut calls_ask after_calls
  list-is [] h k q s A = unfold run in record { answers = refl; after = none_yet k q s A }
  list-is (c ∷ l) h k q s A =
      let xs : List Call = calls_of c.call c.pieces in
      let s' : Progress = after_call w p c.call c.pieces s in
      let one : RunIs k (run p xs q) (call_asks w p c.call c.pieces s) s' = call-is c.call c.pieces h.0 k q s A in
      joined k xs (cut l) q (call_asks w p c.call c.pieces s) (calls_ask w p l s') s' (after_calls w p l s') one
      (list-is l h.1 (k ++ compared (run p xs q).events) (run p xs q).player s' one.after)

  -- The start.

  new_is : (new_of w).player ≡ fresh w
  unfolding new_of
  new_is = ap (λ (a : Result ⊤ Refusal). (new_by w a).player) T.taken.passes

  fresh-power : PowerIs (fresh w).core.readings.power start.readings
  unfolding fresh start backwards window
  fresh-power = record { watts = refl; present = refl; place = omega arith; few = omega arith; same = refl }

  fresh-measured : MeasuredIs (fresh w).core.measured (fresh w).minute start.sums
  unfolding fresh start greatest
  fresh-measured =
      record {
        sum = refl;
        time = refl;
        rest = refl;
        small = omega arith;
        minute = record { size = length-replicate {A = ℕ} 60 0; place = omega arith; full = omega arith; same = refl; best = refl };
      }

  fresh-same : Same w begun.totals [] (fresh w) begun.machine
  unfolding fresh start begun
  fresh-same =
      record {
        workout = refl;
        alike =
            record {
              matches =
                  record {
                    position = refl;
                    time = refl;
                    extra = refl;
                    summary =
                        record {
                          targeted = refl;
                          inside = refl;
                          under = refl;
                          over = refl;
                          unread = refl;
                          ftp-is = refl;
                          steps-done = refl;
                          steps-are = refl;
                          skipped-are = refl;
                        };
                    measured = fresh-measured;
                    power = fresh-power;
                    last = refl;
                    events = refl;
                    total-ms = refl;
                    total-mm = refl;
                  };
              now =
                  subst (λ (o : Option Step). Now o (fresh w).core start) (sym (first w T))
                  (record {
                    done = refl;
                    finished = refl;
                    on = record { length = refl; target = refl; intensity = refl };
                    before = before-start (played_in (played_of w 0)).step.length (each w T 0 (played_in (played_of w 0)).step (first w T)).lasting;
                  });
            };
      }

  fresh-after : After [] (fresh w) begun
  unfolding begun start
  fresh-after = record { same = fresh-same; stands = keeps-standing.new w T.twelve T.taken.passes; fits = omega arith }

  pub new-after : After [] (new_of w).player begun
  new-after = subst (λ (q : Player). After [] q begun) (sym new_is) fresh-after

  -- The summaries are equal after every list.

  finished-is : (o : Option Step) (q : Player) (m : Machine) → Now o q.core m → q.core.summary.finished ≡ is_none o
  finished-is None q m n = n.1
  finished-is (Some s) q m n = n.finished

  pub summary-is : (k : List Event) (q : Player) (s : Progress) → After k q s → q.core.summary ≡ summary_of w s.machine
  unfolding summary_of is_finished
  summary-is k q s A =
      let S = A.same.alike.matches.summary in
      λ i.
      record {
        targeted_ms = S.targeted i;
        in_ms = S.inside i;
        under_ms = S.under i;
        over_ms = S.over i;
        unread_ms = S.unread i;
        ftp = S.ftp-is i;
        steps_done = S.steps-done i;
        steps = S.steps-are i;
        skipped = S.skipped-are i;
        finished = finished-is (step_at w s.machine.step.position) q s.machine A.same.alike.now i;
      }
