-- Lists in which nothing is refused: the machine after them, the time ridden in the test step, and the player's FTP. The list is xs ++ ys,
-- and what is said is of xs: the whole list, or the calls up to a read.
use Rattle.std.specs.Prelude.{Result, Some, ⊤}
use Rattle.refusal.specs.declared.Refusal.{Refusal}
use mathlib.Core.Path.{◌≡◌, sym, ap, ◌∙◌, refl, subst}
use mathlib.Core.Bool.{true}
use mathlib.Core.List.{List, [], ◌∷◌, ◌++◌, append-nil}
use Prim.Native.Nat.{ℕ, ◌+◌}
use Rattle.zones.specs.declared.TrainingProfile.{TrainingProfile}
use Rattle.zones.specs.Zones.{profile_ok}
use Rattle.model.specs.declared.Workout.{Workout}
use Rattle.state.specs.declared.Summary.{Summary}
use Rattle.machine.specs.Machine.{Machine, start, step_at, reading, with_extra, skipped, summary_of}
use Rattle.machine.specs.Cutting.{Call, read, ride, skip, extend, ReadsFit, own, alone}
use Rattle.machine.specs.Runs.{Progress, begun, extra_next, unless_refused, after_piece, after_pieces, after_call, after_calls, pieces_ask, call_asks, calls_ask}
use Rattle.machine.specs.ThirdDemand.{AllAccepted}
use Rattle.machine.proofs.Scope.{Held}
use Rattle.machine.proofs.Unrefused.{alone-is, accepted-right, accepted-left}
use Rattle.machine.proofs.Demand.{after_list, summary-alone}
use Rattle.one_reading.specs.OneReading.{fresh_run, ftp_of, call_time, test_time}
use Rattle.one_reading.proofs.Beside.{on_call, on_calls, over, time_on}

module _ (w : Workout) (p : TrainingProfile) where
  -- Nothing of a list is refused by the machine's own questions.
  abbrev pub Unrefused : List Call → Progress → Type 0
  Unrefused l s = AllAccepted (calls_ask w p (alone l) s)

  abbrev after : Call → Progress → Progress
  after c s = after_call w p c (own c) s

  call-is : (c : Call) (s : Progress) → AllAccepted (call_asks w p c (own c) s) → (after c s).machine ≡ on_call w p c s.machine
  unfolding call_asks own after_call
  call-is (read sample) s a =
      ap (λ (answer : Result ⊤ Refusal). (unless_refused answer s (reading sample s.machine)).machine) a.0 ∙ (unfold unless_refused in refl)
  call-is (ride ms mm kinds values) s a =
      unfold pieces_ask after_pieces in
      ap (λ (answer : Result ⊤ Refusal). (after_piece w p answer (record { ms = ms; mm = mm }) s).machine) a.0 ∙ (unfold after_piece in refl)
  call-is (skip kinds values) s a =
      ap (λ (answer : Result ⊤ Refusal). (unless_refused answer s (skipped w (step_at w s.machine.step.position) s.machine)).machine) a.0
      ∙ (unfold unless_refused in refl)
  call-is (extend secs metres) s a =
      ap (λ (answer : Result ⊤ Refusal). (unless_refused answer s (with_extra (extra_next w secs s) s.machine)).machine) a.0
      ∙ (unfold unless_refused in refl)

  -- the first call of a list, and the rest of it
  module _ (c : Call) (l : List Call) (s : Progress) (a : Unrefused (c ∷ l) s) where
    head-is : (after c s).machine ≡ on_call w p c s.machine
    head-is = call-is c s (accepted-left (call_asks w p c (own c) s) (calls_ask w p (alone l) (after c s)) (unfold alone calls_ask in a))

    rest-unrefused : Unrefused l (after c s)
    rest-unrefused = accepted-right (call_asks w p c (own c) s) (calls_ask w p (alone l) (after c s)) (unfold alone calls_ask in a)

  pub later-unrefused : (xs ys : List Call) (s : Progress) → Unrefused (xs ++ ys) s → Unrefused ys (after_calls w p (alone xs) s)
  unfolding alone after_calls
  later-unrefused [] ys s a = a
  later-unrefused (c ∷ xs) ys s a = later-unrefused xs ys (after c s) (rest-unrefused c (xs ++ ys) s a)

  pub machine-is : (xs ys : List Call) (s : Progress) → Unrefused (xs ++ ys) s → (after_calls w p (alone xs) s).machine ≡ on_calls w p xs s.machine
  unfolding alone after_calls on_calls
  machine-is [] ys s a = refl
  machine-is (c ∷ xs) ys s a =
      machine-is xs ys (after c s) (rest-unrefused c (xs ++ ys) s a) ∙ ap (on_calls w p xs) (head-is c (xs ++ ys) s a)

  pub time-is : (xs ys : List Call) (s : Progress) → Unrefused (xs ++ ys) s → test_time w p xs s ≡ time_on w p xs s.machine
  unfolding test_time over
  time-is [] ys s a = refl
  time-is (c ∷ xs) ys s a =
      ap (λ (n : ℕ). call_time w p c s.machine + n)
      (time-is xs ys (after c s) (rest-unrefused c (xs ++ ys) s a) ∙ ap (time_on w p xs) (head-is c (xs ++ ys) s a))

  module _ (H : Held w) (ok : profile_ok p ≡ true) (l : List Call) (fits : ReadsFit (alone l)) (accepted : AllAccepted (fresh_run w p l).answers) where
    -- what the player accepts the machine does
    pub unrefused : Unrefused l begun
    unrefused =
        subst AllAccepted
        (ap (λ (cs : List Call). (fresh_run w p cs).answers) (sym (alone-is l)) ∙ (after_list w p H ok (alone l) fits).answers) accepted

    -- and its FTP is the machine's
    pub player-ftp : (f : ℕ) → ftp_of w p l ≡ Some f → (on_calls w p l start).given.ftp ≡ Some f
    unfolding summary_of begun
    player-ftp f e =
        sym (ap (λ (m : Machine). m.given.ftp) (machine-is l [] begun (subst (λ (cs : List Call). Unrefused cs begun) (sym (append-nil l)) unrefused)))
        ∙ sym (ap (λ (s : Summary). s.ftp) (summary-alone w p H ok l fits)) ∙ e
