-- `one_reading`: of both lists the FTP is the result of one time and of two sums of power (TestSums, Accepted), the second sum higher by
-- the rise for each millisecond for which that reading was the latest (Beside); how far such a result moves is in Means.
use Rattle.std.specs.Prelude.{Some}
use mathlib.Core.Path.{◌≡◌, refl, sym, ap, ap₂, ◌∙◌, subst}
use mathlib.Core.List.{List, [], ◌∷◌, ◌++◌, append_assoc, append-nil}
use Prim.Native.Nat.{ℕ, ◌+◌, ◌*◌, ◌≤◌, ◌<◌}
use native.Mathlib.Omega.{arith}
use Rattle.zones.specs.declared.TrainingProfile.{TrainingProfile}
use Rattle.model.specs.declared.Workout.{Workout}
use Rattle.machine.specs.Machine.{Machine, start, reading}
use Rattle.machine.specs.Cutting.{Call, read, ride, skip, extend, alone}
use Rattle.machine.specs.Runs.{Progress, begun, after_calls}
use Rattle.machine.specs.ThirdDemand.{InMemory, AllAccepted}
use Rattle.machine.proofs.Scope.{Held}
use Rattle.one_reading.specs.OneReading.{TwoLists, that_read, list_of, first, second, fresh_run, ftp_of, call_time, whole_time, until_read, latest_time, quotient_up, most_rise, Comparable, Bounded}
use Rattle.one_reading.proofs.Means.{twenty_of, some_time, twenty-moves}
use Rattle.one_reading.proofs.Beside.{on_call, on_calls, on-append, over, over-append, call_power, time_on, power_on, Beside, time-beside, power-beside}
use Rattle.one_reading.proofs.TestSums.{ftp-of-sums}
use Rattle.one_reading.proofs.Accepted.{Unrefused, unrefused, later-unrefused, machine-is, time-is, player-ftp}
use Rattle.one_reading.proofs.one_reading.Goals as goal

from_read : List Call → List Call
from_read [] = []
from_read (read sample ∷ l) = read sample ∷ l
from_read (ride ms mm kinds values ∷ l) = from_read l
from_read (skip kinds values ∷ l) = from_read l
from_read (extend secs metres ∷ l) = from_read l

until-from : (l : List Call) → until_read l ++ from_read l ≡ l
unfolding until_read from_read
until-from [] = refl
until-from (read sample ∷ l) = refl
until-from (ride ms mm kinds values ∷ l) = ap (λ (k : List Call). ride ms mm kinds values ∷ k) (until-from l)
until-from (skip kinds values ∷ l) = ap (λ (k : List Call). skip kinds values ∷ k) (until-from l)
until-from (extend secs metres ∷ l) = ap (λ (k : List Call). extend secs metres ∷ k) (until-from l)

module _ (w : Workout) (p : TrainingProfile) (q : TwoLists) where
  -- The machine after that read, with such a power; t and T by the machine, and the power summed over the test step.
  after_read : ℕ → Machine
  after_read watts = on_call w p (that_read q watts) (on_calls w p q.before start)

  abbrev latest : ℕ → ℕ
  latest watts = time_on w p (until_read q.after) (after_read watts)

  abbrev whole : ℕ → ℕ
  whole watts = time_on w p (list_of q watts) start

  abbrev total : ℕ → ℕ
  total watts = power_on w p (list_of q watts) start

  -- Two powers.

  list_over : (f : Call → Machine → ℕ) (watts : ℕ) → f (that_read q watts) (on_calls w p q.before start) ≡ 0
      → over w p f (list_of q watts) start ≡ over w p f q.before start + over w p f q.after (after_read watts)
  unfolding over after_read
  list_over f watts none = omega (arith, none, over-append w p f q.before (that_read q watts ∷ q.after) start)

  module _ (watts d : ℕ) where
    beside : Beside d (after_read watts) (after_read (watts + d))
    unfolding after_read reading
    beside = record { step = refl; power = refl }

    same_latest : latest (watts + d) ≡ latest watts
    same_latest = time-beside w p (until_read q.after) beside

    same_whole : whole (watts + d) ≡ whole watts
    same_whole =
        omega (arith, list_over (call_time w p) watts refl, list_over (call_time w p) (watts + d) refl, time-beside w p q.after beside)

    higher-total : total (watts + d) ≡ total watts + d * latest watts
    higher-total =
        omega (arith, list_over (call_power w p) watts refl, list_over (call_power w p) (watts + d) refl, power-beside w p q.after beside)

  -- One list, in which nothing is refused.

  record Played (watts : ℕ) : Type 0 where
    whole_is : whole_time w p q watts ≡ whole watts
    latest-is : latest_time w p q watts ≡ latest watts
    ftp-from : (f : ℕ) → ftp_of w p (list_of q watts) ≡ Some f → twenty_of (total watts) (whole watts) ≡ Some f

  module _ (watts : ℕ) (a : Unrefused w p (list_of q watts) begun) where
    whole_by : whole_time w p q watts ≡ whole watts
    unfolding whole_time begun
    whole_by = time-is w p (list_of q watts) [] begun (subst (λ (cs : List Call). Unrefused w p cs begun) (sym (append-nil (list_of q watts))) a)

    upto : List Call
    upto = q.before ++ (that_read q watts ∷ [])

    joined : Unrefused w p (upto ++ q.after) begun
    unfolding upto
    joined = subst (λ (cs : List Call). Unrefused w p cs begun) (sym (append_assoc q.before (that_read q watts ∷ []) q.after)) a

    latest-by : latest_time w p q watts ≡ latest watts
    unfolding latest_time upto after_read on_calls begun
    latest-by =
        let s : Progress = after_calls w p (alone upto) begun in
        let later : Unrefused w p (until_read q.after ++ from_read q.after) s =
        subst (λ (cs : List Call). Unrefused w p cs s) (sym (until-from q.after)) (later-unrefused w p upto q.after begun joined) in
        time-is w p (until_read q.after) (from_read q.after) s later
        ∙ ap (time_on w p (until_read q.after)) (machine-is w p upto q.after begun joined ∙ on-append w p q.before (that_read q watts ∷ []) start)

  module _ (C : Comparable w p q) where
    played : (watts : ℕ) → InMemory w (alone (list_of q watts)) → AllAccepted (fresh_run w p (list_of q watts)).answers → Played watts
    played watts fits accepted =
        let H : Held w = record { taken = C.taken; twelve = fits.twelve } in
        let a : Unrefused w p (list_of q watts) begun = unrefused w p H C.profiled (list_of q watts) fits.reads accepted in
        record {
          whole_is = whole_by watts a;
          latest-is = latest-by watts a;
          ftp-from =
              λ f e.
              ftp-of-sums w p H C.twenty C.one_test (list_of q watts) f
              (player-ftp w p H C.profiled (list_of q watts) fits.reads accepted f e);
        }

    bounded : (f g : ℕ) → ftp_of w p (first q) ≡ Some f → ftp_of w p (second q) ≡ Some g → Bounded w p q f g
    unfolding first second most_rise
    bounded f g x y =
        let a : Played q.watts = played q.watts C.first_in_memory C.first_accepted in
        let b : Played (q.watts + q.rise) = played (q.watts + q.rise) C.second_in_memory C.second_accepted in
        let S : ℕ = total q.watts in
        let T : ℕ = whole q.watts in
        let t : ℕ = latest q.watts in
        let lower : twenty_of S T ≡ Some f = a.ftp-from f x in
        let higher : twenty_of (S + q.rise * t) T ≡ Some g =
        sym (ap₂ twenty_of (higher-total q.watts q.rise) (same_whole q.watts q.rise)) ∙ b.ftp-from g y in
        let moves = twenty-moves S (q.rise * t) T f g (some_time S T f lower) lower higher in
        record {
          some_time = subst (λ (n : ℕ). 0 < n) (sym a.whole_is) (some_time S T f lower);
          same_time = b.whole_is ∙ same_whole q.watts q.rise ∙ sym a.whole_is;
          same_latest = b.latest-is ∙ same_latest q.watts q.rise ∙ sym a.latest-is;
          not_lower = moves.0;
          at_most =
              subst (λ (n : ℕ). g ≤ f + n) (sym (ap₂ (λ (m n : ℕ). quotient_up (q.rise * m) n) a.latest-is a.whole_is)) moves.1;
        }

pub returns : goal.returns
returns c = bounded
