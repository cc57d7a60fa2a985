-- The third demand, whole.
use mathlib.Core.Path.{◌≡◌, refl, sym, ap, ap₂, ◌∙◌, subst}
use mathlib.Core.Bool.{true}
use mathlib.Core.List.{List, [], ◌∷◌}
use Prim.Native.Nat.{ℕ, zero, suc}
use native.Mathlib.Omega.{arith}
use lib.ListN.{take}
use Rattle.zones.specs.declared.TrainingProfile.{TrainingProfile}
use Rattle.zones.specs.Zones.{profile_ok}
use Rattle.model.specs.declared.Workout.{Workout}
use Rattle.state.specs.declared.Summary.{Summary}
use Rattle.start.specs.Start.{new_of}
use Rattle.history.specs.Record.{record_of, record_bytes}
use Rattle.machine.specs.Machine.{summary_of}
use Rattle.machine.specs.Cutting.{Call, CutCall, uncut, AllWellCut, ReadsFit, alone}
use Rattle.machine.specs.Runs.{run, begun, after_calls, calls_ask}
use Rattle.machine.specs.ThirdDemand.{cut_run, uncut_run, AllAccepted, Claim, ThirdDemand}
use Rattle.machine.specs.ThirdDemand as demand
use Rattle.machine.proofs.Scope.{Held}
use Rattle.machine.proofs.Lists.{RunIs, list-is, new-after}
use Rattle.machine.proofs.Lists as lists
use Rattle.machine.proofs.Unrefused.{alone-is, list-unrefused}

well-take : (n : ℕ) (l : List CutCall) → ReadsFit l → ReadsFit (take n l)
well-take zero l h = tt
well-take (suc n) [] h = tt
well-take (suc n) (c ∷ l) h = (h.0, well-take n l h.1)

uncut-fits : (l : List CutCall) → ReadsFit l → ReadsFit (alone (uncut l))
unfolding alone uncut
uncut-fits [] h = tt
uncut-fits (c ∷ l) h = (h.0, uncut-fits l h.1)

module _ (w : Workout) (p : TrainingProfile) (T : Held w) (ok : profile_ok p ≡ true) where
  -- the run of a cut list, and the machine's
  pub after_list : (l : List CutCall) → ReadsFit l → RunIs w p T ok [] (cut_run w p l) (calls_ask w p l begun) (after_calls w p l begun)
  after_list l h = list-is w p T ok l h [] (new_of w).player begun (new-after w p T ok)

  -- player and machine summaries are equal after every cut list
  pub summary-is : (l : List CutCall) → ReadsFit l → (cut_run w p l).player.core.summary ≡ summary_of w (after_calls w p l begun).machine
  summary-is l h = lists.summary-is w p T ok _ (cut_run w p l).player (after_calls w p l begun) (after_list l h).after

  -- and after every list as it stands: what a replay makes of its acts
  pub summary-alone : (cs : List Call) → ReadsFit (alone cs) → (run p cs (new_of w).player).player.core.summary ≡ summary_of w (after_calls w p (alone cs) begun).machine
  summary-alone cs h =
      ap (λ (xs : List Call). (run p xs (new_of w).player).player.core.summary) (sym (alone-is cs)) ∙ summary-is (alone cs) h

  after-calls : (l : List CutCall) → ReadsFit l → demand.After w p l
  after-calls l h =
      let A : RunIs w p T ok [] (cut_run w p l) (calls_ask w p l begun) (after_calls w p l begun) = after_list l h in
      record {
        bytes =
            λ journal id start dated.
            ap₂ (λ (v : Workout) (s : Summary). record_bytes (record_of v.name v.test s journal id start dated)) A.after.same.workout (summary-is l h);
        events = sym A.after.same.alike.matches.events;
        answers = A.answers;
      }

  unrefused : (l : List CutCall) → AllWellCut l → ReadsFit l → AllAccepted (uncut_run w p l).answers → AllAccepted (cut_run w p l).answers
  unrefused l h f a =
      let uncut-answers : (uncut_run w p l).answers ≡ calls_ask w p (alone (uncut l)) begun =
      ap (λ (cs : List Call). (run p cs (new_of w).player).answers) (sym (alone-is (uncut l))) ∙ (after_list (alone (uncut l)) (uncut-fits l f)).answers in
      subst AllAccepted (sym (after_list l f).answers)
      (list-unrefused w p l begun begun h refl (record { ms = omega arith; mm = omega arith }) (subst AllAccepted uncut-answers a))

  claim-is : (l : List CutCall) → AllWellCut l → ReadsFit l → Claim w p l
  claim-is l h f = record { after = λ n. after-calls (take n l) (well-take n l f); unrefused = unrefused l h f }

pub third-demand : ThirdDemand
third-demand w p l t ok h i = claim-is w p (record { taken = t; twelve = i.twelve }) ok l h i.reads
