-- The record writer accepts the record of every player that a cut list gives: its name is the workout's, which passed question 5.
use Rattle.std.specs.Prelude.{Ok, Result, ⊤}
use mathlib.Core.Path.{◌≡◌, ap, ap₂, ◌∙◌}
use mathlib.Core.Bool.{Bool, true}
use mathlib.Core.List.{List}
use Prim.Native.Nat.{ℕ, ◌≤◌}
use lib.ListN.{length}
use borrow.Author.Tests.{le-leb}
use Rattle.le.specs.Le.{written}
use Rattle.refusal.specs.declared.Refusal.TheVariants as refusals
use Rattle.refusal.specs.Number.{ask}
use Rattle.refusal.specs.declared.Refusal.{Refusal}
use Rattle.names.specs.Names.{name_ok}
use Rattle.zones.specs.declared.TrainingProfile.{TrainingProfile}
use Rattle.zones.specs.Zones.{profile_ok}
use Rattle.model.specs.declared.Workout.{Workout}
use Rattle.state.specs.declared.Player.{Player}
use Rattle.state.specs.declared.Summary.{Summary}
use Rattle.history.specs.Record.{record_size, record_of, record_bytes}
use Rattle.record_writer.specs.Write.{write_answer, output_by, output_of}
use Rattle.machine.specs.Cutting.{CutCall}
use Rattle.machine.specs.Runs.{begun, after_calls}
use Rattle.machine.specs.ThirdDemand.{Taken, InMemory, cut_run, machine_record}
use Rattle.machine.proofs.Scope.{Held}
use Rattle.machine.proofs.Demand.{after_list, summary-is}
use Rattle.replay.proofs.Sheets.{name-passes}
use Rattle.replay_machine.specs.Stored.{record_for, StoredRecord}

module _ (w : Workout) (p : TrainingProfile) (l : List CutCall) (t : Taken w) (ok : profile_ok p ≡ true) (i : InMemory w l) where
  abbrev held : Held w
  held = record { taken = t; twelve = i.twelve }

  abbrev player : Player
  player = (cut_run w p l).player

  workout-is : player.workout ≡ w
  workout-is = (after_list w p held ok l i.reads).after.same.workout

  accepted : (journal id start room : ℕ) (dated : Bool) → record_size ≤ room → write_answer (record_for player journal id start dated) room ≡ Ok tt
  unfolding write_answer
  accepted journal id start room dated h =
      ap₂ (λ (name enough : Bool). ask name refusals.Field (ask enough refusals.Output (Ok tt)))
      (ap (λ (v : Workout). name_ok v.name) workout-is ∙ name-passes w t.passes) (le-leb record_size room h)

  written_is : (journal id start : ℕ) (dated : Bool) (out : List ℕ) → record_size ≤ length out
      → output_of (record_for player journal id start dated) out ≡ written out 0 (machine_record w (after_calls w p l begun).machine journal id start dated)
  unfolding output_of
  written_is journal id start dated out h =
      ap (λ (a : Result ⊤ Refusal). output_by a (record_for player journal id start dated) out) (accepted journal id start (length out) dated h)
      ∙ ap₂ (λ (v : Workout) (s : Summary). written out 0 (record_bytes (record_of v.name v.test s journal id start dated))) workout-is
      (summary-is w p held ok l i.reads)

pub stored-record : StoredRecord
stored-record w p l t ok i = record { accepted = accepted w p l t ok i; written_is = written_is w p l t ok i }
