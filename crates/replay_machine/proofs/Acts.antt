-- The acts of a sheet are calls of which the third demand speaks, so their record is the machine's.
use Rattle.std.specs.Prelude.{Ok, Result, ⊤}
use mathlib.Core.Path.{◌≡◌, ap, ap₂, ◌∙◌}
use mathlib.Core.Bool.{Bool, true, false}
use mathlib.Core.List.{List, [], ◌∷◌}
use Prim.Native.Nat.{ℕ, zero, suc, ◌+◌, ◌-◌, ◌<◌}
use native.Mathlib.Omega.{arith}
use lib.ListN.{length, take, drop, get_or}
use Rattle.common.specs.Lists.{all}
use Rattle.le.specs.Le.{number_of, part, Bytes, written}
use Rattle.le.proofs.Laws.{bytes_drop}
use Rattle.refusal.specs.declared.Refusal.TheVariants as refusals
use Rattle.refusal.specs.declared.Refusal.{Refusal}
use Rattle.zones.specs.declared.TrainingProfile.{TrainingProfile}
use Rattle.zones.specs.Zones.{profile_ok, profile_answer}
use Rattle.model.specs.declared.Workout.{Workout}
use Rattle.model.specs.Workout.{steps_of}
use Rattle.decode.specs.Decode.{decode_of}
use Rattle.validation.specs.Sound.{workout_answer}
use Rattle.validation.proofs.Passes.{ask-left}
use Rattle.codec.specs.RoundTrip.{accepted_as}
use Rattle.codec.proofs.Fillers.{read-is-written}
use Rattle.power.specs.Power.{or_zero, reading_at}
use Rattle.readings.specs.Readings.{flag_set}
use Rattle.state.specs.declared.Summary.{Summary}
use Rattle.start.specs.Start.{fresh, new_by, new_of}
use Rattle.history.specs.Record.{record_of, record_bytes}
use Rattle.record_writer.specs.Write.{output_by}
use Rattle.machine.specs.Machine.{summary_of}
use Rattle.machine.specs.Cutting.{ReadsFit, alone}
use Rattle.machine.specs.Runs.{run}
use Rattle.machine.specs.ThirdDemand.{is_plain, machine_record}
use Rattle.machine.proofs.Scope.{Held}
use Rattle.machine.proofs.Demand.{summary-alone}
use Rattle.sheet.specs.declared.Act.{Act}
use Rattle.sheet.specs.declared.Act.TheVariants.{Profile, Read, Skip, ExtendLong, Extend}
use Rattle.sheet.specs.declared.Act.TheVariants as variants
use Rattle.sheet.specs.Sheet.{count_in, flags_at, place_of, kind_in, acts_at, act_in, acts_from}
use Rattle.replay.specs.declared.Ridden.{Ridden}
use Rattle.replay.specs.Acts.{calls_of}
use Rattle.replay.specs.Replay.{profile_in, ridden_of, replay_record, replay_answer, replay_output}
use Rattle.replay.proofs.Sheets.{accepts}
use Rattle.replay_machine.specs.ReplayMachine.{sheet_calls, machine_after, ReplayMachine}

-- A reading of a sheet has 16 bits.

two_bytes : (l : List ℕ) → Bytes l → number_of (take 2 l) < 65536
unfolding number_of
two_bytes [] h = omega arith
two_bytes (a ∷ []) h = omega (arith, h.0)
two_bytes (a ∷ b ∷ l) h = omega (arith, h.0, h.1.0)

present-fits : (present : Bool) (value : ℕ) → value < 65536 → or_zero (reading_at present value) < 65536
present-fits true value h = h
present-fits false value h = omega arith

-- What the third demand supposes of an act's call.
abbrev Fits : Act → Type 0
Fits act = ReadsFit (alone (calls_of (act ∷ [])))

module _ (s : List ℕ) (b : Bytes s) where
  at-kind : (at k : ℕ) → Fits (get_or (acts_at s at) k Extend)
  unfolding calls_of alone
  at-kind at zero = tt
  at-kind at (suc zero) = (present-fits (flag_set (flags_at s at) 1) (number_of (part s at 2)) (two_bytes (drop at s) (bytes_drop at s b)), tt)
  at-kind at (suc (suc zero)) = (tt, tt)
  at-kind at (suc (suc (suc zero))) = (tt, tt)
  at-kind at (suc (suc (suc (suc zero)))) = (tt, tt)
  at-kind at (suc (suc (suc (suc (suc k))))) = (tt, tt)

  act-fits : (n i : ℕ) → Fits (act_in s n i)
  unfolding act_in
  act-fits n i = at-kind (place_of n i) (kind_in s i)

  joined : (act : Act) (acts : List Act) → Fits act → ReadsFit (alone (calls_of acts)) → ReadsFit (alone (calls_of (act ∷ acts)))
  unfolding calls_of alone
  joined (Profile f) acts h k = k
  joined (Read sample) acts h k = (h.0, k)
  joined (variants.Ride ms mm) acts h k = (h.0, k)
  joined Skip acts h k = (tt, k)
  joined ExtendLong acts h k = (tt, k)
  joined Extend acts h k = (tt, k)

  from-fits : (n i k : ℕ) → ReadsFit (alone (calls_of (acts_from s n i k)))
  unfolding acts_from calls_of alone
  from-fits n i zero = tt
  from-fits n i (suc k) = joined (act_in s n i) (acts_from s n (i + 1) k) (act-fits n i) (from-fits n (i + 1) k)

module _ (file s : List ℕ) (bf : Bytes file) (bs : Bytes s) where
  abbrev w : Workout
  w = (decode_of file).workout

  abbrev p : TrainingProfile
  p = profile_in s

  taken : (decode_of file).answer ≡ Ok tt → all is_plain (steps_of w) ≡ true → Held w
  taken e plain =
      let is : decode_of file ≡ accepted_as w = ap (λ (a : Result ⊤ Refusal). record { answer = a; workout = w }) e in
      record { taken = record { passes = read-is-written.sound file bf w is; plain = plain }; twelve = (read-is-written.fits file bf w is).twelve }

  -- the fresh player is the workout's
  new-workout : workout_answer w ≡ Ok tt → (new_of w).player.workout ≡ w
  unfolding new_of fresh
  new-workout e = ap (λ (a : Result ⊤ Refusal). (new_by w a).player.workout) e

  summary-same : (decode_of file).answer ≡ Ok tt → all is_plain (steps_of w) ≡ true → profile_answer p ≡ Ok tt
      → (run p (sheet_calls s) (new_of w).player).player.core.summary ≡ summary_of w (machine_after w s)
  unfolding sheet_calls machine_after profile_answer
  summary-same e plain ok =
      summary-alone w p (taken e plain) (ask-left (profile_ok p) refusals.Profile (Ok tt) ok) (sheet_calls s) (from-fits s bs (count_in s) 1 (count_in s - 1))

  pub output-same : all is_plain (steps_of w) ≡ true → (journal id start : ℕ) (dated : Bool) (out : List ℕ) → (replay_answer file s (length out)).answer ≡ Ok tt
      → replay_output file s journal id start dated out ≡ written out 0 (machine_record w (machine_after w s) journal id start dated)
  unfolding replay_answer replay_output sheet_calls
  output-same plain journal id start dated out e =
      let h = accepts file s (length out) e in
      let r = ridden_of file s (length out) in
      let v = new-workout (taken h.file-passes plain).taken.passes in
      ap (λ (a : Result ⊤ Refusal). output_by a (replay_record r journal id start dated) out) e
      ∙ ap (λ (r : Ridden). written out 0 (record_bytes (replay_record r journal id start dated))) h.ridden
      ∙ ap₂ (λ (v : Workout) (x : Summary). written out 0 (record_bytes (record_of v.name v.test x journal id start dated))) v (summary-same h.file-passes plain h.profile-passes)

pub replay-machine : ReplayMachine
replay-machine = λ file s bf bs plain journal id start dated out e. output-same file s bf bs plain journal id start dated out e
