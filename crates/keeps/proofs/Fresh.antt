-- A fresh player of a workout that passes 5 to 9 stands, and one of the empty workout doesn't.
use Rattle.std.specs.Prelude.{Ok, Result, ⊤, is_some}
use mathlib.Core.Path.{◌≡◌, refl, sym, ap, ◌∙◌}
use mathlib.Core.Bool.{Bool, true, false, ◌&&◌}
use Prim.Native.Nat.{◌<◌}
use native.Mathlib.Omega.{arith}
use lib.ListN.{length}
use borrow.Author.Tests.{lt-leb, lt-ltb}
use Rattle.common.proofs.Tests.{and_both}
use Rattle.refusal.specs.declared.Refusal.TheVariants as refusals
use Rattle.refusal.specs.declared.Invalid.TheVariants as invalids
use Rattle.refusal.specs.Number.{ask}
use Rattle.refusal.specs.declared.Refusal.{Refusal}
use Rattle.model.specs.declared.Step.{Step}
use Rattle.model.specs.declared.Workout.{Workout}
use Rattle.model.specs.Workout.{empty_workout}
use Rattle.form.specs.Form.{form_ok}
use Rattle.order.specs.Order.{played_of, played_len, played_in}
use Rattle.order.proofs.Within.{playing-order}
use Rattle.validation.specs.Sound.{valid_answer, workout_answer}
use Rattle.validation.proofs.Passes.{passes, played-sound}
use Rattle.state.specs.State.{step_now}
use Rattle.standing.specs.Standing.{accepted, on_place, core_ok, step_is, standing_of}
use Rattle.standing.specs.Facts.{Stands}
use Rattle.standing.proofs.Known.{stands}
use Rattle.rounds.proofs.Keeps.{same-itself, fresh-below}
use Rattle.rounds.specs.Rounds.{riding}
use Rattle.outcomes.specs.Outcomes.{player_of}
use Rattle.start.specs.Start.{fresh_core, fresh}
use Rattle.keeps.specs.Keeps.{KeepsStanding}
use Rattle.keeps.proofs.Notes.{name-itself, step-here}
use Rattle.keeps.proofs.Calls.{plays, read_kept, skip-kept, ride-kept, add_kept, extend-kept}

module _ (w : Workout) (twelve : length w.steps ≡ 12) (e : workout_answer w ≡ Ok tt) where
  some : 0 < played_len w
  some = plays w twelve e

  core-stands : Stands 0 0 w (fresh_core (played_len w) (played_in (played_of w 0)))
  unfolding on_place
  core-stands =
      let v = passes w e in
      let found : is_some (played_of w 0) ≡ true = playing-order.played_below w v.blocks 0 ∙ lt-ltb 0 (played_len w) some in
      let below = fresh-below (played_in (played_of w 0)).step.length (played-sound w 0 v found) in
      record {
        within =
            record {
              valid = e;
              steps = refl;
              summary_steps = refl;
              steps-done = refl;
              skipped = omega arith;
              position = omega arith;
              done = sym (lt-leb (played_len w) 0 some);
              finished = refl;
              step = same-itself (step_now (played_in (played_of w 0)));
              tallies = refl;
              targeted = omega arith;
              step-ms = omega arith;
              step-mm = omega arith;
              energy = omega arith;
              test-ms = omega arith;
              low = omega arith;
              rest = omega arith;
              place = omega arith;
              long = omega arith;
              next = omega arith;
              cadence = refl;
              total-ms = omega arith;
              total-mm = omega arith;
            };
        lap = and_both (and_both below refl) refl;
      }

  fresh-stands : standing_of (fresh w) ≡ true
  unfolding fresh on_place
  fresh-stands = stands (fresh w) (record { core = core-stands; note = name-itself (played_in (played_of w 0)).step.note })

  -- a fresh player is that of its core: its note is the one that is looked up
  pub fresh-made : fresh w ≡ player_of w (riding (fresh w).core (fresh w).minute)
  unfolding fresh on_place
  fresh-made =
      ap (λ (s : Step). record { core = (fresh w).core; workout = w; note = s.note; minute = (fresh w).minute })
      (sym (step-here 0 0 w (fresh w).core core-stands.within some))

-- no step: 6, or 5
empty-refused : (t : Bool) (rest : Result ⊤ Refusal) → accepted (ask t refusals.Field (ask false (refusals.Invalid invalids.NoSteps) rest)) ≡ false
empty-refused true rest = refl
empty-refused false rest = refl

empty-falls : standing_of (fresh empty_workout) ≡ false
unfolding standing_of fresh workout_answer valid_answer empty_workout
empty-falls =
    ap (λ (t : Bool). t && (core_ok (played_len empty_workout) (fresh empty_workout).core && step_is (fresh empty_workout).core.on (fresh empty_workout).note (played_in (played_of empty_workout (on_place (fresh empty_workout).core)))))
    (empty-refused (form_ok empty_workout) (ask true (refusals.Invalid invalids.Block) (Ok tt)))

pub keeps-standing : KeepsStanding
keeps-standing =
    record {
      new = fresh-stands;
      refused = empty-falls;
      read = λ p sample e. read_kept p e sample;
      ride = λ p ms mm f k v fits e. ride-kept p ms mm f k v fits e;
      add = λ p ms mm sample f k v fits power e. add_kept p ms mm f k v fits e sample power;
      skip = λ p k v fits e. skip-kept p e fits k v;
      extend = extend-kept;
    }
