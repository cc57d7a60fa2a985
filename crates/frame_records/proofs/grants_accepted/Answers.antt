-- `grants_accepted`: every call keeps a bike sound, so that four sound bikes pass 20 and 10 after every list.
use Rattle.std.specs.Prelude.{Ok, Result, ⊤}
use mathlib.Core.Path.{◌≡◌, refl, sym, ap, ap₂, ◌∙◌, subst}
use mathlib.Core.Bool.{Bool, true}
use mathlib.Core.List.{List, [], ◌∷◌}
use Prim.Native.Nat.{ℕ, zero, suc}
use native.Mathlib.Omega.{arith}
use lib.ListN.{length}
use Rattle.refusal.specs.declared.Refusal.TheVariants as refusals
use Rattle.refusal.specs.Number.{ask}
use Rattle.refusal.specs.declared.Refusal.{Refusal}
use Rattle.zones.specs.declared.TrainingProfile.{TrainingProfile}
use Rattle.zones.specs.Zones.{profile_ok}
use Rattle.model.specs.declared.Workout.{Workout}
use Rattle.validation.specs.Sound.{workout_answer}
use Rattle.state.specs.declared.Player.{Player}
use Rattle.standing.specs.Standing.{standing_of}
use Rattle.start.specs.Start.{fresh, new_by, new_of}
use Rattle.keeps.specs.Keeps.{PlayerFits}
use Rattle.keeps.proofs.Fresh.{keeps-standing}
use Rattle.keeps.proofs.Fits.{read_fits, ride-fits, skip-fits, extend_fits}
use Rattle.frame.specs.declared.Bike.{Bike}
use Rattle.frame.specs.declared.Granted.{Granted}
use Rattle.frame.specs.Frame.{bikes_answer}
use Rattle.frame.proofs.Laws.{grant-is}
use Rattle.machine.specs.Cutting.{Call, read, ride, skip, extend, ReadFits}
use Rattle.machine.specs.Runs.{called}
use Rattle.machine.proofs.Lists.{call-keeps}
use Rattle.frame_records.specs.Apart.{FrameCall, call, grant, changed_at, after_call, frame_run}
use Rattle.frame_records.specs.Accepted.{Sound, AllReadsFit}
use Rattle.frame_records.proofs.grants_accepted.Goals as goal

called-fits : (f : TrainingProfile) (c : Call) (p : Player) → ReadFits c → PlayerFits p → PlayerFits (called f c p).player
unfolding called
called-fits f (read sample) p power fits = read_fits p fits sample power
called-fits f (ride ms mm kinds values) p power fits = ride-fits p fits ms mm f kinds values
called-fits f (skip kinds values) p power fits = skip-fits p fits kinds values
called-fits f (extend secs metres) p power fits = extend_fits p fits secs metres

call-sound : (c : Call) (b : Bike) → ReadFits c → Sound b → Sound (after_call c b)
call-sound c b power sound =
    record {
      stands = call-keeps b.profile c b.player sound.fits sound.stands;
      profiled = sound.profiled;
      fits = called-fits b.profile c b.player power sound.fits;
    }

abbrev AllSound : List Bike → Type 0
AllSound [] = Unit
AllSound (b ∷ bs) = Sound b × AllSound bs

changed-sound : (i : ℕ) (c : Call) (bs : List Bike) → ReadFits c → AllSound bs → AllSound (changed_at i (after_call c) bs)
unfolding changed_at
changed-sound i c [] power sound = tt
changed-sound zero c (b ∷ bs) power sound = (call-sound c b power sound.0, sound.1)
changed-sound (suc i) c (b ∷ bs) power sound = (sound.0, changed-sound i c bs power sound.1)

run_sound : (l : List FrameCall) (bs : List Bike) → AllReadsFit l → AllSound bs → AllSound (frame_run l bs).bikes
unfolding frame_run
run_sound [] bs powers sound = sound
run_sound (call i c ∷ l) bs powers sound = run_sound l (changed_at i (after_call c) bs) powers.1 (changed-sound i c bs powers.0 sound)
run_sound (grant supply i ∷ l) bs powers sound = run_sound l bs powers sound

sound-pass : (bs : List Bike) → AllSound bs → bikes_answer bs ≡ Ok tt
unfolding bikes_answer
sound-pass [] sound = refl
sound-pass (b ∷ bs) sound =
    ap₂ (λ (s p : Bool). ask s refusals.Standing (ask p refusals.Profile (bikes_answer bs))) sound.0.stands sound.0.profiled
    ∙ sound-pass bs sound.1

fresh-sound : (w : Workout) (f : TrainingProfile) → length w.steps ≡ 12 → workout_answer w ≡ Ok tt → profile_ok f ≡ true
    → Sound (record { player = (new_of w).player; profile = f })
unfolding new_of fresh
fresh-sound w f twelve e ok =
    let is : fresh w ≡ (new_of w).player = sym (ap (λ (a : Result ⊤ Refusal). (new_by w a).player) e) in
    record {
      stands = subst (λ (p : Player). standing_of p ≡ true) is (keeps-standing.new w twelve e);
      profiled = ok;
      fits = subst PlayerFits is (record { twelve = twelve; power = omega arith });
    }

pub returns : goal.returns
returns c =
    record {
      fresh = fresh-sound;
      accepted = λ l a b c d sa sb sc sd powers supply bike h.
          let bikes : List Bike = (frame_run l (a ∷ b ∷ c ∷ d ∷ [])).bikes in
          let pass : bikes_answer bikes ≡ Ok tt = sound-pass bikes (run_sound l (a ∷ b ∷ c ∷ d ∷ []) powers (sa, (sb, (sc, (sd, tt))))) in
          sym (ap (λ (g : Granted). g.answer) (grant-is bikes supply bike (Ok tt) h pass));
    }
