-- Acts one after the other, and the questions before them.
use Rattle.std.specs.Prelude.{Err, None, Ok, Result, Some, ⊤}
use mathlib.Core.Path.{◌≡◌, refl, sym, ap, ◌∙◌}
use mathlib.Core.Bool.{Bool, true, ◌&&◌}
use mathlib.Core.List.{List, [], ◌∷◌}
use Prim.Native.Nat.{ℕ, suc, ◌+◌, ◌-◌, ◌≤◌, ◌<◌}
use native.Mathlib.Omega.{arith}
use lib.Dec.{leb}
use lib.ListN.{length}
use borrow.Author.Tests.{le-leb, lt-leb}
use Rattle.common.proofs.Tests.{and_left, and_right}
use Rattle.refusal.specs.declared.Refusal.{Refusal}
use Rattle.refusal.specs.declared.Refusal.TheVariants as refusals
use Rattle.refusal.specs.Number.{ask}
use Rattle.names.specs.Names.{name_ok}
use Rattle.zones.specs.declared.TrainingProfile.{TrainingProfile}
use Rattle.zones.specs.Zones.{profile_ok, profile_answer}
use Rattle.model.specs.declared.Workout.{Workout}
use Rattle.form.specs.Form.{step_slots, block_slots, form_ok}
use Rattle.validation.specs.Sound.{workout_answer}
use Rattle.validation.proofs.Passes.{ask-left, passes}
use Rattle.decode.specs.declared.Decoded.{Decoded}
use Rattle.decode.specs.Decode.{decode_of}
use Rattle.state.specs.declared.Core.{Core}
use Rattle.state.specs.declared.Player.{Player}
use Rattle.rounds.specs.Rounds.{riding}
use Rattle.standing.specs.Standing.{standing_of}
use Rattle.start.specs.declared.NewPlayer.{NewPlayer}
use Rattle.start.specs.Start.{fresh, new_by, new_of}
use Rattle.outcomes.specs.Outcomes.{Called, player_of}
use Rattle.keeps.proofs.Fresh.{fresh-made, keeps-standing}
use Rattle.history.specs.Record.{record_size}
use Rattle.record_writer.specs.Write.{write_answer, output_by, output_of}
use Rattle.machine.specs.Runs.{run}
use Rattle.sheet.specs.declared.Act.{Act}
use Rattle.sheet.specs.declared.Act.TheVariants.{Profile, Read, Skip, ExtendLong, Extend}
use Rattle.sheet.specs.declared.Act.TheVariants as variants
use Rattle.sheet.specs.declared.ActAnswer.{ActAnswer}
use Rattle.sheet.specs.Sheet.{count_in, place_of, profile_at, act_in, acts_from, refused_at, check_of}
use Rattle.replay.specs.declared.Acted.{Acted}
use Rattle.replay.specs.declared.Ridden.{Ridden}
use Rattle.replay.specs.Acts.{act_called, calls_of, nothing_ridden, ridden_to, go_on, unless_refused, at_no_act, at_act, play_acts, Ready, Acts}
use Rattle.replay.specs.Replay.{profile_in, play_sheet, Fresh, ridden_of, replay_record, replay_output}

pub not_refused : (outcome : ActAnswer) (rest : Ridden) → outcome.answer ≡ Ok tt → unless_refused outcome rest ≡ rest
not_refused outcome rest e = ap (λ (a : Result ⊤ Refusal). unless_refused (record { answer = a; act = outcome.act }) rest) e

module _ (w : Workout) (p : TrainingProfile) (s : List ℕ) (n i : ℕ) (q : Player) where
  abbrev o : Called
  o = act_called p (act_in s n i) q

  abbrev rest : Ridden
  rest = play_acts w p (acts_from s n (i + 1) (n - (i + 1))) (i + 1) o.player

  one-act : i < n → play_acts w p (acts_from s n i (n - i)) i q ≡ unless_refused (at_act i o.answer) rest
  unfolding acts_from play_acts
  one-act h = let one : n - i ≡ suc (n - (i + 1)) = omega arith in ap (λ (k : ℕ). play_acts w p (acts_from s n i k) i q) one

  acts-next : i < n → o.answer ≡ Ok tt → rest ≡ play_acts w p (acts_from s n i (n - i)) i q
  acts-next h e = sym (one-act h ∙ not_refused (at_act i o.answer) rest e)

  acts-refused : (r : Refusal) → i < n → o.answer ≡ Err r → nothing_ridden (refused_at r (Some i)) ≡ play_acts w p (acts_from s n i (n - i)) i q
  acts-refused r h e = sym (one-act h ∙ ap (λ (a : Result ⊤ Refusal). unless_refused (at_act i a) rest) e)

  acts-end : n ≤ i → ridden_to w q ≡ play_acts w p (acts_from s n i (n - i)) i q
  unfolding acts_from play_acts
  acts-end h = let none : n - i ≡ 0 = omega arith in sym (ap (λ (k : ℕ). play_acts w p (acts_from s n i k) i q) none)

-- Where the loop over the acts stands.
pub record At (w : Workout) (p : TrainingProfile) (s : List ℕ) (n : ℕ) (c₀ : Core) (m₀ : List ℕ) (c : Core) (m : List ℕ) (i : ℕ) : Type 0 where
  pub ready : Ready w c m
  pub least : 1 ≤ i
  pub most : i ≤ n
  pub same : play_acts w p (acts_from s n i (n - i)) i (player_of w (riding c m)) ≡ play_acts w p (acts_from s n 1 (n - 1)) 1 (player_of w (riding c₀ m₀))

module _ (w : Workout) (p : TrainingProfile) (s : List ℕ) (n : ℕ) (c₀ : Core) (m₀ : List ℕ) where
  pub at-start : Ready w c₀ m₀ → 1 ≤ n → At w p s n c₀ m₀ c₀ m₀ 1
  at-start h k = record { ready = h; least = omega arith; most = k; same = refl }

  module _ (c : Core) (m : List ℕ) (i : ℕ) (at : At w p s n c₀ m₀ c m i) where
    abbrev P : Player
    P = player_of w (riding c m)

    abbrev all : Ridden
    all = play_acts w p (acts_from s n 1 (n - 1)) 1 (player_of w (riding c₀ m₀))

    -- what was played is the sheet's act
    played-is : (act : Act) → act ≡ act_in s n i → act_called p act P ≡ act_called p (act_in s n i) P
    played-is act e = ap (λ (x : Act). act_called p x P) e

    pub at_next : {m' ks vs ks' vs' : List ℕ} (act : Act) (r : Acted) → i < n → act ≡ act_in s n i → Acts w m' ks vs ks' vs' r (act_called p act P)
        → Ready w r.core m' → r.answer ≡ Ok tt → At w p s n c₀ m₀ r.core m' (i + 1)
    at_next {m'} act r h e a ready accepted =
        let x = played-is act e in
        record {
          ready = ready;
          least = omega (arith, at.least);
          most = omega (arith, h);
          same =
              ap (play_acts w p (acts_from s n (i + 1) (n - (i + 1))) (i + 1)) (a.player ∙ ap (λ (o : Called). o.player) x)
              ∙ acts-next w p s n i P h (sym (a.answer ∙ ap (λ (o : Called). o.answer) x) ∙ accepted) ∙ at.same;
        }

    pub at-refused : {m' ks vs ks' vs' : List ℕ} (act : Act) (r : Acted) (refusal : Refusal) → i < n → act ≡ act_in s n i
        → Acts w m' ks vs ks' vs' r (act_called p act P) → r.answer ≡ Err refusal → nothing_ridden (refused_at refusal (Some i)) ≡ all
    at-refused act r refusal h e a refused =
        acts-refused w p s n i P refusal h (sym (a.answer ∙ ap (λ (o : Called). o.answer) (played-is act e)) ∙ refused) ∙ at.same

    pub at-end : n ≤ i → ridden_to w P ≡ all
    at-end h = acts-end w p s n i P h ∙ at.same

-- A fresh player is ready, and is the player of its core.

module _ (q : Player) (f : Fresh q) (twelve : length q.workout.steps ≡ 12) where
  pub fresh-made-of : player_of q.workout (riding q.core q.minute) ≡ q
  fresh-made-of =
      let w = q.workout in
      ap (λ (x : Player). player_of w (riding x.core x.minute)) f.new ∙ sym (fresh-made w twelve f.passes) ∙ sym f.new

  pub fresh-ready : length q.minute ≡ 60 → Ready q.workout q.core q.minute
  fresh-ready sixty =
      record {
        stands = ap standing_of (fresh-made-of ∙ f.new) ∙ keeps-standing.new q.workout twelve f.passes;
        twelve = twelve;
        sixty = sixty;
      }

pub new-fresh : (w : Workout) → (new_of w).answer ≡ Ok tt → Fresh (new_of w).player
unfolding new_of fresh
new-fresh w = at (workout_answer w) refl
  where
    at : (a : Result ⊤ Refusal) → workout_answer w ≡ a → (new_by w a).answer ≡ Ok tt → Fresh (new_by w a).player
    at (Ok tt) e h = record { passes = e; new = refl }
    at (Err r) e h = absurd (let z : ◌≡◌ {A = ℕ} 0 1 = cc in omega arith)

-- What was not refused passed its question.

pub passed : (outcome : ActAnswer) (rest : Ridden) → (unless_refused outcome rest).outcome.answer ≡ Ok tt → (outcome.answer ≡ Ok tt) × (unless_refused outcome rest ≡ rest)
passed outcome rest = at outcome.answer refl
  where
    at : (a : Result ⊤ Refusal) → outcome.answer ≡ a → (go_on a outcome rest).outcome.answer ≡ Ok tt → (outcome.answer ≡ Ok tt) × (go_on a outcome rest ≡ rest)
    at (Ok tt) e h = (e, refl)
    at (Err r) e h = absurd (let z : Err r ≡ Ok tt = sym e ∙ h in let y : ◌≡◌ {A = ℕ} 0 1 = cc in omega arith)

-- Where no act is refused, the acts are the calls that they stand for.
pub acts-ridden : (w : Workout) (p : TrainingProfile) (acts : List Act) (i : ℕ) (q : Player) → (play_acts w p acts i q).outcome.answer ≡ Ok tt
    → play_acts w p acts i q ≡ ridden_to w (run p (calls_of acts) q).player
unfolding play_acts calls_of run act_called
acts-ridden w p [] i q e = refl
acts-ridden w p (act ∷ acts) i q e =
    let o = act_called p act q in
    let rest = play_acts w p acts (i + 1) o.player in
    let h = passed (at_act i o.answer) rest e in
    h.1
    ∙ acts-ridden w p acts (i + 1) o.player (sym (ap (λ (r : Ridden). r.outcome.answer) h.1) ∙ e)
    ∙ ap (ridden_to w) (one act)
  where
    one : (act : Act) → (run p (calls_of acts) (act_called p act q).player).player ≡ (run p (calls_of (act ∷ acts)) q).player
    one (Profile f) = refl
    one (Read sample) = refl
    one (variants.Ride ms mm) = refl
    one Skip = refl
    one ExtendLong = refl
    one Extend = refl

pub name-passes : (w : Workout) → workout_answer w ≡ Ok tt → name_ok w.name ≡ true
unfolding form_ok
name-passes w e =
    let n = w.step_count in
    let b = w.block_count in
    let front = leb n 12 && leb b 8 in
    let steps = step_slots w.steps n in
    let blocks = block_slots w.blocks b in
    and_right front (name_ok w.name) (and_left (front && name_ok w.name) steps (and_left (front && name_ok w.name && steps) blocks (passes w e).form))

-- The questions before the acts, one after the other.
module _ (file s : List ℕ) (room : ℕ) where
  abbrev d : Decoded
  d = decode_of file

  abbrev made : NewPlayer
  made = new_of d.workout

  abbrev output : Result ⊤ Refusal
  output = ask (leb record_size room) refusals.Output (Ok tt)

  abbrev last : Ridden
  last = unless_refused (at_no_act output) (play_sheet made.player s)

  abbrev third : Ridden
  third = unless_refused (check_of s) last

  abbrev second : Ridden
  second = unless_refused (at_no_act made.answer) third

  pub file-refused : (r : Refusal) → d.answer ≡ Err r → nothing_ridden (refused_at r None) ≡ ridden_of file s room
  unfolding ridden_of
  file-refused r e = sym (ap (λ (a : Result ⊤ Refusal). unless_refused (at_no_act a) second) e)

  module _ (e : d.answer ≡ Ok tt) where
    past-file : ridden_of file s room ≡ second
    unfolding ridden_of
    past-file = not_refused (at_no_act d.answer) second e

    pub new-refused : (r : Refusal) → made.answer ≡ Err r → nothing_ridden (refused_at r None) ≡ ridden_of file s room
    new-refused r f = sym (past-file ∙ ap (λ (a : Result ⊤ Refusal). unless_refused (at_no_act a) third) f)

    module _ (f : made.answer ≡ Ok tt) where
      past-new : ridden_of file s room ≡ third
      past-new = past-file ∙ not_refused (at_no_act made.answer) third f

      pub sheet-refused : (r : Refusal) → (check_of s).answer ≡ Err r → nothing_ridden (check_of s) ≡ ridden_of file s room
      sheet-refused r g = sym (past-new ∙ ap (λ (a : Result ⊤ Refusal). go_on a (check_of s) last) g)

      module _ (g : (check_of s).answer ≡ Ok tt) where
        past-sheet : ridden_of file s room ≡ last
        past-sheet = past-new ∙ not_refused (check_of s) last g

        pub no_room : room < record_size → nothing_ridden (refused_at refusals.Output None) ≡ ridden_of file s room
        no_room h =
            sym (past-sheet ∙ ap (λ (b : Bool). unless_refused (at_no_act (ask b refusals.Output (Ok tt))) (play_sheet made.player s)) (lt-leb record_size room h))

        pub acts-played : record_size ≤ room → play_sheet made.player s ≡ ridden_of file s room
        acts-played h =
            sym (past-sheet ∙ ap (λ (b : Bool). unless_refused (at_no_act (ask b refusals.Output (Ok tt))) (play_sheet made.player s)) (le-leb record_size room h))

  abbrev acts : List Act
  acts = acts_from s (count_in s) 1 (count_in s - 1)

  -- A replay that isn't refused passed every question, and is the run of its calls.
  pub record Accepts : Type 0 where
    pub file-passes : d.answer ≡ Ok tt
    pub new-passes : made.answer ≡ Ok tt
    pub output-passes : output ≡ Ok tt
    pub profile-passes : profile_answer (profile_in s) ≡ Ok tt
    pub ridden : ridden_of file s room ≡ ridden_to made.player.workout (run (profile_in s) (calls_of acts) made.player).player

  pub accepts : (ridden_of file s room).outcome.answer ≡ Ok tt → Accepts
  unfolding ridden_of play_sheet
  accepts e =
      let a = passed (at_no_act d.answer) second e in
      let e₁ : second.outcome.answer ≡ Ok tt = sym (ap (λ (r : Ridden). r.outcome.answer) a.1) ∙ e in
      let b = passed (at_no_act made.answer) third e₁ in
      let e₂ : third.outcome.answer ≡ Ok tt = sym (ap (λ (r : Ridden). r.outcome.answer) b.1) ∙ e₁ in
      let k = passed (check_of s) last e₂ in
      let e₃ : last.outcome.answer ≡ Ok tt = sym (ap (λ (r : Ridden). r.outcome.answer) k.1) ∙ e₂ in
      let o = passed (at_no_act output) (play_sheet made.player s) e₃ in
      let e₄ : (play_sheet made.player s).outcome.answer ≡ Ok tt = sym (ap (λ (r : Ridden). r.outcome.answer) o.1) ∙ e₃ in
      let w = made.player.workout in
      let rest = play_acts w (profile_in s) acts 1 made.player in
      let q = passed (at_act 0 (profile_answer (profile_in s))) rest e₄ in
      let e₅ : rest.outcome.answer ≡ Ok tt = sym (ap (λ (r : Ridden). r.outcome.answer) q.1) ∙ e₄ in
      record {
        file-passes = a.0;
        new-passes = b.0;
        output-passes = o.0;
        profile-passes = q.0;
        ridden = a.1 ∙ b.1 ∙ k.1 ∙ o.1 ∙ q.1 ∙ acts-ridden w (profile_in s) acts 1 made.player e₅;
      }

  -- a record that is to be written passes the writer's questions
  pub writes : (journal id start : ℕ) (dated : Bool) → (ridden_of file s room).outcome.answer ≡ Ok tt
      → write_answer (replay_record (ridden_of file s room) journal id start dated) room ≡ Ok tt
  unfolding write_answer
  writes journal id start dated e =
      let h = accepts e in
      let ok : name_ok (ridden_of file s room).name ≡ true =
      ap (λ (r : Ridden). name_ok r.name) h.ridden ∙ name-passes made.player.workout (new-fresh d.workout h.new-passes).passes in
      ap (λ (t : Bool). ask t refusals.Field output) ok ∙ h.output-passes

-- The output.
module _ (file s : List ℕ) (journal id start : ℕ) (dated : Bool) (out : List ℕ) where
  abbrev r : Ridden
  r = ridden_of file s (length out)

  pub output-stays : (refusal : Refusal) → r.outcome.answer ≡ Err refusal → out ≡ replay_output file s journal id start dated out
  unfolding replay_output
  output-stays refusal e = sym (ap (λ (a : Result ⊤ Refusal). output_by a (replay_record r journal id start dated) out) e)

  pub output-written : r.outcome.answer ≡ Ok tt → output_of (replay_record r journal id start dated) out ≡ replay_output file s journal id start dated out
  unfolding replay_output output_of
  output-written e =
      ap (λ (a : Result ⊤ Refusal). output_by a (replay_record r journal id start dated) out) (writes file s (length out) journal id start dated e ∙ sym e)

-- The profile, then the other acts.
module _ (q : Player) (s : List ℕ) (n : ℕ) (p : TrainingProfile) (e : n ≡ count_in s) (f : p ≡ profile_at s (2 + n)) where
  abbrev others : Ridden
  others = play_acts q.workout (profile_in s) (acts_from s (count_in s) 1 (count_in s - 1)) 1 q

  first-place : p ≡ profile_in s
  first-place = f ∙ ap (profile_at s) (let at : 2 + n ≡ place_of (count_in s) 0 = omega (arith, e) in at)

  pub profile-passed : profile_answer p ≡ Ok tt → profile_ok p ≡ true
  unfolding profile_answer
  profile-passed h = ask-left (profile_ok p) refusals.Profile (Ok tt) h

  pub profile-refused : (r : Refusal) → profile_answer p ≡ Err r → nothing_ridden (refused_at r (Some 0)) ≡ play_sheet q s
  unfolding play_sheet
  profile-refused r h = sym (ap (λ (a : Result ⊤ Refusal). unless_refused (at_act 0 a) others) (sym (ap profile_answer first-place) ∙ h))

  pub sheet-played : profile_answer p ≡ Ok tt → play_acts q.workout p (acts_from s n 1 (n - 1)) 1 q ≡ play_sheet q s
  unfolding play_sheet
  sheet-played h =
      ap (λ (x : TrainingProfile). play_acts q.workout x (acts_from s n 1 (n - 1)) 1 q) first-place
      ∙ ap (λ (k : ℕ). play_acts q.workout (profile_in s) (acts_from s k 1 (k - 1)) 1 q) e
      ∙ sym (not_refused (at_act 0 (profile_answer (profile_in s))) others (sym (ap profile_answer first-place) ∙ h))
