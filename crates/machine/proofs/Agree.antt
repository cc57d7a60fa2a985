-- Two cuttings of one list in which nothing is refused bring the machine to the same state: a ride is its milliseconds, whatever its
-- pieces.
use Rattle.std.specs.Prelude.{Ok, Result, ⊤}
use Rattle.refusal.specs.declared.Refusal.{Refusal}
use mathlib.Core.Path.{◌≡◌, refl, sym, ap, ◌∙◌, subst}
use mathlib.Core.List.{List, [], ◌∷◌}
use Prim.Native.Nat.{ℕ}
use native.Mathlib.Nat.{add-zero}
use native.Mathlib.Omega.{arith}
use Rattle.zones.specs.declared.TrainingProfile.{TrainingProfile}
use Rattle.model.specs.declared.Workout.{Workout}
use Rattle.machine.specs.Machine.{Machine, step_at, reading, with_extra, extra_after, skipped, milliseconds}
use Rattle.machine.specs.Cutting.{Call, read, ride, skip, extend, Piece, CutCall, uncut, sum_ms, sum_mm, Cuts, WellCut, AllWellCut, own, alone}
use Rattle.machine.specs.Runs.{Progress, begun, read_asks, skip_asks, extend_asks, unless_refused, after_pieces, after_call, after_calls, pieces_ask, call_asks, calls_ask}
use Rattle.machine.specs.ThirdDemand.{AllAccepted, CuttingsAgree}
use Rattle.machine.proofs.Pieces.{pieces-at-once}
use Rattle.machine.proofs.Unrefused.{accepted-left, accepted-right, list-unrefused}

module _ (w : Workout) (p : TrainingProfile) where
  -- a call that isn't a ride
  unless-same : (a b : Result ⊤ Refusal) (f g : Progress) (after : Machine → Machine) → g.machine ≡ f.machine → a ≡ Ok tt → b ≡ Ok tt
      → (unless_refused a g (after g.machine)).machine ≡ (unless_refused b f (after f.machine)).machine
  unfolding unless_refused
  unless-same a b f g after e x y =
      ap (λ (z : Result ⊤ Refusal). (unless_refused z g (after g.machine)).machine) x ∙ ap after e ∙ sym (ap (λ (z : Result ⊤ Refusal). (unless_refused z f (after f.machine)).machine) y)

  -- a ride none of whose pieces is refused is its milliseconds
  ride-whole : (ms mm kinds values : ℕ) (es : List Piece) (s : Progress) → Cuts ms mm es → AllAccepted (pieces_ask w p kinds values es s)
      → (after_pieces w p kinds values es s).machine ≡ milliseconds w p ms s.machine
  ride-whole ms mm kinds values es s h a =
      pieces-at-once.at_once w p kinds values es s
      ∙ ap (λ (n : ℕ). milliseconds w p n s.machine) (pieces-at-once.unrefused w p kinds values es s a ∙ h.ms_sum)

  call_same : (c : Call) (es fs : List Piece) (f g : Progress) → WellCut c es → WellCut c fs → g.machine ≡ f.machine → AllAccepted (call_asks w p c es f)
      → AllAccepted (call_asks w p c fs g) → (after_call w p c fs g).machine ≡ (after_call w p c es f).machine
  unfolding call_asks after_call
  call_same (read sample) es fs f g h k e a b = unless-same (read_asks sample) (read_asks sample) f g (reading sample) e b.0 a.0
  call_same (ride ms mm kinds values) es fs f g h k e a b =
      ride-whole ms mm kinds values fs g k b ∙ ap (milliseconds w p ms) e ∙ sym (ride-whole ms mm kinds values es f h a)
  call_same (skip kinds values) es fs f g h k e a b =
      unless-same (skip_asks w kinds values g) (skip_asks w kinds values f) f g (λ m. skipped w (step_at w m.step.position) m) e b.0 a.0
  call_same (extend secs metres) es fs f g h k e a b =
      unless-same (extend_asks w secs g) (extend_asks w secs f) f g (λ m. with_extra (extra_after (step_at w m.step.position) secs m.step.extra) m) e b.0 a.0

  list_same : (l k : List CutCall) (f g : Progress) → uncut l ≡ uncut k → AllWellCut l → AllWellCut k → g.machine ≡ f.machine
      → AllAccepted (calls_ask w p l f) → AllAccepted (calls_ask w p k g) → (after_calls w p k g).machine ≡ (after_calls w p l f).machine
  unfolding uncut calls_ask after_calls
  list_same [] [] f g q h i e a b = e
  list_same [] (d ∷ k) f g q h i e a b = let z : ◌≡◌ {A = ℕ} 0 1 = cc in absurd (omega arith)
  list_same (c ∷ l) [] f g q h i e a b = let z : ◌≡◌ {A = ℕ} 0 1 = cc in absurd (omega arith)
  list_same (c ∷ l) (d ∷ k) f g q h i e a b =
      let same : d.call ≡ c.call = cc in
      let rest : uncut l ≡ uncut k = cc in
      let f' : Progress = after_call w p c.call c.pieces f in
      let g' : Progress = after_call w p d.call d.pieces g in
      let i' : WellCut c.call d.pieces = subst (λ (x : Call). WellCut x d.pieces) same i.0 in
      let b' : AllAccepted (call_asks w p c.call d.pieces g) =
      subst (λ (x : Call). AllAccepted (call_asks w p x d.pieces g)) same (accepted-left (call_asks w p d.call d.pieces g) (calls_ask w p k g') b) in
      let here : g'.machine ≡ f'.machine =
      ap (λ (x : Call). (after_call w p x d.pieces g).machine) same
      ∙ call_same c.call c.pieces d.pieces f g h.0 i' e (accepted-left (call_asks w p c.call c.pieces f) (calls_ask w p l f') a) b' in
      list_same l k f' g' rest h.1 i.1 here (accepted-right (call_asks w p c.call c.pieces f) (calls_ask w p l f') a)
      (accepted-right (call_asks w p d.call d.pieces g) (calls_ask w p k g') b)

-- A list as it stands is one of its own cuttings.

own-well : (c : Call) → WellCut c (own c)
unfolding own sum_ms sum_mm
own-well (read sample) = tt
own-well (ride ms mm kinds values) = record { some = omega arith; ms_sum = add-zero ms; mm_sum = add-zero mm }
own-well (skip kinds values) = tt
own-well (extend secs metres) = tt

alone-well : (cs : List Call) → AllWellCut (alone cs)
unfolding alone
alone-well [] = tt
alone-well (c ∷ cs) = (own-well c, alone-well cs)

alone-uncut : (cs : List Call) → uncut (alone cs) ≡ cs
unfolding alone uncut
alone-uncut [] = refl
alone-uncut (c ∷ cs) = ap (λ (rest : List Call). c ∷ rest) (alone-uncut cs)

both : (w : Workout) (p : TrainingProfile) (l k : List CutCall) → uncut l ≡ uncut k → AllWellCut l → AllWellCut k → AllAccepted (calls_ask w p l begun)
    → AllAccepted (calls_ask w p k begun) → (after_calls w p l begun).machine ≡ (after_calls w p k begun).machine
both w p l k q h i a b = sym (list_same w p l k begun begun q h i refl a b)

pub cuttings-agree : CuttingsAgree
cuttings-agree =
    record {
      both = both;
      as_it_stands =
          λ w p l h a.
          both w p l (alone (uncut l)) (sym (alone-uncut (uncut l))) h (alone-well (uncut l))
          (list-unrefused w p l begun begun h refl (record { ms = omega arith; mm = omega arith }) a) a;
    }
