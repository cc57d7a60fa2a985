-- Two steps, or two names, that are compared number by number are equal.
use mathlib.Core.Path.{◌≡◌, refl, sym, ap, ap₂, subst, ◌∙◌}
use mathlib.Core.Bool.{Bool, true, ◌&&◌}
use mathlib.Core.List.{List, [], ◌∷◌}
use Prim.Native.Nat.{ℕ, zero, suc, ◌+◌, ◌<◌}
use native.Mathlib.Omega.{arith}
use lib.Dec.{eqb}
use lib.ListN.{length, get_or}
use borrow.Author.Tests.{eqb-true, eq-eqb}
use Rattle.std.specs.Cmp.{both_ways}
use Rattle.std.proofs.lemmas.List.{ext_get_or}
use Rattle.common.specs.Lists.{all_at}
use Rattle.common.proofs.Tests.{and_left, and_right, and_both}
use Rattle.names.specs.declared.Name.{Name}
use Rattle.model.specs.declared.Intensity.{Intensity}
use Rattle.model.specs.declared.Intensity.TheVariants.{Warmup, Work, Recovery, Cooldown, Test}
use Rattle.model.specs.declared.Length.{Length}
use Rattle.model.specs.declared.Length.TheVariants.{Time, Distance, Open}
use Rattle.model.specs.declared.Target.{Target}
use Rattle.model.specs.declared.Target.TheVariants.{Free, Ftp, Watts, HeartZone, Lthr, Cadence, Ramp, FtpRamp}
use Rattle.steps.specs.Bytes.{intensity_kind, length_kind, length_value, target_kind, first_value, second_value, third_value}
use Rattle.state.specs.declared.StepNow.{StepNow}
use Rattle.model.specs.contracts.LengthPartialEq.TheImpl.{ghosts as length_ghosts}
use Rattle.model.specs.contracts.TargetPartialEq.TheImpl.{ghosts as target_ghosts}
use Rattle.model.specs.contracts.IntensityPartialEq.TheImpl.{ghosts as intensity_ghosts}
use Rattle.state.specs.contracts.StepNowPartialEq.TheImpl.{ghosts as step_ghosts}
use Rattle.std.proofs.Common.{rules}
use Rattle.standing.specs.Standing.{same_length, same_target, same_step, byte_same, same_bytes, same_name}

-- A value of an enum is its numbers'.

abbrev intensity_at : ℕ → Intensity
intensity_at kind = get_or (Warmup ∷ Work ∷ Recovery ∷ Cooldown ∷ Test ∷ []) kind Warmup

intensity_back : (i : Intensity) → intensity_at (intensity_kind i) ≡ i
intensity_back Warmup = refl
intensity_back Work = refl
intensity_back Recovery = refl
intensity_back Cooldown = refl
intensity_back Test = refl

abbrev length_at : ℕ → ℕ → Length
length_at kind value = get_or (Time value ∷ Distance value ∷ Open ∷ []) kind Open

length_back : (l : Length) → length_at (length_kind l) (length_value l) ≡ l
length_back (Time secs) = refl
length_back (Distance metres) = refl
length_back Open = refl

abbrev target_at : ℕ → ℕ → ℕ → ℕ → Target
target_at kind a b c =
    get_or (Free ∷ Ftp a b ∷ Watts a b ∷ HeartZone a ∷ Lthr a b ∷ Cadence a b ∷ Ramp a b c ∷ FtpRamp a b c ∷ []) kind Free

target_back : (t : Target) → target_at (target_kind t) (first_value t) (second_value t) (third_value t) ≡ t
target_back Free = refl
target_back (Ftp low high) = refl
target_back (Watts low high) = refl
target_back (HeartZone zone) = refl
target_back (Lthr low high) = refl
target_back (Cadence low high) = refl
target_back (Ramp start step every) = refl
target_back (FtpRamp start step every) = refl

-- Steps.

intensity_equal : (i j : Intensity) → eqb (intensity_kind i) (intensity_kind j) ≡ true → i ≡ j
intensity_equal i j e =
    sym (intensity_back i) ∙ ap intensity_at (eqb-true (intensity_kind i) (intensity_kind j) e) ∙ intensity_back j

length_equal : (l m : Length) → same_length l m ≡ true → l ≡ m
unfolding same_length
length_equal l m e =
    let kind = eqb (length_kind l) (length_kind m) in
    let value = eqb (length_value l) (length_value m) in
    sym (length_back l)
    ∙ ap₂ length_at (eqb-true (length_kind l) (length_kind m) (and_left kind value e)) (eqb-true (length_value l) (length_value m) (and_right kind value e))
    ∙ length_back m

target_equal : (t u : Target) → same_target t u ≡ true → t ≡ u
unfolding same_target
target_equal t u e =
    let kind = eqb (target_kind t) (target_kind u) in
    let first = eqb (first_value t) (first_value u) in
    let second = eqb (second_value t) (second_value u) in
    let third = eqb (third_value t) (third_value u) in
    let three = and_left (kind && first && second) third e in
    let two = and_left (kind && first) second three in
    sym (target_back t)
    ∙ ap₂ (λ (k a : ℕ). target_at k a (second_value t) (third_value t)) (eqb-true (target_kind t) (target_kind u) (and_left kind first two)) (eqb-true (first_value t) (first_value u) (and_right kind first two))
    ∙ ap₂ (target_at (target_kind u) (first_value u)) (eqb-true (second_value t) (second_value u) (and_right (kind && first) second three)) (eqb-true (third_value t) (third_value u) (and_right (kind && first && second) third e))
    ∙ target_back u

abbrev step_of : Length → Target → Intensity → ℕ → ℕ → ℕ → StepNow
step_of l t i x r o = record { length = l; target = t; intensity = i; index = x; repetition = r; of = o }

step_equal : (a b : StepNow) → same_step a b ≡ true → a ≡ b
unfolding same_step
step_equal a b e =
    let l = same_length a.length b.length in
    let t = same_target a.target b.target in
    let i = eqb (intensity_kind a.intensity) (intensity_kind b.intensity) in
    let x = eqb a.index b.index in
    let r = eqb a.repetition b.repetition in
    let o = eqb a.of b.of in
    let five = and_left (l && t && i && x && r) o e in
    let four = and_left (l && t && i && x) r five in
    let three = and_left (l && t && i) x four in
    let two = and_left (l && t) i three in
    ap₂ (λ (m : Length) (u : Target). step_of m u a.intensity a.index a.repetition a.of) (length_equal a.length b.length (and_left l t two)) (target_equal a.target b.target (and_right l t two))
    ∙ ap₂ (λ (j : Intensity) (y : ℕ). step_of b.length b.target j y a.repetition a.of) (intensity_equal a.intensity b.intensity (and_right (l && t) i three)) (eqb-true a.index b.index (and_right (l && t && i) x four))
    ∙ ap₂ (step_of b.length b.target b.intensity b.index) (eqb-true a.repetition b.repetition (and_right (l && t && i && x) r five)) (eqb-true a.of b.of (and_right (l && t && i && x && r) o e))

step_itself : (a : StepNow) → same_step a a ≡ true
unfolding same_step same_length same_target
step_itself a =
    let at : (n : ℕ) → eqb n n ≡ true = λ n. eq-eqb n n refl in
    rw (
      at (length_kind a.length),
      at (length_value a.length),
      at (target_kind a.target),
      at (first_value a.target),
      at (second_value a.target),
      at (third_value a.target),
      at (intensity_kind a.intensity),
      at a.index,
      at a.repetition,
      at a.of,
    ) refl

-- Names.

bytes_at : (a b : List ℕ) (i : ℕ) → all_at (byte_same b) i a ≡ true → (j : ℕ) → j < length a → get_or a j 0 ≡ get_or b (i + j) 0
unfolding all_at
bytes_at [] b i e j h = absurd (omega arith)
bytes_at (x ∷ a) b i e zero h =
    eqb-true x (get_or b i 0) (and_left (byte_same b i x) (all_at (byte_same b) (i + 1) a) e) ∙ ap (λ (k : ℕ). get_or b k 0) (omega arith)
bytes_at (x ∷ a) b i e (suc j) h =
    bytes_at a b (i + 1) (and_right (byte_same b i x) (all_at (byte_same b) (i + 1) a) e) j (omega arith) ∙ ap (λ (k : ℕ). get_or b k 0) (omega arith)

bytes_itself : (a b : List ℕ) (i : ℕ) → ((j : ℕ) → get_or a j 0 ≡ get_or b (i + j) 0) → all_at (byte_same b) i a ≡ true
unfolding all_at
bytes_itself [] b i f = refl
bytes_itself (x ∷ a) b i f =
    and_both (eq-eqb x (get_or b i 0) (f 0 ∙ ap (λ (k : ℕ). get_or b k 0) (omega arith)))
    (bytes_itself a b (i + 1) (λ j. f (suc j) ∙ ap (λ (k : ℕ). get_or b k 0) (omega arith)))

name_equal : (a b : Name) → length a.bytes ≡ length b.bytes → same_name a b ≡ true → a ≡ b
unfolding same_name same_bytes
name_equal a b h e =
    let len = eqb a.len b.len in
    let bytes = same_bytes a.bytes b.bytes in
    ap₂ (λ (l : ℕ) (s : List ℕ). let n : Name = record { bytes = s; len = l } in n)
    (eqb-true a.len b.len (and_left len bytes e))
    (ext_get_or 0 a.bytes b.bytes h (λ j k. bytes_at a.bytes b.bytes 0 (and_right len bytes e) j k ∙ ap (λ (k : ℕ). get_or b.bytes k 0) (omega arith)))

name_itself : (a : Name) → same_name a a ≡ true
unfolding same_name same_bytes
name_itself a =
    and_both (eq-eqb a.len a.len refl) (bytes_itself a.bytes a.bytes 0 (λ j. ap (λ (k : ℕ). get_or a.bytes k 0) (omega arith)))

-- What `==` answers of two steps.

length_true : (l m : Length) → length_ghosts.eq l m ≡ true → l ≡ m
length_true l m e = search rules

length_self : (l : Length) → length_ghosts.eq l l ≡ true
length_self l = search rules

target_true : (t u : Target) → target_ghosts.eq t u ≡ true → t ≡ u
target_true t u e = search rules

target_self : (t : Target) → target_ghosts.eq t t ≡ true
target_self t = search rules

intensity_true : (i j : Intensity) → intensity_ghosts.eq i j ≡ true → i ≡ j
intensity_true i j e = search rules

intensity_self : (i : Intensity) → intensity_ghosts.eq i i ≡ true
intensity_self i = search rules

step_true : (a b : StepNow) → step_ghosts.eq a b ≡ true → a ≡ b
step_true a b e =
    let l = length_ghosts.eq a.length b.length in
    let t = target_ghosts.eq a.target b.target in
    let i = intensity_ghosts.eq a.intensity b.intensity in
    let x = eqb a.index b.index in
    let r = eqb a.repetition b.repetition in
    let o = eqb a.of b.of in
    let five = and_right l (t && (i && (x && (r && o)))) e in
    let four = and_right t (i && (x && (r && o))) five in
    let three = and_right i (x && (r && o)) four in
    let two = and_right x (r && o) three in
    ap₂ (λ (m : Length) (u : Target). step_of m u a.intensity a.index a.repetition a.of) (length_true a.length b.length (and_left l (t && (i && (x && (r && o)))) e)) (target_true a.target b.target (and_left t (i && (x && (r && o))) five))
    ∙ ap₂ (λ (j : Intensity) (y : ℕ). step_of b.length b.target j y a.repetition a.of) (intensity_true a.intensity b.intensity (and_left i (x && (r && o)) four)) (eqb-true a.index b.index (and_left x (r && o) three))
    ∙ ap₂ (step_of b.length b.target b.intensity b.index) (eqb-true a.repetition b.repetition (and_left r o two)) (eqb-true a.of b.of (and_right r o two))

step_self : (a : StepNow) → step_ghosts.eq a a ≡ true
step_self a =
    and_both (length_self a.length)
    (and_both (target_self a.target)
    (and_both (intensity_self a.intensity)
    (and_both (eq-eqb a.index a.index refl) (and_both (eq-eqb a.repetition a.repetition refl) (eq-eqb a.of a.of refl)))))

-- What tells equal steps, or equal names, from others is the definition's test.

pub step-test : (a b : StepNow) (t : Bool) → t ≡ step_ghosts.eq a b → t ≡ same_step a b
step-test a b t e =
    e
    ∙ both_ways (step_ghosts.eq a b) (same_step a b)
    (λ h. subst (λ (x : StepNow). same_step a x ≡ true) (step_true a b h) (step_itself a))
    (λ h. subst (λ (x : StepNow). step_ghosts.eq a x ≡ true) (step_equal a b h) (step_self a))

pub name-test : (a b : Name) (t : Bool) → length a.bytes ≡ length b.bytes → (t ≡ true → a ≡ b) → (a ≡ b → t ≡ true) → t ≡ same_name a b
name-test a b t h f g =
    both_ways t (same_name a b) (λ e. subst (λ (x : Name). same_name a x ≡ true) (f e) (name_itself a)) (λ e. g (name_equal a b h e))
