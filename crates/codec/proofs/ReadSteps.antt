-- A step that is read is written again as it stood where its filler values are 0, and its numbers fit their types.
use Rattle.std.specs.Prelude.{None, Option, Some}
use mathlib.Core.Path.{◌≡◌, refl, sym, ap, ap₂, ◌∙◌, subst}
use mathlib.Core.Bool.{Bool, true, false, cond, ◌&&◌}
use mathlib.Core.List.{List, [], ◌∷◌, ◌++◌, append_assoc}
use Prim.Native.Nat.{ℕ, zero, suc, ◌+◌, ◌≤◌, ◌<◌, ◌^◌}
use native.Mathlib.Omega.{arith}
use lib.Dec.{ltb, eqb}
use lib.ListN.{length, get_or, take, drop, take-append-drop}
use lib.Seq.{drop-drop, drop-cons, get_or-drop}
use borrow.Author.Tests.{ltb-true, eqb-true}
use Rattle.common.specs.Lists.{all}
use Rattle.common.proofs.Tests.{and_left, and_right}
use Rattle.le.specs.Le.{number_of, bytes_of, part, Bytes}
use Rattle.le.proofs.Laws.{bytes_number, bytes-part, length_part, part-add, number_lt}
use Rattle.names.specs.Names.{is_zero, name_ok}
use Rattle.model.specs.declared.Intensity.{Intensity}
use Rattle.model.specs.declared.Intensity.TheVariants as intensities
use Rattle.model.specs.declared.Length.{Length}
use Rattle.model.specs.declared.Length.TheVariants as lengths
use Rattle.model.specs.declared.Target.{Target}
use Rattle.model.specs.declared.Target.TheVariants as targets
use Rattle.model.specs.declared.Step.{Step}
use Rattle.cursor.specs.Reading.{got, behind}
use Rattle.cursor.specs.Names.{name_bytes, read_name}
use Rattle.steps.specs.Steps.{intensity_of, length_of, by_small, small_of, plain_of, target_of, length_then, fixed_of, step_of, note_then, read_step}
use Rattle.steps.specs.Bytes.{intensity_kind, length_kind, length_value, target_kind, first_value, second_value, third_value, fixed_bytes, step_bytes}
use Rattle.codec.specs.Typed.{LengthFits, TargetFits, Below, StepFits}
use Rattle.codec.specs.Fillers.{target_fillers, step_fillers, step_size}
use Rattle.codec.proofs.Parts.{enough-got, behind-got, then-got}
use Rattle.codec.proofs.ReadNames.{name-was}

intensity-was : (kind : ℕ) (i : Intensity) → intensity_of kind ≡ Some i → intensity_kind i ≡ kind
unfolding intensity_of
intensity-was zero i e = let s : intensities.Warmup ≡ i = cc in sym (ap intensity_kind s)
intensity-was (suc zero) i e = let s : intensities.Work ≡ i = cc in sym (ap intensity_kind s)
intensity-was (suc (suc zero)) i e = let s : intensities.Recovery ≡ i = cc in sym (ap intensity_kind s)
intensity-was (suc (suc (suc zero))) i e = let s : intensities.Cooldown ≡ i = cc in sym (ap intensity_kind s)
intensity-was (suc (suc (suc (suc zero)))) i e = let s : intensities.Test ≡ i = cc in sym (ap intensity_kind s)
intensity-was (suc (suc (suc (suc (suc k))))) i e = let z : ◌≡◌ {A = ℕ} 0 1 = cc in absurd (omega arith)

record LengthWas (kind value : ℕ) (l : Length) : Type 0 where
  kind-is : length_kind l ≡ kind
  value-is : length_value l ≡ value
  fits : LengthFits l

-- of the length that a kind and a value stand for
length-is : (l x : Length) (kind value : ℕ) → Some l ≡ Some x → length_kind l ≡ kind → length_value l ≡ value → LengthFits l → LengthWas kind value x
length-is l x kind value e k v f = let s : l ≡ x = cc in subst (LengthWas kind value) s (record { kind-is = k; value-is = v; fits = f })

length-was : (kind value : ℕ) (l : Length) → value < 256 ^ 4 → length_of kind value ≡ Some l → LengthWas kind value l
unfolding length_of
length-was zero value l h e = go (ltb value 65536) refl e
  where
    go : (t : Bool) → ltb value 65536 ≡ t → cond t (Some (lengths.Time value)) None ≡ Some l → LengthWas 0 value l
    go true t e = length-is (lengths.Time value) l 0 value e refl refl (ltb-true value 65536 t)
    go false t e = let z : ◌≡◌ {A = ℕ} 0 1 = cc in absurd (omega arith)
length-was (suc zero) value l h e = length-is (lengths.Distance value) l 1 value e refl refl (omega arith)
length-was (suc (suc zero)) value l h e = go (eqb value 0) refl e
  where
    go : (t : Bool) → eqb value 0 ≡ t → cond t (Some lengths.Open) None ≡ Some l → LengthWas 2 value l
    go true t e = length-is lengths.Open l 2 value e refl (sym (eqb-true value 0 t)) tt
    go false t e = let z : ◌≡◌ {A = ℕ} 0 1 = cc in absurd (omega arith)
length-was (suc (suc (suc k))) value l h e = let z : ◌≡◌ {A = ℕ} 0 1 = cc in absurd (omega arith)

-- what a target read from a kind and three values says of them
record TargetWas (kind a b c : ℕ) (t : Target) : Type 0 where
  kind-is : target_kind t ≡ kind
  first : all is_zero (target_fillers kind a b) ≡ true → first_value t ≡ a
  second : all is_zero (target_fillers kind a b) ≡ true → second_value t ≡ b
  third : third_value t ≡ c
  fits : TargetFits t

-- of a target that is read where a test holds
plain-was : (c : ℕ) (t x : Target) → plain_of c t ≡ Some x → (c ≡ 0) × (t ≡ x)
plain-was c t x = go (eqb c 0) refl
  where
    go : (p : Bool) → eqb c 0 ≡ p → cond p (Some t) None ≡ Some x → (c ≡ 0) × (t ≡ x)
    go true p e = let s : t ≡ x = cc in (eqb-true c 0 p, s)
    go false p e = let z : ◌≡◌ {A = ℕ} 0 1 = cc in absurd (omega arith)

small-was : (made : ℕ → ℕ → Option Target) (a b : ℕ) (x : Target) → by_small made (small_of a b) ≡ Some x → Below 256 a b × (made a b ≡ Some x)
small-was made a b x = go (ltb a 256) refl (ltb b 256) refl
  where
    go : (p : Bool) → ltb a 256 ≡ p → (q : Bool) → ltb b 256 ≡ q → by_small made (cond p (cond q (Some (a, b)) None) None) ≡ Some x
        → Below 256 a b × (made a b ≡ Some x)
    go true p true q e = ((ltb-true a 256 p, ltb-true b 256 q), e)
    go true p false q e = let z : ◌≡◌ {A = ℕ} 0 1 = cc in absurd (omega arith)
    go false p q r e = let z : ◌≡◌ {A = ℕ} 0 1 = cc in absurd (omega arith)

-- three values of two bytes each
abbrev Values : ℕ → ℕ → ℕ → Type 0
Values a b c = (a < 256 ^ 2) × (b < 256 ^ 2) × (c < 256 ^ 2)

-- of a target whose values are all used
used : (a b c : ℕ) (t x : Target) → t ≡ x → first_value t ≡ a → second_value t ≡ b → third_value t ≡ c → TargetFits t → TargetWas (target_kind t) a b c x
used a b c t x e f s h fits = subst (TargetWas (target_kind t) a b c) e (record { kind-is = refl; first = λ _. f; second = λ _. s; third = h; fits = fits })

-- of a target that takes two numbers of a byte each and no third
pair : (made : ℕ → ℕ → Target) (a b c : ℕ) (x : Target) → ((a b : ℕ) → first_value (made a b) ≡ a) → ((a b : ℕ) → second_value (made a b) ≡ b)
    → third_value (made a b) ≡ 0 → (Below 256 a b → TargetFits (made a b)) → by_small (λ m n. plain_of c (made m n)) (small_of a b) ≡ Some x
    → TargetWas (target_kind (made a b)) a b c x
pair made a b c x f s h fits e =
    let w = small-was (λ m n. plain_of c (made m n)) a b x e in
    let p = plain-was c (made a b) x w.1 in
    used a b c (made a b) x p.1 (f a b) (s a b) (h ∙ sym p.0) (fits w.0)

target-was : (kind a b c : ℕ) (t : Target) → Values a b c → target_of kind a b c ≡ Some t → TargetWas kind a b c t
unfolding target_of all
target-was zero a b c t v e =
    let p = plain-was c targets.Free t e in
    subst (TargetWas 0 a b c) p.1
    (record {
      kind-is = refl;
      first = λ z. sym (eqb-true a 0 (and_left (is_zero a) (is_zero b && true) z));
      second = λ z. sym (eqb-true b 0 (and_left (is_zero b) true (and_right (is_zero a) (is_zero b && true) z)));
      third = sym p.0;
      fits = tt;
    })
target-was (suc zero) a b c t v e = pair targets.Ftp a b c t (λ x y. refl) (λ x y. refl) refl (λ h. h) e
target-was (suc (suc zero)) a b c t v e =
    let p = plain-was c (targets.Watts a b) t e in
    used a b c (targets.Watts a b) t p.1 refl refl (sym p.0) (omega (arith, v.0), omega (arith, v.1))
target-was (suc (suc (suc zero))) a b c t v e =
    let w = small-was (λ m n. plain_of c (targets.HeartZone m)) a 0 t e in
    let p = plain-was c (targets.HeartZone a) t w.1 in
    subst (TargetWas 3 a b c) p.1
    (record { kind-is = refl; first = λ _. refl; second = λ z. sym (eqb-true b 0 (and_left (is_zero b) true z)); third = sym p.0; fits = w.0.0 })
target-was (suc (suc (suc (suc zero)))) a b c t v e = pair targets.Lthr a b c t (λ x y. refl) (λ x y. refl) refl (λ h. h) e
target-was (suc (suc (suc (suc (suc zero))))) a b c t v e = pair targets.Cadence a b c t (λ x y. refl) (λ x y. refl) refl (λ h. h) e
target-was (suc (suc (suc (suc (suc (suc zero)))))) a b c t v e =
    let s : targets.Ramp a b c ≡ t = cc in
    used a b c (targets.Ramp a b c) t s refl refl refl (omega (arith, v.0), omega (arith, v.1), omega (arith, v.2))
target-was (suc (suc (suc (suc (suc (suc (suc zero))))))) a b c t v e =
    let w = small-was (λ m n. Some (targets.FtpRamp m n c)) a b t e in
    let f = w.1 in
    let s : targets.FtpRamp a b c ≡ t = cc in
    used a b c (targets.FtpRamp a b c) t s refl refl refl (w.0.0, w.0.1, omega (arith, v.2))
target-was (suc (suc (suc (suc (suc (suc (suc (suc k)))))))) a b c t v e = let z : ◌≡◌ {A = ℕ} 0 1 = cc in absurd (omega arith)

-- a step's fixed bytes: each was allowed
record FixedWas (zero-byte : ℕ) (t : Option Target) (l : Option Length) (i : Option Intensity) (x : Intensity) (y : Length) (z : Target) : Type 0 where
  zero-byte-is : zero-byte ≡ 0
  target : t ≡ Some z
  length : l ≡ Some y
  intensity : i ≡ Some x

fixed-was : (zero-byte : ℕ) (t : Option Target) (l : Option Length) (i : Option Intensity) (x : Intensity) (y : Length) (z : Target)
    → length_then l t zero-byte i ≡ Some (x, y, z) → FixedWas zero-byte t l i x y z
fixed-was zero-byte (Some t) (Some l) (Some i) x y z e = go (eqb zero-byte 0) refl e
  where
    go : (p : Bool) → eqb zero-byte 0 ≡ p → cond {A = Option (Intensity × Length × Target)} p (Some (i, l, t)) None ≡ Some (x, y, z)
        → FixedWas zero-byte (Some t) (Some l) (Some i) x y z
    go true p e =
        let same : ◌≡◌ {A = Intensity × Length × Target} (i, l, t) (x, y, z) = cc in
        record {
          zero-byte-is = eqb-true zero-byte 0 p;
          target = ap (λ (q : Intensity × Length × Target). Some q.2) same;
          length = ap (λ (q : Intensity × Length × Target). Some q.1) same;
          intensity = ap (λ (q : Intensity × Length × Target). Some q.0) same;
        }
    go false p e = let n : ◌≡◌ {A = ℕ} 0 1 = cc in absurd (omega arith)
fixed-was zero-byte None (Some l) (Some i) x y z e = let n : ◌≡◌ {A = ℕ} 0 1 = cc in absurd (omega arith)
fixed-was zero-byte t None (Some i) x y z e = let n : ◌≡◌ {A = ℕ} 0 1 = cc in absurd (omega arith)
fixed-was zero-byte t l None x y z e = let n : ◌≡◌ {A = ℕ} 0 1 = cc in absurd (omega arith)

module _ (l : List ℕ) (bytes : Bytes l) where
  -- a number of k bytes, written again
  pub number-again : (at k v : ℕ) → at + k ≤ length l → v ≡ number_of (part l at k) → bytes_of k v ≡ part l at k
  number-again at k v h e =
      ap (bytes_of k) e ∙ ap (λ (n : ℕ). bytes_of n (number_of (part l at k))) (sym (length_part l at k h)) ∙ bytes_number (part l at k) (bytes-part l at k bytes)

  number_fits : (at k : ℕ) → at + k ≤ length l → number_of (part l at k) < 256 ^ k
  number_fits at k h = subst (λ (n : ℕ). number_of (part l at k) < 256 ^ n) (length_part l at k h) (number_lt (part l at k) (bytes-part l at k bytes))

  byte-again : (at v : ℕ) → at < length l → v ≡ get_or l at 0 → v ∷ [] ≡ part l at 1
  byte-again at v h e = ap (λ (x : ℕ). x ∷ []) e ∙ sym (ap (take 1) (drop-cons l at 0 h))

  -- one part and the next
  next : (j k at : ℕ) {a b : List ℕ} → a ≡ part l at j → b ≡ part l (at + j) k → a ++ b ≡ part l at (j + k)
  next j k at p q = ap₂ (λ (a b : List ℕ). a ++ b) p q ∙ sym (part-add j k l at)

  -- the parts of the bytes before the note
  module _ (long : 15 ≤ length l) (i : Intensity) (n : Length) (t : Target) (e : fixed_of l ≡ Some (i, n, t)) where
    parts : FixedWas (get_or l 13 0) (target_of (get_or l 6 0) (number_of (part l 7 2)) (number_of (part l 9 2)) (number_of (part l 11 2)))
        (length_of (get_or l 1 0) (number_of (part l 2 4))) (intensity_of (get_or l 0 0)) i n t
    unfolding fixed_of
    parts = fixed-was (get_or l 13 0) _ _ _ i n t e

    length-part-was : LengthWas (get_or l 1 0) (number_of (part l 2 4)) n
    length-part-was = length-was (get_or l 1 0) (number_of (part l 2 4)) n (number_fits 2 4 (omega arith)) parts.length

    target-part-was : TargetWas (get_or l 6 0) (number_of (part l 7 2)) (number_of (part l 9 2)) (number_of (part l 11 2)) t
    target-part-was =
        target-was (get_or l 6 0) (number_of (part l 7 2)) (number_of (part l 9 2)) (number_of (part l 11 2)) t
        (number_fits 7 2 (omega arith), number_fits 9 2 (omega arith), number_fits 11 2 (omega arith)) parts.target

    fixed-again : all is_zero (step_fillers l) ≡ true → fixed_bytes i n t ≡ take 14 l
    unfolding fixed_bytes step_fillers
    fixed-again z =
        let w = length-part-was in
        let v = target-part-was in
        next 1 13 0 (byte-again 0 _ (omega arith) (intensity-was (get_or l 0 0) i parts.intensity))
        (next 1 12 1 (byte-again 1 _ (omega arith) w.kind-is)
        (next 4 8 2 (number-again 2 4 _ (omega arith) w.value-is)
        (next 1 7 6 (byte-again 6 _ (omega arith) v.kind-is)
        (next 2 5 7 (number-again 7 2 _ (omega arith) (v.first z))
        (next 2 3 9 (number-again 9 2 _ (omega arith) (v.second z))
        (next 2 1 11 (number-again 11 2 _ (omega arith) v.third) (byte-again 13 _ (omega arith) (sym parts.zero-byte-is))))))))

-- what reading a step says of it and of the bytes it was read from
pub record StepWas (l : List ℕ) (s : Step) (k : ℕ) : Type 0 where
  pub same : all is_zero (step_fillers l) ≡ true → step_bytes s ++ drop k l ≡ l
  pub size : k ≡ step_size l
  pub fits : StepFits s
  pub ok : name_ok s.note ≡ true

pub step-was : (l : List ℕ) (s : Step) (k : ℕ) → Bytes l → read_step l ≡ got s k → StepWas l s k
unfolding read_step name_bytes step_bytes
step-was l s k bytes e =
    let f = enough-got 15 l (behind 14 (note_then (fixed_of l) (drop 14 l))) s k e in
    let b = behind-got 14 (note_then (fixed_of l) (drop 14 l)) s k f.1 in
    go (fixed_of l) refl b.0 f.0 b.1.0 b.1.1
  where
    go : (x : Option (Intensity × Length × Target)) → fixed_of l ≡ x → (j : ℕ) → 15 ≤ length l → note_then x (drop 14 l) ≡ got s j → k ≡ 14 + j → StepWas l s k
    go (Some (i, n, t)) x j long e sum =
        let rest = then-got (drop 14 l) (read_name (drop 14 l)) (λ note _. got (step_of i n t note) 0) s j e in
        let note = rest.value in
        let second = rest.second in
        let was = name-was (drop 14 l) note rest.size rest.first in
        let made : step_of i n t note ≡ s = cc in
        let none : 0 ≡ rest.more = cc in
        let size : k ≡ 14 + rest.size = omega (arith, rest.sum) in
        let behind : drop k l ≡ drop rest.size (drop 14 l) = ap (λ (m : ℕ). drop m l) size ∙ sym (drop-drop rest.size 14 l) in
        let len : get_or l 14 0 ≡ note.len = sym (get_or-drop 14 l 0 0) ∙ ap (λ (m : List ℕ). get_or m 0 0) (sym was.same) in
        record {
          same = λ z.
              ap₂ (λ (y : Step) (r : List ℕ). step_bytes y ++ r) (sym made) behind
              ∙ append_assoc (fixed_bytes i n t) (name_bytes note) (drop rest.size (drop 14 l))
              ∙ ap₂ (λ (a r : List ℕ). a ++ r) (fixed-again l bytes long i n t x z) was.same
              ∙ take-append-drop 14 l;
          size = omega (arith, size, was.size, len);
          fits =
              subst StepFits made
              (record { lasts = (length-part-was l bytes long i n t x).fits; aims = (target-part-was l bytes long i n t x).fits; noted = was.fits });
          ok = ap (λ (y : Step). name_ok y.note) (sym made) ∙ was.ok;
        }
    go None x j long e sum = let z : ◌≡◌ {A = ℕ} 0 1 = cc in absurd (omega arith)
