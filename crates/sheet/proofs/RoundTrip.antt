-- Ride sheets written and read again, and read and written again.
use Rattle.std.specs.Prelude.{Err, None, Ok, Option, Some}
use mathlib.Core.Path.{◌≡◌, refl, sym, ap, ap₂, ◌∙◌, subst}
use mathlib.Core.Bool.{Bool, true, false, cond, not, ◌&&◌}
use mathlib.Core.List.{List, [], ◌∷◌, ◌++◌, map, flat_map, append_assoc, append-nil}
use Prim.Native.Nat.{ℕ, zero, suc, ◌+◌, ◌*◌, ◌/◌, ◌%◌, ◌^◌, ◌≤◌, ◌<◌}
use native.Mathlib.Omega.{arith}
use lib.Dec.{ltb, leb, eqb}
use lib.ListN.{length, take, drop, get_or, replicate, length-append, length-map}
use lib.Seq.{take_all, take-take, take_at, drop_at, drop-drop, get_or-drop, take-length, drop-cons}
use borrow.Author.Tests.{eqb-true, eqb-false, eq-eqb, ne_eqb, leb-true, le-leb, ltb-false}
use Rattle.common.specs.Lists.{all}
use Rattle.common.proofs.Tests.{and_left, and_right, and_both}
use Rattle.le.specs.Le.{number_of, bytes_of, part, Bytes}
use Rattle.le.proofs.Laws.{length-bytes, number_bytes, bytes_number, number_lt, bytes-part, length_part, part-add}
use Rattle.refusal.specs.declared.Refusal.TheVariants as refusals
use Rattle.power.specs.Power.{or_zero, reading_at}
use Rattle.readings.specs.declared.Sample.{Sample}
use Rattle.readings.specs.Readings.{flag_set}
use Rattle.sheet.specs.declared.Act.{Act}
use Rattle.sheet.specs.declared.Act.TheVariants.{Profile, Read, Ride, Skip, ExtendLong, Extend}
use Rattle.sheet.specs.declared.ActAnswer.{ActAnswer}
use Rattle.sheet.specs.Sheet.{word2, word4, count_in, size_ok, kind_in, place_of, profile_at, flags_at, sample_at, acts_at, act_in, acts_from, absent_ok, sample_ok, unused_at, valueless_ok, act_by, act_ok, fault_from, accepted_all, refused_at, fault_answer, check_of}
use Rattle.sheet.specs.Bytes.{kind_of, flag_if, flags_of, value_of, sheet_bytes, is_profile, is_call, opens, ActFits, AllFit, IsSheet}
use Rattle.sheet.specs.RoundTrip.{acts_of, WrittenIsRead, ReadIsWritten}
use Rattle.sheet.proofs.Laws.{Sized, sized, accepted-sized, no-fault}

-- An act's value is eight bytes, and its reader looks at no others.

part-within : {A : Type 0} (j k n : ℕ) (x : List A) → j + k ≤ n → take k (drop j (take n x)) ≡ take k (drop j x)
part-within zero k n x h = take-take k n x (omega (arith, h))
part-within (suc j) k zero x h = absurd (omega (arith, h))
part-within (suc j) k (suc n) [] h = refl
part-within (suc j) k (suc n) (a ∷ x) h = part-within j k n x (omega (arith, h))

module _ (s : List ℕ) (at : ℕ) where
  abbrev value : List ℕ
  value = part s at 8

  within : (j k : ℕ) → j + k ≤ 8 → number_of (part s (at + j) k) ≡ number_of (part value j k)
  within j k h = ap number_of (sym (part-within j k 8 (drop at s) h ∙ ap (take k) (drop-drop j at s)))

  from_start : (k : ℕ) → k ≤ 8 → number_of (part s at k) ≡ number_of (part value 0 k)
  from_start k h = ap number_of (sym (take-take k 8 (drop at s) h))

  acts-value : acts_at s at ≡ acts_at value 0
  acts-value =
      rw (from_start 2 (omega arith), from_start 4 (omega arith), within 2 2 (omega arith), within 4 2 (omega arith), within 4 4 (omega arith), within 6 2 (omega arith)) refl

  by_value : (f : Bool) (kind : ℕ) → act_by f s at kind ≡ act_by f value 0 kind
  unfolding sample_ok
  by_value f kind =
      rw (from_start 2 (omega arith), from_start 4 (omega arith), within 2 2 (omega arith), within 4 2 (omega arith), within 4 4 (omega arith), within 6 2 (omega arith)) refl

-- Written, then read.

-- Readings and their flags, written and read: what is said of the three, and that question 17 lets them pass.
pub record FlagsAgain (a b c : Option ℕ) (f : ℕ) : Type 0 where
  pub power-is : reading_at (flag_set f 1) (or_zero a) ≡ a
  pub heart-is : reading_at (flag_set f 2) (or_zero b) ≡ b
  pub cadence-is : reading_at (flag_set f 4) (or_zero c) ≡ c
  pub passes : (leb f 7 && (absent_ok (flag_set f 1) (or_zero a) && absent_ok (flag_set f 2) (or_zero b) && absent_ok (flag_set f 4) (or_zero c))) ≡ true

flags-again : (a b c : Option ℕ) → FlagsAgain a b c (flag_if a 1 + flag_if b 2 + flag_if c 4)
flags-again None None None = record { power-is = refl; heart-is = refl; cadence-is = refl; passes = refl }
flags-again None None (Some c) = record { power-is = refl; heart-is = refl; cadence-is = refl; passes = refl }
flags-again None (Some b) None = record { power-is = refl; heart-is = refl; cadence-is = refl; passes = refl }
flags-again None (Some b) (Some c) = record { power-is = refl; heart-is = refl; cadence-is = refl; passes = refl }
flags-again (Some a) None None = record { power-is = refl; heart-is = refl; cadence-is = refl; passes = refl }
flags-again (Some a) None (Some c) = record { power-is = refl; heart-is = refl; cadence-is = refl; passes = refl }
flags-again (Some a) (Some b) None = record { power-is = refl; heart-is = refl; cadence-is = refl; passes = refl }
flags-again (Some a) (Some b) (Some c) = record { power-is = refl; heart-is = refl; cadence-is = refl; passes = refl }

flag-most : (r : Option ℕ) (value : ℕ) → flag_if r value ≤ value
flag-most None value = omega arith
flag-most (Some x) value = omega arith

-- The four words of a read.
module _ (s : Sample) (h : ActFits (Read s)) where
  abbrev again : FlagsAgain s.power_watts s.heart_bpm s.cadence_tenths (flags_of s)
  again = flags-again s.power_watts s.heart_bpm s.cadence_tenths

  power-word : number_of (bytes_of 2 (or_zero s.power_watts)) ≡ or_zero s.power_watts
  power-word = number_bytes 2 (or_zero s.power_watts) h.0

  heart-word : number_of (bytes_of 2 (or_zero s.heart_bpm)) ≡ or_zero s.heart_bpm
  heart-word = number_bytes 2 (or_zero s.heart_bpm) h.1

  cadence-word : number_of (bytes_of 2 (or_zero s.cadence_tenths)) ≡ or_zero s.cadence_tenths
  cadence-word = number_bytes 2 (or_zero s.cadence_tenths) h.2

  flags-word : number_of (bytes_of 2 (flags_of s)) ≡ flags_of s
  flags-word = number_bytes 2 (flags_of s) (omega (arith, flag-most s.power_watts 1, flag-most s.heart_bpm 2, flag-most s.cadence_tenths 4))

  read_again : sample_at (value_of (Read s)) 0 ≡ s
  unfolding value_of bytes_of
  read_again =
      (λ i.
      record {
        power_watts = reading_at (flag_set (flags-word i) 1) (power-word i);
        heart_bpm = reading_at (flag_set (flags-word i) 2) (heart-word i);
        cadence_tenths = reading_at (flag_set (flags-word i) 4) (cadence-word i);
      })
      ∙ (λ i. record { power_watts = again.power-is i; heart_bpm = again.heart-is i; cadence_tenths = again.cadence-is i })

  read-passes : sample_ok (value_of (Read s)) 0 ≡ true
  unfolding value_of bytes_of sample_ok
  read-passes =
      (λ i.
      leb (flags-word i) 7
      && (absent_ok (flag_set (flags-word i) 1) (power-word i) && absent_ok (flag_set (flags-word i) 2) (heart-word i) && absent_ok (flag_set (flags-word i) 4) (cadence-word i)))
      ∙ again.passes

value-again : (act : Act) → ActFits act → get_or (acts_at (value_of act) 0) (kind_of act) Extend ≡ act
value-again (Profile p) h =
    unfold value_of bytes_of in
    λ i. Profile (record { ftp_watts = number_bytes 2 p.ftp_watts h.0 i; lthr_bpm = number_bytes 2 p.lthr_bpm h.1 i })
value-again (Read s) h = ap Read (read_again s h)
value-again (Ride ms mm) h =
    unfold value_of bytes_of in λ i. Ride (record { 0 = number_bytes 4 ms.0 h.0 i }) (record { 0 = number_bytes 4 mm.0 h.1 i })
value-again Skip h = refl
value-again ExtendLong h = refl
value-again Extend h = refl

value_passes : (act : Act) → ActFits act → act_by (is_profile act) (value_of act) 0 (kind_of act) ≡ true
value_passes (Profile p) h = unfold value_of bytes_of number_of in refl
value_passes (Read s) h = read-passes s h
value_passes (Ride ms mm) h = refl
value_passes Skip h = unfold value_of number_of in refl
value_passes ExtendLong h = unfold value_of number_of in refl
value_passes Extend h = unfold value_of number_of in refl

value-length : (act : Act) → length (value_of act) ≡ 8
unfolding value_of bytes_of
value-length (Profile p) = refl
value-length (Read s) = refl
value-length (Ride ms mm) = refl
value-length Skip = refl
value-length ExtendLong = refl
value-length Extend = refl

-- One act of a sheet, by its kind byte and its value.
module _ (s : List ℕ) (n i : ℕ) (act : Act) (k : kind_in s i ≡ kind_of act) (v : part s (place_of n i) 8 ≡ value_of act) (h : ActFits act) where
  act-again : act_in s n i ≡ act
  unfolding act_in
  act-again =
      ap (λ (acts : List Act). get_or acts (kind_in s i) Extend) (acts-value s (place_of n i))
      ∙ ap₂ (λ (x : List ℕ) (kind : ℕ). get_or (acts_at x 0) kind Extend) v k
      ∙ value-again act h

  act-passes : eqb i 0 ≡ is_profile act → act_ok s n i ≡ true
  unfolding act_ok
  act-passes f =
      by_value s (place_of n i) (eqb i 0) (kind_in s i)
      ∙ (λ j. act_by (f j) (v j) 0 (k j))
      ∙ value_passes act h

-- Acts in a row, from place i on.
pub record Again (s : List ℕ) (n i : ℕ) (acts : List Act) : Type 0 where
  pub same : acts_from s n i (length acts) ≡ acts
  pub passes : fault_from s n i (length acts) ≡ i + length acts

module _ (s : List ℕ) (n : ℕ) where
  -- an act, and those behind it
  next-again : (act : Act) (acts : List Act) (i : ℕ) → act_in s n i ≡ act → act_ok s n i ≡ true → Again s n (i + 1) acts → Again s n i (act ∷ acts)
  unfolding acts_from fault_from
  next-again act acts i e f A =
      record {
        same = ap₂ (λ (x : Act) (xs : List Act). x ∷ xs) e A.same;
        passes = ap (λ (b : Bool). cond b (fault_from s n (i + 1) (length acts)) i) f ∙ A.passes ∙ omega arith;
      }

  -- what stands at an act's places, and behind them, where kinds and values are those of a list of acts
  module _ (act : Act) (acts : List Act) (i : ℕ) (ks vs : List ℕ) (e : drop (2 + i) s ≡ map kind_of (act ∷ acts) ++ ks)
      (f : drop (place_of n i) s ≡ flat_map value_of (act ∷ acts) ++ vs) where
    kind-here : kind_in s i ≡ kind_of act
    kind-here =
        let z : 2 + i + 0 ≡ 2 + i = omega arith in
        sym (get_or-drop (2 + i) s 0 0 ∙ ap (λ (k : ℕ). get_or s k 0) z) ∙ ap (λ (l : List ℕ). get_or l 0 0) e

    kinds-next : drop (2 + (i + 1)) s ≡ map kind_of acts ++ ks
    kinds-next =
        let z : 2 + (i + 1) ≡ 2 + i + 1 = omega arith in
        ap (λ (k : ℕ). drop k s) z ∙ sym (drop-drop 1 (2 + i) s) ∙ ap (drop 1) e

    values : drop (place_of n i) s ≡ value_of act ++ (flat_map value_of acts ++ vs)
    unfolding flat_map
    values = f ∙ append_assoc (value_of act) (flat_map value_of acts) vs

    value-here : part s (place_of n i) 8 ≡ value_of act
    value-here = ap (take 8) values ∙ take_at (value_of act) (flat_map value_of acts ++ vs) 8 (value-length act)

    values-next : drop (place_of n (i + 1)) s ≡ flat_map value_of acts ++ vs
    values-next =
        let z : place_of n (i + 1) ≡ place_of n i + 8 = omega arith in
        ap (λ (k : ℕ). drop k s) z ∙ sym (drop-drop 8 (place_of n i) s) ∙ ap (drop 8) values
        ∙ drop_at (value_of act) (flat_map value_of acts ++ vs) 8 (value-length act)

  not_first : (i : ℕ) (act : Act) → is_call act ≡ true → eqb (i + 1) 0 ≡ is_profile act
  not_first i act c = ne_eqb (i + 1) 0 (λ z. absurd (omega arith)) ∙ sym (flip (is_profile act) c)
    where
      flip : (b : Bool) → not b ≡ true → b ≡ false
      flip true z = sym z
      flip false z = refl

  -- calls, from an act on that isn't the first
  calls-again : (acts : List Act) (i : ℕ) (ks vs : List ℕ) → drop (2 + (i + 1)) s ≡ map kind_of acts ++ ks → drop (place_of n (i + 1)) s ≡ flat_map value_of acts ++ vs
      → all is_call acts ≡ true → AllFit acts → Again s n (i + 1) acts
  unfolding all
  calls-again [] i ks vs e f c h = unfold acts_from fault_from in record { same = refl; passes = omega arith }
  calls-again (act ∷ acts) i ks vs e f c h =
      let kind : kind_in s (i + 1) ≡ kind_of act = kind-here act acts (i + 1) ks vs e f in
      let value : part s (place_of n (i + 1)) 8 ≡ value_of act = value-here act acts (i + 1) ks vs e f in
      next-again act acts (i + 1) (act-again s n (i + 1) act kind value h.0)
      (act-passes s n (i + 1) act kind value h.0 (not_first i act (and_left (is_call act) (all is_call acts) c)))
      (calls-again acts (i + 1) ks vs (kinds-next act acts (i + 1) ks vs e f) (values-next act acts (i + 1) ks vs e f)
      (and_right (is_call act) (all is_call acts) c) h.1)

  -- a profile, then calls
  opens-again : (acts : List Act) (ks vs : List ℕ) → drop 2 s ≡ map kind_of acts ++ ks → drop (place_of n 0) s ≡ flat_map value_of acts ++ vs
      → opens acts ≡ true → AllFit acts → Again s n 0 acts
  opens-again [] ks vs e f o h = let z : ◌≡◌ {A = ℕ} 0 1 = cc in absurd (omega arith)
  opens-again (act ∷ acts) ks vs e f o h =
      let kind : kind_in s 0 ≡ kind_of act = kind-here act acts 0 ks vs e f in
      let value : part s (place_of n 0) 8 ≡ value_of act = value-here act acts 0 ks vs e f in
      next-again act acts 0 (act-again s n 0 act kind value h.0)
      (act-passes s n 0 act kind value h.0 (sym (and_left (is_profile act) (all is_call acts) o)))
      (calls-again acts 0 ks vs (kinds-next act acts 0 ks vs e f) (values-next act acts 0 ks vs e f) (and_right (is_profile act) (all is_call acts) o) h.1)

values_length : (acts : List Act) → length (flat_map value_of acts) ≡ 8 * length acts
unfolding flat_map
values_length [] = refl
values_length (act ∷ acts) = length-append (value_of act) (flat_map value_of acts) ∙ omega (arith, value-length act, values_length acts)

opens-some : (acts : List Act) → opens acts ≡ true → 1 ≤ length acts
opens-some [] o = let z : ◌≡◌ {A = ℕ} 0 1 = cc in absurd (omega arith)
opens-some (act ∷ acts) o = omega arith

module _ (acts : List Act) (S : IsSheet acts) where
  abbrev made : List ℕ
  made = sheet_bytes acts

  abbrev total : ℕ
  total = length acts

  count-is : count_in made ≡ total
  unfolding sheet_bytes
  count-is =
      ap number_of (take_at (bytes_of 2 total) (map kind_of acts ++ flat_map value_of acts) 2 (length-bytes 2 total)) ∙ number_bytes 2 total (omega (arith, S.most))

  long : length made ≡ 2 + 9 * total
  unfolding sheet_bytes
  long =
      length-append (bytes_of 2 total) (map kind_of acts ++ flat_map value_of acts)
      ∙ omega (arith, length-bytes 2 total, length-append (map kind_of acts) (flat_map value_of acts), length-map acts kind_of, values_length acts)

  kinds-are : drop 2 made ≡ map kind_of acts ++ flat_map value_of acts
  unfolding sheet_bytes
  kinds-are = drop_at (bytes_of 2 total) (map kind_of acts ++ flat_map value_of acts) 2 (length-bytes 2 total)

  values-are : drop (place_of total 0) made ≡ flat_map value_of acts ++ []
  values-are =
      let z : place_of total 0 ≡ 2 + total = omega arith in
      ap (λ (k : ℕ). drop k made) z ∙ sym (drop-drop total 2 made) ∙ ap (drop total) kinds-are
      ∙ drop_at (map kind_of acts) (flat_map value_of acts) total (length-map acts kind_of) ∙ sym (append-nil (flat_map value_of acts))

  whole : Again made total 0 acts
  whole = opens-again made total acts (flat_map value_of acts) [] kinds-are values-are S.opened S.fits

  size_ok_lem : size_ok made ≡ true
  unfolding size_ok
  size_ok_lem =
      and_both (and_both (le-leb 1 (count_in made) (omega (arith, count-is, opens-some acts S.opened))) (le-leb (count_in made) 4096 (omega (arith, count-is, S.most))))
      (eq-eqb (length made) (2 + 9 * count_in made) (omega (arith, count-is, long)))

  accepted : check_of made ≡ accepted_all
  accepted =
      sym (no-fault made total (fault_from made total 0 total) size_ok_lem (sym count-is) refl (omega (arith, whole.passes)))

  same : acts_of made ≡ acts
  same = ap (λ (k : ℕ). acts_from made k 0 k) count-is ∙ whole.same

pub written-is-read : WrittenIsRead
written-is-read = record { accepted = accepted; same = same }

-- Read, then written.

-- a flag's bit
bit : (flags value : ℕ) → cond (flag_set flags value) value 0 ≡ flags / value % 2 * value
bit flags value = by (eqb (flags / value % 2) 1) refl
  where
    by : (b : Bool) → eqb (flags / value % 2) 1 ≡ b → cond b value 0 ≡ flags / value % 2 * value
    by true e = let one : flags / value % 2 ≡ 1 = eqb-true (flags / value % 2) 1 e in rw one (omega arith)
    by false e =
        let other : flags / value % 2 ≡ 1 → ⊥ = eqb-false (flags / value % 2) 1 e in
        let none : flags / value % 2 ≡ 0 = omega arith in
        rw none (omega arith)

flag-value : (present : Bool) (reading value : ℕ) → flag_if (reading_at present reading) value ≡ cond present value 0
flag-value true reading value = refl
flag-value false reading value = refl

reading-back : (present : Bool) (reading : ℕ) → absent_ok present reading ≡ true → or_zero (reading_at present reading) ≡ reading
reading-back true reading h = refl
reading-back false reading h = sym (eqb-true reading 0 h)

small-back : (present : Bool) (reading most : ℕ) → reading < most → or_zero (reading_at present reading) < most
small-back true reading most h = h
small-back false reading most h = omega arith

-- An act that is read of eight bytes and a kind: its bytes are these again.
pub record Back (first : Bool) (kind : ℕ) (value : List ℕ) (act : Act) : Type 0 where
  pub kind-is : kind_of act ≡ kind
  pub value-is : value_of act ≡ value
  pub profile-is : is_profile act ≡ first
  pub act-fits : ActFits act

module _ (v : List ℕ) (b : Bytes v) (e : length v ≡ 8) where
  number-back : (j k : ℕ) → j + k ≤ 8 → bytes_of k (number_of (part v j k)) ≡ part v j k
  number-back j k h =
      ap (λ (n : ℕ). bytes_of n (number_of (part v j k))) (sym (length_part v j k (omega (arith, h, e)))) ∙ bytes_number (part v j k) (bytes-part v j k b)

  number_small : (j k : ℕ) → j + k ≤ 8 → number_of (part v j k) < 256 ^ k
  number_small j k h =
      subst (λ (n : ℕ). number_of (part v j k) < 256 ^ n) (length_part v j k (omega (arith, h, e))) (number_lt (part v j k) (bytes-part v j k b))

  halves : part v 0 4 ++ part v 4 4 ≡ v
  halves = sym (part-add 4 4 v 0) ∙ take_all 8 v (omega (arith, e))

  unused-back : (at : ℕ) → at + 4 ≤ 8 → unused_at v at ≡ true → replicate 4 0 ≡ part v at 4
  unfolding bytes_of
  unused-back at h u = ap (bytes_of 4) (sym (eqb-true (word4 v at) 0 u)) ∙ number-back at 4 h

  profile-back : unused_at v 4 ≡ true → value_of (Profile (profile_at v 0)) ≡ v
  unfolding value_of
  profile-back u =
      ap₂ (λ (x y : List ℕ). x ++ y) (number-back 0 2 (omega arith)) (ap₂ (λ (x y : List ℕ). x ++ y) (number-back 2 2 (omega arith)) (unused-back 4 (omega arith) u))
      ∙ sym (append_assoc (part v 0 2) (part v 2 2) (part v 4 4)) ∙ ap (λ (x : List ℕ). x ++ part v 4 4) (sym (part-add 2 2 v 0)) ∙ halves

  ride-back : value_of (Ride (record { 0 = word4 v 0 }) (record { 0 = word4 v 4 })) ≡ v
  unfolding value_of
  ride-back = ap₂ (λ (x y : List ℕ). x ++ y) (number-back 0 4 (omega arith)) (number-back 4 4 (omega arith)) ∙ halves

  none-back : unused_at v 0 && unused_at v 4 ≡ true → replicate 8 0 ≡ v
  none-back u =
      ap₂ (λ (x y : List ℕ). x ++ y) (unused-back 0 (omega arith) (and_left (unused_at v 0) (unused_at v 4) u)) (unused-back 4 (omega arith) (and_right (unused_at v 0) (unused_at v 4) u))
      ∙ halves

  module _ (h : sample_ok v 0 ≡ true) where
    abbrev flag_word : ℕ
    flag_word = flags_at v 0

    abbrev power-ok : Bool
    power-ok = absent_ok (flag_set flag_word 1) (word2 v 0)

    abbrev heart-ok : Bool
    heart-ok = absent_ok (flag_set flag_word 2) (word2 v 2)

    abbrev cadence-ok : Bool
    cadence-ok = absent_ok (flag_set flag_word 4) (word2 v 4)

    few : flag_word ≤ 7
    unfolding sample_ok
    few = leb-true flag_word 7 (and_left (leb flag_word 7) (power-ok && heart-ok && cadence-ok) h)

    absent : (power-ok && heart-ok && cadence-ok) ≡ true
    unfolding sample_ok
    absent = and_right (leb flag_word 7) (power-ok && heart-ok && cadence-ok) h

    flags-back : flags_of (sample_at v 0) ≡ flag_word
    flags-back =
        (λ i. flag-value (flag_set flag_word 1) (word2 v 0) 1 i + flag-value (flag_set flag_word 2) (word2 v 2) 2 i + flag-value (flag_set flag_word 4) (word2 v 4) 4 i)
        ∙ (λ i. bit flag_word 1 i + bit flag_word 2 i + bit flag_word 4 i)
        ∙ omega (arith, few)

    read_back_lem : value_of (Read (sample_at v 0)) ≡ v
    unfolding value_of
    read_back_lem =
        (λ i.
        bytes_of 2 (reading-back (flag_set flag_word 1) (word2 v 0) (and_left power-ok heart-ok (and_left (power-ok && heart-ok) cadence-ok absent)) i)
        ++ (bytes_of 2 (reading-back (flag_set flag_word 2) (word2 v 2) (and_right power-ok heart-ok (and_left (power-ok && heart-ok) cadence-ok absent)) i)
        ++ (bytes_of 2 (reading-back (flag_set flag_word 4) (word2 v 4) (and_right (power-ok && heart-ok) cadence-ok absent) i) ++ bytes_of 2 (flags-back i))))
        ∙ (λ i. number-back 0 2 (omega arith) i ++ (number-back 2 2 (omega arith) i ++ (number-back 4 2 (omega arith) i ++ number-back 6 2 (omega arith) i)))
        ∙ ap (λ (x : List ℕ). part v 0 2 ++ (part v 2 2 ++ x)) (sym (part-add 2 2 v 4))
        ∙ sym (append_assoc (part v 0 2) (part v 2 2) (part v 4 4)) ∙ ap (λ (x : List ℕ). x ++ part v 4 4) (sym (part-add 2 2 v 0)) ∙ halves

  not_back : (f : Bool) → not f ≡ true → false ≡ f
  not_back true z = z
  not_back false z = refl

  -- skip and both extends
  valueless-back : (f : Bool) (act : Act) → value_of act ≡ replicate 8 0 → is_profile act ≡ false → ActFits act → valueless_ok f v 0 ≡ true → Back f (kind_of act) v act
  valueless-back f act value call fits h =
      record {
        kind-is = refl;
        value-is = value ∙ none-back (and_right (not f) (unused_at v 0 && unused_at v 4) h);
        profile-is = call ∙ not_back f (and_left (not f) (unused_at v 0 && unused_at v 4) h);
        act-fits = fits;
      }

  value-back : (f : Bool) (kind : ℕ) → act_by f v 0 kind ≡ true → Back f kind v (get_or (acts_at v 0) kind Extend)
  value-back f zero h =
      record {
        kind-is = refl;
        value-is = profile-back (and_right f (unused_at v 4) h);
        profile-is = sym (and_left f (unused_at v 4) h);
        act-fits = (number_small 0 2 (omega arith), number_small 2 2 (omega arith));
      }
  value-back f (suc zero) h =
      record {
        kind-is = refl;
        value-is = read_back_lem (and_right (not f) (sample_ok v 0) h);
        profile-is = not_back f (and_left (not f) (sample_ok v 0) h);
        act-fits = (
          small-back (flag_set (flags_at v 0) 1) (word2 v 0) 65536 (number_small 0 2 (omega arith)),
          small-back (flag_set (flags_at v 0) 2) (word2 v 2) 65536 (number_small 2 2 (omega arith)),
          small-back (flag_set (flags_at v 0) 4) (word2 v 4) 65536 (number_small 4 2 (omega arith)),
        );
      }
  value-back f (suc (suc zero)) h =
      record { kind-is = refl; value-is = ride-back; profile-is = not_back f h; act-fits = (number_small 0 4 (omega arith), number_small 4 4 (omega arith)) }
  value-back f (suc (suc (suc zero))) h = unfold value_of in valueless-back f Skip refl refl tt h
  value-back f (suc (suc (suc (suc zero)))) h = unfold value_of in valueless-back f ExtendLong refl refl tt h
  value-back f (suc (suc (suc (suc (suc zero))))) h = unfold value_of in valueless-back f Extend refl refl tt h
  value-back f (suc (suc (suc (suc (suc (suc kind)))))) h = let z : ◌≡◌ {A = ℕ} 0 1 = cc in absurd (omega arith)

-- Acts in a row, from place i on: their bytes are the sheet's, and those after the first are calls.
pub record RowBack (s : List ℕ) (n i k : ℕ) (acts : List Act) : Type 0 where
  pub count : length acts ≡ k
  pub kinds : map kind_of acts ≡ part s (2 + i) k
  pub values : flat_map value_of acts ≡ part s (place_of n i) (8 * k)
  pub all_fit : AllFit acts

module _ (s : List ℕ) (b : Bytes s) (n : ℕ) (long : length s ≡ 2 + 9 * n) where
  act-back : (i : ℕ) → i < n → act_ok s n i ≡ true → Back (eqb i 0) (kind_in s i) (part s (place_of n i) 8) (act_in s n i)
  unfolding act_ok act_in
  act-back i h ok =
      subst (λ (acts : List Act). Back (eqb i 0) (kind_in s i) (part s (place_of n i) 8) (get_or acts (kind_in s i) Extend)) (sym (acts-value s (place_of n i)))
      (value-back (part s (place_of n i) 8) (bytes-part s (place_of n i) 8 b) (length_part s (place_of n i) 8 (omega arith)) (eqb i 0) (kind_in s i)
      (sym (by_value s (place_of n i) (eqb i 0) (kind_in s i)) ∙ ok))

  -- no act at fault: not this one, and none behind it
  no-fault-here : (i k : ℕ) → i + suc k ≤ fault_from s n i (suc k) → (act_ok s n i ≡ true) × (i + 1 + k ≤ fault_from s n (i + 1) k)
  unfolding fault_from
  no-fault-here i k h = by (act_ok s n i) h
    where
      by : (t : Bool) → i + suc k ≤ cond t (fault_from s n (i + 1) k) i → (t ≡ true) × (i + 1 + k ≤ fault_from s n (i + 1) k)
      by true g = (refl, omega arith)
      by false g = absurd (omega arith)

  kind-next : (i k : ℕ) → i < n → part s (2 + i) (suc k) ≡ kind_in s i ∷ part s (2 + (i + 1)) k
  kind-next i k h =
      let z : suc (2 + i) ≡ 2 + (i + 1) = omega arith in
      ap (take (suc k)) (drop-cons s (2 + i) 0 (omega arith)) ∙ ap (λ (j : ℕ). kind_in s i ∷ part s j k) z

  value-next : (i k : ℕ) → part s (place_of n i) (8 * suc k) ≡ part s (place_of n i) 8 ++ part s (place_of n (i + 1)) (8 * k)
  value-next i k =
      let z : 8 * suc k ≡ 8 + 8 * k = omega arith in
      let y : place_of n i + 8 ≡ place_of n (i + 1) = omega arith in
      ap (part s (place_of n i)) z ∙ part-add 8 (8 * k) s (place_of n i) ∙ ap (λ (j : ℕ). part s (place_of n i) 8 ++ part s j (8 * k)) y

  row_back : (i k : ℕ) → i + k ≤ n → i + k ≤ fault_from s n i k → RowBack s n i k (acts_from s n i k)
  unfolding acts_from flat_map
  row_back i zero h g = record { count = refl; kinds = refl; values = refl; all_fit = tt }
  row_back i (suc k) h g =
      let here : (act_ok s n i ≡ true) × (i + 1 + k ≤ fault_from s n (i + 1) k) = no-fault-here i k g in
      let A : Back (eqb i 0) (kind_in s i) (part s (place_of n i) 8) (act_in s n i) = act-back i (omega arith) here.0 in
      let R : RowBack s n (i + 1) k (acts_from s n (i + 1) k) = row_back (i + 1) k (omega arith) here.1 in
      record {
        count = omega (arith, R.count);
        kinds = ap₂ (λ (x : ℕ) (xs : List ℕ). x ∷ xs) A.kind-is R.kinds ∙ sym (kind-next i k (omega arith));
        values = ap₂ (λ (x y : List ℕ). x ++ y) A.value-is R.values ∙ sym (value-next i k);
        all_fit = (A.act-fits, R.all_fit);
      }

  -- an act that isn't the first is a call
  calls_back : (i k : ℕ) → i + 1 + k ≤ n → i + 1 + k ≤ fault_from s n (i + 1) k → all is_call (acts_from s n (i + 1) k) ≡ true
  unfolding acts_from all
  calls_back i zero h g = refl
  calls_back i (suc k) h g =
      let here : (act_ok s n (i + 1) ≡ true) × (i + 1 + 1 + k ≤ fault_from s n (i + 1 + 1) k) = no-fault-here (i + 1) k g in
      and_both (ap not ((act-back (i + 1) (omega arith) here.0).profile-is ∙ ne_eqb (i + 1) 0 (λ z. absurd (omega arith)))) (calls_back (i + 1) k (omega arith) here.1)

  opens_back : (k : ℕ) → 0 < k → k ≤ n → k ≤ fault_from s n 0 k → opens (acts_from s n 0 k) ≡ true
  unfolding acts_from
  opens_back zero z h g = absurd (omega arith)
  opens_back (suc k) z h g =
      let here : (act_ok s n 0 ≡ true) × (0 + 1 + k ≤ fault_from s n (0 + 1) k) = no-fault-here 0 k (omega arith) in
      and_both (act-back 0 (omega arith) here.0).profile-is (calls_back 0 k (omega arith) here.1)

module _ (s : List ℕ) (b : Bytes s) (e : (check_of s).answer ≡ Ok tt) where
  abbrev amount : ℕ
  amount = count_in s

  S : Sized s
  S = sized s (accepted-sized s e)

  none-at-fault : amount ≤ fault_from s amount 0 amount
  unfolding check_of
  none-at-fault = by (ltb (fault_from s amount 0 amount) amount) refl (ap (λ (t : Bool). (cond t (fault_answer (fault_from s amount 0 amount) amount) (refused_at refusals.SheetLength None)).answer) (sym (accepted-sized s e)) ∙ e)
    where
      by : (t : Bool) → ltb (fault_from s amount 0 amount) amount ≡ t → (fault_answer (fault_from s amount 0 amount) amount).answer ≡ Ok tt → amount ≤ fault_from s amount 0 amount
      by true f g =
          let z : Err refusals.Act ≡ Ok tt = sym (ap (λ (t : Bool). (cond {A = ActAnswer} t (refused_at refusals.Act (Some (fault_from s amount 0 amount))) accepted_all).answer) f) ∙ g in
          let y : ◌≡◌ {A = ℕ} 0 1 = cc in absurd (omega arith)
      by false f g = ltb-false (fault_from s amount 0 amount) amount f

  rows : RowBack s amount 0 amount (acts_of s)
  rows = row_back s b amount S.long 0 amount (omega arith) (omega (arith, none-at-fault))

  fits-back : IsSheet (acts_of s)
  fits-back =
      record {
        most = omega (arith, rows.count, S.most);
        opened = opens_back s b amount S.long amount (omega (arith, S.some)) (omega arith) none-at-fault;
        fits = rows.all_fit;
      }

  count-back : bytes_of 2 (length (acts_of s)) ≡ part s 0 2
  count-back =
      ap (bytes_of 2) rows.count
      ∙ ap (λ (k : ℕ). bytes_of k amount) (sym (length_part s 0 2 (omega (arith, S.long)))) ∙ bytes_number (part s 0 2) (bytes-part s 0 2 b)

  sheet-back : sheet_bytes (acts_of s) ≡ s
  unfolding sheet_bytes
  sheet-back =
      let z : place_of amount 0 ≡ 2 + amount = omega arith in
      let y : 2 + (amount + 8 * amount) ≡ length s = omega (arith, S.long) in
      ap₂ (λ (x y : List ℕ). x ++ y) count-back (ap₂ (λ (x y : List ℕ). x ++ y) rows.kinds (rows.values ∙ ap (λ (k : ℕ). part s k (8 * amount)) z))
      ∙ ap (λ (x : List ℕ). part s 0 2 ++ x) (sym (part-add amount (8 * amount) s 2))
      ∙ sym (part-add 2 (amount + 8 * amount) s 0) ∙ ap (λ (k : ℕ). take k s) y ∙ take-length s

pub read-is-written : ReadIsWritten
read-is-written = record { is_sheet = fits-back; same = sheet-back }
