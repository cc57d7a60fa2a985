-- When a record that is written and read again is the same, and that one that was read is.
use Rattle.std.specs.Prelude.{None, Option, Some}
use mathlib.Core.Path.{◌≡◌, refl, sym, ap, ◌∙◌, subst}
use mathlib.Core.Bool.{Bool, true, false, cond, ◌&&◌}
use mathlib.Core.List.{List, ◌++◌}
use Prim.Native.Nat.{ℕ, ◌+◌, ◌^◌, ◌<◌, ◌≤◌}
use native.Mathlib.Omega.{arith}
use lib.Dec.{leb}
use lib.ListN.{length, get_or}
use borrow.Author.Tests.{leb-true, leb-false}
use Rattle.common.proofs.Tests.{and_left, cond-by}
use Rattle.le.specs.Le.{Bytes, number_of, part}
use Rattle.le.proofs.Laws.{bytes-part, number_lt, length_part}
use Rattle.refusal.specs.Number.{question_number, answer_number}
use Rattle.names.specs.Names.{name_ok}
use Rattle.codec.proofs.Names.{name-len}
use Rattle.model.specs.declared.Test.{Test}
use Rattle.decode.specs.Decode.{test_of}
use Rattle.power.specs.Power.{or_zero, reading_at}
use Rattle.history.specs.declared.Record.{Record}
use Rattle.history.specs.declared.RecordRead.{RecordRead}
use Rattle.history.specs.Record.{start_at, dated_flag, measured_flag, start_ms, millis, most_ms, record_bytes}
use Rattle.history.specs.Decode.{least_size, is_whole, is_flagged, name_in, has_unread, unread_in, summary_in, record_in, with_test, no_record, read_as, decode_of}
use Rattle.history.specs.RoundTrip.{RecordTyped, RecordFits, WrittenIsRead, ReadFits}
use Rattle.history.proofs.Laws.{whole_length}
use Rattle.history.proofs.Names.{from-ok, from-fits, name-again}
use Rattle.history.proofs.Written.{read_back, read_back_lem, long-refused}

millis-same : (ms : ℕ) → ms ≤ most_ms → millis ms ≡ ms
millis-same ms h = omega arith

millis-fits : (ms : ℕ) → millis ms ≡ ms → ms ≤ most_ms
millis-fits ms e = omega (arith, e)

-- a refused record is none that is read
refused-not-read : (r : Record) → no_record ≡ read_as r → ⊥
unfolding question_number
refused-not-read r e = let z : ◌≡◌ {A = ℕ} 18 0 = ap (λ (x : RecordRead). answer_number x.answer) e in absurd (omega arith)

module _ (r : Record) (typed : RecordTyped r) where
  same-again : RecordFits r → read_back r ≡ r
  same-again fits =
      simp (
        name-again r.name typed.named fits.named,
        millis-same r.summary.targeted_ms (omega (arith, fits.targeted)),
        millis-same r.summary.in_ms (omega (arith, fits.inside)),
        millis-same r.summary.under_ms (omega (arith, fits.under)),
        millis-same r.summary.over_ms (omega (arith, fits.over)),
        millis-same r.summary.unread_ms (omega (arith, fits.unread)),
      )

  written_same : RecordFits r → (later : List ℕ) → decode_of (record_bytes r ++ later) ≡ read_as r
  written_same fits later = read_back_lem r later typed (name-len r.name typed.named fits.named) ∙ ap read_as (same-again fits)

  written-only : (later : List ℕ) → decode_of (record_bytes r ++ later) ≡ read_as r → RecordFits r
  written-only later e = go (leb r.name.len 20) refl
    where
      fits : read_back r ≡ r → RecordFits r
      fits e =
          record {
            named = ap name_ok (sym (ap (λ (x : Record). x.name) e)) ∙ from-ok _;
            targeted = millis-fits r.summary.targeted_ms (ap (λ (x : Record). x.summary.targeted_ms) e);
            inside = millis-fits r.summary.in_ms (ap (λ (x : Record). x.summary.in_ms) e);
            under = millis-fits r.summary.under_ms (ap (λ (x : Record). x.summary.under_ms) e);
            over = millis-fits r.summary.over_ms (ap (λ (x : Record). x.summary.over_ms) e);
            unread = millis-fits r.summary.unread_ms (ap (λ (x : Record). x.summary.unread_ms) e);
          }

      go : (t : Bool) → leb r.name.len 20 ≡ t → RecordFits r
      go true h = fits (ap (λ (x : RecordRead). x.«record») (sym (read_back_lem r later typed (leb-true r.name.len 20 h)) ∙ e))
      go false h = absurd (refused-not-read r (sym (long-refused r later typed (leb-false r.name.len 20 h)) ∙ e))

pub written-is-read : WrittenIsRead
written-is-read = record { same = written_same; only = written-only }

-- what a record was read from
record ReadFrom (s : List ℕ) (r : Record) : Type 0 where
  whole : is_whole s ≡ true
  test : Test
  is : record_in s test ≡ r

read-from : (s : List ℕ) (r : Record) → decode_of s ≡ read_as r → ReadFrom s r
unfolding decode_of
read-from s r = go (is_whole s && leb (get_or s 20 0) 20) refl
  where
    by : is_whole s ≡ true → (o : Option Test) → with_test s o ≡ read_as r → ReadFrom s r
    by w (Some t) e = record { whole = w; test = t; is = ap (λ (x : RecordRead). x.«record») e }
    by w None e = absurd (refused-not-read r e)

    go : (t : Bool) → (is_whole s && leb (get_or s 20 0) 20) ≡ t → cond t (with_test s (test_of (get_or s 41 0))) no_record ≡ read_as r → ReadFrom s r
    go true w e = by (and_left (is_whole s) (leb (get_or s 20 0) 20) w) (test_of (get_or s 41 0)) e
    go false w e = absurd (refused-not-read r e)

number_fits : (s : List ℕ) → Bytes s → (at k : ℕ) → at + k ≤ length s → number_of (part s at k) < 256 ^ k
number_fits s b at k h = subst (λ (n : ℕ). number_of (part s at k) < 256 ^ n) (length_part s at k h) (number_lt (part s at k) (bytes-part s at k b))

start-within : (dated : Bool) (ms : ℕ) → ms < 18446744073709551616 → start_ms (start_at dated ms) < 18446744073709551616
start-within true ms h = h
start-within false ms h = omega arith

ftp-within : (measured : Bool) (watts : ℕ) → watts < 65536 → or_zero (reading_at measured watts) < 65536
ftp-within true watts h = h
ftp-within false watts h = omega arith

module _ (s : List ℕ) (b : Bytes s) (whole : is_whole s ≡ true) (test : Test) where
  long : least_size ≤ length s
  long = whole_length s whole

  in-typed : RecordTyped (record_in s test)
  unfolding record_in summary_in name_in
  in-typed =
      record {
        id = number_fits s b 8 4 (omega (arith, long));
        start = start-within (is_flagged s dated_flag) (number_of (part s 12 8)) (number_fits s b 12 8 (omega (arith, long)));
        named = from-fits (part s 21 (get_or s 20 0));
        done = number_fits s b 42 2 (omega (arith, long));
        steps = number_fits s b 44 2 (omega (arith, long));
        skipped = number_fits s b 46 2 (omega (arith, long));
        ftp = ftp-within (is_flagged s measured_flag) (number_of (part s 64 2)) (number_fits s b 64 2 (omega (arith, long)));
      }

  within : (at : ℕ) → at + 4 ≤ least_size → number_of (part s at 4) ≤ most_ms
  within at h = omega (arith, number_fits s b at 4 (omega (arith, long, h)))

  unread-within : unread_in s ≤ most_ms
  unfolding unread_in
  unread-within = cond-by (λ (n : ℕ). n ≤ most_ms) (has_unread s) (λ _. within 66 (omega arith)) (λ _. omega arith)

  in-fits : RecordFits (record_in s test)
  unfolding record_in summary_in name_in
  in-fits =
      record {
        named = from-ok (part s 21 (get_or s 20 0));
        targeted = within 48 (omega arith);
        inside = within 52 (omega arith);
        under = within 56 (omega arith);
        over = within 60 (omega arith);
        unread = unread-within;
      }

module _ (s : List ℕ) (b : Bytes s) (r : Record) (e : decode_of s ≡ read_as r) where
  read-typed : RecordTyped r
  read-typed = let from = read-from s r e in subst RecordTyped from.is (in-typed s b from.whole from.test)

  read_fits : RecordFits r
  read_fits = let from = read-from s r e in subst RecordFits from.is (in-fits s b from.whole from.test)

pub read_again : ReadFits
read_again =
    record {
      typed = read-typed;
      fits = read_fits;
      again = λ s b r e later. written_same r (read-typed s b r e) (read_fits s b r e) later;
    }
