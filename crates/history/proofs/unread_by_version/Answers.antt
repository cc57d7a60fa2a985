-- `history::unread_by_version` meets its contract: what is read is `unread_in`, or nothing is read.
use Rattle.model.specs.declared.Test.{Test}
use Rattle.std.specs.Prelude.{Err, None, Ok, Option, Some, Result, ⊤}
use mathlib.Core.Path.{◌≡◌, refl, ap}
use mathlib.Core.Bool.{Bool, true, false, cond, ◌&&◌}
use mathlib.Core.List.{List}
use Prim.Native.Nat.{ℕ}
use native.Mathlib.Omega.{arith}
use lib.Dec.{leb}
use lib.ListN.{get_or}
use borrow.Author.Tests.{le-leb, lt-leb}
use Rattle.common.proofs.Tests.{cond-by, and_both}
use Rattle.le.specs.Le.{number_of, part}
use Rattle.refusal.specs.declared.Refusal.TheVariants as refusals
use Rattle.refusal.specs.declared.Refusal.{Refusal}
use Rattle.refusal.specs.Number.{question_number, answer_number}
use Rattle.decode.specs.Decode.{test_of}
use Rattle.history.specs.declared.RecordRead.{RecordRead}
use Rattle.history.specs.Record.{version, body_size}
use Rattle.history.specs.Decode.{version_place, name_place, test_place, body_of, is_whole, has_unread, unread_in, summary_in, record_in, no_record, with_test, decode_of}
use Rattle.history.specs.Unread.{unread_of}
use Rattle.history.proofs.unread_by_version.Goals as goal

refused-not-accepted : ◌≡◌ {A = Result ⊤ Refusal} (Err refusals.Record) (Ok tt) → ⊥
unfolding question_number
refused-not-accepted e = let z : ◌≡◌ {A = ℕ} 18 0 = ap answer_number e in absurd (omega arith)

not-both : (a b : Bool) → b ≡ false → (a && b) ≡ false
not-both true b e = e
not-both false b e = refl

module _ (s : List ℕ) where
  -- what holds of the record in the bytes and of a refusal holds of what is read
  decode-by : (P : RecordRead → Type 0) → ((t : Option Test) → P (with_test s t)) → P no_record → P (decode_of s)
  unfolding decode_of
  decode-by P read refused =
      cond-by P (is_whole s && leb (get_or s name_place 0) 20) (λ _. read (test_of (get_or s test_place 0))) (λ _. refused)

  none_read : has_unread s ≡ false → unread_of s ≡ 0
  unfolding record_in summary_in unread_in
  none_read e = decode-by (λ (x : RecordRead). x.«record».summary.unread_ms ≡ 0) by-test refl
    where
      by-test : (t : Option Test) → (with_test s t).«record».summary.unread_ms ≡ 0
      by-test (Some test) = ap (λ (b : Bool). cond b (number_of (part s 66 4)) 0) e
      by-test None = refl

  some_read : has_unread s ≡ true → (decode_of s).answer ≡ Ok tt → unread_of s ≡ number_of (part s 66 4)
  unfolding record_in summary_in unread_in
  some_read e =
      decode-by (λ (x : RecordRead). x.answer ≡ Ok tt → x.«record».summary.unread_ms ≡ number_of (part s 66 4)) by-test
      (λ a. absurd (refused-not-accepted a))
    where
      by-test : (t : Option Test) → (with_test s t).answer ≡ Ok tt → (with_test s t).«record».summary.unread_ms ≡ number_of (part s 66 4)
      by-test (Some test) a = ap (λ (b : Bool). cond b (number_of (part s 66 4)) 0) e
      by-test None a = absurd (refused-not-accepted a)

pub returns : goal.returns
returns c =
    record {
      version_1 = λ s e. none_read s (ap (λ (v : ℕ). leb version v && leb body_size (body_of s)) e);
      shorter = λ s h. none_read s (not-both (leb version (get_or s version_place 0)) (leb body_size (body_of s)) (lt-leb body_size (body_of s) h));
      later = λ s a v b. some_read s (and_both (le-leb version (get_or s version_place 0) v) (le-leb body_size (body_of s) b)) a;
    }
