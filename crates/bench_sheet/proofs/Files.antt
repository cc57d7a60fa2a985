-- Files of 3, 4 and 476 bytes are refused by their length, or for want of a body.
use Rattle.std.specs.Prelude.{Result}
use mathlib.Core.Path.{◌≡◌, sym, ap}
use mathlib.Core.List.{List}
use Prim.Native.Nat.{ℕ, ◌-◌}
use native.Mathlib.Omega.{arith}
use lib.ListN.{length, take}
use Rattle.refusal.specs.declared.Refusal.{Refusal}
use Rattle.refusal.specs.Number.{question_number, answer_number}
use Rattle.model.specs.declared.Workout.{Workout}
use Rattle.decode.specs.Decode.{begins, file_of, decoded, decode_of}
use Rattle.decode.proofs.File.{too_short, too_long, no-magic}

number : (s : List ℕ) (d : Result Workout Refusal) → d ≡ file_of s → answer_number (decode_of s).answer ≡ answer_number (decoded d).answer
unfolding decode_of
number s d e = ap (λ (x : Result Workout Refusal). answer_number (decoded x).answer) (sym e)

pub bytes_3 : (s : List ℕ) → length s ≡ 3 → answer_number (decode_of s).answer ≡ 1
unfolding question_number
bytes_3 s e = number s _ (too_short s (omega arith))

pub bytes_4 : (s : List ℕ) → length s ≡ 4 → answer_number (decode_of s).answer ≡ 2
unfolding question_number
bytes_4 s e = number s _ (no-magic s (omega arith) (omega arith) (ap (λ (n : ℕ). begins (take (n - 4) s)) e))

pub bytes_476 : (s : List ℕ) → length s ≡ 476 → answer_number (decode_of s).answer ≡ 1
unfolding question_number
bytes_476 s e = number s _ (too_long s (omega arith) (omega arith))
