-- The number of a grant's answer: of the refusals there are three, 20, 10 and 29.
use Rattle.std.specs.Prelude.{Err, Ok, Result, ⊤}
use mathlib.Core.Path.{◌≡◌, sym, subst}
use mathlib.Core.Bool.{Bool, true, false}
use mathlib.Core.List.{List, [], ◌∷◌}
use Prim.Native.Nat.{ℕ, ◌≤◌}
use native.Mathlib.Omega.{arith}
use lib.Dec.{leb}
use Rattle.refusal.specs.declared.Refusal.TheVariants as refusals
use Rattle.refusal.specs.Number.{ask, question_number, answer_number}
use Rattle.refusal.specs.declared.Refusal.{Refusal}
use Rattle.zones.specs.Zones.{profile_ok}
use Rattle.standing.specs.Standing.{standing_of}
use Rattle.frame.specs.declared.Bike.{Bike}
use Rattle.frame.specs.declared.Granted.{Granted}
use Rattle.frame.specs.Frame.{bikes_answer, grant_answer, grant_by, grant_of}

-- one bike's questions, then the others'
one-small : (s p : Bool) (rest : Result ⊤ Refusal) → answer_number rest ≤ 29
    → answer_number (ask s refusals.Standing (ask p refusals.Profile rest)) ≤ 29
unfolding question_number
one-small true true rest h = h
one-small true false rest h = omega arith
one-small false p rest h = omega arith

bikes-small : (bikes : List Bike) → answer_number (bikes_answer bikes) ≤ 29
unfolding bikes_answer
bikes-small [] = omega arith
bikes-small (b ∷ bs) = one-small (standing_of b.player) (profile_ok b.profile) (bikes_answer bs) (bikes-small bs)

number_small : (t : Bool) (rest : Result ⊤ Refusal) → answer_number rest ≤ 29 → answer_number (ask t refusals.BikeNumber rest) ≤ 29
unfolding question_number
number_small true rest h = h
number_small false rest h = omega arith

grant-small : (a : Result ⊤ Refusal) (bikes : List Bike) (supply bike : ℕ) → answer_number a ≤ 29 → answer_number (grant_by a bikes supply bike).answer ≤ 29
grant-small (Ok tt) bikes supply bike h = h
grant-small (Err refusal) bikes supply bike h = h

pub answer-small : (bikes : List Bike) (supply bike : ℕ) {g : Granted} → g ≡ grant_of bikes supply bike → answer_number g.answer ≤ 29
unfolding grant_of
answer-small bikes supply bike e =
    subst (λ (g : Granted). answer_number g.answer ≤ 29) (sym e)
    (grant-small (grant_answer bikes bike) bikes supply bike (number_small (leb bike 3) (bikes_answer bikes) (bikes-small bikes)))
