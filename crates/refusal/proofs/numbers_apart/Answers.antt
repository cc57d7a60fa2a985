-- `numbers_apart`: the answer of a number, which undoes `answer_number`.
use Rattle.std.specs.Prelude.{Err, Ok, Result, ⊤}
use mathlib.Core.Path.{◌≡◌, refl, sym, ap, ◌∙◌}
use mathlib.Core.Bool.{cond}
use mathlib.Core.List.{List, [], ◌∷◌}
use Prim.Native.Nat.{ℕ}
use lib.Dec.{eqb}
use Rattle.refusal.specs.declared.Invalid.TheVariants.{NoSteps, Block, Step, TooLong}
use Rattle.refusal.specs.declared.Refusal.{Refusal}
use Rattle.refusal.specs.declared.Refusal.TheVariants.{Length, Magic, Version, Checksum, Field, Profile, Cadence, Update, Totals, EventPlaces, Extra, SheetLength, Act, Record, Output, Standing, BikeNumber}
use Rattle.refusal.specs.declared.Refusal.TheVariants as cases
use Rattle.refusal.specs.Number.{question_number, answer_number}
use Rattle.refusal.proofs.numbers_apart.Goals as goal

abbrev refusals : List Refusal
refusals =
    Length ∷ Magic ∷ Version ∷ Checksum ∷ Field
    ∷ cases.Invalid NoSteps ∷ cases.Invalid Block ∷ cases.Invalid Step ∷ cases.Invalid TooLong
    ∷ Profile ∷ Cadence ∷ Update ∷ Totals ∷ EventPlaces ∷ Extra ∷ SheetLength ∷ Act ∷ Record ∷ Output ∷ Standing ∷ BikeNumber ∷ []

first_of : List Refusal → ℕ → Result ⊤ Refusal
first_of [] number = Ok tt
first_of (r ∷ rs) number = cond (eqb (question_number r) number) (Err r) (first_of rs number)

abbrev answer_of : ℕ → Result ⊤ Refusal
answer_of number = first_of refusals number

undone : (r : Refusal) → answer_of (question_number r) ≡ Err r
unfolding first_of question_number
undone Length = refl
undone Magic = refl
undone Version = refl
undone Checksum = refl
undone Field = refl
undone (cases.Invalid NoSteps) = refl
undone (cases.Invalid Block) = refl
undone (cases.Invalid Step) = refl
undone (cases.Invalid TooLong) = refl
undone Profile = refl
undone Cadence = refl
undone Update = refl
undone Totals = refl
undone EventPlaces = refl
undone Extra = refl
undone SheetLength = refl
undone Act = refl
undone Record = refl
undone Output = refl
undone Standing = refl
undone BikeNumber = refl

undone-answer : (a : Result ⊤ Refusal) → answer_of (answer_number a) ≡ a
unfolding first_of question_number
undone-answer (Ok tt) = refl
undone-answer (Err r) = undone r

apart : (a b : Result ⊤ Refusal) → answer_number a ≡ answer_number b → a ≡ b
apart a b e = sym (undone-answer a) ∙ ap answer_of e ∙ undone-answer b

refusals-apart : (a b : Refusal) → question_number a ≡ question_number b → a ≡ b
refusals-apart a b e = let same : Err a ≡ Err b = apart (Err a) (Err b) e in cc

pub returns : goal.returns
returns c = record { refusals = refusals-apart; answers = apart }
