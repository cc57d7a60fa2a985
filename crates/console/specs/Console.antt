-- Document 01: what the C call takes and gives as numbers.
use Rattle.std.specs.Prelude.{Bool, not, ℕ, eqb, None, Option, Some}
use Rattle.refusal.specs.Number.{answer_number}
use Rattle.sheet.specs.declared.ActAnswer.{ActAnswer}
use Rattle.console.specs.declared.Replayed.{Replayed}

-- "and, where it names one, its act", told apart from act 0 by a number that no act has
abbrev pub act_number : Option ℕ → ℕ
act_number None = 4294967295
act_number (Some act) = act

-- "the refusal's number", 0 where nothing is refused
abbrev pub replayed_of : ActAnswer → Replayed
replayed_of outcome = record { refusal = answer_number outcome.answer; act = act_number outcome.act }

-- "(0 no, any other number yes)"
abbrev pub is_yes : ℕ → Bool
is_yes n = not (eqb n 0)
