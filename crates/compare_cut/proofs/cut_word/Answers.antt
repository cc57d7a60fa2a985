-- `compare_cut::cut_word` gives the call's refusal, the check word so far, and then the summary's words.
use mathlib.Core.Path.{◌∙◌, sym, ap}
use mathlib.Core.List.{[], ◌∷◌}
use Prim.Native.Nat.{ℕ, ◌+◌}
use lib.ListN.{get_or}
use Rattle.common.proofs.Matches.{past, at_least}
use Rattle.compare_reports.specs.Words.{seen_word}
use Rattle.compare_cut.specs.Cuts.{cut_word}
use Rattle.compare_cut.proofs.cut_word.Goals as goal

pub returns-in-0 : goal.returns-in-0
unfolding cut_word
returns-in-0 c = let a = c.args in
    sym (ap (λ (k : ℕ). get_or (a.seen.given.number ∷ a.seen.given.check ∷ []) k (seen_word a.seen.given a.seen.reported (k + 4))) c.in-0.is)

pub returns-in-1 : goal.returns-in-1
unfolding cut_word
returns-in-1 c = let a = c.args in
    sym (ap (λ (k : ℕ). get_or (a.seen.given.number ∷ a.seen.given.check ∷ []) k (seen_word a.seen.given a.seen.reported (k + 4))) c.in-1.is)

pub returns-in_default : goal.returns-in_default
unfolding cut_word
returns-in_default c = let a = c.args in
    c.seen_word.ensures
    ∙ past (a.seen.given.number ∷ a.seen.given.check ∷ []) a.place (seen_word a.seen.given a.seen.reported (a.place + 4)) (at_least 2 _ c.in_default.in_default-own.rest)
