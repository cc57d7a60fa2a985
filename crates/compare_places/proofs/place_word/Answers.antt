-- `compare_places::place_word` gives what was told before the call, and then the words after it.
use mathlib.Core.Path.{◌∙◌, sym, ap}
use Prim.Native.Nat.{ℕ, ◌-◌}
use lib.ListN.{get_or}
use Rattle.common.proofs.Matches.{past, at_least}
use Rattle.compare_reports.specs.Words.{seen_word}
use Rattle.compare_places.specs.Places.{told_facts, place_word}
use Rattle.compare_places.proofs.place_word.Goals as goal

pub returns-in-0 : goal.returns-in-0
unfolding place_word
returns-in-0 c = let a = c.args in c.refused_number.ensures ∙ sym (ap (λ (k : ℕ). get_or (told_facts a.told) k (seen_word a.seen.given a.seen.reported (k - 2))) c.in-0.is)

pub returns-in-1 : goal.returns-in-1
unfolding place_word
returns-in-1 c = let a = c.args in sym (ap (λ (k : ℕ). get_or (told_facts a.told) k (seen_word a.seen.given a.seen.reported (k - 2))) c.in-1.is)

pub returns-in_default : goal.returns-in_default
unfolding place_word
returns-in_default c = let a = c.args in
    c.seen_word.ensures ∙ past (told_facts a.told) a.place (seen_word a.seen.given a.seen.reported (a.place - 2)) (at_least 2 _ c.in_default.in_default-own.rest)
