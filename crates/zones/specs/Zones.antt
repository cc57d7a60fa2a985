-- ride/zones.rs: percent, zones, ranges, and document 01's question 10.
use Rattle.std.specs.Prelude.{Bool, cond, ◌&&◌, List, [], ◌∷◌, ◌++◌, ℕ, ◌+◌, ◌-◌, ◌*◌, ◌/◌, max, min, ltb, leb, eqb, get_or, Err, Ok, Result, ⊤}
use Rattle.refusal.specs.declared.Refusal.TheVariants as refusals
use Rattle.refusal.specs.Number.{ask, question_number}
use Rattle.refusal.specs.declared.Refusal.{Refusal}
use Rattle.zones.specs.declared.TrainingProfile.{TrainingProfile}
use Rattle.zones.specs.declared.Range.{Range}

-- "Percent is (base × pct + 50) / 100, division downwards throughout."
unfoldable pub percent_of : ℕ → ℕ → ℕ
percent_of base pct = (base * pct + 50) / 100

-- "Profile: FTP 50 to 600 and LTHR 1 to 255? 10."
abbrev pub profile_ok : TrainingProfile → Bool
profile_ok p = leb 50 p.ftp_watts && leb p.ftp_watts 600 && leb 1 p.lthr_bpm && leb p.lthr_bpm 255

unfoldable pub profile_answer : TrainingProfile → Result ⊤ Refusal
profile_answer p = ask (profile_ok p) refusals.Profile (Ok tt)

abbrev pub new_of : TrainingProfile → Result ⊤ Refusal → Result TrainingProfile Refusal
new_of p (Ok tt) = Ok p
new_of p (Err refusal) = Err refusal

-- "When an answer is an enum, a definition states this paper's number and values for each of its cases.": the question's number, 0 for
-- none, beside the profile that the case has.
abbrev pub new_number : Result TrainingProfile Refusal → ℕ
new_number (Ok p) = 0
new_number (Err refusal) = question_number refusal

abbrev pub profile_new : ℕ → ℕ → Result TrainingProfile Refusal
profile_new ftp lthr = let p : TrainingProfile = record { ftp_watts = ftp; lthr_bpm = lthr } in new_of p (profile_answer p)

-- Upper bounds of power zones 1 to 6, in percent of FTP.
abbrev pub power_upper : List ℕ
power_upper = 55 ∷ 75 ∷ 90 ∷ 105 ∷ 120 ∷ 150 ∷ []

-- Lower bounds of heart zones 2 to 5, in percent of LTHR.
abbrev pub heart_lower : List ℕ
heart_lower = 81 ∷ 90 ∷ 94 ∷ 100 ∷ []

-- How many bounds pass the test.
abbrev pub count : (ℕ → Bool) → List ℕ → ℕ
count test [] = 0
count test (pct ∷ pcts) = cond (test pct) 1 0 + count test pcts

-- 1 + the number of upper bounds that the watts are above.
unfoldable pub power_zone : TrainingProfile → ℕ → ℕ
power_zone p watts = 1 + count (λ pct. ltb (percent_of p.ftp_watts pct) watts) power_upper

-- 1 + the number of lower bounds that the rate reaches.
unfoldable pub heart_zone : TrainingProfile → ℕ → ℕ
heart_zone p bpm = 1 + count (λ pct. leb (percent_of p.lthr_bpm pct) bpm) heart_lower

-- A zone's number, moved into 1 to zones.
abbrev pub clamped : ℕ → ℕ → ℕ
clamped zone zones = min (max zone 1) zones

-- One more than the upper bound of the zone at a place from 0; the open top zone ends at 200 % of FTP.
abbrev pub upper : TrainingProfile → ℕ → ℕ
upper p at = percent_of p.ftp_watts (get_or (power_upper ++ (200 ∷ [])) at 0) + 1

-- From a zone's beginning to the next one's, which is at least one further.
abbrev pub range_from : ℕ → ℕ → Range
range_from low next = record { low = low; next = max next (low + 1) }

-- The lowest zone begins at 0, another where the one below it ends.
abbrev pub power_from : TrainingProfile → ℕ → Range
power_from p at = range_from (cond (eqb at 0) 0 (upper p (at - 1))) (upper p at)

unfoldable pub power_range : TrainingProfile → ℕ → Range
power_range p zone = power_from p (clamped zone 7 - 1)

-- The bounds of the heart zones in percent of LTHR, from 65 % at the bottom to 110 % at the top.
abbrev pub bound : TrainingProfile → ℕ → ℕ
bound p at = percent_of p.lthr_bpm (get_or (65 ∷ (heart_lower ++ (110 ∷ []))) at 0)

abbrev pub heart_from : TrainingProfile → ℕ → Range
heart_from p at = range_from (bound p at) (bound p (at + 1))

unfoldable pub heart_range : TrainingProfile → ℕ → Range
heart_range p zone = heart_from p (clamped zone 5 - 1)
