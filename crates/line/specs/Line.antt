-- Document 01, 'Bench sheet': "`done 1 of 1 skipped 0 targeted 10000 in 10000 under 0 over 0 finished yes ftp none` (counts of steps,
-- then ms; yes or no; watts or none). A refusal gives `refused 12 act 3` (number, act from 0) or `refused 4`." Text is a list of
-- bytes, ASCII.
use Rattle.std.specs.Prelude.{◌≡◌, Bool, true, false, cond, List, [], ◌∷◌, ◌++◌, ℕ, zero, suc, ◌+◌, ◌/◌, ◌%◌, ltb, length, Err, None, Ok, Option, Result, Some, ⊤}
use Rattle.le.specs.Le.{written}
use Rattle.refusal.specs.declared.Refusal.{Refusal}
use Rattle.refusal.specs.Number.{question_number}
use Rattle.state.specs.declared.Summary.{Summary}
use Rattle.replay.specs.declared.Ridden.{Ridden}

-- A number in decimal, with no zeros in front.

unfoldable pub decimal_in : ℕ → ℕ → List ℕ
decimal_in zero n = []
decimal_in (suc k) n = cond (ltb n 10) ((48 + n) ∷ []) (decimal_in k (n / 10) ++ ((48 + n % 10) ∷ []))

-- 20 places hold any number of 64 bits
unfoldable pub decimal_of : ℕ → List ℕ
decimal_of n = decimal_in 20 n

-- The words, each with the blanks around it.

-- "done "
abbrev pub done_word : List ℕ
done_word = 100 ∷ 111 ∷ 110 ∷ 101 ∷ 32 ∷ []

-- " of "
abbrev pub of_word : List ℕ
of_word = 32 ∷ 111 ∷ 102 ∷ 32 ∷ []

-- " skipped "
abbrev pub skipped_word : List ℕ
skipped_word = 32 ∷ 115 ∷ 107 ∷ 105 ∷ 112 ∷ 112 ∷ 101 ∷ 100 ∷ 32 ∷ []

-- " targeted "
abbrev pub targeted_word : List ℕ
targeted_word = 32 ∷ 116 ∷ 97 ∷ 114 ∷ 103 ∷ 101 ∷ 116 ∷ 101 ∷ 100 ∷ 32 ∷ []

-- " in "
abbrev pub in_word : List ℕ
in_word = 32 ∷ 105 ∷ 110 ∷ 32 ∷ []

-- " under "
abbrev pub under_word : List ℕ
under_word = 32 ∷ 117 ∷ 110 ∷ 100 ∷ 101 ∷ 114 ∷ 32 ∷ []

-- " over "
abbrev pub over_word : List ℕ
over_word = 32 ∷ 111 ∷ 118 ∷ 101 ∷ 114 ∷ 32 ∷ []

-- " finished "
abbrev pub finished_word : List ℕ
finished_word = 32 ∷ 102 ∷ 105 ∷ 110 ∷ 105 ∷ 115 ∷ 104 ∷ 101 ∷ 100 ∷ 32 ∷ []

-- "yes"
abbrev pub yes_word : List ℕ
yes_word = 121 ∷ 101 ∷ 115 ∷ []

-- "no"
abbrev pub no_word : List ℕ
no_word = 110 ∷ 111 ∷ []

-- " ftp "
abbrev pub ftp_word : List ℕ
ftp_word = 32 ∷ 102 ∷ 116 ∷ 112 ∷ 32 ∷ []

-- "none"
abbrev pub none_word : List ℕ
none_word = 110 ∷ 111 ∷ 110 ∷ 101 ∷ []

-- "refused "
abbrev pub refused_word : List ℕ
refused_word = 114 ∷ 101 ∷ 102 ∷ 117 ∷ 115 ∷ 101 ∷ 100 ∷ 32 ∷ []

-- " act "
abbrev pub act_word : List ℕ
act_word = 32 ∷ 97 ∷ 99 ∷ 116 ∷ 32 ∷ []

-- A line's end.
abbrev pub newline : List ℕ
newline = 10 ∷ []

-- The parts of the line. A word and the number behind it.

abbrev pub field_of : List ℕ → ℕ → List ℕ
field_of word n = word ++ decimal_of n

-- "counts of steps"
abbrev pub counts_of : Summary → List ℕ
counts_of s = (field_of done_word s.steps_done ++ field_of of_word s.steps) ++ field_of skipped_word s.skipped

-- "then ms"
abbrev pub times_of : Summary → List ℕ
times_of s =
    ((field_of targeted_word s.targeted_ms ++ field_of in_word s.in_ms) ++ field_of under_word s.under_ms)
    ++ field_of over_word s.over_ms

-- "yes or no"
abbrev pub yes_or_no : Bool → List ℕ
yes_or_no true = yes_word
yes_or_no false = no_word

-- "watts or none"
abbrev pub watts_or_none : Option ℕ → List ℕ
watts_or_none None = none_word
watts_or_none (Some watts) = decimal_of watts

abbrev pub end_of : Summary → List ℕ
end_of s = ((finished_word ++ yes_or_no s.finished) ++ ftp_word) ++ watts_or_none s.ftp

unfoldable pub summary_text : Summary → List ℕ
summary_text s = (counts_of s ++ times_of s) ++ end_of s

-- "act from 0", where a refusal names one
abbrev pub act_text : Option ℕ → List ℕ
act_text None = []
act_text (Some act) = field_of act_word act

unfoldable pub refusal_text : Refusal → Option ℕ → List ℕ
refusal_text refusal act = field_of refused_word (question_number refusal) ++ act_text act

abbrev pub outcome_by : Result ⊤ Refusal → Option ℕ → Summary → List ℕ
outcome_by (Ok tt) act s = summary_text s
outcome_by (Err refusal) act s = refusal_text refusal act

unfoldable pub line_of : Ridden → List ℕ
line_of r = outcome_by r.outcome.answer r.outcome.act r.summary ++ newline

-- What a writer gives: the place behind its bytes, and the bytes there. "Output bytes past those written stay."
pub record Wrote (d : List ℕ) (at : ℕ) (d' : List ℕ) (r : ℕ) (bs : List ℕ) : Type 0 where
  pub place : r ≡ at + length bs
  pub bytes : d' ≡ written d at bs
