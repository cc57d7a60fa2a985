-- Document 01, 'Workout file': "Filler values are the first two of `Free` and the second of `HeartZone`: read past, written as 0."
-- Which values these are in a file's bytes.
use Rattle.std.specs.Prelude.{cond, List, [], ◌∷◌, ◌++◌, ℕ, zero, suc, ◌+◌, eqb, get_or, drop}
use Rattle.le.specs.Le.{number_of, part}
use Rattle.decode.specs.Decode.{body_of}

-- of a target kind and its first two values
abbrev pub target_fillers : ℕ → ℕ → ℕ → List ℕ
target_fillers kind a b = cond (eqb kind 0) (a ∷ b ∷ []) (cond (eqb kind 3) (b ∷ []) [])

-- of the step that begins here: its target kind is at place 6, the values behind it
unfoldable pub step_fillers : List ℕ → List ℕ
step_fillers l = target_fillers (get_or l 6 0) (number_of (part l 7 2)) (number_of (part l 9 2))

-- "a step's 15 bytes up to its note's length", and the note
abbrev pub step_size : List ℕ → ℕ
step_size l = 15 + get_or l 14 0

-- of n steps in a row
unfoldable pub steps_fillers : ℕ → List ℕ → List ℕ
steps_fillers zero l = []
steps_fillers (suc n) l = step_fillers l ++ steps_fillers n (drop (step_size l) l)

-- of a body: behind four bytes stand the name's length, its bytes, the two counts and the steps
unfoldable pub body_fillers : List ℕ → List ℕ
body_fillers body = steps_fillers (get_or body (5 + get_or body 4 0) 0) (drop (7 + get_or body 4 0) body)

unfoldable pub fillers : List ℕ → List ℕ
fillers s = body_fillers (body_of s)
