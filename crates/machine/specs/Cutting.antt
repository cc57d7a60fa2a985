-- Document 01, 'The millisecond machine': lists of calls, and how a list's rides are cut.
use Rattle.std.specs.Prelude.{◌≡◌, List, [], ◌∷◌, ◌++◌, map, ℕ, ◌+◌, ◌<◌, length}
use Rattle.readings.specs.declared.Sample.{Sample}
use Rattle.power.specs.Power.{or_zero}

-- "every list of read, ride, skip and extend calls", each with its arguments but for player and profile: a reading's sample; a
-- ride's ms, mm and lengths of the lent arrays of kinds and values; a skip's lengths of those arrays; an extend's seconds and metres
-- (document 02, i).
pub data Call : Type 0 where
  read : Sample → Call
  ride : ℕ → ℕ → ℕ → ℕ → Call
  skip : ℕ → ℕ → Call
  extend : ℕ → ℕ → Call

-- "A ride is cut into one or more rides in a row": one of them.
pub record Piece : Type 0 where
  pub ms : ℕ
  pub mm : ℕ

-- A call of the uncut list, and the pieces of its ride; to other calls the pieces are nothing.
pub record CutCall : Type 0 where
  pub call : Call
  pub pieces : List Piece

-- "each lent as many event places as its ride"
abbrev pub piece_call : ℕ → ℕ → Piece → Call
piece_call kinds values q = ride q.ms q.mm kinds values

-- "other calls stay"
unfoldable pub calls_of : Call → List Piece → List Call
calls_of (read sample) qs = read sample ∷ []
calls_of (ride ms mm kinds values) qs = map (piece_call kinds values) qs
calls_of (skip kinds values) qs = skip kinds values ∷ []
calls_of (extend secs metres) qs = extend secs metres ∷ []

-- The uncut list and the cut list.

unfoldable pub uncut : List CutCall → List Call
uncut l = map (λ (c : CutCall). c.call) l

unfoldable pub cut : List CutCall → List Call
cut [] = []
cut (c ∷ l) = calls_of c.call c.pieces ++ cut l

unfoldable pub sum_ms : List Piece → ℕ
sum_ms [] = 0
sum_ms (q ∷ qs) = q.ms + sum_ms qs

unfoldable pub sum_mm : List Piece → ℕ
sum_mm [] = 0
sum_mm (q ∷ qs) = q.mm + sum_mm qs

-- "one or more rides in a row whose ms and mm add up to its own"
pub record Cuts (ms mm : ℕ) (qs : List Piece) : Type 0 where
  pub some : 0 < length qs
  pub ms_sum : sum_ms qs ≡ ms
  pub mm_sum : sum_mm qs ≡ mm

-- "Cut its rides at whatever points into shorter ones of the same total time and distance"
abbrev pub WellCut : Call → List Piece → Type 0
WellCut (read sample) qs = Unit
WellCut (ride ms mm kinds values) qs = Cuts ms mm qs
WellCut (skip kinds values) qs = Unit
WellCut (extend secs metres) qs = Unit

abbrev pub AllWellCut : List CutCall → Type 0
AllWellCut [] = Unit
AllWellCut (c ∷ l) = WellCut c.call c.pieces × AllWellCut l

-- What the types hold: a reading's power has 16 bits.
abbrev pub ReadFits : Call → Type 0
ReadFits (read sample) = or_zero sample.power_watts < 65536
ReadFits (ride ms mm kinds values) = Unit
ReadFits (skip kinds values) = Unit
ReadFits (extend secs metres) = Unit

abbrev pub ReadsFit : List CutCall → Type 0
ReadsFit [] = Unit
ReadsFit (c ∷ l) = ReadFits c.call × ReadsFit l

-- A list as it stands: each ride is its own one piece.

unfoldable pub own : Call → List Piece
own (read sample) = []
own (ride ms mm kinds values) = record { ms = ms; mm = mm } ∷ []
own (skip kinds values) = []
own (extend secs metres) = []

unfoldable pub alone : List Call → List CutCall
alone [] = []
alone (c ∷ cs) = record { call = c; pieces = own c } ∷ alone cs
