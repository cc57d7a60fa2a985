-- model.rs's playing order as a list, written from its sentence: the steps in order, each block's steps repeated.
use Rattle.std.specs.Prelude.{Bool, true, false, cond, not, ◌&&◌, ◌≡◌, ℕ, zero, suc, ◌+◌, ◌*◌, ◌/◌, ◌%◌, ltb, leb, eqb, length, get_or, take, drop, None, Option, Some, is_some, unwrap_or}
use mathlib.Core.List.{List, [], ◌∷◌, map, flat_map}
use Rattle.common.specs.Lists.{sum, range, all}
use Rattle.blocks.specs.Blocks.{blocks_sound, repeats}
use Rattle.model.specs.declared.Block.{Block}
use Rattle.model.specs.declared.Step.{Step}
use Rattle.model.specs.declared.Length.{Length}
use Rattle.model.specs.declared.Length.TheVariants.{Time, Distance, Open}
use Rattle.model.specs.declared.Workout.{Workout}
use Rattle.model.specs.Workout.{no_step, steps_of, blocks_of}
use Rattle.order.specs.declared.Place.{Place}
use Rattle.order.specs.declared.Played.{Played}

abbrev pub place : ℕ → ℕ → ℕ → Place
place index repetition count = record { index = index; repetition = repetition; of = count }

-- One run of a block: its steps in order.
unfoldable pub run : Block → ℕ → List Place
run b repetition = map (λ index. place index repetition b.count) (range b.first b.len)

-- A block's steps, repeated: its runs one after the other.
unfoldable pub runs : Block → List Place
runs b = flat_map (run b) (range 0 b.count)

-- A block holds the steps from `first` up to `first + len`.
abbrev pub holds : Block → ℕ → Bool
holds b index = leb b.first index && ltb index (b.first + b.len)

-- The first block of the list that holds a step. In sound blocks no other does.
unfoldable pub block_at : List Block → ℕ → Option Block
block_at [] index = None
block_at (b ∷ bs) index = cond (holds b index) (Some b) (block_at bs index)

-- What is played at a step: a step outside blocks once; at a block's first step all its runs, which have its other steps too.
abbrev pub piece : Option Block → ℕ → List Place
piece None index = place index 0 1 ∷ []
piece (Some b) index = cond (eqb b.first index) (runs b) []

-- The playing order of some steps with their blocks.
unfoldable pub order : ℕ → List Block → List Place
order steps bs = flat_map (λ index. piece (block_at bs index) index) (range 0 steps)

abbrev pub order_of : Workout → List Place
order_of w = order (length (steps_of w)) (blocks_of w)

-- The element at a place, if the list has one.
unfoldable pub nth : List Place → ℕ → Option Place
nth [] n = None
nth (x ∷ xs) zero = Some x
nth (x ∷ xs) (suc n) = nth xs n

-- How many places come at a step, and the one after `before` others there: what the look-up counts by.
abbrev pub piece_len : Option Block → ℕ → ℕ
piece_len None index = 1
piece_len (Some b) index = cond (eqb b.first index) (b.len * b.count) 0

abbrev pub place_in : Option Block → ℕ → ℕ → Place
place_in None index before = place index 0 1
place_in (Some b) index before = place (b.first + before % b.len) (before / b.len) b.count

-- `NO_PLAYED`: what is taken where no step is played.
abbrev pub no_played : Played
no_played = record { index = 0; repetition = 0; of = 1; step = no_step }

abbrev pub played_in : Option Played → Played
played_in found = unwrap_or found no_played

abbrev pub nothing : Option Played
nothing = None

-- The step at a place. In sound blocks every place is one of the steps.
unfoldable pub step_at : List Step → Place → Option Played
step_at steps p =
    cond (ltb p.index (length steps))
    (Some (record { index = p.index; repetition = p.repetition; of = p.of; step = get_or steps p.index no_step }))
    nothing

abbrev pub played_by : List Step → Option Place → Option Played
played_by steps None = nothing
played_by steps (Some p) = step_at steps p

-- model.rs, `played()` as a function from position to played step.
unfoldable pub played_of : Workout → ℕ → Option Played
played_of w position = played_by (steps_of w) (nth (order_of w) position)

-- Seconds of a timed step; distance and open steps count nothing.
abbrev pub seconds : Length → ℕ
seconds (Time secs) = secs
seconds (Distance metres) = 0
seconds Open = 0

abbrev pub played_seconds : Option Played → ℕ
played_seconds p = cond (is_some p) (seconds (played_in p).step.length) 0

-- Planned seconds of the order from a position on. A workout that passes question 9 has at most 96 places in it.
unfoldable pub planned_from : Workout → ℕ → ℕ
planned_from w position = sum (map (λ p. played_seconds (step_at (steps_of w) p)) (drop position (take 96 (order_of w))))

abbrev pub timed : Length → Bool
timed (Time secs) = true
timed (Distance metres) = false
timed Open = false

abbrev pub timed_step : Step → Bool
timed_step s = timed s.length

abbrev pub all_timed : List Step → Bool
all_timed steps = all timed_step steps

-- Some step ends only when the rider says so or by distance.
unfoldable pub has_untimed : Workout → Bool
has_untimed w = not (all_timed (steps_of w))

-- The number of steps played, repeats expanded: what question 9 asks of.
unfoldable pub played_len : Workout → ℕ
played_len w = length (steps_of w) + repeats (blocks_of w)

-- Of a workout with sound blocks: the order's length, and that a step is played at each position below it and at no other.
pub record PlayingOrder : Type 0 where
  pub order_length : (w : Workout) → blocks_sound (length (steps_of w)) (blocks_of w) ≡ true → length (order_of w) ≡ played_len w
  pub played_below : (w : Workout) → blocks_sound (length (steps_of w)) (blocks_of w) ≡ true → (position : ℕ)
      → is_some (played_of w position) ≡ ltb position (played_len w)
