-- Document 02, i: the extends that change nothing, of every player that stands.
use Rattle.std.specs.Prelude.{◌≡◌, true, false, ℕ, Ok}
use Rattle.model.specs.declared.Length.TheVariants.{Time, Distance, Open}
use Rattle.state.specs.declared.Player.{Player}
use Rattle.standing.specs.Standing.{standing_of}
use Rattle.outcomes.specs.declared.Extended.{Extended}
use Rattle.outcomes.specs.Outcomes.{not_extended}
use Rattle.player.specs.Calls.{extend_with}

-- (Ok tt), `true`, and the player as it was.
abbrev pub extended_by_none : Player → Extended
extended_by_none p = record { answer = (Ok tt); player = p; extended = true }

pub record IdleExtends : Type 0 where
  -- "Open or finished gives `false`, no refusal", whatever the amount.
  pub finished : (p : Player) (secs metres : ℕ) → standing_of p ≡ true → p.core.done ≡ true → extend_with secs metres p ≡ not_extended (Ok tt) p
  pub open_step : (p : Player) (secs metres : ℕ) → standing_of p ≡ true → p.core.on.length ≡ Open → extend_with secs metres p ≡ not_extended (Ok tt) p
  -- Question 15 is asked of the step's own unit, and 0 of it is let through at the limit too, whatever the other amount is.
  pub timed : (p : Player) (time metres : ℕ) → standing_of p ≡ true → p.core.done ≡ false → p.core.on.length ≡ Time time
      → extend_with 0 metres p ≡ extended_by_none p
  pub distance : (p : Player) (way secs : ℕ) → standing_of p ≡ true → p.core.done ≡ false → p.core.on.length ≡ Distance way
      → extend_with secs 0 p ≡ extended_by_none p
