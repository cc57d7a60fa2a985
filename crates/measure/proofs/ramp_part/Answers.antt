-- `ramp_part`: the seconds are pushed as the definition pushes them.
use Rattle.measure.specs.Measure.{Minute, minute_of, pushes, ramp_part, with_minute}
use Prim.Native.Nat.{ℕ, ◌+◌, ◌%◌}
use mathlib.Core.Path.{ap, ◌∙◌}
use Rattle.measure.proofs.ramp_part.Goals as goal

pub returns : goal.returns
unfolding ramp_part
returns c = let a = c.args in
    ap (λ (m : Minute). with_minute ((a.measured.minute_rest_ms + a.ms) % 1000) a.low m a.measured)
    (c.push_seconds-filled.ensures ∙ ap (λ (n : ℕ). pushes 60 n a.watts (minute_of a.measured.ring a.minute.now)) c.min.ensures)
