-- `play`: what is left of the acts gives what all of them give, and in a ride what is left of its rounds what all of them give.
use mathlib.Core.Path.{◌≡◌}
use Prim.Native.Nat.{◌-◌}
use lib.ListN.{length}
use Rattle.rounds.proofs.Loop as loop
use Rattle.replay.proofs.Sheets.{At}
use Rattle.replay.proofs.play.Given as goal

abbrev pub invariant-loop-j : goal.invariant-loop-j
invariant-loop-j l =
    loop.At l.workout l.profile l.initial.minute l.initial.kinds l.initial.values l.initial.ride l.j l.minute l.kinds l.values l.ride × (length l.kinds ≡ 193) × (length l.values ≡ 193)

abbrev pub decreases-loop-j : goal.decreases-loop-j
decreases-loop-j l = 97 - l.j

abbrev pub invariant-loop-i : goal.invariant-loop-i
invariant-loop-i l =
    At l.workout l.profile l.sheet l.n l.initial.core l.initial.minute l.core l.minute l.i × (length l.kinds ≡ 193) × (length l.values ≡ 193)
