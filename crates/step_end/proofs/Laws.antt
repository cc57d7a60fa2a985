-- The end of a step: its answer and its two events, put together.
use Rattle.std.specs.Prelude.{Option, is_some}
use mathlib.Core.Path.{◌≡◌}
use mathlib.Core.Bool.{Bool}
use mathlib.Core.List.{List, [], ◌∷◌}
use Prim.Native.Nat.{ℕ, ◌+◌, ◌≤◌}
use lib.ListN.{length}
use Rattle.model.specs.declared.Workout.{Workout}
use Rattle.order.specs.declared.Played.{Played}
use Rattle.order.specs.Order.{played_of}
use Rattle.events.specs.Events.{Wrote}
use Rattle.events.proofs.Laws.{wrote_then}
use Rattle.state.specs.declared.Core.{Core}
use Rattle.measure.specs.Measure.{result_of}
use Rattle.step_end.specs.StepEnd.{arrived, ftp_events, after_event, next_of, Moves}

module _ {ks vs ks' vs' ks'' vs'' : List ℕ} {n m r : ℕ} (w : Workout) (skipped : Bool) (c q : Core) (found : Option Played) (result : Option ℕ) where
  pub next-made : found ≡ played_of w (c.position + 1) → result ≡ result_of w.test c.on c.lap skipped c.measured
      → q ≡ arrived found skipped result c → n ≤ length ks → n ≤ length vs → Wrote ks vs n ks' vs' m (ftp_events result)
      → Wrote ks' vs' m ks'' vs'' r (after_event (is_some found) (c.position + 1) ∷ [])
      → Moves ks vs n ks'' vs'' (record { core = q; count = r }) (next_of w skipped c)
  unfolding next_of
  next-made ef er eq hk hv a b = rw (← ef, ← er) (record { core = eq; wrote = wrote_then hk hv a b })
