-- `compare_frame::bike_after` plays all calls and takes the last one's profile.
use mathlib.Core.Path.{◌∙◌, ap, ap₂}
use Rattle.compare_player.specs.Calls.{call_at}
use Rattle.compare_player.specs.declared.Call.{Call}
use Rattle.compare_player.specs.declared.Seen.{Seen}
use Rattle.frame.specs.declared.Bike.{Bike}
use Rattle.compare_frame.specs.Grants.{bike_on, bike_after}
use Rattle.compare_frame.proofs.bike_after.Goals as goal

pub returns : goal.returns
unfolding bike_after
returns c = let a = c.args in
    let call = c.call_at-call.ensures ∙ ap (call_at a.calls.now) c.last_place.ensures in
    ap₂ (λ (seen : Seen) (call : Call). let b : Bike = record { player = seen.player; profile = call.profile } in b) c.seen_at-seen.ensures call
    ∙ ap (bike_on a.file.now a.calls.now) c.whole_calls-k.ensures.0
