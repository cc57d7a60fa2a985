-- `compare_places::compare_places` plays the calls before the last, and then the last one with the arrays lent.
use mathlib.Core.Path.{◌∙◌, ap}
use Prim.Native.Nat.{ℕ, min}
use lib.ListN.{length}
use Rattle.compare_files.specs.Files.{filled}
use Rattle.compare_player.specs.Calls.{call_at, looked_at}
use Rattle.compare_player.specs.declared.Call.{Call}
use Rattle.compare_player.specs.declared.Turn.{Turn}
use Rattle.outcomes.proofs.Laws.{answers-is}
use Rattle.reports.specs.Reports.{places_of}
use Rattle.state.specs.declared.Player.{Player}
use Rattle.compare_places.proofs.Laws.{answers-turn, word_after_lem}
use Rattle.compare_places.specs.Places.{is_yes, called_of, player_after, last_called, last_turn}
use Rattle.compare_places.proofs.compare_places.Goals as goal

pub returns : goal.returns
returns c = let a = c.args in
    let file = a.file.now in
    let calls = a.calls.now in
    let exact = is_yes a.exact in
    let kinds = length a.kinds.now in
    let values = length a.values.now in
    let n = min a.count 12500 in
    let call = c.call_at-call.ensures ∙ ap (call_at calls) c.least-k.ensures in
    let player = c.after-player.ensures ∙ ap (player_after file calls exact) c.least-k.ensures in
    let last =
    answers-is
    (ap (λ (p : Player). called_of p c.call_at-call.result kinds values) player
    ∙ ap (λ (k : Call). called_of (player_after file calls exact n) k kinds values) call)
    c.update-given.ensures in
    let seen =
    c.look.ensures
    ∙ ap (λ (t : Turn). looked_at t c.call_at-call.result) (c.turn_of.ensures ∙ answers-turn last)
    ∙ ap (looked_at (last_turn (last_called file calls n exact kinds values))) call in
    let words = word_after_lem file calls n exact kinds values (c.event_places-told.ensures ∙ ap places_of player) seen in
    let d = a.answer.now in
    record {
      kinds_after = last.wrote.kinds;
      values_after = last.wrote.values;
      answer_after = c.fill.ensures ∙ ap (λ (word : ℕ → ℕ). filled word d (min (length d) 82)) words;
    }
