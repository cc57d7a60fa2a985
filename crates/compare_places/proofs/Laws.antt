-- One call more of the list, and the words of the last.
use mathlib.Core.Path.{◌≡◌, ◌∙◌, ap}
use mathlib.Core.Bool.{Bool}
use mathlib.Core.List.{List}
use Prim.Native.Nat.{ℕ, ◌+◌}
use native.Mathlib.Nat.{zero-add}
use native.Mathlib.Numerals.{add-one}
use Rattle.compare_player.specs.Calls.{call_at, turn_of}
use Rattle.compare_player.specs.declared.Seen.{Seen}
use Rattle.outcomes.specs.Outcomes.{Called, Answers}
use Rattle.outcomes.specs.declared.Update.{Update}
use Rattle.reports.specs.Reports.{places_of}
use Rattle.reports.specs.declared.PlacesRead.{PlacesRead}
use Rattle.compare_places.specs.Places.{played_lent, player_after, last_turn, last_seen, place_word, word_after}

pub player-next : (file calls : List ℕ) (exact : Bool) (i : ℕ)
    → played_lent (player_after file calls exact i) (call_at calls i) exact ≡ player_after file calls exact (i + 1)
unfolding player_after
player-next file calls exact i = rw add-one

-- a call's answer in words; its events stand in the caller's arrays
pub answers-turn : {ks vs ks' vs' : List ℕ} {r : Update} {o : Called} → Answers ks vs ks' vs' r o → turn_of r 7 ≡ last_turn o
answers-turn a = simp (a.answer, a.player, a.parts, a.wrote.count, zero-add)

pub word_after_lem : (file calls : List ℕ) (k : ℕ) (exact : Bool) (kinds values : ℕ) {told : PlacesRead} {seen : Seen}
    → told ≡ places_of (player_after file calls exact k)
    → seen ≡ last_seen file calls k exact kinds values
    → place_word told seen ≡ word_after file calls k exact kinds values
unfolding word_after
word_after_lem file calls k exact kinds values {told} {seen} t s =
    ap (λ (told : PlacesRead). place_word told seen) t ∙ ap (place_word (places_of (player_after file calls exact k))) s
