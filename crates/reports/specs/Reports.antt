-- player.rs: the calls that report, and `until_end`, with their questions. "Player handed in standing? 20 (first in every player call;
-- refused by any number, reports give nothing and `until_end` 0 and 0)."
use Rattle.std.specs.Prelude.{false, ℕ, Err, None, Ok, Result, ⊤}
use Rattle.refusal.specs.declared.Refusal.TheVariants as refusals
use Rattle.refusal.specs.Number.{ask}
use Rattle.refusal.specs.declared.Refusal.{Refusal}
use Rattle.zones.specs.declared.TrainingProfile.{TrainingProfile}
use Rattle.zones.specs.Zones.{profile_answer}
use Rattle.state.specs.declared.Player.{Player}
use Rattle.state.specs.State.{part, until_end, update_ok, event_places}
use Rattle.standing.specs.Standing.{standing_of}
use Rattle.start.specs.Start.{no_summary}
use Rattle.screen.specs.Screen.{remaining_of, is_distance, now_in, no_now}
use Rattle.reports.specs.declared.SummaryRead.{SummaryRead}
use Rattle.reports.specs.declared.RemainingRead.{RemainingRead}
use Rattle.reports.specs.declared.DistanceRead.{DistanceRead}
use Rattle.reports.specs.declared.PartRead.{PartRead}
use Rattle.reports.specs.declared.NowRead.{NowRead}
use Rattle.reports.specs.declared.PlacesRead.{PlacesRead}

abbrev pub standing_answer : Player → Result ⊤ Refusal
standing_answer p = ask (standing_of p) refusals.Standing (Ok tt)

-- player.rs, `summary`
abbrev pub summary_by : Player → Result ⊤ Refusal → SummaryRead
summary_by p (Ok tt) = record { answer = (Ok tt); summary = p.core.summary }
summary_by p (Err refusal) = record { answer = Err refusal; summary = no_summary 0 }

unfoldable pub summary_of : Player → SummaryRead
summary_of p = summary_by p (standing_answer p)

abbrev pub remaining_by : Player → Result ⊤ Refusal → RemainingRead
remaining_by p (Ok tt) = record { answer = (Ok tt); secs = remaining_of p.workout p.core }
remaining_by p (Err refusal) = record { answer = Err refusal; secs = None }

unfoldable pub remaining_secs : Player → RemainingRead
remaining_secs p = remaining_by p (standing_answer p)

abbrev pub distance_by : Player → Result ⊤ Refusal → DistanceRead
distance_by p (Ok tt) = record { answer = (Ok tt); distance = is_distance p.core.on.length }
distance_by p (Err refusal) = record { answer = Err refusal; distance = false }

unfoldable pub distance_of : Player → DistanceRead
distance_of p = distance_by p (standing_answer p)

abbrev pub until_by : Player → ℕ → ℕ → Result ⊤ Refusal → PartRead
until_by p ms mm (Ok tt) = record { answer = (Ok tt); part = until_end p.core ms mm }
until_by p ms mm (Err refusal) = record { answer = Err refusal; part = part 0 0 }

unfoldable pub until_of : Player → ℕ → ℕ → PartRead
until_of p ms mm = until_by p ms mm (ask (standing_of p) refusals.Standing (ask (update_ok ms mm) refusals.Update (Ok tt)))

-- Added for document 02, c: how many places to lend, what question 14 of the next update will want of each array.
abbrev pub places_by : Player → Result ⊤ Refusal → PlacesRead
places_by p (Ok tt) = record { answer = (Ok tt); places = event_places p.core }
places_by p (Err refusal) = record { answer = Err refusal; places = 0 }

unfoldable pub places_of : Player → PlacesRead
places_of p = places_by p (standing_answer p)

abbrev pub now_by : Player → TrainingProfile → Result ⊤ Refusal → NowRead
now_by p profile (Ok tt) = record { answer = (Ok tt); now = now_in p profile }
now_by p profile (Err refusal) = record { answer = Err refusal; now = no_now }

-- `now` asks 20, then 10 of the profile.
unfoldable pub now_of : Player → TrainingProfile → NowRead
now_of p profile = now_by p profile (ask (standing_of p) refusals.Standing (profile_answer profile))
