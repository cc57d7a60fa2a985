-- Document 02, l, 'Four bikes, one supply': "Four players run side by side, bikes 0 to 3." The call that says how many watts of the supply
-- one of them gets.
use Rattle.std.specs.Prelude.{◌≡◌, List, [], ◌∷◌, map, ℕ, leb, get_or, Err, None, Ok, Option, Result, Some, ⊤}
use Rattle.refusal.specs.declared.Refusal.{Refusal}
use Rattle.refusal.specs.declared.Refusal.TheVariants as refusals
use Rattle.refusal.specs.Number.{ask}
use Rattle.zones.specs.Zones.{profile_ok}
use Rattle.model.specs.declared.Metric.{Metric}
use Rattle.model.specs.declared.Metric.TheVariants.{Power, Heart, Cadence}
use Rattle.model.specs.declared.Band.{Band}
use Rattle.standing.specs.Standing.{standing_of}
use Rattle.screen.specs.Screen.{shown_band}
use Rattle.supply.specs.Supply.{grants_of, Shared}
use Rattle.frame.specs.declared.Bike.{Bike}
use Rattle.frame.specs.declared.Granted.{Granted}

-- "the high end of its power band, or 0 without one"
abbrev pub power_high : Metric → ℕ → ℕ
power_high Power high = high
power_high Heart high = 0
power_high Cadence high = 0

abbrev pub band_watts : Option Band → ℕ
band_watts None = 0
band_watts (Some band) = power_high band.metric band.high

-- "Each wants the high end of its power band": of the band that the screen shows, which is that of the step's current second, and none
-- after the end.
unfoldable pub want_of : Bike → ℕ
want_of b = band_watts (shown_band b.player.core b.profile)

-- "20 and 10 for each bike in turn", whichever bike is named
unfoldable pub bikes_answer : List Bike → Result ⊤ Refusal
bikes_answer [] = Ok tt
bikes_answer (b ∷ bs) = ask (standing_of b.player) refusals.Standing (ask (profile_ok b.profile) refusals.Profile (bikes_answer bs))

-- "29, a bike number above 3, asked before all else"
abbrev pub grant_answer : List Bike → ℕ → Result ⊤ Refusal
grant_answer bikes bike = ask (leb bike 3) refusals.BikeNumber (bikes_answer bikes)

-- "refused, it grants 0"
abbrev pub grant_by : Result ⊤ Refusal → List Bike → ℕ → ℕ → Granted
grant_by (Ok tt) bikes supply bike = record { answer = (Ok tt); watts = get_or (grants_of (map want_of bikes) supply) bike 0 }
grant_by (Err refusal) bikes supply bike = record { answer = Err refusal; watts = 0 }

-- "The call takes four players, a profile for each, L and the number of the bike whose grant it gives"
unfoldable pub grant_of : List Bike → ℕ → ℕ → Granted
grant_of bikes supply bike = grant_by (grant_answer bikes bike) bikes supply bike

-- What the call gives for each bike.
abbrev pub four_grants : List Bike → ℕ → List ℕ
four_grants bikes supply =
    (grant_of bikes supply 0).watts ∷ (grant_of bikes supply 1).watts ∷ (grant_of bikes supply 2).watts ∷ (grant_of bikes supply 3).watts ∷ []

-- Four bikes, each asked for: what the client says of four wants and L is true of the call's four answers. One bike that is refused
-- leaves every bike without watts.
pub record GrantsShared : Type 0 where
  pub accepted : (a b c d : Bike) (supply : ℕ) → bikes_answer (a ∷ b ∷ c ∷ d ∷ []) ≡ Ok tt
      → Shared (map want_of (a ∷ b ∷ c ∷ d ∷ [])) supply (four_grants (a ∷ b ∷ c ∷ d ∷ []) supply)
  pub refused : (a b c d : Bike) (supply : ℕ) (refusal : Refusal) → bikes_answer (a ∷ b ∷ c ∷ d ∷ []) ≡ Err refusal
      → four_grants (a ∷ b ∷ c ∷ d ∷ []) supply ≡ 0 ∷ 0 ∷ 0 ∷ 0 ∷ []
