-- `grants_shared`: the call's four answers are the four places of what the wants are granted.
use Rattle.std.specs.Prelude.{Err, Ok, Result, ⊤}
use Rattle.refusal.specs.declared.Refusal.{Refusal}
use mathlib.Core.Path.{◌≡◌, refl, sym, ap, ◌∙◌, subst}
use mathlib.Core.List.{List, [], ◌∷◌, map}
use Prim.Native.Nat.{ℕ, ◌≤◌}
use native.Mathlib.Omega.{arith}
use lib.ListN.{get_or}
use Rattle.supply.specs.Supply.{grants_of, Shared}
use Rattle.supply.proofs.Laws.{grants-are, shared-is}
use Rattle.frame.specs.declared.Bike.{Bike}
use Rattle.frame.specs.Frame.{want_of, bikes_answer, grant_by, grant_of, four_grants}
use Rattle.frame.proofs.Laws.{grant-is}
use Rattle.frame.proofs.grants_shared.Goals as goal

four-by : (bikes : List Bike) (supply : ℕ) (a : Result ⊤ Refusal) → bikes_answer bikes ≡ a → four_grants bikes supply
    ≡ (grant_by a bikes supply 0).watts ∷ (grant_by a bikes supply 1).watts ∷ (grant_by a bikes supply 2).watts ∷ (grant_by a bikes supply 3).watts ∷ []
four-by bikes supply a e = simp (sym (at 0 (omega arith)), sym (at 1 (omega arith)), sym (at 2 (omega arith)), sym (at 3 (omega arith)))
  where
    at : (bike : ℕ) → bike ≤ 3 → grant_by a bikes supply bike ≡ grant_of bikes supply bike
    at bike h = grant-is bikes supply bike a h e

module _ (a b c d : Bike) (supply : ℕ) where
  abbrev four : List Bike
  four = a ∷ b ∷ c ∷ d ∷ []

  abbrev places_of : List ℕ → List ℕ
  places_of grants = get_or grants 0 0 ∷ get_or grants 1 0 ∷ get_or grants 2 0 ∷ get_or grants 3 0 ∷ []

  four_are : bikes_answer four ≡ Ok tt → four_grants four supply ≡ grants_of (map want_of four) supply
  four_are e =
      four-by four supply (Ok tt) e ∙ ap places_of (grants-are (map want_of four) supply) ∙ sym (grants-are (map want_of four) supply)

  four-shared : bikes_answer four ≡ Ok tt → Shared (map want_of four) supply (four_grants four supply)
  four-shared e = subst (Shared (map want_of four) supply) (sym (four_are e)) (shared-is (map want_of four) supply refl)

pub returns : goal.returns
returns c = record { accepted = four-shared; refused = λ a b c d supply refusal. four-by (a ∷ b ∷ c ∷ d ∷ []) supply (Err refusal) }
