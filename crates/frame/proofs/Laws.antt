-- Laws of the four bikes' questions, asked in turn, and of the wants that are gathered meanwhile.
use Rattle.std.specs.Prelude.{Err, Ok, Result, ⊤}
use mathlib.Core.Path.{◌≡◌, refl, sym, ap, ap₂, ◌∙◌}
use mathlib.Core.Bool.{Bool, true, false}
use mathlib.Core.List.{List, [], ◌∷◌, ◌++◌, map, append-nil}
use Prim.Native.Nat.{ℕ, zero, suc, ◌+◌, ◌-◌, ◌≤◌, ◌<◌}
use native.Mathlib.Omega.{arith}
use native.Mathlib.Numerals.{add-one}
use lib.ListN.{length, get_or, take, drop, set, replicate, length-map, drop_of_length-le}
use lib.Seq.{drop-cons, take-suc, take-nil, length-take-le}
use borrow.Author.Tests.{le-leb, lt-leb}
use Rattle.common.proofs.Lists.{fill}
use Rattle.refusal.specs.declared.Refusal.{Refusal}
use Rattle.refusal.specs.declared.Refusal.TheVariants as refusals
use Rattle.refusal.specs.Number.{ask}
use Rattle.validation.proofs.Passes.{ask-left}
use Rattle.zones.specs.Zones.{profile_ok}
use Rattle.standing.specs.Standing.{standing_of}
use Rattle.screen.specs.Screen.{ReportFits}
use Rattle.reports.proofs.Laws.{report-fits}
use Rattle.frame.specs.declared.Bike.{Bike}
use Rattle.frame.specs.Frame.{want_of, bikes_answer, grant_by, grant_of}

pub asked-fits : (b : Bike) → bikes_answer (b ∷ []) ≡ Ok tt → ReportFits b.player.core
unfolding bikes_answer
asked-fits b e =
    report-fits b.player (ask-left (standing_of b.player) refusals.Standing (ask (profile_ok b.profile) refusals.Profile (Ok tt)) e)

-- one bike's questions, then the others'
passed_on : (s p : Bool) (rest : Result ⊤ Refusal) → ask s refusals.Standing (ask p refusals.Profile (Ok tt)) ≡ Ok tt
    → ask s refusals.Standing (ask p refusals.Profile rest) ≡ rest
passed_on true true rest e = refl
passed_on true false rest e = absurd (let z : ◌≡◌ {A = ℕ} 0 1 = cc in omega arith)
passed_on false p rest e = absurd (let z : ◌≡◌ {A = ℕ} 0 1 = cc in omega arith)

failed-at : (s p : Bool) (rest : Result ⊤ Refusal) (r : Refusal) → ask s refusals.Standing (ask p refusals.Profile (Ok tt)) ≡ Err r
    → ask s refusals.Standing (ask p refusals.Profile rest) ≡ Err r
failed-at true true rest r e = absurd (let z : ◌≡◌ {A = ℕ} 0 1 = cc in omega arith)
failed-at true false rest r e = e
failed-at false p rest r e = e

module _ (bikes : List Bike) (i : ℕ) (d : Bike) (h : i < length bikes) where
  rest-is : drop i bikes ≡ get_or bikes i d ∷ drop (i + 1) bikes
  rest-is = drop-cons bikes i d h ∙ ap (λ (k : ℕ). get_or bikes i d ∷ drop k bikes) (sym (add-one i))

  pub next-bike : bikes_answer (get_or bikes i d ∷ []) ≡ Ok tt → bikes_answer (drop i bikes) ≡ bikes_answer (drop (i + 1) bikes)
  unfolding bikes_answer
  next-bike e =
      ap bikes_answer rest-is
      ∙ passed_on (standing_of (get_or bikes i d).player) (profile_ok (get_or bikes i d).profile) (bikes_answer (drop (i + 1) bikes)) e

  pub this-bike : (r : Refusal) → bikes_answer (get_or bikes i d ∷ []) ≡ Err r → bikes_answer (drop i bikes) ≡ Err r
  unfolding bikes_answer
  this-bike r e =
      ap bikes_answer rest-is
      ∙ failed-at (standing_of (get_or bikes i d).player) (profile_ok (get_or bikes i d).profile) (bikes_answer (drop (i + 1) bikes)) r e

  -- one want more
  pub next-want : (n : ℕ) → i < n → set (map want_of (take i bikes) ++ replicate (n - i) 0) i (want_of (get_or bikes i d))
      ≡ map want_of (take (i + 1) bikes) ++ replicate (n - (i + 1)) 0
  next-want n k =
      fill n i (map want_of (take i bikes)) (want_of (get_or bikes i d)) 0 (length-map (take i bikes) want_of ∙ length-take-le i bikes (omega arith)) k
      ∙ ap (λ (l : List ℕ). l ++ replicate (n - (i + 1)) 0)
      (sym (ap (λ (m : ℕ). map want_of (take m bikes)) (add-one i) ∙ ap (map want_of) (take-suc bikes i d h) ∙ map-append (take i bikes)))
    where
      map-append : (bs : List Bike) → map want_of (bs ++ (get_or bikes i d ∷ [])) ≡ map want_of bs ++ (want_of (get_or bikes i d) ∷ [])
      map-append [] = refl
      map-append (b ∷ bs) = ap (λ (l : List ℕ). want_of b ∷ l) (map-append bs)

pub all_asked : (bikes : List Bike) (i : ℕ) → length bikes ≤ i → bikes_answer (drop i bikes) ≡ Ok tt
unfolding bikes_answer
all_asked bikes i h = ap bikes_answer (drop_of_length-le bikes h)

whole : (bikes : List Bike) (i : ℕ) → length bikes ≤ i → take i bikes ≡ bikes
whole [] i h = take-nil i
whole (b ∷ bs) zero h = absurd (omega arith)
whole (b ∷ bs) (suc i) h = ap (λ (l : List Bike). b ∷ l) (whole bs i (omega arith))

-- all wants are gathered
pub filled : (bikes : List Bike) (i n : ℕ) → length bikes ≤ i → n ≤ i → map want_of (take i bikes) ++ replicate (n - i) 0 ≡ map want_of bikes
filled bikes i n h k =
    let none : n - i ≡ 0 = omega arith in
    ap₂ (λ (bs : List Bike) (m : ℕ). map want_of bs ++ replicate m 0) (whole bikes i h) none ∙ append-nil (map want_of bikes)

module _ (bikes : List Bike) (supply bike : ℕ) where
  pub no_such_bike : 3 < bike → record { answer = Err refusals.BikeNumber; watts = 0 } ≡ grant_of bikes supply bike
  unfolding grant_of
  no_such_bike h = sym (ap (λ (t : Bool). grant_by (ask t refusals.BikeNumber (bikes_answer bikes)) bikes supply bike) (lt-leb bike 3 h))

  pub grant-is : (a : Result ⊤ Refusal) → bike ≤ 3 → bikes_answer bikes ≡ a → grant_by a bikes supply bike ≡ grant_of bikes supply bike
  unfolding grant_of
  grant-is a h e = sym (ap₂ (λ (t : Bool) (b : Result ⊤ Refusal). grant_by (ask t refusals.BikeNumber b) bikes supply bike) (le-leb bike 3 h) e)
