-- A call's answer, held to what it gives; and question 15 by what is left to its limit.
use Rattle.std.specs.Prelude.{Result, ⊤}
use Rattle.refusal.specs.declared.Refusal.{Refusal}
use mathlib.Core.Path.{◌≡◌, refl, sym, subst}
use mathlib.Core.Bool.{true, false}
use mathlib.Core.List.{List}
use Prim.Native.Nat.{ℕ, ◌+◌, ◌-◌, ◌≤◌, ◌<◌}
use native.Mathlib.Omega.{arith}
use lib.Dec.{leb}
use borrow.Author.Tests.{le-leb, lt-leb}
use Rattle.events.proofs.Laws.{wrote_none}
use Rattle.state.specs.declared.Player.{Player}
use Rattle.outcomes.specs.declared.Update.{Update}
use Rattle.outcomes.specs.Outcomes.{Called, Answers, eventless_update, eventless}

-- a call without events
pub eventless-answers : (ks vs : List ℕ) (p : Player) (u : Update) (o : Called) (a : Result ⊤ Refusal) → u ≡ eventless_update a p → eventless a p ≡ o → Answers ks vs ks vs u o
eventless-answers ks vs p u o a e f =
    subst (λ (o : Called). Answers ks vs ks vs u o) f
    (subst (λ (u : Update). Answers ks vs ks vs u (eventless a p)) (sym e) (record { answer = refl; player = refl; parts = refl; wrote = wrote_none ks vs 0 }))

pub answers-is : {ks vs ks' vs' : List ℕ} {u : Update} {o o' : Called} → o ≡ o' → Answers ks vs ks' vs' u o → Answers ks vs ks' vs' u o'
answers-is {ks} {vs} {ks'} {vs'} {u} e a = subst (λ (k : Called). Answers ks vs ks' vs' u k) e a

-- an amount that what is left to a limit holds, and one that it doesn't
pub within : (extra amount limit : ℕ) → extra ≤ limit → amount ≤ limit - extra → leb (extra + amount) limit ≡ true
within extra amount limit h a = le-leb (extra + amount) limit (omega (arith, h, a))

pub past : (extra amount limit : ℕ) → extra ≤ limit → limit - extra < amount → leb (extra + amount) limit ≡ false
past extra amount limit h a = lt-leb (extra + amount) limit (omega (arith, h, a))
