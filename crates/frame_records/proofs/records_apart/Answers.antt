-- `records_apart`: each call changes one bike, and a grant none. Laws over any number of bikes, the first of which is bike k.
use mathlib.Core.Path.{◌≡◌, refl, sym, ap, ap₂, ◌∙◌}
use mathlib.Core.Bool.{Bool, cond}
use mathlib.Core.List.{List, [], ◌∷◌}
use Prim.Native.Nat.{ℕ, zero, suc, ◌+◌, ◌≤◌}
use native.Mathlib.Omega.{arith}
use borrow.Author.Tests.{eq-eqb, ne_eqb}
use Rattle.frame.specs.declared.Bike.{Bike}
use Rattle.machine.specs.Cutting.{Call}
use Rattle.machine.specs.Runs.{run}
use Rattle.frame_records.specs.Apart.{FrameCall, call, grant, changed_at, after_call, frame_run, own_calls, alone, records_of}
use Rattle.frame_records.proofs.records_apart.Goals as goal

each : ℕ → List FrameCall → List Bike → List Bike
each k l [] = []
each k l (b ∷ bs) = alone l k b ∷ each (suc k) l bs

after-by : ℕ → Call → List FrameCall → Bike → Bool → Bike
after-by k c l b own = record { player = (run b.profile (cond own (c ∷ own_calls k l) (own_calls k l)) b.player).player; profile = b.profile }

own-call : (k i : ℕ) (c : Call) (l : List FrameCall) (b : Bike) → k ≡ i → alone l k (after_call c b) ≡ alone (call i c ∷ l) k b
unfolding alone own_calls run after-by
own-call k i c l b e = sym (ap (after-by k c l b) (eq-eqb k i e))

other-call : (k i : ℕ) (c : Call) (l : List FrameCall) (b : Bike) → (k ≡ i → ⊥) → alone l k b ≡ alone (call i c ∷ l) k b
unfolding alone own_calls after-by
other-call k i c l b e = sym (ap (after-by k c l b) (ne_eqb k i e))

each-past : (k i : ℕ) (c : Call) (l : List FrameCall) (bs : List Bike) → suc i ≤ k → each k l bs ≡ each k (call i c ∷ l) bs
unfolding each
each-past k i c l [] h = refl
each-past k i c l (b ∷ bs) h =
    ap₂ (λ (x : Bike) (xs : List Bike). x ∷ xs) (other-call k i c l b (λ e. omega arith)) (each-past (suc k) i c l bs (omega arith))

each-changed : (k i n : ℕ) (c : Call) (l : List FrameCall) (bs : List Bike) → n ≡ k + i
    → each k l (changed_at i (after_call c) bs) ≡ each k (call n c ∷ l) bs
unfolding each changed_at
each-changed k i n c l [] e = refl
each-changed k zero n c l (b ∷ bs) e =
    ap₂ (λ (x : Bike) (xs : List Bike). x ∷ xs) (own-call k n c l b (omega arith)) (each-past (suc k) n c l bs (omega arith))
each-changed k (suc i) n c l (b ∷ bs) e =
    ap₂ (λ (x : Bike) (xs : List Bike). x ∷ xs) (other-call k n c l b (λ same. omega arith)) (each-changed (suc k) i n c l bs (omega arith))

each-granted : (k supply i : ℕ) (l : List FrameCall) (bs : List Bike) → each k l bs ≡ each k (grant supply i ∷ l) bs
unfolding each alone own_calls
each-granted k supply i l [] = refl
each-granted k supply i l (b ∷ bs) = ap (λ (xs : List Bike). alone l k b ∷ xs) (each-granted (suc k) supply i l bs)

each_none : (k : ℕ) (bs : List Bike) → bs ≡ each k [] bs
unfolding each alone own_calls run
each_none k [] = refl
each_none k (b ∷ bs) = ap (λ (xs : List Bike). b ∷ xs) (each_none (suc k) bs)

apart : (l : List FrameCall) (bikes : List Bike) → (frame_run l bikes).bikes ≡ each 0 l bikes
unfolding frame_run
apart [] bikes = each_none 0 bikes
apart (call i c ∷ l) bikes = apart l (changed_at i (after_call c) bikes) ∙ each-changed 0 i i c l bikes (omega arith)
apart (grant supply i ∷ l) bikes = apart l bikes ∙ each-granted 0 supply i l bikes

module _ (l : List FrameCall) (a b c d : Bike) where
  four-apart : (frame_run l (a ∷ b ∷ c ∷ d ∷ [])).bikes ≡ alone l 0 a ∷ alone l 1 b ∷ alone l 2 c ∷ alone l 3 d ∷ []
  unfolding each
  four-apart = apart l (a ∷ b ∷ c ∷ d ∷ [])

pub returns : goal.returns
unfolding records_of
returns c =
    record {
      players = four-apart;
      records = λ l a b c d journal id start dated. ap (λ (bs : List Bike). records_of bs journal id start dated) (four-apart l a b c d);
    }
