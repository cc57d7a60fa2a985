-- A ride's pieces one by one are the milliseconds of those that aren't refused at once.
use Rattle.std.specs.Prelude.{Err, Ok, Result, ⊤}
use Rattle.refusal.specs.declared.Refusal.{Refusal}
use mathlib.Core.Path.{◌≡◌, refl, sym, ap, ap₂, ◌∙◌}
use mathlib.Core.List.{List, [], ◌∷◌}
use Prim.Native.Nat.{ℕ, ◌+◌}
use Rattle.zones.specs.declared.TrainingProfile.{TrainingProfile}
use Rattle.model.specs.declared.Workout.{Workout}
use Rattle.machine.specs.Machine.{milliseconds}
use Rattle.machine.specs.Cutting.{Piece, sum_ms}
use Rattle.machine.specs.Runs.{Progress, piece_asks, after_piece, after_pieces, pieces_ask, lasts_by, lasts}
use Rattle.machine.specs.ThirdDemand.{AllAccepted, PiecesAtOnce}
use Rattle.machine.proofs.AtOnce.{milliseconds-add}

one_piece : (w : Workout) (p : TrainingProfile) (answer : Result ⊤ Refusal) (q : Piece) (s : Progress)
    → (after_piece w p answer q s).machine ≡ milliseconds w p (lasts_by answer q.ms) s.machine
unfolding after_piece milliseconds
one_piece w p (Ok tt) q s = refl
one_piece w p (Err refusal) q s = refl

at_once : (w : Workout) (p : TrainingProfile) (kinds values : ℕ) (qs : List Piece) (s : Progress)
    → (after_pieces w p kinds values qs s).machine ≡ milliseconds w p (lasts w p kinds values qs s) s.machine
unfolding after_pieces lasts milliseconds
at_once w p kinds values [] s = refl
at_once w p kinds values (q ∷ qs) s =
    let answer : Result ⊤ Refusal = piece_asks w kinds values s q in
    let rest : ℕ = lasts w p kinds values qs (after_piece w p answer q s) in
    at_once w p kinds values qs (after_piece w p answer q s)
    ∙ ap (milliseconds w p rest) (one_piece w p answer q s)
    ∙ sym (milliseconds-add w p (lasts_by answer q.ms) rest s.machine)

unrefused : (w : Workout) (p : TrainingProfile) (kinds values : ℕ) (qs : List Piece) (s : Progress) → AllAccepted (pieces_ask w p kinds values qs s)
    → lasts w p kinds values qs s ≡ sum_ms qs
unfolding lasts pieces_ask sum_ms
unrefused w p kinds values [] s h = refl
unrefused w p kinds values (q ∷ qs) s h =
    let answer : Result ⊤ Refusal = piece_asks w kinds values s q in
    ap₂ (λ (a b : ℕ). a + b) (ap (λ (a : Result ⊤ Refusal). lasts_by a q.ms) h.0) (unrefused w p kinds values qs (after_piece w p answer q s) h.1)

pub pieces-at-once : PiecesAtOnce
pieces-at-once = record { at_once = at_once; unrefused = unrefused }
