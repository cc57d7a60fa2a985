-- Where nothing of the uncut list is refused, nothing of the cut one is: a fact about the machine's own questions alone. Both lists
-- bring the machine to the same state, and the cut list's sums for question 13 are never more than the uncut list's.
use Rattle.std.specs.Prelude.{Ok, Result, ⊤, Option}
use mathlib.Core.Path.{◌≡◌, refl, sym, ap, ◌∙◌, subst}
use mathlib.Core.Bool.{Bool, true, false, cond}
use mathlib.Core.List.{List, [], ◌∷◌, ◌++◌}
use Prim.Native.Nat.{ℕ, ◌+◌, ◌≤◌}
use native.Mathlib.Omega.{arith}
use lib.Dec.{leb, eqb}
use borrow.Author.Tests.{leb-true, le-leb, eqb-true, eq-eqb}
use Rattle.common.proofs.Tests.{and_left, and_right, and_both}
use Rattle.refusal.specs.declared.Refusal.TheVariants as refusals
use Rattle.refusal.specs.Number.{ask}
use Rattle.refusal.specs.declared.Refusal.{Refusal}
use Rattle.validation.proofs.Passes.{ask-left, ask-right}
use Rattle.zones.specs.declared.TrainingProfile.{TrainingProfile}
use Rattle.model.specs.declared.Workout.{Workout}
use Rattle.readings.specs.declared.Sample.{Sample}
use Rattle.machine.specs.Machine.{Machine, step_at, reading, with_extra, extra_after, skipped, milliseconds}
use Rattle.machine.specs.Cutting.{Call, read, ride, skip, extend, Piece, CutCall, calls_of, uncut, cut, sum_ms, sum_mm, Cuts, WellCut, AllWellCut, own, alone}
use Rattle.machine.specs.Runs.{Totals, Progress, read_asks, piece_ok, totals_ok, places_ok, piece_asks, skip_asks, extra_asks, extend_asks, unless_refused, with_piece, after_piece, after_pieces, after_call, pieces_ask, call_asks, calls_ask}
use Rattle.machine.specs.ThirdDemand.{AllAccepted}
use Rattle.machine.proofs.AtOnce.{milliseconds-add}
use Rattle.machine.proofs.Places.{places-later}

-- A list as it stands.

own-calls : (c : Call) (cs : List Call) → calls_of c (own c) ++ cs ≡ c ∷ cs
unfolding calls_of own
own-calls (read sample) cs = refl
own-calls (ride ms mm kinds values) cs = refl
own-calls (skip kinds values) cs = refl
own-calls (extend secs metres) cs = refl

pub alone-is : (cs : List Call) → cut (alone cs) ≡ cs
unfolding cut alone
alone-is [] = refl
alone-is (c ∷ cs) = own-calls c (cut (alone cs)) ∙ ap (λ (rest : List Call). c ∷ rest) (alone-is cs)

-- Lists of answers.

pub accepted-left : (xs ys : List (Result ⊤ Refusal)) → AllAccepted (xs ++ ys) → AllAccepted xs
accepted-left [] ys h = tt
accepted-left (x ∷ xs) ys h = (h.0, accepted-left xs ys h.1)

pub accepted-right : (xs ys : List (Result ⊤ Refusal)) → AllAccepted (xs ++ ys) → AllAccepted ys
accepted-right [] ys h = h
accepted-right (x ∷ xs) ys h = accepted-right xs ys h.1

accepted-append : (xs ys : List (Result ⊤ Refusal)) → AllAccepted xs → AllAccepted ys → AllAccepted (xs ++ ys)
accepted-append [] ys h g = g
accepted-append (x ∷ xs) ys h g = (h.0, accepted-append xs ys h.1 g)

-- The sums.

pub record AtMost (a b : Totals) : Type 0 where
  pub ms : a.ms ≤ b.ms
  pub mm : a.mm ≤ b.mm

-- A piece that no question refuses.
pub record Passes (w : Workout) (kinds values : ℕ) (s : Progress) (e : Piece) : Type 0 where
  pub ms : e.ms ≤ 86400000
  pub mm : e.mm ≤ 1000000000
  pub sum-ms : s.totals.ms + e.ms ≤ 604800000
  pub sum-mm : s.totals.mm + e.mm ≤ 7000000000
  pub places : places_ok w s.machine kinds values ≡ true

-- The totals after some pieces.
pub record Grown (b : Totals) (es : List Piece) (c : Totals) : Type 0 where
  pub ms : c.ms ≤ b.ms + sum_ms es
  pub mm : c.mm ≤ b.mm + sum_mm es
  pub none : sum_ms es ≡ 0 → c ≡ b

with_none : (e : Piece) (b : Totals) → e.ms ≡ 0 → with_piece e b ≡ b
unfolding with_piece
with_none e b z = ap (λ (t : Bool). cond t b (record { ms = b.ms + e.ms; mm = b.mm + e.mm })) (eq-eqb e.ms 0 z)

with-by : (t : Bool) (e : Piece) (b : Totals) → AtMost (cond t b (record { ms = b.ms + e.ms; mm = b.mm + e.mm })) (record { ms = b.ms + e.ms; mm = b.mm + e.mm })
with-by true e b = record { ms = omega arith; mm = omega arith }
with-by false e b = record { ms = omega arith; mm = omega arith }

with-most : (e : Piece) (b : Totals) → AtMost (with_piece e b) (record { ms = b.ms + e.ms; mm = b.mm + e.mm })
unfolding with_piece
with-most e b = with-by (eqb e.ms 0) e b

module _ (w : Workout) (p : TrainingProfile) where
  passed : (kinds values : ℕ) (s : Progress) (e : Piece) → piece_asks w kinds values s e ≡ Ok tt → Passes w kinds values s e
  unfolding piece_asks
  passed kinds values s e a =
      let places : Result ⊤ Refusal = ask (places_ok w s.machine kinds values) refusals.EventPlaces (Ok tt) in
      let rest : Result ⊤ Refusal = ask (totals_ok s.totals e) refusals.Totals places in
      let x : piece_ok e ≡ true = ask-left (piece_ok e) refusals.Update rest a in
      let y : rest ≡ Ok tt = ask-right (piece_ok e) refusals.Update rest a in
      let z : totals_ok s.totals e ≡ true = ask-left (totals_ok s.totals e) refusals.Totals places y in
      let v : places ≡ Ok tt = ask-right (totals_ok s.totals e) refusals.Totals places y in
      record {
        ms = leb-true e.ms 86400000 (and_left (leb e.ms 86400000) (leb e.mm 1000000000) x);
        mm = leb-true e.mm 1000000000 (and_right (leb e.ms 86400000) (leb e.mm 1000000000) x);
        sum-ms = leb-true (s.totals.ms + e.ms) 604800000 (and_left (leb (s.totals.ms + e.ms) 604800000) (leb (s.totals.mm + e.mm) 7000000000) z);
        sum-mm = leb-true (s.totals.mm + e.mm) 7000000000 (and_right (leb (s.totals.ms + e.ms) 604800000) (leb (s.totals.mm + e.mm) 7000000000) z);
        places = ask-left (places_ok w s.machine kinds values) refusals.EventPlaces (Ok tt) v;
      }

  passes : (kinds values : ℕ) (s : Progress) (e : Piece) → Passes w kinds values s e → piece_asks w kinds values s e ≡ Ok tt
  unfolding piece_asks
  passes kinds values s e P =
      let places : Result ⊤ Refusal = ask (places_ok w s.machine kinds values) refusals.EventPlaces (Ok tt) in
      ap (λ (b : Bool). ask b refusals.Update (ask (totals_ok s.totals e) refusals.Totals places))
      (and_both (le-leb e.ms 86400000 P.ms) (le-leb e.mm 1000000000 P.mm))
      ∙ ap (λ (b : Bool). ask b refusals.Totals places)
      (and_both (le-leb (s.totals.ms + e.ms) 604800000 P.sum-ms) (le-leb (s.totals.mm + e.mm) 7000000000 P.sum-mm))
      ∙ ap (λ (b : Bool). ask b refusals.EventPlaces (Ok tt)) P.places

  taken-piece : (kinds values : ℕ) (s : Progress) (e : Piece) → piece_asks w kinds values s e ≡ Ok tt
      → after_piece w p (piece_asks w kinds values s e) e s ≡ record { machine = milliseconds w p e.ms s.machine; totals = with_piece e s.totals }
  unfolding after_piece
  taken-piece kinds values s e a = ap (λ (x : Result ⊤ Refusal). after_piece w p x e s) a

  -- None of a ride's pieces is refused.
  pub record AllTaken (kinds values : ℕ) (es : List Piece) (s : Progress) : Type 0 where
    pub answers : AllAccepted (pieces_ask w p kinds values es s)
    pub machine : (after_pieces w p kinds values es s).machine ≡ milliseconds w p (sum_ms es) s.machine
    pub totals : Grown s.totals es (after_pieces w p kinds values es s).totals

  pieces-taken : (kinds values : ℕ) (es : List Piece) (s : Progress) → places_ok w s.machine kinds values ≡ true → sum_ms es ≤ 86400000 → sum_mm es ≤ 1000000000
      → s.totals.ms + sum_ms es ≤ 604800000 → s.totals.mm + sum_mm es ≤ 7000000000 → AllTaken kinds values es s
  unfolding pieces_ask after_pieces sum_ms sum_mm
  pieces-taken kinds values [] s places h1 h2 h3 h4 =
      record { answers = tt; machine = unfold milliseconds in refl; totals = record { ms = omega arith; mm = omega arith; none = λ z. refl } }
  pieces-taken kinds values (e ∷ es) s places h1 h2 h3 h4 =
      let a : piece_asks w kinds values s e ≡ Ok tt =
      passes kinds values s e (record { ms = omega arith; mm = omega arith; sum-ms = omega arith; sum-mm = omega arith; places = places }) in
      let s' : Progress = after_piece w p (piece_asks w kinds values s e) e s in
      let q : s' ≡ record { machine = milliseconds w p e.ms s.machine; totals = with_piece e s.totals } = taken-piece kinds values s e a in
      let g : AtMost s'.totals (record { ms = s.totals.ms + e.ms; mm = s.totals.mm + e.mm }) =
      subst (λ (x : Progress). AtMost x.totals (record { ms = s.totals.ms + e.ms; mm = s.totals.mm + e.mm })) (sym q) (with-most e s.totals) in
      let rest : AllTaken kinds values es s' =
      pieces-taken kinds values es s' (subst (λ (x : Progress). places_ok w x.machine kinds values ≡ true) (sym q) (places-later w p e.ms kinds values s.machine places))
      (omega arith) (omega arith) (omega (arith, g.ms)) (omega (arith, g.mm)) in
      record {
        answers = (a, rest.answers);
        machine =
            rest.machine ∙ ap (λ (x : Progress). milliseconds w p (sum_ms es) x.machine) q ∙ sym (milliseconds-add w p e.ms (sum_ms es) s.machine);
        totals =
            record {
              ms = omega (arith, rest.totals.ms, g.ms);
              mm = omega (arith, rest.totals.mm, g.mm);
              none = λ z. rest.totals.none (omega (arith, z)) ∙ ap (λ (x : Progress). x.totals) q ∙ with_none e s.totals (omega (arith, z));
            };
      }

  grown-by : (t : Bool) (e : Piece) (es : List Piece) (b d c : Totals) → eqb e.ms 0 ≡ t → sum_ms es ≡ e.ms → sum_mm es ≡ e.mm → AtMost b d → Grown b es c
      → AtMost c (cond t d (record { ms = d.ms + e.ms; mm = d.mm + e.mm }))
  grown-by true e es b d c z f g h S = subst (λ (x : Totals). AtMost x d) (sym (S.none (f ∙ eqb-true e.ms 0 z))) h
  grown-by false e es b d c z f g h S = record { ms = omega (arith, S.ms, h.ms); mm = omega (arith, S.mm, h.mm) }

  grown-is : (e : Piece) (es : List Piece) (b d c : Totals) → sum_ms es ≡ e.ms → sum_mm es ≡ e.mm → AtMost b d → Grown b es c → AtMost c (with_piece e d)
  unfolding with_piece
  grown-is e es b d c f g h S = grown-by (eqb e.ms 0) e es b d c refl f g h S

  unless-taken : (a : Result ⊤ Refusal) (s : Progress) (m : Machine) → a ≡ Ok tt → unless_refused a s m ≡ record { machine = m; totals = s.totals }
  unfolding unless_refused
  unless-taken a s m e = ap (λ (x : Result ⊤ Refusal). unless_refused x s m) e

  -- A call of the cut list beside that of the uncut one: not refused either, and the same state after it.
  pub record Beside (c : Call) (es : List Piece) (f g : Progress) : Type 0 where
    pub answers : AllAccepted (call_asks w p c es g)
    pub machine : (after_call w p c es g).machine ≡ (after_call w p c (own c) f).machine
    pub totals : AtMost (after_call w p c es g).totals (after_call w p c (own c) f).totals

  -- a call that isn't a ride
  beside-by : (c : Call) (es : List Piece) (f g f' g' : Progress) → AllAccepted (call_asks w p c es g) → after_call w p c es g ≡ g' → after_call w p c (own c) f ≡ f'
      → g'.machine ≡ f'.machine → AtMost g'.totals f'.totals → Beside c es f g
  beside-by c es f g f' g' a x y m t =
      record {
        answers = a;
        machine = ap (λ (s : Progress). s.machine) x ∙ m ∙ sym (ap (λ (s : Progress). s.machine) y);
        totals = subst (λ (s : Progress). AtMost s.totals (after_call w p c (own c) f).totals) (sym x) (subst (λ (s : Progress). AtMost g'.totals s.totals) (sym y) t);
      }

  read-beside : (sample : Sample) (es : List Piece) (f g : Progress) → g.machine ≡ f.machine → AtMost g.totals f.totals
      → AllAccepted (call_asks w p (read sample) (own (read sample)) f) → Beside (read sample) es f g
  unfolding call_asks after_call
  read-beside sample es f g e t a =
      beside-by (read sample) es f g (record { machine = reading sample f.machine; totals = f.totals }) (record { machine = reading sample g.machine; totals = g.totals })
      (a.0, tt) (unless-taken (read_asks sample) g (reading sample g.machine) a.0) (unless-taken (read_asks sample) f (reading sample f.machine) a.0)
      (ap (reading sample) e) t

  skip-beside : (kinds values : ℕ) (es : List Piece) (f g : Progress) → g.machine ≡ f.machine → AtMost g.totals f.totals
      → AllAccepted (call_asks w p (skip kinds values) (own (skip kinds values)) f) → Beside (skip kinds values) es f g
  unfolding call_asks after_call
  skip-beside kinds values es f g e t a =
      let b : skip_asks w kinds values g ≡ Ok tt = ap (λ (m : Machine). ask (places_ok w m kinds values) refusals.EventPlaces (Ok tt)) e ∙ a.0 in
      let after : Machine → Machine = λ m. skipped w (step_at w m.step.position) m in
      beside-by (skip kinds values) es f g (record { machine = after f.machine; totals = f.totals }) (record { machine = after g.machine; totals = g.totals })
      (b, tt) (unless-taken (skip_asks w kinds values g) g (after g.machine) b) (unless-taken (skip_asks w kinds values f) f (after f.machine) a.0)
      (ap after e) t

  extend-beside : (secs metres : ℕ) (es : List Piece) (f g : Progress) → g.machine ≡ f.machine → AtMost g.totals f.totals
      → AllAccepted (call_asks w p (extend secs metres) (own (extend secs metres)) f) → Beside (extend secs metres) es f g
  unfolding call_asks after_call
  extend-beside secs metres es f g e t a =
      let next : Machine → Option ℕ = λ m. extra_after (step_at w m.step.position) secs m.step.extra in
      let b : extend_asks w secs g ≡ Ok tt = ap (λ (m : Machine). extra_asks (next m)) e ∙ a.0 in
      let after : Machine → Machine = λ m. with_extra (next m) m in
      beside-by (extend secs metres) es f g (record { machine = after f.machine; totals = f.totals }) (record { machine = after g.machine; totals = g.totals })
      (b, tt) (unless-taken (extend_asks w secs g) g (after g.machine) b) (unless-taken (extend_asks w secs f) f (after f.machine) a.0)
      (ap after e) t

  ride-beside : (ms mm kinds values : ℕ) (es : List Piece) (f g : Progress) → Cuts ms mm es → g.machine ≡ f.machine → AtMost g.totals f.totals
      → AllAccepted (call_asks w p (ride ms mm kinds values) (own (ride ms mm kinds values)) f) → Beside (ride ms mm kinds values) es f g
  unfolding call_asks after_call own pieces_ask
  ride-beside ms mm kinds values es f g h e t a =
      let one : Piece = record { ms = ms; mm = mm } in
      let P : Passes w kinds values f one = passed kinds values f one a.0 in
      let A : AllTaken kinds values es g =
      pieces-taken kinds values es g (ap (λ (m : Machine). places_ok w m kinds values) e ∙ P.places) (omega (arith, h.ms_sum, P.ms)) (omega (arith, h.mm_sum, P.mm))
      (omega (arith, h.ms_sum, P.sum-ms, t.ms)) (omega (arith, h.mm_sum, P.sum-mm, t.mm)) in
      let o : after_pieces w p kinds values (one ∷ []) f ≡ record { machine = milliseconds w p ms f.machine; totals = with_piece one f.totals } =
      unfold after_pieces in taken-piece kinds values f one a.0 in
      record {
        answers = A.answers;
        machine =
            A.machine ∙ ap (λ (n : ℕ). milliseconds w p n g.machine) h.ms_sum ∙ ap (milliseconds w p ms) e ∙ sym (ap (λ (s : Progress). s.machine) o);
        totals =
            subst (λ (s : Progress). AtMost (after_pieces w p kinds values es g).totals s.totals) (sym o)
            (grown-is one es g.totals f.totals (after_pieces w p kinds values es g).totals h.ms_sum h.mm_sum t A.totals);
      }

  call-beside : (c : Call) (es : List Piece) (f g : Progress) → WellCut c es → g.machine ≡ f.machine → AtMost g.totals f.totals
      → AllAccepted (call_asks w p c (own c) f) → Beside c es f g
  call-beside (read sample) es f g h e t a = read-beside sample es f g e t a
  call-beside (ride ms mm kinds values) es f g h e t a = ride-beside ms mm kinds values es f g h e t a
  call-beside (skip kinds values) es f g h e t a = skip-beside kinds values es f g e t a
  call-beside (extend secs metres) es f g h e t a = extend-beside secs metres es f g e t a

  pub list-unrefused : (l : List CutCall) (f g : Progress) → AllWellCut l → g.machine ≡ f.machine → AtMost g.totals f.totals
      → AllAccepted (calls_ask w p (alone (uncut l)) f) → AllAccepted (calls_ask w p l g)
  unfolding calls_ask alone uncut
  list-unrefused [] f g h e t a = tt
  list-unrefused (c ∷ l) f g h e t a =
      let c' : Call = c.call in
      let f' : Progress = after_call w p c' (own c') f in
      let g' : Progress = after_call w p c' c.pieces g in
      let B : Beside c' c.pieces f g = call-beside c' c.pieces f g h.0 e t (accepted-left (call_asks w p c' (own c') f) (calls_ask w p (alone (uncut l)) f') a) in
      accepted-append (call_asks w p c' c.pieces g) (calls_ask w p l g') B.answers
      (list-unrefused l f' g' h.1 B.machine B.totals (accepted-right (call_asks w p c' (own c') f) (calls_ask w p (alone (uncut l)) f') a))
