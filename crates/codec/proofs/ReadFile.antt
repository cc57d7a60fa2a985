-- A file that is read is written again as it stood, exactly where its filler values are 0.
use Rattle.std.specs.Prelude.{Err, Ok, Result, ⊤}
use mathlib.Core.Path.{◌≡◌, refl, sym, ap, ap₂, ◌∙◌}
use mathlib.Core.Bool.{Bool, true, false, ◌&&◌}
use mathlib.Core.List.{List, [], ◌∷◌, ◌++◌, append_assoc}
use Prim.Native.Nat.{ℕ, ◌+◌, ◌-◌, ◌≤◌}
use native.Mathlib.Omega.{arith}
use lib.Dec.{leb, eqb}
use lib.ListN.{length, get_or, drop, length-append, length-drop, take-append-drop}
use lib.Seq.{drop-drop, get_or-drop, get_or_at, drop_at, take_all}
use borrow.Author.Tests.{leb-true, eqb-true}
use Rattle.common.specs.Lists.{all}
use Rattle.common.proofs.Tests.{and_left, and_right}
use Rattle.le.specs.Le.{number_of, bytes_of, part, Bytes}
use Rattle.le.proofs.Laws.{bytes_drop, bytes_take}
use Rattle.checksum.specs.V42.{check_of}
use Rattle.refusal.specs.declared.Refusal.{Refusal}
use Rattle.refusal.specs.declared.Refusal.TheVariants as refusals
use Rattle.refusal.specs.Number.{ask}
use Rattle.names.specs.declared.Name.{Name}
use Rattle.names.specs.Names.{is_zero}
use Rattle.model.specs.declared.Workout.{Workout}
use Rattle.validation.specs.Sound.{valid_answer, workout_answer}
use Rattle.cursor.specs.Reading.{Read, got, refused}
use Rattle.cursor.specs.Names.{name_bytes}
use Rattle.decode.specs.declared.Decoded.{Decoded}
use Rattle.decode.specs.Decode.{read_body, judged, validated, contents_of, asked, body_of, begins, file_of, decoded, decode_of}
use Rattle.encode.specs.Encode.{file_bytes}
use Rattle.step_writer.proofs.Laws.{name-size}
use Rattle.codec.specs.Typed.{NameFits, WorkoutFits}
use Rattle.codec.specs.Fillers.{steps_fillers, body_fillers, fillers}
use Rattle.codec.specs.RoundTrip.{accepted_as}
use Rattle.codec.proofs.ReadSteps.{number-again}
use Rattle.codec.proofs.ReadBody.{BodyWas, body-was, head-part, body-fits, body-form, body-again}

-- where a body's filler values stand
module _ (t steps blocks : ℕ) (name : Name) (rest : List ℕ) (short : name.len ≤ 20) (fits : NameFits name) where
  name-length : (body : List ℕ) → drop 3 body ≡ t ∷ (name_bytes name ++ (steps ∷ blocks ∷ rest)) → get_or body 4 0 ≡ name.len
  unfolding name_bytes
  name-length body e = sym (get_or-drop 3 body 1 0) ∙ ap (λ (l : List ℕ). get_or l 1 0) e

  pub fillers-at : (body : List ℕ) → drop 3 body ≡ t ∷ (name_bytes name ++ (steps ∷ blocks ∷ rest)) → body_fillers body ≡ steps_fillers steps rest
  unfolding body_fillers
  fillers-at body e =
      let n = name.len in
      let front = t ∷ (name_bytes name ++ (steps ∷ blocks ∷ [])) in
      let size = name-size name short fits in
      let from-3 : 5 + n ≡ 3 + (2 + n) = omega arith in
      let past-3 : 7 + n ≡ 3 + (4 + n) = omega arith in
      let front-size : length front ≡ 4 + n = omega (arith, length-append (name_bytes name) (steps ∷ blocks ∷ []), size) in
      let count : get_or body (5 + n) 0 ≡ steps =
      ap (λ (k : ℕ). get_or body k 0) from-3
      ∙ sym (get_or-drop 3 body (2 + n) 0)
      ∙ ap (λ (l : List ℕ). get_or l (2 + n) 0) e
      ∙ get_or_at (t ∷ name_bytes name) steps (blocks ∷ rest) 0 (2 + n) (omega (arith, size)) in
      let there : drop (7 + n) body ≡ rest =
      ap (λ (k : ℕ). drop k body) past-3
      ∙ sym (drop-drop (4 + n) 3 body)
      ∙ ap (drop (4 + n)) (e ∙ ap (λ (l : List ℕ). t ∷ l) (sym (append_assoc (name_bytes name) (steps ∷ blocks ∷ []) rest)))
      ∙ drop_at front rest (4 + n) front-size in
      ap (λ (k : ℕ). steps_fillers (get_or body (5 + k) 0) (drop (7 + k) body)) (name-length body e) ∙ ap₂ steps_fillers count there

asked-was : (t : Bool) (r : Refusal) (rest : Result Workout Refusal) (w : Workout) → asked t r rest ≡ Ok w → (t ≡ true) × (rest ≡ Ok w)
asked-was true r rest w e = (refl, e)
asked-was false r rest w e = let z : ◌≡◌ {A = ℕ} 0 1 = cc in absurd (omega arith)

decoded-was : (m : Result Workout Refusal) (w : Workout) → decoded m ≡ accepted_as w → m ≡ Ok w
decoded-was (Ok x) w e = ap (λ (d : Decoded). Ok d.workout) e
decoded-was (Err r) w e = let f = ap (λ (d : Decoded). d.answer) e in let z : ◌≡◌ {A = ℕ} 0 1 = cc in absurd (omega arith)

record ContentsWas (body : List ℕ) (w : Workout) : Type 0 where
  size : ℕ
  reads : read_body (drop 3 body) ≡ got w size
  valid : valid_answer w ≡ Ok tt

contents-was : (body : List ℕ) (w : Workout) → contents_of body ≡ Ok w → ContentsWas body w
unfolding contents_of
contents-was body w = go (read_body (drop 3 body)) refl
  where
    judge : (x : Workout) (a : Result ⊤ Refusal) → valid_answer x ≡ a → judged x a ≡ Ok w → (x ≡ w) × (valid_answer x ≡ Ok tt)
    judge x (Ok tt) v e = let same : x ≡ w = cc in (same, v)
    judge x (Err r) v e = let z : ◌≡◌ {A = ℕ} 0 1 = cc in absurd (omega arith)

    go : (m : Read Workout) → read_body (drop 3 body) ≡ m → validated m ≡ Ok w → ContentsWas body w
    go (got x n) p e =
        let j = judge x (valid_answer x) refl e in
        record { size = n; reads = p ∙ ap (λ (y : Workout). got y n) j.0; valid = ap valid_answer (sym j.0) ∙ j.1 }
    go (refused r) p e = let z : ◌≡◌ {A = ℕ} 0 1 = cc in absurd (omega arith)

-- "VW" and the version
front-is : (b : List ℕ) → get_or b 0 0 ≡ 86 → get_or b 1 0 ≡ 87 → get_or b 2 0 ≡ 1 → b ≡ 86 ∷ 87 ∷ 1 ∷ drop 3 b
front-is [] p q r = absurd (omega arith)
front-is (x ∷ []) p q r = absurd (omega arith)
front-is (x ∷ y ∷ []) p q r = absurd (omega arith)
front-is (x ∷ y ∷ z ∷ b) p q r = ap₂ (λ (m n : ℕ). m ∷ n ∷ z ∷ b) p q ∙ ap (λ (n : ℕ). 86 ∷ 87 ∷ n ∷ b) r

-- a file that is accepted
module _ (s : List ℕ) (bytes : Bytes s) (w : Workout) (e : decode_of s ≡ accepted_as w) where
  record FileWas : Type 0 where
    long : 4 ≤ length s
    front : body_of s ≡ 86 ∷ 87 ∷ 1 ∷ drop 3 (body_of s)
    check : check_of (body_of s) ≡ number_of (part s (length s - 4) 4)
    contents : ContentsWas (body_of s) w

  file-was : FileWas
  unfolding decode_of file_of
  file-was =
      let b = body_of s in
      let read = decoded-was (file_of s) w e in
      let sized = leb 4 (length s) && leb (length s) 475 in
      let one = asked-was sized refusals.Length _ w read in
      let two = asked-was (begins b) refusals.Magic _ w one.1 in
      let three = asked-was (eqb (get_or b 2 0) 1) refusals.Version _ w two.1 in
      let four = asked-was (eqb (check_of b) (number_of (part s (length s - 4) 4))) refusals.Checksum (contents_of b) w three.1 in
      let v = eqb (get_or b 0 0) 86 in
      let w' = eqb (get_or b 1 0) 87 in
      record {
        long = leb-true 4 (length s) (and_left (leb 4 (length s)) (leb (length s) 475) one.0);
        front = front-is b (eqb-true (get_or b 0 0) 86 (and_left v w' two.0)) (eqb-true (get_or b 1 0) 87 (and_right v w' two.0)) (eqb-true (get_or b 2 0) 1 three.0);
        check = eqb-true (check_of b) (number_of (part s (length s - 4) 4)) four.0;
        contents = contents-was b w four.1;
      }

  body : BodyWas (drop 3 (body_of s)) w
  body = body-was (drop 3 (body_of s)) w file-was.contents.size file-was.contents.reads

  body_bytes_lem : Bytes (drop 3 (body_of s))
  body_bytes_lem = bytes_drop 3 (body_of s) (bytes_take (length s - 4) s bytes)

  pub read_fits : WorkoutFits w
  read_fits = body-fits (drop 3 (body_of s)) body_bytes_lem w body

  pub read-accepted : workout_answer w ≡ Ok tt
  unfolding workout_answer
  read-accepted = ap (λ (t : Bool). ask t refusals.Field (valid_answer w)) (body-form (drop 3 (body_of s)) body_bytes_lem w body) ∙ file-was.contents.valid

  pub read_again : all is_zero (fillers s) ≡ true → file_bytes w ≡ s
  unfolding fillers file_bytes
  read_again z =
      let l = drop 3 (body_of s) in
      let n = length s - 4 in
      let h = head-part l body_bytes_lem w body in
      let there = fillers-at _ _ _ body.head.name (drop body.size l) h.short h.fits (body_of s) (sym h.same) in
      let same = body-again l body_bytes_lem w body (ap (all is_zero) (sym there) ∙ z) ∙ sym file-was.front in
      let word : bytes_of 4 (check_of (body_of s)) ≡ drop n s =
      number-again s bytes n 4 (check_of (body_of s)) (omega (arith, file-was.long)) file-was.check
      ∙ take_all 4 (drop n s) (omega (arith, length-drop n s)) in
      ap (λ (b : List ℕ). b ++ bytes_of 4 (check_of b)) same ∙ ap (λ (b : List ℕ). body_of s ++ b) word ∙ take-append-drop n s
