-- The runs of a record's bytes, one written behind the other, and the writer's answers.
use Rattle.std.specs.Prelude.{Err, Ok, Result, ⊤}
use mathlib.Core.Path.{◌≡◌, refl, sym, ap, ap₂, ◌∙◌}
use mathlib.Core.Bool.{Bool, true, false}
use mathlib.Core.List.{List, ◌++◌, append_assoc}
use Prim.Native.Nat.{ℕ, ◌+◌, ◌-◌, ◌≤◌, ◌<◌}
use native.Mathlib.Omega.{arith}
use lib.Dec.{leb}
use lib.ListN.{length, take, replicate, length-append, length-replicate, replicate-append-replicate}
use lib.Seq.{take_all, take_at}
use borrow.Author.Tests.{le-leb, lt-leb}
use Rattle.le.specs.Le.{bytes_of, written}
use Rattle.le.proofs.Laws.{more, take-written}
use Rattle.checksum.specs.V42.{check_of}
use Rattle.refusal.specs.declared.Refusal.TheVariants as refusals
use Rattle.refusal.specs.Number.{ask}
use Rattle.refusal.specs.declared.Refusal.{Refusal}
use Rattle.names.specs.declared.Name.{Name}
use Rattle.names.specs.Names.{as_bytes, name_ok}
use Rattle.codec.specs.Typed.{NameFits}
use Rattle.codec.proofs.Names as names
use Rattle.history.specs.declared.Record.{Record}
use Rattle.history.specs.Record.{head_bytes, text_bytes, tally_bytes, body_bytes, record_bytes, body_size, record_size}
use Rattle.history.proofs.Bytes.{body-length}
use Rattle.record_writer.specs.Write.{first_bytes, ride_bytes, count_bytes, time_bytes, write_answer, output_by, output_of}

-- the bytes of six numbers, and of equal ones
abbrev pub times_of : ℕ → ℕ → ℕ → ℕ → ℕ → ℕ → List ℕ
times_of t i u o f n = ((((bytes_of 4 t ++ bytes_of 4 i) ++ bytes_of 4 u) ++ bytes_of 4 o) ++ bytes_of 2 f) ++ bytes_of 4 n

pub times-same : (t i u o f n : ℕ) {t' i' u' o' f' n' : ℕ} → t ≡ t' → i ≡ i' → u ≡ u' → o ≡ o' → f ≡ f' → n ≡ n' → times_of t i u o f n ≡ times_of t' i' u' o' f' n'
times-same t i u o f n {t' = t'} {i' = i'} {u' = u'} {o' = o'} {f' = f'} a b c d e g =
    ap (λ (x : ℕ). times_of x i u o f n) a ∙ ap (λ (x : ℕ). times_of t' x u o f n) b ∙ ap (λ (x : ℕ). times_of t' i' x o f n) c ∙ ap (λ (x : ℕ). times_of t' i' u' x f n) d
    ∙ ap (λ (x : ℕ). times_of t' i' u' o' x n) e ∙ ap (λ (x : ℕ). times_of t' i' u' o' f' x) g

-- a name that passes question 5 has zeros behind its bytes
text-is : (n : Name) → NameFits n → name_ok n ≡ true → take 20 n.bytes ≡ text_bytes n
unfolding text_bytes
text-is n fits ok =
    let a : List ℕ = as_bytes n in
    let k : ℕ = 20 - length a in
    let long : length a + k ≡ 20 = omega (arith, names.text-length n fits ok, names.name-len n fits ok) in
    let all : k + length a ≡ 20 = omega (arith, long) in
    let zeros : replicate {A = ℕ} 20 0 ≡ replicate k 0 ++ replicate (length a) 0 =
    sym (replicate-append-replicate k (length a) 0 ∙ ap (λ (i : ℕ). replicate {A = ℕ} i 0) all) in
    take_all 20 n.bytes (omega arith)
    ∙ sym (ap (λ (m : Name). m.bytes) (names.made_again n fits ok))
    ∙ sym (ap (λ (l : List ℕ). take 20 (a ++ l)) zeros
    ∙ ap (take 20) (sym (append_assoc a (replicate k 0) (replicate (length a) 0)))
    ∙ take_at (a ++ replicate k 0) (replicate (length a) 0) 20 (omega (arith, length-append a (replicate k 0), length-replicate {A = ℕ} k 0, long)))

ride-length : (r : Record) → length (ride_bytes r) ≡ 15
unfolding bytes_of
ride-length r = refl

count-length : (r : Record) → length (count_bytes r.test r.summary) ≡ 7
unfolding bytes_of
count-length r = refl

head-is : (r : Record) → first_bytes ++ ride_bytes r ≡ head_bytes r
unfolding head_bytes bytes_of
head-is r = refl

tally-is : (r : Record) → count_bytes r.test r.summary ++ time_bytes r.summary ≡ tally_bytes r.test r.summary
unfolding tally_bytes bytes_of
tally-is r = refl

body_is : (r : Record) → ((((first_bytes ++ ride_bytes r) ++ text_bytes r.name) ++ count_bytes r.test r.summary) ++ time_bytes r.summary) ≡ body_bytes r
unfolding body_bytes
body_is r =
    let head = first_bytes ++ ride_bytes r in
    let text = text_bytes r.name in
    let counts = count_bytes r.test r.summary in
    append_assoc (head ++ text) counts (time_bytes r.summary)
    ∙ append_assoc head text (counts ++ time_bytes r.summary)
    ∙ ap₂ (λ (x y : List ℕ). x ++ (text ++ y)) (head-is r) (tally-is r)

-- the parts of the body, one written behind the other
pub body-written : (r : Record) (d : List ℕ) {d₁ d₂ d₃ d₄ d₅ : List ℕ} → NameFits r.name → name_ok r.name ≡ true
    → d₁ ≡ written d 0 first_bytes → d₂ ≡ written d₁ 6 (ride_bytes r) → d₃ ≡ written d₂ 21 (take 20 r.name.bytes)
    → d₄ ≡ written d₃ 41 (count_bytes r.test r.summary) → d₅ ≡ written d₄ 48 (time_bytes r.summary) → d₅ ≡ written d 0 (body_bytes r)
body-written r d {d₂ = d₂} fits ok e₁ e₂ e₃ e₄ e₅ =
    let first = first_bytes in
    let ride = ride_bytes r in
    let text : List ℕ = take 20 r.name.bytes in
    let counts = count_bytes r.test r.summary in
    let twenty : length text ≡ 20 = ap length (take_all 20 r.name.bytes (omega arith)) ∙ fits in
    more d 0 (omega arith) (((first ++ ride) ++ text) ++ counts) (time_bytes r.summary) 48
    (omega (arith, length-append ((first ++ ride) ++ text) counts, length-append (first ++ ride) text, length-append first ride, ride-length r, twenty, count-length r))
    (more d 0 (omega arith) ((first ++ ride) ++ text) counts 41
    (omega (arith, length-append (first ++ ride) text, length-append first ride, ride-length r, twenty))
    (more d 0 (omega arith) (first ++ ride) text 21 (omega (arith, length-append first ride, ride-length r)) (more d 0 (omega arith) first ride 6 refl e₁ e₂) e₃) e₄) e₅
    ∙ ap (written d 0)
    (ap (λ (l : List ℕ). (((first ++ ride) ++ l) ++ counts) ++ time_bytes r.summary) (text-is r.name fits ok) ∙ body_is r)

-- what the check word is taken of
pub body-taken : (r : Record) (d : List ℕ) {d₁ : List ℕ} → d₁ ≡ written d 0 (body_bytes r) → take body_size d₁ ≡ body_bytes r
body-taken r d e = ap (take body_size) e ∙ take-written d 0 (body_bytes r) body_size (omega arith) (omega (arith, body-length r))

-- the check word behind the body
pub record-written : (r : Record) (d : List ℕ) {d₁ d₂ : List ℕ} (c : ℕ) → d₁ ≡ written d 0 (body_bytes r) → c ≡ check_of (body_bytes r)
    → d₂ ≡ written d₁ body_size (bytes_of 4 c) → d₂ ≡ written d 0 (record_bytes r)
unfolding record_bytes
record-written r d c e f g =
    more d 0 (omega arith) (body_bytes r) (bytes_of 4 c) body_size (omega (arith, body-length r)) e g
    ∙ ap (λ (x : ℕ). written d 0 (body_bytes r ++ bytes_of 4 x)) f

-- the writer's answers
module _ (r : Record) (out : List ℕ) where
  by-questions : (a b : Bool) → name_ok r.name ≡ a → leb record_size (length out) ≡ b
      → write_answer r (length out) ≡ ask a refusals.Field (ask b refusals.Output (Ok tt))
  unfolding write_answer
  by-questions a b e f = ap₂ (λ (x y : Bool). ask x refusals.Field (ask y refusals.Output (Ok tt))) e f

  answered : (x : Result ⊤ Refusal) → write_answer r (length out) ≡ x → (next : List ℕ) → next ≡ output_by x r out
      → (x ≡ write_answer r (length out)) × (next ≡ output_of r out)
  unfolding output_of
  answered x e next f = (sym e, f ∙ sym (ap (λ (y : Result ⊤ Refusal). output_by y r out) e))

  pub refused-name : name_ok r.name ≡ false → (Err refusals.Field ≡ write_answer r (length out)) × (out ≡ output_of r out)
  refused-name e = answered (Err refusals.Field) (by-questions false (leb record_size (length out)) e refl) out refl

  pub no_room : name_ok r.name ≡ true → length out < record_size → (Err refusals.Output ≡ write_answer r (length out)) × (out ≡ output_of r out)
  no_room e h = answered (Err refusals.Output) (by-questions true false e (lt-leb record_size (length out) h)) out refl

  pub written-whole : (next : List ℕ) → name_ok r.name ≡ true → record_size ≤ length out → next ≡ written out 0 (record_bytes r)
      → ((Ok tt) ≡ write_answer r (length out)) × (next ≡ output_of r out)
  written-whole next e h f = answered (Ok tt) (by-questions true true e (le-leb record_size (length out) h)) next f
