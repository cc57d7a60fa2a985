-- How reading what stands before the steps goes on from what the cursor handed out.
use Rattle.std.specs.Prelude.{Err, None, Ok, Option, Result, Some}
use mathlib.Core.Path.{◌≡◌, sym, ap, ◌∙◌}
use mathlib.Core.Bool.{◌&&◌}
use mathlib.Core.List.{List}
use Prim.Native.Nat.{ℕ, ◌+◌}
use native.Mathlib.Omega.{arith}
use lib.Dec.{leb}
use lib.ListN.{drop}
use lib.Seq.{drop-drop}
use Rattle.refusal.specs.declared.Refusal.{Refusal}
use Rattle.refusal.specs.declared.Refusal.TheVariants as refusals
use Rattle.names.specs.declared.Name.{Name}
use Rattle.model.specs.declared.Test.{Test}
use Rattle.cursor.specs.Reading.{Read, got, refused, read_by, behind, allow, and_then, read_byte}
use Rattle.cursor.specs.Names.{read_name, byte_at, name_at}
use Rattle.cursor.specs.declared.Cursor.{Cursor}
use Rattle.cursor.proofs.Answers.{ReadAt, given, refusal}
use Rattle.cursor.proofs.Laws.{ByteAt, byte-ended}
use Rattle.decode.specs.declared.Head.{Head}
use Rattle.decode.specs.Decode.{test_of, judge_counts, read_block_count, read_counts, name_then, read_head, head_at}

abbrev pub head_of : Test → Name → ℕ → ℕ → Head
head_of t name steps blocks = record { test = t; name = name; steps = steps; blocks = blocks }

-- a byte that was read, and what comes behind it
byte-then : {B : Type 0} (s : List ℕ) (at b : ℕ) (c : Cursor) → ByteAt s at b c → (next : ℕ → List ℕ → Read B)
    → and_then (drop at s) (read_byte (drop at s)) next ≡ behind 1 (next b (drop c.at s))
unfolding and_then
byte-then s at b c first next =
    ap (λ (m : Read ℕ). and_then (drop at s) m next) first.reads
    ∙ ap (λ (l : List ℕ). behind 1 (next b l)) (drop-drop 1 at s ∙ ap (λ (k : ℕ). drop k s) (sym first.after))

byte-none : {B : Type 0} (s : List ℕ) (at : ℕ) → byte_at s at ≡ None → (next : ℕ → List ℕ → Read B)
    → and_then (drop at s) (read_byte (drop at s)) next ≡ refused refusals.Length
unfolding and_then
byte-none s at e next = ap (λ (m : Read ℕ). and_then (drop at s) m next) (byte-ended s at e)

-- the two counts
module _ (t : Test) (name : Name) (s : List ℕ) (at : ℕ) where
  pub counts-none : byte_at s at ≡ None → read_counts t name (drop at s) ≡ refused refusals.Length
  unfolding read_counts
  counts-none e = byte-none s at e (read_block_count t name)

  module _ (steps : ℕ) (c : Cursor) (first : ByteAt s at steps c) where
    second : read_counts t name (drop at s)
        ≡ behind 1 (read_block_count t name steps (drop c.at s))
    unfolding read_counts
    second = byte-then s at steps c first (read_block_count t name)

    -- whatever the step count is: it is not judged before the block count is read
    no-block-count : byte_at s c.at ≡ None → read_block_count t name steps (drop c.at s) ≡ refused refusals.Length
    unfolding and_then
    no-block-count e = simp (byte-ended s c.at e)

    pub counts-one : byte_at s c.at ≡ None → read_counts t name (drop at s) ≡ refused refusals.Length
    counts-one e = second ∙ ap (behind 1) (no-block-count e)

    pub counts-two : (blocks : ℕ) (d : Cursor) → ByteAt s c.at blocks d
        → read_counts t name (drop at s) ≡ behind 1 (behind 1 (allow (leb steps 12 && leb blocks 8) (got (head_of t name steps blocks) 0)))
    counts-two blocks d last =
        second ∙ ap (behind 1) (byte-then s c.at blocks d last (judge_counts t name steps))

abbrev pub read_as : Head → ℕ → Result (Head × Cursor) Refusal
read_as h at = Ok (h, record { at = at })

module _ (s : List ℕ) (at : ℕ) where
  pub head-none : byte_at s at ≡ None → Err refusals.Length ≡ head_at s at
  unfolding head_at read_head
  head-none e = ap (read_by at) (sym (byte-none s at e (λ kind rest. name_then (test_of kind) rest)))

  module _ (kind : ℕ) (c : Cursor) (first : ByteAt s at kind c) where
    goes_on : (o : Option Test) → test_of kind ≡ o → read_by at (behind 1 (name_then o (drop c.at s))) ≡ head_at s at
    unfolding head_at read_head
    goes_on o e =
        ap (read_by at)
        (ap (λ (p : Option Test). behind 1 (name_then p (drop c.at s))) (sym e) ∙ sym (byte-then s at kind c first (λ k rest. name_then (test_of k) rest)))

    pub head-test : test_of kind ≡ None → Err refusals.Field ≡ head_at s at
    head-test e = goes_on None e

    module _ (t : Test) (e : test_of kind ≡ Some t) where
      named : (m : Read Name) → read_name (drop c.at s) ≡ m → read_by at (behind 1 (and_then (drop c.at s) m (read_counts t))) ≡ head_at s at
      named m f = ap (λ (n : Read Name). read_by at (behind 1 (and_then (drop c.at s) n (read_counts t)))) (sym f) ∙ goes_on (Some t) e

      pub head-name : (r : Refusal) → name_at s c.at ≡ Err r → Err r ≡ head_at s at
      unfolding and_then name_at
      head-name r f = named (refused r) (refusal read_name s c.at r f)

      -- the counts stand behind the name
      through : (x : Name) (n : ℕ) → read_name (drop c.at s) ≡ got x n → (m : Read Head) → read_counts t x (drop (c.at + n) s) ≡ m
          → read_by at (behind 1 (behind n m)) ≡ head_at s at
      unfolding and_then
      through x n p m g =
          ap (λ (k : Read Head). read_by at (behind 1 (behind n k))) (sym g ∙ ap (read_counts t x) (sym (drop-drop n c.at s)))
          ∙ named (got x n) p

      module _ (name : Name) (d : Cursor) (f : name_at s c.at ≡ Ok (name, d)) where
        there : ReadAt read_name s c.at name d.at
        unfolding name_at
        there = given read_name s c.at name d f

        after : (m : Read Head) → read_counts t name (drop d.at s) ≡ m → read_by at (behind 1 (behind there.size m)) ≡ head_at s at
        after m h = through name there.size there.reads m (ap (λ (k : ℕ). read_counts t name (drop k s)) (sym there.after) ∙ h)

        pub head-refused : (r : Refusal) → read_counts t name (drop d.at s) ≡ refused r → Err r ≡ head_at s at
        head-refused r h = after (refused r) h

        pub head_read : (h : Head) (j : ℕ) → read_counts t name (drop d.at s) ≡ got h j → read_as h (d.at + j) ≡ head_at s at
        head_read h j e =
            let place : d.at + j ≡ at + (1 + (there.size + j)) = omega (arith, first.after, there.after) in
            ap (read_as h) place ∙ after (got h j) e
