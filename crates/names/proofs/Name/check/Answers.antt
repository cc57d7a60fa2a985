-- `Name::check`: the fold over the bytes, each with its place, is what the definition asks of them.
use Rattle.std.proofs.Common.{rules, tests}
use Rattle.std.proofs.lemmas.Iterator.{YieldsList-from_slice}
use Rattle.std.proofs.lemmas.Iterator.Consumers.{YieldsList-from_enumerate, fold_from_yields_List}
use Rattle.std.specs.List.{fold, enumerate_from}
use mathlib.Core.Bool.{Bool, true, false, ◌&&◌, ◌||◌, cond, or-false}
use mathlib.Core.Path.{◌≡◌, refl, ◌∙◌, ap}
use mathlib.Core.Logic.{◌⊎◌, inl, inr}
use Prim.Native.Nat.{ℕ, ◌≤◌, ◌<◌}
use lib.Dec.{leb, ltb}
use borrow.Author.Tests.{lt-ltb, le-ltb}
use Rattle.std.proofs.lemmas.Bool.Decides.{leb_tells}
use Rattle.common.specs.Lists.{all}
use Rattle.common.proofs.Lists.{all_split}
use Rattle.names.specs.Names.{name_ok, allowed, is_zero}
use Rattle.names.proofs.All.{all-folded, all-placed}
use Rattle.names.proofs.Name.check.Goals as goal

-- of two tests one below a place and one from there on, one is asked
chosen : (i n : ℕ) (s t : Bool) → ((ltb i n && s) || (leb n i && t)) ≡ cond (ltb i n) s t
chosen i n s t = go (leb_tells n i)
  where
    go : ((leb n i ≡ true) × (n ≤ i)) ⊎ ((leb n i ≡ false) × (i < n)) → ((ltb i n && s) || (leb n i && t)) ≡ cond (ltb i n) s t
    go (inl h) = rw (h.0, le-ltb i n h.1) refl
    go (inr h) = rw (h.0, lt-ltb i n h.1) (or-false s)

pub returns : goal.returns
unfolding name_ok
returns c = let n = c.args.self in
    let test = (λ (j b : ℕ). cond (ltb j n.len) (allowed b) (is_zero b)) in
    let run : c.fold.result ≡ fold (λ (t : Bool) (p : ℕ × ℕ). t && test p.0 p.1) true (enumerate_from 0 n.bytes) =
    fold_from_yields_List _ (λ (t : Bool) (p : ℕ × ℕ). t && test p.0 p.1) true _ c.fold.ensures.ran (YieldsList-from_enumerate (YieldsList-from_slice n.bytes cc) cc)
    (λ t x b q k. let r : (q ≡ _) × (b ≡ (t && ((ltb x.0 n.len && allowed x.1.now) || (leb n.len x.0 && is_zero x.1.now)))) = search (rules, tests) in
    (r.0, r.1 ∙ ap (λ (u : Bool). t && u) (chosen x.0 n.len (allowed x.1.now) (is_zero x.1.now)))) in
    ap (λ (t : Bool). leb n.len 20 && t) (run ∙ all-folded (λ (p : ℕ × ℕ). test p.0 p.1) true (enumerate_from 0 n.bytes) ∙ all-placed test 0 n.bytes ∙ all_split allowed is_zero n.len n.bytes)
