-- `history::read_name` meets its contract: the bytes behind the length, as they can be drawn.
use mathlib.Core.Path.{◌≡◌, ap, ◌∙◌}
use Prim.Native.Nat.{ℕ, ◌+◌, ◌-◌}
use native.Mathlib.Omega.{arith}
use lib.ListN.{get_or}
use Rattle.le.specs.Le.{part}
use Rattle.names.specs.Names.{name_from}
use Rattle.history.specs.Decode.{name_in}
use Rattle.history.proofs.read_name.Goals as goal

pub returns : goal.returns
unfolding name_in
returns c = let s = c.args.bytes.now in
    let size : (21 + c.size_of-end.result) - 21 ≡ get_or s 20 0 = omega (arith, c.size_of-end.ensures.0) in
    c.from_bytes.ensures ∙ ap (λ (n : ℕ). name_from (part s 21 n)) size
