-- `Name::from_bytes`: the first i bytes are the text's as they can be drawn, the others 0.
use mathlib.Core.List.{map-append, List, ◌++◌, [], ◌∷◌, map}
use mathlib.Core.Path.{◌∙◌, sym, ap}
use Prim.Native.Nat.{ℕ, ◌+◌, ◌-◌}
use native.Mathlib.Numerals.{add-one}
use native.Mathlib.Omega.{arith}
use lib.Seq.{length-take-le, take-suc}
use lib.ListN.{take, replicate, length-map, length-take, get_or}
use Rattle.common.proofs.Lists.{fill}
use Rattle.names.specs.Names.{drawn}
use Rattle.names.proofs.Laws.{name-made}
use Rattle.names.proofs.Name.from_bytes.Goals as goal

pub loop-i-preserved : goal.loop-i-preserved
loop-i-preserved c = let l = c.loop-i in
    let text = take c.min-n.result c.args.text.now in
    rw (l.invariant, c.drawn_byte.ensures) (fill 20 l.i (map drawn (take l.i text)) (drawn (get_or text l.i 0)) 0 (length-map (take l.i text) drawn ∙ length-take-le l.i text (omega arith)) (omega (arith, length-take c.min-n.result c.args.text.now))
    ∙ ap (λ (xs : List ℕ). xs ++ replicate (20 - (l.i + 1)) 0) (sym (map-append drawn (take l.i text) (get_or text l.i 0 ∷ [])) ∙ ap (map drawn) (sym (take-suc text l.i 0 (omega arith)) ∙ ap (λ (k : ℕ). take k text) (sym (add-one l.i)))))

pub returns : goal.returns
returns c = name-made c.args.text.now c.loop-i.bytes c.min-n.result c.loop-i.i c.min-n.ensures (omega arith) c.loop-i.invariant
