-- `vectors::all_agree` compares each word. The invariant: what was found and what is left come to the whole answer.
use mathlib.Core.Path.{◌≡◌}
use mathlib.Core.Bool.{◌&&◌}
use Prim.Native.Nat.{◌-◌}
use Rattle.vectors.specs.Replays.{agrees}
use Rattle.vectors.proofs.all_agree.Given as goal

abbrev pub invariant-loop-i : goal.invariant-loop-i
invariant-loop-i l = (l.same && agrees l.question l.input l.answer l.i (l.words - l.i)) ≡ agrees l.question l.input l.answer 0 l.words
