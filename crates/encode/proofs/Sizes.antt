-- Names that pass question 5 are at most 20 bytes long.
use mathlib.Core.Path.{◌≡◌}
use mathlib.Core.Bool.{true, ◌&&◌}
use mathlib.Core.List.{List, [], ◌∷◌, ◌++◌}
use Prim.Native.Nat.{ℕ, ◌+◌, ◌≤◌, ◌<◌}
use native.Mathlib.Omega.{arith}
use lib.Dec.{leb}
use lib.ListN.{length, get_or, take, drop, length-append}
use borrow.Author.Tests.{leb-true}
use Rattle.common.specs.Lists.{all}
use Rattle.common.proofs.Tests.{and_left}
use Rattle.common.proofs.Lists.{all-get}
use Rattle.names.specs.declared.Name.{Name}
use Rattle.names.specs.Names.{allowed, is_zero, name_ok}
use Rattle.cursor.specs.Names.{name_bytes}
use Rattle.model.specs.declared.Step.{Step}
use Rattle.model.specs.declared.Intensity.TheVariants.{Warmup}
use Rattle.model.specs.declared.Length.TheVariants.{Time}
use Rattle.model.specs.declared.Target.TheVariants.{Free}
use Rattle.model.specs.declared.Workout.{Workout}
use Rattle.form.specs.Form.{note_ok}
use Rattle.encode.specs.Encode.{test_kind, head_bytes}

-- what an array of steps reads as past its end
abbrev pub blank_step : Step
blank_step = record { intensity = Warmup; length = Time 0; target = Free; note = record { bytes = []; len = 0 } }

-- a name that passes question 5 is at most 20 long
pub name-fits : (n : Name) → name_ok n ≡ true → n.len ≤ 20
unfolding name_ok
name-fits n e = leb-true n.len 20 (and_left (leb n.len 20) (all allowed (take n.len n.bytes) && all is_zero (drop n.len n.bytes)) e)

pub note-fits : (steps : List Step) (i : ℕ) (d : Step) → i < length steps → all note_ok steps ≡ true → (get_or steps i d).note.len ≤ 20
note-fits steps i d h e = name-fits (get_or steps i d).note (all-get note_ok steps i d h e)

pub head-length : (w : Workout) → length (head_bytes w) ≡ 6 + length (name_bytes w.name)
unfolding head_bytes
head-length w =
    omega (
      arith,
      length-append (86 ∷ 87 ∷ 1 ∷ test_kind w.test ∷ []) (name_bytes w.name ++ (w.step_count ∷ w.block_count ∷ [])),
      length-append (name_bytes w.name) (w.step_count ∷ w.block_count ∷ []),
    )
