-- `compare_files::step_word` gives a step's numbers, and past them its note.
use mathlib.Core.Path.{◌∙◌, ap}
use Prim.Native.Nat.{◌-◌}
use native.Mathlib.Omega.{arith}
use Rattle.common.proofs.Matches.{past, at_least}
use Rattle.step_writer.specs.declared.Values.{Values}
use Rattle.compare_files.specs.Files.{step_facts, step_word, text_word}
use Rattle.compare_files.proofs.step_word.Goals as goal

pub overflow_sub-place : goal.overflow_sub-place
overflow_sub-place c = omega (arith, at_least 7 _ c.in_default.in_default-own.rest)

pub returns-in-0 : goal.returns-in-0
unfolding step_word
returns-in-0 c = rw c.in-0.is c.intensity_kind.ensures

pub returns-in-1 : goal.returns-in-1
unfolding step_word
returns-in-1 c = rw c.in-1.is c.length_kind.ensures

pub returns-in-2 : goal.returns-in-2
unfolding step_word
returns-in-2 c = rw c.in-2.is c.length_value.ensures

pub returns-in-3 : goal.returns-in-3
unfolding step_word
returns-in-3 c = rw c.in-3.is (ap (λ (v : Values). v.kind) c.values_of-values.ensures)

pub returns-in-4 : goal.returns-in-4
unfolding step_word
returns-in-4 c = rw c.in-4.is (ap (λ (v : Values). v.a) c.values_of-values.ensures)

pub returns-in-5 : goal.returns-in-5
unfolding step_word
returns-in-5 c = rw c.in-5.is (ap (λ (v : Values). v.b) c.values_of-values.ensures)

pub returns-in-6 : goal.returns-in-6
unfolding step_word
returns-in-6 c = rw c.in-6.is (ap (λ (v : Values). v.c) c.values_of-values.ensures)

pub returns-in_default : goal.returns-in_default
unfolding step_word
returns-in_default c = let a = c.args in c.text_word.ensures ∙ past (step_facts a.step) a.place (text_word a.step.note (a.place - 7)) (at_least 7 _ c.in_default.in_default-own.rest)
