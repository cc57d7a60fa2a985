-- `compare_files::compare_file` fills the places lent. The invariant: the first i hold their words, the others what they held.
use mathlib.Core.Path.{◌≡◌}
use Rattle.compare_files.specs.Files.{filled, file_word}
use Rattle.compare_files.proofs.compare_file.Given as goal

abbrev pub invariant-loop-i : goal.invariant-loop-i
invariant-loop-i l = l.answer ≡ filled (file_word l.read) l.initial.answer l.i
