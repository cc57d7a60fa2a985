-- `encode::file_size` meets its contract: the lengths of the parts, and of the check word.
use lib.ListN.{length}
use native.Mathlib.Omega.{arith}
use mathlib.Core.Path.{◌≡◌}
use Rattle.encode.proofs.File.{form-parts, file-size}
use borrow.Author.Rules.{rules}
use Rattle.encode.proofs.file_size.Goals as goal

pub steps_size-steps_len-requires : goal.steps_size-steps_len-requires
steps_size-steps_len-requires c = let f = form-parts c.args.workout c.requires in (f.steps, f.notes)

pub returns : goal.returns
returns c = let w = c.args.workout in
    let f = form-parts w c.requires in
    let named : length w.name.bytes ≡ 20 = search (rules, c.well_formed.0.1.1.0.1.1.0) in
    let eight : length w.blocks ≡ 8 = search rules in
    omega (arith, c.steps_size-steps_len.ensures.0, c.steps_size-steps_len.ensures.1, file-size w f.name named eight f.blocks, f.blocks, f.name)
