-- `encode::put_file` meets its contract: head, steps and blocks, then the check word of what stands there.
use lib.ListN.{length, length-take}
use native.Mathlib.Omega.{arith}
use mathlib.Core.Path.{◌≡◌, ap, ◌∙◌}
use Rattle.checksum.specs.V42.{check_of}
use Rattle.encode.specs.Encode.{body_bytes}
use Rattle.encode.proofs.File.{form-parts, body-length, file-length, body-written, body-taken, file-written}
use Rattle.encode.proofs.put_file.Goals as goal

pub put_head-at_steps-requires : goal.put_head-at_steps-requires
put_head-at_steps-requires c = let w = c.args.workout in
    let p = c.requires in
    let f = form-parts w p.0 in
    (f.name, omega (arith, file-length w, body-length w))

pub put_steps-at_blocks-requires : goal.put_steps-at_blocks-requires
put_steps-at_blocks-requires c = let w = c.args.workout in
    let p = c.requires in
    let f = form-parts w p.0 in
    let head-kept = c.put_head-at_steps.auto.out in
    let head-end = c.put_head-at_steps.ensures.0 in
    (f.steps, f.notes, omega (arith, file-length w, body-length w))

pub put_blocks-end-requires : goal.put_blocks-end-requires
put_blocks-end-requires c = let w = c.args.workout in
    let p = c.requires in
    let f = form-parts w p.0 in
    let steps-kept = c.put_steps-at_blocks.auto.out in
    let steps-end = c.put_steps-at_blocks.ensures.0 in
    let head-kept = c.put_head-at_steps.auto.out in
    let head-end = c.put_head-at_steps.ensures.0 in
    (f.blocks, omega (arith, file-length w, body-length w))

pub slice_bounds-crc32-end : goal.slice_bounds-crc32-end
slice_bounds-crc32-end c = let w = c.args.workout in
    let p = c.requires in
    let f = form-parts w p.0 in
    let blocks-kept = c.put_blocks-end.auto.out in
    let Blocks-end = c.put_blocks-end.ensures.0 in
    let steps-kept = c.put_steps-at_blocks.auto.out in
    let steps-end = c.put_steps-at_blocks.ensures.0 in
    let head-kept = c.put_head-at_steps.auto.out in
    let head-end = c.put_head-at_steps.ensures.0 in
    omega (arith, file-length w, body-length w)

pub slice_bounds-crc32-end-2 : goal.slice_bounds-crc32-end-2
slice_bounds-crc32-end-2 c = let w = c.args.workout in
    let p = c.requires in
    let f = form-parts w p.0 in
    let blocks-kept = c.put_blocks-end.auto.out in
    let Blocks-end = c.put_blocks-end.ensures.0 in
    let steps-kept = c.put_steps-at_blocks.auto.out in
    let steps-end = c.put_steps-at_blocks.ensures.0 in
    let head-kept = c.put_head-at_steps.auto.out in
    let head-end = c.put_head-at_steps.ensures.0 in
    simp length-take (omega (arith, file-length w, body-length w))

pub put_u32-requires : goal.put_u32-requires
put_u32-requires c = let w = c.args.workout in
    let p = c.requires in
    let f = form-parts w p.0 in
    let blocks-kept = c.put_blocks-end.auto.out in
    let Blocks-end = c.put_blocks-end.ensures.0 in
    let steps-kept = c.put_steps-at_blocks.auto.out in
    let steps-end = c.put_steps-at_blocks.ensures.0 in
    let head-kept = c.put_head-at_steps.auto.out in
    let head-end = c.put_head-at_steps.ensures.0 in
    omega (arith, file-length w, body-length w)

pub returns : goal.returns
returns c = let w = c.args.workout in
    let p = c.requires in
    let f = form-parts w p.0 in
    let blocks-kept = c.put_blocks-end.auto.out in
    let Blocks-end = c.put_blocks-end.ensures.0 in
    let steps-kept = c.put_steps-at_blocks.auto.out in
    let steps-end = c.put_steps-at_blocks.ensures.0 in
    let head-kept = c.put_head-at_steps.auto.out in
    let head-end = c.put_head-at_steps.ensures.0 in
    let d = c.args.out.now in
    let body = body-written w d c.put_head-at_steps.result c.put_steps-at_blocks.result head-end steps-end c.put_head-at_steps.ensures.1 c.put_steps-at_blocks.ensures.1 c.put_blocks-end.ensures.1 in
    let size : c.put_blocks-end.result ≡ length (body_bytes w) = omega (arith, body-length w) in
    file-written w d c.put_blocks-end.result c.crc32-check.result size body (c.crc32-check.ensures ∙ ap check_of (body-taken w d c.put_blocks-end.result size body)) c.put_u32.ensures
