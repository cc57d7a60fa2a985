-- `put_record`: the body, and its check word behind it.
use mathlib.Core.Path.{ap, ◌∙◌}
use native.Mathlib.Omega.{arith}
use lib.ListN.{length-take}
use Rattle.checksum.specs.V42.{check_of}
use Rattle.record_writer.proofs.Laws.{body-taken, record-written}
use Rattle.record_writer.proofs.put_record.Goals as goal

pub put_body-requires : goal.put_body-requires
put_body-requires c = c.requires

pub slice_bounds-crc32-end : goal.slice_bounds-crc32-end
slice_bounds-crc32-end c = let kept = c.put_body.auto.out in omega (arith, c.requires.0)

pub slice_bounds-crc32-end-2 : goal.slice_bounds-crc32-end-2
slice_bounds-crc32-end-2 c = let kept = c.put_body.auto.out in simp length-take (omega (arith, c.requires.0))

pub put_u32-requires : goal.put_u32-requires
put_u32-requires c = let kept = c.put_body.auto.out in omega (arith, c.requires.0)

pub returns : goal.returns
returns c = let a = c.args in
    let body = c.put_body.ensures in
    record-written a.stored a.out.now c.crc32-check.result body (c.crc32-check.ensures ∙ ap check_of (body-taken a.stored a.out.now body)) c.put_u32.ensures
