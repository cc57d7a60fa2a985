-- `put_times`: six runs, one written behind the other.
use mathlib.Core.Path.{ap, ◌∙◌}
use mathlib.Core.List.{◌++◌}
use native.Mathlib.Omega.{arith}
use lib.ListN.{length-append}
use Rattle.le.specs.Le.{bytes_of, written}
use Rattle.le.proofs.Laws.{more, length-bytes}
use Rattle.record_writer.proofs.Laws.{times-same}
use Rattle.record_writer.proofs.put_times.Goals as goal

pub returns : goal.returns
returns c = let a = c.args in
    let d = a.out.now in
    let mt = c.millis_of.result in
    let mi = c.millis_of-2.result in
    let mu = c.millis_of-3.result in
    let mo = c.millis_of-4.result in
    let watts = c.unwrap_or-watts.result in
    let t = bytes_of 4 mt in
    let i = bytes_of 4 mi in
    let u = bytes_of 4 mu in
    let o = bytes_of 4 mo in
    let mn = c.millis_of-5.result in
    more d 48 (omega arith) ((((t ++ i) ++ u) ++ o) ++ bytes_of 2 watts) (bytes_of 4 mn) 66
    (omega (arith, length-append (((t ++ i) ++ u) ++ o) (bytes_of 2 watts), length-append ((t ++ i) ++ u) o, length-append (t ++ i) u, length-append t i, length-bytes 4 mt, length-bytes 4 mi, length-bytes 4 mu, length-bytes 4 mo, length-bytes 2 watts))
    (more d 48 (omega arith) (((t ++ i) ++ u) ++ o) (bytes_of 2 watts) 64
    (omega (arith, length-append ((t ++ i) ++ u) o, length-append (t ++ i) u, length-append t i, length-bytes 4 mt, length-bytes 4 mi, length-bytes 4 mu, length-bytes 4 mo))
    (more d 48 (omega arith) ((t ++ i) ++ u) o 60 (omega (arith, length-append (t ++ i) u, length-append t i, length-bytes 4 mt, length-bytes 4 mi, length-bytes 4 mu))
    (more d 48 (omega arith) (t ++ i) u 56 (omega (arith, length-append t i, length-bytes 4 mt, length-bytes 4 mi))
    (more d 48 (omega arith) t i 52 (omega (arith, length-bytes 4 mt)) c.put_u32.ensures c.put_u32-2.ensures)
    c.put_u32-3.ensures) c.put_u32-4.ensures) c.put_u16.ensures) c.put_u32-5.ensures
    ∙ ap (written d 48)
    (times-same mt mi mu mo watts mn c.millis_of.ensures c.millis_of-2.ensures c.millis_of-3.ensures c.millis_of-4.ensures c.unwrap_or-watts.ensures c.millis_of-5.ensures)
