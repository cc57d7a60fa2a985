-- The fold is the definition's register.
use mathlib.Core.Path.{◌≡◌, ap, ◌∙◌}
use Prim.Native.Nat.{ℕ}
use lib.Bits.{bit_xor}
use Rattle.std.proofs.Common.{rules}
use Rattle.std.proofs.iter.runs.Made.{chains}
use Rattle.std.specs.List.{fold}
use Rattle.le.proofs.Laws.{bytes}
use Rattle.checksum.specs.Register.{ones, byte_step, table_register}
use Rattle.checksum.proofs.Register.{folded}
use Rattle.checksum.proofs.V42.{table-check}
use Rattle.checksum.proofs.crc32.Goals as goal

pub returns : goal.returns
unfolding table_register
returns c =
    let s = c.args.bytes.now in
    let run : c.fold-register.result ≡ fold byte_step ones s = search (rules, chains) in
    ap (λ (x : ℕ). bit_xor x ones) (run ∙ folded ones s) ∙ table-check s (bytes s (λ i. (c.type_inv.bytes i).fits))
