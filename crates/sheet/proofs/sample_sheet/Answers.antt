-- `sample_sheet` by running the definitions.
use mathlib.Core.Path.{refl}
use mathlib.Core.List.{flat_map}
use native.Mathlib.Omega.{arith}
use Rattle.common.specs.Lists.{all}
use Rattle.le.specs.Le.{bytes_of}
use Rattle.sheet.specs.Bytes.{value_of, sheet_bytes}
use Rattle.sheet.proofs.sample_sheet.Goals as goal

pub returns : goal.returns
unfolding flat_map all bytes_of value_of sheet_bytes
returns c =
    record {
      is =
          record {
            most = omega arith;
            opened = refl;
            fits = ((omega arith, omega arith), ((omega arith, omega arith, omega arith), ((omega arith, omega arith), (tt, (tt, (tt, tt))))));
          };
      bytes = refl;
    }
