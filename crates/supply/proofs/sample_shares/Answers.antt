-- `sample_shares`: each by computation.
use mathlib.Core.Path.{refl}
use Rattle.common.specs.Lists.{sum}
use Rattle.supply.specs.Supply.{level_up_to, level_of, grants_of}
use Rattle.supply.proofs.sample_shares.Goals as goal

pub returns : goal.returns
unfolding sum level_up_to level_of grants_of
returns c =
    record {
      at_sum = refl;
      below_sum = refl;
      uneven = refl;
      left_over = refl;
      one_want = refl;
      scarce = refl;
      no_supply = refl;
      no_wants = refl;
      largest = refl;
      its_level = refl;
    }
