-- `want`: the watts of the band on now.
use mathlib.Core.Path.{ap, ◌∙◌}
use Rattle.frame.specs.Frame.{band_watts, want_of}
use Rattle.frame.proofs.want.Goals as goal

pub returns : goal.returns
unfolding want_of
returns c = c.band_watts.ensures ∙ ap band_watts c.band_now.ensures
