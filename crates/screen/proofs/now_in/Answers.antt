-- `now_in`: each field of `Now` by its own function.
use Rattle.screen.specs.Screen.{now_in}
use Rattle.screen.proofs.now_in.Goals as goal

pub readout_now-requires : goal.readout_now-requires
readout_now-requires c = c.requires

pub returns : goal.returns
unfolding now_in
returns c = simp (c.readout_now.ensures, c.next_now.ensures, c.compliance.ensures, c.reading_now.ensures, c.ramp_now.ensures, c.played_now.ensures, c.position_now.ensures, c.left_now-seen.ensures, c.band_now-band.ensures)
