-- `class_bikes`: four bikes, each made as the last.
use Rattle.class.proofs.class_bikes.Goals as goal

pub returns : goal.returns
returns c = simp (c.class_bike-4.ensures, c.class_bike-3.ensures, c.class_bike-2.ensures, c.class_bike.ensures)
