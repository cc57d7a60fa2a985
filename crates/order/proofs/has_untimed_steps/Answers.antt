-- `has_untimed_steps`: not all steps are timed.
use Rattle.order.specs.Order.{has_untimed}
use Rattle.order.proofs.has_untimed_steps.Goals as goal

pub returns : goal.returns
unfolding has_untimed
returns c = simp c.all_timed.ensures
