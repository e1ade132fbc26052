-- Nothing is gathered yet.
use Rattle.iocm_impact.proofs.impact.none_gathered.Goals as goal

pub returns : goal.returns
returns c =
    λ j. record { images = c.new.ensures.items j; blocks = c.new-2.ensures.items j; marks = c.in_ok-marks.ensures j }
