use Rattle.iocm_affected.proofs.ChoiceWalks.{none_rise}
use Rattle.iocm_affected.proofs.images.led_images.Goals as goal

pub returns-in-Id-clause-rise : goal.returns-in-Id-clause-rise
returns-in-Id-clause-rise g c = none_rise c.new.result.items c.new.ensures.items
