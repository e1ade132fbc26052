-- One place more is filled.
use Rattle.std.proofs.Common.{ap, ◌∙◌}
use Rattle.iocm_model.specs.Machine.Configuration.{Configuration}
use Rattle.iocm_numbers.specs.Renumbering.{filled_by}
use Rattle.iocm_numbers.proofs.Steps.{fills_one}
use Rattle.iocm_numbers.proofs.numbers.Numbers.fill.Goals as goal

pub loop-place-preserved : goal.loop-place-preserved
loop-place-preserved g c = (
  c.fill_one.ensures.walk ∙ c.loop-place.invariant.0,
  fills_one c.args.config.now.records c.args.places.now c.loop-place.place-index c.args.self.now c.loop-place.self
      c.fill_one.new.self
      c.place-item.result c.loop-place-test.true c.place-item.is c.loop-place.invariant.1
      (c.in_ok-fill_one.ensures.numbers
      ∙ ap (λ (m : Configuration). filled_by m c.loop-place.self.numbers c.place-item.result)
      c.loop-place.invariant.0)
      c.in_ok-fill_one.ensures.room,
)
