-- One place more is sifted.
use Rattle.std.proofs.Common.{ap, [], ◌∷◌, ◌++◌, ◌∙◌}
use Rattle.iocm_model.specs.Machine.Configuration.{Configuration}
use Rattle.iocm_numbers.specs.PutBack.{numbers_at}
use Rattle.iocm_numbers.specs.Renumbering.{unreached}
use Rattle.iocm_numbers.proofs.Sifting.{sifted_one}
use Rattle.iocm_numbers.proofs.numbers.Numbers.sift.Goals as goal

pub loop-place-preserved : goal.loop-place-preserved
loop-place-preserved g c = (
  c.sift_one.ensures.same ∙ c.loop-place.invariant.0,
  sifted_one c.args.config.now.records c.args.self.now.numbers c.args.places.now c.loop-place.place-index
      c.loop-place.sifted.leaving.items
      c.sift_one.new.sifted.leaving.items c.loop-place.sifted.unnumbered.items c.sift_one.new.sifted.unnumbered.items
      c.place-item.result
      c.loop-place-test.true c.place-item.is c.loop-place.invariant.1
      (c.in_ok-sift_one.ensures.leaving ∙ ap (λ (m : Configuration). c.loop-place.sifted.leaving.items
      ++ numbers_at c.args.self.now.numbers (unreached m (c.place-item.result ∷ []))) c.loop-place.invariant.0)
      c.in_ok-sift_one.ensures.unnumbered,
)
