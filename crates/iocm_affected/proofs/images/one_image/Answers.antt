use Rattle.std.proofs.Common.{◌++◌, [], ◌∷◌, ap, ◌∙◌}
use Rattle.iocm_affected.proofs.ChoiceWalks.{one_rises}
use Rattle.iocm_affected.proofs.images.one_image.Goals as goal

pub returns-clause-rise : goal.returns-clause-rise
returns-clause-rise g c =
    one_rises c.push.new.self.items c.args.image
    (c.in_ok-push.ensures.items ∙ ap (λ ms. ms ++ c.args.image ∷ []) c.new-images.ensures.items)
