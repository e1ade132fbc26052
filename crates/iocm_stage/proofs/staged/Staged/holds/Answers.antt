use Rattle.std.proofs.Common.{◌≡◌, Bor, Option, Some, None, is_some, refl, ap, ◌∙◌}
use Rattle.std.specs.Option.{option_copied}
use Rattle.iocm_stage.proofs.Stages.{is_held_by}
use Rattle.iocm_stage.proofs.staged.Staged.holds.Goals as goal

-- there is something behind a reference where there is a reference
copied : {A : Type 0} (o : Option (Bor A)) → is_some o ≡ is_some (option_copied o)
copied None = refl
copied (Some x) = refl

pub returns : goal.returns
returns c t s p stage = c.is_some.ensures ∙ copied c.get.result ∙ ap is_some c.get.ensures
    ∙ is_held_by c.args.self.now t s p c.args.subchannel stage
