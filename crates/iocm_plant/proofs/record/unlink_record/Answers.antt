use Rattle.std.proofs.Common.{sym, ap, ◌∙◌}
use Rattle.std.specs.Option.{option_copied}
use Rattle.iocm_plant.proofs.Records.{unlinked, none_unlinked}
use Rattle.iocm_plant.proofs.record.unlink_record.Goals as goal

pub returns-in-Some-clause-index : goal.returns-in-Some-clause-index
returns-in-Some-clause-index c = unlinked c.args.config.now.records c.args.key.now c.args.index.now c.unlink.new.self
    c.in-Some.entry.now c.has_own_keys.ensures
    (sym c.get.ensures ∙ ap option_copied c.in-Some.is) c.requires c.unlink.ensures.linked

pub returns-in_default-clause-index : goal.returns-in_default-clause-index
returns-in_default-clause-index c =
    none_unlinked c.args.config.now.records c.args.key.now c.args.index.now
    (sym c.get.ensures ∙ ap option_copied c.in_default.is) c.requires
