-- What was found is under its own key.
use Rattle.std.proofs.Common.{sym, ap, ◌∙◌}
use Rattle.std.specs.FinMap.{get}
use Rattle.std.specs.Option.{option_copied}
use Rattle.iocm_model.proofs.Machine.OwnKeys.{keyed_own}
use Rattle.iocm_lookup.proofs.kept.get_after.Goals as goal

pub returns-clause-last : goal.returns-clause-last
returns-clause-last g c r is =
    let there = sym c.get-found.ensures ∙ ap option_copied is in
    ap (get c.args.config.now.records)
    (keyed_own c.args.config.now.records c.has_own_keys.ensures c.args.key.now r.now there) ∙ there
