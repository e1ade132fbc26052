use Rattle.std.proofs.Common.{sym, ap, ◌∙◌}
use Rattle.iocm_types.specs.Naming.{naming_cmp}
use Rattle.iocm_table.specs.Slots.{rows}
use Rattle.iocm_model.specs.Machine.Configuration.{lookup_of}
use Rattle.iocm_record.specs.Meaning.{path_of, record_of}
use Rattle.iocm_unit_rules.specs.Sharing.{shared_of, shared_on}
use Rattle.iocm_unit_rules.proofs.sharing.shared_of.Goals as goal

pub returns-in-Path : goal.returns-in-Path
returns-in-Path g c = let look = lookup_of c.args.config.now.records in let index = rows naming_cmp c.args.index.now in
    c.first_shared.ensures ∙ ap (shared_on look index)
    (c.own_path.ensures ∙ ap (λ fields. record { css = (path_of fields).css; path = (path_of fields).number })
    c.deref.ensures)
    ∙ ap (shared_of look index) (ap record_of (sym c.in-Path.is) ∙ c.body.ensures)
