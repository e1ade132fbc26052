-- The fields that lead to devices; if none does, the record is written otherwise.
use Rattle.std.proofs.Common.{◌++◌, sym, ap, ◌∙◌}
use Rattle.iocm_offon_text.specs.Fields.{leads}
use Rattle.iocm_offon_text.proofs.Leading.{none_leads, some_leads}
use Rattle.iocm_offon_text.proofs.fields.put_fields.Goals as goal

pub returns-then-any_leads : goal.returns-then-any_leads
returns-then-any_leads c =
    c.in_ok-put_leading.ensures
    ∙ ap (λ told. c.args.text.now.items ++ told) (sym (some_leads (leads c.args.kind.now c.args.is_over) c.args.count
    c.args.told.now (sym c.any_leads.ensures ∙ c.if-any_leads.true)))

pub returns : goal.returns
returns c =
    c.in_ok-extend_from_slice.ensures.items
    ∙ ap (λ told. c.args.text.now.items ++ told) (sym (none_leads (leads c.args.kind.now c.args.is_over) c.args.count
    c.args.told.now (sym c.any_leads.ensures ∙ c.if-any_leads.false)))
