-- The row of one record.
use Rattle.std.proofs.Common.{◌≡◌, ◌∷◌, ◌++◌, [], List, sym, ap, ◌∙◌}
use Rattle.std.proofs.lemmas.Result.{IfOk-weaker}
use Rattle.iocm_model.specs.Machine.Record.{Rec}
use Rattle.iocm_record.specs.Meaning.{unit_of, record_of}
use Rattle.iocm_list.specs.declared.unit_row.UnitRow.{UnitRow}
use Rattle.iocm_sight.specs.Connected.{as_unit}
use Rattle.iocm_list.specs.UnitRows.{is_unit_wanted, unit_row, rows_among, rows_of}
use Rattle.iocm_list.proofs.Rows.{one_row}
use Rattle.iocm_list.proofs.unit_row.put_record.Goals as goal

pub returns-in-Unit : goal.returns-in-Unit
returns-in-Unit c =
    let w = c.args.listing.now.filters.now in
    let records = c.args.listing.now.config.now.records in
    let old = c.args.rows.now.items in
    IfOk-weaker c.put_unit.result
    (λ _. c.put_unit.new.rows.items ≡ old ++ rows_of w records (unit_of c.deref.result.now))
    (λ _. c.put_unit.new.rows.items ≡ old ++ rows_among w records (c.args.entry.now ∷ []))
    (λ _ is. is
    ∙ ap (λ fields. old ++ rows_of w records (unit_of fields)) c.deref.ensures
    ∙ ap (λ (l : List UnitRow). old ++ l)
    (one_row as_unit (is_unit_wanted w records) (unit_row records) (unit_of c.in-Unit.unit.value))
    ∙ ap (λ (e : Rec). old ++ rows_among w records (e ∷ [])) (ap record_of (sym c.in-Unit.is) ∙ c.body.ensures))
    c.put_unit.ensures
