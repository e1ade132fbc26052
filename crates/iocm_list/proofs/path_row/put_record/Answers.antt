-- The row of one record.
use Rattle.std.proofs.Common.{◌≡◌, ◌∷◌, ◌++◌, [], List, sym, ap, ◌∙◌}
use Rattle.std.proofs.lemmas.Result.{IfOk-weaker}
use Rattle.iocm_model.specs.Machine.Record.{Rec}
use Rattle.iocm_record.specs.Meaning.{path_of, record_of}
use Rattle.iocm_list.specs.declared.path_row.PathRow.{PathRow}
use Rattle.iocm_sight.specs.Connected.{as_path}
use Rattle.iocm_list.specs.PathRows.{is_path_wanted, path_row, rows_among, rows_of}
use Rattle.iocm_list.proofs.Rows.{one_row}
use Rattle.iocm_list.proofs.path_row.put_record.Goals as goal

pub returns-in-Path : goal.returns-in-Path
returns-in-Path c =
    let w = c.args.listing.now.filters.now in
    let records = c.args.listing.now.config.now.records in
    let old = c.args.rows.now.items in
    IfOk-weaker c.put_path.result
    (λ _. c.put_path.new.rows.items ≡ old ++ rows_of w records (path_of c.deref.result.now))
    (λ _. c.put_path.new.rows.items ≡ old ++ rows_among w records (c.args.entry.now ∷ []))
    (λ _ is. is
    ∙ ap (λ fields. old ++ rows_of w records (path_of fields)) c.deref.ensures
    ∙ ap (λ (l : List PathRow). old ++ l)
    (one_row as_path (is_path_wanted w records) (path_row records) (path_of c.in-Path.path.value))
    ∙ ap (λ (e : Rec). old ++ rows_among w records (e ∷ [])) (ap record_of (sym c.in-Path.is) ∙ c.body.ensures))
    c.put_path.ensures
