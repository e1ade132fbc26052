-- Before the first record all are left; and one record more.
use Rattle.std.proofs.Common.{◌∷◌, ◌++◌, [], List, filter, map, ap, ◌∙◌}
use Rattle.std.proofs.lemmas.Map.Iter.{rest_more}
use Rattle.iocm_model.specs.Machine.Record.{PathRecord}
use Rattle.iocm_model.specs.Machine.Configuration.{records_of}
use Rattle.iocm_list.specs.declared.path_row.PathRow.{PathRow}
use Rattle.iocm_sight.specs.Connected.{as_path}
use Rattle.iocm_list.specs.PathRows.{is_path_wanted, path_row, path_rows, rows_among}
use Rattle.iocm_sight.proofs.Keeping.{paths_of_kind}
use Rattle.iocm_list.proofs.Rows.{next_row}
use Rattle.iocm_list.proofs.path_row.path_rows.Goals as goal

pub loop-entry-init : goal.loop-entry-init
loop-entry-init c =
    let w = c.args.filters.now in
    let records = c.args.config.now.records in
    ap (λ (l : List PathRow). l ++ rows_among w records c.into_iter-entry-iterator.result) c.new-rows.ensures.items
    ∙ ap (rows_among w records) (c.into_iter-entry-iterator.ensures.into_iter_gives
    ∙ c.records_of_kind-entry-items.ensures.records)
    ∙ ap (λ (xs : List PathRecord). map (path_row records) (filter (is_path_wanted w records) xs))
    (paths_of_kind (records_of records))

pub loop-entry-preserved : goal.loop-entry-preserved
loop-entry-preserved c =
    let w = c.args.filters.now in
    let records = c.args.config.now.records in
    let front = c.loop-entry.rows.items in
    next_row as_path (is_path_wanted w records) (path_row records) front c.put_record.new.rows.items
    c.in-Some.entry.now c.next.new.self c.loop-entry.entry-iterator (path_rows w records)
    (c.in_ok-put_record.ensures
    ∙ (λ i. front ++ rows_among (c.in_ok-listing.ensures.filters i) (c.in_ok-listing.ensures.records i)
    (c.in-Some.entry.now ∷ [])))
    (rest_more _ _ _ _ c.in-Some.entry c.in-Some.is c.next.ensures.steps)
    c.loop-entry.invariant
