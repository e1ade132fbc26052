use Rattle.std.proofs.Common.{◌++◌, [], ◌∷◌, ap, sym, ◌∙◌}
use Rattle.iocm_record.specs.Meaning.{record_of}
use Rattle.iocm_list.proofs.OneMore.{listed_row}
use Rattle.iocm_list.proofs.image_list.put_row.Goals as goal

pub returns-in_ok-push : goal.returns-in_ok-push
returns-in_ok-push c =
    let w = c.args.listed.now.filters.now in
    let m = c.args.listed.now.config.now.records in
    let front = c.args.rows.now.items in
    c.in_ok-push.ensures.items
    ∙ ap (λ row. front ++ row ∷ []) c.in_ok-image_row.ensures
    ∙ ap (λ rows. front ++ rows) (sym (listed_row w m
    (record { css = c.in-Image.css; mif = c.in-Image.mif; name = c.in-Image.name }) c.args.entry.now
    (sym c.body.ensures ∙ ap record_of c.in-Image.is) (sym c.is_listed.ensures ∙ c.if-is_listed.true)))
