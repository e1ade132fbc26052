use Rattle.std.proofs.Common.{◌≡◌, map, ap, sym, ◌∙◌}
use Rattle.std.proofs.lemmas.Result.{on_ok_weaker}
use Rattle.iocm_types.specs.Key.{key_cmp}
use Rattle.iocm_table.specs.Slots.{rows}
use Rattle.iocm_model.specs.Machine.Record.{key_of, path}
use Rattle.iocm_record.specs.Meaning.{path_of, record_of}
use Rattle.iocm_reports.specs.Deck.{online_by}
use Rattle.iocm_reports.specs.Gathered.{with_pairs}
use Rattle.iocm_reports.proofs.ListedPairs.{pairs_of_path}
use Rattle.iocm_reports.proofs.deck.list_pairs.Goals as goal

pub returns-in-Path : goal.returns-in-Path
returns-in-Path c =
    let p = path_of c.deref.result.now in
    let is : path p ≡ c.args.entry.now =
    ap (λ q. path (path_of q)) c.deref.ensures ∙ ap record_of (sym c.in-Path.is) ∙ c.body.ensures in
    on_ok_weaker c.list_images.result
    (λ h. h ∙ ap (with_pairs (rows key_cmp c.args.listed.now)) (sym (pairs_of_path p) ∙ ap (λ r. map key_of (online_by r)) is))
    c.list_images.ensures
