-- Before the first record all are left.
use Rattle.std.proofs.Common.{◌++◌, List, filter, map, ap, ◌∙◌}
use Rattle.std.specs.List.{list_any}
use Rattle.iocm_model.specs.Machine.Record.{ImageRecord}
use Rattle.iocm_model.specs.Machine.Configuration.{records_of}
use Rattle.iocm_sight.specs.declared.asked.AskedImage.{AskedImage}
use Rattle.iocm_sight.specs.Connected.{asked_among, means_image, named_in}
use Rattle.iocm_sight.proofs.Keeping.{images_of_kind}
use Rattle.iocm_sight.proofs.asked.asked_images.Goals as goal

pub loop-entry-init : goal.loop-entry-init
loop-entry-init c =
    let w = c.args.filters.now in
    ap (λ (l : List AskedImage). l ++ asked_among w c.into_iter-entry-iterator.result) c.new-images.ensures.items
    ∙ ap (asked_among w) (c.into_iter-entry-iterator.ensures.into_iter_gives
    ∙ c.records_of_kind-entry-items.ensures.records)
    ∙ ap (λ (is : List ImageRecord). map named_in (filter (λ i. list_any (means_image i) w.images) is))
    (images_of_kind (records_of c.args.config.now.records))
