use Rattle.std.proofs.Common.{codes, filter, ap, ◌∙◌}
use Rattle.std.specs.List.{filter_map}
use Rattle.iocm_model.specs.Machine.Configuration.{as_image, lookup_of, records_of}
use Rattle.iocm_model.specs.Machine.Record.{DeviceRecord}
use Rattle.iocm_sight.specs.Seen.{paths_by, seen_from}
use Rattle.iocm_list.specs.Texts.{carried_text}
use Rattle.iocm_sight.specs.WantedRows.{wants_image}
use Rattle.iocm_sight.proofs.Sights.{seen_by_sights}
use Rattle.iocm_list.proofs.device_list.device_row.Goals as goal

pub returns-clause-row : goal.returns-clause-row
returns-clause-row c =
    let w = c.args.filters.now in
    let m = c.args.config.now.records in
    let first = c.first-first.ensures in
    let units = c.units-units.ensures ∙ ap (λ (d : DeviceRecord). d.units) first in
    let text = c.in_ok-carried_text.ensures ∙ ap (carried_text (codes "UNIT")) c.carried.ensures
    ∙ ap (λ (d : DeviceRecord). carried_text (codes "UNIT") d.carried) first in
    let images = c.in_ok-images.ensures.seen
    ∙ (λ j. filter_map (seen_from w (first j)) (c.requires j))
    ∙ seen_by_sights w m c.args.run.now.first (filter (wants_image w) (filter_map as_image (records_of m))) in
    λ j. record {
      set = (first j).set;
      first = (first j).number;
      count = c.count.ensures.count j;
      device_type = text j;
      units = (c.in_ok-from_slice.ensures.items ∙ units) j;
      unit_address = (first j).unit_address;
      paths = (c.in_ok-paths_by.ensures ∙ ap (paths_by (lookup_of m)) units) j;
      images = images j;
    }
