-- The control units among the users of the path.
use Rattle.std.proofs.Common.{◌≡◌, ◌∙◌}
use Rattle.std.proofs.lemmas.Result.{IfOk-weaker}
use Rattle.std.specs.List.{filter_map}
use Rattle.iocm_types.specs.declared.key.Key.TheVariants as key
use Rattle.iocm_types.specs.declared.named.Named.TheVariants as thing
use Rattle.iocm_types.specs.Naming.{naming_cmp}
use Rattle.iocm_table.specs.Slots.{rows}
use Rattle.iocm_index.specs.Namings.{users_in}
use Rattle.iocm_sight.specs.Connected.{unit_number, units_of_path}
use Rattle.iocm_sight.proofs.Connecting.{units_are}
use Rattle.iocm_sight.proofs.links.units_of_path.Goals as goal

pub returns : goal.returns
returns c =
    let listing = c.args.listing.now in
    IfOk-weaker c.units_among.result
    (λ units. units.items ≡ filter_map unit_number
    (users_in (thing.Record (key.Path c.args.css c.args.path)) (rows naming_cmp listing.index)))
    (λ units. units.items ≡ units_of_path listing.config.now.records c.args.css c.args.path)
    (λ units is. is ∙ units_are listing.config.now.records listing.index c.has_own_keys.ensures listing.indexed
    c.args.css c.args.path)
    c.units_among.ensures
