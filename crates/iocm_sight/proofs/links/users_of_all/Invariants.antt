-- The users of the control units so far.
use Rattle.std.proofs.Common.{◌≡◌, take}
use Rattle.std.specs.List.{flat_map}
use Rattle.iocm_types.specs.declared.key.Key.TheVariants as key
use Rattle.iocm_types.specs.declared.named.Named.TheVariants as thing
use Rattle.iocm_types.specs.Naming.{naming_cmp}
use Rattle.iocm_table.specs.Slots.{rows}
use Rattle.iocm_index.specs.Namings.{users_in}
use Rattle.iocm_sight.proofs.links.users_of_all.Given as goal

abbrev pub invariant-loop-unit : goal.invariant-loop-unit
invariant-loop-unit l = l.keys.items
    ≡ flat_map (λ unit. users_in (thing.Record (key.Unit unit)) (rows naming_cmp l.index)) (take l.unit-index l.units)
