use Rattle.std.proofs.Common.{◌≡◌, map, take}
use Rattle.iocm_types.specs.declared.key.Key.TheVariants.{Online}
use Rattle.iocm_change_records.proofs.keys.pair_keys.Given as goal

abbrev pub invariant-loop-name : goal.invariant-loop-name
invariant-loop-name l = l.keys.items ≡ map (λ name. Online l.css l.path name) (take l.name-index l.names)
