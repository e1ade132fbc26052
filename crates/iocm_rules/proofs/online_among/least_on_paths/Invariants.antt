-- The least so far, with what the keys that are left give, is the least of all.
use Rattle.std.proofs.Common.{◌≡◌, None, drop}
use Rattle.iocm_types.specs.Naming.{naming_cmp}
use Rattle.iocm_table.specs.Slots.{rows}
use Rattle.iocm_model.specs.Machine.Configuration.{lookup_of}
use Rattle.iocm_model.specs.Rules.EachRule.{breaks_v4}
use Rattle.iocm_lookup.specs.Among.{least_of}
use Rattle.iocm_rules.specs.Onlines.{first_on_path}
use Rattle.iocm_rules.proofs.online_among.least_on_paths.Given as goal

abbrev pub invariant-loop-key : goal.invariant-loop-key
invariant-loop-key g l =
    least_of (first_on_path (breaks_v4 l.config.records) (lookup_of l.config.records) (rows naming_cmp l.index)) l.least
    (drop l.key-index l.keys)
    ≡ least_of (first_on_path (breaks_v4 l.config.records) (lookup_of l.config.records) (rows naming_cmp l.index)) None
    l.keys
