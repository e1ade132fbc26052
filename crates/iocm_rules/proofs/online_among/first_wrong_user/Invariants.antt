-- The first among the users that are left is the first of all.
use Rattle.std.proofs.Common.{◌≡◌}
use Rattle.iocm_types.specs.declared.key.Key.TheVariants.{Path}
use Rattle.iocm_types.specs.declared.named.Named.TheVariants.{Record}
use Rattle.iocm_types.specs.Naming.{naming_cmp}
use Rattle.iocm_table.specs.Slots.{rows}
use Rattle.iocm_index.specs.Namings.{users_in}
use Rattle.iocm_model.specs.Machine.Configuration.{lookup_of}
use Rattle.iocm_model.specs.Rules.EachRule.{breaks_v4}
use Rattle.iocm_rules.specs.Onlines.{first_so}
use Rattle.iocm_rules.proofs.online_among.first_wrong_user.Given as goal

abbrev pub invariant-loop-user : goal.invariant-loop-user
invariant-loop-user g l = first_so (breaks_v4 l.config.records) (lookup_of l.config.records) l.user-iterator
    ≡ first_so (breaks_v4 l.config.records) (lookup_of l.config.records)
    (users_in (Record (Path l.fn.css l.fn.path)) (rows naming_cmp l.index))
