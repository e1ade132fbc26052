-- The index of a configuration: who names whom in it.
use Rattle.std.specs.Prelude.{◌≡◌, Bool, false, Option, None, Some}
use Rattle.std.specs.List.{list_any}
use Rattle.std.specs.Ordering.{eq_by_cmp}
use Rattle.iocm_types.specs.declared.named.Named.{Named}
use Rattle.iocm_types.specs.declared.naming.Naming.{Naming}
use Rattle.iocm_types.specs.Naming.{named_cmp}
use Rattle.iocm_table.specs.Slots.{Stored}
use Rattle.iocm_model.specs.Machine.Record.{Rec}
use Rattle.iocm_model.specs.Machine.Naming.{named_by}
use Rattle.iocm_model.specs.Machine.Configuration.{Configuration, lookup_of}
use Rattle.iocm_index.specs.Namings.{is_linked}

-- a record, if there is one, names a thing
abbrev pub names : Named → Option Rec → Bool
names thing None = false
names thing (Some r) = list_any (eq_by_cmp named_cmp thing) (named_by r)

-- a naming is in the index exactly where the record of its user is in the configuration and names
-- its thing
abbrev pub IsIndexOf : Configuration → Stored Naming (Unit {0}) → Type 0
IsIndexOf c t = (n : Naming) → is_linked t n ≡ names n.named (lookup_of c n.user)
