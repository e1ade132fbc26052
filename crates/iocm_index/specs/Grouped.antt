-- Namings apart by what they name.
use Rattle.std.specs.Prelude.{Bool, true, false, not}
use Rattle.iocm_types.specs.declared.named.Named.{Named}
use Rattle.iocm_types.specs.declared.named.Named.TheVariants.{Record}
use Rattle.iocm_types.specs.declared.naming.Naming.{Naming}

-- a record is named, and not an image or a unit address
abbrev pub is_record : Named → Bool
is_record (Record key) = true
is_record _ = false

-- a naming is of a record (true), or of anything else (false)
abbrev pub is_in_group : Bool → Naming → Bool
is_in_group true naming = is_record naming.named
is_in_group false naming = not (is_record naming.named)
