-- The first record of a configuration of which something holds, in the order of keys.
use Rattle.std.specs.Prelude.{Bool, Option}
use Rattle.std.specs.Option.{option_map}
use Rattle.iocm_types.specs.declared.key.Key.{Key}
use Rattle.iocm_model.specs.Machine.Configuration.{Configuration, records_of}
use Rattle.iocm_model.specs.Machine.Record.{Rec, key_of}
use Rattle.iocm_model.specs.Rules.FirstBreach.{first_record}

-- its key
abbrev pub first_key : (Rec → Bool) → Configuration → Option Key
first_key is_so c = option_map key_of (first_record is_so (records_of c))
