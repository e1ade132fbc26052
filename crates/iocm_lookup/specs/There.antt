-- Records of a configuration that were found in it.
use Rattle.std.specs.Prelude.{◌≡◌, Some}
use Rattle.iocm_model.specs.Machine.Configuration.{Configuration, lookup_of}
use Rattle.iocm_model.specs.Machine.Record.{Rec, key_of}

-- a record is in a configuration, under its own key
abbrev pub IsThere : Configuration → Rec → Type 0
IsThere c r = lookup_of c (key_of r) ≡ Some r
