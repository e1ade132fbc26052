-- Devices that break a rule of a device by itself.
use Rattle.std.specs.Prelude.{◌||◌, Bool, false, is_none}
use Rattle.iocm_model.specs.Machine.Configuration.{Configuration}
use Rattle.iocm_model.specs.Machine.Record.{Rec, device}
use Rattle.iocm_model.specs.Machine.Numbering.{Numbering}
use Rattle.iocm_model.specs.Rules.EachRule.{breaks_v8, breaks_v9, breaks_v11, breaks_v12, breaks_v13}

-- a device breaks V8, V11 or V12
abbrev pub breaks_any : Configuration → Rec → Bool
breaks_any c r = breaks_v8 c r || (breaks_v11 c r || breaks_v12 c r)

-- a device breaks one of the rules of a device by itself
abbrev pub breaks_by_itself : Configuration → Numbering → Rec → Bool
breaks_by_itself c n r = breaks_v8 c r || (breaks_v9 c r || (breaks_v11 c r || (breaks_v12 c r || breaks_v13 c n r)))

-- a device lists no candidates
abbrev pub is_without_candidates : Rec → Bool
is_without_candidates (device d) = is_none d.candidates
is_without_candidates _ = false
