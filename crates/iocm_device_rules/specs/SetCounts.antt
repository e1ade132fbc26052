-- How many devices a set has, whichever channel subsystems reach them.
use Rattle.std.specs.Prelude.{ℕ, ◌==◌, nat_lt, Bool, List, filter, get_or, length}
use Rattle.std.specs.List.{filter_map, list_any}
use Rattle.iocm_model.specs.Machine.Configuration.{Configuration, as_device, lookup_of, records_of}
use Rattle.iocm_model.specs.Machine.Numbering.{sets}
use Rattle.iocm_model.specs.Machine.Record.{Rec, DeviceRecord}
use Rattle.iocm_device_rules.specs.Past.{limit_there}

-- the devices of a set among some records
abbrev pub devices_among : ℕ → List Rec → List DeviceRecord
devices_among set rs = filter (λ (d : DeviceRecord). d.set == set) (filter_map as_device rs)

abbrev pub count_among : ℕ → List Rec → ℕ
count_among set rs = length (devices_among set rs)

-- a set has more devices than its limit in a channel subsystem
abbrev pub is_set_over : Configuration → ℕ → ℕ → Bool
is_set_over c css set = nat_lt (limit_there (lookup_of c) css set) (count_among set (records_of c))

-- a limit is less than the number that is given for its set
abbrev pub is_limit_below : Configuration → List ℕ → ℕ → ℕ → Bool
is_limit_below c in_sets css set = nat_lt (limit_there (lookup_of c) css set) (get_or in_sets set 0)

-- that of some set in a channel subsystem is
abbrev pub is_limit_below_in : Configuration → List ℕ → ℕ → Bool
is_limit_below_in c in_sets css = list_any (is_limit_below c in_sets css) sets
