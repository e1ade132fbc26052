-- The devices of two configurations, in runs to which a change does the same.
use Rattle.std.specs.Prelude.{ℕ, zero, suc, ◌+◌, Bool, false, not, nat_eq, ◌==◌, ◌&&◌, if◌then◌else◌, Option, None}
use Rattle.std.specs.Prelude.{Some, List, [], ◌∷◌, filter}
use Rattle.std.specs.FinMap.{entries}
use Rattle.std.specs.List.{filter_map}
use Rattle.std.specs.Option.{option_eq}
use Rattle.std.specs.Cmp.Lexicographic.{pointwise}
use Rattle.iocm_model.specs.Machine.Configuration.{Configuration, lookup_of}
use Rattle.iocm_model.specs.Machine.Record.{DeviceRecord}
use Rattle.iocm_model.specs.Machine.View.{device_record}
use Rattle.iocm_difference.specs.Same.{same_names}
use Rattle.iocm_difference.specs.Walks.{Pair, pairs_of}
use Rattle.iocm_filter.specs.Wanted.{Wanted, is_within, one_if_asked}
use Rattle.iocm_plan.specs.Routes.{is_one_device}
use Rattle.iocm_sight.specs.Connected.{device_key}
use Rattle.iocm_sight.specs.declared.devices.DeviceKey.{DeviceKey}
use Rattle.iocm_plan.specs.declared.runs.DeviceRun.{DeviceRun}

-- ---- the devices of both

-- every device of one of two configurations, or of both, in the order of keys
abbrev pub devices_of_both : Configuration → Configuration → List DeviceKey
devices_of_both c d = filter_map (λ (p : Pair). device_key p.0) (pairs_of (entries c) (entries d))

-- no device is asked for, or this one is in a range that is; the devices of both that are asked for
abbrev pub wants_key : Wanted → DeviceKey → Bool
wants_key w k = one_if_asked (is_within k.set k.number) w.devices

abbrev pub devices_asked : Wanted → Configuration → Configuration → List DeviceKey
devices_asked w c d = filter (wants_key w) (devices_of_both c d)

abbrev pub device_in : Configuration → DeviceKey → Option DeviceRecord
device_in c k = device_record (lookup_of c) k.set k.number

-- ---- alike

-- devices are seen alike: they have the same control units and the same candidates
abbrev pub is_seen_alike : DeviceRecord → DeviceRecord → Bool
is_seen_alike d e = pointwise nat_eq d.units e.units && option_eq same_names d.candidates e.candidates

-- a device is there before and after, with one unit address and the same operands
abbrev pub is_kept : Option DeviceRecord → Option DeviceRecord → Bool
is_kept (Some d) (Some e) = is_one_device d e
is_kept _ _ = false

abbrev pub same_truth : Bool → Bool → Bool
same_truth a b = if a then b else not b

-- a change from one configuration to another does the same to two devices
abbrev pub are_alike : Configuration → Configuration → DeviceKey → DeviceKey → Bool
are_alike c d k l = option_eq is_seen_alike (device_in c k) (device_in c l)
    && option_eq is_seen_alike (device_in d k) (device_in d l)
    && same_truth (is_kept (device_in c k) (device_in d k)) (is_kept (device_in c l) (device_in d l))

-- ---- runs: devices of one set that follow each other and are alike

abbrev pub alone : DeviceKey → DeviceRun
alone k = record { first = k; count = 1 }

abbrev pub with_one_more : DeviceRun → DeviceRun
with_one_more r = record { first = r.first; count = r.count + 1 }

abbrev pub continues : Configuration → Configuration → DeviceRun → DeviceKey → Bool
continues c d r k = k.set == r.first.set && k.number == r.first.number + r.count && are_alike c d r.first k

-- a run and the devices behind it: one that continues it makes it longer, another one begins a run
abbrev pub runs_from : Configuration → Configuration → DeviceRun → List DeviceKey → List DeviceRun
runs_from c d r [] = r ∷ []
runs_from c d r (k ∷ ks) =
    if continues c d r k then runs_from c d (with_one_more r) ks else r ∷ runs_from c d (alone k) ks

abbrev pub runs_among : Configuration → Configuration → List DeviceKey → List DeviceRun
runs_among c d [] = []
runs_among c d (k ∷ ks) = runs_from c d (alone k) ks

-- the runs of the devices of both that are asked for
abbrev pub runs_asked : Wanted → Configuration → Configuration → List DeviceRun
runs_asked w c d = runs_among c d (devices_asked w c d)

-- the devices of a run, one by one
abbrev pub devices_from : ℕ → ℕ → ℕ → List DeviceKey
devices_from set number zero = []
devices_from set number (suc n) = record { set = set; number = number } ∷ devices_from set (number + 1) n

abbrev pub devices_in_run : DeviceRun → List DeviceKey
devices_in_run r = devices_from r.first.set r.first.number r.count
