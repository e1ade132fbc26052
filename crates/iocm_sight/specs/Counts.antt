-- How many paths images have, how many devices they see, and how many subchannel numbers are taken.
-- IOCP User's Guide, RESOURCE statement (PARTITION, MAXDEV) and CHPID statement; the counts are own.
use Rattle.std.specs.Prelude.{ℕ, ◌==◌, ◌&&◌, not, Bool, false, count_ones, Option, None, Some}
use Rattle.std.specs.Prelude.{List, length, map, filter, count_by}
use Rattle.std.specs.List.{list_any, range_with_len}
use Rattle.iocm_types.specs.declared.key.Key.TheVariants.{Limit}
use Rattle.iocm_types.specs.declared.view.View.{View}
use Rattle.iocm_model.specs.Machine.Configuration.{Configuration, Lookup, lookup_of}
use Rattle.iocm_model.specs.Machine.Mask.{is_online}
use Rattle.iocm_model.specs.Machine.Numbering.{is_reached, reached_devices, sets}
use Rattle.iocm_model.specs.Machine.PathList.{unit_paths}
use Rattle.iocm_model.specs.Machine.Record.{DeviceRecord, ImageRecord}
use Rattle.iocm_model.specs.Machine.Sight.{reaches, sees}
use Rattle.iocm_model.specs.Machine.View.{view_if_seen}
use Rattle.iocm_model.specs.Rules.EachRule.{limit_or_default}
use Rattle.iocm_filter.specs.Wanted.{means_subsystem}
use Rattle.iocm_filter.specs.declared.meant.PathWord.{PathWord}
use Rattle.iocm_sight.specs.declared.counts.SeenCounts.{SeenCounts}
use Rattle.iocm_words.specs.declared.ranges.SetNumbers.{SetNumbers}

-- ---- paths

-- the numbers of all paths
unfoldable pub path_numbers : List ℕ
path_numbers = range_with_len 0 256

-- the paths that the image of a name may use, and those of them that are online to it
abbrev pub paths_of : Lookup → ℕ → List ℕ → List ℕ
paths_of c css name = filter (reaches c css name) path_numbers

abbrev pub online_of : Lookup → ℕ → List ℕ → List ℕ
online_of c css name = filter (is_online c css name) (paths_of c css name)

-- it reaches a path that is asked for; a path of a control unit that is
abbrev pub reaches_word : Lookup → ℕ → List ℕ → PathWord → Bool
reaches_word c css name word = means_subsystem word.css css && reaches c css name word.path

abbrev pub reaches_unit : Lookup → ℕ → List ℕ → ℕ → Bool
reaches_unit c css name unit = list_any (reaches c css name) (unit_paths c css unit)

-- ---- devices

-- a device is seen with so many paths online
abbrev pub has_online : ℕ → Option View → Bool
has_online n None = false
has_online n (Some v) = count_ones v.pam == n

abbrev pub sees_with : ℕ → Lookup → ImageRecord → DeviceRecord → Bool
sees_with n c i d = has_online n (view_if_seen c i.css i.name d)

-- how many of these devices an image sees, and how many of them with no path online, and with one
abbrev pub seen_counts : Lookup → ImageRecord → List DeviceRecord → SeenCounts
seen_counts c i ds = record {
  devices = count_by (sees c i.css i.name) ds;
  no_path = count_by (sees_with 0 c i) ds;
  one_path = count_by (sees_with 1 c i) ds;
}

-- ---- subchannel numbers

-- a device is of a set, and a channel subsystem reaches it
abbrev pub is_in : Lookup → ℕ → ℕ → DeviceRecord → Bool
is_in c css set d = d.set == set && is_reached c css d

-- of a subchannel set: how many numbers are taken in a channel subsystem, and the limit of them there
abbrev pub set_numbers : Configuration → ℕ → ℕ → SetNumbers
set_numbers c css set = record {
  set = set;
  used = length (reached_devices c css set);
  limit = limit_or_default set (lookup_of c (Limit css set));
}

-- those of the sets that are in use there
unfoldable pub numbers_in : Configuration → ℕ → List SetNumbers
numbers_in c css = filter (λ (s : SetNumbers). not (s.used == 0)) (map (set_numbers c css) sets)
