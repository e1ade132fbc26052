-- What is written of an operand is read again. Each law says so of every value that the operand can
-- have.
use Rattle.std.specs.Prelude.{◌≡◌, ◌≢◌, ℕ, ◌+◌, ◌<◌, ◌≤◌, Bool, true, Some, List, [], All, map, filter, ◌==◌}
use Rattle.std.specs.List.Sorted.{IsStrictlyIncreasing}
use Rattle.iocm_types.specs.declared.css_path.CssPath.{CssPath}
use Rattle.iocm_types.specs.declared.link.CssLink.{CssLink}
use Rattle.iocm_types.specs.declared.link.Link.{Link}
use Rattle.iocm_types.specs.declared.link.Link.TheVariants as link
use Rattle.iocm_types.specs.declared.unit_range.UnitRange.{UnitRange}
use Rattle.iocm_types.specs.Name.{is_name}
use Rattle.iocm_types.specs.Print.{hex1, hex2, hex4}
use Rattle.iocm_model.specs.Machine.Record.{ImageRecord, LimitRecord}
use Rattle.iocm_values.specs.CssLists.{in_css_order}
use Rattle.iocm_values.specs.NameSet.{name_set, names_text}
use Rattle.iocm_values.specs.Value.{value}
use Rattle.iocm_operands.specs.declared.device.Devices.{Devices}
use Rattle.iocm_operands.specs.ChpidPath.{path_of, path_text}
use Rattle.iocm_operands.specs.ChpidPartition.{partition_of, partition_text}
use Rattle.iocm_operands.specs.Device.{candidates_of, devices_of, devices_text, units_of}
use Rattle.iocm_operands.specs.Device.{units_text, first_address, set_of}
use Rattle.iocm_operands.specs.Limits.{limits_of, limits_text}
use Rattle.iocm_operands.specs.Resource.{images_of, images_text}
use Rattle.iocm_operands.specs.Unit.{number_of, cuadd_of, ranges_of, ranges_text}
use Rattle.iocm_operands.specs.Unit.{paths_of, paths_text, links_of, links_text}

-- a path of a channel subsystem 0 to 5, with a number up to FF
pub record IsPath (p : CssPath) : Type 0 where
  pub css : p.css < 6
  pub path : p.path < 256

-- PATH of CHPID
abbrev pub ReadsPathAgain : Type 0
ReadsPathAgain = (p : CssPath) → IsPath p → path_of (value (path_text p)) ≡ Some p

-- the number of a control unit, up to FFFE
abbrev pub ReadsNumberAgain : Type 0
ReadsNumberAgain = (number : ℕ) → number ≤ 65534 → number_of (value (hex4 number)) ≡ Some number

-- CUADD, up to FF
abbrev pub ReadsCuaddAgain : Type 0
ReadsCuaddAgain = (address : ℕ) → address < 256 → cuadd_of (value (hex2 address)) ≡ Some address

-- UNITADD of IODEVICE: the address of the first of so many devices, up to FF; the last one's is not
-- past FF
abbrev pub ReadsFirstAddressAgain : Type 0
ReadsFirstAddressAgain = (count first : ℕ) → first < 256 → first + count ≤ 256
    → first_address count (value (hex2 first)) ≡ Some first

-- SCHSET, 0 to 3
abbrev pub ReadsSetAgain : Type 0
ReadsSetAgain = (set : ℕ) → set ≤ 3 → set_of (value (hex1 set)) ≡ Some set

-- 1 to 4096 devices, the last one not past FFFF
pub record AreDevices (d : Devices) : Type 0 where
  pub some : 1 ≤ d.count
  pub most : d.count ≤ 4096
  pub last : d.first + d.count ≤ 65536

-- ADDRESS of IODEVICE
abbrev pub ReadsDevicesAgain : Type 0
ReadsDevicesAgain = (d : Devices) → AreDevices d → devices_of (value (devices_text d)) ≡ Some d

-- CUNUMBR of IODEVICE: a unit or more, in their order
abbrev pub ReadsUnitsAgain : Type 0
ReadsUnitsAgain = (units : List ℕ) → units ≢ [] → All (λ unit. unit ≤ 65534) units
    → units_of (value (units_text units)) ≡ Some units

-- 1 to 256 unit addresses, the first up to FF
pub record IsRange (r : UnitRange) : Type 0 where
  pub start : r.start < 256
  pub some : 1 ≤ r.count
  pub most : r.count ≤ 256

-- UNITADD of CNTLUNIT: a range or more, in their order
abbrev pub ReadsRangesAgain : Type 0
ReadsRangesAgain = (ranges : List UnitRange) → ranges ≢ [] → All IsRange ranges
    → ranges_of (value (ranges_text ranges)) ≡ Some ranges

-- a set of names: names, ascending, each once
pub record IsNameSet (names : List (List ℕ)) : Type 0 where
  pub ascending : name_set names ≡ names
  pub each : All (λ name. is_name name ≡ true) names

-- PARTITION of IODEVICE
abbrev pub ReadsCandidatesAgain : Type 0
ReadsCandidatesAgain = (names : List (List ℕ)) → IsNameSet names → candidates_of (value (names_text names)) ≡ Some names

-- PARTITION of CHPID, whichever channel subsystem the path is of
abbrev pub ReadsPartitionAgain : Type 0
ReadsPartitionAgain = (css : ℕ) (access candidates : List (List ℕ)) (is_reconfigurable : Bool)
    → IsNameSet access → IsNameSet candidates
    → partition_of css (value (partition_text access candidates is_reconfigurable))
    ≡ Some (record { access = access; candidates = Some candidates; is_reconfigurable = is_reconfigurable })

-- items of channel subsystems: there is one, and the channel subsystems ascend
pub record AreByCss {A : Type 0} (css_of : A → ℕ) (Is : A → Type 0) (xs : List A) : Type 0 where
  pub some : xs ≢ []
  pub each : All Is xs
  pub ascending : in_css_order css_of xs ≡ xs

-- PATH of CNTLUNIT, in the order of the paths of each channel subsystem
abbrev pub ReadsPathsAgain : Type 0
ReadsPathsAgain = (paths : List CssPath) → AreByCss (λ (p : CssPath). p.css) IsPath paths
    → paths_of (value (paths_text paths)) ≡ Some paths

-- a link of two digits is up to FF, one of four digits up to FFFF
abbrev pub IsWithinDigits : Link → Type 0
IsWithinDigits link.None = Unit {0}
IsWithinDigits (link.Short n) = n < 256
IsWithinDigits (link.Long n) = n < 65536

-- a link of a channel subsystem 0 to 5
pub record IsLink (l : CssLink) : Type 0 where
  pub css : l.css < 6
  pub link : IsWithinDigits l.link

-- LINK of CNTLUNIT, in the order of the links of each channel subsystem
abbrev pub ReadsLinksAgain : Type 0
ReadsLinksAgain = (links : List CssLink) → AreByCss (λ (l : CssLink). l.css) IsLink links
    → links_of (value (links_text links)) ≡ Some links

-- an image of a channel subsystem 0 to 5, with a MIF image ID 1 to F and a name
pub record IsImage (i : ImageRecord) : Type 0 where
  pub css : i.css < 6
  pub some : 1 ≤ i.mif
  pub most : i.mif ≤ 15
  pub name : is_name i.name ≡ true

-- PARTITION of RESOURCE, in the order of the images of each channel subsystem
abbrev pub ReadsImagesAgain : Type 0
ReadsImagesAgain = (images : List ImageRecord) → AreByCss (λ (i : ImageRecord). i.css) IsImage images
    → images_of (value (images_text images)) ≡ Some images

-- a limit, up to 65535, of a subchannel set 0 to 3 in a channel subsystem 0 to 5
pub record IsLimit (l : LimitRecord) : Type 0 where
  pub css : l.css < 6
  pub set : l.set < 4
  pub limit : l.limit < 65536

-- limits: the channel subsystems ascend, and in each the sets ascend, with one limit a set
pub record AreLimits (limits : List LimitRecord) : Type 0 where
  pub by_css : AreByCss (λ (l : LimitRecord). l.css) IsLimit limits
  pub sets : (css : ℕ) → css < 6
      → IsStrictlyIncreasing
      (map (λ (l : LimitRecord). l.set) (filter (λ (l : LimitRecord). l.css == css) limits))

-- MAXDEV of RESOURCE
abbrev pub ReadsLimitsAgain : Type 0
ReadsLimitsAgain = (limits : List LimitRecord) → AreLimits limits → limits_of (value (limits_text limits)) ≡ Some limits
