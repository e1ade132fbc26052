-- What a reader gives is a value that its operand can have: the conditions of the laws in Again
-- hold of whatever is read.
use Rattle.std.specs.Prelude.{◌≡◌, ◌≢◌, ℕ, ◌+◌, ◌<◌, ◌≤◌, Some, List, [], All}
use Rattle.iocm_types.specs.declared.css_path.CssPath.{CssPath}
use Rattle.iocm_types.specs.declared.link.CssLink.{CssLink}
use Rattle.iocm_types.specs.declared.unit_range.UnitRange.{UnitRange}
use Rattle.iocm_model.specs.Machine.Record.{ImageRecord, LimitRecord}
use Rattle.iocm_values.specs.Value.{Value}
use Rattle.iocm_operands.specs.declared.chpid_partition.Partition.{Partition}
use Rattle.iocm_operands.specs.declared.device.Devices.{Devices}
use Rattle.iocm_operands.specs.Again.{IsPath, AreDevices, IsRange, IsNameSet, AreByCss, IsLink, IsImage, AreLimits}
use Rattle.iocm_operands.specs.ChpidPartition.{partition_of}
use Rattle.iocm_operands.specs.ChpidPath.{path_of}
use Rattle.iocm_operands.specs.Device.{candidates_of, devices_of, units_of, first_address, set_of}
use Rattle.iocm_operands.specs.Limits.{limits_of}
use Rattle.iocm_operands.specs.Resource.{images_of}
use Rattle.iocm_operands.specs.Unit.{number_of, cuadd_of, ranges_of, paths_of, links_of}

-- PATH of CHPID
abbrev pub GivesPath : Type 0
GivesPath = (v : Value) (p : CssPath) → path_of v ≡ Some p → IsPath p

-- the number of a control unit
abbrev pub GivesNumber : Type 0
GivesNumber = (v : Value) (number : ℕ) → number_of v ≡ Some number → number ≤ 65534

-- CUADD
abbrev pub GivesCuadd : Type 0
GivesCuadd = (v : Value) (address : ℕ) → cuadd_of v ≡ Some address → address < 256

-- UNITADD of IODEVICE
abbrev pub GivesFirstAddress : Type 0
GivesFirstAddress = (count : ℕ) (v : Value) (first : ℕ) → first_address count v ≡ Some first
    → (first < 256) × (first + count ≤ 256)

-- SCHSET
abbrev pub GivesSet : Type 0
GivesSet = (v : Value) (set : ℕ) → set_of v ≡ Some set → set ≤ 3

-- ADDRESS of IODEVICE
abbrev pub GivesDevices : Type 0
GivesDevices = (v : Value) (d : Devices) → devices_of v ≡ Some d → AreDevices d

-- CUNUMBR of IODEVICE
abbrev pub GivesUnits : Type 0
GivesUnits = (v : Value) (units : List ℕ) → units_of v ≡ Some units → (units ≢ []) × All (λ unit. unit ≤ 65534) units

-- UNITADD of CNTLUNIT
abbrev pub GivesRanges : Type 0
GivesRanges = (v : Value) (ranges : List UnitRange) → ranges_of v ≡ Some ranges → (ranges ≢ []) × All IsRange ranges

-- PARTITION of IODEVICE
abbrev pub GivesCandidates : Type 0
GivesCandidates = (v : Value) (names : List (List ℕ)) → candidates_of v ≡ Some names → IsNameSet names

-- the access list and the candidate list, if there is one, are sets of names
pub record HasNameSets (p : Partition) : Type 0 where
  pub access : IsNameSet p.access
  pub candidates : (names : List (List ℕ)) → p.candidates ≡ Some names → IsNameSet names

-- PARTITION of CHPID
abbrev pub GivesPartition : Type 0
GivesPartition = (css : ℕ) (v : Value) (p : Partition) → partition_of css v ≡ Some p → HasNameSets p

-- PATH of CNTLUNIT
abbrev pub GivesPaths : Type 0
GivesPaths = (v : Value) (paths : List CssPath) → paths_of v ≡ Some paths
    → AreByCss (λ (p : CssPath). p.css) IsPath paths

-- LINK of CNTLUNIT
abbrev pub GivesLinks : Type 0
GivesLinks = (v : Value) (links : List CssLink) → links_of v ≡ Some links
    → AreByCss (λ (l : CssLink). l.css) IsLink links

-- PARTITION of RESOURCE, where (*,digit) gives no image: there may be none
abbrev pub GivesImages : Type 0
GivesImages = (v : Value) (images : List ImageRecord) → images_of v ≡ Some images → images ≢ []
    → AreByCss (λ (i : ImageRecord). i.css) IsImage images

-- MAXDEV of RESOURCE, where an empty place gives no limit: there may be none
abbrev pub GivesLimits : Type 0
GivesLimits = (v : Value) (limits : List LimitRecord) → limits_of v ≡ Some limits → limits ≢ [] → AreLimits limits
