-- The records of a configuration, as values: what is read from a deck, checked, changed and
-- written.
use Rattle.std.specs.Prelude.{ℕ, List, Option}
use Rattle.iocm_types.specs.declared.css_path.CssPath.{CssPath}
use Rattle.iocm_types.specs.declared.link.CssLink.{CssLink}
use Rattle.iocm_types.specs.declared.path_kind.PathKind.{PathKind}
use Rattle.iocm_types.specs.declared.unit_range.UnitRange.{UnitRange}
use Rattle.iocm_types.specs.declared.key.Key.{Key}
use Rattle.iocm_types.specs.declared.key.Key.TheVariants.{Id, Resource, Image, Limit, Path, Unit, Device, Online}

-- an operand that is carried along as it stands: its text, under a keyword or bare
pub record CarriedOperand : Type 0 where
  pub keyword : Option (List ℕ)
  pub text : List ℕ

-- an image: its channel subsystem, its MIF image ID there and its name
pub record ImageRecord : Type 0 where
  pub css : ℕ
  pub mif : ℕ
  pub name : List ℕ

-- below which number the subchannels of a set stay in a channel subsystem
pub record LimitRecord : Type 0 where
  pub css : ℕ
  pub set : ℕ
  pub limit : ℕ

-- a channel path: how it is used, and the names of the images in its access and its candidate list,
-- each list ascending with each name once
pub record PathRecord : Type 0 where
  pub css : ℕ
  pub number : ℕ
  pub kind : PathKind
  pub access : List (List ℕ)
  pub candidates : List (List ℕ)
  pub carried : List CarriedOperand

-- a control unit: its paths and their links in the order of the text with channel subsystems
-- ascending, its ranges of unit addresses, and its CUADD
pub record UnitRecord : Type 0 where
  pub number : ℕ
  pub paths : List CssPath
  pub ranges : List UnitRange
  pub links : List CssLink
  pub cuadd : Option ℕ
  pub carried : List CarriedOperand

-- a device: its control units in their order, its unit address, and the names of its candidates,
-- ascending with each once, where it lists them
pub record DeviceRecord : Type 0 where
  pub set : ℕ
  pub number : ℕ
  pub units : List ℕ
  pub unit_address : ℕ
  pub candidates : Option (List (List ℕ))
  pub carried : List CarriedOperand

-- that a channel path is online to the image of a name
pub record OnlineRecord : Type 0 where
  pub css : ℕ
  pub path : ℕ
  pub name : List ℕ

-- the eight kinds of records; those of ID and RESOURCE have what their statements carry
pub data Rec : Type 0 where
  id : List CarriedOperand → Rec
  resource : List CarriedOperand → Rec
  image : ImageRecord → Rec
  limit : LimitRecord → Rec
  path : PathRecord → Rec
  unit : UnitRecord → Rec
  device : DeviceRecord → Rec
  online : OnlineRecord → Rec

-- the key that a record stands under
abbrev pub key_of : Rec → Key
key_of (id carried) = Id
key_of (resource carried) = Resource
key_of (image r) = Image r.css r.mif
key_of (limit r) = Limit r.css r.set
key_of (path r) = Path r.css r.number
key_of (unit r) = Unit r.number
key_of (device r) = Device r.set r.number
key_of (online r) = Online r.css r.path r.name
