-- What is said of an image and a device at small changes, as it is worked by hand. In the example deck LPA and LPB
-- share the paths 50 and 51 of control unit 1000, which has the devices 1000 to 1003; LPB is offline on 51.
use Rattle.std.specs.Prelude.{◌≡◌, ℕ, Bool, not, if◌then◌else◌, List, [], ◌∷◌, ◌++◌, filter, None, Some, codes}
use Rattle.std.specs.FinMap.{find}
use Rattle.std.specs.Ordering.{eq_by_cmp}
use Rattle.iocm_types.specs.Key.{key_cmp}
use Rattle.iocm_types.specs.declared.key.Key.{Key}
use Rattle.iocm_types.specs.declared.key.Key.TheVariants as key
use Rattle.iocm_types.specs.declared.link.CssLink.{CssLink}
use Rattle.iocm_types.specs.declared.link.Link.{Link}
use Rattle.iocm_types.specs.declared.link.Link.TheVariants as link
use Rattle.iocm_types.specs.declared.path_kind.PathKind.TheVariants.{Shared, Reconfigurable}
use Rattle.iocm_model.specs.Machine.Configuration.{Lookup, with_keys}
use Rattle.iocm_model.specs.Machine.Record.{Rec, CarriedOperand, key_of, image, path, unit, device}
use Rattle.iocm_examples.specs.BaseDeck.{base, css_path, device_on_1000, lpa, lpb, online_record, shared_path, unit_on}
use Rattle.iocm_plan.specs.Effects.{gone, came, changed, same, lost, onepath, effect}
use Rattle.iocm_plan.specs.declared.effect.Effect.{Effect}

-- ---- changes, and what is said of them

-- a record is looked up among others; of one key the first counts
abbrev pub lookup_among : List Rec → Lookup
lookup_among rs key = find key_cmp key (with_keys rs)

abbrev pub without : Key → List Rec → List Rec
without key rs = filter (λ r. not (eq_by_cmp key_cmp key (key_of r))) rs

-- the words that hold
abbrev pub said_if : Bool → List ℕ → List (List ℕ)
said_if holds word = if holds then word ∷ [] else []

abbrev pub words_of : Effect → List (List ℕ)
words_of e =
    said_if (gone e.before e.after) (codes "gone") ++ (said_if (came e.before e.after) (codes "came")
    ++ (said_if (changed e.before e.after) (codes "changed") ++ (said_if (same e.before e.after) (codes "same")
    ++ (said_if (lost e.before e.after) (codes "lost") ++ (said_if e.interrupted (codes "interrupted")
    ++ (said_if (onepath e.before e.after) (codes "one path left") ++ said_if e.offon (codes "off and on")))))))

-- what is said of an image of channel subsystem 0 and a device of set 0
abbrev pub said_of : ℕ → ℕ → List Rec → List Rec → List (List ℕ)
said_of mif number old new =
    words_of (effect (lookup_among old) (lookup_among new) (record { css = 0; mif = mif }) 0 number)

abbrev pub of_lpa : List Rec → List Rec → List (List ℕ)
of_lpa = said_of 1 0x1002

abbrev pub of_lpb : List Rec → List Rec → List (List ℕ)
of_lpb = said_of 2 0x1002

-- ---- records that are changed

-- path 50 with an operand that is carried along, and reconfigurable
abbrev pub pchid : CarriedOperand
pchid = record { keyword = Some (codes "PCHID"); text = codes "120" }

abbrev pub path_50_on : List CarriedOperand → Rec
path_50_on carried = path (record {
  css = 0;
  number = 0x50;
  kind = Shared;
  access = lpa ∷ lpb ∷ [];
  candidates = lpa ∷ lpb ∷ [];
  carried = carried;
})

abbrev pub path_50_rec : Rec
path_50_rec = path (record {
  css = 0;
  number = 0x50;
  kind = Reconfigurable;
  access = lpa ∷ [];
  candidates = lpa ∷ [];
  carried = [];
})

-- control unit 1000 with links
abbrev pub unit_with_links : List Link → Rec
unit_with_links links = unit (record {
  number = 0x1000;
  paths = css_path 0x50 ∷ css_path 0x51 ∷ [];
  ranges = record { start = 0; count = 16 } ∷ [];
  links = linked links;
  cuadd = None;
  carried = [];
})
  where
    linked : List Link → List CssLink
    linked [] = []
    linked (l ∷ ls) = record { css = 0; link = l } ∷ linked ls

-- device 1002 on another control unit, kept from LPB, and with a device type
abbrev pub device_1002 : ℕ → List ℕ → Rec
device_1002 unit_number candidate = device (record {
  set = 0;
  number = 0x1002;
  units = unit_number ∷ [];
  unit_address = 2;
  candidates = Some (candidate ∷ []);
  carried = [];
})

abbrev pub device_with_type : Rec
device_with_type = device (record {
  set = 0;
  number = 0x1002;
  units = 0x1000 ∷ [];
  unit_address = 2;
  candidates = None;
  carried = record { keyword = Some (codes "UNIT"); text = codes "3390" } ∷ [];
})

-- LPA by the name of QUAL, on all paths on which LPA was
abbrev pub qual : List ℕ
qual = codes "QUAL"

abbrev pub path_of_qual : ℕ → List (List ℕ) → Rec
path_of_qual number access = path (record {
  css = 0;
  number = number;
  kind = Shared;
  access = access;
  candidates = lpb ∷ qual ∷ [];
  carried = [];
})

abbrev pub renamed : List Rec
renamed = image (record { css = 0; mif = 1; name = qual }) ∷ path_of_qual 0x50 (lpb ∷ qual ∷ [])
    ∷ path_of_qual 0x51 (qual ∷ []) ∷ online_record 0x50 qual ∷ online_record 0x51 qual ∷ base

-- ---- worked by hand

pub record WordsAreAsWorked : Type 0 where
  pub nothing : of_lpa base base ≡ codes "same" ∷ []
  -- a device that goes, and one that comes
  pub deleted : of_lpa base (without (key.Device 0 0x1002) base) ≡ codes "gone" ∷ codes "lost" ∷ []
  pub added : of_lpa (without (key.Device 0 0x1002) base) base ≡ codes "came" ∷ []
  -- an image that goes
  pub image_deleted : of_lpa base (without (key.Image 0 1) base) ≡ codes "gone" ∷ codes "lost" ∷ []
  -- a path that comes online, and the way back
  pub online : of_lpb base (online_record 0x51 lpb ∷ base) ≡ codes "changed" ∷ []
  pub offline : of_lpb (online_record 0x51 lpb ∷ base) base ≡ codes "changed" ∷ codes "one path left" ∷ []
  -- the last path goes offline: the device is still seen
  pub last_path : of_lpb base (without (key.Online 0 0x50 lpb) base) ≡ codes "changed" ∷ codes "lost" ∷ []
  -- a device that its candidates keep from an image
  pub kept_away : of_lpb base (device_1002 0x1000 lpa ∷ base) ≡ codes "gone" ∷ codes "lost" ∷ []
  pub kept : of_lpa base (device_1002 0x1000 lpa ∷ base) ≡ codes "same" ∷ []
  -- what no mask shows: at a path that LPA has beside another, and LPB alone
  pub channel : of_lpa base (path_50_on (pchid ∷ []) ∷ base) ≡ codes "same" ∷ codes "off and on" ∷ []
  pub only_channel : of_lpb base (path_50_on (pchid ∷ []) ∷ base)
      ≡ codes "same" ∷ codes "interrupted" ∷ codes "off and on" ∷ []
  pub other_use : of_lpa base (path_50_rec ∷ base) ≡ codes "same" ∷ codes "off and on" ∷ []
  -- CUADD 00 is none, and 01 isn't
  pub no_cuadd : of_lpa base (unit_on 0x1000 (0x50 ∷ 0x51 ∷ []) (Some 0) ∷ base) ≡ codes "same" ∷ []
  pub cuadd : of_lpa base (unit_on 0x1000 (0x50 ∷ 0x51 ∷ []) (Some 1) ∷ base)
      ≡ codes "same" ∷ codes "interrupted" ∷ codes "off and on" ∷ []
  -- a link of `**` is none, one of two digits isn't
  pub no_link : of_lpa base (unit_with_links (link.None ∷ link.None ∷ []) ∷ base) ≡ codes "same" ∷ []
  pub one_link : of_lpa base (unit_with_links (link.None ∷ link.Short 0x05 ∷ []) ∷ base)
      ≡ codes "same" ∷ codes "off and on" ∷ []
  -- paths in another order
  pub order : of_lpa base (unit_on 0x1000 (0x51 ∷ 0x50 ∷ []) None ∷ base) ≡ codes "changed" ∷ []
  -- the unit address, and the device type
  pub address : of_lpa base (device_on_1000 0x1002 0x08 ∷ base)
      ≡ codes "same" ∷ codes "interrupted" ∷ codes "off and on" ∷ []
  pub device_type : of_lpa base (device_with_type ∷ base)
      ≡ codes "same" ∷ codes "interrupted" ∷ codes "off and on" ∷ []
  -- another control unit on one of the paths, and on another path
  pub other_unit : of_lpa base (unit_on 0x2000 (0x50 ∷ []) None ∷ device_1002 0x2000 lpa ∷ base)
      ≡ codes "changed" ∷ codes "interrupted" ∷ codes "one path left" ∷ codes "off and on" ∷ []
  pub other_path : of_lpa base (shared_path 0x52 ∷ online_record 0x52 lpa ∷ unit_on 0x2000 (0x52 ∷ []) None
      ∷ device_1002 0x2000 lpa ∷ base) ≡ codes "changed" ∷ codes "interrupted" ∷ codes "one path left" ∷ []
  -- another name
  pub other_name : of_lpa base renamed ≡ codes "same" ∷ codes "interrupted" ∷ codes "off and on" ∷ []
