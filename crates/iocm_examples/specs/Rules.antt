-- Which rule is broken first, and where, on the example deck with records put before it: of one key
-- the first counts.
use Rattle.std.specs.Prelude.{◌≡◌, ℕ, ◌+◌, List, [], ◌∷◌, map, None, Option, Some, codes}
use Rattle.iocm_types.specs.declared.key.Key.{Key}
use Rattle.iocm_types.specs.declared.key.Key.TheVariants.{Image, Path, Unit, Device, Online}
use Rattle.iocm_types.specs.declared.path_kind.PathKind.TheVariants.{Dedicated, Reconfigurable}
use Rattle.iocm_types.specs.declared.link.CssLink.{CssLink}
use Rattle.iocm_types.specs.declared.link.Link.{Link}
use Rattle.iocm_types.specs.declared.unit_range.UnitRange.{UnitRange}
use Rattle.iocm_types.specs.declared.rule.Rule.{Rule}
use Rattle.iocm_types.specs.declared.rule.Rule.TheVariants.{V1, V2, V3, V4, V5, V6, V7, V8, V9, V10, V11, V12, V13, V14}
use Rattle.iocm_types.specs.declared.link.Link.TheVariants as link
use Rattle.iocm_model.specs.Machine.Record.{Rec, image, limit, path, unit, device}
use Rattle.iocm_model.specs.Machine.Configuration.{configuration_of}
use Rattle.iocm_model.specs.Machine.Numbering.{opening}
use Rattle.iocm_model.specs.Rules.FirstBreach.{Breach, first_breach}
use Rattle.iocm_examples.specs.BaseDeck.{lpa, lpb, base, base_without_candidate, path_record, css_path}
use Rattle.iocm_examples.specs.BaseDeck.{device_record, online_record, shared_path, unit_on}

-- the first breach of a deck, with its numbers at opening
abbrev pub first_breach_at_opening : List Rec → Option Breach
first_breach_at_opening records = let c = configuration_of records in first_breach c (opening c)

-- a deck breaks this rule first, at this key
abbrev pub BreaksFirst : List Rec → Rule → Key → Type 0
BreaksFirst records rule key = first_breach_at_opening records ≡ Some (record { rule = rule; key = key })

-- the unit 1000 and this, on path 50 alone and with this CUADD
abbrev pub unit_apart : ℕ → Rec
unit_apart place = unit_on (0x1000 + place) (0x50 ∷ []) (Some place)

-- the example deck keeps every rule
abbrev pub BaseKeepsTheRules : Type 0
BaseKeepsTheRules = first_breach_at_opening base ≡ None

-- a path that only one image may use, and that lists two
abbrev pub two_on_a_dedicated_path : List Rec
two_on_a_dedicated_path =
    path (record {
      css = 0;
      number = 0x52;
      kind = Dedicated;
      access = lpa ∷ lpb ∷ [];
      candidates = lpa ∷ lpb ∷ [];
      carried = [];
    })
    ∷ base

abbrev pub ADedicatedPathOfTwo : Type 0
ADedicatedPathOfTwo = BreaksFirst two_on_a_dedicated_path V3 (Path 0 0x52)

-- unit 1000 on nine paths that are all there
abbrev pub nine_paths : List Rec
nine_paths =
    unit_on 0x1000 (0x50 ∷ 0x51 ∷ 0x52 ∷ 0x53 ∷ 0x54 ∷ 0x55 ∷ 0x56 ∷ 0x57 ∷ 0x58 ∷ []) None
    ∷ shared_path 0x52 ∷ shared_path 0x53 ∷ shared_path 0x54 ∷ shared_path 0x55 ∷ shared_path 0x56
    ∷ shared_path 0x57 ∷ shared_path 0x58 ∷ base

abbrev pub AUnitOnNinePaths : Type 0
AUnitOnNinePaths = BreaksFirst nine_paths V5 (Unit 0x1000)

-- a path that one image uses at a time, with two in its access list
abbrev pub two_with_access : List Rec
two_with_access =
    path (record {
      css = 0;
      number = 0x52;
      kind = Reconfigurable;
      access = lpa ∷ lpb ∷ [];
      candidates = [];
      carried = [];
    })
    ∷ base

-- nine units on one path, each but the first with a CUADD of its own, and a device of all nine
abbrev pub nine_units : List Rec
nine_units =
    device (record (device_record 0) {
      units = 0x1000 ∷ 0x1001 ∷ 0x1002 ∷ 0x1003 ∷ 0x1004 ∷ 0x1005 ∷ 0x1006 ∷ 0x1007 ∷ 0x1008 ∷ [];
    })
    ∷ unit_on 0x1000 (0x50 ∷ []) None ∷ unit_apart 1 ∷ unit_apart 2 ∷ unit_apart 3 ∷ unit_apart 4 ∷ unit_apart 5
    ∷ unit_apart 6 ∷ unit_apart 7 ∷ unit_apart 8 ∷ base

abbrev pub ADeviceOfNineUnits : Type 0
ADeviceOfNineUnits = BreaksFirst nine_units V8 (Device 0 0x1000)

-- a limit of three subchannels for four devices: the device with the number 3 is beyond it
abbrev pub limit_of_three : List Rec
limit_of_three = limit (record { css = 0; set = 0; limit = 3 }) ∷ base

abbrev pub ALimitOfThree : Type 0
ALimitOfThree = BreaksFirst limit_of_three V13 (Device 0 0x1003)

-- a name that no image has
abbrev pub nobody : List ℕ
nobody = codes "LPX"

-- an image of the name LPA in a second channel subsystem
abbrev pub name_used_again : List Rec
name_used_again = image (record { css = 1; mif = 1; name = lpa }) ∷ base

-- a path that lists a name that no image has
abbrev pub path_of_nobody : List Rec
path_of_nobody = path_record 0x52 (lpa ∷ []) (nobody ∷ []) ∷ base

-- a path that is online to an image that it doesn't list
abbrev pub online_without_access : List Rec
online_without_access = online_record 0x51 lpb ∷ base_without_candidate

-- a path that one image uses at a time, online to two
abbrev pub online_to_two : List Rec
online_to_two =
    path (record {
      css = 0;
      number = 0x52;
      kind = Reconfigurable;
      access = lpa ∷ [];
      candidates = lpb ∷ [];
      carried = [];
    })
    ∷ online_record 0x52 lpa ∷ online_record 0x52 lpb ∷ base

-- the unit without a path, and with one path twice
abbrev pub no_path : List Rec
no_path = unit_on 0x1000 [] None ∷ base

abbrev pub one_path_twice : List Rec
one_path_twice = unit_on 0x1000 (0x50 ∷ 0x50 ∷ []) None ∷ base

-- the unit with these ranges and links, on both paths
abbrev pub unit_with : List UnitRange → List CssLink → List Rec
unit_with ranges links =
    unit (record {
      number = 0x1000;
      paths = map css_path (0x50 ∷ 0x51 ∷ []);
      ranges = ranges;
      links = links;
      cuadd = None;
      carried = [];
    })
    ∷ base

-- one link for two paths
abbrev pub one_link : List Rec
one_link = unit_with (record { start = 0; count = 16 } ∷ []) (record { css = 0; link = link.Short 1 } ∷ [])

-- a range that passes FF
abbrev pub range_past_the_end : List Rec
range_past_the_end = unit_with (record { start = 0xF8; count = 16 } ∷ []) []

-- device 1003 with a unit address that the unit hasn't, and with that of 1000
abbrev pub address_out_of_range : List Rec
address_out_of_range = device (record (device_record 3) { unit_address = 0x10 }) ∷ base

abbrev pub address_used_again : List Rec
address_used_again = device (record (device_record 3) { unit_address = 0 }) ∷ base

-- device 1000 on two units that share path 51
abbrev pub path_by_two_units : List Rec
path_by_two_units =
    device (record (device_record 0) { units = 0x1000 ∷ 0x1001 ∷ [] }) ∷ unit_on 0x1001 (0x51 ∷ []) (Some 1)
    ∷ base

-- device 1000 with a candidate that is no image
abbrev pub candidate_is_nobody : List Rec
candidate_is_nobody = device (record (device_record 0) { candidates = Some (nobody ∷ []) }) ∷ base

-- a second unit that answers to the same unit addresses on path 50
abbrev pub answered_by_two : List Rec
answered_by_two = unit_on 0x1001 (0x50 ∷ []) None ∷ base

-- a second unit on path 50 with this link, where the first has the links 01 and 02 of two digits
abbrev pub linked_to : Link → List Rec
linked_to l = unit (record {
  number = 0x1001;
  paths = css_path 0x50 ∷ [];
  ranges = record { start = 0; count = 16 } ∷ [];
  links = record { css = 0; link = l } ∷ [];
  cuadd = None;
  carried = [];
}) ∷ unit_with (record { start = 0; count = 16 } ∷ [])
    (record { css = 0; link = link.Short 1 } ∷ record { css = 0; link = link.Short 2 } ∷ [])

-- the other rules, each where it is the first that is broken
pub record TheOtherRules : Type 0 where
  pub v1 : BreaksFirst name_used_again V1 (Image 1 1)
  pub v2 : BreaksFirst path_of_nobody V2 (Path 0 0x52)
  pub v3 : BreaksFirst two_with_access V3 (Path 0 0x52)
  pub v4_access : BreaksFirst online_without_access V4 (Online 0 0x51 lpb)
  pub v4_exclusive : BreaksFirst online_to_two V4 (Online 0 0x52 lpb)
  pub v5_none : BreaksFirst no_path V5 (Unit 0x1000)
  pub v5_twice : BreaksFirst one_path_twice V5 (Unit 0x1000)
  pub v6 : BreaksFirst one_link V6 (Unit 0x1000)
  pub v7 : BreaksFirst range_past_the_end V7 (Unit 0x1000)
  pub v9 : BreaksFirst address_out_of_range V9 (Device 0 0x1003)
  pub v10 : BreaksFirst address_used_again V10 (Device 0 0x1003)
  pub v11 : BreaksFirst path_by_two_units V11 (Device 0 0x1000)
  pub v12 : BreaksFirst candidate_is_nobody V12 (Device 0 0x1000)
  pub v14 : BreaksFirst answered_by_two V14 (Unit 0x1001)
  pub v14_link : BreaksFirst (linked_to (link.Short 1)) V14 (Unit 0x1001)

-- at the bound: a unit on eight paths, a limit of four, a range up to FF; and two units on one path
-- with two links
abbrev pub eight_paths : List Rec
eight_paths =
    unit_on 0x1000 (0x50 ∷ 0x51 ∷ 0x52 ∷ 0x53 ∷ 0x54 ∷ 0x55 ∷ 0x56 ∷ 0x57 ∷ []) None
    ∷ shared_path 0x52 ∷ shared_path 0x53 ∷ shared_path 0x54 ∷ shared_path 0x55 ∷ shared_path 0x56
    ∷ shared_path 0x57 ∷ base

abbrev pub limit_of_four : List Rec
limit_of_four = limit (record { css = 0; set = 0; limit = 4 }) ∷ base

abbrev pub range_to_the_end : List Rec
range_to_the_end = unit_with (record { start = 0; count = 16 } ∷ record { start = 0xF0; count = 16 } ∷ []) []

-- a device with the unit address of 1000, on another unit with a CUADD of its own
abbrev pub address_on_another_unit : List Rec
address_on_another_unit =
    device (record (device_record 0) { number = 0x2000; units = 0x1001 ∷ [] })
    ∷ unit_on 0x1001 (0x51 ∷ []) (Some 1) ∷ base

-- there no rule is broken
pub record AtTheBounds : Type 0 where
  pub paths : first_breach_at_opening eight_paths ≡ None
  pub limit : first_breach_at_opening limit_of_four ≡ None
  pub range : first_breach_at_opening range_to_the_end ≡ None
  pub other_link : first_breach_at_opening (linked_to (link.Short 3)) ≡ None
  pub long_link : first_breach_at_opening (linked_to (link.Long 1)) ≡ None
  pub other_unit : first_breach_at_opening address_on_another_unit ≡ None
