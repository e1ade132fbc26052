-- Each clause of a rule that a deck can break by itself, and decks at the bound of such a clause,
-- as they are stated by hand.
use Rattle.std.specs.Prelude.{◌≡◌, ℕ, Bool, true, false, List, [], ◌∷◌, ◌++◌, map, None, Option, Some, codes}
use Rattle.iocm_types.specs.declared.css_path.CssPath.{CssPath}
use Rattle.iocm_types.specs.declared.key.Key.TheVariants.{Unit, Device, Online}
use Rattle.iocm_types.specs.declared.path_kind.PathKind.{PathKind}
use Rattle.iocm_types.specs.declared.path_kind.PathKind.TheVariants.{Dedicated, Shared}
use Rattle.iocm_types.specs.declared.rule.Rule.TheVariants.{V4, V7, V8, V11, V14}
use Rattle.iocm_types.specs.declared.unit_range.UnitRange.{UnitRange}
use Rattle.iocm_model.specs.Machine.Record.{Rec, image, path, unit, device}
use Rattle.iocm_model.specs.Machine.Configuration.{configuration_of}
use Rattle.iocm_model.specs.Rules.EachRule.{breaks_v4}
use Rattle.iocm_examples.specs.BaseDeck.{lpa, lpb, base, css_path, device_record, online_record, shared_path, unit_on}
use Rattle.iocm_examples.specs.Rules.{first_breach_at_opening, BreaksFirst, unit_with}

-- an image LPC of channel subsystem 1, and a path of it there
abbrev pub lpc : List ℕ
lpc = codes "LPC"

abbrev pub second_path : ℕ → Rec
second_path number =
    path (record {
      css = 1;
      number = number;
      kind = Shared;
      access = lpc ∷ [];
      candidates = lpc ∷ [];
      carried = [];
    })

abbrev pub image_lpc : Rec
image_lpc = image (record { css = 1; mif = 1; name = lpc })

-- unit 1000, or another with a CUADD, on paths of both channel subsystems
abbrev pub second_css_path : ℕ → CssPath
second_css_path number = record { css = 1; path = number }

abbrev pub unit_of_both : ℕ → List ℕ → List ℕ → Option ℕ → Rec
unit_of_both number first second cuadd = unit (record {
  number = number;
  paths = map css_path first ++ map second_css_path second;
  ranges = record { start = 0; count = 16 } ∷ [];
  links = [];
  cuadd = cuadd;
  carried = [];
})

-- V4: a path that isn't there is online
abbrev pub online_at_no_path : List Rec
online_at_no_path = online_record 0x52 lpa ∷ base

-- a path of this kind that lists LPA and LPB, and is online to both
abbrev pub online_to_both : PathKind → List Rec
online_to_both kind =
    path (record {
      css = 0;
      number = 0x52;
      kind = kind;
      access = lpa ∷ lpb ∷ [];
      candidates = lpa ∷ lpb ∷ [];
      carried = [];
    })
    ∷ online_record 0x52 lpa ∷ online_record 0x52 lpb ∷ base

-- V4: of two that are online at a dedicated path the second breaks the rule, and at a shared path
-- none does. By itself the rule is broken there, after V3
abbrev pub BreaksV4 : List Rec → List ℕ → Bool → Type 0
BreaksV4 records name broken = breaks_v4 (configuration_of records) (online_record 0x52 name) ≡ broken

-- V7: ranges that overlap in one unit address, and ranges that touch
abbrev pub ranges_from : ℕ → List UnitRange
ranges_from start = record { start = 0; count = 16 } ∷ record { start = start; count = 16 } ∷ []

-- V8: device 1000 on these units
abbrev pub device_on : List ℕ → List Rec
device_on units = device (record (device_record 0) { units = units }) ∷ base

-- V11: device 1000 on two units, one of five paths and one of these
abbrev pub five_and : List ℕ → List Rec
five_and more = device (record (device_record 0) { units = 0x1000 ∷ 0x1001 ∷ [] })
    ∷ unit_on 0x1000 (0x50 ∷ 0x51 ∷ 0x52 ∷ 0x53 ∷ 0x54 ∷ []) None ∷ unit_on 0x1001 more (Some 1)
    ∷ shared_path 0x52 ∷ shared_path 0x53 ∷ shared_path 0x54 ∷ shared_path 0x55 ∷ shared_path 0x56
    ∷ shared_path 0x57 ∷ shared_path 0x58 ∷ base

-- V12: device 1000 with a candidate of channel subsystem 1
abbrev pub candidate_elsewhere : List Rec
candidate_elsewhere = device (record (device_record 0) { candidates = Some (lpc ∷ []) }) ∷ image_lpc ∷ base

-- V5: unit 1000 on eight paths in each of two channel subsystems, the same numbers in both
abbrev pub eight : List ℕ
eight = 0x50 ∷ 0x51 ∷ 0x52 ∷ 0x53 ∷ 0x54 ∷ 0x55 ∷ 0x56 ∷ 0x57 ∷ []

abbrev pub eight_in_both : List Rec
eight_in_both = unit_of_both 0x1000 eight eight None ∷ image_lpc ∷ map second_path eight
    ++ (shared_path 0x52 ∷ shared_path 0x53 ∷ shared_path 0x54 ∷ shared_path 0x55 ∷ shared_path 0x56
    ∷ shared_path 0x57 ∷ base)

-- V14: two units that share a path of channel subsystem 1 alone, the first without CUADD and the
-- second with this
abbrev pub sharing_elsewhere : Option ℕ → List Rec
sharing_elsewhere cuadd =
    unit_of_both 0x1000 (0x50 ∷ 0x51 ∷ []) (0x60 ∷ []) None ∷ unit_of_both 0x1001 [] (0x60 ∷ []) cuadd
    ∷ image_lpc ∷ second_path 0x60 ∷ base

-- each is the first rule that is broken
pub record BrokenByOneClause : Type 0 where
  pub v4_no_path : BreaksFirst online_at_no_path V4 (Online 0 0x52 lpa)
  pub v7_overlap : BreaksFirst (unit_with (ranges_from 0x0F) []) V7 (Unit 0x1000)
  pub v8_no_unit : BreaksFirst (device_on []) V8 (Device 0 0x1000)
  pub v8_twice : BreaksFirst (device_on (0x1000 ∷ 0x1000 ∷ [])) V8 (Device 0 0x1000)
  pub v8_not_there : BreaksFirst (device_on (0x1000 ∷ 0x1001 ∷ [])) V8 (Device 0 0x1000)
  pub v11_nine : BreaksFirst (five_and (0x55 ∷ 0x56 ∷ 0x57 ∷ 0x58 ∷ [])) V11 (Device 0 0x1000)
  pub v14_absent_is_00 : BreaksFirst (sharing_elsewhere (Some 0)) V14 (Unit 0x1001)
  pub v14_elsewhere : BreaksFirst (sharing_elsewhere None) V14 (Unit 0x1001)

-- a rule by itself
pub record OnlineAtADedicatedPath : Type 0 where
  pub first : BreaksV4 (online_to_both Dedicated) lpa false
  pub second : BreaksV4 (online_to_both Dedicated) lpb true
  pub shared : BreaksV4 (online_to_both Shared) lpb false

-- there no rule is broken
pub record KeptAtTheBound : Type 0 where
  pub v5_eight_in_both : first_breach_at_opening eight_in_both ≡ None
  pub v7_touch : first_breach_at_opening (unit_with (ranges_from 0x10) []) ≡ None
  pub v11_eight : first_breach_at_opening (five_and (0x55 ∷ 0x56 ∷ 0x57 ∷ [])) ≡ None
  pub v12_elsewhere : first_breach_at_opening candidate_elsewhere ≡ None
  pub v14_other_cuadd : first_breach_at_opening (sharing_elsewhere (Some 1)) ≡ None
