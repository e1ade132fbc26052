-- All breaches of small decks with their numbers at opening, as they are stated by hand.
use Rattle.std.specs.Prelude.{◌≡◌, ℕ, List, [], ◌∷◌, None}
use Rattle.iocm_types.specs.declared.key.Key.TheVariants.{Path, Unit, Device}
use Rattle.iocm_types.specs.declared.rule.Rule.TheVariants.{V2, V5, V8, V9, V10, V13, V14}
use Rattle.iocm_model.specs.Machine.Record.{Rec, limit, device}
use Rattle.iocm_model.specs.Machine.Configuration.{configuration_of}
use Rattle.iocm_model.specs.Machine.Numbering.{opening}
use Rattle.iocm_model.specs.Rules.FirstBreach.{Breach}
use Rattle.iocm_examples.specs.BaseDeck.{lpa, base, path_record, device_record, unit_on, device_on_1000}
use Rattle.iocm_examples.specs.Rules.{nobody}
use Rattle.iocm_breaches.specs.Breaches.{all_breaches}

-- these are all breaches of a deck
abbrev pub Breaks : List Rec → List Breach → Type 0
Breaks records breaches = let c = configuration_of records in all_breaches c (opening c) ≡ breaches

-- a device of set 0 with this unit address on these units
abbrev pub device_on : ℕ → List ℕ → ℕ → Rec
device_on number units address =
    device (record (device_record 0) { number = number; units = units; unit_address = address })

-- a path lists nobody, a second unit answers to addresses of the first on path 50, an address is out
-- of the unit's range, and two devices name a unit that isn't there: the first has the address of
-- device 1000, and the second that of the first, on the unit that isn't there
abbrev pub mistakes : List Rec
mistakes = path_record 0x52 (lpa ∷ nobody ∷ []) [] ∷ unit_on 0x2000 (0x50 ∷ []) None
    ∷ device_on_1000 0x1010 16 ∷ device_on 0x3000 (0x1000 ∷ 0x3000 ∷ []) 0 ∷ device_on 0x3001 (0x3000 ∷ []) 0 ∷ base

-- by rule and then by key; a device that breaks two rules comes twice
abbrev pub BreachesOfMany : Type 0
BreachesOfMany = Breaks mistakes (
    record { rule = V2; key = Path 0 0x52 }
    ∷ record { rule = V8; key = Device 0 0x3000 } ∷ record { rule = V8; key = Device 0 0x3001 }
    ∷ record { rule = V9; key = Device 0 0x1010 }
    ∷ record { rule = V10; key = Device 0 0x3000 } ∷ record { rule = V10; key = Device 0 0x3001 }
    ∷ record { rule = V14; key = Unit 0x2000 } ∷ []
    )

-- a limit of two for four devices
abbrev pub with_limit : List Rec
with_limit = limit (record { css = 0; set = 0; limit = 2 }) ∷ base

-- two units share a path that isn't there
abbrev pub missing_path : List Rec
missing_path = unit_on 0x2000 (0x60 ∷ []) None ∷ unit_on 0x2001 (0x60 ∷ []) None ∷ base

-- three devices with one address on a unit
abbrev pub one_address : List Rec
one_address = device_on_1000 0x2000 1 ∷ device_on_1000 0x2001 1 ∷ base

-- the numbers 2 and 3 are past the limit, and each device but the first with an address is a breach
pub record BreachesOfOthers : Type 0 where
  pub none : Breaks base []
  pub numbers : Breaks with_limit
      (record { rule = V13; key = Device 0 0x1002 } ∷ record { rule = V13; key = Device 0 0x1003 } ∷ [])
  pub paths : Breaks missing_path (record { rule = V5; key = Unit 0x2000 }
      ∷ record { rule = V5; key = Unit 0x2001 } ∷ record { rule = V14; key = Unit 0x2001 } ∷ [])
  pub addresses : Breaks one_address
      (record { rule = V10; key = Device 0 0x2000 } ∷ record { rule = V10; key = Device 0 0x2001 } ∷ [])
