-- What images see, on the example deck and its variants, as it is stated by hand.
use Rattle.std.specs.Prelude.{◌≡◌, ℕ, List, [], ◌∷◌, Option, Some, None}
use Rattle.std.specs.FinMap.{find}
use Rattle.iocm_types.specs.Key.{key_cmp}
use Rattle.iocm_types.specs.declared.sub_id.SubId.{SubId}
use Rattle.iocm_types.specs.declared.view.View.{View}
use Rattle.iocm_model.specs.Machine.Record.{Rec}
use Rattle.iocm_model.specs.Machine.Configuration.{Lookup, with_keys, configuration_of}
use Rattle.iocm_model.specs.Machine.PathList.{path_list}
use Rattle.iocm_model.specs.Machine.Numbering.{opening}
use Rattle.iocm_model.specs.Machine.View.{view_if_seen, views}
use Rattle.iocm_examples.specs.BaseDeck.{lpa, lpb, base, base_without_candidate, base_turned, device_record}

-- the record of a key in a list of records
abbrev pub found_in : List Rec → Lookup
found_in records key = find key_cmp key (with_keys records)

-- the view of a device by its number, paths and masks
abbrev pub a_view : ℕ → List ℕ → ℕ → ℕ → Option View
a_view device paths pim pam = Some (record { device = device; paths = paths; pim = pim; pam = pam })

-- LPA reaches both paths and both are online to it; LPB reaches both, and 51 is offline to it
abbrev pub BaseViews : Type 0
BaseViews = (view_if_seen (found_in base) 0 lpa (device_record 2) ≡ a_view 0x1002 (0x50 ∷ 0x51 ∷ []) 0xC0 0xC0)
    × (view_if_seen (found_in base) 0 lpb (device_record 2) ≡ a_view 0x1002 (0x50 ∷ 0x51 ∷ []) 0xC0 0x80)

-- an image that is no candidate of a path doesn't reach it; the path stays in its list
abbrev pub ViewsWithoutCandidate : Type 0
ViewsWithoutCandidate =
    view_if_seen (found_in base_without_candidate) 0 lpb (device_record 0)
    ≡ a_view 0x1000 (0x50 ∷ 0x51 ∷ []) 0x80 0x80

-- paths stand in the order of the unit's list, and the masks with them
abbrev pub TurnedViews : Type 0
TurnedViews = (view_if_seen (found_in base_turned) 0 lpa (device_record 0) ≡ a_view 0x1000 (0x51 ∷ 0x50 ∷ []) 0xC0 0xC0)
    × (view_if_seen (found_in base_turned) 0 lpb (device_record 0) ≡ a_view 0x1000 (0x51 ∷ 0x50 ∷ []) 0xC0 0x40)

-- another channel subsystem reaches nothing, and another image sees nothing
abbrev pub Unseen : Type 0
Unseen = (path_list (found_in base) 1 (0x1000 ∷ []) ≡ [])
    × (view_if_seen (found_in base) 1 lpa (device_record 0) ≡ None)
    × (view_if_seen (found_in base) 0 (lpa) (record (device_record 0) { candidates = Some [] }) ≡ None)

-- a line of the table: an image, a number and its device, with both paths installed and these
-- available
abbrev pub row_of : ℕ → ℕ → ℕ → ℕ → SubId × View
row_of mif number device pam = (
  record { image = record { css = 0; mif = mif }; set = 0; number = number },
  record { device = device; paths = 0x50 ∷ 0x51 ∷ []; pim = 0xC0; pam = pam },
)

-- LPA sees the four devices with both paths available, and then LPB with one, each in the order of
-- numbers
abbrev pub BaseRows : Type 0
BaseRows = views (configuration_of base) (opening (configuration_of base)) ≡
    row_of 1 0 0x1000 0xC0 ∷ row_of 1 1 0x1001 0xC0 ∷ row_of 1 2 0x1002 0xC0 ∷ row_of 1 3 0x1003 0xC0
    ∷ row_of 2 0 0x1000 0x80 ∷ row_of 2 1 0x1001 0x80 ∷ row_of 2 2 0x1002 0x80 ∷ row_of 2 3 0x1003 0x80 ∷ []
