-- Path lists of six and of nine, and an image that reaches the ninth path alone, as it is stated by
-- hand.
use Rattle.std.specs.Prelude.{◌≡◌, ℕ, List, [], ◌∷◌, ◌++◌, map, None, Option}
use Rattle.iocm_types.specs.declared.view.View.{View}
use Rattle.iocm_model.specs.Machine.Record.{Rec}
use Rattle.iocm_model.specs.Machine.View.{view_if_seen}
use Rattle.iocm_examples.specs.BaseDeck.{lpa, lpb, path_record, online_record, unit_on, device_record}
use Rattle.iocm_examples.specs.Views.{found_in, a_view}

-- a path of LPA, online to it, that LPB doesn't reach
abbrev pub path_of_lpa : ℕ → Rec
path_of_lpa number = path_record number (lpa ∷ []) []

abbrev pub online_to_lpa : ℕ → Rec
online_to_lpa number = online_record number lpa

abbrev pub eight_paths : List ℕ
eight_paths = 0x50 ∷ 0x51 ∷ 0x52 ∷ 0x53 ∷ 0x54 ∷ 0x55 ∷ 0x56 ∷ 0x57 ∷ []

-- a unit on these paths, of which LPB reaches path 58 alone and has it online
abbrev pub unit_of : List ℕ → List Rec
unit_of paths =
    unit_on 0x1000 paths None ∷ map path_of_lpa eight_paths
    ++ (path_record 0x58 (lpb ∷ []) [] ∷ map online_to_lpa eight_paths)
    ++ (online_record 0x58 lpb ∷ [])

-- what an image sees of device 1000
abbrev pub sight_of_1000 : List ℕ → List ℕ → Option View
sight_of_1000 paths name = view_if_seen (found_in (unit_of paths)) 0 name (device_record 0)

-- six paths are the six leftmost bits; the order of the list is the order of the bits
abbrev pub six : List ℕ
six = 0x55 ∷ 0x54 ∷ 0x58 ∷ 0x52 ∷ 0x51 ∷ 0x50 ∷ []

-- of nine paths a view has the first eight; LPB reaches the ninth alone: it sees the device, and
-- none of the eight paths is installed
pub record ViewsOfLongLists : Type 0 where
  pub six_of_lpa : sight_of_1000 six lpa ≡ a_view 0x1000 six 0xDC 0xDC
  pub six_of_lpb : sight_of_1000 six lpb ≡ a_view 0x1000 six 0x20 0x20
  pub nine_of_lpa : sight_of_1000 (eight_paths ++ 0x58 ∷ []) lpa ≡ a_view 0x1000 eight_paths 0xFF 0xFF
  pub ninth_alone : sight_of_1000 (eight_paths ++ 0x58 ∷ []) lpb ≡ a_view 0x1000 eight_paths 0x00 0x00
  pub unseen : sight_of_1000 eight_paths lpb ≡ None
