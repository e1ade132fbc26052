-- Worked runs in which changes are undone under later ones, or are not, as they are stated by hand.
use Rattle.std.specs.Prelude.{◌≡◌, ℕ, false, List, [], ◌∷◌, map, take, drop, Option, None, Some, codes}
use Rattle.std.specs.FinMap.{get, empty}
use Rattle.iocm_types.specs.declared.answer.Answer.TheVariants.{Changed, Undone, Redone, Shown, Io}
use Rattle.iocm_types.specs.declared.css_path.CssPath.{CssPath}
use Rattle.iocm_types.specs.declared.order.Io.TheVariants.{Stored}
use Rattle.iocm_types.specs.declared.order.Order.TheVariants.{Start, Store}
use Rattle.iocm_types.specs.declared.path_kind.PathKind.TheVariants.{Shared}
use Rattle.iocm_types.specs.declared.refused.At.TheVariants.{Subchannel, Change, Nothing}
use Rattle.iocm_types.specs.declared.rule.Rule.TheVariants.{J2, J3, B1}
use Rattle.iocm_types.specs.declared.sub_id.SubId.{SubId}
use Rattle.iocm_model.specs.Machine.Record.{Rec, image, path, unit, device}
use Rattle.iocm_model.specs.Change.Edit.{modify, Edit}
use Rattle.iocm_model.specs.Change.InverseTree.{parts_of}
use Rattle.iocm_model.specs.Change.Tree.{group, none}
use Rattle.iocm_history.specs.Entry.{activate, undo, redo, show}
use Rattle.iocm_history.specs.Store.{NumberCells, store_of}
use Rattle.iocm_history.specs.MarkedEntry.{kept, undone_with}
use Rattle.iocm_history.specs.Account.{replay, marked_entries}
use Rattle.iocm_examples.specs.BaseDeck.{lpa, lpb, path_record, css_path, device_on_1000}
use Rattle.iocm_examples.specs.BaseDeck.{device_key, subchannel, unit_on}
use Rattle.iocm_examples.specs.Edits.{base_opened, added, deleted, modified, add_0fff, online_51}
use Rattle.iocm_examples.specs.Histories.{Script, history_of, GivesItsAnswers, after, marks_after, number_of}
use Rattle.iocm_examples.specs.Histories.{change_by, orders, enables, code, refused}

-- a device that comes in
abbrev pub add_1004 : Edit
add_1004 = added (device_on_1000 0x1004 0x04)

-- two devices come in, and the first goes again: they have no cell in common
abbrev pub cells_apart : Script
cells_apart =
    (change_by add_0fff, Changed 1)
    ∷ (change_by add_1004, Changed 2)
    ∷ (undo 1, Undone 1)
    ∷ (show, Shown (record { records = 13; subchannels = 10; standing = 1; undone = 1 }))
    ∷ (redo 1, Redone 1)
    ∷ []

-- the second keeps its number, and the first gets its own again
pub record CellsApart : Type 0 where
  pub answers : GivesItsAnswers cells_apart
  pub marks : marks_after 3 cells_apart ≡ undone_with 1 ∷ kept ∷ kept ∷ []
  pub gone : number_of 0x0FFF (after 3 cells_apart) ≡ None
  pub stays : number_of 0x1004 (after 3 cells_apart) ≡ Some 5
  pub back : number_of 0x0FFF (after 5 cells_apart) ≡ Some 4
  pub still : number_of 0x1004 (after 5 cells_apart) ≡ Some 5

-- the paths of a unit change places, and a device comes in on it: its subchannels would be altered
-- by the undo
abbrev pub paths_turned : Script
paths_turned =
    (change_by (modified (unit_on 0x1000 (0x51 ∷ 0x50 ∷ []) None)), Changed 1)
    ∷ (change_by add_1004, Changed 2)
    ∷ (undo 1, refused J2 (Change 2))
    ∷ []

-- a device gives up its unit address, and another takes it: they have no cell in common, and the
-- undo would give two devices one address
abbrev pub an_address_taken : Script
an_address_taken =
    (change_by (modified (device_on_1000 0x1003 0x05)), Changed 1)
    ∷ (change_by (added (device_on_1000 0x2000 0x03)), Changed 2)
    ∷ (undo 1, refused J2 (Change 2))
    ∷ (undo 2, Undone 2)
    ∷ (undo 1, Undone 1)
    ∷ []

-- a path comes online to LPB, a device comes in and goes. With the path offline again the device
-- would come back with another mask: so the earlier change that was undone is to be redone first
abbrev pub an_earlier_undone : Script
an_earlier_undone =
    (change_by online_51, Changed 1)
    ∷ (change_by add_1004, Changed 2)
    ∷ (change_by (deleted (device_key 0x1004)), Changed 3)
    ∷ (undo 1, Undone 1)
    ∷ (undo 3, refused J2 (Change 1))
    ∷ (redo 1, Redone 1)
    ∷ (undo 3, Undone 3)
    ∷ (undo 1, refused J2 (Change 2))
    ∷ []

-- a change that another stands on is refused so, also while LPB uses a subchannel that it altered
abbrev pub stood_on_and_busy : Script
stood_on_and_busy =
    (change_by online_51, Changed 1)
    ∷ (change_by add_1004, Changed 2)
    ∷ (enables (subchannel 2 0) 0x80 0, code 0)
    ∷ (orders (subchannel 2 0) Start, code 0)
    ∷ (undo 1, refused J2 (Change 2))
    ∷ []

-- a change that wasn't undone last is refused so, also while LPA uses a subchannel that it altered;
-- as the last one undone it waits for that
abbrev pub not_last_and_busy : Script
not_last_and_busy =
    (change_by (deleted (device_key 0x1001)), Changed 1)
    ∷ (change_by (deleted (device_key 0x1003)), Changed 2)
    ∷ (undo 2, Undone 2)
    ∷ (undo 1, Undone 1)
    ∷ (enables (subchannel 1 3) 0x80 0, code 0)
    ∷ (orders (subchannel 1 3) Start, code 0)
    ∷ (redo 2, refused J3 Nothing)
    ∷ (redo 1, Redone 1)
    ∷ (redo 2, refused B1 (Subchannel (subchannel 1 3)))
    ∷ []

-- changes of nothing stand on none
abbrev pub nothing_in_common : Script
nothing_in_common =
    (activate (group none), Changed 1)
    ∷ (activate (group none), Changed 2)
    ∷ (activate (group none), Changed 3)
    ∷ (undo 1, Undone 1)
    ∷ (undo 3, Undone 3)
    ∷ (redo 1, refused J3 Nothing)
    ∷ (redo 3, Redone 3)
    ∷ (redo 1, Redone 1)
    ∷ (show, Shown (record { records = 12; subchannels = 8; standing = 3; undone = 0 }))
    ∷ []

-- the earlier change that was undone is past, since a new one came: it blocks as before, and can't
-- be redone; made anew, it is a new change
abbrev pub a_past_one : Script
a_past_one =
    (change_by online_51, Changed 1)
    ∷ (change_by add_1004, Changed 2)
    ∷ (change_by (deleted (device_key 0x1004)), Changed 3)
    ∷ (undo 1, Undone 1)
    ∷ (activate (group none), Changed 4)
    ∷ (undo 3, refused J2 (Change 4))
    ∷ (undo 4, Undone 4)
    ∷ (undo 3, refused J2 (Change 1))
    ∷ (redo 1, refused J3 Nothing)
    ∷ (change_by online_51, Changed 5)
    ∷ (undo 3, Undone 3)
    ∷ []

-- a later change that was undone isn't in the way, though the change doesn't fit: the latest that
-- stands is named
abbrev pub a_later_undone : Script
a_later_undone =
    (change_by (modified (unit_on 0x1000 (0x51 ∷ 0x50 ∷ []) None)), Changed 1)
    ∷ (change_by add_1004, Changed 2)
    ∷ (activate (group none), Changed 3)
    ∷ (undo 1, refused J2 (Change 3))
    ∷ (undo 3, Undone 3)
    ∷ (undo 1, refused J2 (Change 2))
    ∷ []

-- a device comes in and goes again, by one change
abbrev pub in_and_out : List Edit
in_and_out = add_1004 ∷ deleted (device_key 0x1004) ∷ []

-- what a change put back itself it wrote: later changes that wrote it too are in the way, though
-- all is as it was
abbrev pub put_back_at_once : Script
put_back_at_once =
    (activate (group (parts_of in_and_out)), Changed 1)
    ∷ (change_by add_1004, Changed 2)
    ∷ (change_by (deleted (device_key 0x1004)), Changed 3)
    ∷ (undo 1, refused J2 (Change 3))
    ∷ (undo 3, Undone 3)
    ∷ (undo 1, refused J2 (Change 2))
    ∷ (undo 2, Undone 2)
    ∷ (undo 1, Undone 1)
    ∷ []

-- path 52 of LPA with unit 2000, and a device of it for LPB: it has a number, and no image sees it
abbrev pub unit_of_lpa : List Edit
unit_of_lpa = added (path_record 0x52 (lpa ∷ []) []) ∷ added (unit_on 0x2000 (0x52 ∷ []) None) ∷ []

abbrev pub unseen_device : ℕ → ℕ → Rec
unseen_device number address =
    device (record {
      set = 0;
      number = number;
      units = 0x2000 ∷ [];
      unit_address = address;
      candidates = Some (lpb ∷ []);
      carried = [];
    })

-- one such device takes the number that another gave up, and frees it again: that number alone the
-- changes have in common
abbrev pub a_number_in_common : Script
a_number_in_common =
    (activate (group (parts_of unit_of_lpa)), Changed 1)
    ∷ (change_by (added (unseen_device 0x2000 0)), Changed 2)
    ∷ (change_by (deleted (device_key 0x2000)), Changed 3)
    ∷ (change_by (added (unseen_device 0x2001 1)), Changed 4)
    ∷ (change_by (deleted (device_key 0x2001)), Changed 5)
    ∷ (show, Shown (record { records = 14; subchannels = 8; standing = 5; undone = 0 }))
    ∷ (undo 3, refused J2 (Change 5))
    ∷ (undo 5, Undone 5)
    ∷ (undo 4, Undone 4)
    ∷ (undo 3, Undone 3)
    ∷ []

-- a unit with these paths, all of which are its own
abbrev pub unit_with : ℕ → List CssPath → Rec
unit_with number paths =
    unit (record {
      number = number;
      paths = paths;
      ranges = record { start = 0; count = 16 } ∷ [];
      links = [];
      cuadd = None;
      carried = [];
    })

-- path 50 of channel subsystem 1
abbrev pub path_of_css_1 : CssPath
path_of_css_1 = record { css = 1; path = 0x50 }

-- LPC with a path in channel subsystem 1, and device 3000 on two units: the first has that path,
-- too
abbrev pub device_on_two : List Rec
device_on_two =
    image (record { css = 1; mif = 1; name = codes "LPC" })
    ∷ path (record { css = 1; number = 0x50; kind = Shared; access = codes "LPC" ∷ []; candidates = []; carried = [] })
    ∷ path_record 0x52 (lpa ∷ []) []
    ∷ path_record 0x53 (lpa ∷ []) []
    ∷ unit_with 0x2000 (css_path 0x52 ∷ path_of_css_1 ∷ [])
    ∷ unit_with 0x2001 (css_path 0x53 ∷ [])
    ∷ device (record {
      set = 0;
      number = 0x3000;
      units = 0x2000 ∷ 0x2001 ∷ [];
      unit_address = 0;
      candidates = None;
      carried = [];
    })
    ∷ []

-- the second unit gets that path, and number 7 comes along for the device there
abbrev pub second_unit_too : Edit
second_unit_too = record {
  action = modify (unit_with 0x2001 (css_path 0x53 ∷ path_of_css_1 ∷ []));
  places = (record { css = 1; set = 0; device = 0x3000 }, 7) ∷ [];
  lives = empty;
}

-- LPC's subchannel of this number
abbrev pub of_lpc : ℕ → SubId
of_lpc number = record { image = record { css = 1; mif = 1 }; set = 0; number = number }

-- the first unit leaves channel subsystem 1, where the device had number 0; by the second it comes
-- again, with 7, and leaves. The first change has no cell in common with the later ones. The last
-- one can't be undone while it is
abbrev pub two_numbers_for_a_while : Script
two_numbers_for_a_while =
    (activate (group (parts_of (map added device_on_two))), Changed 1)
    ∷ (change_by (modified (unit_with 0x2000 (css_path 0x52 ∷ []))), Changed 2)
    ∷ (change_by second_unit_too, Changed 3)
    ∷ (change_by (modified (unit_with 0x2001 (css_path 0x53 ∷ []))), Changed 4)
    ∷ (orders (of_lpc 0) Store, code 3)
    ∷ (undo 2, Undone 2)
    ∷ (
      orders (of_lpc 0) Store,
      Io (Stored (record {
        device = 0x3000;
        pim = 0x80;
        pam = 0;
        lpm = 0x80;
        enabled = false;
        parm = 0;
        bits = record { 0 = 0 };
      })),
    )
    ∷ (orders (of_lpc 7) Store, code 3)
    ∷ (undo 4, refused J2 (Change 2))
    ∷ []

-- the device of this number of channel subsystem 1
abbrev pub device_of : ℕ → NumberCells → Option ℕ
device_of number cells = get cells (record { css = 1; set = 0; number = number })

-- the number cells once change 2 is undone, before change 4 is played
abbrev pub cells_before_the_last : NumberCells
cells_before_the_last =
    (replay (store_of base_opened)
    (drop 3 (marked_entries base_opened (history_of (take 6 two_numbers_for_a_while))))).numbers

-- the device keeps 0 there, and has 7 besides
pub record TwoNumbersForAWhile : Type 0 where
  pub answers : GivesItsAnswers two_numbers_for_a_while
  pub keeps : device_of 0 cells_before_the_last ≡ Some 0x3000
  pub besides : device_of 7 cells_before_the_last ≡ Some 0x3000
