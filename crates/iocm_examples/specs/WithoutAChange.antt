-- Worked runs with a change that is undone and without it, as they are stated by hand: they differ
-- where changes came later.
use Rattle.std.specs.Prelude.{◌≡◌, false, [], ◌∷◌, Some, None}
use Rattle.iocm_types.specs.declared.answer.Answer.TheVariants.{Changed, Undone}
use Rattle.iocm_types.specs.declared.order.Order.TheVariants.{Store}
use Rattle.iocm_model.specs.Change.Edit.{Edit}
use Rattle.iocm_history.specs.Entry.{undo}
use Rattle.iocm_examples.specs.BaseDeck.{device_key, subchannel, unit_on}
use Rattle.iocm_examples.specs.Edits.{deleted, modified}
use Rattle.iocm_examples.specs.Histories.{Script, GivesItsAnswers, after, number_of, change_by, orders, stored}
use Rattle.iocm_examples.specs.SelectiveUndo.{add_1004, cells_apart}

-- of two devices that come in the first alone is undone, or never comes
abbrev pub without_the_first : Script
without_the_first = (change_by add_1004, Changed 1) ∷ []

-- the second keeps its number through the undo. Without the first it gets the number that the first
-- had
pub record NumbersAnew : Type 0 where
  pub kept : number_of 0x1004 (after 3 cells_apart) ≡ Some 5
  pub answers : GivesItsAnswers without_the_first
  pub anew : number_of 0x1004 (after 1 without_the_first) ≡ Some 4

-- the paths of a unit change places
abbrev pub turn : Edit
turn = modified (unit_on 0x1000 (0x51 ∷ 0x50 ∷ []) None)

-- then a device comes in on the unit and goes again, and LPB looks at it meanwhile: path 50, on
-- which it is online, is the second. The change of the paths may be undone: no cell of it was
-- written since, and the device is gone
abbrev pub seen_meanwhile : Script
seen_meanwhile =
    (change_by turn, Changed 1)
    ∷ (change_by add_1004, Changed 2)
    ∷ (orders (subchannel 2 4) Store, stored 0x1004 0x40 0xC0 false 0)
    ∷ (change_by (deleted (device_key 0x1004)), Changed 3)
    ∷ (undo 1, Undone 1)
    ∷ []

-- without it LPB sees path 50 first
abbrev pub seen_without : Script
seen_without =
    (change_by add_1004, Changed 1)
    ∷ (orders (subchannel 2 4) Store, stored 0x1004 0x80 0xC0 false 0)
    ∷ (change_by (deleted (device_key 0x1004)), Changed 2)
    ∷ []
