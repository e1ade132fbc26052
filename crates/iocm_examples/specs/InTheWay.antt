-- Worked runs in which a change is in the way of an undo, or no such change is there, as they are
-- stated by hand.
use Rattle.std.specs.Prelude.{[], ◌∷◌}
use Rattle.iocm_types.specs.declared.answer.Answer.TheVariants.{Changed, Undone, Redone}
use Rattle.iocm_types.specs.declared.refused.At.TheVariants.{Change, Nothing}
use Rattle.iocm_types.specs.declared.rule.Rule.TheVariants.{J1, J2}
use Rattle.iocm_model.specs.Change.InverseTree.{parts_of}
use Rattle.iocm_model.specs.Change.Tree.{group, none}
use Rattle.iocm_history.specs.Entry.{activate, undo, redo}
use Rattle.iocm_examples.specs.BaseDeck.{device_on_1000, device_key}
use Rattle.iocm_examples.specs.Edits.{added, deleted, online_51}
use Rattle.iocm_examples.specs.Histories.{Script, change_by, refused}

-- a path comes online to LPB, which alters its subchannels; a later change deletes a device and
-- adds it again, so that its subchannels are as they were. That is all that the two have in common,
-- and the later one is in the way
abbrev pub put_back_by_a_later : Script
put_back_by_a_later =
    (change_by online_51, Changed 1)
    ∷ (activate (group (parts_of (deleted (device_key 0x1000) ∷ added (device_on_1000 0x1000 0x00) ∷ []))), Changed 2)
    ∷ (undo 1, refused J2 (Change 2))
    ∷ (undo 2, Undone 2)
    ∷ (undo 1, Undone 1)
    ∷ []

-- changes have numbers from 1 on: 0 never was one
abbrev pub numbers_from_one : Script
numbers_from_one =
    (redo 0, refused J1 Nothing)
    ∷ (undo 0, refused J1 Nothing)
    ∷ (activate (group none), Changed 1)
    ∷ (undo 0, refused J1 Nothing)
    ∷ (undo 1, Undone 1)
    ∷ (redo 0, refused J1 Nothing)
    ∷ (redo 1, Redone 1)
    ∷ []
