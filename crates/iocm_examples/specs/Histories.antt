-- Worked runs of calls on the example deck as it is opened, as they are stated by hand: each call
-- with its answer.
use Rattle.std.specs.Prelude.{◌≡◌, ℕ, Bool, true, false, List, [], ◌∷◌, map, reverse, take, Option, None, Some}
use Rattle.std.specs.FinMap.{get}
use Rattle.iocm_types.specs.declared.answer.Answer.{Answer}
use Rattle.iocm_types.specs.declared.answer.Answer.TheVariants.{Changed, Undone, Redone, Shown, Refused, Io, Ended}
use Rattle.iocm_types.specs.declared.live.Phase.TheVariants.{Idle}
use Rattle.iocm_types.specs.declared.order.Order.{Order}
use Rattle.iocm_types.specs.declared.order.Order.TheVariants.{Start, Clear, Test, Store, Modify}
use Rattle.iocm_types.specs.declared.order.Io.TheVariants.{Code, Status, Stored}
use Rattle.iocm_types.specs.declared.refused.At.{At}
use Rattle.iocm_types.specs.declared.refused.At.TheVariants.{Subchannel, Change, Nothing}
use Rattle.iocm_types.specs.declared.rule.Rule.{Rule}
use Rattle.iocm_types.specs.declared.rule.Rule.TheVariants.{J1, J2, J3, B1, E3}
use Rattle.iocm_types.specs.declared.sub_id.SubId.{SubId}
use Rattle.iocm_model.specs.Operation.State.{State}
use Rattle.iocm_model.specs.Change.Edit.{Edit}
use Rattle.iocm_model.specs.Change.Refusal.{refusal_at}
use Rattle.iocm_model.specs.Operation.Orders.{fresh}
use Rattle.iocm_model.specs.Change.InverseTree.{parts_of}
use Rattle.iocm_model.specs.Change.Meaning.{at_node}
use Rattle.iocm_model.specs.Change.Tree.{leaf, group, choose, none}
use Rattle.iocm_model.specs.Operation.Step.{order, device_end}
use Rattle.iocm_history.specs.Entry.{Call, at, activate, undo, redo, show, History}
use Rattle.iocm_history.specs.MarkedEntry.{Mark, kept, undone_with, lost, MarkedEntry}
use Rattle.iocm_history.specs.Account.{marked_entries, state_at}
use Rattle.iocm_history.specs.Run.{run, answers_of}
use Rattle.iocm_examples.specs.Edits.{base_opened, added, deleted, online_51, enabled_with}
use Rattle.iocm_examples.specs.BaseDeck.{device_on_1000, device_key, subchannel}

-- calls with their answers, in order
abbrev pub Script : Type 0
Script = List (Call × Answer)

abbrev pub calls_of : Script → List Call
calls_of script = map (λ (row : Call × Answer). row.0) script

-- the history of a script
abbrev pub history_of : Script → History
history_of script = run base_opened (calls_of script)

-- each call of a script gives its answer
abbrev pub GivesItsAnswers : Script → Type 0
GivesItsAnswers script = reverse (answers_of (history_of script)) ≡ map (λ (row : Call × Answer). row.1) script

-- the state after the first calls of a script
abbrev pub after : ℕ → Script → State
after n script = state_at base_opened (history_of (take n script))

-- the marks of the entries after the first calls of a script, in order
abbrev pub marks_after : ℕ → Script → List Mark
marks_after n script =
    reverse (map (λ (l : MarkedEntry). l.mark) (marked_entries base_opened (history_of (take n script))))

-- the number of a device of set 0 in channel subsystem 0
abbrev pub number_of : ℕ → State → Option ℕ
number_of device s = get s.numbers (record { css = 0; set = 0; device = device })

-- calls: a change of one edit; an order; a device end; MODIFY with this mask and parameter, that
-- enables
abbrev pub change_by : Edit → Call
change_by e = activate (leaf e)

abbrev pub orders : SubId → Order → Call
orders x o = at x (order o)

abbrev pub ends : SubId → Call
ends x = at x device_end

abbrev pub enables : SubId → ℕ → ℕ → Call
enables x lpm parm = orders x (Modify (record { enabled = true; lpm = lpm; parm = parm }))

-- answers: a condition code; the bits of a status; a refusal with no node, and one at node 0 of a
-- tree
abbrev pub code : ℕ → Answer
code n = Io (Code n)

abbrev pub status : ℕ → Answer
status bits = Io (Status (record { 0 = bits }))

abbrev pub refused : Rule → At → Answer
refused rule place = Refused (refusal_at rule place)

abbrev pub refused_at_root : Rule → At → Answer
refused_at_root rule place = Refused (at_node 0 (refusal_at rule place))

-- what STORE gives for an idle subchannel that has path-installed mask C0: its device, PAM, LPM,
-- the enabled bit and the parameter
abbrev pub stored : ℕ → ℕ → ℕ → Bool → ℕ → Answer
stored device pam lpm enabled parm =
    Io (Stored (record {
      device = device;
      pim = 0xC0;
      pam = pam;
      lpm = lpm;
      enabled = enabled;
      parm = parm;
      bits = record { 0 = 0 };
    }))

-- a device that comes in
abbrev pub add_2000 : Edit
add_2000 = added (device_on_1000 0x2000 0x04)

-- a later change stands on an earlier one, and the last one undone is redone first
abbrev pub latest_first : Script
latest_first =
    (change_by (deleted (device_key 0x1001)), Changed 1)
    ∷ (change_by add_2000, Changed 2)
    ∷ (undo 1, refused J2 (Change 2))
    ∷ (undo 2, Undone 2)
    ∷ (undo 1, Undone 1)
    ∷ (redo 2, refused J3 Nothing)
    ∷ (redo 1, Redone 1)
    ∷ (redo 2, Redone 2)
    ∷ []

-- numbers come back with the undo and with the redo
pub record LatestFirst : Type 0 where
  pub answers : GivesItsAnswers latest_first
  pub freed : number_of 0x1001 (after 2 latest_first) ≡ None
  pub used_again : number_of 0x2000 (after 2 latest_first) ≡ Some 1
  pub back : number_of 0x1001 (after 5 latest_first) ≡ Some 1
  pub gone : number_of 0x2000 (after 5 latest_first) ≡ None
  pub redone : number_of 0x2000 (after 8 latest_first) ≡ Some 1
  pub deleted_again : get (after 8 latest_first).config (device_key 0x1001) ≡ None

-- LPA starts its subchannel of 1000: a Choose passes over that device, and deletes 1003
abbrev pub a_choose_undone : Script
a_choose_undone =
    (enables (subchannel 1 0) 0x80 0, code 0)
    ∷ (orders (subchannel 1 0) Start, code 0)
    ∷ (activate (choose (parts_of (deleted (device_key 0x1000) ∷ deleted (device_key 0x1003) ∷ []))), Changed 1)
    ∷ (orders (subchannel 1 3) Store, code 3)
    ∷ (undo 1, Undone 1)
    ∷ (orders (subchannel 1 3) Store, stored 0x1003 0xC0 0xC0 false 0)
    ∷ []

-- its undo brings the record, the number and the live records of 1003 back
pub record AChooseUndone : Type 0 where
  pub answers : GivesItsAnswers a_choose_undone
  pub stays : get (after 3 a_choose_undone).config (device_key 0x1000) ≡ Some (device_on_1000 0x1000 0x00)
  pub deleted : get (after 3 a_choose_undone).config (device_key 0x1003) ≡ None
  pub no_live : get (after 3 a_choose_undone).lives (subchannel 1 3) ≡ None
  pub back : get (after 5 a_choose_undone).config (device_key 0x1003) ≡ Some (device_on_1000 0x1003 0x03)
  pub number : number_of 0x1003 (after 5 a_choose_undone) ≡ Some 3
  pub live : get (after 5 a_choose_undone).lives (subchannel 2 3) ≡ Some (fresh 0xC0)

-- LPA uses its subchannel of 1002 while 1003 is deleted and comes back
abbrev pub steps_elsewhere : Script
steps_elsewhere =
    (enables (subchannel 1 2) 0x80 7, code 0)
    ∷ (orders (subchannel 1 2) Start, code 0)
    ∷ (change_by (deleted (device_key 0x1003)), Changed 1)
    ∷ (ends (subchannel 1 2), Ended true)
    ∷ (orders (subchannel 1 2) Test, status 9)
    ∷ (undo 1, Undone 1)
    ∷ (orders (subchannel 1 2) Store, stored 0x1002 0xC0 0x80 true 7)
    ∷ (show, Shown (record { records = 12; subchannels = 8; standing = 0; undone = 1 }))
    ∷ []

-- steps on a subchannel that a change didn't alter stay through its undo: it alone is marked
pub record StepsElsewhere : Type 0 where
  pub answers : GivesItsAnswers steps_elsewhere
  pub marks : marks_after 6 steps_elsewhere ≡ kept ∷ kept ∷ undone_with 1 ∷ kept ∷ kept ∷ kept ∷ []
  pub live : get (after 6 steps_elsewhere).lives (subchannel 1 2)
      ≡ Some (record { enabled = true; lpm = 0x80; parm = 7; phase = Idle })

-- the device of a subchannel with status pending is not deleted until TEST takes the status
abbrev pub pending_status : Script
pending_status =
    (enables (subchannel 1 1) 0x80 0, code 0)
    ∷ (orders (subchannel 1 1) Start, code 0)
    ∷ (ends (subchannel 1 1), Ended true)
    ∷ (change_by (deleted (device_key 0x1001)), refused_at_root B1 (Subchannel (subchannel 1 1)))
    ∷ (orders (subchannel 1 1) Test, status 9)
    ∷ (change_by (deleted (device_key 0x1001)), Changed 1)
    ∷ []

pub record PendingStatus : Type 0 where
  pub answers : GivesItsAnswers pending_status
  pub refused : number_of 0x1001 (after 4 pending_status) ≡ Some 1
  pub deleted : number_of 0x1001 (after 6 pending_status) ≡ None

-- three changes of one device, undone and redone: refusals name the greatest change that stands on
-- another, and tell a change that can't be undone or redone now from one that was never there
abbrev pub three_changes : Script
three_changes =
    (change_by (deleted (device_key 0x1003)), Changed 1)
    ∷ (change_by (added (device_on_1000 0x1003 0x03)), Changed 2)
    ∷ (change_by (deleted (device_key 0x1003)), Changed 3)
    ∷ (undo 1, refused J2 (Change 3))
    ∷ (undo 2, refused J2 (Change 3))
    ∷ (redo 3, refused J1 Nothing)
    ∷ (undo 3, Undone 3)
    ∷ (undo 3, refused J1 Nothing)
    ∷ (undo 2, Undone 2)
    ∷ (redo 3, refused J3 Nothing)
    ∷ (redo 2, Redone 2)
    ∷ (undo 1, refused J2 (Change 2))
    ∷ (redo 3, Redone 3)
    ∷ (show, Shown (record { records = 11; subchannels = 6; standing = 3; undone = 0 }))
    ∷ []

-- changes of nothing, and undo and redo of changes that aren't there; a change makes those that are
-- undone past
abbrev pub empty_changes : Script
empty_changes =
    (activate (group none), Changed 1)
    ∷ (undo 1, Undone 1)
    ∷ (activate (choose none), refused_at_root E3 Nothing)
    ∷ (undo 99, refused J1 Nothing)
    ∷ (activate (group none), Changed 2)
    ∷ (redo 1, refused J3 Nothing)
    ∷ (redo 99, refused J1 Nothing)
    ∷ (show, Shown (record { records = 12; subchannels = 8; standing = 1; undone = 0 }))
    ∷ []

-- LPB enables its subchannel of 1000 with path 51 alone, which is offline to it until a change
-- brings it online
abbrev pub a_path_comes_online : Script
a_path_comes_online =
    (enables (subchannel 2 0) 0x40 0, code 0)
    ∷ (orders (subchannel 2 0) Start, code 3)
    ∷ (change_by online_51, Changed 1)
    ∷ (orders (subchannel 2 0) Start, code 0)
    ∷ []

-- the same, and LPB then enables its subchannel with both paths, before the change is undone and
-- redone
abbrev pub a_path_undone : Script
a_path_undone =
    (enables (subchannel 2 0) 0x40 0, code 0)
    ∷ (change_by online_51, Changed 1)
    ∷ (enables (subchannel 2 0) 0xC0 9, code 0)
    ∷ (undo 1, Undone 1)
    ∷ (orders (subchannel 2 0) Store, stored 0x1000 0x80 0x40 true 0)
    ∷ (redo 1, Redone 1)
    ∷ (orders (subchannel 2 0) Store, stored 0x1000 0xC0 0xC0 true 9)
    ∷ []

-- the undo strikes what LPB did since the change, and the redo brings it back; what was done while
-- the change was undone is lost
pub record APathUndone : Type 0 where
  pub answers : GivesItsAnswers a_path_undone
  pub struck : marks_after 4 a_path_undone ≡ kept ∷ undone_with 1 ∷ undone_with 1 ∷ kept ∷ []
  pub back : marks_after 6 a_path_undone ≡ kept ∷ kept ∷ kept ∷ kept ∷ lost ∷ kept ∷ []
  pub undone : get (after 4 a_path_undone).lives (subchannel 2 0) ≡ Some (enabled_with 0x40)
  pub redone : get (after 6 a_path_undone).lives (subchannel 2 0) ≡ Some (record (enabled_with 0xC0) { parm = 9 })

-- a path comes online to LPB, which then uses it alone: its subchannel is fresh after the undo, and
-- in use again after the redo
abbrev pub a_path_in_use : Script
a_path_in_use =
    (change_by online_51, Changed 1)
    ∷ (enables (subchannel 2 0) 0x40 9, code 0)
    ∷ (undo 1, Undone 1)
    ∷ (orders (subchannel 2 0) Store, stored 0x1000 0x80 0xC0 false 0)
    ∷ (redo 1, Redone 1)
    ∷ (orders (subchannel 2 0) Store, stored 0x1000 0xC0 0x40 true 9)
    ∷ (orders (subchannel 2 0) Start, code 0)
    ∷ (undo 1, refused B1 (Subchannel (subchannel 2 0)))
    ∷ []

-- LPA starts its subchannel of a device that came in: the device goes with the undo once the
-- subchannel is quiet
abbrev pub a_busy_undo : Script
a_busy_undo =
    (change_by (added (device_on_1000 0x1004 0x04)), Changed 1)
    ∷ (enables (subchannel 1 4) 0x80 0, code 0)
    ∷ (orders (subchannel 1 4) Start, code 0)
    ∷ (undo 1, refused B1 (Subchannel (subchannel 1 4)))
    ∷ (orders (subchannel 1 4) Clear, code 0)
    ∷ (ends (subchannel 1 4), Ended true)
    ∷ (orders (subchannel 1 4) Test, status 12)
    ∷ (undo 1, Undone 1)
    ∷ (orders (subchannel 1 4) Store, code 3)
    ∷ (redo 1, Redone 1)
    ∷ (orders (subchannel 1 4) Store, stored 0x1004 0xC0 0x80 true 0)
    ∷ []

-- the steps on its subchannel go with it, and come back with it
pub record ABusyUndo : Type 0 where
  pub answers : GivesItsAnswers a_busy_undo
  pub number : number_of 0x1004 (after 1 a_busy_undo) ≡ Some 4
  pub refused : number_of 0x1004 (after 4 a_busy_undo) ≡ Some 4
  pub struck : marks_after 8 a_busy_undo
      ≡ undone_with 1 ∷ undone_with 1 ∷ undone_with 1 ∷ kept ∷ undone_with 1 ∷ undone_with 1 ∷ undone_with 1 ∷ kept ∷ []
  pub gone : get (after 8 a_busy_undo).lives (subchannel 1 4) ≡ None
  pub back : marks_after 10 a_busy_undo ≡ kept ∷ kept ∷ kept ∷ kept ∷ kept ∷ kept ∷ kept ∷ kept ∷ lost ∷ kept ∷ []
  pub redone : get (after 10 a_busy_undo).lives (subchannel 1 4) ≡ Some (enabled_with 0x80)

-- a device is deleted and comes back by the undo; both images start their subchannels of it, and
-- the redo waits until both are quiet
abbrev pub a_busy_redo : Script
a_busy_redo =
    (change_by (deleted (device_key 0x1001)), Changed 1)
    ∷ (undo 1, Undone 1)
    ∷ (enables (subchannel 2 1) 0x80 0, code 0)
    ∷ (orders (subchannel 2 1) Start, code 0)
    ∷ (enables (subchannel 1 1) 0x80 0, code 0)
    ∷ (orders (subchannel 1 1) Start, code 0)
    ∷ (redo 1, refused B1 (Subchannel (subchannel 1 1)))
    ∷ (ends (subchannel 1 1), Ended true)
    ∷ (orders (subchannel 1 1) Test, status 9)
    ∷ (redo 1, refused B1 (Subchannel (subchannel 2 1)))
    ∷ (ends (subchannel 2 1), Ended true)
    ∷ (orders (subchannel 2 1) Test, status 9)
    ∷ (redo 1, Redone 1)
    ∷ (orders (subchannel 1 1) Store, code 3)
    ∷ (undo 1, Undone 1)
    ∷ (orders (subchannel 1 1) Store, stored 0x1001 0xC0 0xC0 false 0)
    ∷ []

-- what was done while a change was undone is lost for good, also when it is undone once more
pub record ABusyRedo : Type 0 where
  pub answers : GivesItsAnswers a_busy_redo
  pub marks : marks_after 15 a_busy_redo
      ≡ undone_with 1 ∷ kept ∷ lost ∷ lost ∷ lost ∷ lost ∷ kept ∷ lost ∷ lost ∷ kept
      ∷ lost ∷ lost ∷ kept ∷ undone_with 1 ∷ kept ∷ []
  pub live : get (after 15 a_busy_redo).lives (subchannel 2 1) ≡ Some (fresh 0xC0)

-- a device comes in, is used, and is deleted; both changes are undone and redone
abbrev pub undone_in_turn : Script
undone_in_turn =
    (change_by (added (device_on_1000 0x1004 0x04)), Changed 1)
    ∷ (enables (subchannel 1 4) 0x80 5, code 0)
    ∷ (change_by (deleted (device_key 0x1004)), Changed 2)
    ∷ (orders (subchannel 1 4) Store, code 3)
    ∷ (undo 2, Undone 2)
    ∷ (orders (subchannel 1 4) Store, stored 0x1004 0xC0 0x80 true 5)
    ∷ (undo 1, Undone 1)
    ∷ (redo 1, Redone 1)
    ∷ (orders (subchannel 1 4) Store, stored 0x1004 0xC0 0x80 true 5)
    ∷ (redo 2, Redone 2)
    ∷ (orders (subchannel 1 4) Store, code 3)
    ∷ (undo 2, Undone 2)
    ∷ (orders (subchannel 1 4) Store, stored 0x1004 0xC0 0x80 true 5)
    ∷ []

-- each undo strikes what was not struck before it, and each redo takes back what its own undo
-- struck
pub record UndoneInTurn : Type 0 where
  pub answers : GivesItsAnswers undone_in_turn
  pub both_undone : marks_after 7 undone_in_turn
      ≡ undone_with 1 ∷ undone_with 1 ∷ undone_with 2 ∷ undone_with 2 ∷ kept ∷ undone_with 1 ∷ kept ∷ []
  pub first_redone : marks_after 8 undone_in_turn
      ≡ kept ∷ kept ∷ undone_with 2 ∷ undone_with 2 ∷ kept ∷ kept ∷ kept ∷ kept ∷ []
  pub both_redone : marks_after 10 undone_in_turn
      ≡ kept ∷ kept ∷ kept ∷ kept ∷ kept ∷ lost ∷ kept ∷ kept ∷ lost ∷ kept ∷ []
