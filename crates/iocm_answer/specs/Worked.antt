-- Lines of answers, as they were worked by hand. Most of them are in the runs of examples/
-- (`NAME.ran`).
use Rattle.std.specs.Prelude.{◌≡◌, ℕ, true, false, List, [], ◌∷◌, ◌++◌, codes, Some, None}
use Rattle.iocm_types.specs.declared.answer.Answer.{Answer}
use Rattle.iocm_types.specs.declared.answer.Answer.TheVariants.{Io, Begun, Ended, Held}
use Rattle.iocm_types.specs.declared.answer.Answer.TheVariants.{Changed, Staged, Left, Aborted, Undone, Redone}
use Rattle.iocm_types.specs.declared.answer.Answer.TheVariants.{Shown, Refused}
use Rattle.iocm_types.specs.declared.key.Key.TheVariants.{Device, Online}
use Rattle.iocm_types.specs.declared.order.Io.TheVariants as io
use Rattle.iocm_types.specs.declared.order.Stored.{Stored}
use Rattle.iocm_types.specs.declared.refused.At.{At}
use Rattle.iocm_types.specs.declared.refused.At.TheVariants.{Key, Subchannel, Change, Nothing}
use Rattle.iocm_types.specs.declared.rule.Rule.{Rule}
use Rattle.iocm_types.specs.declared.rule.Rule.TheVariants.{V4, E2, E3, B1, J2, O1, M1}
use Rattle.iocm_types.specs.declared.sub_id.SubId.{SubId}
use Rattle.iocm_answer.specs.AnswerText.{answer_line}

-- an answer to this line of a script is printed by this text, and then the line ends
abbrev pub IsPrinted : ℕ → Answer → List ℕ → Type 0
IsPrinted line a text = answer_line line a ≡ text ++ 10 ∷ []

-- condition codes, and what TEST gives: start, halt and clear, with status pending
pub record Codes : Type 0 where
  pub accepted : IsPrinted 1 (Io (io.Code 0)) (codes "1 cc 0")
  pub pending : IsPrinted 5 (Io (io.Code 1)) (codes "5 cc 1")
  pub busy : IsPrinted 6 (Io (io.Code 2)) (codes "6 cc 2")
  pub not_operational : IsPrinted 13 (Io (io.Code 3)) (codes "13 cc 3")
  pub started : IsPrinted 7 (Io (io.Status (record { 0 = 9 }))) (codes "7 cc 0 scsw 9")
  pub halted : IsPrinted 8 (Io (io.Status (record { 0 = 10 }))) (codes "8 cc 0 scsw A")
  pub cleared : IsPrinted 9 (Io (io.Status (record { 0 = 12 }))) (codes "9 cc 0 scsw C")

-- subchannels as STORE gives them: idle, not enabled, and one of which all parts differ
abbrev pub idle_one : Stored
idle_one =
    record {
      device = 0x1002;
      pim = 0xC0;
      pam = 0xC0;
      lpm = 0x80;
      enabled = true;
      parm = 7;
      bits = record { 0 = 0 };
    }

abbrev pub fresh_one : Stored
fresh_one =
    record {
      device = 0x1000;
      pim = 0xC0;
      pam = 0x80;
      lpm = 0xC0;
      enabled = false;
      parm = 0;
      bits = record { 0 = 0 };
    }

abbrev pub one_at_work : Stored
one_at_work =
    record {
      device = 0xF;
      pim = 0xE0;
      pam = 0x0A;
      lpm = 0;
      enabled = true;
      parm = 0xFEDC0A98;
      bits = record { 0 = 1 };
    }

-- what STORE gives of them
pub record WhatStoreGives : Type 0 where
  pub idle : IsPrinted 11 (Io (io.Stored idle_one))
      (codes "11 cc 0 dev 1002 pim C0 pam C0 lpm 80 ena 1 parm 00000007 scsw 0")
  pub fresh : IsPrinted 7 (Io (io.Stored fresh_one))
      (codes "7 cc 0 dev 1000 pim C0 pam 80 lpm C0 ena 0 parm 00000000 scsw 0")
  pub at_work : IsPrinted 100 (Io (io.Stored one_at_work))
      (codes "100 cc 0 dev 000F pim E0 pam 0A lpm 00 ena 1 parm FEDC0A98 scsw 1")

-- what a device reported, and steps that a change in stages holds
pub record Events : Type 0 where
  pub begun : IsPrinted 7 (Begun true) (codes "7 active")
  pub not_begun : IsPrinted 8 (Begun false) (codes "8 nothing")
  pub ended : IsPrinted 6 (Ended true) (codes "6 ended")
  pub not_ended : IsPrinted 10 (Ended false) (codes "10 nothing")
  pub held : IsPrinted 8 Held (codes "8 held")

-- what operators asked for
pub record Changes : Type 0 where
  pub changed : IsPrinted 4 (Changed 1) (codes "4 change 1")
  pub staged : IsPrinted 4 (Staged 2) (codes "4 staged 2")
  pub left : IsPrinted 9 (Left 1) (codes "9 left 1")
  pub none_left : IsPrinted 13 (Left 0) (codes "13 left 0")
  pub aborted : IsPrinted 14 Aborted (codes "14 aborted")
  pub undone : IsPrinted 9 (Undone 1) (codes "9 undone 1")
  pub redone : IsPrinted 24 (Redone 2) (codes "24 redone 2")
  pub large : IsPrinted 1000 (Changed 4294967295) (codes "1000 change 4294967295")
  pub shown : IsPrinted 12 (Shown (record { records = 12; subchannels = 8; standing = 0; undone = 1 }))
      (codes "12 records 12 subchannels 8 standing 0 undone 1")

-- a subchannel of image 1 of channel subsystem 0, in set 0, and one where all parts differ from it
abbrev pub near_one : SubId
near_one = record { image = record { css = 0; mif = 1 }; set = 0; number = 3 }

abbrev pub far_one : SubId
far_one = record { image = record { css = 5; mif = 15 }; set = 2; number = 0x10AB }

-- a refusal at this node of a change tree, and one at none
abbrev pub refused_in : ℕ → Rule → At → Answer
refused_in node rule at = Refused (record { rule = rule; node = Some node; at = at })

abbrev pub refused : Rule → At → Answer
refused rule at = Refused (record { rule = rule; node = None; at = at })

-- refusals about a record, a subchannel, a change or nothing; and lack of memory
pub record Refusals : Type 0 where
  pub busy : IsPrinted 4 (refused_in 0 B1 (Subchannel near_one)) (codes "4 refused B1 node 0 subchannel 0.1.0.0003")
  pub not_there : IsPrinted 2 (refused_in 2 E2 (Key (Device 0 0x2000))) (codes "2 refused E2 node 2 device 0.2000")
  pub broken : IsPrinted 2 (refused_in 10 V4 (Key (Online 0 0x52 (codes "LPA"))))
      (codes "2 refused V4 node 10 online 0.52.LPA")
  pub empty_choose : IsPrinted 1 (refused_in 0 E3 Nothing) (codes "1 refused E3 node 0")
  pub busy_undo : IsPrinted 14 (refused B1 (Subchannel far_one)) (codes "14 refused B1 subchannel 5.F.2.10AB")
  pub stood_on : IsPrinted 3 (refused J2 (Change 2)) (codes "3 refused J2 change 2")
  pub staging : IsPrinted 14 (refused O1 Nothing) (codes "14 refused O1")
  pub no_memory : IsPrinted 3 (refused M1 Nothing) (codes "3 refused M1")
