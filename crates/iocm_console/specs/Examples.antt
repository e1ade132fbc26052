-- Refusals as they are stated by hand: about a line, a key, a subchannel, a change, and nothing. And the rows
-- of a table in each form. Bytes by their codes: 10 ends a line.
use Rattle.std.specs.Prelude.{◌≡◌, ℕ, List, [], ◌∷◌, ◌++◌, None, Some, codes}
use Rattle.iocm_types.specs.declared.key.Key.TheVariants as key
use Rattle.iocm_types.specs.declared.refused.At.TheVariants as at
use Rattle.iocm_types.specs.declared.rule.Rule.TheVariants.{B1, J2, S4, V14}
use Rattle.iocm_types.specs.declared.sub_id.SubId.{SubId}
use Rattle.iocm_types.specs.Fault as fault
use Rattle.iocm_types.specs.declared.view.View.{View}
use Rattle.iocm_model.specs.Machine.Configuration.{Configuration, configuration_of}
use Rattle.iocm_model.specs.Machine.Record.{Rec, image}
use Rattle.iocm_lines.specs.declared.form.Form.TheVariants.{Text, Json}
use Rattle.iocm_console.specs.Refusal.{of_breach, of_change, of_fault, refusal_text}
use Rattle.iocm_console.specs.Table.{rows_in}

-- the subchannel 001A of the second image of channel subsystem 3, in set 1
abbrev pub some_subchannel : SubId
some_subchannel = record { image = record { css = 3; mif = 2 }; set = 1; number = 0x1A }

pub record RefusalsAsWorked : Type 0 where
  -- a malformed value at line 7, and lack of memory, which has no line
  pub line : refusal_text (of_fault (fault.at S4 7)) ≡ codes "refused S4 line 7"
  pub memory : refusal_text (of_fault fault.memory) ≡ codes "refused M1"
  -- unit 1000 breaks V14
  pub key : refusal_text (of_breach (record { rule = V14; key = key.Unit 0x1000 })) ≡ codes "refused V14 unit 1000"
  -- a subchannel is in use, and the third node of the change tree would alter it
  pub subchannel : refusal_text (of_change (record { rule = B1; node = Some 2; at = at.Subchannel some_subchannel }))
      ≡ codes "refused B1 node 2 subchannel 3.2.1.001A"
  -- a later change is on it
  pub change : refusal_text (of_change (record { rule = J2; node = None; at = at.Change 12 }))
      ≡ codes "refused J2 change 12"

-- ---- the rows of a table

-- two images of channel subsystem 0
abbrev pub two_images : List Rec
two_images = image (record { css = 0; mif = 1; name = codes "LPA" }) ∷ image (record { css = 0; mif = 2; name = codes "LPB" })
    ∷ []

abbrev pub some_configuration : Configuration
some_configuration = configuration_of two_images

-- a row of each: device 1003, of whose paths both are online to LPA and one to LPB
abbrev pub view_of : ℕ → View
view_of available = record { device = 0x1003; paths = 0x50 ∷ 0x51 ∷ []; pim = 0xC0; pam = available }

abbrev pub two_rows : List (SubId × View)
two_rows = (record { image = record { css = 0; mif = 1 }; set = 0; number = 3 }, view_of 0xC0)
    ∷ (record { image = record { css = 0; mif = 2 }; set = 0; number = 4 }, view_of 0x80) ∷ []

pub record TablesAsWorked : Type 0 where
  pub text : rows_in Text some_configuration two_rows
      ≡ codes "CSS IM SET SUBC DEVN PIM PAM CHPIDS\n"
      ++ (codes "0   1  0   0003 1003 C0  C0  50 51\n"
      ++ codes "0   2  0   0004 1003 C0  80  50 51\n")
  -- no heading, and each row with the name of its image
  pub json : rows_in Json some_configuration two_rows
      ≡ codes "{\"available\":[\"50\",\"51\"],\"css\":0,\"device\":\"1003\",\"image\":\"0.1\","
      ++ (codes "\"installed\":[\"50\",\"51\"],\"name\":\"LPA\",\"number\":\"0003\",\"pam\":\"C0\","
      ++ (codes "\"paths\":[\"50\",\"51\"],\"pim\":\"C0\",\"set\":0,\"subchannel\":\"0.1.0.0003\","
      ++ (codes "\"type\":\"subchannel\"}\n"
      ++ (codes "{\"available\":[\"50\"],\"css\":0,\"device\":\"1003\",\"image\":\"0.2\","
      ++ (codes "\"installed\":[\"50\",\"51\"],\"name\":\"LPB\",\"number\":\"0004\",\"pam\":\"80\","
      ++ (codes "\"paths\":[\"50\",\"51\"],\"pim\":\"C0\",\"set\":0,\"subchannel\":\"0.2.0.0004\","
      ++ codes "\"type\":\"subchannel\"}\n"))))))
