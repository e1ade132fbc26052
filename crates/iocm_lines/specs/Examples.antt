-- Lines as they are written by hand.
use Rattle.std.specs.Prelude.{◌≡◌, [], ◌∷◌, ◌++◌, codes, None, Some, true, false}
use Rattle.iocm_types.specs.declared.answer.Answer.TheVariants as answer
use Rattle.iocm_types.specs.declared.order.Io.TheVariants as io
use Rattle.iocm_types.specs.declared.key.Key.TheVariants.{Device}
use Rattle.iocm_types.specs.declared.refused.At.TheVariants as at
use Rattle.iocm_types.specs.declared.rule.Rule.TheVariants.{S8, V10, J2}
use Rattle.iocm_types.specs.declared.sub_id.SubId.{SubId}
use Rattle.iocm_types.specs.declared.view.View.{View}
use Rattle.iocm_lines.specs.declared.refused.Input.TheVariants as input
use Rattle.iocm_lines.specs.Accepted.{accepted_value}
use Rattle.iocm_lines.specs.Altered.{altered_value}
use Rattle.iocm_lines.specs.Answer.{answer_value}
use Rattle.iocm_lines.specs.Change.{change_value, count_value}
use Rattle.iocm_lines.specs.Lines.{line}
use Rattle.iocm_lines.specs.Refused.{refused_value}
use Rattle.iocm_lines.specs.Subchannel.{subchannel_value}
use Rattle.iocm_lines.specs.Trace.{trace_value}

-- the subchannel 0003 of the second image in set 0: device 1003 by two paths, of which one is online
abbrev pub some_row : SubId × View
some_row = (
  record { image = record { css = 0; mif = 2 }; set = 0; number = 3 },
  record { device = 0x1003; paths = 0x50 ∷ 0x51 ∷ []; pim = 0xC0; pam = 0x80 },
)

-- the subchannel 0000 of an image in set 2: device FFFE by eight paths, which are all online
abbrev pub row_of_eight : SubId × View
row_of_eight = (
  record { image = record { css = 5; mif = 1 }; set = 2; number = 0 },
  record {
    device = 0xFFFE;
    paths = 0xFF ∷ 0xFE ∷ 0xFD ∷ 0xFC ∷ 0xFB ∷ 0xFA ∷ 0xF9 ∷ 0xF8 ∷ [];
    pim = 0xFF;
    pam = 0xFF;
  },
)

-- the subchannel 0006 of an image: device 00F8 by a path that isn't online
abbrev pub row_offline : SubId × View
row_offline = (
  record { image = record { css = 0; mif = 1 }; set = 0; number = 6 },
  record { device = 0xF8; paths = 3 ∷ []; pim = 0x80; pam = 0 },
)

pub record SubchannelsAsWorked : Type 0 where
  pub one_online : line (subchannel_value some_row (codes "LPB"))
      ≡ codes "{\"available\":[\"50\"],\"css\":0,\"device\":\"1003\",\"image\":\"0.2\","
      ++ (codes "\"installed\":[\"50\",\"51\"],\"name\":\"LPB\",\"number\":\"0003\",\"pam\":\"80\","
      ++ (codes "\"paths\":[\"50\",\"51\"],\"pim\":\"C0\",\"set\":0,\"subchannel\":\"0.2.0.0003\","
      ++ codes "\"type\":\"subchannel\"}\n"))
  pub eight_online : line (subchannel_value row_of_eight (codes "A"))
      ≡ codes "{\"available\":[\"FF\",\"FE\",\"FD\",\"FC\",\"FB\",\"FA\",\"F9\",\"F8\"],\"css\":5,"
      ++ (codes "\"device\":\"FFFE\",\"image\":\"5.1\","
      ++ (codes "\"installed\":[\"FF\",\"FE\",\"FD\",\"FC\",\"FB\",\"FA\",\"F9\",\"F8\"],\"name\":\"A\","
      ++ (codes "\"number\":\"0000\",\"pam\":\"FF\","
      ++ (codes "\"paths\":[\"FF\",\"FE\",\"FD\",\"FC\",\"FB\",\"FA\",\"F9\",\"F8\"],\"pim\":\"FF\","
      ++ codes "\"set\":2,\"subchannel\":\"5.1.2.0000\",\"type\":\"subchannel\"}\n"))))
  pub none_online : line (subchannel_value row_offline (codes "MVSA"))
      ≡ codes "{\"available\":[],\"css\":0,\"device\":\"00F8\",\"image\":\"0.1\",\"installed\":[\"03\"],"
      ++ (codes "\"name\":\"MVSA\",\"number\":\"0006\",\"pam\":\"00\",\"paths\":[\"03\"],\"pim\":\"80\","
      ++ codes "\"set\":0,\"subchannel\":\"0.1.0.0006\",\"type\":\"subchannel\"}\n")

-- a deck that is accepted, what a change does, and a trace
pub record CountsAsWorked : Type 0 where
  pub accepted : line (accepted_value 12) ≡ codes "{\"records\":12,\"type\":\"accepted\"}\n"
  pub trace : line (trace_value 8) ≡ codes "{\"calls\":8,\"type\":\"trace\"}\n"
  pub change : line (change_value 7 1) ≡ codes "{\"altered\":7,\"change\":1,\"type\":\"change\"}\n"
  pub count : line (count_value
      (record { image = record { css = 0; mif = 2 }; gone = 0; came = 1; changed = 4; same = 0 }))
      ≡ codes "{\"came\":1,\"changed\":4,\"gone\":0,\"image\":\"0.2\",\"same\":0,\"type\":\"count\"}\n"

-- refusals at a line of a text, and about a record at a node of a change; and a hostile title
pub record RefusalsAsWorked : Type 0 where
  pub at_line : line (refused_value
      (record {
        number = S8;
        input = Some input.New;
        line = Some 7;
        node = None;
        about = at.Nothing;
        title = codes "a record that comes twice";
      }))
      ≡ codes "{\"input\":\"new\",\"line\":7,\"rule\":\"S8\","
      ++ codes "\"title\":\"a record that comes twice\",\"type\":\"refused\"}\n"
  pub at_node : line (refused_value
      (record {
        number = V10;
        input = Some input.Change;
        line = None;
        node = Some 5;
        about = at.Key (Device 0 0x3002);
        title = codes "two devices at one unit address";
      }))
      ≡ codes "{\"about\":\"device 0.3002\",\"input\":\"change\",\"node\":5,\"rule\":\"V10\","
      ++ codes "\"title\":\"two devices at one unit address\",\"type\":\"refused\"}\n"
  pub hostile : line (refused_value
      (record {
        number = J2;
        input = Some (input.ChangeOf 3);
        line = None;
        node = None;
        about = at.Change 12;
        title = codes "a \"quoted\" \\ title";
      }))
      ≡ codes "{\"about\":\"change 12\",\"input\":\"change 3\",\"rule\":\"J2\","
      ++ codes "\"title\":\"a \\\"quoted\\\" \\\\ title\",\"type\":\"refused\"}\n"

-- a subchannel where something else is seen, one that came, and one that came and went
pub record AlteredAsWorked : Type 0 where
  pub other : line (altered_value (record { image = record { css = 0; mif = 1 }; set = 0; number = 3 })
      (Some (record { device = 0x1003; paths = 0x50 ∷ 0x51 ∷ []; pim = 0xC0; pam = 0xC0 }))
      (Some (record { device = 0x2000; paths = 0x51 ∷ []; pim = 0x80; pam = 0x80 })))
      ≡ codes "{\"after\":{\"available\":[\"51\"],\"device\":\"2000\",\"installed\":[\"51\"],\"pam\":\"80\","
      ++ (codes "\"paths\":[\"51\"],\"pim\":\"80\"},\"before\":{\"available\":[\"50\",\"51\"],\"device\":\"1003\","
      ++ (codes "\"installed\":[\"50\",\"51\"],\"pam\":\"C0\",\"paths\":[\"50\",\"51\"],\"pim\":\"C0\"},\"css\":0,"
      ++ codes "\"image\":\"0.1\",\"number\":\"0003\",\"set\":0,\"subchannel\":\"0.1.0.0003\",\"type\":\"altered\"}\n"))
  pub came : line (altered_value (record { image = record { css = 0; mif = 1 }; set = 0; number = 4 }) None
      (Some (record { device = 0x2001; paths = 0x51 ∷ []; pim = 0x80; pam = 0x80 })))
      ≡ codes "{\"after\":{\"available\":[\"51\"],\"device\":\"2001\",\"installed\":[\"51\"],\"pam\":\"80\","
      ++ (codes "\"paths\":[\"51\"],\"pim\":\"80\"},\"before\":null,\"css\":0,\"image\":\"0.1\",\"number\":\"0004\","
      ++ codes "\"set\":0,\"subchannel\":\"0.1.0.0004\",\"type\":\"altered\"}\n")
  pub came_and_went : line (altered_value
      (record { image = record { css = 0; mif = 1 }; set = 0; number = 4 }) None None)
      ≡ codes "{\"after\":null,\"before\":null,\"css\":0,\"image\":\"0.1\",\"number\":\"0004\",\"set\":0,"
      ++ codes "\"subchannel\":\"0.1.0.0004\",\"type\":\"altered\"}\n"

-- answers of a script: an order, TEST, STORE, a change, a stage, what the machine counts, a refusal
pub record AnswersAsWorked : Type 0 where
  pub code : line (answer_value 6 (answer.Io (io.Code 3)) [])
      ≡ codes "{\"answer\":\"cc\",\"cc\":3,\"line\":6,\"type\":\"answer\"}\n"
  pub status : line (answer_value 7 (answer.Io (io.Status (record { 0 = 9 }))) [])
      ≡ codes "{\"answer\":\"cc\",\"cc\":0,\"line\":7,\"scsw\":\"9\",\"type\":\"answer\"}\n"
  pub stored : line (answer_value 11 (answer.Io (io.Stored (record {
    device = 0x1002;
    pim = 0xC0;
    pam = 0xC1;
    lpm = 0x80;
    enabled = true;
    parm = 7;
    bits = record { 0 = 0 };
  }))) [])
      ≡ codes "{\"answer\":\"cc\",\"cc\":0,\"device\":\"1002\",\"enabled\":true,\"line\":11,\"lpm\":\"80\",\"pam\":\"C1\","
      ++ codes "\"parm\":\"00000007\",\"pim\":\"C0\",\"scsw\":\"0\",\"type\":\"answer\"}\n"
  pub change : line (answer_value 4 (answer.Changed 1) [])
      ≡ codes "{\"answer\":\"change\",\"change\":1,\"line\":4,\"type\":\"answer\"}\n"
  pub undone : line (answer_value 9 (answer.Undone 1) [])
      ≡ codes "{\"answer\":\"undone\",\"change\":1,\"line\":9,\"type\":\"answer\"}\n"
  pub left : line (answer_value 8 (answer.Left 0) [])
      ≡ codes "{\"answer\":\"left\",\"edits\":0,\"line\":8,\"type\":\"answer\"}\n"
  pub nothing : line (answer_value 5 (answer.Ended false) [])
      ≡ codes "{\"answer\":\"nothing\",\"line\":5,\"type\":\"answer\"}\n"
  pub shown : line (answer_value 12 (answer.Shown (record { records = 11; subchannels = 6; standing = 1; undone = 0 })) [])
      ≡ codes "{\"answer\":\"shown\",\"line\":12,\"records\":11,\"standing\":1,\"subchannels\":6,\"type\":\"answer\","
      ++ codes "\"undone\":0}\n"
  pub refused : line (answer_value 3 (answer.Refused (record { rule = J2; node = None; at = at.Change 2 }))
      (codes "a change stands on it"))
      ≡ codes "{\"about\":\"change 2\",\"answer\":\"refused\",\"line\":3,\"rule\":\"J2\","
      ++ codes "\"title\":\"a change stands on it\",\"type\":\"answer\"}\n"
  pub refused_at_node : line (answer_value 2 (answer.Refused (record { rule = V10; node = Some 5; at = at.Nothing }))
      (codes "two devices at one unit address"))
      ≡ codes "{\"answer\":\"refused\",\"line\":2,\"node\":5,\"rule\":\"V10\","
      ++ codes "\"title\":\"two devices at one unit address\",\"type\":\"answer\"}\n"
