-- Lines of records and of edits as they are written by hand.
use Rattle.std.specs.Prelude.{◌≡◌, [], ◌∷◌, ◌++◌, codes, None, Some, true}
use Rattle.iocm_types.specs.declared.key.Key.TheVariants as key
use Rattle.iocm_types.specs.declared.link.Link.TheVariants as link
use Rattle.iocm_types.specs.declared.live.Phase.TheVariants.{StartActive}
use Rattle.iocm_types.specs.declared.path_kind.PathKind.TheVariants.{Shared}
use Rattle.iocm_model.specs.Change.Edit.{add, delete, modify}
use Rattle.iocm_model.specs.Machine.Record as kinds
use Rattle.iocm_model.specs.Machine.Record.{CarriedOperand}
use Rattle.serde_json.specs.Written.{compact_text}
use Rattle.iocm_lines.specs.Lines.{line}
use Rattle.iocm_record_lines.specs.Edits.{edit_value}
use Rattle.iocm_record_lines.specs.Records.{record_line_value}
use Rattle.iocm_record_lines.specs.Undo.{place_value, state_value}

-- an operand without a keyword whose text has a quote, a backslash and a byte below a blank
abbrev pub hostile : CarriedOperand
hostile = record { keyword = None; text = 39 ∷ 34 ∷ 92 ∷ 1 ∷ 39 ∷ [] }

abbrev pub typed : CarriedOperand
typed = record { keyword = Some (codes "TYPE"); text = codes "FC" }

-- each kind of record
pub record RecordsAsWorked : Type 0 where
  pub id : line (record_line_value (key.Id, kinds.id (typed ∷ hostile ∷ [])))
      ≡ codes "{\"key\":\"id\",\"record\":{\"kind\":\"id\",\"operands\":[{\"keyword\":\"TYPE\",\"text\":\"FC\"},"
      ++ codes "{\"text\":\"'\\\"\\\\\\u0001'\"}]},\"type\":\"record\"}\n"
  pub resource : line (record_line_value (key.Resource, kinds.resource []))
      ≡ codes "{\"key\":\"resource\",\"record\":{\"kind\":\"resource\",\"operands\":[]},\"type\":\"record\"}\n"
  pub image : line (record_line_value
      (key.Image 0 15, kinds.image (record { css = 0; mif = 15; name = codes "LPA" })))
      ≡ codes "{\"key\":\"image 0.F\",\"record\":{\"css\":0,\"image\":\"0.F\",\"kind\":\"image\",\"name\":\"LPA\"},"
      ++ codes "\"type\":\"record\"}\n"
  pub limit : line (record_line_value
      (key.Limit 5 2, kinds.limit (record { css = 5; set = 2; limit = 65280 })))
      ≡ codes "{\"key\":\"limit 5.2\",\"record\":{\"css\":5,\"kind\":\"limit\",\"limit\":65280,\"set\":2},"
      ++ codes "\"type\":\"record\"}\n"
  pub path : line (record_line_value (
    key.Path 0 0x51,
    kinds.path (record {
      css = 0;
      number = 0x51;
      kind = Shared;
      access = codes "LPA" ∷ [];
      candidates = codes "LPA" ∷ codes "LPB" ∷ [];
      carried = [];
    }),
  ))
      ≡ codes "{\"key\":\"path 0.51\",\"record\":{\"access\":[\"LPA\"],\"candidates\":[\"LPA\",\"LPB\"],\"css\":0,"
      ++ codes "\"kind\":\"path\",\"operands\":[],\"path\":\"51\",\"use\":\"shared\"},\"type\":\"record\"}\n"
  -- a path with a short link, one with a link of two asterisks, one with a long link, and one without
  pub unit : line (record_line_value (
    key.Unit 0x1000,
    kinds.unit (record {
      number = 0x1000;
      paths = record { css = 0; path = 0x50 } ∷ record { css = 0; path = 0x51 } ∷ record { css = 1; path = 0xFE }
          ∷ record { css = 2; path = 3 } ∷ [];
      ranges = record { start = 0; count = 16 } ∷ record { start = 0x20; count = 1 } ∷ [];
      links = record { css = 0; link = link.Short 0x1A } ∷ record { css = 0; link = link.None }
          ∷ record { css = 1; link = link.Long 0x104 } ∷ [];
      cuadd = Some 1;
      carried = [];
    }),
  ))
      ≡ codes "{\"key\":\"unit 1000\",\"record\":{\"cuadd\":\"01\",\"kind\":\"unit\",\"operands\":[],\"paths\":["
      ++ (codes "{\"css\":0,\"link\":\"1A\",\"path\":\"50\"},{\"css\":0,\"link\":null,\"path\":\"51\"},"
      ++ (codes "{\"css\":1,\"link\":\"0104\",\"path\":\"FE\"},{\"css\":2,\"path\":\"03\"}],\"unit\":\"1000\","
      ++ codes "\"unitadd\":[{\"count\":16,\"first\":\"00\"},{\"count\":1,\"first\":\"20\"}]},\"type\":\"record\"}\n"))
  -- a device that no image may use
  pub device : line (record_line_value (
    key.Device 1 0x1003,
    kinds.device (record {
      set = 1;
      number = 0x1003;
      units = 0x1000 ∷ 0x2000 ∷ [];
      unit_address = 3;
      candidates = Some [];
      carried = [];
    }),
  ))
      ≡ codes "{\"key\":\"device 1.1003\",\"record\":{\"address\":\"03\",\"candidates\":[],\"device\":\"1003\","
      ++ (codes "\"kind\":\"device\",\"operands\":[],\"set\":1,\"units\":[\"1000\",\"2000\"]},"
      ++ codes "\"type\":\"record\"}\n")
  pub online : line (record_line_value
      (key.Online 0 0x50 (codes "LPA"), kinds.online (record { css = 0; path = 0x50; name = codes "LPA" })))
      ≡ codes "{\"key\":\"online 0.50.LPA\",\"record\":{\"css\":0,\"kind\":\"online\",\"name\":\"LPA\","
      ++ codes "\"path\":\"50\"},\"type\":\"record\"}\n"
  -- an image that comes, a limit that changes, a pair that goes
  pub added : line (edit_value None (add (kinds.image (record { css = 0; mif = 1; name = codes "LPA" }))))
      ≡ codes "{\"after\":{\"css\":0,\"image\":\"0.1\",\"kind\":\"image\",\"name\":\"LPA\"},\"before\":null,"
      ++ codes "\"key\":\"image 0.1\",\"type\":\"edit\",\"verb\":\"ADD\"}\n"
  pub modified : line (edit_value (Some (kinds.limit (record { css = 0; set = 0; limit = 4 })))
      (modify (kinds.limit (record { css = 0; set = 0; limit = 8 }))))
      ≡ codes "{\"after\":{\"css\":0,\"kind\":\"limit\",\"limit\":8,\"set\":0},"
      ++ (codes "\"before\":{\"css\":0,\"kind\":\"limit\",\"limit\":4,\"set\":0},\"key\":\"limit 0.0\","
      ++ codes "\"type\":\"edit\",\"verb\":\"MODIFY\"}\n")
  pub deleted : line (edit_value
      (Some (kinds.online (record { css = 0; path = 0x50; name = codes "LPA" }))) (delete (key.Online 0 0x50 (codes "LPA"))))
      ≡ codes "{\"after\":null,\"before\":{\"css\":0,\"kind\":\"online\",\"name\":\"LPA\",\"path\":\"50\"},"
      ++ codes "\"key\":\"online 0.50.LPA\",\"type\":\"edit\",\"verb\":\"DELETE\"}\n"
  -- a subchannel number that a device had, and what a subchannel remembered: a start in progress
  pub number : compact_text (place_value (record { css = 0; set = 1; device = 0x1003 }, 3))
      ≡ codes "{\"css\":0,\"device\":\"1003\",\"number\":\"0003\",\"set\":1}"
  pub state : compact_text (state_value (
    record { image = record { css = 0; mif = 1 }; set = 0; number = 3 },
    record { parm = 7; enabled = true; lpm = 0xC0; phase = StartActive },
  ))
      ≡ codes "{\"enabled\":true,\"lpm\":\"C0\",\"parm\":\"00000007\",\"scsw\":\"1\","
      ++ codes "\"subchannel\":\"0.1.0.0003\"}"
