-- Lines of each form as they are stated by hand. Bytes by their codes: 10 ends a line.
use Rattle.std.specs.Prelude.{◌≡◌, ℕ, List, [], ◌∷◌, ◌++◌, None, Some, codes, take, true}
use Rattle.std.specs.List.{flat_map}
use Rattle.iocm_types.specs.declared.path_kind.PathKind.TheVariants.{Shared}
use Rattle.iocm_types.specs.declared.sub_id.SubId.{SubId}
use Rattle.iocm_types.specs.declared.view.View.{View}
use Rattle.iocm_model.specs.Machine.Configuration.{Configuration, configuration_of}
use Rattle.iocm_model.specs.Machine.Record.{Rec, path, online}
use Rattle.iocm_seats.specs.declared.view_change.ViewChange.{ViewChange}
use Rattle.iocm_types.specs.declared.live.Function.TheVariants.{Start}
use Rattle.iocm_types.specs.declared.live.Live.{Live}
use Rattle.iocm_types.specs.declared.live.Phase.TheVariants.{Pending}
use Rattle.iocm_reports.specs.Remarks.{live_remark}
use Rattle.iocm_lines.specs.declared.form.Form.TheVariants.{Json}
use Rattle.iocm_reports.specs.Counts.{counted_in, counted_text}
use Rattle.iocm_reports.specs.Deck.{pairs_untold, remark_line}
use Rattle.iocm_reports.specs.Lines.{altered_in, altered_text}

-- a text with the end of its line
abbrev pub line : List ℕ → List ℕ
line text = text ++ 10 ∷ []

-- a subchannel of channel subsystem 0 in set 0
abbrev pub subchannel_of : ℕ → ℕ → SubId
subchannel_of mif number = record { image = record { css = 0; mif = mif }; set = 0; number = number }

-- a device by the paths 50 and 51, both installed
abbrev pub view_of : ℕ → ℕ → View
view_of device available = record { device = device; paths = 0x50 ∷ 0x51 ∷ []; pim = 0xC0; pam = available }

-- a row for each form of lines: another device, one that is gone, one that came, one that is the
-- same, and one that came and went
abbrev pub rows_of_each_form : List ViewChange
rows_of_each_form =
    record { subchannel = subchannel_of 1 3; before = Some (view_of 0x1003 0xC0); after = Some (view_of 0x2000 0xC0) }
    ∷ record { subchannel = subchannel_of 1 4; before = Some (view_of 0x1004 0xC0); after = None }
    ∷ record { subchannel = subchannel_of 2 3; before = None; after = Some (view_of 0x2000 0x80) }
    ∷ record { subchannel = subchannel_of 2 4; before = Some (view_of 0x1004 0); after = Some (view_of 0x1004 0) }
    ∷ record { subchannel = subchannel_of 2 0x1A; before = None; after = None }
    ∷ []

-- their lines, after edits that altered seven subchannels
abbrev pub LinesOfRows : Type 0
LinesOfRows = altered_text 7 rows_of_each_form
    ≡ line (codes "change 1 altered 7")
    ++ (line (codes "  CSS IM SET SUBC DEVN PIM PAM CHPIDS")
    ++ (line (codes "- 0   1  0   0003 1003 C0  C0  50 51")
    ++ (line (codes "+ 0   1  0   0003 2000 C0  C0  50 51")
    ++ (line (codes "- 0   1  0   0004 1004 C0  C0  50 51")
    ++ (line (codes "+ 0   2  0   0003 2000 C0  80  50 51")
    ++ (line (codes "= 0   2  0   0004 1004 C0  00  50 51")
    ++ line (codes "= 0   2  0   001A")))))))

-- the subchannel where another device is seen, as JSON
abbrev pub LinesOfJson : Type 0
LinesOfJson = altered_in Json 1 (take 1 rows_of_each_form)
    ≡ line (codes "{\"altered\":1,\"change\":1,\"type\":\"change\"}")
    ++ line (codes "{\"after\":{\"available\":[\"50\",\"51\"],\"device\":\"2000\",\"installed\":[\"50\",\"51\"],"
    ++ (codes "\"pam\":\"C0\",\"paths\":[\"50\",\"51\"],\"pim\":\"C0\"},"
    ++ (codes "\"before\":{\"available\":[\"50\",\"51\"],\"device\":\"1003\",\"installed\":[\"50\",\"51\"],"
    ++ (codes "\"pam\":\"C0\",\"paths\":[\"50\",\"51\"],\"pim\":\"C0\"},\"css\":0,\"image\":\"0.1\","
    ++ codes "\"number\":\"0003\",\"set\":0,\"subchannel\":\"0.1.0.0003\",\"type\":\"altered\"}"))))

-- the counts of their two images
abbrev pub CountsOfTwoImages : Type 0
CountsOfTwoImages = counted_text 7 rows_of_each_form
    ≡ line (codes "change 1 altered 7")
    ++ (line (codes "image 0.1 gone 1 came 0 changed 1 same 0")
    ++ line (codes "image 0.2 gone 0 came 1 changed 0 same 2"))

-- and as JSON
abbrev pub CountsAsJson : Type 0
CountsAsJson = counted_in Json 7 rows_of_each_form
    ≡ line (codes "{\"altered\":7,\"change\":1,\"type\":\"change\"}")
    ++ (line (codes "{\"came\":0,\"changed\":1,\"gone\":1,\"image\":\"0.1\",\"same\":0,\"type\":\"count\"}")
    ++ line (codes "{\"came\":1,\"changed\":0,\"gone\":0,\"image\":\"0.2\",\"same\":2,\"type\":\"count\"}"))

-- a path with an access list
abbrev pub path_with : ℕ → List (List ℕ) → Rec
path_with number names = path (record {
  css = 0;
  number = number;
  kind = Shared;
  access = names;
  candidates = names;
  carried = [];
})

-- that it is online to an image
abbrev pub online_to : ℕ → List ℕ → Rec
online_to number name = online (record { css = 0; path = number; name = name })

-- of the access list of 50 LPA alone is online, that of 51 is without LPB, and 52 isn't there
abbrev pub some_records : List Rec
some_records =
    path_with 0x50 (codes "LPA" ∷ codes "LPB" ∷ []) ∷ path_with 0x51 (codes "LPA" ∷ [])
    ∷ online_to 0x50 (codes "LPA") ∷ online_to 0x51 (codes "LPA") ∷ online_to 0x51 (codes "LPB")
    ∷ online_to 0x52 (codes "LPA") ∷ []

abbrev pub some_configuration : Configuration
some_configuration = configuration_of some_records

abbrev pub RemarksOnPairs : Type 0
RemarksOnPairs = flat_map (remark_line some_configuration) (pairs_untold some_configuration)
    ≡ line (codes "* path 0.50 isn't online to LPB")
    ++ (line (codes "* path 0.51 is online to LPB")
    ++ line (codes "* path 0.52 is online to LPA"))

-- ---- a subchannel that is enabled, by some of its paths, with a parameter and a status pending

-- the subchannel 001A of the second image of channel subsystem 3, in set 1
abbrev pub some_subchannel : SubId
some_subchannel = record { image = record { css = 3; mif = 2 }; set = 1; number = 0x1A }

-- what it remembers: the status of a start is pending
abbrev pub some_live : Live
some_live = record { enabled = true; lpm = 0xA0; parm = 0xC0FFEE; phase = Pending Start }

abbrev pub RemarkOfALive : Type 0
RemarkOfALive = live_remark (some_subchannel, some_live)
    ≡ codes "* subchannel 3.2.1.001A had lpm A0 ena 1 parm 00C0FFEE scsw 9"
