-- What comes along with an edit and no statement says, in comments of a change deck.
-- Bytes by their codes: 10 ends a line.
use Rattle.std.specs.Prelude.{ℕ, List, [], ◌∷◌, ◌++◌, codes}
use Rattle.std.specs.FinMap.{entries}
use Rattle.std.specs.List.{flat_map}
use Rattle.iocm_types.specs.declared.live.Live.{Live}
use Rattle.iocm_types.specs.declared.place.Place.{Place}
use Rattle.iocm_types.specs.declared.sub_id.SubId.{SubId}
use Rattle.iocm_types.specs.Print.{hex1, hex2, hex4}
use Rattle.iocm_model.specs.Change.Edit.{Edit}
use Rattle.iocm_model.specs.Operation.Orders.{bits_of}
use Rattle.iocm_console.specs.Digits.{enabled_text}
use Rattle.iocm_lines.specs.Members.{hex8, subchannel_name}

-- a device by its set and its number
unfoldable pub device_text : Place → List ℕ
device_text p = hex1 p.set ++ (codes "." ++ hex4 p.device)

-- the subchannel number that a device had: * css 0 device 0.1003 had number 0003
abbrev pub number_remark : Place × ℕ → List ℕ
number_remark p =
    codes "* css "
    ++ (hex1 p.0.css ++ (codes " device " ++ (device_text p.0 ++ (codes " had number " ++ hex4 p.1))))

-- what a subchannel remembered, in the words of STORE's answer:
-- * subchannel 0.1.0.0003 had lpm C0 ena 0 parm 00000000 scsw 0
abbrev pub live_remark : SubId × Live → List ℕ
live_remark r = codes "* subchannel " ++ (subchannel_name r.0 ++ (codes " had lpm " ++ (hex2 r.1.lpm
    ++ (codes " ena " ++ (enabled_text r.1.enabled
    ++ (codes " parm " ++ (hex8 r.1.parm ++ (codes " scsw " ++ hex1 (bits_of r.1.phase).0))))))))

-- the line of each
unfoldable pub number_line : Place × ℕ → List ℕ
number_line p = number_remark p ++ 10 ∷ []

unfoldable pub live_line : SubId × Live → List ℕ
live_line r = live_remark r ++ 10 ∷ []

-- the lines of what comes along with an edit: its numbers, then its live records in the order of
-- subchannels
abbrev pub remarks_of : Edit → List ℕ
remarks_of e = flat_map number_line e.places ++ flat_map live_line (entries e.lives)
