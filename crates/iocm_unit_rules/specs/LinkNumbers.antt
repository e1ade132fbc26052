-- The addresses that units have on their paths, each as one number: the channel subsystem, the path,
-- the link there and the CUADD. Two units that share a link and a CUADD have a number in common.
use Rattle.std.specs.Prelude.{ℕ, ◌+◌, ◌*◌, ◌==◌, if◌then◌else◌, get_or, List, [], ◌∷◌, map}
use Rattle.std.specs.List.{flat_map}
use Rattle.iocm_types.specs.declared.css_path.CssPath.{CssPath}
use Rattle.iocm_types.specs.declared.link.Link.{Link}
use Rattle.iocm_types.specs.declared.link.Link.TheVariants as link
use Rattle.iocm_model.specs.Machine.Numbering.{subsystems}
use Rattle.iocm_model.specs.Machine.Record.{Rec, UnitRecord, unit}
use Rattle.iocm_model.specs.Rules.EachRule.{links_in, linked_paths, cuadd_or_zero}

-- a link: none, then those of two digits, then those of four
abbrev pub link_number : Link → ℕ
link_number link.None = 0
link_number (link.Short a) = 65536 + a
link_number (link.Long a) = 131072 + a

-- a path of a channel subsystem with its link, for a CUADD
abbrev pub number_on : ℕ → ℕ → ℕ × Link → ℕ
number_on css cuadd p = ((css * 256 + p.0) * 262144 + link_number p.1) * 256 + cuadd

-- those of a unit in a channel subsystem
abbrev pub numbers_in : UnitRecord → ℕ → List ℕ
numbers_in u css = map (number_on css (cuadd_or_zero u)) (linked_paths css u)

-- that of a unit on a path, with the link at a place of those in the channel subsystem; on a path of
-- another channel subsystem there is none
abbrev pub number_if_on : ℕ → UnitRecord → CssPath → ℕ → List ℕ
number_if_on css u p place =
    if p.css == css then number_on css (cuadd_or_zero u) (p.path, get_or (links_in css u.links) place link.None) ∷ []
    else []

-- those of a unit record; other records have none
abbrev pub link_numbers : Rec → List ℕ
link_numbers (unit u) = flat_map (numbers_in u) subsystems
link_numbers _ = []
