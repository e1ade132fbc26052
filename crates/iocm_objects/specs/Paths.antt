-- The texts of the paths of a control unit, each with its link as it is written.
-- Bytes by their codes: 44 is a comma, 46 a point, 47 a slash, 58 a colon, 59 a semicolon.
use Rattle.std.specs.Prelude.{ℕ, ◌==◌, if◌then◌else◌, Option, None, Some, List, [], ◌∷◌, ◌++◌, map, filter, length, codes}
use Rattle.std.specs.List.{flat_map, join_with_byte}
use Rattle.iocm_types.specs.declared.link.Link.{Link}
use Rattle.iocm_types.specs.declared.link.Link.TheVariants as link
use Rattle.iocm_types.specs.Print.{hex1, hex2, hex4}
use Rattle.iocm_model.specs.Machine.Numbering.{subsystems}
use Rattle.iocm_words.specs.declared.groups.Member.{Member}
use Rattle.iocm_words.specs.Groups as groups
use Rattle.iocm_words.specs.Words.{joined_word}
use Rattle.iocm_words.specs.declared.paths.LinkedPath.{LinkedPath}

-- a link as it is written, `**` for none; and where nothing is written
abbrev pub link_digits : Link → List ℕ
link_digits link.None = codes "**"
link_digits (link.Short number) = hex2 number
link_digits (link.Long number) = hex4 number

abbrev pub link_text : Option Link → List ℕ
link_text None = codes "none"
link_text (Some l) = link_digits l

-- a path and its link behind a slash, if one is written: 40/6512
abbrev pub link_part : Option Link → List ℕ
link_part None = []
link_part (Some l) = 47 ∷ link_digits l

abbrev pub item_text : LinkedPath → List ℕ
item_text p = hex2 p.path ++ link_part p.link

-- with its channel subsystem: 0.40/6512
abbrev pub path_text : LinkedPath → List ℕ
path_text p = hex1 p.css ++ (46 ∷ item_text p)

-- the paths of a channel subsystem
abbrev pub items_in : List LinkedPath → ℕ → List (List ℕ)
items_in paths css = map item_text (filter (λ (p : LinkedPath). p.css == css) paths)

-- a channel subsystem that has paths is told with these
abbrev pub member_of : List LinkedPath → ℕ → List Member
member_of paths css =
    if length (items_in paths css) == 0 then []
    else record { word = hex1 css; group = join_with_byte 44 (items_in paths css) } ∷ []

abbrev pub members_of : List LinkedPath → List Member
members_of paths = flat_map (member_of paths) subsystems

-- the channel subsystems of a group, and their paths: 0,1:40/6512,41
abbrev pub group_text : List Member → List ℕ → List ℕ
group_text members group = join_with_byte 44 (groups.words_in members group) ++ (58 ∷ group)

-- all paths: 0,1:40/6512,41;2:50
abbrev pub paths_text : List LinkedPath → List ℕ
paths_text paths = joined_word 59 (map (group_text (members_of paths)) (groups.groups_of (members_of paths)))
