-- Paths by channel subsystem: 0,1:40/6512,41/6612;2:50.
-- Bytes by their codes: 44 is a comma, 47 a slash, 58 a colon, 59 a semicolon.
use Rattle.std.specs.Prelude.{ℕ, ◌==◌, if◌then◌else◌, Option, None, Some, List, [], ◌∷◌, ◌++◌, map, filter, length}
use Rattle.std.specs.List.{flat_map, join_with_byte}
use Rattle.iocm_types.specs.declared.link.Link.{Link}
use Rattle.iocm_types.specs.declared.link.Link.TheVariants as link
use Rattle.iocm_types.specs.Print.{hex1, hex2, hex4}
use Rattle.iocm_words.specs.declared.groups.Member.{Member}
use Rattle.iocm_words.specs.declared.paths.LinkedPath.{LinkedPath}
use Rattle.iocm_words.specs.Groups as groups
use Rattle.iocm_words.specs.Words.{joined_word}

-- a link behind a slash, if there is one
abbrev pub link_part : Option Link → List ℕ
link_part None = []
link_part (Some link.None) = []
link_part (Some (link.Short number)) = 47 ∷ hex2 number
link_part (Some (link.Long number)) = 47 ∷ hex4 number

abbrev pub linked_word : LinkedPath → List ℕ
linked_word p = hex2 p.path ++ link_part p.link

-- the paths of a channel subsystem
abbrev pub words_in : List LinkedPath → ℕ → List (List ℕ)
words_in paths css = map linked_word (filter (λ (p : LinkedPath). p.css == css) paths)

-- a channel subsystem that has paths is told with these
abbrev pub member_of : List LinkedPath → ℕ → List Member
member_of paths css =
    if length (words_in paths css) == 0 then []
    else record { word = hex1 css; group = join_with_byte 44 (words_in paths css) } ∷ []

abbrev pub members_of : List LinkedPath → List Member
members_of paths = flat_map (member_of paths) (0 ∷ 1 ∷ 2 ∷ 3 ∷ 4 ∷ 5 ∷ [])

-- the channel subsystems of a group, and their paths
abbrev pub group_word : List Member → List ℕ → List ℕ
group_word members group = join_with_byte 44 (groups.words_in members group) ++ (58 ∷ group)

abbrev pub paths_word : List LinkedPath → List ℕ
paths_word paths = joined_word 59 (map (group_word (members_of paths)) (groups.groups_of (members_of paths)))
