-- What is told of the paths of a control unit that differ: PATH -0.40/6512 +0.44/6512, and the links of paths that
-- stay: LINK 0,1.43 6613 -> 6614.
-- Bytes by their codes: 44 is a comma, 46 a point.
use Rattle.std.specs.Prelude.{ℕ, Bool, not, is_some, ◌==◌, ◌&&◌, if◌then◌else◌, Option, None, Some, List, [], ◌∷◌, ◌++◌}
use Rattle.std.specs.Prelude.{filter, map, length, codes}
use Rattle.std.specs.Cmp.Lexicographic.{pointwise}
use Rattle.std.specs.List.{filter_map, flat_map, join_with_byte}
use Rattle.std.specs.Option.{option_eq}
use Rattle.iocm_types.specs.declared.css_path.CssPath.{CssPath}
use Rattle.iocm_types.specs.Print.{hex1, hex2}
use Rattle.iocm_model.specs.Rules.EachRule.{same_link}
use Rattle.iocm_difference.specs.Same.{same_css_path}
use Rattle.iocm_words.specs.declared.groups.Member.{Member}
use Rattle.iocm_words.specs.Groups as groups
use Rattle.iocm_objects.specs.declared.told.Told.{Told}
use Rattle.iocm_objects.specs.declared.told.Told.TheVariants as told
use Rattle.iocm_words.specs.declared.paths.LinkedPath.{LinkedPath}
use Rattle.iocm_objects.specs.Differing.{arrow, went_and_came}
use Rattle.iocm_objects.specs.Paths.{link_text, path_text, paths_text}

-- ---- which paths went, came and stay

abbrev pub is_one_place : LinkedPath → LinkedPath → Bool
is_one_place p q = p.css == q.css && p.path == q.path

-- the first among paths that is at the place of another
abbrev pub at_place : LinkedPath → List LinkedPath → Option LinkedPath
at_place p [] = None
at_place p (q ∷ qs) = if is_one_place q p then Some q else at_place p qs

abbrev pub is_there : List LinkedPath → LinkedPath → Bool
is_there others p = is_some (at_place p others)

-- the texts of the paths that aren't among others
abbrev pub texts_without : List LinkedPath → List LinkedPath → List (List ℕ)
texts_without others paths = map path_text (filter (λ p. not (is_there others p)) paths)

-- the places of those that are
abbrev pub kept_place : List LinkedPath → LinkedPath → Option CssPath
kept_place others p = if is_there others p then Some (record { css = p.css; path = p.path }) else None

abbrev pub kept : List LinkedPath → List LinkedPath → List CssPath
kept others paths = filter_map (kept_place others) paths

-- the paths that stay do so in their order
abbrev pub keep_order : List LinkedPath → List LinkedPath → Bool
keep_order old new = pointwise same_css_path (kept new old) (kept old new)

-- ---- what is told

abbrev pub words : List ℕ → List ℕ → Told
words name text = told.Words name text

-- what went and came, if anything did
abbrev pub moves : List (List ℕ) → List (List ℕ) → List Told
moves went came =
    if length went == 0 && length came == 0 then []
    else words (codes "PATH") (went_and_came (codes "PATH") went came) ∷ []

-- all paths, where those that stay are in another order
abbrev pub told_places : List LinkedPath → List LinkedPath → List Told
told_places old new =
    if keep_order old new then moves (texts_without new old) (texts_without old new)
    else words (codes "PATH") (arrow (codes "PATH") (paths_text old) (paths_text new)) ∷ []

-- a path that stays with another link: its channel subsystem, and .43 6613 -> 6614
abbrev pub member : LinkedPath → LinkedPath → Member
member p q = record {
  word = hex1 p.css;
  group = arrow (46 ∷ hex2 p.path) (link_text p.link) (link_text q.link);
}

abbrev pub link_member : LinkedPath → LinkedPath → List Member
link_member p q = if option_eq same_link p.link q.link then [] else member p q ∷ []

abbrev pub link_member_if : LinkedPath → Option LinkedPath → List Member
link_member_if p None = []
link_member_if p (Some q) = link_member p q

abbrev pub link_members : List LinkedPath → List LinkedPath → List Member
link_members new old = flat_map (λ p. link_member_if p (at_place p new)) old

-- paths of one number in several channel subsystems with the same links are told together
abbrev pub link_words : List Member → List ℕ → List ℕ
link_words members group = codes "LINK " ++ (join_with_byte 44 (groups.words_in members group) ++ group)

abbrev pub told_link : List Member → List ℕ → Told
told_link members group = words (codes "LINK") (link_words members group)

abbrev pub told_links : List LinkedPath → List LinkedPath → List Told
told_links old new = map (told_link (link_members new old)) (groups.groups_of (link_members new old))

abbrev pub told_paths : List LinkedPath → List LinkedPath → List Told
told_paths old new = told_places old new ++ told_links old new
