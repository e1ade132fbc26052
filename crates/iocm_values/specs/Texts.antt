-- How values are written: lists, the word CSS(n), and lists by channel subsystem.
-- Bytes by their codes: 40 and 41 are parentheses, 44 is a comma.
use Rattle.std.specs.Prelude.{ℕ, ◌==◌, if◌then◌else◌, List, [], ◌∷◌, ◌++◌, map, filter, length, codes}
use Rattle.std.specs.List.{flat_map, join_with_byte}
use Rattle.iocm_types.specs.Print.{hex1}
use Rattle.iocm_values.specs.declared.texts.CssText.{CssText}

-- items between parentheses, with commas between them
abbrev pub list_text : List (List ℕ) → List ℕ
list_text items = 40 ∷ (join_with_byte 44 items ++ 41 ∷ [])

-- CSS(n)
abbrev pub css_text : ℕ → List ℕ
css_text css = codes "CSS(" ++ (hex1 css ++ codes ")")

-- of these items those of a channel subsystem
abbrev pub texts_in : List CssText → ℕ → List (List ℕ)
texts_in items css = map (λ (i : CssText). i.text) (filter (λ (i : CssText). i.css == css) items)

-- the group of a channel subsystem, (CSS(n),..), if it has items
abbrev pub group_texts : List CssText → ℕ → List (List ℕ)
group_texts items css =
    if length (texts_in items css) == 0 then [] else list_text (css_text css ∷ texts_in items css) ∷ []

-- a list by channel subsystem, always in groups, ascending: ((CSS(0),..),(CSS(1),..))
abbrev pub by_css_text : List CssText → List ℕ
by_css_text items = list_text (flat_map (group_texts items) (0 ∷ 1 ∷ 2 ∷ 3 ∷ 4 ∷ 5 ∷ []))
