-- Lists by channel subsystem: ((CSS(0),..),(CSS(1),..)), one such group alone, or items alone for
-- CSS 0. IOCP User's Guide, PATH and PARTITION keywords; which forms are taken is own.
use Rattle.std.specs.Prelude.{ℕ, ◌==◌, Bool, true, false, is_some, not, if◌then◌else◌, Option}
use Rattle.std.specs.Prelude.{None, Some, List, [], ◌∷◌, filter, length, codes}
use Rattle.std.specs.List.{flat_map, list_any}
use Rattle.std.specs.Option.{option_and_then, option_map_or}
use Rattle.iocm_values.specs.Digits.{decimal_of}
use Rattle.iocm_values.specs.Reading.{◌>>=◌, every, gathered}
use Rattle.iocm_values.specs.Value.{Value, word, list, values, items, behind, before}

-- what stands between the parentheses of the word CSS(..)
abbrev pub inside_css : List ℕ → Option (List ℕ)
inside_css text = option_and_then (before (codes ")")) (behind (codes "CSS(") text)

-- the word CSS(..), whatever stands inside
abbrev pub is_css : List ℕ → Bool
is_css text = is_some (inside_css text)

-- the channel subsystem of the word CSS(n), 0 to 5
abbrev pub css_number : List ℕ → Option ℕ
css_number text = option_and_then (decimal_of 5) (inside_css text)

-- whether the first item is CSS(..)
abbrev pub begins_with_css : List Value → Bool
begins_with_css (word text ∷ items) = is_css text
begins_with_css _ = false

-- there is an item, or a group of the operand may lack items
abbrev pub has_items : Bool → List Value → Bool
has_items may_lack items = if may_lack then true else not (length items == 0)

-- the items behind CSS(n), each read for the channel subsystem n
abbrev pub group : {A : Type 0} → Bool → (ℕ → Value → Option A) → List Value → Option (List A)
group may_lack read (word css ∷ items) =
    if has_items may_lack items then (css_number css >>= λ n. every (read n) items) else None
group may_lack read _ = None

-- such a group in parentheses
abbrev pub group_of : {A : Type 0} → Bool → (ℕ → Value → Option A) → Value → Option (List A)
group_of may_lack read v = items v >>= group may_lack read

-- a group: a list whose first item is CSS(..)
abbrev pub is_group : Value → Bool
is_group (list inner) = option_map_or begins_with_css (values inner) false
is_group _ = false

-- whether the first item is a group
abbrev pub begins_with_group : List Value → Bool
begins_with_group (v ∷ items) = is_group v
begins_with_group _ = false

-- one group alone, groups, or items alone for CSS 0; groups and other items don't mix
abbrev pub by_css_items : {A : Type 0} → Bool → (ℕ → Value → Option A) → List Value → Option (List A)
by_css_items may_lack read items =
    if begins_with_css items then group may_lack read items
    else if begins_with_group items then gathered (group_of may_lack read) items
    else if list_any is_group items then None
    else every (read 0) items

-- with channel subsystems ascending, and each one's in the order of the text
abbrev pub in_css_order : {A : Type 0} → (A → ℕ) → List A → List A
in_css_order css_of xs = flat_map (λ css. filter (λ x. css_of x == css) xs) (0 ∷ 1 ∷ 2 ∷ 3 ∷ 4 ∷ 5 ∷ [])

-- what a list by channel subsystem gives; a word is none
abbrev pub by_css : {A : Type 0} → Bool → (ℕ → Value → Option A) → (A → ℕ) → Value → Option (List A)
by_css may_lack read css_of v = items v >>= by_css_items may_lack read >>= λ xs. Some (in_css_order css_of xs)
