-- A list by channel subsystem whose items stand for the subchannel sets 0 to 3 in their order, as in
-- MAXDEV. IOCP User's Guide, RESOURCE statement; that an item may give nothing is own.
use Rattle.std.specs.Prelude.{ℕ, ◌==◌, nat_lt, Bool, if◌then◌else◌, Option, None, Some, List, [], ◌∷◌, filter}
use Rattle.std.specs.List.{filter_map}
use Rattle.std.specs.Option.{option_map}
use Rattle.iocm_values.specs.CssLists.{by_css}
use Rattle.iocm_values.specs.Reading.{◌>>=◌, every_at, gathered}
use Rattle.iocm_values.specs.Value.{Value}

-- what the place of a set gives, if the set is 0 to 3
abbrev pub place_at : {A B : Type 0} → (ℕ → A → Option B) → ℕ → A → Option (Option B)
place_at in_set set place = if nat_lt set 4 then Some (in_set set place) else None

-- of the places of a channel subsystem the first is that of set 0, and so on
abbrev pub set_places_in : {A B : Type 0} → (ℕ → A → Option B) → (A → ℕ) → List A → ℕ → Option (List B)
set_places_in in_set css_of places css = option_map (filter_map (λ x. x))
    (every_at (place_at in_set) 0 (filter (λ p. css_of p == css) places))

-- what the places of all channel subsystems give
abbrev pub by_set : {A B : Type 0} → Bool → (ℕ → Value → Option A) → (ℕ → A → Option B) → (A → ℕ) → Value
    → Option (List B)
by_set may_lack read in_set css_of v =
    by_css may_lack read css_of v >>= λ places. gathered (set_places_in in_set css_of places)
    (0 ∷ 1 ∷ 2 ∷ 3 ∷ 4 ∷ 5 ∷ [])
