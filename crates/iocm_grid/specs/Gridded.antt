-- What contracts see of a grid: the rows by subchannel, and the subchannels that have a place.
use Rattle.std.specs.Prelude.{◌≡◌, ℕ, ◌+◌, ◌/◌, ◌%◌, ◌<◌, true, T, List, [], ◌∷◌, ◌++◌, Option, None, Some}
use Rattle.std.specs.List.{list_any}
use Rattle.std.specs.Ordering.{eq_by_cmp}
use Rattle.std.specs.FinMap.{FinMap, contains_key, from_entries, len}
use Rattle.iocm_types.specs.declared.sub_id.SubId.{SubId}
use Rattle.iocm_types.specs.SubId.{sub_id_cmp}
use Rattle.iocm_grid.specs.Levels.{Levels}

-- the rows by subchannel
abbrev pub Rows : Type 0 → Type 0
Rows X = FinMap sub_id_cmp X

pub record Gridded (X : Type 0) : Type 0 where
  pub rows : Rows X
  pub places : List SubId

-- a subchannel has a place
abbrev pub HasPlace : {X : Type 0} → Gridded X → SubId → Type 0
HasPlace g x = T (list_any (eq_by_cmp sub_id_cmp x) g.places)

-- a subchannel that has a row has a place
abbrev pub RowsHavePlaces : {X : Type 0} → Gridded X → Type 0
RowsHavePlaces g = (x : SubId) → contains_key g.rows x ≡ true → HasPlace g x

-- what is made of each item of a list and of its index, from n on
abbrev pub each_from : {Y W : Type 0} → (ℕ → Y → List W) → ℕ → List Y → List W
each_from f n [] = []
each_from f n (y ∷ ys) = f n y ++ each_from f (n + 1) ys

-- the subchannel of a channel subsystem and a set whose slot has this index: 15 images for each
-- number
abbrev pub subchannel : ℕ → ℕ → ℕ → SubId
subchannel css set i = record { image = record { css = css; mif = i % 15 + 1 }; set = set; number = i / 15 }

module _ {X : Type 0} where
  -- what is made of each subchannel that has a place, and of its slot
  abbrev pub each_slot : {W : Type 0} → (SubId → Option X → List W) → Levels X → List W
  each_slot f levels =
      each_from (λ css sets. each_from (λ set slots.
      each_from (λ i slot. f (subchannel css set i) slot) 0 slots) 0 sets) 0 levels

  -- the row of a slot that isn't empty
  abbrev pub row_in : SubId → Option X → List (SubId × X)
  row_in x None = []
  row_in x (Some row) = (x, row) ∷ []

  abbrev pub rows_in : Levels X → Rows X
  rows_in levels = from_entries (each_slot row_in levels)

  abbrev pub places_in : Levels X → List SubId
  places_in levels = each_slot (λ x slot. x ∷ []) levels

  abbrev pub gridded : Levels X → Gridded X
  gridded levels = record { rows = rows_in levels; places = places_in levels }

-- the numbers of a subchannel are in their ranges
pub record IsInRange (x : SubId) : Type 0 where
  pub css : x.image.css < 6
  pub no_zero : 0 < x.image.mif
  pub mif : x.image.mif < 16
  pub set : x.set < 4
  pub number : x.number < 65536

-- the rows are counted, and those of subchannels
pub record IsCounted {X : Type 0} (levels : Levels X) (count : ℕ) : Type 0 where
  pub counted : count ≡ len (rows_in levels)
  pub in_range : (x : SubId) → contains_key (rows_in levels) x ≡ true → IsInRange x
