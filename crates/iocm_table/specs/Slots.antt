-- The slots of a table: keys that have a place, each with its row or empty; and the rows as a
-- finite map.
use Rattle.std.specs.Prelude.{◌≡◌, ℕ, true, T, List, length, [], ◌∷◌, Option, None, Some, map, filter}
use Rattle.std.specs.List.{list_any}
use Rattle.std.specs.Ordering.{eq_by_cmp, is_le}
use Rattle.std.specs.declared.cmp.Ordering.{Ordering}
use Rattle.std.specs.FinMap.{FinMap, from_sorted, contains_key}
use Rattle.std.specs.BTreeMap.{BTreeMap, IsOrdered}

-- what contracts see of a table: its rows in the order of keys, and the keys that have a place
pub record Stored (K X : Type 0) : Type 0 where
  pub listed : List (K × X)
  pub places : List K

module _ {K X : Type 0} where
  -- a row before others, if the slot has one
  abbrev pub listed_first : K → Option X → List (K × X) → List (K × X)
  listed_first key None es = es
  listed_first key (Some row) es = (key, row) ∷ es

  -- the rows of the slots that aren't empty
  abbrev pub present : List (K × Option X) → List (K × X)
  present [] = []
  present (e ∷ es) = listed_first e.0 e.1 (present es)

  -- a slot for each row
  abbrev pub full_slots : List (K × X) → List (K × Option X)
  full_slots es = map (λ e. (e.0, Some e.1)) es

  -- the rows as a finite map
  abbrev pub rows : (R : K → K → Ordering) → Stored K X → FinMap R X
  rows R t = from_sorted t.listed

  -- a key has a place
  abbrev pub HasPlace : (K → K → Ordering) → Stored K X → K → Type 0
  HasPlace R t key = T (list_any (eq_by_cmp R key) t.places)

  -- a key that has a row has a place
  abbrev pub RowsHavePlaces : (K → K → Ordering) → Stored K X → Type 0
  RowsHavePlaces R t = (key : K) → contains_key (rows R t) key ≡ true → HasPlace R t key

  -- of rows in order those from a key on
  abbrev pub rows_from : (K → K → Ordering) → K → List (K × X) → List (K × X)
  rows_from R key es = filter (λ e. is_le (R key e.0)) es

-- the slots stand in the order of keys, and the rows are counted
pub record AreCounted {K X : Type 0} (R : K → K → Ordering) (slots : BTreeMap K (Option X)) (count : ℕ) : Type 0 where
  pub rise : IsOrdered R slots
  pub counted : count ≡ length (present slots.entries)
