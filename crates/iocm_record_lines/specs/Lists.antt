-- Lists of values of one form.
use Rattle.std.specs.Prelude.{List, [], ◌∷◌}
use Rattle.serde_json.specs.Data.{Data, array, Items, no_items, item}

abbrev pub items_of : {A : Type 0} → (A → Data) → List A → Items
items_of value [] = no_items
items_of value (x ∷ xs) = item (value x) (items_of value xs)

abbrev pub list_of : {A : Type 0} → (A → Data) → List A → Data
list_of value xs = array (items_of value xs)
