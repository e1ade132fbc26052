-- What a loop keeps of a list, item by item.
use Rattle.std.proofs.Common.{◌≡◌, ℕ, ◌+◌, ◌<◌, List, [], ◌∷◌, ◌++◌, length, get_or, take, Option, Some, None, refl}
use Rattle.std.specs.List.{filter_map}
use Rattle.std.proofs.lemmas.List.{take_more, append-nil}
use Rattle.std.proofs.lemmas.List.Elements.{filter_map-append}

-- an item that gives something
pub kept_more : {A B : Type 0} (h : A → Option B) (xs : List A) (i : ℕ) (x : A) (y : B) → i < length xs
    → x ≡ get_or xs i x
    → h x ≡ Some y → filter_map h (take (i + 1) xs) ≡ filter_map h (take i xs) ++ y ∷ []
kept_more h xs i x y within item is =
    rw (take_more xs i x within, ← item, filter_map-append h (take i xs) (x ∷ []), is) refl

-- an item that gives nothing
pub kept_same : {A B : Type 0} (h : A → Option B) (xs : List A) (i : ℕ) (x : A) → i < length xs → x ≡ get_or xs i x
    → h x ≡ None → filter_map h (take (i + 1) xs) ≡ filter_map h (take i xs)
kept_same h xs i x within item is =
    rw (take_more xs i x within, ← item, filter_map-append h (take i xs) (x ∷ []), is)
    (append-nil (filter_map h (take i xs)))

pub ruleset filter_maps = (kept_more, kept_same)
