-- Rows that pass a test, and one more.
use Rattle.std.proofs.Common.{◌≡◌, ℕ, ◌+◌, ◌<◌, Bool, true, cond, List, [], ◌∷◌, ◌++◌, length, drop, get_or, filter, map}
use Rattle.std.proofs.Common.{ap, ◌∙◌}
use Rattle.iocm_types.proofs.Lists.{drop-item}
use Rattle.iocm_model.specs.Machine.Configuration.{Configuration}
use Rattle.iocm_model.specs.Machine.Record.{Rec, ImageRecord, image}
use Rattle.iocm_filter.specs.Wanted.{Wanted}
use Rattle.iocm_sight.proofs.OneMore.{next_passes}
use Rattle.iocm_list.specs.ImageRows.{image_row, is_image_listed, rows_in}

pub next_item : {X Y : Type 0} (p : Y → Bool) (f : X → Y) (front : List Y) (xs : List X) (i : ℕ) (x : X)
    → i < length xs → x ≡ get_or xs i x
    → (front ++ filter p (f x ∷ [])) ++ filter p (map f (drop (i + 1) xs)) ≡ front ++ filter p (map f (drop i xs))
next_item p f front xs i x within item =
    next_passes p f front (drop i xs) (drop (i + 1) xs) x (drop-item xs i x within item)

-- the row of an image that is listed
pub listed_row : (w : Wanted) (c : Configuration) (i : ImageRecord) (r : Rec) → r ≡ image i
    → is_image_listed w c i ≡ true → rows_in w c (r ∷ []) ≡ image_row c i ∷ []
listed_row w c i r is listed =
    ap (λ (x : Rec). rows_in w c (x ∷ [])) is ∙ (λ j. map (image_row c) (cond (listed j) (i ∷ []) []))
