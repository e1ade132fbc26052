-- Each image is found by its place, so it has the name that the configuration gives it.
use Rattle.std.proofs.Common.{◌≡◌, List, [], ◌∷◌, Some, T, ap, subst, ◌∙◌, get_or}
use Rattle.std.specs.Prelude.{All}
use Rattle.std.specs.List.{filter_map}
use Rattle.std.specs.Option.{option_and_then}
use Rattle.std.specs.FinMap.{find, entries_sorted, is_sorted, get-entries}
use Rattle.std.specs.FinMap.Entries.{below_all}
use Rattle.std.proofs.lemmas.List.Elements.{All-nil, All-cons}
use Rattle.iocm_types.specs.declared.key.Key.{Key}
use Rattle.iocm_types.specs.declared.key.Key.TheVariants.{Image}
use Rattle.iocm_types.specs.Key.{key_cmp}
use Rattle.iocm_types.specs.KeyOrder.{keys_total, keys_exact}
use Rattle.iocm_types.proofs.Found.{found_first, found_later}
use Rattle.iocm_types.proofs.Tests.{first_holds, second_holds}
use Rattle.iocm_model.specs.Machine.Record.{Rec, ImageRecord, key_of}
use Rattle.iocm_model.specs.Machine.Record.{id, resource, image, limit, path, unit, device, online}
use Rattle.iocm_model.specs.Machine.Configuration.{Configuration, IsKeyed, as_image, images_of, records_of, with_keys}
use Rattle.iocm_console.specs.Lines.{image_of}
use Rattle.iocm_console.specs.Table.{name_in, name_there}

-- an image is found among entries
abbrev IsFound : List (Key × Rec) → ImageRecord → Type 0
IsFound es i = find key_cmp (Image i.css i.mif) es ≡ Some (image i)

-- also with an entry in front that is below all
later : (r : Rec) (rs : List Rec) (is : List ImageRecord) → T (below_all key_cmp (key_of r) (with_keys rs))
    → All (IsFound (with_keys rs)) is → All (IsFound (with_keys (r ∷ rs))) is
later r rs is below found k d within =
    let i = get_or is k d in
    found_later key_cmp keys_total keys_exact (Image i.css i.mif) (key_of r, r) (with_keys rs) (image i) below
    (found k d within)

found : (rs : List Rec) → T (is_sorted key_cmp (with_keys rs)) → All (IsFound (with_keys rs)) (filter_map as_image rs)
found [] up = All-nil (IsFound [])
found (image i ∷ rs) up =
    All-cons (IsFound (with_keys (image i ∷ rs))) i (filter_map as_image rs)
    (found_first key_cmp keys_total keys_exact (key_of (image i), image i) (with_keys rs))
    (later (image i) rs (filter_map as_image rs) (first_holds _ _ up) (found rs (second_holds _ _ up)))
found (id y ∷ rs) up = later (id y) rs (filter_map as_image rs) (first_holds _ _ up) (found rs (second_holds _ _ up))
found (resource y ∷ rs) up =
    later (resource y) rs (filter_map as_image rs) (first_holds _ _ up) (found rs (second_holds _ _ up))
found (limit y ∷ rs) up = later (limit y) rs (filter_map as_image rs) (first_holds _ _ up) (found rs (second_holds _ _ up))
found (path y ∷ rs) up = later (path y) rs (filter_map as_image rs) (first_holds _ _ up) (found rs (second_holds _ _ up))
found (unit y ∷ rs) up = later (unit y) rs (filter_map as_image rs) (first_holds _ _ up) (found rs (second_holds _ _ up))
found (device y ∷ rs) up =
    later (device y) rs (filter_map as_image rs) (first_holds _ _ up) (found rs (second_holds _ _ up))
found (online y ∷ rs) up =
    later (online y) rs (filter_map as_image rs) (first_holds _ _ up) (found rs (second_holds _ _ up))

pub images_named : (c : Configuration) → IsKeyed c → All (λ i. name_in c (image_of i) ≡ i.name) (images_of c)
images_named c keyed k d within =
    let i = get_or (images_of c) k d in
    ap (λ o. name_there (option_and_then as_image o)) (get-entries c (Image i.css i.mif)
    ∙ ap (find key_cmp (Image i.css i.mif)) keyed
    ∙ found (records_of c) (subst (λ es. T (is_sorted key_cmp es)) keyed (entries_sorted c)) k d within)
