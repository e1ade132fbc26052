-- The seats at opening, image by image and cell by cell.
use Rattle.std.proofs.Common.{◌≡◌, ℕ, ◌==◌, List, [], ◌∷◌, ◌++◌, map, filter, Some, None, refl, sym, ap, ◌∙◌}
use Rattle.std.specs.List.{flat_map, filter_map, AllByRecursion}
use Rattle.std.specs.Option.{option_and_then}
use Rattle.std.specs.Map.{keys_of}
use Rattle.std.proofs.lemmas.List.{map-append}
use Rattle.std.proofs.lemmas.List.Elements.{filter-append, filter_map-append}
use Rattle.std.specs.FinMap.{entries}
use Rattle.iocm_types.specs.declared.place.NumberCell.{NumberCell}
use Rattle.iocm_types.specs.declared.sub_id.SubId.{SubId}
use Rattle.iocm_types.specs.declared.view.View.{View}
use Rattle.iocm_model.specs.Machine.Record.{Rec, ImageRecord}
use Rattle.iocm_model.specs.Machine.Configuration.{Configuration, Lookup, lookup_of, as_image, images_of}
use Rattle.iocm_model.specs.Machine.Numbering.{Numbering, cells_of}
use Rattle.iocm_model.specs.Machine.View.{row_at, image_view, view_if_seen, views}
use Rattle.iocm_derive.specs.Sighted.{Sighted}
use Rattle.iocm_seats.specs.Seated.{fresh_seat}
use Rattle.iocm_seats.specs.Listing.{cell_seats, images_among, seats_at, sights_of}
use Rattle.iocm_seats.specs.Taken.{cells_in, taken, IsTaken, Taken}

abbrev Cells : Type 0
Cells = List (NumberCell × ℕ)

pub seats_at-append : (c : Lookup) (i : ImageRecord) (xs ys : Cells)
    → seats_at c i (xs ++ ys) ≡ seats_at c i xs ++ seats_at c i ys
unfolding seats_at
seats_at-append c i xs ys = simp (filter_map-append, map-append)

pub seats_at-more : (c : Lookup) (i : ImageRecord) (e : NumberCell × ℕ) (es : Cells)
    → seats_at c i (e ∷ es) ≡ seats_at c i (e ∷ []) ++ seats_at c i es
seats_at-more c i e es = seats_at-append c i (e ∷ []) es

-- a cell at which the image sees no device has no seat
pub no_view : (c : Lookup) (i : ImageRecord) (e : NumberCell × ℕ) → image_view c i e.0.set e.1 ≡ None
    → seats_at c i (e ∷ []) ≡ []
unfolding seats_at
no_view c i e h = rw h refl

-- no image has one where the device isn't there
pub none_there : (t : Taken) (sights : List Sighted)
    → AllByRecursion (λ (s : Sighted). IsTaken (lookup_of s.records) t) sights
    → t.record_there ≡ None → cell_seats sights (taken t) ≡ []
none_there t [] all none = refl
none_there t (s ∷ sights) all none =
    let first = no_view (lookup_of s.records) s.image (taken t)
    (ap (option_and_then (view_if_seen (lookup_of s.records) s.image.css s.image.name)) (sym all.0 ∙ none)) in
    (λ i. first i ++ none_there t sights all.1 none i)

-- a view has its seat
pub one_view : (c : Lookup) (i : ImageRecord) (e : NumberCell × ℕ) (v : View) → image_view c i e.0.set e.1 ≡ Some v
    → seats_at c i (e ∷ []) ≡ fresh_seat
    (record { image = record { css = i.css; mif = i.mif }; set = e.0.set; number = e.0.number }, v) ∷ []
unfolding seats_at
one_view c i e v h = rw h refl

pub seats_at-nil : (c : Lookup) (i : ImageRecord) → seats_at c i [] ≡ []
unfolding seats_at
seats_at-nil c i = refl

seats-flat_map : (f : ImageRecord → List (SubId × View)) (is : List ImageRecord)
    → map fresh_seat (flat_map f is) ≡ flat_map (λ i. map fresh_seat (f i)) is
seats-flat_map f [] = refl
seats-flat_map f (i ∷ is) =
    map-append fresh_seat (f i) (flat_map f is) ∙ ap (λ xs. map fresh_seat (f i) ++ xs) (seats-flat_map f is)

-- the seats of all images are those of the views
pub all_seats : (c : Configuration) (n : Numbering)
    → flat_map (λ (i : ImageRecord). seats_at (lookup_of c) i (cells_in i.css (entries (cells_of n)))) (images_of c)
    ≡ map fresh_seat (views c n)
unfolding seats_at
all_seats c n = sym (seats-flat_map
    (λ (i : ImageRecord). filter_map (row_at (lookup_of c) i) (cells_in i.css (entries (cells_of n)))) (images_of c))

-- a seat stands under the subchannel of its view
pub seat_keys : (rows : List (SubId × View)) → keys_of (map fresh_seat rows) ≡ keys_of rows
seat_keys [] = refl
seat_keys (row ∷ rows) = ap (λ xs. row.0 ∷ xs) (seat_keys rows)

-- the images of a channel subsystem among a record and others
pub sights-more : (m : Configuration) (css : ℕ) (r : Rec) (rs : List Rec)
    → sights_of m (images_among css (r ∷ rs)) ≡ sights_of m (images_among css (r ∷ []))
    ++ sights_of m (images_among css rs)
sights-more m css r rs =
    ap (λ is. sights_of m (filter (λ (i : ImageRecord). i.css == css) is)) (filter_map-append as_image (r ∷ []) rs)
    ∙ ap (sights_of m) (filter-append (λ (i : ImageRecord). i.css == css) (filter_map as_image (r ∷ []))
    (filter_map as_image rs))
    ∙ map-append (λ (i : ImageRecord). record { records = m; image = i }) (images_among css (r ∷ []))
    (images_among css rs)
