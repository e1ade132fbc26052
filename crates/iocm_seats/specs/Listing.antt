-- The seats at opening: one channel subsystem after the other, and at each number cell all images.
use Rattle.std.specs.Prelude.{ℕ, nat_eq, ◌==◌, Bool, true, false, T, List, [], ◌∷◌, map, filter}
use Rattle.std.specs.FinMap.{insert}
use Rattle.std.specs.List.{flat_map, filter_map, list_any, AllByRecursion}
use Rattle.iocm_types.specs.declared.key.Key.{Key}
use Rattle.iocm_types.specs.declared.key.Key.TheVariants.{Id, Resource, Image}
use Rattle.iocm_types.specs.declared.place.NumberCell.{NumberCell}
use Rattle.iocm_types.specs.declared.sub_id.SubId.{SubId}
use Rattle.iocm_model.specs.Machine.Record.{Rec, ImageRecord}
use Rattle.iocm_model.specs.Machine.Configuration.{Configuration, Lookup, lookup_of, as_image, records_of}
use Rattle.iocm_model.specs.Machine.View.{row_at}
use Rattle.iocm_derive.specs.Sighted.{Sighted}
use Rattle.iocm_seats.specs.declared.seat.Seat.{Seat}
use Rattle.iocm_seats.specs.Seated.{Seats, fresh_seat}
use Rattle.iocm_seats.specs.Taken.{cells_in}

-- the seats of an image at some number cells of its channel subsystem, with their devices
unfoldable pub seats_at : Lookup → ImageRecord → List (NumberCell × ℕ) → List (SubId × Seat)
seats_at c i cells = map fresh_seat (filter_map (row_at c i) cells)

-- the seats of some images at a number cell, and at several
abbrev pub cell_seats : List Sighted → NumberCell × ℕ → List (SubId × Seat)
cell_seats sights e = flat_map (λ (s : Sighted). seats_at (lookup_of s.records) s.image (e ∷ [])) sights

abbrev pub cells_seats : List Sighted → List (NumberCell × ℕ) → List (SubId × Seat)
cells_seats sights cells = flat_map (cell_seats sights) cells

-- the images of a channel subsystem among some records
abbrev pub images_among : ℕ → List Rec → List ImageRecord
images_among css records = filter (λ (i : ImageRecord). i.css == css) (filter_map as_image records)

-- whether a key is past all images, before which are ID and RESOURCE alone
abbrev pub is_past_images : Key → Bool
is_past_images Id = false
is_past_images Resource = false
is_past_images (Image css mif) = false
is_past_images _ = true

-- each of some images as one of a configuration
abbrev pub sights_of : Configuration → List ImageRecord → List Sighted
sights_of c images = map (λ i. record { records = c; image = i }) images

-- the seats of a channel subsystem: at each of its number cells those of its images
abbrev pub subsystem_seats : Configuration → List (NumberCell × ℕ) → ℕ → List (SubId × Seat)
subsystem_seats c cells css = cells_seats (sights_of c (images_among css (records_of c))) (cells_in css cells)

-- the channel subsystem of each image among some records is among these
abbrev pub AreSubsystemsOf : List Rec → List ℕ → Type 0
AreSubsystemsOf records subsystems =
    AllByRecursion (λ (i : ImageRecord). T (list_any (nat_eq i.css) subsystems)) (filter_map as_image records)

-- the seats with one more, that of a row
abbrev pub with_seat : Seats → SubId × Seat → Seats
with_seat seats row = insert seats row.0 row.1
