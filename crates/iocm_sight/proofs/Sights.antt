-- The images among records, one record after the other.
use Rattle.std.proofs.Common.{◌≡◌, List, [], ◌∷◌, ◌++◌, map, refl, ap}
use Rattle.std.specs.List.{cons_option, filter_map}
use Rattle.std.proofs.lemmas.List.{map-append}
use Rattle.std.proofs.lemmas.List.Elements.{filter-append, filter_map-append}
use Rattle.iocm_model.specs.Machine.Configuration.{Configuration, lookup_of}
use Rattle.iocm_model.specs.Machine.Record.{Rec, DeviceRecord, ImageRecord}
use Rattle.iocm_filter.specs.Wanted.{Wanted}
use Rattle.iocm_sight.specs.Seen.{seen_from, seen_of, sights_in}

pub sights-append : (w : Wanted) (c : Configuration) (xs ys : List Rec)
    → sights_in w c (xs ++ ys) ≡ sights_in w c xs ++ sights_in w c ys
sights-append w c xs ys = simp (filter_map-append, filter-append, map-append)

-- what such images see of a device
pub seen_by_sights : (w : Wanted) (c : Configuration) (d : DeviceRecord) (is : List ImageRecord)
    → filter_map (seen_from w d) (map (λ i. record { records = c; image = i }) is)
    ≡ filter_map (seen_of w (lookup_of c) d) is
seen_by_sights w c d [] = refl
seen_by_sights w c d (i ∷ is) = ap (cons_option (seen_of w (lookup_of c) d i)) (seen_by_sights w c d is)
