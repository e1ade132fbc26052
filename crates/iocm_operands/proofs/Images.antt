-- The names of the images of a channel subsystem.
use Rattle.std.proofs.Common.{◌≡◌, ℕ, ◌==◌, Bool, true, false, List, [], ◌∷◌, map, filter, refl, ap}
use Rattle.std.specs.List.{filter_map}
use Rattle.iocm_model.specs.Machine.Record.{ImageRecord}
use Rattle.iocm_operands.specs.Resource.{name_in}

-- they are what each image gives
pub those_named : (css : ℕ) (images : List ImageRecord)
    → filter_map (name_in css) images
    ≡ map (λ (i : ImageRecord). i.name) (filter (λ (i : ImageRecord). i.css == css) images)
those_named css [] = refl
those_named css (image ∷ images) = by (image.css == css) refl (those_named css images)
  where
    by : (b : Bool) → image.css == css ≡ b
        → filter_map (name_in css) images
        ≡ map (λ (i : ImageRecord). i.name) (filter (λ (i : ImageRecord). i.css == css) images)
        → filter_map (name_in css) (image ∷ images)
        ≡ map (λ (i : ImageRecord). i.name) (filter (λ (i : ImageRecord). i.css == css) (image ∷ images))
    by true here rest = rw here (ap (λ names. image.name ∷ names) rest)
    by false here rest = rw here rest
