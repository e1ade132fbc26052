-- The images that are asked for, as the code has them.
use Rattle.std.proofs.Common.{◌≡◌, ◌||◌, Bool, List, [], ◌∷◌, map, filter, refl, ap}
use Rattle.std.specs.List.{list_any}
use Rattle.iocm_derive.specs.Sighted.{Sighted}
use Rattle.iocm_filter.specs.Wanted.{Wanted}
use Rattle.iocm_model.specs.Machine.Configuration.{Configuration, images_of, lookup_of, records_of}
use Rattle.iocm_model.specs.Machine.Record.{ImageRecord}
use Rattle.iocm_sight.specs.Seen.{sights_in}
use Rattle.iocm_sight.specs.WantedRows.{wants_image}
use Rattle.iocm_types.specs.declared.key.Key.{Key}
use Rattle.iocm_plan_filter.specs.Connected.{is_of_image, is_of_images}

any_mapped : {A B : Type 0} (p : B → Bool) (f : A → B) (xs : List A)
    → list_any p (map f xs) ≡ list_any (λ x. p (f x)) xs
any_mapped p f [] = refl
any_mapped p f (x ∷ xs) = ap (λ b. p (f x) || b) (any_mapped p f xs)

pub of_sights : (w : Wanted) (c : Configuration) (k : Key)
    → list_any (λ (s : Sighted). is_of_image (lookup_of c) s.image k) (sights_in w c (records_of c))
    ≡ is_of_images w c k
of_sights w c k = any_mapped (λ (s : Sighted). is_of_image (lookup_of c) s.image k)
    (λ (i : ImageRecord). record { records = c; image = i }) (filter (wants_image w) (images_of c))
