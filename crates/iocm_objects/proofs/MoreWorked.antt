-- Objects between two small decks, computed key by key.
use Rattle.std.proofs.Common.{◌≡◌, List, [], ◌∷◌, ◌++◌, refl, ap, ◌∙◌}
use Rattle.std.specs.Fmt.{char_count, digits, padded_integral}
use Rattle.std.specs.FinMap.{entries, get-entries}
use Rattle.std.specs.List.{flat_map}
use Rattle.iocm_types.specs.declared.key.Key.{Key}
use Rattle.iocm_types.specs.declared.key.Key.TheVariants as key
use Rattle.iocm_model.specs.Machine.Configuration.{Configuration, with_keys}
use Rattle.iocm_difference.specs.Walks.{Pair, pairs_of}
use Rattle.iocm_difference.proofs.Worked.{in_order}
use Rattle.iocm_objects.specs.declared.field.Field.{Field}
use Rattle.iocm_objects.specs.declared.object.Change.{Change}
use Rattle.iocm_objects.specs.declared.object.Change.TheVariants.{Added, Deleted, Changed}
use Rattle.iocm_objects.specs.declared.object.Object.{Object}
use Rattle.iocm_objects.specs.Examples.{lpa}
use Rattle.iocm_objects.specs.Fields.{device_fields, limit_fields, path_fields}
use Rattle.iocm_objects.specs.Lines.{lines}
use Rattle.iocm_objects.specs.MoreExamples.{ObjectsAreAsWorked, after, before, device_on_1000, new_deck, old_deck}
use Rattle.iocm_objects.specs.MoreExamples.{path_40}
use Rattle.iocm_objects.specs.Objects.{objects_at}
use Rattle.iocm_objects.specs.Runs.{runs}
use Rattle.iocm_objects.specs.Told.{told_of}

-- an object with these fields
abbrev shown : Key → Change → List Field → List Field → List Object
shown k becomes olds news =
    record { key = k; change = becomes; before = olds; after = news; told = told_of becomes olds news } ∷ []

module _ (c d : Configuration) (e : entries c ≡ with_keys old_deck) (f : entries d ≡ with_keys new_deck) where
  image_at : objects_at c d (key.Image 0 1) ≡ []
  image_at = simp (get-entries, e, f)

  limit_at : objects_at c d (key.Limit 0 0) ≡ shown (key.Limit 0 0) Added [] (limit_fields 16)
  limit_at = simp (get-entries, e, f)

  path_at : objects_at c d (key.Path 0 0x40)
      ≡ shown (key.Path 0 0x40) Changed (path_fields path_40 (lpa ∷ [])) (path_fields path_40 [])
  path_at = simp (get-entries, e, f)

  device_at : objects_at c d (key.Device 0 0x1000)
      ≡ shown (key.Device 0 0x1000) Deleted (device_fields (device_on_1000 0x1000 0)) []
  device_at = simp (get-entries, e, f)

  other_at : objects_at c d (key.Device 0 0x1001) ≡ []
  other_at = simp (get-entries, e, f)

  pair_at : objects_at c d (key.Online 0 0x40 lpa) ≡ []
  pair_at = refl

  worked : ObjectsAreAsWorked c d
  unfolding digits padded_integral char_count
  worked = record {
    differ = ap (λ ps. lines (runs (flat_map (λ (p : Pair). objects_at c d p.0) ps))) (λ i. pairs_of (e i) (f i))
        ∙ (λ i. lines (runs (image_at i ++ (limit_at i ++ (path_at i ++ (device_at i ++ (other_at i ++ (pair_at i ++ []))))))));
    same = simp (get-entries, e);
  }

pub objects_worked : ObjectsAreAsWorked before after
objects_worked = worked before after (in_order old_deck tt) (in_order new_deck tt)
