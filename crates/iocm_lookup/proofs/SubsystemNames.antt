-- The names of the images of a channel subsystem, gathered by a walk over the records.
use Rattle.std.proofs.Common.{◌≡◌, ℕ, Bool, true, false, ◌||◌, is_some, Option, List, [], ◌∷◌, T, refl, sym, ap, subst}
use Rattle.std.proofs.Common.{◌∙◌}
use Rattle.std.specs.FinMap.{entries, is_sorted}
use Rattle.std.specs.List.{list_any}
use Rattle.std.specs.Option.{option_map}
use Rattle.std.specs.Ordering.{is_le}
use Rattle.iocm_types.specs.declared.key.Key.{Key}
use Rattle.iocm_types.specs.declared.key.Key.TheVariants as key
use Rattle.iocm_types.specs.Key.{key_cmp}
use Rattle.iocm_types.proofs.Tests.{second_holds}
use Rattle.iocm_table.specs.Slots.{rows_from}
use Rattle.iocm_model.specs.Machine.Record.{Rec, key_of}
use Rattle.iocm_model.specs.Machine.Configuration.{Configuration, IsKeyed, records_of}
use Rattle.iocm_lookup.specs.Images.{is_named_in, is_past_images, has_name, AreNamesIn}
use Rattle.iocm_lookup.proofs.NamedImages.{images_before, images_from, image_in_subsystem}
use Rattle.iocm_lookup.specs.Entries.{AreOwn, in_entries}
use Rattle.iocm_lookup.proofs.Walks.{IsLeft, left_from, none_from, first_of_any}

-- the names so far, and those of the entries that are left, are those of all records
pub record IsGathering (css : ℕ) (records : List Rec) (names : List (Option (List ℕ))) (es : List (Key × Rec)) : Type
    0 where
  pub own : AreOwn es
  pub up : T (is_sorted key_cmp es)
  pub sum : (name : List ℕ)
      → (has_name name names || list_any (is_named_in css name) (in_entries es))
      ≡ list_any (is_named_in css name) records

module _ (css : ℕ) where
  any_left : (name : List ℕ) (records : List Rec) (es : List (Key × Rec)) → IsLeft (is_named_in css name) records es
      → list_any (is_named_in css name) (in_entries es) ≡ list_any (is_named_in css name) records
  any_left name records es left = let so = is_named_in css name in
      sym (first_of_any so (in_entries es)) ∙ ap (λ r. is_some (option_map key_of r)) left.same
      ∙ first_of_any so records

  -- from the first key on
  pub gathering_begins : (c : Configuration) (first : Key) → IsKeyed c
      → ((mif : ℕ) → is_le (key_cmp first (key.Image css mif)) ≡ true)
      → (names : List (Option (List ℕ))) (rows : List (Key × Rec)) → names ≡ []
      → rows ≡ rows_from key_cmp first (entries c)
      → IsGathering css (records_of c) names rows
  gathering_begins c first keyed before names rows none walked =
      subst (λ ns. IsGathering css (records_of c) ns rows) (sym none)
      (subst (IsGathering css (records_of c) []) (sym walked) (record {
        own = (left []).own;
        up = (left []).up;
        sum = λ name. any_left name (records_of c) _ (left name);
      }))
    where
      left : (name : List ℕ) → IsLeft (is_named_in css name) (records_of c) (rows_from key_cmp first (entries c))
      left name = left_from (is_named_in css name) first (images_from css name first before) c keyed

  shift : (x y z : Bool) → ((x || y) || z) ≡ (x || (y || z))
  shift true y z = refl
  shift false y z = refl

  -- one record more
  pub gathering_more : (records : List Rec) (names next : List (Option (List ℕ))) (e : Key × Rec)
      (es : List (Key × Rec))
      → ((name : List ℕ) → has_name name next ≡ (has_name name names || is_named_in css name e.1))
      → IsGathering css records names (e ∷ es) → IsGathering css records next es
  gathering_more records names next e es with_it before = record {
    own = before.own.1;
    up = second_holds _ _ before.up;
    sum = λ name. ap (λ b. b || list_any (is_named_in css name) (in_entries es)) (with_it name)
        ∙ shift (has_name name names) (is_named_in css name e.1) _ ∙ before.sum name;
  }

  last : (b c d : Bool) → d ≡ false → (b || d) ≡ c → b ≡ c
  last true c d is sum = sum
  last false c d is sum = sym is ∙ sum

  -- after the last record
  pub gathering_ends : (c : Configuration) (names : List (Option (List ℕ))) → IsGathering css (records_of c) names []
      → AreNamesIn c css names
  gathering_ends c names before name =
      last _ _ false refl (before.sum name) ∙ image_in_subsystem css name (records_of c)

  -- at a key that is past the images
  pub gathering_stops : (c : Configuration) (names : List (Option (List ℕ))) (e : Key × Rec) (es : List (Key × Rec))
      → is_past_images css e.0 ≡ true → IsGathering css (records_of c) names (e ∷ es) → AreNamesIn c css names
  gathering_stops c names e es past before name =
      last _ _ _ none (before.sum name) ∙ image_in_subsystem css name (records_of c)
    where
      none : list_any (is_named_in css name) (in_entries (e ∷ es)) ≡ false
      none = let so = is_named_in css name in
          sym (first_of_any so (in_entries (e ∷ es)))
          ∙ ap is_some (sym (none_from so (is_past_images css) (images_before css name) (in_entries (e ∷ es)) e es past
          (record { own = before.own; up = before.up; same = refl })))
