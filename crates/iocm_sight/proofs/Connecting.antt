-- The users that the index of a configuration has are the control units that have a path, and the
-- devices on control units.
use Rattle.std.proofs.Common.{◌≡◌, ℕ, Bool, false, ◌||◌, Option, None, Some, List, [], ◌∷◌, map, filter, refl, ap}
use Rattle.std.proofs.Common.{◌∙◌}
use Rattle.std.proofs.lemmas.List.Folds.{list_any-append}
use Rattle.std.specs.List.{filter_map, flat_map, list_any}
use Rattle.std.specs.List.Sorted.{IsStrictlySortedBy}
use Rattle.std.specs.Ordering.{eq_by_cmp}
use Rattle.iocm_types.specs.declared.key.Key.{Key}
use Rattle.iocm_types.specs.declared.key.Key.TheVariants as key
use Rattle.iocm_types.specs.declared.named.Named.{Named}
use Rattle.iocm_types.specs.declared.named.Named.TheVariants as thing
use Rattle.iocm_types.specs.declared.naming.Naming.{Naming}
use Rattle.iocm_types.specs.Key.{key_cmp}
use Rattle.iocm_types.specs.Naming.{naming_cmp}
use Rattle.iocm_table.specs.Slots.{Stored, rows}
use Rattle.iocm_model.specs.Machine.Record.{Rec, key_of}
use Rattle.iocm_model.specs.Machine.Configuration.{Configuration, IsKeyed, lookup_of, records_of}
use Rattle.iocm_index.specs.Namings.{naming, users_in}
use Rattle.iocm_index.proofs.Members.{users_in_order, users_name_it}
use Rattle.iocm_lookup.specs.Indexed.{names, IsIndexOf}
use Rattle.iocm_sight.specs.Connected.{device_key, devices_on, has_path, is_on, unit_number, units_of_path}
use Rattle.iocm_sight.proofs.Keeping.{devices_kept, units_kept}
use Rattle.iocm_sight.proofs.Members.{kept_keys, passes}
use Rattle.iocm_sight.proofs.Naming.{device_is_on, names_one, unit_has}

any_of_parts : {A B : Type 0} (test : B → Bool) (part : A → List B) (xs : List A)
    → list_any test (flat_map part xs) ≡ list_any (λ x. list_any test (part x)) xs
any_of_parts test part [] = refl
any_of_parts test part (x ∷ xs) =
    list_any-append test (part x) (flat_map part xs) ∙ ap (λ b. list_any test (part x) || b) (any_of_parts test part xs)

-- what isn't there names nothing
none_names : (units : List ℕ) → names_one units None ≡ false
none_names [] = refl
none_names (u ∷ us) = none_names us

names_passes : (named : Named) (o : Option Rec) → names named o ≡ passes (λ r. names named (Some r)) o
names_passes named None = refl
names_passes named (Some r) = refl

one_passes : (units : List ℕ) (o : Option Rec) → names_one units o ≡ passes (λ r. names_one units (Some r)) o
one_passes units None = none_names units
one_passes units (Some r) = refl

module _ (c : Configuration) (t : Stored Naming (Unit {0})) (keyed : IsKeyed c) (of : IsIndexOf c t) where
  -- the keys of the records that name a thing
  abbrev pub users_of : Named → List Key
  users_of named = users_in named (rows naming_cmp t)

  uses : (named : Named) (k : Key) → list_any (eq_by_cmp key_cmp k) (users_of named) ≡ names named (lookup_of c k)
  uses named k = users_name_it named (rows naming_cmp t) k ∙ of (naming k named)

  users_are : (named : Named) → users_of named ≡ map key_of (filter (λ r. names named (Some r)) (records_of c))
  users_are named = kept_keys (λ r. names named (Some r)) c keyed (users_of named)
      (users_in_order named (rows naming_cmp t)) (λ k. uses named k ∙ names_passes named (lookup_of c k))

  -- the control units among the users of a path
  pub units_are : (css number : ℕ)
      → filter_map unit_number (users_of (thing.Record (key.Path css number))) ≡ units_of_path c css number
  units_are css number =
      ap (filter_map unit_number) (users_are (thing.Record (key.Path css number)))
      ∙ units_kept (λ r. names (thing.Record (key.Path css number)) (Some r)) (has_path css number)
      (unit_has css number) (records_of c)

  -- the devices of keys in order that are those of the users of control units
  pub devices_are : (units : List ℕ) (keys once : List Key)
      → keys ≡ flat_map (λ unit. users_of (thing.Record (key.Unit unit))) units
      → IsStrictlySortedBy key_cmp once
      → ((k : Key) → list_any (eq_by_cmp key_cmp k) once ≡ list_any (eq_by_cmp key_cmp k) keys)
      → filter_map device_key once ≡ devices_on c units
  devices_are units keys once are rise same =
      let users : ℕ → List Key = λ unit. users_of (thing.Record (key.Unit unit)) in
      let member : (k : Key) → list_any (eq_by_cmp key_cmp k) once
      ≡ passes (λ r. names_one units (Some r)) (lookup_of c k) =
      λ k. same k ∙ ap (list_any (eq_by_cmp key_cmp k)) are ∙ any_of_parts (eq_by_cmp key_cmp k) users units
      ∙ (λ i. list_any (λ unit. uses (thing.Record (key.Unit unit)) k i) units)
      ∙ one_passes units (lookup_of c k) in
      ap (filter_map device_key) (kept_keys (λ r. names_one units (Some r)) c keyed once rise member)
      ∙ devices_kept (λ r. names_one units (Some r)) (is_on units) (device_is_on units) (records_of c)
