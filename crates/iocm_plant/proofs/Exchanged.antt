-- A record that was exchanged in the configuration and in the index of who names whom: the action
-- that takes this back, and the places that it finds.
use Rattle.std.proofs.Common.{◌≡◌, true, ◌||◌, List, [], ◌∷◌, map, Option, Some, None, refl, sym, ap, subst, ◌∙◌}
use Rattle.std.proofs.lemmas.Bool.{or_right}
use Rattle.std.specs.FinMap.{get}
use Rattle.std.specs.List.{list_any, AllByRecursion}
use Rattle.std.specs.Ordering.{eq_by_cmp}
use Rattle.iocm_types.specs.declared.key.Key.{Key}
use Rattle.iocm_types.specs.declared.named.Named.{Named}
use Rattle.iocm_types.specs.declared.naming.Naming.{Naming}
use Rattle.iocm_types.specs.Key.{key_cmp}
use Rattle.iocm_types.specs.Naming.{named_cmp, naming_cmp}
use Rattle.iocm_types.proofs.Found.{ties_itself}
use Rattle.iocm_table.specs.Slots.{Stored, RowsHavePlaces}
use Rattle.iocm_model.specs.Machine.Record.{Rec, key_of}
use Rattle.iocm_model.specs.Machine.Naming.{named_by}
use Rattle.iocm_model.specs.Machine.Configuration.{Configuration, IsKeyed}
use Rattle.iocm_model.specs.Change.Edit.{Action, action_key, config_after, record_after}
use Rattle.iocm_model.specs.Change.Inverse.{action_back}
use Rattle.iocm_model.proofs.Machine.OwnKeys.{keyed_own}
use Rattle.iocm_model.proofs.Change.EditsGoBack.{config_back, back_key, back_record}
use Rattle.iocm_config.specs.Stored as config
use Rattle.iocm_index.specs.Namings.{naming}
use Rattle.iocm_index.proofs.Front.{named_total}
use Rattle.iocm_lookup.specs.Indexed.{names, IsIndexOf}
use Rattle.iocm_plant.specs.Operating.{HasPlaceIn, HasNamingRoom, KeepsPlaces}
use Rattle.iocm_plant.proofs.Between.{naming_room_kept}

-- a record was exchanged by an action, and this one takes it back: the key has a place, and no
-- naming has lost its own
pub record WasExchanged (a again : Action) (old new : config.Stored) (index next : Stored Naming (Unit {0})) : Type
    0 where
  pub keyed : IsKeyed old.records
  pub indexed : IsIndexOf old.records index
  pub placed : RowsHavePlaces naming_cmp index
  pub there : new.records ≡ config_after a old.records
  pub back : again ≡ action_back (action_key a) (get old.records (action_key a)) (record_after a)
  pub key : HasPlaceIn key_cmp new.places (action_key a)
  pub namings : KeepsPlaces naming_cmp index.places next.places

-- things that a record of a configuration names have places in its index
named_places : (t : Stored Naming (Unit {0})) (r : Rec) (things : List Named)
    → ((thing : Named) → list_any (eq_by_cmp named_cmp thing) things ≡ true
    → HasPlaceIn naming_cmp t.places (naming (key_of r) thing))
    → AllByRecursion (HasPlaceIn naming_cmp t.places) (map (naming (key_of r)) things)
named_places t r [] has = tt
named_places t r (thing ∷ things) has = (
  has thing (ap (λ b. b || list_any (eq_by_cmp named_cmp thing) things) (ties_itself named_cmp named_total thing)),
  named_places t r things (λ other among.
      has other (or_right (eq_by_cmp named_cmp other thing) (list_any (eq_by_cmp named_cmp other) things) among)),
)

-- the namings of a record that stands in a configuration have places in its index
pub record_has_room : (c : Configuration) (t : Stored Naming (Unit {0})) (key : Key) → IsKeyed c → IsIndexOf c t
    → RowsHavePlaces naming_cmp t
    → (o : Option Rec) → get c key ≡ o → HasNamingRoom t.places o
record_has_room c t key keyed index have None is = tt
record_has_room c t key keyed index have (Some r) is = named_places t r (named_by r) (λ thing among.
    have (naming (key_of r) thing)
    (index (naming (key_of r) thing) ∙ ap (names thing) (ap (get c) (keyed_own c keyed key r is) ∙ is) ∙ among))

module _ {a again : Action} {old new : config.Stored} {index next : Stored Naming (Unit {0})}
    (x : WasExchanged a again old new index next) where
  -- the way back has the same key
  same_key : action_key again ≡ action_key a
  same_key = ap action_key x.back
      ∙ back_key (action_key a) (get old.records (action_key a)) (record_after a)
      (keyed_own old.records x.keyed (action_key a))

  -- and brings the record that was there
  old_record : record_after again ≡ get old.records (action_key a)
  old_record = ap record_after x.back ∙ back_record (action_key a) (get old.records (action_key a)) (record_after a)

  -- its key has a place
  pub back_has_key : HasPlaceIn key_cmp new.places (action_key again)
  back_has_key = subst (HasPlaceIn key_cmp new.places) (sym same_key) x.key

  -- and so has each naming of its record
  pub back_has_namings : HasNamingRoom next.places (record_after again)
  back_has_namings = subst (HasNamingRoom next.places) (sym old_record)
      (naming_room_kept index.places next.places x.namings (get old.records (action_key a))
      (record_has_room old.records index (action_key a) x.keyed x.indexed x.placed (get old.records (action_key a))
      refl))

  -- it leads back to the configuration from before
  pub config_as_before : (b : Configuration) → b ≡ config_after again new.records → b ≡ old.records
  config_as_before b is = is ∙ (λ i. config_after (x.back i) (x.there i)) ∙ config_back a old.records x.keyed
