-- A device that comes in the place of one that is seen alike and names the same things:
-- nothing is affected, and what it needs has places.
use Rattle.std.proofs.Common.{◌≡◌, [], map, Some, sym, ap, subst, ◌∙◌}
use Rattle.std.specs.declared.cmp.Ordering.{Ordering}
use Rattle.std.specs.FinMap.{get}
use Rattle.std.specs.List.{AllByRecursion}
use Rattle.std.specs.List.Sorted.{IsStrictlySortedBy}
use Rattle.iocm_types.specs.Naming.{naming_cmp}
use Rattle.iocm_types.specs.declared.naming.Naming.{Naming}
use Rattle.iocm_table.specs.Slots.{Stored, RowsHavePlaces}
use Rattle.iocm_model.specs.Machine.Record.{Rec, key_of}
use Rattle.iocm_model.specs.Machine.Configuration.{Configuration, IsKeyed}
use Rattle.iocm_model.specs.Change.Edit.{Action, add, delete, modify, action_key, config_after, record_after}
use Rattle.iocm_model.proofs.Machine.OwnKeys.{keyed_own}
use Rattle.iocm_affected.specs.Affected.{AreAllAffected}
use Rattle.iocm_affected.proofs.Unaffected.{none_affected}
use Rattle.iocm_index.specs.Namings.{naming}
use Rattle.iocm_lookup.specs.Indexed.{IsIndexOf}
use Rattle.iocm_plant.specs.Alike.{IsPutAlike}
use Rattle.iocm_plant.specs.Operating.{HasPlaceIn, HasNamingRoom}
use Rattle.iocm_plant.proofs.Exchanged.{record_has_room}

-- nothing is in order
pub nothing_rises : {K : Type 0} (R : K → K → Ordering) → IsStrictlySortedBy R []
unfolding IsStrictlySortedBy
nothing_rises R = tt

-- the record that an action puts in stands under the action's key
own_key : (a : Action) (r : Rec) → record_after a ≡ Some r → key_of r ≡ action_key a
own_key (add s) r is = let same : s ≡ r = cc in ap key_of (sym same)
own_key (delete key) r is = cc
own_key (modify s) r is = let same : s ≡ r = cc in ap key_of (sym same)

module _ (c : Configuration) (a : Action) (keyed : IsKeyed c)
    (x : IsPutAlike (get c (action_key a)) (record_after a)) where
  -- nothing is affected
  pub nothing_affected : AreAllAffected c (config_after a c) [] []
  nothing_affected = none_affected c (action_key a) (record_after a) keyed (own_key a) x.alike.seen.before
      x.alike.seen.after
      (x.was_there ∙ ap Some x.alike.seen.old_is) (x.is_there ∙ ap Some x.alike.seen.new_is) x.alike.seen.units
      x.alike.seen.candidates

  -- both records stand under one key
  one_key : key_of x.old ≡ key_of x.new
  one_key = keyed_own c keyed (action_key a) x.old x.was_there ∙ sym (own_key a x.new x.is_there)

  -- what the new one names has places in the index
  pub alike_has_room : (t : Stored Naming (Unit {0})) → IsIndexOf c t → RowsHavePlaces naming_cmp t
      → HasNamingRoom t.places (record_after a)
  alike_has_room t index have =
      subst (HasNamingRoom t.places) (sym x.is_there)
      (subst (AllByRecursion (HasPlaceIn naming_cmp t.places)) (λ i. map (naming (one_key i)) (x.alike.named i))
      (record_has_room c t (action_key a) keyed index have (Some x.old) x.was_there))
