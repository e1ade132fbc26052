-- The least clash at the unit addresses of the devices at some keys is the first, where of two devices that
-- clash one is at these.
use Rattle.std.proofs.Common.{◌≡◌, ◌⊎◌, inl, inr, ℕ, true, false, nat_eq, eqb-true, Option, None, Some, List, refl, sym}
use Rattle.std.proofs.Common.{subst, ◌∙◌}
use Rattle.std.proofs.lemmas.Bool.{or_cases}
use Rattle.std.specs.List.{list_any}
use Rattle.std.specs.Option.{option_map}
use Rattle.std.specs.FinMap.{get}
use Rattle.iocm_types.specs.declared.key.Key.{Key}
use Rattle.iocm_types.specs.declared.named.Named.TheVariants as thing
use Rattle.iocm_types.specs.declared.naming.Naming.{Naming}
use Rattle.iocm_types.specs.Naming.{naming_cmp}
use Rattle.iocm_table.specs.Slots.{Stored, rows}
use Rattle.iocm_index.proofs.Members.{users_in_order}
use Rattle.iocm_model.specs.Machine.Record.{Rec, DeviceRecord, id, resource, image, limit, path, unit, device, online}
use Rattle.iocm_model.specs.Machine.Record.{key_of}
use Rattle.iocm_model.specs.Machine.Configuration.{Configuration, IsKeyed, lookup_of, records_of}
use Rattle.iocm_model.specs.Rules.EachRule.{breaks_v10}
use Rattle.iocm_model.specs.Rules.FirstBreach.{first_record}
use Rattle.iocm_lookup.specs.Indexed.{IsIndexOf}
use Rattle.iocm_lookup.specs.Among.{least_of, is_one_of, is_so_at}
use Rattle.iocm_lookup.specs.Repeats.{address_in}
use Rattle.iocm_lookup.proofs.RepeatedUsers.{first_is_repeated}
use Rattle.iocm_lookup.proofs.AtMost.{IsAtMost, least_at_most}
use Rattle.iocm_lookup.proofs.Firsts.{IsSoAt, least_so_is_first}
use Rattle.iocm_lookup.proofs.LeastAmong.{each_given_holds, least_among}
use Rattle.iocm_device_rules.specs.Addresses.{unit_address, any_record, clash_beside, clash_with, clash_at}
use Rattle.iocm_device_rules.specs.Among.{AreClashesAt}
use Rattle.iocm_device_rules.proofs.Culprits.{IsCulprit, culprit_found, same_address, is_on_unit, names_own}
use Rattle.iocm_device_rules.proofs.Culprits.{clash_breaks, repeated_not_behind}

module _ (c : Configuration) (t : Stored Naming (Unit {0})) (keyed : IsKeyed c) (of : IsIndexOf c t) where
  address_gives : (a n : ℕ) (k : Key) → clash_beside (lookup_of c) (rows naming_cmp t) a n ≡ Some k
      → IsSoAt (breaks_v10 c) (get c) k
  address_gives a n k is = clash_breaks c t keyed of (thing.Address n a) n (is_on_unit n a) k
      (first_is_repeated (λ q. address_in unit_address (lookup_of c q)) (is_so_at any_record (lookup_of c)) (λ b. false)
      _ (users_in_order (thing.Address n a) (rows naming_cmp t)) k is)

  record_gives : (o : Option Rec) (k : Key) → clash_with (lookup_of c) (rows naming_cmp t) o ≡ Some k
      → IsSoAt (breaks_v10 c) (get c) k
  record_gives (Some (device d)) k is =
      each_given_holds (clash_beside (lookup_of c) (rows naming_cmp t) d.unit_address) (IsSoAt (breaks_v10 c) (get c))
      (address_gives d.unit_address) d.units k is
  record_gives (Some (id x)) k is = cc
  record_gives (Some (resource x)) k is = cc
  record_gives (Some (image x)) k is = cc
  record_gives (Some (limit x)) k is = cc
  record_gives (Some (path x)) k is = cc
  record_gives (Some (unit x)) k is = cc
  record_gives (Some (online x)) k is = cc
  record_gives None k is = cc

  -- a device on the unit of a clash, at its address, gives a key that is not behind it
  given_by : (k : Key) (culprit : IsCulprit c k) (q : Key) (d : DeviceRecord) → get c q ≡ Some (device d)
      → d.unit_address ≡ culprit.one.unit_address
      → list_any (nat_eq culprit.before.unit) d.units ≡ true → IsAtMost (clash_at (lookup_of c) (rows naming_cmp t) q) k
  given_by k culprit q d here own on =
      let n = culprit.before.unit in
      let at_unit = repeated_not_behind c t keyed of (thing.Address n d.unit_address) k culprit
      (names_own n d.unit_address culprit.one (sym own) culprit.before.in_own)
      (names_own n d.unit_address culprit.before.other (same_address c culprit.one culprit.before ∙ sym own)
      culprit.before.in_other) in
      subst (λ (o : Option Rec). IsAtMost (clash_with (lookup_of c) (rows naming_cmp t) o) k) (sym here)
      (least_at_most (clash_beside (lookup_of c) (rows naming_cmp t) d.unit_address) (nat_eq n) k
      (λ m same. subst (λ (m : ℕ). IsAtMost (clash_beside (lookup_of c) (rows naming_cmp t) d.unit_address m) k)
      (eqb-true n m same) at_unit)
      d.units None on)

  pub least_clash_is_first : (keys : List Key) → AreClashesAt keys c
      → least_of (clash_at (lookup_of c) (rows naming_cmp t)) None keys
      ≡ option_map key_of (first_record (breaks_v10 c) (records_of c))
  least_clash_is_first keys clashes = least_so_is_first (breaks_v10 c) c keyed
      (least_of (clash_at (lookup_of c) (rows naming_cmp t)) None keys)
      (each_given_holds (clash_at (lookup_of c) (rows naming_cmp t)) (IsSoAt (breaks_v10 c) (get c))
      (λ q. record_gives (get c q)) keys) least_at
    where
      least_at : (k : Key) (r : Rec) → get c k ≡ Some r → breaks_v10 c r ≡ true
          → IsAtMost (least_of (clash_at (lookup_of c) (rows naming_cmp t)) None keys) k
      least_at k r here so =
          let culprit = culprit_found c keyed k r here so in
          let d = culprit.one in
          let o = culprit.before in
          by culprit (or_cases _ _ (clashes k (key_of (device o.other)) d o.other culprit.here o.there o.so))
        where
          by : (culprit : IsCulprit c k)
              → (is_one_of k keys ≡ true) ⊎ (is_one_of (key_of (device culprit.before.other)) keys ≡ true)
              → IsAtMost (least_of (clash_at (lookup_of c) (rows naming_cmp t)) None keys) k
          by culprit (inl there) =
              least_among (clash_at (lookup_of c) (rows naming_cmp t)) k k
              (given_by k culprit k culprit.one culprit.here refl culprit.before.in_own) keys there
          by culprit (inr there) = let e = culprit.before.other in
              least_among (clash_at (lookup_of c) (rows naming_cmp t)) (key_of (device e)) k
              (given_by k culprit (key_of (device e)) e culprit.before.there (same_address c culprit.one culprit.before)
              culprit.before.in_other) keys there
