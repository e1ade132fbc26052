-- Edits of devices and online records leave all other records, and the numbers of all other
-- devices.
use Rattle.std.proofs.Common.{◌≡◌, ◌<◌, ℕ, Bool, true, false, cond, not, ◌||◌, Option, None, Some, is_some, ◌⊎◌, inl}
use Rattle.std.proofs.Common.{inr, List, [], ◌∷◌, map, refl, sym, ap, subst, ◌∙◌, arith}
use Rattle.std.proofs.lemmas.Bool.{or_cases, or_parts, or_right}
use Rattle.std.proofs.lemmas.List.Folds.{list_any-append}
use Rattle.std.specs.List.{flat_map}
use Rattle.std.specs.Ordering.{eq_by_cmp}
use Rattle.std.specs.FinMap.{get, contains_key}
use Rattle.iocm_types.specs.declared.key.Key.{Key}
use Rattle.iocm_types.specs.declared.key.Key.TheVariants as key
use Rattle.iocm_types.specs.declared.place.Place.{Place}
use Rattle.iocm_types.specs.Key.{key_cmp}
use Rattle.iocm_types.specs.Place.{place_cmp}
use Rattle.iocm_types.specs.KeyOrder.{keys_total, keys_exact}
use Rattle.iocm_types.proofs.Found.{ties_itself}
use Rattle.iocm_types.proofs.Parts.{untied}
use Rattle.iocm_types.proofs.Tests.{absent}
use Rattle.iocm_model.specs.Machine.Record.{Rec, id, resource, image, limit, path, unit, device, online}
use Rattle.iocm_model.specs.Machine.Configuration.{Configuration, IsKeyed, Lookup, lookup_of}
use Rattle.iocm_model.specs.Machine.Numbering.{Numbering, subsystems, sets, is_empty, is_record_reached, is_reached_at}
use Rattle.iocm_model.specs.Machine.Numbering.{reached_devices}
use Rattle.iocm_model.specs.Machine.PathList.{unit_record_paths}
use Rattle.iocm_model.specs.Operation.State.{State}
use Rattle.iocm_model.specs.Change.Edit.{Edit, action_key, record_after, state_after}
use Rattle.iocm_model.specs.Change.Renumbering.{numbers_after}
use Rattle.iocm_model.specs.Change.Runs.{state_after_all}
use Rattle.iocm_model.proofs.Change.RunsGoBack.{keyed_after}
use Rattle.iocm_model.proofs.Maps.Cells.{get_with_value}
use Rattle.iocm_model.proofs.Numbers.Changed.{numbers_after_are_exact, stayers_keep_theirs}
use Rattle.iocm_model.proofs.Numbers.InOrder.{IsAt, is_at, is_one_of as is_there}
use Rattle.iocm_model.proofs.Numbers.Opening.{reached_places_are_of_devices}
use Rattle.iocm_lookup.specs.Among.{is_one_of}
use Rattle.iocm_rules.specs.Near.{is_near_key, AreNear, keys_edited, NearEditsKeepTheRest}

-- ---- places

-- numbers that are all below a bound
abbrev AreBelow : ℕ → List ℕ → Type 0
AreBelow bound [] = Unit {0}
AreBelow bound (i ∷ is) = (i < bound) × AreBelow bound is

-- what holds of each place of each part below a bound holds of all
of_parts_below : (P : Place → Type 0) (part : ℕ → List Place) (bound : ℕ)
    → ((i : ℕ) → i < bound → (p : Place) → is_there p (part i) ≡ true → P p)
    → (is : List ℕ) → AreBelow bound is → (p : Place) → is_there p (flat_map part is) ≡ true → P p
of_parts_below P part bound each [] below p h = cc
of_parts_below P part bound each (i ∷ is) below p h =
    by (or_cases _ _ (sym (list_any-append (eq_by_cmp place_cmp p) (part i) (flat_map part is)) ∙ h))
    (of_parts_below P part bound each is below.1 p)
  where
    by : ((is_there p (part i) ≡ true) ⊎ (is_there p (flat_map part is) ≡ true))
        → (is_there p (flat_map part is) ≡ true → P p) → P p
    by (inl e) more = each i below.0 p e
    by (inr e) more = more e

-- a place that is reached is in a channel subsystem and a set of a machine
record IsInRange (p : Place) : Type 0 where
  css : p.css < 6
  set : p.set < 4

in_range : (c : Configuration) (p : Place) → is_reached_at c p ≡ true → IsInRange p
in_range c = of_parts_below IsInRange
    (λ css. flat_map (λ set. map (λ d. record { css = css; set = set; device = d }) (reached_devices c css set)) sets) 6
    (λ css low. of_parts_below IsInRange
    (λ set. map (λ d. record { css = css; set = set; device = d }) (reached_devices c css set)) 4
    (λ set few p there. within css set p low few (is_at css set (reached_devices c css set) p there)) sets
    (omega arith, (omega arith, (omega arith, (omega arith, tt)))))
    subsystems (omega arith, (omega arith, (omega arith, (omega arith, (omega arith, (omega arith, tt))))))
  where
    within : (css set : ℕ) (p : Place) → css < 6 → set < 4 → IsAt css set (reached_devices c css set) p → IsInRange p
    within css set p low few at =
        record { css = let same = at.css_is in omega arith; set = let same = at.set_is in omega arith }

-- what reaches a device by its record rests on unit records alone
same_reach : (c d : Lookup) → ((n : ℕ) → c (key.Unit n) ≡ d (key.Unit n)) → (css : ℕ) (o : Option Rec)
    → is_record_reached c css o ≡ is_record_reached d css o
same_reach c d same css None = refl
same_reach c d same css (Some (device x)) =
    λ i. not (is_empty (flat_map (λ n. unit_record_paths css (same n i)) x.units))
same_reach c d same css (Some (id x)) = refl
same_reach c d same css (Some (resource x)) = refl
same_reach c d same css (Some (image x)) = refl
same_reach c d same css (Some (limit x)) = refl
same_reach c d same css (Some (path x)) = refl
same_reach c d same css (Some (unit x)) = refl
same_reach c d same css (Some (online x)) = refl

-- a place is reached in one configuration where it is in another with the same units and the same
-- device there
module _ (c d : Configuration) (c_keyed : IsKeyed c) (d_keyed : IsKeyed d)
    (units : (n : ℕ) → get c (key.Unit n) ≡ get d (key.Unit n)) where
  reached_too : (p : Place) → get c (key.Device p.set p.device) ≡ get d (key.Device p.set p.device)
      → is_reached_at c p ≡ true → is_reached_at d p ≡ true
  reached_too p same there =
      let range = in_range c p there in
      reached_places_are_of_devices d p d_keyed range.css range.set
      ∙ sym (ap (is_record_reached (lookup_of d) p.css) same)
      ∙ sym (same_reach (lookup_of c) (lookup_of d) units p.css (get c (key.Device p.set p.device)))
      ∙ sym (reached_places_are_of_devices c p c_keyed range.css range.set)
      ∙ there

implied_both : (a b : Bool) → (a ≡ true → b ≡ true) → (b ≡ true → a ≡ true) → a ≡ b
implied_both true b there back = sym (there refl)
implied_both false true there back = back refl
implied_both false false there back = refl

same_places : (c d : Configuration) → IsKeyed c → IsKeyed d → ((n : ℕ) → get c (key.Unit n) ≡ get d (key.Unit n))
    → (p : Place)
    → get c (key.Device p.set p.device) ≡ get d (key.Device p.set p.device) → is_reached_at c p ≡ is_reached_at d p
same_places c d c_keyed d_keyed units p same = implied_both _ _ (reached_too c d c_keyed d_keyed units p same)
    (reached_too d c d_keyed c_keyed (λ n. sym (units n)) p (sym same))

-- ---- one edit

-- a number stays where the place stays, or was none and is none
number_kept : (c d : Configuration) (carried : List (Place × ℕ)) (n : Numbering) (p : Place)
    → ((q : Place) → contains_key n q ≡ is_reached_at c q)
    → is_reached_at c p ≡ is_reached_at d p → get (numbers_after d carried n) p ≡ get n p
number_kept c d carried n p exact same = by (get n p) refl
  where
    by : (o : Option ℕ) → get n p ≡ o → get (numbers_after d carried n) p ≡ o
    by (Some k) is = stayers_keep_theirs d carried n p k (sym same ∙ sym (exact p) ∙ ap is_some is) is
    by None is = absent (get (numbers_after d carried n) p)
        (numbers_after_are_exact d carried n p ∙ sym same ∙ sym (exact p) ∙ ap is_some is)

module _ (e : Edit) (s : State) where
  -- a record at another key is as it was
  record_kept : (k : Key) → eq_by_cmp key_cmp k (action_key e.action) ≡ false
      → get (state_after e s).config k ≡ get s.config k
  record_kept k other = get_with_value keys_total keys_exact s.config (action_key e.action) (record_after e.action) k
      ∙ ap (λ b. cond b (record_after e.action) (get s.config k)) other

-- ---- edits one after the other

-- the key of a unit is not near
unit_is_other : (n : ℕ) (k : Key) → is_near_key k ≡ true → eq_by_cmp key_cmp (key.Unit n) k ≡ false
unit_is_other n k near = untied key_cmp keys_exact (key.Unit n) k (λ same. let no = ap is_near_key same in cc)

near_front : (k : Key) (ks : List Key) → AreNear (k ∷ ks) → is_near_key k ≡ true
near_front k ks near = near k (ap (λ b. b || is_one_of k ks) (ties_itself key_cmp keys_total k))

near_rest : (k : Key) (ks : List Key) → AreNear (k ∷ ks) → AreNear ks
near_rest k ks near q there = near q (or_right (eq_by_cmp key_cmp q k) _ there)

-- what edits leave
record AreLeft (s t : State) (keys : List Key) : Type 0 where
  elsewhere : (k : Key) → is_one_of k keys ≡ false → get t.config k ≡ get s.config k
  numbers : (p : Place) → is_one_of (key.Device p.set p.device) keys ≡ false → get t.numbers p ≡ get s.numbers p

left_after : (es : List Edit) (s : State) → IsKeyed s.config
    → ((p : Place) → contains_key s.numbers p ≡ is_reached_at s.config p) → AreNear (keys_edited es)
    → AreLeft s (state_after_all es s) (keys_edited es)
left_after [] s keyed exact near = record { elsewhere = λ k off. refl; numbers = λ p off. refl }
left_after (e ∷ es) s keyed exact near =
    let t = state_after e s in
    let t_keyed = keyed_after e.action s.config keyed in
    let front = near_front (action_key e.action) (keys_edited es) near in
    let rest = left_after es t t_keyed (numbers_after_are_exact t.config e.places s.numbers)
    (near_rest (action_key e.action) (keys_edited es) near) in
    record {
      elsewhere = λ k off. let parts = or_parts _ _ off in rest.elsewhere k parts.1 ∙ record_kept e s k parts.0;
      numbers = λ p off. let parts = or_parts _ _ off in rest.numbers p parts.1
          ∙ number_kept s.config t.config e.places s.numbers p exact (same_places s.config t.config keyed t_keyed
          (λ n. sym (record_kept e s (key.Unit n) (unit_is_other n (action_key e.action) front))) p
          (sym (record_kept e s (key.Device p.set p.device) parts.0)));
    }

pub near_edits_keep_the_rest : NearEditsKeepTheRest
near_edits_keep_the_rest es s keys sound held same near =
    let left = left_after es s sound.keyed sound.numbered.exact (subst AreNear same near) in
    record {
      before = s.config;
      numbers_before = s.numbers;
      keyed_before = sound.keyed;
      held = held;
      near = near;
      elsewhere = λ k off. left.elsewhere k (sym (ap (is_one_of k) same) ∙ off);
      numbers_elsewhere = λ p off. left.numbers p (sym (ap (is_one_of (key.Device p.set p.device)) same) ∙ off);
    }
