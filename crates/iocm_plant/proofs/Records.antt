-- A record is put in or taken out: the index stays that of the configuration.
use Rattle.std.proofs.Common.{◌≡◌, ℕ, Bool, true, false, cond, not, ◌&&◌, ◌||◌, List, [], ◌∷◌, ◌++◌, map, unwrap_or}
use Rattle.std.proofs.Common.{Option, Some, None, refl, sym, ap, ◌∙◌}
use Rattle.std.specs.List.{list_any}
use Rattle.std.specs.Ordering.{eq_by_cmp, is_eq, ordering_then}
use Rattle.std.specs.declared.cmp.Ordering.{Ordering}
use Rattle.std.specs.declared.cmp.Ordering.TheVariants.{Less, Equal, Greater}
use Rattle.std.specs.FinMap.{get, insert, remove, get-insert, get-remove}
use Rattle.iocm_types.specs.declared.key.Key.{Key}
use Rattle.iocm_types.specs.declared.named.Named.{Named}
use Rattle.iocm_types.specs.declared.naming.Naming.{Naming}
use Rattle.iocm_types.specs.Key.{key_cmp}
use Rattle.iocm_types.specs.Naming.{named_cmp, naming_cmp}
use Rattle.iocm_types.specs.KeyOrder.{keys_total, keys_exact}
use Rattle.iocm_types.proofs.Found.{same_key}
use Rattle.iocm_table.specs.Slots.{Stored}
use Rattle.iocm_model.specs.Machine.Record.{Rec, key_of}
use Rattle.iocm_model.specs.Machine.Naming.{named_by, unit_named, address_named, image_named}
use Rattle.iocm_model.specs.Machine.Configuration.{Configuration, IsKeyed}
use Rattle.iocm_model.proofs.Machine.OwnKeys.{keyed_own}
use Rattle.iocm_index.specs.Namings.{naming, is_naming_of, is_linked}
use Rattle.iocm_lookup.specs.Indexed.{names, IsIndexOf}
use Rattle.iocm_affected.specs.Alike.{IsSeenAlike}
use Rattle.iocm_plant.specs.Alike.{address_of, AreAlike, IsPutAlike}

-- ---- the namings of a record

tied_parts : (r s : Ordering) → is_eq (ordering_then r s) ≡ (is_eq r && is_eq s)
tied_parts Less s = refl
tied_parts Equal s = refl
tied_parts Greater s = refl

apart_or : (a b t : Bool) → ((a && t) || (b && t)) ≡ ((a || b) && t)
apart_or true b true = refl
apart_or true true false = refl
apart_or true false false = refl
apart_or false b t = refl

one_naming : (key : Key) (n : Naming) (things : List Named)
    → list_any (eq_by_cmp naming_cmp n) (map (naming key) things)
    ≡ (list_any (eq_by_cmp named_cmp n.named) things && eq_by_cmp key_cmp n.user key)
one_naming key n [] = refl
one_naming key n (t ∷ things) =
    (λ i. tied_parts (named_cmp n.named t) (key_cmp n.user key) i || one_naming key n things i)
    ∙ apart_or (eq_by_cmp named_cmp n.named t) (list_any (eq_by_cmp named_cmp n.named) things)
    (eq_by_cmp key_cmp n.user key)

-- a naming is one of a record's if the record names its thing and stands under its user
of_record : (r : Rec) (n : Naming) → is_naming_of r n ≡ (names n.named (Some r) && eq_by_cmp key_cmp n.user (key_of r))
of_record r n = one_naming (key_of r) n (named_by r)

-- ---- the index

module _ (c : Configuration) (key : Key) where
  out_by : (t : Stored Naming (Unit {0})) (n : Naming) (r : Rec) (b e : Bool) → eq_by_cmp key_cmp n.user key ≡ b
      → names n.named (Some r) ≡ e
      → get c key ≡ Some r
      → is_linked t n ≡ names n.named (get c n.user)
      → (not (e && b) && is_linked t n) ≡ names n.named (cond b None (get c n.user))
  out_by t n r true e tied is here linked =
      ap (λ z. not (e && true) && z)
      (linked ∙ ap (λ z. names n.named (get c z)) (same_key key_cmp keys_exact n.user key tied)
      ∙ ap (names n.named) here ∙ is)
      ∙ none e
    where
      none : (e : Bool) → (not (e && true) && e) ≡ false
      none true = refl
      none false = refl
  out_by t n r false true tied is here linked = linked
  out_by t n r false false tied is here linked = linked

  -- what a record names is taken out with it
  pub unlinked : (t u : Stored Naming (Unit {0})) (r : Rec) → IsKeyed c → get c key ≡ Some r → IsIndexOf c t
      → ((n : Naming) → is_linked u n ≡ (not (is_naming_of r n) && is_linked t n)) → IsIndexOf (remove c key) u
  unlinked t u r keyed here index left n =
      left n ∙ ap (λ b. not b && is_linked t n)
      (of_record r n ∙ ap (λ k. names n.named (Some r) && eq_by_cmp key_cmp n.user k) (keyed_own c keyed key r here))
      ∙ out_by t n r (eq_by_cmp key_cmp n.user key) (names n.named (Some r)) refl refl here (index n)
      ∙ ap (names n.named) (sym (get-remove keys_total c key n.user))

  none_by : (t : Stored Naming (Unit {0})) (n : Naming) (b : Bool) → eq_by_cmp key_cmp n.user key ≡ b → get c key ≡ None
      → names n.named (get c n.user) ≡ names n.named (cond b None (get c n.user))
  none_by t n true tied none = ap (names n.named) (ap (get c) (same_key key_cmp keys_exact n.user key tied) ∙ none)
  none_by t n false tied none = refl

  -- where there is no record nothing is taken out
  pub none_unlinked : (t : Stored Naming (Unit {0})) → get c key ≡ None → IsIndexOf c t → IsIndexOf (remove c key) t
  none_unlinked t none index n =
      index n ∙ none_by t n (eq_by_cmp key_cmp n.user key) refl none
      ∙ ap (names n.named) (sym (get-remove keys_total c key n.user))

in_by : (c : Configuration) (t : Stored Naming (Unit {0})) (n : Naming) (r : Rec) (b e : Bool)
    → names n.named (Some r) ≡ e
    → is_linked t n ≡ names n.named (cond b None (get c n.user))
    → ((e && b) || is_linked t n) ≡ names n.named (cond b (Some r) (get c n.user))
in_by c t n r true true is linked = sym is
in_by c t n r true false is linked = linked ∙ sym is
in_by c t n r false true is linked = linked
in_by c t n r false false is linked = linked

-- a record that names the same things as the one that was there
pub alike_linked : (c : Configuration) (t : Stored Naming (Unit {0})) (old r : Rec) → get c (key_of r) ≡ Some old
    → named_by old ≡ named_by r
    → IsIndexOf c t → IsIndexOf (insert c (key_of r) r) t
alike_linked c t old r here same index n =
    index n ∙ by (eq_by_cmp key_cmp n.user (key_of r)) refl
    ∙ ap (names n.named) (sym (get-insert keys_total c (key_of r) r n.user))
  where
    by : (b : Bool) → eq_by_cmp key_cmp n.user (key_of r) ≡ b
        → names n.named (get c n.user) ≡ names n.named (cond b (Some r) (get c n.user))
    by true tied = ap (names n.named) (ap (get c) (same_key key_cmp keys_exact n.user (key_of r) tied) ∙ here)
        ∙ ap (list_any (eq_by_cmp named_cmp n.named)) same
    by false tied = refl

same_number : (a b : ℕ) → ◌≡◌ {A = Option ℕ} (Some a) (Some b) → a ≡ b
same_number a b e = cc

-- devices of the same control units, unit address and candidates name the same things
named_alike : (old new : Rec) → IsSeenAlike old new → address_of old ≡ address_of new → named_by old ≡ named_by new
named_alike old new alike same =
    ap named_by alike.old_is
    ∙ (λ i. map unit_named (alike.units i) ++ map (address_named (address i)) (alike.units i)
    ++ map image_named (unwrap_or (alike.candidates i) []))
    ∙ sym (ap named_by alike.new_is)
  where
    address : alike.before.unit_address ≡ alike.after.unit_address
    address = same_number _ _ (sym (ap address_of alike.old_is) ∙ same ∙ ap address_of alike.new_is)

-- what a record names is put in with it
pub linked : (c : Configuration) (t u : Stored Naming (Unit {0})) (r : Rec) → IsIndexOf (remove c (key_of r)) t
    → ((n : Naming) → is_linked u n ≡ (is_naming_of r n || is_linked t n)) → IsIndexOf (insert c (key_of r) r) u
linked c t u r index more n =
    more n ∙ ap (λ b. b || is_linked t n) (of_record r n)
    ∙ in_by c t n r (eq_by_cmp key_cmp n.user (key_of r)) (names n.named (Some r)) refl
    (index n ∙ ap (names n.named) (get-remove keys_total c (key_of r) n.user))
    ∙ ap (names n.named) (sym (get-insert keys_total c (key_of r) r n.user))

-- such devices are alike
pub alike : (old new : Rec) → IsSeenAlike old new → address_of old ≡ address_of new → AreAlike old new
alike old new seen same = record { seen = seen; named = named_alike old new seen same }

-- a record that comes in the place of such a one
pub put_alike_linked : (c : Configuration) (t : Stored Naming (Unit {0})) (r : Rec)
    → IsPutAlike (get c (key_of r)) (Some r) → IsIndexOf c t
    → IsIndexOf (insert c (key_of r) r) t
put_alike_linked c t r x index =
    let is : x.new ≡ r = cc in
    alike_linked c t x.old r x.was_there (x.alike.named ∙ ap named_by is) index
