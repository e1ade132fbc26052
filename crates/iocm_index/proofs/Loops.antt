-- Namings of a record, one after the other: what is left to do, and what is done.
use Rattle.std.proofs.Common.{◌≡◌, ◌⊎◌, ℕ, zero, suc, ◌+◌, ◌<◌, length, [], arith, below_more, Bool, true, false, ◌||◌}
use Rattle.std.proofs.Common.{◌&&◌, not, cond, Option, None, Some, is_some, List, ◌∷◌, drop, slice_get, inr, ⊎_elim}
use Rattle.std.proofs.Common.{refl, sym, ap, subst, ◌∙◌}
use Rattle.std.specs.Prelude.{IsTrue}
use Rattle.std.specs.List.{list_any, AllByRecursion}
use Rattle.std.specs.Ordering.{is_eq, eq_by_cmp}
use Rattle.std.specs.Cmp.{tied_itself}
use Rattle.std.specs.FinMap.{get, contains_key, insert, remove, get-insert, get-remove}
use Rattle.iocm_types.specs.Naming.{naming_cmp}
use Rattle.iocm_types.specs.declared.naming.Naming.{Naming}
use Rattle.std.proofs.lemmas.Option.{slice_get_within, get_or_from_slice_get}
use Rattle.std.proofs.lemmas.Map.Keys.{any_passes_from_place}
use Rattle.iocm_types.proofs.Lists.{drop-item}
use Rattle.iocm_table.specs.Slots.{Stored, rows, HasPlace}
use Rattle.iocm_index.specs.Namings.{is_linked, HavePlaces}
use Rattle.iocm_index.proofs.Front.{namings_total}

abbrev pub Places : Type 0
Places = Stored Naming (Unit {0})

-- a naming is one of these
abbrev pub is_one_of : List Naming → Naming → Bool
is_one_of ns n = list_any (eq_by_cmp naming_cmp n) ns

-- the namings from a place on are still to be put in, and have places
pub record IsLinking (ns : List Naming) (place : ℕ) (start now : Places) : Type 0 where
  pub linked : (n : Naming) → (is_one_of (drop place ns) n || is_linked now n) ≡ (is_one_of ns n || is_linked start n)
  pub places : now.places ≡ start.places
  pub ready : HavePlaces now (drop place ns)

-- the namings from a place on are still to be taken out
pub record IsUnlinking (ns : List Naming) (place : ℕ) (start now : Places) : Type 0 where
  pub linked : (n : Naming)
      → (not (is_one_of (drop place ns) n) && is_linked now n) ≡ (not (is_one_of ns n) && is_linked start n)
  pub places : now.places ≡ start.places

-- the namings before a place have places now, none is lost, and no other naming has got one
pub record IsMakingRoom (ns : List Naming) (place : ℕ) (start now : Places) : Type 0 where
  pub same : rows naming_cmp now ≡ rows naming_cmp start
  pub kept : (n : Naming) → HasPlace naming_cmp start n → HasPlace naming_cmp now n
  pub done : (k : ℕ) (n : Naming) → k < place → slice_get ns k ≡ Some n → HasPlace naming_cmp now n
  pub no_more : (n : Naming) → HasPlace naming_cmp now n → HasPlace naming_cmp start n ⊎ IsTrue (is_one_of ns n)

-- a list from a place on begins with what is there
from_place : (ns : List Naming) (i : ℕ) (n : Naming) → slice_get ns i ≡ Some n → drop i ns ≡ n ∷ drop (i + 1) ns
from_place ns i n there = drop-item ns i n (slice_get_within ns i n there) (sym (get_or_from_slice_get ns i n n there))

-- what is put in is one of these, and no longer to be put in
put_or_left : {X : Type 0} (is left : Bool) (x : X) (before : Option X)
    → (left || is_some (cond is (Some x) before)) ≡ ((is || left) || is_some before)
put_or_left true true x before = refl
put_or_left true false x before = refl
put_or_left false left x before = refl

-- what is taken out is one of these, and no longer to be taken out
taken_or_left : {X : Type 0} (is left : Bool) (before : Option X)
    → (not left && is_some (cond is None before)) ≡ (not (is || left) && is_some before)
taken_or_left true true before = refl
taken_or_left true false before = refl
taken_or_left false left before = refl

-- one more is put in
pub linked : (ns : List Naming) (i : ℕ) (start now next : Places) (n : Naming) → IsLinking ns i start now
    → slice_get ns i ≡ Some n
    → rows naming_cmp next ≡ insert (rows naming_cmp now) n tt → next.places ≡ now.places
    → IsLinking ns (i + 1) start next
linked ns i start now next n before there put same =
    let e = from_place ns i n there in
    let ready : HavePlaces now (n ∷ drop (i + 1) ns) = subst (HavePlaces now) e before.ready in
    record {
      linked = λ q. ap (λ m. is_one_of (drop (i + 1) ns) q || contains_key m q) put
          ∙ ap (λ r. is_one_of (drop (i + 1) ns) q || is_some r) (get-insert namings_total (rows naming_cmp now) n tt q)
          ∙ put_or_left (eq_by_cmp naming_cmp q n) (is_one_of (drop (i + 1) ns) q) tt (get (rows naming_cmp now) q)
          ∙ sym (ap (λ left. is_one_of left q || is_linked now q) e) ∙ before.linked q;
      places = same ∙ before.places;
      ready = subst (λ (places : List Naming).
          HavePlaces (record { listed = next.listed; places = places }) (drop (i + 1) ns)) (sym same) ready.1;
    }

-- one more is taken out
pub unlinked : (ns : List Naming) (i : ℕ) (start now next : Places) (n : Naming) → IsUnlinking ns i start now
    → slice_get ns i ≡ Some n
    → rows naming_cmp next ≡ remove (rows naming_cmp now) n → next.places ≡ now.places
    → IsUnlinking ns (i + 1) start next
unlinked ns i start now next n before there taken same = record {
  linked = λ q. ap (λ m. not (is_one_of (drop (i + 1) ns) q) && contains_key m q) taken
      ∙ ap (λ r. not (is_one_of (drop (i + 1) ns) q) && is_some r) (get-remove namings_total (rows naming_cmp now) n q)
      ∙ taken_or_left (eq_by_cmp naming_cmp q n) (is_one_of (drop (i + 1) ns) q) (get (rows naming_cmp now) q)
      ∙ sym (ap (λ left. not (is_one_of left q) && is_linked now q) (from_place ns i n there)) ∙ before.linked q;
  places = same ∙ before.places;
}

module _ {A : Type 0} (P : A → Type 0) where
  -- what holds of the item at each place holds of all, and the other way round
  pub all_of_places : (xs : List A) → ((k : ℕ) (x : A) → k < length xs → slice_get xs k ≡ Some x → P x)
      → AllByRecursion P xs
  all_of_places [] each = tt
  all_of_places (x ∷ xs) each =
      (each 0 x (omega arith) refl, all_of_places xs (λ k y within is. each (suc k) y (omega arith) is))

  at_place : (xs : List A) (i : ℕ) (x : A) → AllByRecursion P xs → slice_get xs i ≡ Some x → P x
  at_place [] i x all is = cc
  at_place (y ∷ ys) zero x all is = subst P (some_same y x is) all.0
    where
      some_same : (a b : A) → slice_get (a ∷ ys) 0 ≡ Some b → a ≡ b
      some_same a b e = cc
  at_place (y ∷ ys) (suc i) x all is = at_place ys i x all.1 is

-- what has a place after one more has got one had it before, or is one of these
pub none_more : (ns : List Naming) (i : ℕ) (start now next : Places) (n : Naming) → IsMakingRoom ns i start now
    → slice_get ns i ≡ Some n
    → ((q : Naming) → HasPlace naming_cmp next q → HasPlace naming_cmp now q ⊎ (q ≡ n))
    → (q : Naming) → HasPlace naming_cmp next q → HasPlace naming_cmp start q ⊎ IsTrue (is_one_of ns q)
none_more ns i start now next n before there one q has = ⊎_elim (before.no_more q) (λ is. inr (among is)) (one q has)
  where
    among : q ≡ n → is_one_of ns q ≡ true
    among is = any_passes_from_place (eq_by_cmp naming_cmp q) ns i n there
        (ap is_eq (ap (naming_cmp q) (sym is) ∙ tied_itself namings_total q))

-- one more gets a place
pub roomier : (ns : List Naming) (i : ℕ) (start now next : Places) (n : Naming) → IsMakingRoom ns i start now
    → slice_get ns i ≡ Some n
    → rows naming_cmp next ≡ rows naming_cmp now → HasPlace naming_cmp next n
    → ((q : Naming) → HasPlace naming_cmp now q → HasPlace naming_cmp next q)
    → ((q : Naming) → HasPlace naming_cmp next q → HasPlace naming_cmp now q ⊎ (q ≡ n))
    → IsMakingRoom ns (i + 1) start next
roomier ns i start now next n before there same here kept one = record {
  same = same ∙ before.same;
  kept = λ q had. kept q (before.kept q had);
  done = λ k q within. below_more (λ j. slice_get ns j ≡ Some q → HasPlace naming_cmp next q) i
      (λ j below is. kept q (before.done j q below is)) (λ is. subst (HasPlace naming_cmp next) (same_item q is) here) k
      within;
  no_more = none_more ns i start now next n before there one;
}
  where
    same_item : (q : Naming) → slice_get ns i ≡ Some q → n ≡ q
    same_item q is = let e : Some n ≡ Some q = sym there ∙ is in cc

-- where all of some namings had places at the start, each has one still
pub none_wanted : (ns : List Naming) (i : ℕ) (start now : Places) (n : Naming) → IsMakingRoom ns i start now
    → slice_get ns i ≡ Some n
    → HavePlaces start ns → HasPlace naming_cmp now n
none_wanted ns i start now n before there had = before.kept n (at_place (HasPlace naming_cmp start) ns i n had there)
