-- The rest of those that come in get the lowest free numbers in order of device number.
use Rattle.std.proofs.Common.{◌≡◌, ℕ, ◌<◌, Bool, true, false, cond, ◌&&◌, ◌⊎◌, inl, inr, nat_eq, eqb-true, List, []}
use Rattle.std.proofs.Common.{◌∷◌, Option, Some, None, is_some, refl, sym, ap, ◌∙◌}
use Rattle.std.proofs.lemmas.Bool.{and_parts}
use Rattle.std.specs.List.{fold}
use Rattle.std.specs.Ordering.{eq_by_cmp}
use Rattle.std.specs.FinMap.{find, get, insert, contains_key, entries, entries_sorted, get-entries}
use Rattle.iocm_types.specs.declared.place.Place.{Place}
use Rattle.iocm_types.specs.declared.place.NumberCell.{NumberCell}
use Rattle.iocm_types.specs.Place.{place_cmp, cell_cmp}
use Rattle.iocm_types.specs.KeyOrder.{places_exact, cells_total, cells_exact}
use Rattle.iocm_types.proofs.Found.{same_key, IsPassing, passing}
use Rattle.iocm_model.specs.Machine.Configuration.{Configuration}
use Rattle.iocm_model.specs.Machine.Numbering.{Numbering, reached_places, is_reached_at, cells_of}
use Rattle.iocm_model.specs.Change.Renumbering.{lowest_free, without_leavers, with_carried, with_lowest}
use Rattle.iocm_model.specs.Laws.Numbers.{is_used, RestGetTheLowest}
use Rattle.iocm_model.proofs.Numbers.Cells.{has_number}
use Rattle.iocm_model.proofs.Numbers.Lowest.{lowest_free_is_free}
use Rattle.iocm_model.proofs.Numbers.Apart.{any_kept}
use Rattle.iocm_model.proofs.Numbers.Changed.{given, get_without, other_carried_by, lowest_keep, other_lowest_by}
use Rattle.iocm_model.proofs.Numbers.Changed.{lowest_not, before_lowest, none_stays}
use Rattle.iocm_model.proofs.Numbers.InOrder.{is_one_of, InOrder, reached_in_order}

-- ---- a number that is used is a place's

-- a place of a channel subsystem and set that has this number
record HasNumber (n : Numbering) (css set number : ℕ) : Type 0 where
  place : Place
  css_is : place.css ≡ css
  set_is : place.set ≡ set
  has : get n place ≡ Some number

used_by_a_place : (n : Numbering) (css set number : ℕ) → is_used n css set number ≡ true → HasNumber n css set number
used_by_a_place n css set number used =
    let test : NumberCell × ℕ → Bool = λ e. (nat_eq e.0.css css && nat_eq e.0.set set) && nat_eq number e.0.number in
    let passing : IsPassing cell_cmp test (entries (cells_of n)) =
    passing cell_cmp cells_total cells_exact test (entries (cells_of n)) (entries_sorted (cells_of n))
    (sym (any_kept (nat_eq number) (λ (e : NumberCell × ℕ). e.0.number)
    (λ (e : NumberCell × ℕ). nat_eq e.0.css css && nat_eq e.0.set set) (entries (cells_of n))) ∙ used) in
    let parts = and_parts _ _ passing.passes in
    let within = and_parts _ _ parts.0 in record {
      place = record { css = passing.key.css; set = passing.key.set; device = passing.value };
      css_is = eqb-true _ _ within.0;
      set_is = eqb-true _ _ within.1;
      has = has_number n passing.key passing.value (get-entries (cells_of n) passing.key ∙ passing.found)
          ∙ ap Some (sym (eqb-true _ _ parts.1));
    }

-- ---- the lowest free numbers, one after the other

-- a place that holds a number once the lowest free ones are given to some places, and that had one
-- or has a smaller device number
pub record IsHeld (m : Numbering) (ps : List Place) (p : Place) (number : ℕ) : Type 0 where
  pub place : Place
  pub css_is : place.css ≡ p.css
  pub set_is : place.set ≡ p.set
  pub has : get (fold with_lowest m ps) place ≡ Some number
  pub before : (contains_key m place ≡ true) ⊎ (place.device < p.device)

-- the place whose turn it is gets a number below which all are held
held_here : (m : Numbering) (x : Place) (xs : List Place) (number k : ℕ) → get m x ≡ None
    → get (fold with_lowest (with_lowest m x) xs) x ≡ Some number
    → k < number → IsHeld m (x ∷ xs) x k
held_here m x xs number k none is low =
    let turn : with_lowest m x ≡ insert m x (lowest_free m x.css x.set) =
    ap (λ b. cond b m (insert m x (lowest_free m x.css x.set))) (ap is_some none) in
    let gets : get (with_lowest m x) x ≡ Some (lowest_free m x.css x.set) =
    ap (λ (y : Numbering). get y x) turn ∙ given m x (lowest_free m x.css x.set) in
    let same : number ≡ lowest_free m x.css x.set = inner (sym is ∙ lowest_keep (with_lowest m x) xs x _ gets) in
    let by = used_by_a_place m x.css x.set k ((lowest_free_is_free m x.css x.set).lowest k (rw (sym same) low)) in
    record {
      place = by.place;
      css_is = by.css_is;
      set_is = by.set_is;
      has = lowest_keep m (x ∷ xs) by.place k by.has;
      before = inl (ap is_some by.has);
    }
  where
    inner : {a b : ℕ} → Some a ≡ Some b → a ≡ b
    inner h = cc

-- a place that held a number after the turn of another held it before, or is that one
held_on : (m : Numbering) (x : Place) (xs : List Place) (p : Place) (k : ℕ)
    → (x.css ≡ p.css → x.set ≡ p.set → x.device < p.device)
    → IsHeld (with_lowest m x) xs p k → IsHeld m (x ∷ xs) p k
held_on m x xs p k less held = record {
  place = held.place;
  css_is = held.css_is;
  set_is = held.set_is;
  has = held.has;
  before = by (eq_by_cmp place_cmp held.place x) refl held.before;
}
  where
    by : (b : Bool) → eq_by_cmp place_cmp held.place x ≡ b
        → ((contains_key (with_lowest m x) held.place ≡ true) ⊎ (held.place.device < p.device))
        → (contains_key m held.place ≡ true) ⊎ (held.place.device < p.device)
    by b e (inr small) = inr small
    by false e (inl there) = inl (sym (ap is_some (other_lowest_by m x held.place (contains_key m x) e)) ∙ there)
    by true e (inl there) =
        let same : held.place ≡ x = same_key place_cmp places_exact held.place x e in
        let smaller : x.device < p.device =
        less (sym (ap (λ (q : Place). q.css) same) ∙ held.css_is)
        (sym (ap (λ (q : Place). q.set) same) ∙ held.set_is) in
        inr (rw same smaller)

-- a place that has a number then, and had none, is one of them
one_of_them : (m : Numbering) (xs : List Place) (p : Place) (number : ℕ) → get m p ≡ None
    → get (fold with_lowest m xs) p ≡ Some number → is_one_of p xs ≡ true
one_of_them m xs p number none is = by (is_one_of p xs) refl
  where
    by : (b : Bool) → is_one_of p xs ≡ b → b ≡ true
    by true e = refl
    by false e = let bad : None ≡ Some number = sym (lowest_not m xs p e ∙ none) ∙ is in cc

pub held : (m : Numbering) (ps : List Place) → InOrder ps → (p : Place) (number : ℕ) → get m p ≡ None
    → get (fold with_lowest m ps) p ≡ Some number
    → (k : ℕ) → k < number → IsHeld m ps p k
held m [] order p number none is k low = let bad : None ≡ Some number = sym none ∙ is in cc
held m (x ∷ xs) order p number none is k low =
    by (eq_by_cmp place_cmp p x) refl (λ without. held (with_lowest m x) xs order.1 p number without is k low)
  where
    by : (b : Bool) → eq_by_cmp place_cmp p x ≡ b → (get (with_lowest m x) p ≡ None → IsHeld (with_lowest m x) xs p k)
        → IsHeld m (x ∷ xs) p k
    by true e more =
        let same : x ≡ p = sym (same_key place_cmp places_exact p x e) in
        ap_held same (held_here m x xs number k (ap (get m) same ∙ none)
        (ap (get (fold with_lowest (with_lowest m x) xs)) same ∙ is) low)
      where
        ap_held : {q : Place} → x ≡ q → IsHeld m (x ∷ xs) x k → IsHeld m (x ∷ xs) q k
        ap_held same h = rw (sym same) h
    by false e more =
        let without : get (with_lowest m x) p ≡ None = other_lowest_by m x p (contains_key m x) e ∙ none in
        held_on m x xs p k (λ css set. order.0 p (one_of_them (with_lowest m x) xs p number without is) css set)
        (more without)

-- ---- after a change

module _ (c : Configuration) where
  -- a place for which no number is carried gets none that way
  not_carried : (n : Numbering) (xs : List (Place × ℕ)) (p : Place) → find place_cmp p xs ≡ None
      → get (fold (with_carried c) n xs) p ≡ get n p
  not_carried n [] p none = refl
  not_carried n (x ∷ xs) p none = by (eq_by_cmp place_cmp p x.0) refl none (not_carried (with_carried c n x) xs p)
    where
      by : (b : Bool) → eq_by_cmp place_cmp p x.0 ≡ b → cond b (Some x.1) (find place_cmp p xs) ≡ None
          → (find place_cmp p xs ≡ None
          → get (fold (with_carried c) (with_carried c n x) xs) p ≡ get (with_carried c n x) p)
          → get (fold (with_carried c) (with_carried c n x) xs) p ≡ get n p
      by true e none more = cc
      by false e none more = more none ∙ other_carried_by c n x p _ e

-- one that had a number before the lowest free ones were given had one before the change, or
-- brought it along
had_one : (c : Configuration) (carried : List (Place × ℕ)) (n : Numbering) (q : Place)
    → contains_key (before_lowest c carried n) q ≡ true
    → (contains_key n q ≡ true) ⊎ (is_some (find place_cmp q carried) ≡ true)
had_one c carried n q there = by (find place_cmp q carried) refl
  where
    stayed : (b : Bool) (o : Option ℕ) → is_some (cond b o None) ≡ true → is_some o ≡ true
    stayed true o h = h
    stayed false o h = cc

    by : (o : Option ℕ) → find place_cmp q carried ≡ o → (contains_key n q ≡ true) ⊎ (is_some o ≡ true)
    by (Some k) e = inr refl
    by None e = inl (stayed (is_reached_at c q) (get n q)
        (sym (ap is_some (not_carried c (without_leavers c n) carried q e ∙ get_without c n q)) ∙ there))

pub rest_get_the_lowest : RestGetTheLowest
rest_get_the_lowest c carried n p number keyed none alone is k low =
    let before : get (before_lowest c carried n) p ≡ None =
    not_carried c (without_leavers c n) carried p alone ∙ none_stays c n p none in
    let h = held (before_lowest c carried n) (reached_places c) (reached_in_order c keyed) p number before is k low in
    record {
      place = h.place;
      css = h.css_is;
      set = h.set_is;
      has = h.has;
      before = by h.place h.before;
    }
  where
    or_carried : (q : Place) → ((contains_key n q ≡ true) ⊎ (is_some (find place_cmp q carried) ≡ true))
        → (contains_key n q ≡ true) ⊎ ((is_some (find place_cmp q carried) ≡ true) ⊎ (q.device < p.device))
    or_carried q (inl h) = inl h
    or_carried q (inr h) = inr (inl h)

    by : (q : Place) → ((contains_key (before_lowest c carried n) q ≡ true) ⊎ (q.device < p.device))
        → (contains_key n q ≡ true) ⊎ ((is_some (find place_cmp q carried) ≡ true) ⊎ (q.device < p.device))
    by q (inl there) = or_carried q (had_one c carried n q there)
    by q (inr small) = inr (inr small)
