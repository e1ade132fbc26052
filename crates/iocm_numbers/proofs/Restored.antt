-- What was changed at some places is as it was once the numbers there are taken back and the old
-- ones put in.
use Rattle.std.proofs.Common.{◌≡◌, ℕ, ◌+◌, ◌≤◌, Bool, true, false, cond, ◌||◌, List, [], ◌∷◌, ◌++◌, length, drop}
use Rattle.std.proofs.Common.{Option, Some, None, refl, sym, ap, subst, ◌∙◌}
use Rattle.std.proofs.lemmas.List.{append-nil}
use Rattle.std.proofs.Math.ListN.{drop_of_length-le}
use Rattle.std.proofs.lemmas.Bool.{or_right}
use Rattle.std.specs.List.{fold, list_any}
use Rattle.std.specs.List.{cons_option}
use Rattle.std.specs.Option.{option_map}
use Rattle.std.specs.Ordering.{eq_by_cmp}
use Rattle.std.specs.FinMap.{get, insert, remove, get-remove, same_map}
use Rattle.iocm_types.specs.declared.place.Place.{Place}
use Rattle.iocm_types.specs.Place.{place_cmp}
use Rattle.iocm_types.specs.KeyOrder.{places_total, places_exact}
use Rattle.iocm_types.proofs.Found.{same_key, ties_itself}
use Rattle.iocm_model.specs.Machine.Numbering.{Numbering, device_at}
use Rattle.iocm_model.proofs.Numbers.Cells.{IsApart, place, has_number}
use Rattle.iocm_model.proofs.Numbers.Changed.{given, other_place}
use Rattle.iocm_numbers.specs.Numbered.{Numbered, cell_at, HasRoom, HasSameRoom}
use Rattle.iocm_numbers.specs.PutBack.{numbers_at, put_in, FitIn, HaveRoom}

-- a place is one of these
abbrev is_one_of : Place → List Place → Bool
is_one_of p ps = list_any (eq_by_cmp place_cmp p) ps

-- no place comes twice
abbrev pub AreApart : List Place → Type 0
AreApart [] = Unit {0}
AreApart (p ∷ ps) = (is_one_of p ps ≡ false) × AreApart ps

-- ---- numbers that are taken back

freed_by : (b c : Bool) (x : Option ℕ) → cond c None (cond b None x) ≡ cond (b || c) None x
freed_by true true x = refl
freed_by true false x = refl
freed_by false c x = refl

-- what a place has once the numbers of these are taken back
pub get_freed : (n : Numbering) (ps : List Place) (q : Place)
    → get (fold remove n ps) q ≡ cond (is_one_of q ps) None (get n q)
get_freed n [] q = refl
get_freed n (p ∷ ps) q = get_freed (remove n p) ps q ∙ ap (cond (is_one_of q ps) None) (get-remove places_total n p q)
    ∙ freed_by (eq_by_cmp place_cmp q p) (is_one_of q ps) (get n q)

-- ---- numbers that are put in

-- numbers now that are the old ones but for these places, which have none
pub record AreOldBut (old now : Numbering) (ps : List Place) : Type 0 where
  pub elsewhere : (q : Place) → is_one_of q ps ≡ false → get now q ≡ get old q
  pub here : (q : Place) → is_one_of q ps ≡ true → get now q ≡ None

-- each number now is an old one
was_by : (old now : Numbering) (ps : List Place) → AreOldBut old now ps → (q : Place) (k : ℕ) (b : Bool)
    → is_one_of q ps ≡ b → get now q ≡ Some k → get old q ≡ Some k
was_by old now ps but q k false out has = sym (but.elsewhere q out) ∙ has
was_by old now ps but q k true among has = let no : None ≡ Some k = sym (but.here q among) ∙ has in cc

-- no device has a number that is to be put in
free_for : (old now : Numbering) (ps : List Place) → IsApart old → AreOldBut old now ps → (p : Place) (k : ℕ)
    → is_one_of p ps ≡ true → get old p ≡ Some k
    → device_at now (cell_at p k) ≡ None
free_for old now ps apart but p k among has = by (device_at now (cell_at p k)) refl
  where
    by : (o : Option ℕ) → device_at now (cell_at p k) ≡ o → device_at now (cell_at p k) ≡ None
    by None is = is
    by (Some d) is =
        let holder : Place = place (cell_at p k) d in
        let now_has : get now holder ≡ Some k = has_number now (cell_at p k) d is in
        let old_has : get old holder ≡ Some k = was_by old now ps but holder k (is_one_of holder ps) refl now_has in
        let same : holder ≡ p = apart holder p k refl refl old_has has in
        let no : None ≡ Some k = sym (but.here p among) ∙ ap (get now) (sym same) ∙ now_has in
        cc

-- the first of the places is one of them
first_among : (p : Place) (ps : List Place) → is_one_of p (p ∷ ps) ≡ true
first_among p ps = ap (λ b. b || is_one_of p ps) (ties_itself place_cmp places_total p)

-- a place that had no number needs none
skip : (old now : Numbering) (p : Place) (ps : List Place) → AreOldBut old now (p ∷ ps) → get old p ≡ None
    → AreOldBut old now ps
skip old now p ps but none = record {
  elsewhere = λ q out. by q out (eq_by_cmp place_cmp q p) refl;
  here = λ q among. but.here q (or_right (eq_by_cmp place_cmp q p) _ among);
}
  where
    by : (q : Place) → is_one_of q ps ≡ false → (b : Bool) → eq_by_cmp place_cmp q p ≡ b → get now q ≡ get old q
    by q out true is = let same : q ≡ p = same_key place_cmp places_exact q p is in
        ap (get now) same ∙ but.here p (first_among p ps) ∙ sym none ∙ ap (get old) (sym same)
    by q out false is = but.elsewhere q (ap (λ b. b || is_one_of q ps) is ∙ out)

-- a place that gets its number back
back : (old now : Numbering) (p : Place) (k : ℕ) (ps : List Place) → AreOldBut old now (p ∷ ps) → is_one_of p ps ≡ false
    → get old p ≡ Some k
    → AreOldBut old (insert now p k) ps
back old now p k ps but alone has = record {
  elsewhere = λ q out. by q out (eq_by_cmp place_cmp q p) refl;
  here = λ q among. there q among (eq_by_cmp place_cmp q p) refl;
}
  where
    by : (q : Place) → is_one_of q ps ≡ false → (b : Bool) → eq_by_cmp place_cmp q p ≡ b
        → get (insert now p k) q ≡ get old q
    by q out true is = let same : q ≡ p = same_key place_cmp places_exact q p is in
        ap (get (insert now p k)) same ∙ given now p k ∙ sym has ∙ ap (get old) (sym same)
    by q out false is = other_place now p q k is ∙ but.elsewhere q (ap (λ b. b || is_one_of q ps) is ∙ out)

    there : (q : Place) → is_one_of q ps ≡ true → (b : Bool) → eq_by_cmp place_cmp q p ≡ b
        → get (insert now p k) q ≡ None
    there q among true is =
        let same : q ≡ p = same_key place_cmp places_exact q p is in
        let no : true ≡ false = sym among ∙ ap (λ x. is_one_of x ps) same ∙ alone in cc
    there q among false is = other_place now p q k is ∙ but.here q (or_right (eq_by_cmp place_cmp q p) _ among)

module _ (old : Numbering) (apart : IsApart old) where
  -- the rows of a place and of those behind it, by what it had
  abbrev rows_with : Place → List Place → Option ℕ → List (Place × ℕ)
  rows_with p ps o = cons_option (option_map (λ k. (p, k)) o) (numbers_at old ps)

  -- the old numbers of these places fit in
  pub old_fit : (ps : List Place) → AreApart ps → (now : Numbering) → AreOldBut old now ps
      → FitIn now (numbers_at old ps)
  old_fit [] alone now but = tt
  old_fit (p ∷ ps) alone now but = by (λ m h. old_fit ps alone.1 m h) (get old p) refl
    where
      by : ((m : Numbering) → AreOldBut old m ps → FitIn m (numbers_at old ps)) → (o : Option ℕ) → get old p ≡ o
          → FitIn now (numbers_at old (p ∷ ps))
      by more None is = subst (λ (o : Option ℕ). FitIn now (rows_with p ps o)) (sym is)
          (more now (skip old now p ps but is))
      by more (Some k) is = subst (λ (o : Option ℕ). FitIn now (rows_with p ps o)) (sym is) (
        but.here p (first_among p ps),
        free_for old now (p ∷ ps) apart but p k (first_among p ps) is,
        more (insert now p k) (back old now p k ps but alone.0 is),
      )

  -- and with them the numbers are the old ones
  pub old_back : (ps : List Place) → AreApart ps → (now : Numbering) → AreOldBut old now ps
      → fold put_in now (numbers_at old ps) ≡ old
  old_back [] alone now but = same_map places_total places_exact now old (λ q. but.elsewhere q refl)
  old_back (p ∷ ps) alone now but = by (λ m h. old_back ps alone.1 m h) (get old p) refl
    where
      by : ((m : Numbering) → AreOldBut old m ps → fold put_in m (numbers_at old ps) ≡ old) → (o : Option ℕ)
          → get old p ≡ o → fold put_in now (numbers_at old (p ∷ ps)) ≡ old
      by more None is = ap (λ (o : Option ℕ). fold put_in now (rows_with p ps o)) is
          ∙ more now (skip old now p ps but is)
      by more (Some k) is = ap (λ (o : Option ℕ). fold put_in now (rows_with p ps o)) is
          ∙ more (insert now p k) (back old now p k ps but alone.0 is)

-- where each number has room, the rows of some have
pub rows_have_room : (start now : Numbered) → ((p : Place) (k : ℕ) → get start.numbers p ≡ Some k → HasRoom now p k)
    → (ps : List Place)
    → HaveRoom now (numbers_at start.numbers ps)
rows_have_room start now each [] = tt
rows_have_room start now each (p ∷ ps) = by (rows_have_room start now each ps) (get start.numbers p) refl
  where
    by : HaveRoom now (numbers_at start.numbers ps) → (o : Option ℕ) → get start.numbers p ≡ o
        → HaveRoom now (numbers_at start.numbers (p ∷ ps))
    by more None is = subst (λ (o : Option ℕ).
        HaveRoom now (cons_option (option_map (λ k. (p, k)) o) (numbers_at start.numbers ps))) (sym is) more
    by more (Some k) is = subst
        (λ (o : Option ℕ). HaveRoom now (cons_option (option_map (λ k. (p, k)) o) (numbers_at start.numbers ps)))
        (sym is) (each p k is, more)

-- ---- the loops

-- the rows so far and those that are left are all
pub record IsListing (n : Numbering) (ps : List Place) (i : ℕ) (rows : List (Place × ℕ)) : Type 0 where
  pub all : rows ++ numbers_at n (drop i ps) ≡ numbers_at n ps

pub listed_all : (n : Numbering) (ps : List Place) (i : ℕ) (rows : List (Place × ℕ)) → length ps ≤ i
    → IsListing n ps i rows → rows ≡ numbers_at n ps
listed_all n ps i rows past is =
    sym (append-nil rows) ∙ ap (λ (qs : List Place). rows ++ numbers_at n qs) (sym (drop_of_length-le ps past)) ∙ is.all

-- what is left to take back gives what all would give
pub record IsFreeing (ps : List Place) (i : ℕ) (start now : Numbered) : Type 0 where
  pub left : fold remove now.numbers (drop i ps) ≡ fold remove start.numbers ps
  pub room : HasSameRoom now start

-- the rows that are left fit in and have room, and give what all would give
pub record IsPlacing (rows : List (Place × ℕ)) (i : ℕ) (start now : Numbered) : Type 0 where
  pub left : fold put_in now.numbers (drop i rows) ≡ fold put_in start.numbers rows
  pub fit : FitIn now.numbers (drop i rows)
  pub ready : HaveRoom start (drop i rows)
  pub room : HasSameRoom now start
