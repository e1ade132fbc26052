-- The numbers and the seats follow a change of the configuration.
use Rattle.std.proofs.Common.{◌≡◌, ℕ, Bool, true, false, cond, not, ◌||◌, ◌⊎◌, inl, inr, List, [], ◌∷◌, ◌++◌, map}
use Rattle.std.proofs.Common.{Option, Some, None, is_some, refl, sym}
use Rattle.std.proofs.Common.{ap, subst, ◌∙◌}
use Rattle.std.proofs.lemmas.Bool.{or_cases, or_right}
use Rattle.std.proofs.lemmas.List.Folds.{list_any-append}
use Rattle.std.specs.List.{list_any, AllByRecursion}
use Rattle.std.specs.List.Sorted.{IsStrictlySortedBy}
use Rattle.std.specs.Option.{option_eq}
use Rattle.std.specs.Ordering.{eq_by_cmp}
use Rattle.std.specs.declared.cmp.Ordering.TheVariants.{Less}
use Rattle.std.specs.FinMap.{find, get}
use Rattle.std.proofs.lemmas.Map.Keys.{sorted_head, sorted_tail}
use Rattle.iocm_types.specs.declared.place.Place.{Place}
use Rattle.iocm_types.specs.declared.place.NumberCell.{NumberCell}
use Rattle.iocm_types.specs.declared.sub_id.SubId.{SubId}
use Rattle.iocm_types.specs.declared.view.View.{View}
use Rattle.iocm_types.specs.Place.{place_cmp, cell_cmp}
use Rattle.iocm_types.specs.KeyOrder.{places_exact, cells_total}
use Rattle.iocm_types.proofs.Found.{same_key, ties_itself}
use Rattle.iocm_model.specs.Machine.Configuration.{Configuration}
use Rattle.iocm_model.specs.Machine.Numbering.{Numbering, AreNumbersOf, is_reached_at}
use Rattle.iocm_model.specs.Machine.View.{view_at}
use Rattle.iocm_model.specs.Change.Edit.{same_view}
use Rattle.iocm_model.specs.Change.Inverse.{freed_numbers}
use Rattle.iocm_model.specs.Change.Refusal.{is_number_taken}
use Rattle.iocm_model.specs.Change.Renumbering.{numbers_after}
use Rattle.iocm_model.specs.Operation.State.{Views}
use Rattle.iocm_model.proofs.Numbers.Apart.{numbers_after_are_numbers}
use Rattle.iocm_model.proofs.Numbers.Back.{get_freed}
use Rattle.iocm_model.proofs.Numbers.Changed.{stayers_keep_theirs}
use Rattle.iocm_numbers.specs.Numbered.{cell_at}
use Rattle.iocm_numbers.specs.Renumbering.{Rise}
use Rattle.iocm_numbers.proofs.CellsThere.{cells_are_listed}
use Rattle.iocm_seats.specs.Changes.{candidates, view_change, AreCandidates}
use Rattle.iocm_seats.specs.Seated.{Seats, views_seated}
use Rattle.iocm_seats.specs.Settling.{AreSeen}
use Rattle.iocm_seats.proofs.Ordered.{seen_is}
use Rattle.iocm_plant.specs.declared.following.LookedAt.{LookedAt}
use Rattle.iocm_plant.specs.Following.{WasChanged, WasRenumbered, cells_given}
use Rattle.iocm_plant.proofs.Candidates.{AreLookedAt, looked_for, or_first}

less_of : (p q : Place) (ps : List Place) → AllByRecursion (λ y. place_cmp p y ≡ Less) ps
    → list_any (eq_by_cmp place_cmp q) ps ≡ true
    → place_cmp p q ≡ Less
less_of p q [] all among = cc
less_of p q (x ∷ ps) all among = by (or_cases _ _ among) (less_of p q ps all.1)
  where
    by : ((eq_by_cmp place_cmp q x ≡ true) ⊎ (list_any (eq_by_cmp place_cmp q) ps ≡ true))
        → (list_any (eq_by_cmp place_cmp q) ps ≡ true → place_cmp p q ≡ Less)
        → place_cmp p q ≡ Less
    by (inl tied) rest = ap (place_cmp p) (same_key place_cmp places_exact q x tied) ∙ all.0
    by (inr more) rest = rest more

-- places in order, in the words of renumbering
pub rise_of : (ps : List Place) → IsStrictlySortedBy place_cmp ps → Rise ps
rise_of [] rise = tt
rise_of (p ∷ ps) rise = (
  (λ q among. less_of p q ps (sorted_head place_cmp p ps rise) among),
  rise_of ps (sorted_tail place_cmp p ps rise),
)

module _ (d : Configuration) (n : Numbering) (seats : Seats) (at : LookedAt) (changed : WasChanged d n seats at) where
  -- the numbers have followed
  pub was_renumbered : (carried : List (Place × ℕ)) (m : Numbering) → m ≡ numbers_after d carried n
      → is_number_taken d n carried ≡ false
      → (given : List (Place × ℕ)) → given ≡ freed_numbers m n → WasRenumbered d m seats at given
  was_renumbered carried m is free given come = record {
    first = n;
    changed = changed;
    now_numbered = subst (AreNumbersOf d) (sym is)
        (numbers_after_are_numbers changed.before d carried n changed.numbered free);
    stay = λ p k reached has. ap (λ (z : Numbering). get z p) is ∙ stayers_keep_theirs d carried n p k reached has;
    given_are = come;
  }

-- ---- the number cells of numbers that were given

-- the cell of a place that is found is there
found_given : (p : Place) (k : ℕ) (rows : List (Place × ℕ)) → find place_cmp p rows ≡ Some k
    → list_any (eq_by_cmp cell_cmp (cell_at p k)) (cells_given rows) ≡ true
found_given p k [] is = cc
found_given p k (row ∷ rows) is = by (eq_by_cmp place_cmp p row.0) refl is (found_given p k rows)
  where
    by : (b : Bool) → eq_by_cmp place_cmp p row.0 ≡ b → cond b (Some row.1) (find place_cmp p rows) ≡ Some k
        → (find place_cmp p rows ≡ Some k → list_any (eq_by_cmp cell_cmp (cell_at p k)) (cells_given rows) ≡ true)
        → (eq_by_cmp cell_cmp (cell_at p k) (cell_at row.0 row.1)
        || list_any (eq_by_cmp cell_cmp (cell_at p k)) (cells_given rows)) ≡ true
    by true tied is more =
        let place : p ≡ row.0 = same_key place_cmp places_exact p row.0 tied in
        let number : row.1 ≡ k = cc in
        or_first _ _ (ap (eq_by_cmp cell_cmp (cell_at p k)) (λ i. cell_at (sym place i) (number i))
        ∙ ties_itself cell_cmp cells_total (cell_at p k))
    by false tied is more = or_right _ _ (more is)

-- the cell of a place that has a number now and had none is among them
new_is_given : (m first : Numbering) (p : Place) (k : ℕ) → get m p ≡ Some k → get first p ≡ None
    → list_any (eq_by_cmp cell_cmp (cell_at p k)) (cells_given (freed_numbers m first)) ≡ true
new_is_given m first p k has had =
    found_given p k (freed_numbers m first)
    (get_freed m first p ∙ ap (λ (o : Option ℕ). cond (not (is_some o)) (get m p) None) had ∙ has)

-- changes from what was seen to what is seen are of what was seen
pub all_seen : (v : Views) (w : SubId → Option View) (xs : List SubId) → AreSeen v (map (view_change (get v) w) xs)
all_seen v w [] = tt
all_seen v w (x ∷ xs) = (refl, all_seen v w xs)

-- all that is seen differently is looked at
pub all_looked_at : (d : Configuration) (m : Numbering) (seats : Seats) (at : LookedAt) (given : List (Place × ℕ))
    (sorted : List NumberCell) → WasRenumbered d m seats at given
    → ((cell : NumberCell) → list_any (eq_by_cmp cell_cmp cell) sorted
    ≡ list_any (eq_by_cmp cell_cmp cell) (at.cells.items ++ cells_given given))
    → AreCandidates (get (views_seated seats)) (view_at d m) (candidates at.affected.images.items sorted)
all_looked_at d m seats at given sorted was same x differ =
    looked_for was.changed.before d was.first m was.changed.numbered was.now_numbered was.stay places
    at.affected.images.items sorted
    was.changed.affected looked x
    (ap (λ v. option_eq same_view v (view_at d m x)) (sym seen) ∙ differ)
  where
    places : List Place
    places = at.affected.places.items

    cells : List NumberCell
    cells = at.cells.items

    seen : get (views_seated seats) x ≡ view_at was.changed.before was.first x
    seen = ap (λ v. get v x) was.changed.seated ∙ seen_is was.changed.before was.first was.changed.keyed x

    among_both : (cell : NumberCell) → list_any (eq_by_cmp cell_cmp cell) sorted
        ≡ (list_any (eq_by_cmp cell_cmp cell) cells || list_any (eq_by_cmp cell_cmp cell) (cells_given given))
    among_both cell = same cell ∙ list_any-append (eq_by_cmp cell_cmp cell) cells (cells_given given)

    is_there : (p : Place) (k : ℕ) → Type 0
    is_there p k = list_any (eq_by_cmp cell_cmp (cell_at p k)) sorted ≡ true

    from_before : (p : Place) (k : ℕ) → list_any (eq_by_cmp place_cmp p) places ≡ true → get was.first p ≡ Some k
        → is_there p k
    from_before p k among has = among_both (cell_at p k)
        ∙ or_first (list_any (eq_by_cmp cell_cmp (cell_at p k)) cells)
        (list_any (eq_by_cmp cell_cmp (cell_at p k)) (cells_given given))
        (ap (list_any (eq_by_cmp cell_cmp (cell_at p k))) was.changed.cells_are
        ∙ cells_are_listed was.first places p k among has)

    -- a place that has a number now had it before, or was given it
    from_now : (p : Place) (k : ℕ) → list_any (eq_by_cmp place_cmp p) places ≡ true → get m p ≡ Some k → (o : Option ℕ)
        → get was.first p ≡ o → is_there p k
    from_now p k among has (Some j) had =
        let reached : is_reached_at d p ≡ true = sym (was.now_numbered.exact p) ∙ ap is_some has in
        let both : ◌≡◌ {A = Option ℕ} (Some j) (Some k) = sym (was.stay p j reached had) ∙ has in
        from_before p k among (had ∙ both)
    from_now p k among has None had = among_both (cell_at p k)
        ∙ or_right (list_any (eq_by_cmp cell_cmp (cell_at p k)) cells)
        (list_any (eq_by_cmp cell_cmp (cell_at p k)) (cells_given given))
        (ap (λ rows. list_any (eq_by_cmp cell_cmp (cell_at p k)) (cells_given rows)) was.given_are
        ∙ new_is_given m was.first p k has had)

    looked : AreLookedAt was.first m places sorted
    looked = record { before = from_before; after = λ p k among has. from_now p k among has (get was.first p) refl }
