-- What the one of two numberings has alone, exchanged for what the other has alone.
use Rattle.std.proofs.Common.{◌≡◌, ℕ, Bool, true, false, cond, not, List, [], ◌∷◌, map, drop, Option, Some, None}
use Rattle.std.proofs.Common.{is_some, T, refl, sym, ap, ◌∙◌}
use Rattle.std.specs.List.{fold}
use Rattle.std.specs.Option.{option_or}
use Rattle.std.specs.Ordering.{eq_by_cmp}
use Rattle.std.specs.FinMap.{find, get, insert, contains_key, entries, entries_sorted, is_sorted, get-insert, same_map}
use Rattle.std.specs.FinMap.Entries.{is_some-find, is_sorted-where_key}
use Rattle.iocm_types.specs.declared.place.Place.{Place}
use Rattle.iocm_types.specs.Place.{place_cmp}
use Rattle.iocm_types.specs.KeyOrder.{places_total, places_exact}
use Rattle.iocm_types.proofs.Entries.{not_found}
use Rattle.iocm_types.proofs.Found.{same_key, found_first, found_later}
use Rattle.iocm_types.proofs.Tests.{first_holds, second_holds}
use Rattle.iocm_model.specs.Machine.Numbering.{Numbering, is_reached_at, device_at}
use Rattle.iocm_model.specs.Change.Inverse.{freed_numbers}
use Rattle.iocm_model.proofs.Numbers.Back as back
use Rattle.iocm_model.proofs.Numbers.Cells.{IsApart, place, has_number}
use Rattle.iocm_model.proofs.Numbers.Changed.{numbers_after_are_exact, stayers_keep_theirs}
use Rattle.iocm_numbers.specs.Exchange.{without_rows, Agree, ExchangeLeads, RowsFitIn, RowsHaveRoom, ChangesAgree}
use Rattle.iocm_numbers.specs.Exchange.{AgreeBothWays}
use Rattle.iocm_numbers.specs.Numbered.{Numbered, cell_at, HasRoom, HasSameRoom}
use Rattle.iocm_numbers.specs.PutBack.{put_in, FitIn, HaveRoom}
use Rattle.iocm_numbers.proofs.Restored.{get_freed}

-- ---- what a place has

-- what a place has once the numbers of these rows are taken back
pub get_without_rows : (n : Numbering) (rows : List (Place × ℕ)) (q : Place)
    → get (without_rows n rows) q ≡ cond (is_some (find place_cmp q rows)) None (get n q)
get_without_rows n rows q =
    get_freed n (map (λ (row : Place × ℕ). row.0) rows) q
    ∙ ap (λ b. cond b None (get n q)) (sym (is_some-find place_cmp q rows))

given_by : (n : Numbering) (e : Place × ℕ) (es : List (Place × ℕ)) (q : Place) (b : Bool)
    → eq_by_cmp place_cmp q e.0 ≡ b → T (is_sorted place_cmp (e ∷ es))
    → option_or (find place_cmp q es) (cond b (Some e.1) (get n q))
    ≡ option_or (cond b (Some e.1) (find place_cmp q es)) (get n q)
given_by n e es q true is up =
    ap (λ o. option_or o (Some e.1))
    (ap (λ k. find place_cmp k es) (same_key place_cmp places_exact q e.0 is)
    ∙ not_found place_cmp e.0 es (first_holds _ _ up))
given_by n e es q false is up = refl

-- what a place has once these rows, in order, are put in
pub get_put_in : (n : Numbering) (rows : List (Place × ℕ)) → T (is_sorted place_cmp rows) → (q : Place)
    → get (fold put_in n rows) q ≡ option_or (find place_cmp q rows) (get n q)
get_put_in n [] up q = refl
get_put_in n (e ∷ es) up q =
    get_put_in (insert n e.0 e.1) es (second_holds _ _ up) q
    ∙ ap (option_or (find place_cmp q es)) (get-insert places_total n e.0 e.1 q)
    ∙ given_by n e es q (eq_by_cmp place_cmp q e.0) refl up

-- ---- from one to the other

module _ (n m : Numbering) (agree : Agree n m) where
  -- what is taken back, and what is given
  abbrev out : List (Place × ℕ)
  out = freed_numbers n m

  abbrev new : List (Place × ℕ)
  new = freed_numbers m n

  -- what is given stands in order
  in_order : T (is_sorted place_cmp new)
  in_order = is_sorted-where_key place_cmp (λ p. not (contains_key n p)) (entries m) (entries_sorted m)

  -- by what a place has in each
  leads_by : (a b : Option ℕ) → ((j k : ℕ) → a ≡ Some j → b ≡ Some k → j ≡ k)
      → option_or (cond (not (is_some a)) b None) (cond (is_some (cond (not (is_some b)) a None)) None a) ≡ b
  leads_by None None same = refl
  leads_by None (Some y) same = refl
  leads_by (Some x) None same = refl
  leads_by (Some x) (Some y) same = ap Some (same x y refl refl)

  leads_at : (q : Place) → get (fold put_in (without_rows n out) new) q ≡ get m q
  leads_at q = get_put_in (without_rows n out) new in_order q
      ∙ (λ i. option_or (back.get_freed m n q i) (get_without_rows n out q i))
      ∙ ap (λ o. option_or (cond (not (contains_key n q)) (get m q) None) (cond (is_some o) None (get n q)))
      (back.get_freed n m q)
      ∙ leads_by (get n q) (get m q) (agree q)

  leads : fold put_in (without_rows n out) new ≡ m
  leads = same_map places_total places_exact _ _ leads_at

  -- what is left is of the other too, by what a place has in each
  left_by_both : (a b : Option ℕ) (k : ℕ) → ((j k : ℕ) → a ≡ Some j → b ≡ Some k → j ≡ k)
      → cond (is_some (cond (not (is_some b)) a None)) None a ≡ Some k → b ≡ Some k
  left_by_both None None k same is = cc
  left_by_both None (Some y) k same is = cc
  left_by_both (Some x) None k same is = cc
  left_by_both (Some x) (Some y) k same is = ap Some (sym (same x y refl refl)) ∙ is

  left_at : (q : Place) → get (without_rows n out) q
      ≡ cond (is_some (cond (not (contains_key m q)) (get n q) None)) None (get n q)
  left_at q = get_without_rows n out q ∙ ap (λ o. cond (is_some o) None (get n q)) (back.get_freed n m q)

  -- what is given is of the other, and its place has no number
  new_by : (a b : Option ℕ) (k : ℕ) → cond (not (is_some a)) b None ≡ Some k
      → (b ≡ Some k) × (cond (is_some (cond (not (is_some b)) a None)) None a ≡ None)
  new_by None None k is = (is, refl)
  new_by None (Some y) k is = (is, refl)
  new_by (Some x) b k is = cc

-- ---- rows that fit in

-- numbers now and rows, all of which one numbering has; the places of the rows have none now
record AreOf (m now : Numbering) (rows : List (Place × ℕ)) : Type 0 where
  here : (q : Place) (k : ℕ) → get now q ≡ Some k → get m q ≡ Some k
  rows_too : (q : Place) (k : ℕ) → find place_cmp q rows ≡ Some k → get m q ≡ Some k
  none : (q : Place) (k : ℕ) → find place_cmp q rows ≡ Some k → get now q ≡ None

module _ (m : Numbering) (apart : IsApart m) where
  -- no device has the number of a row
  no_device : (now : Numbering) (p : Place) (number : ℕ) → ((q : Place) (k : ℕ) → get now q ≡ Some k → get m q ≡ Some k)
      → get m p ≡ Some number → get now p ≡ None
      → (o : Option ℕ) → device_at now (cell_at p number) ≡ o → o ≡ None
  no_device now p number here has none None is = refl
  no_device now p number here has none (Some d) is =
      let holder : Place = place (cell_at p number) d in
      let now_has : get now holder ≡ Some number = has_number now (cell_at p number) d is in
      let same : holder ≡ p = apart holder p number refl refl (here holder number now_has) has in
      let no : None ≡ Some number = sym none ∙ ap (get now) (sym same) ∙ now_has in
      cc

  put_by : (now : Numbering) (e : Place × ℕ) (q : Place) (k : ℕ) (b : Bool) → eq_by_cmp place_cmp q e.0 ≡ b
      → get m e.0 ≡ Some e.1
      → (get now q ≡ Some k → get m q ≡ Some k) → cond b (Some e.1) (get now q) ≡ Some k → get m q ≡ Some k
  put_by now e q k true t has here is = ap (get m) (same_key place_cmp places_exact q e.0 t) ∙ has ∙ is
  put_by now e q k false t has here is = here is

  behind_by : (now : Numbering) (e : Place × ℕ) (es : List (Place × ℕ)) (q : Place) (k : ℕ) (b : Bool)
      → eq_by_cmp place_cmp q e.0 ≡ b
      → find place_cmp e.0 es ≡ None → find place_cmp q es ≡ Some k → get now q ≡ None
      → cond b (Some e.1) (get now q) ≡ None
  behind_by now e es q k true t gone is none =
      let no : None ≡ Some k =
      sym gone ∙ ap (λ x. find place_cmp x es) (sym (same_key place_cmp places_exact q e.0 t)) ∙ is in cc
  behind_by now e es q k false t gone is none = none

  -- with the first of the rows put in, the rest are so too
  rest_of : (now : Numbering) (e : Place × ℕ) (es : List (Place × ℕ)) → T (is_sorted place_cmp (e ∷ es))
      → AreOf m now (e ∷ es) → AreOf m (insert now e.0 e.1) es
  rest_of now e es up h =
      let has = h.rows_too e.0 e.1 (found_first place_cmp places_total places_exact e es) in
      let gone = not_found place_cmp e.0 es (first_holds _ _ up) in record {
        here = λ q k is. put_by now e q k (eq_by_cmp place_cmp q e.0) refl has (h.here q k)
            (sym (get-insert places_total now e.0 e.1 q) ∙ is);
        rows_too = λ q k is. h.rows_too q k
            (found_later place_cmp places_total places_exact q e es k (first_holds _ _ up) is);
        none = λ q k is. get-insert places_total now e.0 e.1 q
            ∙ behind_by now e es q k (eq_by_cmp place_cmp q e.0) refl gone is
            (h.none q k (found_later place_cmp places_total places_exact q e es k (first_holds _ _ up) is));
      }

  fit_in : (now : Numbering) (rows : List (Place × ℕ)) → T (is_sorted place_cmp rows) → AreOf m now rows
      → FitIn now rows
  fit_in now [] up h = tt
  fit_in now (e ∷ es) up h =
      let first = found_first place_cmp places_total places_exact e es in
      let none = h.none e.0 e.1 first in (
        none,
        no_device now e.0 e.1 h.here (h.rows_too e.0 e.1 first) none (device_at now (cell_at e.0 e.1)) refl,
        fit_in (insert now e.0 e.1) es (second_holds _ _ up) (rest_of now e es up h),
      )

-- ---- rows that have room

-- rows each of which has room have room
have_room : (now : Numbered) (rows : List (Place × ℕ)) → T (is_sorted place_cmp rows)
    → ((p : Place) (k : ℕ) → find place_cmp p rows ≡ Some k → HasRoom now p k) → HaveRoom now rows
have_room now [] up each = tt
have_room now (e ∷ es) up each = (
  each e.0 e.1 (found_first place_cmp places_total places_exact e es),
  have_room now es (second_holds _ _ up)
      (λ p k is. each p k (found_later place_cmp places_total places_exact p e es k (first_holds _ _ up) is)),
)

pub rows_have_room : RowsHaveRoom
rows_have_room now n m each = have_room now (freed_numbers m n)
    (is_sorted-where_key place_cmp (λ p. not (contains_key n p)) (entries m) (entries_sorted m))
    (λ p k is. each p k (had (contains_key n p) (get m p) k (sym (back.get_freed m n p) ∙ is)))
  where
    had : (b : Bool) (o : Option ℕ) (k : ℕ) → cond (not b) o None ≡ Some k → o ≡ Some k
    had true o k is = cc
    had false o k is = is

-- ---- the laws

pub exchange_leads : ExchangeLeads
exchange_leads = leads

pub rows_fit_in : RowsFitIn
rows_fit_in n m agree apart =
    fit_in m apart (without_rows n (freed_numbers n m)) (freed_numbers m n) (in_order n m agree) (record {
      here = λ q k is. left_by_both n m agree (get n q) (get m q) k (agree q) (sym (left_at n m agree q) ∙ is);
      rows_too = λ q k is. (new_by n m agree (get n q) (get m q) k (sym (back.get_freed m n q) ∙ is)).0;
      none = λ q k is. left_at n m agree q ∙ (new_by n m agree (get n q) (get m q) k (sym (back.get_freed m n q) ∙ is)).1;
    })

pub changes_agree : ChangesAgree
changes_agree c carried n p j k was is =
    let in_reach : is_reached_at c p ≡ true = sym (numbers_after_are_exact c carried n p) ∙ ap is_some is in
    let same : Some j ≡ Some k = sym (stayers_keep_theirs c carried n p j in_reach was) ∙ is in cc

pub agree_both_ways : AgreeBothWays
agree_both_ways n m agree p j k is was = sym (agree p k j was is)

-- ---- the loop

-- what is left to take back gives what all would give
pub record IsFreeingRows (rows : List (Place × ℕ)) (i : ℕ) (start now : Numbered) : Type 0 where
  pub left : without_rows now.numbers (drop i rows) ≡ without_rows start.numbers rows
  pub room : HasSameRoom now start
