-- Changes that are those of an edit turned round are just what it is to go back, cell by cell; and
-- so along a whole run.
use Rattle.std.proofs.Common.{◌≡◌, ℕ, Bool, true, false, cond, not, ◌&&◌, ◌||◌, List, [], ◌∷◌, ◌++◌, map, length}
use Rattle.std.proofs.Common.{reverse}
use Rattle.std.proofs.Common.{Option, Some, None, refl, sym, ap, subst, ◌∙◌, arith, eqb-true, eq-eqb}
use Rattle.std.specs.Prelude.{nat_eq}
use Rattle.std.specs.List.{list_any, list_all}
use Rattle.std.specs.Option.{option_eq, option_and_then}
use Rattle.std.specs.Ordering.{eq_by_cmp}
use Rattle.std.specs.declared.cmp.Ordering.{Ordering}
use Rattle.std.specs.Cmp.{IsTotalOrder}
use Rattle.std.specs.Cmp.Lexicographic.{pointwise}
use Rattle.std.specs.FinMap.{FinMap, IsAntisymmetric, get}
use Rattle.std.proofs.lemmas.Bool.{and_parts, and_from, or_left, or_right, false≢true, false_from_ne_true}
use Rattle.std.proofs.lemmas.List.{reverse-append, length-reverse}
use Rattle.iocm_types.specs.declared.place.NumberCell.{NumberCell}
use Rattle.iocm_types.specs.declared.sub_id.SubId.{SubId}
use Rattle.iocm_types.specs.declared.view.View.{View}
use Rattle.iocm_types.specs.KeyOrder.{cells_total, cells_exact, sub_ids_total, sub_ids_exact}
use Rattle.iocm_types.proofs.Found.{same_key, ties_itself}
use Rattle.iocm_model.proofs.Change.Trees.{inverses_length}
use Rattle.iocm_model.specs.Machine.Numbering.{cells_of}
use Rattle.iocm_model.specs.Operation.State.{State, views_in}
use Rattle.iocm_model.specs.Change.Edit.{Edit, same_view, state_after}
use Rattle.iocm_model.specs.Change.Inverse.{inverse_of}
use Rattle.iocm_model.specs.Change.InverseTree.{parts_of}
use Rattle.iocm_model.specs.Change.Maps.{differing}
use Rattle.iocm_model.specs.Change.Runs.{inverses}
use Rattle.iocm_model.proofs.Maps.Cells.{in_differing}
use Rattle.iocm_model.proofs.Change.SameViews.{sight_is, own_sight}
use Rattle.iocm_history.specs.Fits.{goes_back_at, goes_back, is_barred, state_before, state_before_all}
use Rattle.iocm_history.proofs.Fitting.{stays_at, turns_at, goes_back_here}
use Rattle.iocm_numbers.specs.declared.number_change.NumberChange.{NumberChange}
use Rattle.iocm_seats.specs.declared.view_change.ViewChange.{ViewChange}
use Rattle.iocm_seats.proofs.Ordered.{differing_rise, same_members}
use Rattle.iocm_plant.specs.declared.touched.Touched.{Touched}
use Rattle.iocm_activate.specs.Told.{told_of, told_of_all}
use Rattle.iocm_activate.specs.Done.{IsToldBy, AreToldBy}
use Rattle.iocm_activate.specs.Fitting.{is_turned_number, is_turned_view, gone_back, gone_back_along}

-- ---- truth values

by_truth : (a b : Bool) → (a ≡ true → b ≡ true) → (b ≡ true → a ≡ true) → a ≡ b
by_truth true b f g = sym (f refl)
by_truth false true f g = g refl
by_truth false false f g = refl

holds_since : (b : Bool) → not b ≡ false → b ≡ true
holds_since true h = refl
holds_since false h = sym h

fails_since : (b : Bool) → not b ≡ true → b ≡ false
fails_since true h = sym h
fails_since false h = refl

all_hold : {K : Type 0} (test : K → Bool) → ((k : K) → test k ≡ true) → (ks : List K) → list_all test ks ≡ true
all_hold test each [] = refl
all_hold test each (k ∷ ks) = and_from _ _ (each k) (all_hold test each ks)

-- ---- changes of a map, by key with what was there before and after

module _ {K X C : Type 0} {R : K → K → Ordering} (total : IsTotalOrder R) (exact : IsAntisymmetric R)
    (same : X → X → Bool)
    (are : (a b : Option X) → option_eq same a b ≡ true → a ≡ b) (own : (a : Option X) → option_eq same a a ≡ true)
    (turned : C → C → Bool) (change : (K → Option X) → (K → Option X) → K → C)
    (turns : (v w p q : K → Option X) (k l : K)
    → turned (change v w k) (change p q l)
    ≡ (eq_by_cmp R k l && (option_eq same (v k) (q l) && option_eq same (w k) (p l)))) where
  -- all changes between two maps
  abbrev changes : FinMap R X → FinMap R X → List C
  changes m n = map (change (get m) (get n)) (differing same m n)

  -- the values at a key are turned round
  abbrev AreTurned : (v w p q : K → Option X) → K → Type 0
  AreTurned v w p q k = (option_eq same (v k) (q k) ≡ true) × (option_eq same (w k) (p k) ≡ true)

  same_keys : (v w p q : K → Option X) (ks ls : List K)
      → pointwise turned (map (change v w) ks) (map (change p q) ls) ≡ true → ks ≡ ls
  same_keys v w p q [] [] h = refl
  same_keys v w p q [] (l ∷ ls) h = absurd (false≢true h)
  same_keys v w p q (k ∷ ks) [] h = absurd (false≢true h)
  same_keys v w p q (k ∷ ks) (l ∷ ls) h =
      let both = and_parts _ _ h in
      let first = same_key R exact k l (and_parts _ _ (sym (turns v w p q k l) ∙ both.0)).0 in
      let more = same_keys v w p q ks ls both.1 in
      λ i. first i ∷ more i

  values_at : (v w p q : K → Option X) (ks : List K)
      → pointwise turned (map (change v w) ks) (map (change p q) ks) ≡ true
      → (x : K) → list_any (eq_by_cmp R x) ks ≡ true → AreTurned v w p q x
  values_at v w p q [] h x there = absurd (false≢true there)
  values_at v w p q (k ∷ ks) h x there = by (eq_by_cmp R x k) refl there (values_at v w p q ks (and_parts _ _ h).1 x)
    where
      by : (b : Bool) → eq_by_cmp R x k ≡ b → (b || list_any (eq_by_cmp R x) ks) ≡ true
          → (list_any (eq_by_cmp R x) ks ≡ true → AreTurned v w p q x)
          → AreTurned v w p q x
      by true e found further =
          let here = and_parts _ _ (sym (turns v w p q k k) ∙ (and_parts _ _ h).0) in
          subst (AreTurned v w p q) (sym (same_key R exact x k e)) (and_parts _ _ here.1)
      by false e found further = further found

  turned_along : (v w p q : K → Option X) (ks : List K)
      → ((x : K) → list_any (eq_by_cmp R x) ks ≡ true → AreTurned v w p q x)
      → pointwise turned (map (change v w) ks) (map (change p q) ks) ≡ true
  turned_along v w p q [] each = refl
  turned_along v w p q (k ∷ ks) each =
      let here = each k (or_left _ _ (ties_itself R total k)) in
      and_from _ _ (turns v w p q k k ∙ and_from _ _ (ties_itself R total k) (and_from _ _ here.0 here.1))
      (turned_along v w p q ks (λ x there. each x (or_right _ _ there)))

  module _ (old new here there : FinMap R X) where
    -- where the changes are turned round, each cell goes back
    back_at : pointwise turned (changes here there) (changes old new) ≡ true → (x : K)
        → goes_back_at same (get old x) (get new x) (get here x) (get there x) ≡ true
    back_at h x = by (option_eq same (get old x) (get new x)) refl
      where
        keys_are : differing same here there ≡ differing same old new
        keys_are = same_keys (get here) (get there) (get old) (get new) (differing same here there)
            (differing same old new) h

        along : pointwise turned (map (change (get here) (get there)) (differing same old new)) (changes old new) ≡ true
        along = ap (λ ks. pointwise turned (map (change (get here) (get there)) ks) (changes old new)) (sym keys_are)
            ∙ h

        differ : not (option_eq same (get here x) (get there x)) ≡ not (option_eq same (get old x) (get new x))
        differ = sym (in_differing total exact same here there x) ∙ ap (list_any (eq_by_cmp R x)) keys_are
            ∙ in_differing total exact same old new x

        by : (b : Bool) → option_eq same (get old x) (get new x) ≡ b
            → goes_back_at same (get old x) (get new x) (get here x) (get there x) ≡ true
        by true e = ap (λ b. cond b (option_eq same (get here x) (get there x))
            (option_eq same (get here x) (get new x) && option_eq same (get there x) (get old x))) e
            ∙ holds_since _ (differ ∙ ap not e)
        by false e =
            let both = values_at (get here) (get there) (get old) (get new) (differing same old new) along x
            (in_differing total exact same old new x ∙ ap not e) in
            ap (λ b. cond b (option_eq same (get here x) (get there x))
            (option_eq same (get here x) (get new x) && option_eq same (get there x) (get old x))) e
            ∙ and_from _ _ both.0 both.1

    -- where each cell goes back, the maps differ at the same keys
    differ_alike : goes_back same old new here there ≡ true → (x : K)
        → option_eq same (get here x) (get there x) ≡ option_eq same (get old x) (get new x)
    differ_alike h x = by (option_eq same (get old x) (get new x)) refl
      where
        by : (b : Bool) → option_eq same (get old x) (get new x) ≡ b
            → option_eq same (get here x) (get there x) ≡ option_eq same (get old x) (get new x)
        by true e = stays_at same (get old x) (get new x) (get here x) (get there x) e
            (goes_back_here exact same old new here there h x) ∙ sym e
        by false e =
            let both = turns_at same (get old x) (get new x) (get here x) (get there x) e
            (goes_back_here exact same old new here there h x) in
            false_from_ne_true _ (λ alike.
            let one : get old x ≡ get new x = sym (are _ _ both.1) ∙ sym (are _ _ alike) ∙ are _ _ both.0 in
            false≢true (sym e ∙ ap (option_eq same (get old x)) (sym one) ∙ own (get old x)))
            ∙ sym e

    keys_alike : goes_back same old new here there ≡ true → differing same here there ≡ differing same old new
    keys_alike h = same_members R total exact (differing same here there) (differing same old new)
        (differing_rise R same here there)
        (differing_rise R same old new)
        (λ x. in_differing total exact same here there x ∙ ap not (differ_alike h x)
        ∙ sym (in_differing total exact same old new x))

    back_turns : goes_back same old new here there ≡ true
        → pointwise turned (changes here there) (changes old new) ≡ true
    back_turns h = ap (λ ks. pointwise turned (map (change (get here) (get there)) ks) (changes old new)) (keys_alike h)
        ∙ turned_along (get here) (get there) (get old) (get new) (differing same old new) (λ x among.
        turns_at same (get old x) (get new x) (get here x) (get there x)
        (fails_since _ (sym (in_differing total exact same old new x) ∙ among))
        (goes_back_here exact same old new here there h x))

    -- changes are those of an edit turned round exactly where each cell goes back
    pub turned_is_back : pointwise turned (changes here there) (changes old new) ≡ goes_back same old new here there
    turned_is_back = by_truth _ _ (λ h. all_hold _ (back_at h) _) back_turns

-- ---- one edit

device_is : (a b : Option ℕ) → option_eq nat_eq a b ≡ true → a ≡ b
device_is None None h = refl
device_is None (Some y) h = cc
device_is (Some x) None h = cc
device_is (Some x) (Some y) h = ap Some (eqb-true x y h)

own_device : (a : Option ℕ) → option_eq nat_eq a a ≡ true
own_device None = refl
own_device (Some x) = eq-eqb x x refl

abbrev number_change : (NumberCell → Option ℕ) → (NumberCell → Option ℕ) → NumberCell → NumberChange
number_change v w cell = record { cell = cell; before = v cell; after = w cell }

abbrev view_change : (SubId → Option View) → (SubId → Option View) → SubId → ViewChange
view_change v w x = record { subchannel = x; before = v x; after = w x }

module _ (e : Edit) (s u : State) (d : Touched) (told : IsToldBy d (told_of e s)) where
  abbrev t : State
  t = state_after e s

  abbrev v : State
  v = state_after (inverse_of e s) u

  -- the inverse of an edit goes back exactly where its changes are those of the edit turned round
  pub one_back : gone_back (inverse_of e s) d u ≡ state_before e s u
  one_back =
      let cells = ap (pointwise is_turned_number _) told.0
      ∙ turned_is_back cells_total cells_exact nat_eq device_is own_device is_turned_number number_change
      (λ f g p q k l. refl)
      (cells_of s.numbers) (cells_of t.numbers) (cells_of u.numbers) (cells_of v.numbers) in
      let seen = ap (pointwise is_turned_view _) told.1
      ∙ turned_is_back sub_ids_total sub_ids_exact same_view sight_is own_sight is_turned_view view_change
      (λ f g p q k l. refl)
      (views_in s) (views_in t) (views_in u) (views_in v) in
      λ i. cond (not (is_barred (inverse_of e s) u) && cells i && seen i) (Some v) None

-- ---- a run of edits

some_again : {A : Type 0} (o : Option A) → option_and_then (λ (x : A). Some x) o ≡ o
some_again None = refl
some_again (Some x) = refl

back_append : (xs ys : List Edit) (cs bs : List Touched) (u : State) → length xs ≡ length cs
    → gone_back_along (parts_of (xs ++ ys)) (cs ++ bs) u
    ≡ option_and_then (gone_back_along (parts_of ys) bs) (gone_back_along (parts_of xs) cs u)
back_append [] ys [] bs u long = refl
back_append [] ys (a ∷ cs) bs u long = absurd (omega (arith, long))
back_append (x ∷ xs) ys [] bs u long = absurd (omega (arith, long))
back_append (x ∷ xs) ys (a ∷ cs) bs u long = on (gone_back x a u) (λ w. back_append xs ys cs bs w (omega (arith, long)))
  where
    on : (o : Option State) → ((w : State) → gone_back_along (parts_of (xs ++ ys)) (cs ++ bs) w
        ≡ option_and_then (gone_back_along (parts_of ys) bs) (gone_back_along (parts_of xs) cs w))
        → option_and_then (gone_back_along (parts_of (xs ++ ys)) (cs ++ bs)) o
        ≡ option_and_then (gone_back_along (parts_of ys) bs) (option_and_then (gone_back_along (parts_of xs) cs) o)
    on None further = refl
    on (Some w) further = further w

told_long : (ds : List Touched) (es : List Edit) (s : State) → AreToldBy ds (told_of_all es s) → length ds ≡ length es
told_long [] [] s told = refl
told_long [] (e ∷ es) s told = absurd told
told_long (d ∷ ds) [] s told = absurd told
told_long (d ∷ ds) (e ∷ es) s told = let more = told_long ds es (state_after e s) told.1 in omega (arith, more)

-- the inverses of a run go back exactly as far as the definition says
pub all_back : (ds : List Touched) (es : List Edit) (s u : State) → AreToldBy ds (told_of_all es s)
    → gone_back_along (parts_of (inverses es s)) (reverse ds) u ≡ state_before_all es s u
all_back [] [] s u told = refl
all_back [] (e ∷ es) s u told = absurd told
all_back (d ∷ ds) [] s u told = absurd told
all_back (d ∷ ds) (e ∷ es) s u told =
    ap (λ cs. gone_back_along (parts_of (inverses es (state_after e s) ++ (inverse_of e s ∷ []))) cs u)
    (reverse-append (d ∷ []) ds)
    ∙ back_append (inverses es (state_after e s)) (inverse_of e s ∷ []) (reverse ds) (d ∷ []) u
    (inverses_length es (state_after e s) ∙ sym (told_long ds es (state_after e s) told.1) ∙ sym (length-reverse ds))
    ∙ ap (option_and_then (gone_back_along (parts_of (inverse_of e s ∷ [])) (d ∷ [])))
    (all_back ds es (state_after e s) u told.1)
    ∙ on (state_before_all es (state_after e s) u)
  where
    on : (o : Option State) → option_and_then (gone_back_along (parts_of (inverse_of e s ∷ [])) (d ∷ [])) o
        ≡ option_and_then (state_before e s) o
    on None = refl
    on (Some w) = some_again (gone_back (inverse_of e s) d w) ∙ one_back e s w d told.0
