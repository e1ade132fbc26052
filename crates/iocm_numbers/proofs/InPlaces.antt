-- To fill the places that may change, in order, is to fill all places that are reached.
use Rattle.std.proofs.Common.{◌≡◌, ℕ, suc, zero, ◌+◌, ◌<◌, Bool, true, false, cond, not, ◌&&◌, ◌||◌, ◌⊎◌, inl, inr}
use Rattle.std.proofs.Common.{List, [], ◌∷◌, ◌++◌, map, is_some, refl, sym, ap, ◌∙◌, arith}
use Rattle.std.proofs.lemmas.Bool.{and_parts, or_cases, or_right}
use Rattle.std.proofs.lemmas.List.Folds.{list_any-append}
use Rattle.std.specs.List.{fold, filter, flat_map, list_any, range_with_len}
use Rattle.std.specs.Ordering.{eq_by_cmp, is_eq, nat_cmp, ordering_then, ordering_reverse}
use Rattle.std.specs.declared.cmp.Ordering.{Ordering}
use Rattle.std.specs.declared.cmp.Ordering.TheVariants.{Less, Equal, Greater}
use Rattle.std.specs.Cmp.{nat_cmp_is}
use Rattle.std.specs.FinMap.{get, insert, contains_key}
use Rattle.iocm_types.specs.declared.place.Place.{Place}
use Rattle.iocm_types.specs.Place.{place_cmp}
use Rattle.iocm_types.specs.KeyOrder.{places_total, places_exact}
use Rattle.iocm_types.proofs.Found.{same_key, ties_itself}
use Rattle.iocm_types.proofs.Orderings.{ties}
use Rattle.iocm_types.proofs.Tests.{present}
use Rattle.iocm_model.specs.Machine.Configuration.{Configuration, IsKeyed}
use Rattle.iocm_model.specs.Machine.Numbering.{Numbering, sets, is_reached_at, reached_places, reached_devices}
use Rattle.iocm_model.specs.Change.Renumbering.{with_lowest, lowest_free}
use Rattle.iocm_model.proofs.Numbers.Changed.{lowest_keep}
use Rattle.iocm_model.proofs.Numbers.First.{at}
use Rattle.iocm_model.proofs.Numbers.InOrder.{Rises, is_at, of_parts, reached_rise}
use Rattle.iocm_numbers.specs.Renumbering.{filled_by, Rise}

-- a place is one of these
abbrev is_one_of : Place → List Place → Bool
is_one_of p ps = list_any (eq_by_cmp place_cmp p) ps

-- ---- places that are passed over

-- to fill some places is to give the lowest free numbers to those that are reached
filled_reached : (c : Configuration) (m : Numbering) (ps : List Place)
    → fold (filled_by c) m ps ≡ fold with_lowest m (filter (is_reached_at c) ps)
filled_reached c m [] = refl
filled_reached c m (p ∷ ps) = by (λ n. filled_reached c n ps) (is_reached_at c p)
  where
    by : ((n : Numbering) → fold (filled_by c) n ps ≡ fold with_lowest n (filter (is_reached_at c) ps)) → (r : Bool)
        → fold (filled_by c) (cond r (with_lowest m p) m) ps
        ≡ fold with_lowest m (cond r (p ∷ filter (is_reached_at c) ps) (filter (is_reached_at c) ps))
    by more true = more (with_lowest m p)
    by more false = more m

-- places that have numbers already are passed over
skipped : (m n : Numbering) → ((q : Place) → contains_key m q ≡ true → contains_key n q ≡ true) → (ps : List Place)
    → fold with_lowest n ps ≡ fold with_lowest n (filter (λ p. not (contains_key m p)) ps)
skipped m n has [] = refl
skipped m n has (p ∷ ps) = by (λ k h. skipped m k h ps) (contains_key m p) refl
  where
    rest : List Place
    rest = filter (λ q. not (contains_key m q)) ps

    still : (q : Place) → contains_key m q ≡ true → contains_key (with_lowest n p) q ≡ true
    still q there = let old = present (get n q) (has q there) in ap is_some (lowest_keep n (p ∷ []) q old.0 old.1)

    by : ((k : Numbering) → ((q : Place) → contains_key m q ≡ true → contains_key k q ≡ true)
        → fold with_lowest k ps ≡ fold with_lowest k rest)
        → (b : Bool) → contains_key m p ≡ b
        → fold with_lowest (with_lowest n p) ps ≡ fold with_lowest n (cond (not b) (p ∷ rest) rest)
    by more true is = ap (λ b. fold with_lowest (cond b n (insert n p (lowest_free n p.css p.set))) ps) (has p is)
        ∙ more n has
    by more false is = more (with_lowest n p) still

-- ---- members

-- a place is one of those that pass a test if it passes and is one of all
passing_one : (f : Place → Bool) (q : Place) (ps : List Place) → is_one_of q (filter f ps) ≡ (f q && is_one_of q ps)
passing_one f q [] = by (f q)
  where
    by : (b : Bool) → false ≡ (b && false)
    by true = refl
    by false = refl
passing_one f q (p ∷ ps) = by (passing_one f q ps) (eq_by_cmp place_cmp q p) (f p) refl refl
  where
    both : (a : Bool) → (a && true) ≡ a
    both true = refl
    both false = refl

    by : is_one_of q (filter f ps) ≡ (f q && is_one_of q ps) → (t b : Bool) → eq_by_cmp place_cmp q p ≡ t → f p ≡ b
        → is_one_of q (cond b (p ∷ filter f ps) (filter f ps)) ≡ (f q && (eq_by_cmp place_cmp q p || is_one_of q ps))
    by more true true e is =
        let passes : f q ≡ true = ap f (same_key place_cmp places_exact q p e) ∙ is in
        (λ i. e i || is_one_of q (filter f ps)) ∙ sym (λ i. passes i && (e i || is_one_of q ps))
    by more true false e is =
        let fails : f q ≡ false = ap f (same_key place_cmp places_exact q p e) ∙ is in
        more ∙ (λ i. fails i && is_one_of q ps) ∙ sym (λ i. fails i && (e i || is_one_of q ps))
    by more false true e is = (λ i. e i || is_one_of q (filter f ps)) ∙ more ∙ sym (λ i. f q && (e i || is_one_of q ps))
    by more false false e is = more ∙ sym (λ i. f q && (e i || is_one_of q ps))

-- those that pass rise too
passing_rise : (f : Place → Bool) (ps : List Place) → Rise ps → Rise (filter f ps)
passing_rise f [] rise = tt
passing_rise f (p ∷ ps) rise = by (passing_rise f ps rise.1) (f p)
  where
    by : Rise (filter f ps) → (b : Bool) → Rise (cond b (p ∷ filter f ps) (filter f ps))
    by more true = ((λ q among. rise.0 q (and_parts (f q) (is_one_of q ps) (sym (passing_one f q ps) ∙ among)).1), more)
    by more false = more

-- a place isn't behind itself
not_behind : (p : Place) (ps : List Place) → ((q : Place) → is_one_of q ps ≡ true → place_cmp p q ≡ Less)
    → is_one_of p ps ≡ false
not_behind p ps below = by (is_one_of p ps) refl
  where
    by : (b : Bool) → is_one_of p ps ≡ b → is_one_of p ps ≡ false
    by false is = is
    by true is = let no : true ≡ false = sym (ties_itself place_cmp places_total p) ∙ ap is_eq (below p is) in cc

-- lists that rise and have the same members are equal
one_order : (xs ys : List Place) → Rise xs → Rise ys → ((q : Place) → is_one_of q xs ≡ is_one_of q ys) → xs ≡ ys
one_order [] [] up vp same = refl
one_order [] (y ∷ ys) up vp same = let no : false ≡ true =
    same y ∙ ap (λ b. b || is_one_of y ys) (ties_itself place_cmp places_total y) in cc
one_order (x ∷ xs) [] up vp same = let no : true ≡ false =
    sym (ap (λ b. b || is_one_of x xs) (ties_itself place_cmp places_total x)) ∙ same x in cc
one_order (x ∷ xs) (y ∷ ys) up vp same =
    let first : x ≡ y = first_is (eq_by_cmp place_cmp x y) refl in
    (λ i. first i ∷ one_order xs ys up.1 vp.1 (λ q. tail first q (eq_by_cmp place_cmp q x) refl) i)
  where
    turned : (r : Ordering) → r ≡ Less → ordering_reverse r ≡ Less → x ≡ y
    turned Less a b = cc
    turned Equal a b = cc
    turned Greater a b = cc

    behind : (p q : Place) (ps : List Place) → eq_by_cmp place_cmp q p ≡ false → is_one_of q (p ∷ ps) ≡ true
        → is_one_of q ps ≡ true
    behind p q ps apart among = sym (ap (λ b. b || is_one_of q ps) apart) ∙ among

    apart_too : eq_by_cmp place_cmp x y ≡ false → eq_by_cmp place_cmp y x ≡ false
    apart_too e = by (eq_by_cmp place_cmp y x) refl
      where
        by : (b : Bool) → eq_by_cmp place_cmp y x ≡ b → eq_by_cmp place_cmp y x ≡ false
        by false is = is
        by true is = let no : true ≡ false =
            sym (ties_itself place_cmp places_total x)
            ∙ ap (eq_by_cmp place_cmp x) (sym (same_key place_cmp places_exact y x is)) ∙ e in cc

    first_is : (b : Bool) → eq_by_cmp place_cmp x y ≡ b → x ≡ y
    first_is true is = same_key place_cmp places_exact x y is
    first_is false is =
        let x_there : is_one_of x (y ∷ ys) ≡ true =
        sym (same x) ∙ ap (λ b. b || is_one_of x xs) (ties_itself place_cmp places_total x) in
        let y_there : is_one_of y (x ∷ xs) ≡ true =
        same y ∙ ap (λ b. b || is_one_of y ys) (ties_itself place_cmp places_total y) in
        let y_less : place_cmp y x ≡ Less = vp.0 x (behind y x ys is x_there) in
        let x_less : place_cmp x y ≡ Less = up.0 y (behind x y xs (apart_too is) y_there) in
        turned (place_cmp y x) y_less (sym (places_total.antisymm x y) ∙ x_less)

    tail : x ≡ y → (q : Place) → (b : Bool) → eq_by_cmp place_cmp q x ≡ b → is_one_of q xs ≡ is_one_of q ys
    tail first q true is =
        let here : q ≡ x = same_key place_cmp places_exact q x is in
        ap (λ p. is_one_of p xs) here ∙ not_behind x xs up.0
        ∙ sym (ap (λ p. is_one_of p ys) (here ∙ first) ∙ not_behind y ys vp.0)
    tail first q false is =
        ap (λ b. b || is_one_of q xs) (sym is) ∙ same q
        ∙ ap (λ b. b || is_one_of q ys) (ap (eq_by_cmp place_cmp q) (sym first) ∙ is)

-- ---- the places that are reached rise

-- a number that is less compares so
less_cmp : (a b : ℕ) → a < b → nat_cmp a b ≡ Less
less_cmp a b h = sym (nat_cmp_is a b Less h)

before_by_css : (p q : Place) → p.css < q.css → place_cmp p q ≡ Less
before_by_css p q less =
    ap (λ r. ordering_then r (ordering_then (nat_cmp p.set q.set) (nat_cmp p.device q.device)))
    (less_cmp p.css q.css less)

before_by_set : (p q : Place) → p.css ≡ q.css → p.set < q.set → place_cmp p q ≡ Less
before_by_set p q css less =
    (λ i. ordering_then (ties p.css q.css css i)
    (ordering_then (less_cmp p.set q.set less i) (nat_cmp p.device q.device)))

before_by_device : (p q : Place) → p.css ≡ q.css → p.set ≡ q.set → p.device < q.device → place_cmp p q ≡ Less
before_by_device p q css set less =
    (λ i. ordering_then (ties p.css q.css css i)
    (ordering_then (ties p.set q.set set i) (less_cmp p.device q.device less i)))

-- the devices of a set
devices_rise : (css set : ℕ) (ds : List ℕ) → Rises ds → Rise (map (at css set) ds)
devices_rise css set [] rise = tt
devices_rise css set (d ∷ ds) rise = (
  (λ q among. let it = is_at css set ds q among in before_by_device (at css set d) q (sym it.css_is) (sym it.set_is)
      (rise.0 q.device it.device_is)),
  devices_rise css set ds rise.1,
)

-- places before others
joined_rise : (xs ys : List Place) → Rise xs → Rise ys
    → ((p q : Place) → is_one_of p xs ≡ true → is_one_of q ys ≡ true → place_cmp p q ≡ Less) → Rise (xs ++ ys)
joined_rise [] ys up vp before = vp
joined_rise (x ∷ xs) ys up vp before = (
  (λ q among. by q (or_cases _ _ (sym (list_any-append (eq_by_cmp place_cmp q) xs ys) ∙ among))),
  joined_rise xs ys up.1 vp (λ p q a b. before p q (or_right (eq_by_cmp place_cmp p x) _ a) b),
)
  where
    by : (q : Place) → ((is_one_of q xs ≡ true) ⊎ (is_one_of q ys ≡ true)) → place_cmp x q ≡ Less
    by q (inl e) = up.0 q e
    by q (inr e) = before x q (ap (λ b. b || is_one_of x xs) (ties_itself place_cmp places_total x)) e

-- parts one after the other, each before those of greater numbers
module _ (part : ℕ → List Place) (each : (i : ℕ) → Rise (part i))
    (before : (i j : ℕ) → i < j → (p q : Place) → is_one_of p (part i) ≡ true → is_one_of q (part j) ≡ true
    → place_cmp p q ≡ Less) where
  -- a part is before those of greater numbers
  before_rest : (i n k : ℕ) → i < n → (p q : Place) → is_one_of p (part i) ≡ true
      → is_one_of q (flat_map part (range_with_len n k)) ≡ true → place_cmp p q ≡ Less
  before_rest i n zero less p q a b = cc
  before_rest i n (suc k) less p q a b = by (λ h. before_rest i (n + 1) k (omega (arith, less)) p q a h)
      (or_cases _ _ (sym (list_any-append (eq_by_cmp place_cmp q) (part n) (flat_map part (range_with_len (n + 1) k)))
      ∙ b))
    where
      by : (is_one_of q (flat_map part (range_with_len (n + 1) k)) ≡ true → place_cmp p q ≡ Less)
          → ((is_one_of q (part n) ≡ true) ⊎ (is_one_of q (flat_map part (range_with_len (n + 1) k)) ≡ true))
          → place_cmp p q ≡ Less
      by more (inl e) = before i n less p q a e
      by more (inr e) = more e

  parts_rise : (n k : ℕ) → Rise (flat_map part (range_with_len n k))
  parts_rise n zero = tt
  parts_rise n (suc k) = joined_rise (part n) (flat_map part (range_with_len (n + 1) k)) (each n) (parts_rise (n + 1) k)
      (λ p q a b. before_rest n (n + 1) k (omega arith) p q a b)

module _ (c : Configuration) (keyed : IsKeyed c) where
  abbrev in_set : ℕ → ℕ → List Place
  in_set css set = map (at css set) (reached_devices c css set)

  abbrev in_css : ℕ → List Place
  in_css css = flat_map (in_set css) sets

  css_of : (css : ℕ) (p : Place) → is_one_of p (in_css css) ≡ true → p.css ≡ css
  css_of css p = of_parts (λ q. q.css ≡ css) (in_set css)
      (λ set q h. (is_at css set (reached_devices c css set) q h).css_is) sets p

  css_rise : (css : ℕ) → Rise (in_css css)
  css_rise css = parts_rise (in_set css)
      (λ set. devices_rise css set (reached_devices c css set) (reached_rise c keyed css set))
      (λ i j less p q a b. let x = is_at css i (reached_devices c css i) p a in let y = is_at css j
      (reached_devices c css j) q b in
      before_by_set p q (x.css_is ∙ sym y.css_is) (omega (arith, x.set_is, y.set_is, less))) 0 4

  all_rise : Rise (reached_places c)
  all_rise = parts_rise in_css css_rise
      (λ i j less p q a b. before_by_css p q (omega (arith, css_of i p a, css_of j q b, less))) 0 6

-- ---- the law

-- to fill the places that may change, in order, is to fill all that are reached
pub filled_in_places : (c : Configuration) → IsKeyed c → (m : Numbering) (touched : List Place) → Rise touched
    → ((p : Place) → is_one_of p touched ≡ false → is_reached_at c p ≡ true → contains_key m p ≡ true)
    → fold (filled_by c) m touched ≡ fold with_lowest m (reached_places c)
filled_in_places c keyed m touched rise all =
    filled_reached c m touched ∙ skipped m m (λ q h. h) (filter (is_reached_at c) touched)
    ∙ ap (fold with_lowest m) (one_order (filter new (filter (is_reached_at c) touched)) (filter new (reached_places c))
    (passing_rise new (filter (is_reached_at c) touched) (passing_rise (is_reached_at c) touched rise))
    (passing_rise new (reached_places c) (all_rise c keyed)) same)
    ∙ sym (skipped m m (λ q h. h) (reached_places c))
  where
    new : Place → Bool
    new p = not (contains_key m p)

    by : (q : Place) (t r h : Bool) → is_one_of q touched ≡ t → is_reached_at c q ≡ r → contains_key m q ≡ h
        → (not (contains_key m q) && (is_reached_at c q && is_one_of q touched))
        ≡ (not (contains_key m q) && is_reached_at c q)
    by q t r true e in_reach has =
        (λ i. not (has i) && (is_reached_at c q && is_one_of q touched)) ∙ sym (λ i. not (has i) && is_reached_at c q)
    by q t false false e in_reach has =
        (λ i. not (contains_key m q) && (in_reach i && is_one_of q touched))
        ∙ sym (λ i. not (contains_key m q) && in_reach i)
    by q true true false e in_reach has =
        (λ i. not (contains_key m q) && (in_reach i && e i)) ∙ sym (λ i. not (contains_key m q) && in_reach i)
    by q false true false e in_reach has = let no : true ≡ false = sym (all q e in_reach) ∙ has in cc

    same : (q : Place) → is_one_of q (filter new (filter (is_reached_at c) touched))
        ≡ is_one_of q (filter new (reached_places c))
    same q = passing_one new q (filter (is_reached_at c) touched)
        ∙ ap (λ b. new q && b) (passing_one (is_reached_at c) q touched)
        ∙ by q (is_one_of q touched) (is_reached_at c q) (contains_key m q) refl refl refl
        ∙ sym (passing_one new q (reached_places c))
