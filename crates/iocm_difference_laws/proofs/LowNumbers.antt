-- Where the devices that are reached are among so many, numbers that are given stay below that.
use Rattle.std.proofs.Common.{◌≡◌, ℕ, ◌+◌, ◌<◌, ◌≤◌, nat_eq, eqb-true, eq-eqb, Bool, true, false, cond, ◌&&◌, ◌||◌, ◌⊎◌}
use Rattle.std.proofs.Common.{inl, inr, List, [], ◌∷◌, length, Option, Some, None, is_some, refl, sym, ap, subst, ◌∙◌}
use Rattle.std.proofs.Common.{arith}
use Rattle.std.proofs.lemmas.Bool.{and_parts, or_cases, or_right}
use Rattle.std.proofs.lemmas.Map.Steps.{le-length_from_below}
use Rattle.std.specs.List.{filter_map, cons_option, list_any, fold}
use Rattle.std.specs.Ordering.{eq_by_cmp}
use Rattle.std.specs.FinMap.{get, insert, contains_key, empty, get-empty, entries, entries_sorted, get-entries}
use Rattle.iocm_types.specs.declared.place.Place.{Place}
use Rattle.iocm_types.specs.declared.place.NumberCell.{NumberCell}
use Rattle.iocm_types.specs.Place.{place_cmp, cell_cmp}
use Rattle.iocm_types.specs.KeyOrder.{places_total, places_exact, cells_total, cells_exact}
use Rattle.iocm_types.proofs.Found.{same_key, ties_itself, IsPassing, passing}
use Rattle.iocm_types.proofs.Tests.{absent}
use Rattle.iocm_model.specs.Machine.Configuration.{Configuration, IsKeyed}
use Rattle.iocm_model.specs.Machine.Numbering.{Numbering, reached_places, is_reached_at, cells_of, opening}
use Rattle.iocm_model.specs.Change.Renumbering.{lowest_free, without_leavers, with_lowest, numbers_after}
use Rattle.iocm_model.specs.Laws.Numbers.{is_used}
use Rattle.iocm_model.proofs.Numbers.Apart.{any_kept}
use Rattle.iocm_model.proofs.Numbers.Cells.{has_number}
use Rattle.iocm_model.proofs.Numbers.Changed.{given, other_place, get_without}
use Rattle.iocm_model.proofs.Numbers.FromNone.{opening_is_from_none}
use Rattle.iocm_model.proofs.Numbers.InOrder.{is_one_of}
use Rattle.iocm_model.proofs.Numbers.Lowest.{lowest_free_is_free}

-- ---- what a list makes

module _ (f : ℕ → Option ℕ) where
  made_by : (o : Option ℕ) (j : ℕ) (rest : List ℕ) → list_any (nat_eq j) rest ≡ true
      → list_any (nat_eq j) (cons_option o rest) ≡ true
  made_by None j rest more = more
  made_by (Some y) j rest more = or_right (nat_eq j y) _ more

  -- what one of a list makes is made
  made : (x j : ℕ) (xs : List ℕ) → f x ≡ Some j → list_any (nat_eq x) xs ≡ true
      → list_any (nat_eq j) (filter_map f xs) ≡ true
  made x j [] is among = cc
  made x j (y ∷ xs) is among = by (or_cases _ _ among) (made x j xs is)
    where
      by : ((nat_eq x y ≡ true) ⊎ (list_any (nat_eq x) xs ≡ true))
          → (list_any (nat_eq x) xs ≡ true → list_any (nat_eq j) (filter_map f xs) ≡ true)
          → list_any (nat_eq j) (cons_option (f y) (filter_map f xs)) ≡ true
      by (inl same) later = ap (λ o. list_any (nat_eq j) (cons_option o (filter_map f xs)))
          (sym (ap f (eqb-true x y same)) ∙ is)
          ∙ ap (λ b. b || list_any (nat_eq j) (filter_map f xs)) (eq-eqb j j refl)
      by (inr more) later = made_by (f y) j (filter_map f xs) (later more)

  no_longer : (o : Option ℕ) (rest : List ℕ) (n : ℕ) → length rest ≤ n → length (cons_option o rest) ≤ n + 1
  no_longer None rest n few = omega arith
  no_longer (Some y) rest n few = omega arith

  at_most : (xs : List ℕ) → length (filter_map f xs) ≤ length xs
  at_most [] = omega arith
  at_most (x ∷ xs) = let w : length (cons_option (f x) (filter_map f xs)) ≤ length xs + 1 =
      no_longer (f x) (filter_map f xs) (length xs) (at_most xs) in omega (arith, w)

  -- where one of the list makes nothing, fewer are made
  fewer : (x : ℕ) (xs : List ℕ) → f x ≡ None → list_any (nat_eq x) xs ≡ true → length (filter_map f xs) < length xs
  fewer x [] is among = cc
  fewer x (y ∷ xs) is among = by (or_cases _ _ among) (fewer x xs is)
    where
      by : ((nat_eq x y ≡ true) ⊎ (list_any (nat_eq x) xs ≡ true))
          → (list_any (nat_eq x) xs ≡ true → length (filter_map f xs) < length xs)
          → length (filter_map f (y ∷ xs)) < length (y ∷ xs)
      by (inl same) later =
          let none : f y ≡ None = sym (ap f (eqb-true x y same)) ∙ is in
          let shorter : length (cons_option (f y) (filter_map f xs)) ≡ length (filter_map f xs) =
          ap (λ o. length (cons_option o (filter_map f xs))) none in
          let rest : length (filter_map f xs) ≤ length xs = at_most xs in
          omega (arith, shorter, rest)
      by (inr more) later =
          let rest : length (filter_map f xs) < length xs = later more in
          let step : length (cons_option (f y) (filter_map f xs)) ≤ length (filter_map f xs) + 1 =
          no_longer (f y) (filter_map f xs) (length (filter_map f xs)) (omega arith) in
          omega (arith, step, rest)

-- ---- a number that is used is a place's

-- a place of a channel subsystem and set that has this number
record HasNumber (n : Numbering) (css set number : ℕ) : Type 0 where
  place : Place
  css_is : place.css ≡ css
  set_is : place.set ≡ set
  has : get n place ≡ Some number

used_by_a_place : (n : Numbering) (css set number : ℕ) → is_used n css set number ≡ true → HasNumber n css set number
used_by_a_place n css set number used =
    let test : NumberCell × ℕ → Bool = λ e. (nat_eq e.0.css css && nat_eq e.0.set set) && nat_eq number e.0.number in
    let passing : IsPassing cell_cmp test (entries (cells_of n)) =
    passing cell_cmp cells_total cells_exact test (entries (cells_of n)) (entries_sorted (cells_of n))
    (sym (any_kept (nat_eq number) (λ (e : NumberCell × ℕ). e.0.number)
    (λ (e : NumberCell × ℕ). nat_eq e.0.css css && nat_eq e.0.set set) (entries (cells_of n))) ∙ used) in
    let parts = and_parts _ _ passing.passes in
    let within = and_parts _ _ parts.0 in record {
      place = record { css = passing.key.css; set = passing.key.set; device = passing.value };
      css_is = eqb-true _ _ within.0;
      set_is = eqb-true _ _ within.1;
      has = has_number n passing.key passing.value (get-entries (cells_of n) passing.key ∙ passing.found)
          ∙ ap Some (sym (eqb-true _ _ parts.1));
    }

-- ---- numbers below a bound

-- the numbers of a channel subsystem and set are below this
abbrev pub AreBelow : ℕ → ℕ → ℕ → Numbering → Type 0
AreBelow css set most n = (p : Place) (k : ℕ) → p.css ≡ css → p.set ≡ set → get n p ≡ Some k → k < most

-- of some channel subsystem and set, the devices that a configuration reaches there are among some
module _ (css set : ℕ) (c : Configuration) (devices : List ℕ) (most : ℕ) (few : length devices ≤ most)
    (among : (p : Place) → p.css ≡ css → p.set ≡ set → is_reached_at c p ≡ true
    → list_any (nat_eq p.device) devices ≡ true) where
  AreReached : Numbering → Type 0
  AreReached m = (p : Place) → contains_key m p ≡ true → is_reached_at c p ≡ true

  -- the number of a device here
  abbrev number_of : Numbering → ℕ → Option ℕ
  number_of m x = get m (record { css = css; set = set; device = x })

  moved : (m : Numbering) (p : Place) (o : Option ℕ) → p.css ≡ css → p.set ≡ set → get m p ≡ o
      → number_of m p.device ≡ o
  moved m p o c_is s_is is =
      subst (λ (q : Place). get m q ≡ o) (λ i. record { css = c_is i; set = s_is i; device = p.device }) is

  -- the lowest free number is below the bound while a device that comes has none yet
  free_below : (m : Numbering) (p : Place) → AreReached m → p.css ≡ css → p.set ≡ set → is_reached_at c p ≡ true
      → get m p ≡ None
      → lowest_free m css set < most
  unfolding AreReached
  free_below m p reached c_is s_is reach none =
      let k = lowest_free m css set in
      let given_away : k ≤ length (filter_map (number_of m) devices) =
      le-length_from_below (filter_map (number_of m) devices) k (λ j low.
      let q = used_by_a_place m css set j ((lowest_free_is_free m css set).lowest j low) in
      made (number_of m) q.place.device j devices (moved m q.place (Some j) q.css_is q.set_is q.has)
      (among q.place q.css_is q.set_is (reached q.place (ap is_some q.has)))) in
      let left = fewer (number_of m) p.device devices (moved m p None c_is s_is none) (among p c_is s_is reach) in
      omega (arith, given_away, left, few)

  -- a number more
  one_below_by : (m : Numbering) (p q : Place) (number k : ℕ) (b : Bool) → eq_by_cmp place_cmp q p ≡ b
      → AreBelow css set most m
      → (p.css ≡ css → p.set ≡ set → number < most) → q.css ≡ css → q.set ≡ set → get (insert m p number) q ≡ Some k
      → k < most
  one_below_by m p q number k true t below own c_is s_is has =
      let same : q ≡ p = same_key place_cmp places_exact q p t in
      let is : number ≡ k = let e : ◌≡◌ {A = Option ℕ} (Some number) (Some k) =
      sym (given m p number) ∙ ap (get (insert m p number)) (sym same) ∙ has in cc in
      let low = own (ap (λ (z : Place). z.css) (sym same) ∙ c_is) (ap (λ (z : Place). z.set) (sym same) ∙ s_is) in
      omega (arith, is, low)
  one_below_by m p q number k false t below own c_is s_is has =
      below q k c_is s_is (sym (other_place m p q number t) ∙ has)

  one_reached_by : (m : Numbering) (p q : Place) (number : ℕ) (b : Bool) → eq_by_cmp place_cmp q p ≡ b → AreReached m
      → is_reached_at c p ≡ true
      → contains_key (insert m p number) q ≡ true → is_reached_at c q ≡ true
  unfolding AreReached
  one_reached_by m p q number true t reached reach has =
      ap (is_reached_at c) (same_key place_cmp places_exact q p t) ∙ reach
  one_reached_by m p q number false t reached reach has =
      reached q (ap is_some (sym (other_place m p q number t)) ∙ has)

  record IsWithin (m : Numbering) : Type 0 where
    reached : AreReached m
    below : AreBelow css set most m

  -- a device that comes in gets the lowest free number
  one_within_by : (m : Numbering) (p : Place) (b : Bool) → contains_key m p ≡ b → IsWithin m → is_reached_at c p ≡ true
      → IsWithin (cond b m (insert m p (lowest_free m p.css p.set)))
  unfolding AreReached
  one_within_by m p true has within reach = within
  one_within_by m p false has within reach = record {
    reached = λ q there. one_reached_by m p q (lowest_free m p.css p.set) (eq_by_cmp place_cmp q p) refl within.reached
        reach there;
    below = λ q k c_is s_is there.
        one_below_by m p q (lowest_free m p.css p.set) k (eq_by_cmp place_cmp q p) refl within.below
        (λ c_here s_here. subst (λ (z : ℕ). z < most) (λ i. lowest_free m (sym c_here i) (sym s_here i))
        (free_below m p within.reached c_here s_here reach (absent (get m p) has))) c_is s_is there;
  }

  all_within : (ps : List Place) (m : Numbering) → ((p : Place) → is_one_of p ps ≡ true → is_reached_at c p ≡ true)
      → IsWithin m → IsWithin (fold with_lowest m ps)
  all_within [] m each within = within
  all_within (p ∷ ps) m each within =
      all_within ps (with_lowest m p) (λ q later. each q (or_right (eq_by_cmp place_cmp q p) _ later))
      (one_within_by m p (contains_key m p) refl within
      (each p (ap (λ b. b || is_one_of p ps) (ties_itself place_cmp places_total p))))

  kept_by : (b : Bool) (o : Option ℕ) (k : ℕ) → cond b o None ≡ Some k → o ≡ Some k
  kept_by true o k h = h
  kept_by false o k h = cc

  left_by : (b : Bool) (o : Option ℕ) → is_some (cond b o None) ≡ true → b ≡ true
  left_by true o h = refl
  left_by false o h = cc

  -- numbers below the bound stay below it
  pub stay_below : (n : Numbering) → AreBelow css set most n → AreBelow css set most (numbers_after c [] n)
  unfolding AreReached
  stay_below n below = (all_within (reached_places c) (without_leavers c n) (λ p there. there) (record {
    reached = λ p has. left_by (is_reached_at c p) (get n p) (sym (ap is_some (get_without c n p)) ∙ has);
    below = λ p k c_is s_is has.
        below p k c_is s_is (kept_by (is_reached_at c p) (get n p) k (sym (get_without c n p) ∙ has));
  })).below

  -- so do those at opening
  pub open_below : IsKeyed c → AreBelow css set most (opening c)
  open_below keyed = subst (AreBelow css set most) (opening_is_from_none c keyed)
      (stay_below empty (λ p k c_is s_is has. let no : ◌≡◌ {A = Option ℕ} None (Some k) = sym (get-empty place_cmp p)
      ∙ has in cc))
