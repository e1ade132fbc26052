-- Opening is renumbering from none: in both each number below that of a place is held by one of a
-- smaller device number, and there is one such numbering.
use Rattle.std.proofs.Common.{◌≡◌, ℕ, zero, suc, ◌+◌, ◌<◌, ◌≤◌, Bool, true, false, cond, ◌||◌, ◌⊎◌, inl, inr, nat_eq}
use Rattle.std.proofs.Common.{eq-eqb, List, [], ◌∷◌, Option, Some, None, is_some, refl, sym, ap, subst, ◌∙◌, arith}
use Rattle.std.proofs.lemmas.Bool.{cases_lt, or_right}
use Rattle.std.proofs.Math.Nat.{eq-or-lt_of_le}
use Rattle.std.specs.List.{list_any}
use Rattle.std.specs.Ordering.{eq_by_cmp}
use Rattle.std.specs.FinMap.{find, get, contains_key, empty, get-empty, get-from_entries, same_map}
use Rattle.iocm_types.specs.declared.place.Place.{Place}
use Rattle.iocm_types.specs.Place.{place_cmp}
use Rattle.iocm_types.specs.KeyOrder.{places_total, places_exact}
use Rattle.iocm_types.proofs.Found.{ties_itself}
use Rattle.iocm_types.proofs.Parts.{untied, part_there}
use Rattle.iocm_model.specs.Machine.Configuration.{Configuration, IsKeyed}
use Rattle.iocm_model.specs.Machine.Numbering.{Numbering, reached_devices, reached_places, numbers_from, opening}
use Rattle.iocm_model.specs.Machine.Numbering.{subsystems, sets}
use Rattle.iocm_model.specs.Change.Renumbering.{without_leavers, numbers_after}
use Rattle.iocm_model.specs.Laws.Numbers.{OpeningIsFromNone}
use Rattle.iocm_model.proofs.Numbers.Cells.{IsApart}
use Rattle.iocm_model.proofs.Numbers.First.{at, of_set, of_css, all, css_alone, set_alone, in_set, in_sets, in_all}
use Rattle.iocm_model.proofs.Numbers.First.{opening_apart}
use Rattle.iocm_model.proofs.Numbers.Opening.{opening_exact}
use Rattle.iocm_model.proofs.Numbers.Changed.{none_stays, numbers_after_are_exact}
use Rattle.iocm_model.proofs.Numbers.Apart.{lowest_apart}
use Rattle.iocm_model.proofs.Numbers.InOrder.{Rises, reached_rise}
use Rattle.iocm_model.proofs.Numbers.Rest.{rest_get_the_lowest}

-- a place of the same channel subsystem and set, with a smaller device number, has this number
record IsBelow (n : Numbering) (p : Place) (number : ℕ) : Type 0 where
  place : Place
  css_is : place.css ≡ p.css
  set_is : place.set ≡ p.set
  has : get n place ≡ Some number
  less : place.device < p.device

-- each number below that of a place is one's of a smaller device number
abbrev IsGapless : Numbering → Type 0
IsGapless n = (p : Place) (number k : ℕ) → get n p ≡ Some number → k < number → IsBelow n p k

-- ---- there is one such numbering

module _ (n m : Numbering) (apart : IsApart n) (gapless : IsGapless m) where
  -- a place doesn't have a smaller number in one than in the other, where all of smaller device
  -- numbers have the same
  not_smaller : (p : Place) (a b : ℕ) → ((q : Place) → q.device < p.device → get n q ≡ get m q) → get n p ≡ Some a
      → get m p ≡ Some b → a < b → ⊥
  not_smaller p a b same is was low =
      let w = gapless p b a was low in
      let here : p ≡ w.place = apart p w.place a (sym w.css_is) (sym w.set_is) is (same w.place w.less ∙ w.has) in
      let bad : w.place.device < w.place.device = subst (λ (q : Place). w.place.device < q.device) here w.less in
      absurd (omega arith)

module _ (n m : Numbering) (exact : (p : Place) → contains_key n p ≡ contains_key m p) (apart : IsApart n)
    (other_apart : IsApart m)
    (gapless : IsGapless n) (other_gapless : IsGapless m) where
  same_number : (p : Place) (a b : ℕ) → ((q : Place) → q.device < p.device → get n q ≡ get m q) → get n p ≡ Some a
      → get m p ≡ Some b → a ≡ b
  same_number p a b same is was = by (cases_lt a b)
    where
      or_less : (b ≡ a) ⊎ (b < a) → a ≡ b
      or_less (inl e) = sym e
      or_less (inr low) = absurd (not_smaller m n other_apart gapless p b a (λ q less. sym (same q less)) was is low)

      by : (a < b) ⊎ (b ≤ a) → a ≡ b
      by (inl low) = absurd (not_smaller n m apart other_gapless p a b same is was low)
      by (inr high) = or_less (eq-or-lt_of_le high)

  same_option : (p : Place) (o r : Option ℕ) → get n p ≡ o → get m p ≡ r
      → ((q : Place) → q.device < p.device → get n q ≡ get m q) → is_some o ≡ is_some r → o ≡ r
  same_option p None None is was same there = refl
  same_option p None (Some b) is was same there = cc
  same_option p (Some a) None is was same there = cc
  same_option p (Some a) (Some b) is was same there = ap Some (same_number p a b same is was)

  same_below : (bound : ℕ) (p : Place) → p.device < bound → get n p ≡ get m p
  same_below zero p low = absurd (omega arith)
  same_below (suc bound) p low =
      same_option p (get n p) (get m p) refl refl (λ q less. same_below bound q (within q less)) (exact p)
    where
      within : (q : Place) → q.device < p.device → q.device < bound
      within q less = omega arith

  one_numbering : n ≡ m
  one_numbering = same_map places_total places_exact n m (λ p. same_below (suc p.device) p (omega arith))

-- ---- the numbers at opening

-- of numbered devices that rise, one that has a smaller number is smaller
record IsSmaller (css set n : ℕ) (ds : List ℕ) (x k : ℕ) : Type 0 where
  device : ℕ
  found : find place_cmp (at css set device) (numbers_from css set n ds) ≡ Some k
  there : list_any (nat_eq device) ds ≡ true
  less : device < x

in_list : (css set n x b : ℕ) (ds : List ℕ) → find place_cmp (at css set x) (numbers_from css set n ds) ≡ Some b
    → list_any (nat_eq x) ds ≡ true
in_list css set n x b ds is = sym (in_set css set n x ds) ∙ ap is_some is

smaller : (css set n : ℕ) (ds : List ℕ) → Rises ds → (x b k : ℕ)
    → find place_cmp (at css set x) (numbers_from css set n ds) ≡ Some b
    → n ≤ k → k < b → IsSmaller css set n ds x k
smaller css set n [] rise x b k is from low = cc
smaller css set n (d ∷ ds) rise x b k is from low =
    by (eq_by_cmp place_cmp (at css set x) (at css set d)) is
    (λ rest above. smaller css set (n + 1) ds rise.1 x b k rest above low)
  where
    behind : list_any (nat_eq x) ds ≡ true → (n ≡ k) ⊎ (n < k) → (n + 1 ≤ k → IsSmaller css set (n + 1) ds x k)
        → IsSmaller css set n (d ∷ ds) x k
    behind there (inl e) more = record {
      device = d;
      found = ap (λ t. cond t (Some n) (find place_cmp (at css set d) (numbers_from css set (n + 1) ds)))
          (ties_itself place_cmp places_total (at css set d)) ∙ ap Some e;
      there = ap (λ t. t || list_any (nat_eq d) ds) (eq-eqb d d refl);
      less = rise.0 x there;
    }
    behind there (inr above) more =
        let rest = more (omega arith) in
        let greater : d < rest.device = rise.0 rest.device rest.there in
        let apart : eq_by_cmp place_cmp (at css set rest.device) (at css set d) ≡ false =
        untied place_cmp places_exact (at css set rest.device) (at css set d)
        (λ same. let e : rest.device ≡ d = ap (λ (q : Place). q.device) same in omega arith) in record {
          device = rest.device;
          found = rw apart rest.found;
          there = or_right (nat_eq rest.device d) _ rest.there;
          less = rest.less;
        }

    by : (t : Bool) → cond t (Some n) (find place_cmp (at css set x) (numbers_from css set (n + 1) ds)) ≡ Some b
        → (find place_cmp (at css set x) (numbers_from css set (n + 1) ds) ≡ Some b → n + 1 ≤ k
        → IsSmaller css set (n + 1) ds x k)
        → IsSmaller css set n (d ∷ ds) x k
    by true is more = let same : n ≡ b = cc in absurd (omega arith)
    by false is more = behind (in_list css set (n + 1) x b ds is) (eq-or-lt_of_le from) (more is)

module _ (c : Configuration) where
  opening_gapless : IsKeyed c → IsGapless (opening c)
  opening_gapless keyed p number k is low =
      let there : find place_cmp p (all c) ≡ Some number = sym (get-from_entries places_total (all c) p) ∙ is in
      let few = part_there place_cmp p (of_css c) p.css (css_alone c p) subsystems number there in
      let in_css = sym (in_all c p.css p.set p.device few) ∙ there in
      let fewer = part_there place_cmp p (of_set c p.css) p.set (set_alone c p.css p.set p.device) sets number in_css in
      let w = smaller p.css p.set 0 (reached_devices c p.css p.set) (reached_rise c keyed p.css p.set) p.device number k
      (sym (in_sets c p.css p.set p.device fewer) ∙ in_css) (omega arith) low in record {
        place = at p.css p.set w.device;
        css_is = refl;
        set_is = refl;
        has = get-from_entries places_total (all c) (at p.css p.set w.device) ∙ in_all c p.css p.set w.device few
            ∙ in_sets c p.css p.set w.device fewer ∙ w.found;
        less = w.less;
      }

  -- ---- renumbering from none

  none_yet : (p : Place) → get (without_leavers c empty) p ≡ None
  none_yet p = none_stays c empty p (get-empty place_cmp p)

  from_none_apart : IsApart (numbers_after c [] empty)
  from_none_apart = lowest_apart (without_leavers c empty) (reached_places c)
      (λ p q number css set is was. let bad : None ≡ Some number = sym (none_yet p) ∙ is in cc)

  from_none_gapless : IsKeyed c → IsGapless (numbers_after c [] empty)
  from_none_gapless keyed p number k is low =
      let h = rest_get_the_lowest c [] empty p number keyed (get-empty place_cmp p) refl is k low in record {
        place = h.place;
        css_is = h.css;
        set_is = h.set;
        has = h.has;
        less = by h.place h.before;
      }
    where
      by : (q : Place) → ((contains_key (empty {X = ℕ} {R = place_cmp}) q ≡ true)
          ⊎ ((is_some (find {X = ℕ} place_cmp q []) ≡ true) ⊎ (q.device < p.device)))
          → q.device < p.device
      by q (inl there) = let bad : false ≡ true = sym (ap is_some (get-empty {X = ℕ} place_cmp q)) ∙ there in cc
      by q (inr (inl there)) = cc
      by q (inr (inr less)) = less

pub opening_is_from_none : OpeningIsFromNone
opening_is_from_none c keyed =
    one_numbering (numbers_after c [] empty) (opening c)
    (λ p. numbers_after_are_exact c [] empty p ∙ sym (opening_exact c p))
    (from_none_apart c) (opening_apart c) (from_none_gapless c keyed) (opening_gapless c keyed)
