-- What one of two numberings has alone, listed at places among which they differ.
use Rattle.std.proofs.Common.{◌≡◌, ℕ, Bool, true, false, cond, not, ◌&&◌, ◌||◌, List, [], ◌∷◌, Option, Some, None}
use Rattle.std.proofs.Common.{is_some, T, refl, sym, ap, subst, ◌∙◌}
use Rattle.std.proofs.lemmas.Bool.{and_parts, or_right}
use Rattle.std.specs.List.{filter, list_any, cons_option}
use Rattle.std.specs.Option.{option_map}
use Rattle.std.specs.Ordering.{is_lt, eq_by_cmp}
use Rattle.std.specs.declared.cmp.Ordering.TheVariants.{Less}
use Rattle.std.specs.FinMap.{find, get, contains_key, entries, entries_sorted, is_sorted}
use Rattle.std.specs.FinMap.Entries.{below_all, is_sorted-where_key, same_entries}
use Rattle.iocm_types.specs.declared.place.Place.{Place}
use Rattle.iocm_types.specs.Place.{place_cmp}
use Rattle.iocm_types.specs.KeyOrder.{places_total, places_exact}
use Rattle.iocm_types.proofs.Found.{same_key, ties_itself}
use Rattle.iocm_types.proofs.Tests.{both_hold}
use Rattle.iocm_model.specs.Machine.Configuration.{Configuration}
use Rattle.iocm_model.specs.Machine.Numbering.{Numbering}
use Rattle.iocm_model.specs.Change.Inverse.{freed_numbers}
use Rattle.iocm_model.specs.Change.Renumbering.{numbers_after}
use Rattle.iocm_model.proofs.Maps.Cells.{any_filter}
use Rattle.iocm_model.proofs.Numbers.Back as back
use Rattle.iocm_model.proofs.Numbers.Changed.{numbers_after_are_exact}
use Rattle.iocm_numbers.specs.PutBack.{numbers_at}
use Rattle.iocm_numbers.specs.Renumbering.{unreached, unnumbered, AreAllTouched, Rise}

-- a place is one of these
abbrev is_one_of : Place → List Place → Bool
is_one_of p ps = list_any (eq_by_cmp place_cmp p) ps

-- ---- the numbers at some places

module _ (n : Numbering) where
  -- the rows of a place and of those behind it, by what it has
  abbrev rows_with : Place → List Place → Option ℕ → List (Place × ℕ)
  rows_with p ps o = cons_option (option_map (λ k. (p, k)) o) (numbers_at n ps)

  none_either : (b : Bool) (o : Option ℕ) → o ≡ None → cond b o None ≡ None
  none_either true o is = is
  none_either false o is = refl

  find_by : (p : Place) (ps : List Place) (q : Place) (o : Option ℕ) (b : Bool) → get n p ≡ o
      → eq_by_cmp place_cmp q p ≡ b
      → find place_cmp q (numbers_at n ps) ≡ cond (is_one_of q ps) (get n q) None
      → find place_cmp q (rows_with p ps o) ≡ cond (b || is_one_of q ps) (get n q) None
  find_by p ps q None true is e more =
      let none : get n q ≡ None = ap (get n) (same_key place_cmp places_exact q p e) ∙ is in
      more ∙ none_either (is_one_of q ps) (get n q) none ∙ sym none
  find_by p ps q None false is e more = more
  find_by p ps q (Some k) true is e more =
      ap (λ b. cond b (Some k) (find place_cmp q (numbers_at n ps))) e
      ∙ sym (ap (get n) (same_key place_cmp places_exact q p e) ∙ is)
  find_by p ps q (Some k) false is e more = ap (λ b. cond b (Some k) (find place_cmp q (numbers_at n ps))) e ∙ more

  -- what a place has, if it is one of these
  pub find_at : (ps : List Place) (q : Place)
      → find place_cmp q (numbers_at n ps) ≡ cond (is_one_of q ps) (get n q) None
  find_at [] q = refl
  find_at (p ∷ ps) q = ap (λ o. find place_cmp q (rows_with p ps o)) refl
      ∙ find_by p ps q (get n p) (eq_by_cmp place_cmp q p) refl refl (find_at ps q)

  -- a place below all of these
  abbrev IsBelow : Place → List Place → Type 0
  IsBelow p ps = (q : Place) → is_one_of q ps ≡ true → place_cmp p q ≡ Less

  first_below : (p q : Place) (ps : List Place) → IsBelow p (q ∷ ps) → T (is_lt (place_cmp p q))
  first_below p q ps below =
      subst (λ r. T (is_lt r)) (sym (below q (ap (λ b. b || is_one_of q ps) (ties_itself place_cmp places_total q)))) tt

  rest_below : (p q : Place) (ps : List Place) → IsBelow p (q ∷ ps) → IsBelow p ps
  rest_below p q ps below x among = below x (or_right (eq_by_cmp place_cmp x q) _ among)

  -- is below all their rows
  rows_below : (p : Place) (ps : List Place) → IsBelow p ps → T (below_all place_cmp p (numbers_at n ps))
  rows_below p [] below = tt
  rows_below p (q ∷ ps) below = by (get n q) (rows_below p ps (rest_below p q ps below))
    where
      by : (o : Option ℕ) → T (below_all place_cmp p (numbers_at n ps)) → T (below_all place_cmp p (rows_with q ps o))
      by None more = more
      by (Some k) more = both_hold (is_lt (place_cmp p q)) (below_all place_cmp p (numbers_at n ps))
          (first_below p q ps below) more

  -- the rows of places that rise stand in order
  pub rows_rise : (ps : List Place) → Rise ps → T (is_sorted place_cmp (numbers_at n ps))
  rows_rise [] rise = tt
  rows_rise (p ∷ ps) rise = by (get n p) (rows_rise ps rise.1)
    where
      by : (o : Option ℕ) → T (is_sorted place_cmp (numbers_at n ps)) → T (is_sorted place_cmp (rows_with p ps o))
      by None more = more
      by (Some k) more = both_hold (below_all place_cmp p (numbers_at n ps)) (is_sorted place_cmp (numbers_at n ps))
          (rows_below p ps rise.0) more

-- ---- some of the places

-- places that rise do so where a test leaves some out
pub some_rise : (test : Place → Bool) (ps : List Place) → Rise ps → Rise (filter test ps)
some_rise test [] rise = tt
some_rise test (p ∷ ps) rise = by (test p) (some_rise test ps rise.1)
  where
    by : (b : Bool) → Rise (filter test ps) → Rise (cond b (p ∷ filter test ps) (filter test ps))
    by true more = ((λ q among. rise.0 q (and_parts _ _ (sym (any_filter places_exact q ps test) ∙ among)).0), more)
    by false more = more

-- ---- what the one has alone

module _ (n m : Numbering) (ps : List Place) (rise : Rise ps)
    (alike : (q : Place) → is_one_of q ps ≡ false → contains_key m q ≡ contains_key n q) where
  -- whether a place has no number in the other
  abbrev is_alone : Place → Bool
  is_alone p = not (contains_key m p)

  none_out : (o w : Option ℕ) → is_some w ≡ is_some o
      → cond {A = Option ℕ} (not (is_some w)) None None ≡ cond (not (is_some w)) o None
  none_out o (Some y) same = refl
  none_out None None same = refl
  none_out (Some x) None same = cc

  -- by whether the place is one of these
  alone_by : (q : Place) (b : Bool) → is_one_of q ps ≡ b
      → cond (is_alone q) (cond b (get n q) None) None ≡ cond (is_alone q) (get n q) None
  alone_by q true is = refl
  alone_by q false is = none_out (get n q) (get m q) (alike q is)

  both_by : (a b : Bool) (x : Option ℕ) → cond (a && b) x None ≡ cond b (cond a x None) None
  both_by true b x = refl
  both_by false true x = refl
  both_by false false x = refl

  -- the numbers at those of the places that have none in the other are all that the one has alone
  pub alone_at : numbers_at n (filter (λ p. not (contains_key m p)) ps) ≡ freed_numbers n m
  alone_at = same_entries place_cmp places_total places_exact _ _
      (rows_rise n (filter is_alone ps) (some_rise is_alone ps rise))
      (is_sorted-where_key place_cmp is_alone (entries n) (entries_sorted n)) (λ q.
      find_at n (filter is_alone ps) q ∙ ap (λ b. cond b (get n q) None) (any_filter places_exact q ps is_alone)
      ∙ both_by (is_one_of q ps) (is_alone q) (get n q) ∙ alone_by q (is_one_of q ps) refl ∙ sym (back.get_freed n m q))

-- ---- before and after a change

module _ (c : Configuration) (carried : List (Place × ℕ)) (n : Numbering) (ps : List Place) (rise : Rise ps)
    (all : AreAllTouched c n ps) where
  -- the numbers after the change
  abbrev after : Numbering
  after = numbers_after c carried n

  same_elsewhere : (q : Place) → is_one_of q ps ≡ false → contains_key after q ≡ contains_key n q
  same_elsewhere q out = numbers_after_are_exact c carried n q ∙ sym (all q out)

  -- what was freed: the numbers at those of the places that aren't reached
  pub freed_is : numbers_at n (unreached c ps) ≡ freed_numbers n after
  freed_is = sym (λ i. numbers_at n (filter (λ p. not (numbers_after_are_exact c carried n p i)) ps))
      ∙ alone_at n after ps rise same_elsewhere

  -- what was given
  pub given_is : numbers_at after (unnumbered n ps) ≡ freed_numbers after n
  given_is = alone_at after n ps rise (λ q out. sym (same_elsewhere q out))
