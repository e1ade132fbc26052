-- Places that are sifted: which of them lose their numbers, and which have none. Where memory runs
-- out, the numbers that came in are taken back, and those that left are put back.
use Rattle.std.proofs.Common.{◌≡◌, ℕ, ◌+◌, ◌<◌, Bool, true, false, cond, not, ◌&&◌, List, [], ◌∷◌, ◌++◌, length, get_or}
use Rattle.std.proofs.Common.{drop, Option, Some, None, is_some, refl, sym, ap, ◌∙◌, append_assoc}
use Rattle.std.proofs.lemmas.List.Elements.{filter-append, filter_map-append}
use Rattle.std.proofs.lemmas.Bool.{and_parts}
use Rattle.std.specs.List.{fold, list_any}
use Rattle.std.specs.Option.{option_map}
use Rattle.std.specs.Ordering.{eq_by_cmp}
use Rattle.std.specs.FinMap.{get, remove, contains_key, same_map}
use Rattle.iocm_types.specs.declared.place.Place.{Place}
use Rattle.iocm_types.specs.Place.{place_cmp}
use Rattle.iocm_types.specs.KeyOrder.{places_total, places_exact}
use Rattle.iocm_types.proofs.Lists.{drop-item}
use Rattle.iocm_types.proofs.Tests.{present}
use Rattle.iocm_model.specs.Machine.Configuration.{Configuration}
use Rattle.iocm_model.specs.Machine.Numbering.{Numbering, is_reached_at}
use Rattle.iocm_model.specs.Change.Renumbering.{without_leavers, with_carried}
use Rattle.iocm_model.proofs.Maps.Cells.{any_filter}
use Rattle.iocm_model.proofs.Numbers.Changed.{get_without, stays, carried_keep}
use Rattle.iocm_numbers.specs.Exchange.{without_rows}
use Rattle.iocm_numbers.specs.PutBack.{numbers_at}
use Rattle.iocm_numbers.specs.Renumbering.{unreached, unnumbered, AreAllTouched, ChangesComersAlone}
use Rattle.iocm_numbers.proofs.Differing.{find_at}
use Rattle.iocm_numbers.proofs.Exchanging.{get_without_rows}
use Rattle.iocm_numbers.proofs.Restored.{AreOldBut, get_freed}

-- a place is one of these
abbrev is_one_of : Place → List Place → Bool
is_one_of p ps = list_any (eq_by_cmp place_cmp p) ps

-- ---- the loop

-- what was sifted, with what the places that are left give, is what all give
pub record AreSifted (c : Configuration) (n : Numbering) (ps : List Place) (i : ℕ) (leaving : List (Place × ℕ))
    (left : List Place) : Type 0 where
  pub all_leaving : leaving ++ numbers_at n (unreached c (drop i ps)) ≡ numbers_at n (unreached c ps)
  pub all_unnumbered : left ++ unnumbered n (drop i ps) ≡ unnumbered n ps

-- what the first place gives, and what the others give
leaving_parts : (c : Configuration) (n : Numbering) (p : Place) (ps : List Place)
    → numbers_at n (unreached c (p ∷ [])) ++ numbers_at n (unreached c ps) ≡ numbers_at n (unreached c (p ∷ ps))
leaving_parts c n p ps = by (is_reached_at c p) (get n p)
  where
    by : (r : Bool) (o : Option ℕ) → numbers_at n (cond (not r) (p ∷ []) []) ++ numbers_at n (unreached c ps)
        ≡ numbers_at n (cond (not r) (p ∷ unreached c ps) (unreached c ps))
    by true o = refl
    by false o = sym (filter_map-append (λ q. option_map (λ k. (q, k)) (get n q)) (p ∷ []) (unreached c ps))

unnumbered_parts : (n : Numbering) (p : Place) (ps : List Place)
    → unnumbered n (p ∷ []) ++ unnumbered n ps ≡ unnumbered n (p ∷ ps)
unnumbered_parts n p ps = sym (filter-append (λ q. not (contains_key n q)) (p ∷ []) ps)

pub sifted_one : (c : Configuration) (n : Numbering) (ps : List Place) (i : ℕ) (rows next : List (Place × ℕ))
    (left more : List Place) (p : Place) → i < length ps
    → p ≡ get_or ps i p → AreSifted c n ps i rows left → next ≡ rows ++ numbers_at n (unreached c (p ∷ []))
    → more ≡ left ++ unnumbered n (p ∷ [])
    → AreSifted c n ps (i + 1) next more
sifted_one c n ps i rows next left more p within item before is also = record {
  all_leaving = ap (λ (xs : List (Place × ℕ)). xs ++ numbers_at n (unreached c (drop (i + 1) ps))) is
      ∙ append_assoc rows (numbers_at n (unreached c (p ∷ []))) (numbers_at n (unreached c (drop (i + 1) ps)))
      ∙ ap (λ (xs : List (Place × ℕ)). rows ++ xs) (leaving_parts c n p (drop (i + 1) ps))
      ∙ ap (λ (qs : List Place). rows ++ numbers_at n (unreached c qs)) (sym (drop-item ps i p within item))
      ∙ before.all_leaving;
  all_unnumbered = ap (λ (xs : List Place). xs ++ unnumbered n (drop (i + 1) ps)) also
      ∙ append_assoc left (unnumbered n (p ∷ [])) (unnumbered n (drop (i + 1) ps))
      ∙ ap (λ (xs : List Place). left ++ xs) (unnumbered_parts n p (drop (i + 1) ps))
      ∙ ap (λ (qs : List Place). left ++ unnumbered n qs) (sym (drop-item ps i p within item)) ∙ before.all_unnumbered;
}

-- ---- by the places that may be touched

not_true : (b : Bool) → not b ≡ true → b ≡ false
not_true false h = refl
not_true true h = cc

none_of : (o : Option ℕ) → is_some o ≡ false → o ≡ None
none_of None e = refl
none_of (Some x) e = cc

module _ (c : Configuration) (n : Numbering) (ps : List Place) (all : AreAllTouched c n ps) where
  gone_by : (t r : Bool) (o : Option ℕ) → (t ≡ false → is_some o ≡ r)
      → cond (is_some (cond (t && not r) o None)) None o ≡ cond r o None
  gone_by true true o h = refl
  gone_by true false (Some x) h = refl
  gone_by true false None h = refl
  gone_by false true o h = refl
  gone_by false false o h = none_of o (h refl)

  -- without what leaves, those that leave have lost their numbers
  pub gone_is : without_rows n (numbers_at n (unreached c ps)) ≡ without_leavers c n
  gone_is = same_map places_total places_exact _ _ (λ q. get_without_rows n (numbers_at n (unreached c ps)) q
      ∙ ap (λ o. cond (is_some o) None (get n q)) (find_at n (unreached c ps) q
      ∙ ap (λ b. cond b (get n q) None) (any_filter places_exact q ps (λ p. not (is_reached_at c p))))
      ∙ gone_by (is_one_of q ps) (is_reached_at c q) (get n q) (all q) ∙ sym (get_without c n q))

  -- a place that is reached and isn't among those without a number has one
  pub numbered : (q : Place) → is_one_of q (unnumbered n ps) ≡ false → is_reached_at c q ≡ true
      → contains_key n q ≡ true
  numbered q out in_reach = by (is_one_of q ps) (contains_key n q) refl refl
    where
      by : (t h : Bool) → is_one_of q ps ≡ t → contains_key n q ≡ h → contains_key n q ≡ true
      by t true e has = has
      by false false e has = all q e ∙ in_reach
      by true false e has =
          let no : true ≡ false = sym (λ i. e i && not (has i))
          ∙ sym (any_filter places_exact q ps (λ p. not (contains_key n p))) ∙ out in cc

  -- so it has one when the rest gets theirs
  pub numbered_has : (carried : List (Place × ℕ)) (p : Place) → is_one_of p (unnumbered n ps) ≡ false
      → is_reached_at c p ≡ true
      → contains_key (fold (with_carried c) (without_leavers c n) carried) p ≡ true
  numbered_has carried p out in_reach =
      let has = present (get n p) (numbered p out in_reach) in
      ap is_some (carried_keep c (without_leavers c n) carried p has.0 (stays c n p in_reach ∙ has.1))

  -- ---- what is put back

  module _ (now : Numbering) (others : ChangesComersAlone c (without_leavers c n) now) where
    -- the numbers once those of the places that had none are taken back
    abbrev pub back : Numbering
    back = fold remove now (unnumbered n ps)

    none_either : (b : Bool) → cond {A = Option ℕ} b None None ≡ None
    none_either true = refl
    none_either false = refl

    -- what isn't reached has none
    unreached_none : (q : Place) → is_reached_at c q ≡ false → get now q ≡ None
    unreached_none q off = others q (ap (λ r. r && not (contains_key (without_leavers c n) q)) off) ∙ get_without c n q
        ∙ ap (λ r. cond r (get n q) None) off

    -- what stays has its own
    staying : (q : Place) → is_reached_at c q ≡ true → contains_key n q ≡ true → get now q ≡ get n q
    staying q on has =
        let own : get (without_leavers c n) q ≡ get n q = get_without c n q ∙ ap (λ r. cond r (get n q) None) on in
        others q ((λ i. on i && not (is_some (own i))) ∙ ap not has) ∙ own

    -- what isn't reached and doesn't leave had none
    never_had : (q : Place) → is_one_of q (unreached c ps) ≡ false → is_reached_at c q ≡ false → get n q ≡ None
    never_had q out off = by (is_one_of q ps) refl
      where
        by : (t : Bool) → is_one_of q ps ≡ t → get n q ≡ None
        by false e = none_of (get n q) (all q e ∙ off)
        by true e =
            let no : true ≡ false = sym (λ i. e i && not (off i))
            ∙ sym (any_filter places_exact q ps (λ p. not (is_reached_at c p))) ∙ out in cc

    -- a place that isn't one of those that leave, by whether it had none and is reached
    elsewhere_by : (q : Place) → is_one_of q (unreached c ps) ≡ false → (l r : Bool) → is_one_of q (unnumbered n ps) ≡ l
        → is_reached_at c q ≡ r
        → cond l None (get now q) ≡ get n q
    elsewhere_by q out true r e is =
        let had : (is_one_of q ps ≡ true) × (not (contains_key n q) ≡ true) =
        and_parts _ _ (sym (any_filter places_exact q ps (λ p. not (contains_key n p))) ∙ e) in
        sym (none_of (get n q) (not_true (contains_key n q) had.1))
    elsewhere_by q out false true e is = staying q is (numbered q e is)
    elsewhere_by q out false false e is = unreached_none q is ∙ sym (never_had q out is)

    off : (q : Place) → is_one_of q (unreached c ps) ≡ true → is_reached_at c q ≡ false
    off q among =
        let is = and_parts (is_one_of q ps) (not (is_reached_at c q))
        (sym (any_filter places_exact q ps (λ p. not (is_reached_at c p))) ∙ among) in
        not_true (is_reached_at c q) is.1

    -- these numbers are the old ones but for what leaves
    pub old_but : AreOldBut n back (unreached c ps)
    old_but = record {
      elsewhere = λ q out. get_freed now (unnumbered n ps) q
          ∙ elsewhere_by q out (is_one_of q (unnumbered n ps)) (is_reached_at c q) refl refl;
      here = λ q among. get_freed now (unnumbered n ps) q
          ∙ ap (cond (is_one_of q (unnumbered n ps)) None) (unreached_none q (off q among))
          ∙ none_either (is_one_of q (unnumbered n ps));
    }
