-- With the places that a change freed the old numbers come back.
use Rattle.std.proofs.Common.{◌≡◌, ℕ, Bool, true, false, cond, not, List, Some, None, refl, sym, ap, ◌∙◌}
use Rattle.std.specs.FinMap.{find, get, contains_key, entries, get-entries, same_map}
use Rattle.std.specs.FinMap.Entries.{find-where_key}
use Rattle.iocm_types.specs.declared.place.Place.{Place}
use Rattle.iocm_types.specs.Place.{place_cmp}
use Rattle.iocm_types.specs.KeyOrder.{places_total, places_exact}
use Rattle.iocm_types.proofs.Tests.{absent, present}
use Rattle.iocm_model.specs.Machine.Configuration.{Configuration}
use Rattle.iocm_model.specs.Machine.Numbering.{Numbering, is_reached_at, AreNumbersOf}
use Rattle.iocm_model.specs.Change.Renumbering.{numbers_after}
use Rattle.iocm_model.specs.Change.Inverse.{freed_numbers}
use Rattle.iocm_model.specs.Laws.Numbers.{RenumberingGoesBack}
use Rattle.iocm_model.proofs.Numbers.Changed.{numbers_after_are_exact, stayers_keep_theirs, carried_come_back}

-- the freed places have what they had
pub get_freed : (n there : Numbering) (p : Place)
    → find place_cmp p (freed_numbers n there) ≡ cond (not (contains_key there p)) (get n p) None
get_freed n there p =
    find-where_key place_cmp (λ x. not (contains_key there x)) p
    (λ x e. ap (λ q. not (contains_key there q)) (sym (places_exact p x e))) (entries n)
    ∙ ap (λ o. cond (not (contains_key there p)) o None) (sym (get-entries n p))

module _ (before after : Configuration) (carried : List (Place × ℕ)) (n : Numbering)
    (numbers : AreNumbersOf before n) where
  -- the numbers after the change
  abbrev there : Numbering
  there = numbers_after after carried n

  -- the numbers once it is taken back
  abbrev again : Numbering
  again = numbers_after before (freed_numbers n there) there

  -- a place of a device that was reached, by whether it still was after the change
  came_back : (p : Place) (k : ℕ) (b : Bool) → is_reached_at before p ≡ true → get n p ≡ Some k
      → is_reached_at after p ≡ b → get again p ≡ Some k
  came_back p k true was has e =
      stayers_keep_theirs before (freed_numbers n there) there p k was (stayers_keep_theirs after carried n p k e has)
  came_back p k false was has e =
      let gone : contains_key there p ≡ false = numbers_after_are_exact after carried n p ∙ e in
      carried_come_back before (freed_numbers n there) there p k was (absent _ gone)
      (get_freed n there p ∙ ap (λ b. cond (not b) (get n p) None) gone ∙ has)

  -- at each place they are the old ones, by whether the place was reached
  same_by : (p : Place) (b : Bool) → is_reached_at before p ≡ b → get again p ≡ get n p
  same_by p true e =
      let has = present (get n p) (numbers.exact p ∙ e) in
      came_back p has.0 (is_reached_at after p) e has.1 refl ∙ sym has.1
  same_by p false e =
      absent _ (numbers_after_are_exact before (freed_numbers n there) there p ∙ e)
      ∙ sym (absent _ (numbers.exact p ∙ e))

  -- they are the old ones
  same_again : again ≡ n
  same_again = same_map places_total places_exact _ _ (λ p. same_by p (is_reached_at before p) refl)

-- the old numbers come back
pub renumbering_goes_back : RenumberingGoesBack
renumbering_goes_back before after carried n numbers = same_again before after carried n numbers
