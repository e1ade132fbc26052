-- A slot that is lent out of its lists, level by level.
use Rattle.std.proofs.Common.{◌≡◌, ℕ, zero, suc, cond, List, [], ◌∷◌, Option, None, Some, MutBor, slice_get, slice_set}
use Rattle.std.proofs.Common.{option_and_then, OnSome, refl, sym, ap, ◌∙◌}
use Rattle.std.specs.Option.{option_copied_mut, unwrap_or}
use Rattle.iocm_types.specs.declared.sub_id.SubId.{SubId}
use Rattle.iocm_grid.specs.Levels.{Slots, Sets, Levels, index_of, slot_among, slot_in, slot_at, changed_at, written}
use Rattle.iocm_grid.specs.Gridded.{IsInRange}
use Rattle.iocm_grid.proofs.Looking.{is_of_image}
use Rattle.iocm_grid.proofs.Writing.{set_changed}

-- to set an item to what it is changes nothing
pub set_itself : {Y : Type 0} (ys : List Y) (i : ℕ) (y : Y) → Some y ≡ slice_get ys i → slice_set ys i y ≡ ys
set_itself [] i y at = cc
set_itself (z ∷ ys) zero y at = ap (λ v. v ∷ ys) (ap (λ o. unwrap_or o y) at)
set_itself (z ∷ ys) (suc i) y at = ap (λ vs. z ∷ vs) (set_itself ys i y at)

module _ {X : Type 0} (levels : Levels X) (x : SubId) (range : IsInRange x) (css set index : ℕ)
    (css_is : css ≡ x.image.css) (set_is : set ≡ x.set) (index_is : index ≡ index_of x) where
  none_below : None ≡ slice_get levels css → slot_at levels x ≡ None
  none_below none = ap (option_and_then (λ sets. slot_in sets x)) (ap (slice_get levels) (sym css_is) ∙ sym none)

  module _ (sets : Sets X) (at_sets : Some sets ≡ slice_get levels css) where
    sets_there : slice_get levels x.image.css ≡ Some sets
    sets_there = ap (slice_get levels) (sym css_is) ∙ sym at_sets

    pub no_slots : None ≡ slice_get sets set → None ≡ slot_at levels x
    no_slots none = sym (ap (option_and_then (λ s. slot_in s x)) sets_there
        ∙ ap (option_and_then (λ slots. slot_among slots x)) (ap (slice_get sets) (sym set_is) ∙ sym none))

    module _ (slots : Slots X) (at_slots : Some slots ≡ slice_get sets set) where
      slots_there : slice_get sets x.set ≡ Some slots
      slots_there = ap (slice_get sets) (sym set_is) ∙ sym at_slots

      pub slot_is : slice_get slots index ≡ slot_at levels x
      slot_is = ap (slice_get slots) index_is
          ∙ sym (ap (λ b. cond b (slice_get slots (index_of x)) None) (is_of_image x.image.mif range.no_zero range.mif))
          ∙ sym (ap (option_and_then (λ s. slot_in s x)) sets_there
          ∙ ap (option_and_then (λ s. slot_among s x)) slots_there)

      -- a slot that is there is written
      slot_written : (old w : Option X) → Some old ≡ slice_get slots index
          → slice_set levels css (slice_set sets set (slice_set slots index w)) ≡ written levels x w
      slot_written old w at_slot =
          let f : Slots X → Slots X = changed_at (λ o. w) (index_of x) in
          let inner : slice_set slots index w ≡ f slots =
          ap (λ i. slice_set slots i w) index_is
          ∙ set_changed (λ o. w) slots (index_of x) old w (ap (slice_get slots) (sym index_is) ∙ sym at_slot)
          refl in
          let middle : slice_set sets set (slice_set slots index w) ≡ changed_at f x.set sets =
          ap (λ i. slice_set sets i (slice_set slots index w)) set_is
          ∙ set_changed f sets x.set slots (slice_set slots index w) slots_there (sym inner) in
          ap (λ i. slice_set levels i (slice_set sets set (slice_set slots index w))) css_is
          ∙ set_changed (changed_at f x.set) levels x.image.css sets (slice_set sets set (slice_set slots index w))
          sets_there (sym middle)

      pub lent_written : (r : Option (MutBor (Option X))) → option_copied_mut r ≡ slice_get slots index → (w : Option X)
          → OnSome r (slice_set levels css (slice_set sets set (slice_set slots index w)) ≡ written levels x w)
      lent_written None at w = tt
      lent_written (Some m) at w = slot_written m.now w at

      pub lent_nothing : slice_set levels css (slice_set sets set slots) ≡ levels
      lent_nothing = ap (slice_set levels css) (set_itself sets set slots at_slots) ∙ set_itself levels css sets at_sets
