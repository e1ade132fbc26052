-- The lists of a grid: by channel subsystem, by set, and by number and image. Each subchannel that
-- has a place has a slot there, with its row or empty.
use Rattle.std.specs.Prelude.{◌≡◌, ℕ, zero, suc, ◌+◌, ◌-◌, ◌*◌, ◌⊎◌, Bool, ◌&&◌, nat_lt, if◌then◌else◌, List, [], ◌∷◌}
use Rattle.std.specs.Prelude.{Option, None, Some}
use Rattle.std.specs.List.{slice_get}
use Rattle.std.specs.Option.{option_and_then, OnSome}
use Rattle.std.specs.Borrow.{Fml, RattleType, MutBor, LendsSo}
use Rattle.std.specs.declared.alloc.Allocator as alloc
use Rattle.std.specs.contracts.option.Option as option
use Rattle.iocm_types.specs.declared.sub_id.SubId.{SubId}
use Rattle.iocm_grid.specs.contracts.level.Level as level

-- the slots of a set, for each number those of its 15 images; these by set; and these by channel
-- subsystem
abbrev pub Slots : Type 0 → Type 0
Slots X = List (Option X)

abbrev pub Sets : Type 0 → Type 0
Sets X = List (Slots X)

abbrev pub Levels : Type 0 → Type 0
Levels X = List (Sets X)

-- an image has a MIF image ID, 1 to 15
abbrev pub is_image : ℕ → Bool
is_image mif = nat_lt 0 mif && nat_lt mif 16

-- where the slot of a subchannel is among those of its set
abbrev pub index_of : SubId → ℕ
index_of x = x.number * 15 + (x.image.mif - 1)

module _ {X : Type 0} where
  -- the slot of a subchannel, if it has a place
  abbrev pub slot_among : Slots X → SubId → Option (Option X)
  slot_among slots x = if is_image x.image.mif then slice_get slots (index_of x) else None

  abbrev pub slot_in : Sets X → SubId → Option (Option X)
  slot_in sets x = option_and_then (λ slots. slot_among slots x) (slice_get sets x.set)

  abbrev pub slot_at : Levels X → SubId → Option (Option X)
  slot_at levels x = option_and_then (λ sets. slot_in sets x) (slice_get levels x.image.css)

  -- each slot that was there is as it was, and those that came are empty
  abbrev pub AddsEmpty : (SubId → Option (Option X)) → (SubId → Option (Option X)) → Type 0
  AddsEmpty old new = (x : SubId) → (new x ≡ old x) ⊎ ((old x ≡ None) × (new x ≡ Some None))

-- a list with another item at an index, made of the one that is there
abbrev pub changed_at : {Y : Type 0} → (Y → Y) → ℕ → List Y → List Y
changed_at f i [] = []
changed_at f zero (y ∷ ys) = f y ∷ ys
changed_at f (suc i) (y ∷ ys) = y ∷ changed_at f i ys

-- the lists once the slot of a subchannel is written
abbrev pub written : {X : Type 0} → Levels X → SubId → Option X → Levels X
written levels x slot = changed_at (changed_at (changed_at (λ old. slot) (index_of x)) x.set) x.image.css levels

module _ (V A : RattleType) (heap : alloc.Ghosts A.Denot) where
  -- the type of the lists, as the logic holds it
  abbrev pub levels_row : RattleType
  levels_row = level.the_row (level.the_row (level.the_row (option.the_row V) A heap) A heap) A heap

  -- the slot of a subchannel is what was written last through r; at `None` the lists stay as they
  -- are
  abbrev pub lends_slot : MutBor (Levels V.Denot) → SubId → Option (MutBor (Option V.Denot)) → Fml
  lends_slot l x r =
      LendsSo levels_row (option.the_row V) l r (λ n w. OnSome r (n ≡ written l.now x w)) (λ n. n ≡ l.now)
