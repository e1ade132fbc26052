-- Empty slots that come: what the slots that were there tell stays.
use Rattle.std.proofs.Common.{◌≡◌, ◌⊎◌, ℕ, zero, suc, ◌<◌, Bool, true, false, cond, List, [], ◌∷◌, ◌++◌, Option, None}
use Rattle.std.proofs.Common.{Some, is_some, length, slice_get, slice_set, option_and_then, nat_eq, append-nil, inl}
use Rattle.std.proofs.Common.{inr, refl, sym, ap, ◌∙◌, arith}
use Rattle.std.specs.List.{AllByRecursion}
use Rattle.std.specs.Option.{option_flatten}
use Rattle.std.specs.FinMap.{same_map}
use Rattle.iocm_types.specs.declared.sub_id.SubId.{SubId}
use Rattle.iocm_types.specs.KeyOrder.{sub_ids_total, sub_ids_exact}
use Rattle.iocm_grid.specs.Level.{IsLonger, is_bare}
use Rattle.iocm_grid.specs.Levels.{Levels, is_image, slot_among, slot_at, AddsEmpty}
use Rattle.iocm_grid.specs.Gridded.{rows_in}
use Rattle.iocm_grid.proofs.Indices.{number_itself, numbers_are, zero_other, other_zero, next_same}
use Rattle.iocm_grid.proofs.Looking.{row_at}

-- an index within a list has an item
pub within : {Y : Type 0} (ys : List Y) (i : ℕ) → i < length ys → is_some (slice_get ys i) ≡ true
within [] i less = absurd (omega arith)
within (y ∷ ys) zero less = refl
within (y ∷ ys) (suc i) less = within ys i (omega arith)

-- a list with another item at an index
module _ {Y B : Type 0} (k : Y → Option B) where
  pub get_set : (ys : List Y) (i : ℕ) (y w : Y) → slice_get ys i ≡ Some y → (j : ℕ)
      → option_and_then k (slice_get (slice_set ys i w) j)
      ≡ cond (nat_eq j i) (k w) (option_and_then k (slice_get ys j))
  get_set [] i y w at j = cc
  get_set (z ∷ ys) zero y w at zero = refl
  get_set (z ∷ ys) zero y w at (suc j) =
      sym (ap (λ b. cond b (k w) (option_and_then k (slice_get ys j))) (other_zero j))
  get_set (z ∷ ys) (suc i) y w at zero = sym (ap (λ b. cond b (k w) (k z)) (zero_other i))
  get_set (z ∷ ys) (suc i) y w at (suc j) = get_set ys i y w at j
      ∙ sym (ap (λ b. cond b (k w) (option_and_then k (slice_get ys j))) (next_same j i))

  -- items that tell nothing are added
  nothing_told : (more : List Y) → AllByRecursion (λ y. k y ≡ None) more → (j : ℕ)
      → option_and_then k (slice_get more j) ≡ None
  nothing_told [] all j = refl
  nothing_told (y ∷ more) all zero = all.0
  nothing_told (y ∷ more) all (suc j) = nothing_told more all.1 j

  pub get_longer : (ys more : List Y) → AllByRecursion (λ y. k y ≡ None) more → (j : ℕ)
      → option_and_then k (slice_get (ys ++ more) j) ≡ option_and_then k (slice_get ys j)
  get_longer [] more all j = nothing_told more all j
  get_longer (y ∷ ys) more all zero = refl
  get_longer (y ∷ ys) more all (suc j) = get_longer ys more all j

all_tell_nothing : {Y B : Type 0} (k : List Y → Option B) → k [] ≡ None → (more : List (List Y))
    → AllByRecursion is_bare more
    → AllByRecursion (λ y. k y ≡ None) more
all_tell_nothing k none [] all = tt
all_tell_nothing k none (y ∷ more) all = (ap k all.0 ∙ none, all_tell_nothing k none more all.1)

-- one level up: the list has become longer by lists without items, and then at one index slots came
module _ {X Y : Type 0} (told : List Y → SubId → Option (Option X)) (bare : (x : SubId) → told [] x ≡ None)
    (index : SubId → ℕ) where
  abbrev below : List (List Y) → SubId → Option (Option X)
  below ys x = option_and_then (λ y. told y x) (slice_get ys (index x))

  module _ {old new : List (List Y)} (longer : IsLonger is_bare old new) where
    pub same_longer : (x : SubId) → below new x ≡ below old x
    same_longer x = ap (λ ys. below ys x) longer.items
        ∙ get_longer (λ y. told y x) old longer.more (all_tell_nothing (λ y. told y x) (bare x) longer.more longer.all)
        (index x)

    module _ (i : ℕ) (y w : List Y) (at : slice_get new i ≡ Some y) (adds : AddsEmpty (told y) (told w)) where
      at_index : (x : SubId) (b : Bool) → nat_eq (index x) i ≡ b
          → (below (slice_set new i w) x ≡ below old x)
          ⊎ ((below old x ≡ None) × (below (slice_set new i w) x ≡ Some None))
      at_index x false other =
          inl (get_set (λ z. told z x) new i y w at (index x) ∙ ap (λ b. cond b (told w x) (below new x)) other
          ∙ same_longer x)
      at_index x true same = by (adds x)
        where
          was : below old x ≡ told y x
          was = sym (same_longer x)
              ∙ ap (λ j. option_and_then (λ z. told z x) (slice_get new j)) (numbers_are (index x) i same)
              ∙ ap (option_and_then (λ z. told z x)) at

          now : below (slice_set new i w) x ≡ told w x
          now = get_set (λ z. told z x) new i y w at (index x) ∙ ap (λ b. cond b (told w x) (below new x)) same

          by : (told w x ≡ told y x) ⊎ ((told y x ≡ None) × (told w x ≡ Some None))
              → (below (slice_set new i w) x ≡ below old x)
              ⊎ ((below old x ≡ None) × (below (slice_set new i w) x ≡ Some None))
          by (inl kept) = inl (now ∙ kept ∙ sym was)
          by (inr came) = inr (was ∙ came.0, now ∙ came.1)

      pub adds_below : AddsEmpty (below old) (below (slice_set new i w))
      adds_below x = at_index x (nat_eq (index x) i) refl

      -- the slot that is there at this index is there above
      pub is_there : (x : SubId) → index x ≡ i → is_some (told w x) ≡ true
          → is_some (below (slice_set new i w) x) ≡ true
      is_there x same there = ap is_some (get_set (λ z. told z x) new i y w at (index x)
          ∙ ap (λ b. cond b (told w x) (below new x))
          (ap (λ n. nat_eq (index x) n) (sym same) ∙ number_itself (index x))) ∙ there

-- no slot is told of where there are none
either_way : {A : Type 0} (b : Bool) (a : A) → cond b a a ≡ a
either_way true a = refl
either_way false a = refl

pub none_among : {X : Type 0} (x : SubId) → slot_among {X = X} [] x ≡ None
none_among x = either_way (is_image x.image.mif) None

-- empty slots that come leave the rows as they are
pub rows_stay : {X : Type 0} (old new : Levels X) → AddsEmpty (slot_at old) (slot_at new) → rows_in new ≡ rows_in old
rows_stay {X} old new adds =
    same_map sub_ids_total sub_ids_exact _ _ (λ x. row_at new x ∙ by x (adds x) ∙ sym (row_at old x))
  where
    by : (x : SubId) → (slot_at new x ≡ slot_at old x) ⊎ ((slot_at old x ≡ None) × (slot_at new x ≡ Some None))
        → option_flatten (slot_at new x) ≡ option_flatten (slot_at old x)
    by x (inl same) = ap option_flatten same
    by x (inr came) = ap option_flatten came.1 ∙ sym (ap option_flatten came.0)

-- and places are kept
pub slots_kept : {X : Type 0} {old new : SubId → Option (Option X)} → AddsEmpty old new → (x : SubId)
    → is_some (old x) ≡ true → is_some (new x) ≡ true
slots_kept {X} {old} {new} adds x had = by (adds x)
  where
    by : (new x ≡ old x) ⊎ ((old x ≡ None) × (new x ≡ Some None)) → is_some (new x) ≡ true
    by (inl same) = ap is_some same ∙ had
    by (inr came) = ap is_some came.1

pub no_longer : {Y : Type 0} (P : Y → Type 0) (old : List Y) → IsLonger P old old
no_longer P old = record { more = []; items = sym (append-nil old); all = tt }
