-- The undos that a journal notes beside its changes, and what they tell.
use Rattle.std.specs.Prelude.{◌≡◌, ℕ, ◌+◌, ◌-◌, ◌<◌, ◌≤◌, ◌==◌, nat_lt, Bool, false, not, ◌&&◌, if◌then◌else◌}
use Rattle.std.specs.Prelude.{List, Some, length, take, drop}
use Rattle.std.specs.List.{slice_get, list_any}
use Rattle.std.specs.Option.{option_map_or}
use Rattle.iocm_journal.specs.Standing.{stands_at}
use Rattle.iocm_journal.specs.declared.kept.Kept.{Kept}
use Rattle.iocm_journal.specs.declared.undos.Undo.{Undo}

-- some undos are noted in their order: the count of accepted changes never falls along them
abbrev pub AreInOrder : List Undo → Type 0
AreInOrder us = (i j : ℕ) (u v : Undo) → i < j → slice_get us i ≡ Some u → slice_get us j ≡ Some v → u.after ≤ v.after

-- none of them was after more than so many changes
abbrev pub AreWithin : ℕ → List Undo → Type 0
AreWithin count us = (i : ℕ) (u : Undo) → slice_get us i ≡ Some u → u.after ≤ count

-- each change that doesn't stand has its last undo among them
abbrev pub TellEachUndone : List Kept → List Undo → Type 0
TellEachUndone ks us = (at : ℕ) (k : Kept) → slice_get ks at ≡ Some k → k.stands ≡ false
    → (i : ℕ) × (slice_get us i ≡ Some (record { place = at; after = k.undone_after }))

-- an undo is of a change that is there, and was no later than its last undo
pub record IsOfOne (ks : List Kept) (u : Undo) : Type 0 where
  pub kept : Kept
  pub there : slice_get ks u.place ≡ Some kept
  pub early : u.after ≤ kept.undone_after

-- the undos that are noted beside some changes
pub record AreNoted (ks : List Kept) (us : List Undo) : Type 0 where
  pub order : AreInOrder us
  pub within : AreWithin (length ks) us
  pub of : (i : ℕ) (u : Undo) → slice_get us i ≡ Some u → IsOfOne ks u
  pub each : TellEachUndone ks us

-- whether a change after the one at a place stands
abbrev pub stands_later : List Kept → ℕ → Bool
stands_later ks place = list_any (λ (k : Kept). k.stands) (drop (place + 1) ks)

-- whether an undo is of a change before a place that doesn't stand; and whether it was one since the
-- change at that place was accepted
abbrev pub is_of_earlier : List Kept → ℕ → Undo → Bool
is_of_earlier ks place u = nat_lt u.place place && not (stands_at ks u.place)

abbrev pub is_of_earlier_since : List Kept → ℕ → Undo → Bool
is_of_earlier_since ks place u = nat_lt place u.after && is_of_earlier ks place u

-- whether one of some undos is such
abbrev pub undone_since : List Kept → List Undo → ℕ → Bool
undone_since ks us place = list_any (is_of_earlier_since ks place) us

-- whether the last of some undos is of the change at a place; and the undos without such a last one
abbrev pub is_last_of : ℕ → List Undo → Bool
is_last_of place us = option_map_or (λ (u : Undo). u.place == place) (slice_get us (length us - 1)) false

abbrev pub without_last_of : ℕ → List Undo → List Undo
without_last_of place us = if is_last_of place us then take (length us - 1) us else us
