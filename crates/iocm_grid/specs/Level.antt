-- A list whose items are found by their index: what it ends as after a loan, and when it is longer.
use Rattle.std.specs.Prelude.{◌≡◌, ℕ, List, [], ◌++◌, Option, None, slice_set}
use Rattle.std.specs.List.{AllByRecursion}
use Rattle.std.specs.Borrow.{Fml, RattleType, MutBor, LendsIf}
use Rattle.std.specs.declared.alloc.Allocator as alloc
use Rattle.iocm_grid.specs.contracts.level.Level.{the_row}

-- the item at an index is what was written last through r; at `None` the list stays as it is
abbrev pub lends_item : (T A : RattleType) → alloc.Ghosts A.Denot → MutBor (List T.Denot) → ℕ → Option (MutBor T.Denot)
    → Fml
lends_item T A heap l i r = LendsIf (the_row T A heap) T l r (slice_set l.now i) l.now

-- items were added, all of one kind
pub record IsLonger {X : Type 0} (P : X → Type 0) (old new : List X) : Type 0 where
  pub more : List X
  pub items : new ≡ old ++ more
  pub all : AllByRecursion P more

-- a list without items, and a slot without a row
abbrev pub is_bare : {X : Type 0} → List X → Type 0
is_bare xs = xs ≡ []

abbrev pub is_empty : {X : Type 0} → Option X → Type 0
is_empty slot = slot ≡ None
