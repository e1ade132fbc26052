-- What a grid ends as, once the loan of one of its rows has ended.
use Rattle.std.specs.Prelude.{◌≡◌, Option, OnSome}
use Rattle.std.specs.Borrow.{Fml, RattleType, MutBor, LendsSo}
use Rattle.std.specs.FinMap.{insert}
use Rattle.std.specs.declared.alloc.Allocator as alloc
use Rattle.iocm_types.specs.declared.sub_id.SubId.{SubId}
use Rattle.iocm_grid.specs.Gridded.{Gridded}
use Rattle.iocm_grid.specs.contracts.grid.Grid.{the_row}

-- one subchannel has this row now, and the same subchannels have places
pub record IsChangedAt {X : Type 0} (before : Gridded X) (x : SubId) (after : Gridded X) (row : X) : Type 0 where
  pub rows : after.rows ≡ insert before.rows x row
  pub places : after.places ≡ before.places

-- all is as it was
pub record IsUnchanged {X : Type 0} (before after : Gridded X) : Type 0 where
  pub rows : after.rows ≡ before.rows
  pub places : after.places ≡ before.places

-- the row that a subchannel has is what was written last through r; at `None` the grid stays as it
-- is
abbrev pub lends_row : (V A : RattleType) → alloc.Ghosts A.Denot → MutBor (Gridded V.Denot) → SubId
    → Option (MutBor V.Denot) → Fml
lends_row V A heap g x r =
    LendsSo (the_row V A heap) V g r (λ n w. OnSome r (IsChangedAt g.now x n w)) (IsUnchanged g.now)
