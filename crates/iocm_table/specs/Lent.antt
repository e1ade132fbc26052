-- What a table ends as, once the loan of one of its rows has ended.
use Rattle.std.specs.Prelude.{◌≡◌, Bool, Option, OnSome}
use Rattle.std.specs.Borrow.{Fml, RattleType, MutBor, LendsSo}
use Rattle.std.specs.FinMap.{insert}
use Rattle.std.specs.declared.cmp.Ordering.{Ordering}
use Rattle.std.specs.declared.alloc.Allocator as alloc
use Rattle.iocm_table.specs.Slots.{Stored, rows}
use Rattle.iocm_table.specs.contracts.table.Table.{the_row}

-- one key has this row now, and the same keys have places
pub record IsChangedAt {K X : Type 0} (R : K → K → Ordering) (before : Stored K X) (key : K)
    (after : Stored K X) (row : X) : Type 0 where
  pub rows : rows R after ≡ insert (rows R before) key row
  pub places : after.places ≡ before.places

-- all is as it was
pub record IsUnchanged {K X : Type 0} (R : K → K → Ordering) (before after : Stored K X) : Type 0 where
  pub rows : rows R after ≡ rows R before
  pub places : after.places ≡ before.places

-- what a clause has as K.TableKey
abbrev pub KeyMembers : Type 0 → Type 0
KeyMembers K = record {
  partial_cmp : K → K → Option Ordering;
  eq : K → K → Bool;
  cmp : K → K → Ordering;
  order : K → K → Ordering;
}

module _ (K V A : RattleType) (key : KeyMembers K.Denot) (heap : alloc.Ghosts A.Denot) where
  -- the table's type, as the logic holds it
  abbrev pub table_row : RattleType
  table_row =
      the_row K V A (record { order = key.order }) (record { cmp = key.cmp }) (record { eq = key.eq })
      (record { partial_cmp = key.partial_cmp }) heap

  -- the row that a key has is what was written last through r; at `None` the table stays as it is
  abbrev pub lends_row : MutBor (Stored K.Denot V.Denot) → K.Denot → Option (MutBor V.Denot) → Fml
  lends_row t k r =
      LendsSo table_row V t r (λ n w. OnSome r (IsChangedAt key.order t.now k n w))
      (IsUnchanged key.order t.now)
