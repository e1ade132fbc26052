-- The lists of a device as they are kept.
use Rattle.std.specs.Prelude.{ℕ, Option, None, List, []}
use Rattle.iocm_model.specs.Machine.Record.{CarriedOperand}
use Rattle.iocm_record.specs.declared.lists.Kept.{Kept}
use Rattle.iocm_record.specs.declared.lists.Kept.TheVariants.{One, Boxed}

-- its control units, its candidates where it lists them, and what its statement carries along
pub record Lists : Type 0 where
  pub units : List ℕ
  pub candidates : Option (List (List ℕ))
  pub carried : List CarriedOperand

-- one control unit and nothing else, or any lists
abbrev pub lists_kept : {A : Type 0} → Kept A → Lists
lists_kept (One only) = record { units = only; candidates = None; carried = [] }
lists_kept (Boxed lists) = record {
  units = lists.value.units;
  candidates = lists.value.candidates;
  carried = lists.value.carried.items;
}
