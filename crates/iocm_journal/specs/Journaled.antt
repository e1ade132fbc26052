-- A journal as contracts see it.
use Rattle.std.specs.Prelude.{ℕ, Bool, List, count_by}
use Rattle.iocm_journal.specs.declared.kept.Kept.{Kept}
use Rattle.iocm_journal.specs.declared.kept.Undone.{Undone}

-- a journal, as a value: every accepted change, in the order of their numbers; how many of them
-- stand; those that are undone and not past, the last one undone last; and whether there is room
-- for one more change
pub record Journaled : Type 0 where
  pub changes : List Kept
  pub standing : ℕ
  pub undone : List Undone
  pub has_room : Bool

-- how many of some changes stand
abbrev pub count_standing : List Kept → ℕ
count_standing ks = count_by (λ (k : Kept). k.stands) ks
