-- Which changes stand, which are undone, and which are past.
use Rattle.std.specs.Prelude.{ℕ, ◌==◌, nat_le, Bool, ◌&&◌, not, List, [], ◌∷◌, filter}
use Rattle.std.specs.List.{list_any}
use Rattle.iocm_types.specs.declared.answer.Answer.{Answer}
use Rattle.iocm_types.specs.declared.answer.Answer.TheVariants as answers
use Rattle.iocm_history.specs.Entry.{History}

-- how many changes were accepted; those that stand, the latest first; those that are undone, the
-- last one undone first
pub record Journal : Type 0 where
  pub count : ℕ
  pub standing : List ℕ
  pub undone : List ℕ

abbrev pub is_in : ℕ → List ℕ → Bool
is_in n ns = list_any (n ==◌) ns

abbrev pub without : ℕ → List ℕ → List ℕ
without n ns = filter (λ m. not (n == m)) ns

-- a change that is past: it was accepted, and neither stands nor is undone any more
abbrev pub is_past : ℕ → Journal → Bool
is_past n b = nat_le 1 n && nat_le n b.count && not (is_in n b.standing) && not (is_in n b.undone)

-- a change stands once it is accepted, and all that are undone then become past; it is undone after
-- its undo, and stands again after its redo
abbrev pub journal_after : Answer → Journal → Journal
journal_after (answers.Changed n) b = record { count = n; standing = n ∷ b.standing; undone = [] }
journal_after (answers.Undone n) b = record { count = b.count; standing = without n b.standing; undone = n ∷ b.undone }
journal_after (answers.Redone n) b = record { count = b.count; standing = n ∷ b.standing; undone = without n b.undone }
journal_after _ b = b

abbrev pub journal_of : History → Journal
journal_of [] = record { count = 0; standing = []; undone = [] }
journal_of (e ∷ h) = journal_after e.answer (journal_of h)
