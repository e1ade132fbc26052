-- What tells which changes stand on a change: which stand, when each was last undone, and which
-- cells they share.
use Rattle.std.specs.Prelude.{ℕ, ◌==◌, Bool, false, if◌then◌else◌, Option, None, Some, [], ◌∷◌}
use Rattle.iocm_types.specs.declared.answer.Answer.{Answer}
use Rattle.iocm_types.specs.declared.answer.Answer.TheVariants as answers
use Rattle.iocm_history.specs.Change.{Change, effect_of_change, share_a_cell}
use Rattle.iocm_history.specs.Entry.{History}
use Rattle.iocm_history.specs.Journal.{journal_of}

-- how many changes were accepted when a change was last undone, by one answer more
abbrev pub undone_then : ℕ → Answer → ℕ → ℕ → ℕ
undone_then n (answers.Undone m) count before = if n == m then count else before
undone_then n _ count before = before

-- how many changes were accepted when a change was last undone; 0 where it never was
abbrev pub last_undone : ℕ → History → ℕ
last_undone n [] = 0
last_undone n (e ∷ h) = undone_then n e.answer (journal_of h).count (last_undone n h)

-- a change wrote a cell in common with another, if that is there
abbrev pub shares : Change → Option Change → Bool
shares c None = false
shares c (Some d) = share_a_cell (effect_of_change c) (effect_of_change d)
