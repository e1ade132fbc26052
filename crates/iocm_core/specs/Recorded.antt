-- A call that was recorded.
use Rattle.std.specs.Prelude.{◌≡◌, ◌∷◌}
use Rattle.iocm_types.specs.declared.answer.Answer.{Answer}
use Rattle.iocm_history.specs.Entry.{Call, Entry}
use Rattle.iocm_core.specs.Seen.{Core}

-- a core has one entry more than before, with this call and this answer; it was opened in the same
-- state, and has the same room
pub record IsRecorded (old : Core) (call : Call) (answer : Answer) (new : Core) : Type 0 where
  pub entry : Entry
  pub history : new.history ≡ entry ∷ old.history
  pub call_is : entry.call ≡ call
  pub answer_is : entry.answer ≡ answer
  pub opening : new.opening ≡ old.opening
  pub room : new.room ≡ old.room
