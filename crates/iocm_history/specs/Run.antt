-- Runs of calls: the history that calls make one after the other where memory is there.
use Rattle.std.specs.Prelude.{List, [], ◌∷◌, fold, map}
use Rattle.iocm_types.specs.declared.answer.Answer.{Answer}
use Rattle.iocm_model.specs.Operation.State.{State}
use Rattle.iocm_history.specs.Entry.{Call, Entry, History}
use Rattle.iocm_history.specs.Legal.{entry_of}

-- the history after these calls
abbrev pub run : State → List Call → History
run opening calls = fold (λ h call. entry_of opening h call ∷ h) [] calls

-- the answers of a history, the latest first
abbrev pub answers_of : History → List Answer
answers_of h = map (λ (e : Entry). e.answer) h
