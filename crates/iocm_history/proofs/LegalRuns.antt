-- Runs of calls are legal histories.
use Rattle.std.proofs.Common.{◌≡◌, inl, ℕ, ◌+◌, Option, Some, None, Ok, Err, List, [], ◌∷◌, refl, sym, ap}
use Rattle.std.specs.List.{fold}
use Rattle.iocm_model.specs.Operation.State.{State}
use Rattle.iocm_model.specs.Change.Meaning.{Outcome, meaning}
use Rattle.iocm_model.specs.Change.Tree.{ChangeTree}
use Rattle.iocm_history.specs.Entry.{Call, at, activate, begin, advance, commit, abort, undo, redo, show, Entry}
use Rattle.iocm_history.specs.Entry.{History}
use Rattle.iocm_history.specs.Stage.{Stage}
use Rattle.iocm_history.specs.Account.{Account, state_in, account}
use Rattle.iocm_history.specs.Journal.{Journal, journal_of}
use Rattle.iocm_history.specs.Legal.{unless_staged, activated, begun, commit_entry, entry_in, entry_of, IsRight}
use Rattle.iocm_history.specs.Legal.{IsLegal}
use Rattle.iocm_history.specs.HistoryLaws.{RunsAreLegal}

-- an entry is that of its call
activated_call : (p : ChangeTree) (n : ℕ) (s : State) (o : Outcome) → (activated p n s o).call ≡ activate p
activated_call p n s (Ok r) = refl
activated_call p n s (Err why) = refl

begun_call : (p : ChangeTree) (o : Outcome) → (begun p o).call ≡ begin p
begun_call p (Ok r) = refl
begun_call p (Err why) = refl

commit_call : (n : ℕ) (g : Option Stage) → (commit_entry n g).call ≡ commit
commit_call n (Some g) = refl
commit_call n None = refl

staged_call : (g : Option Stage) (call : Call) (e : Entry) → e.call ≡ call → (unless_staged g call e).call ≡ call
staged_call (Some g) call e is = refl
staged_call None call e is = is

entry_call : (s : State) (b : Journal) (a : Account) (call : Call) → (entry_in s b a call).call ≡ call
entry_call s b a (at x made) = refl
entry_call s b a (activate p) = staged_call a.stage (activate p) _ (activated_call p (b.count + 1) s (meaning p s))
entry_call s b a (begin p) = staged_call a.stage (begin p) _ (begun_call p (meaning p s))
entry_call s b a advance = refl
entry_call s b a commit = commit_call (b.count + 1) a.stage
entry_call s b a abort = refl
entry_call s b a (undo n) = staged_call a.stage (undo n) _ refl
entry_call s b a (redo n) = staged_call a.stage (redo n) _ refl
entry_call s b a show = staged_call a.stage show _ refl

-- the entry that a call makes is right
made_right : (opening : State) (h : History) (call : Call) → IsRight opening h (entry_of opening h call)
made_right opening h call =
    inl (ap (entry_of opening h)
    (sym (entry_call (state_in opening (account opening h)) (journal_of h) (account opening h) call)))

-- calls go on from a legal history to a legal one
legal_from : (opening : State) (h : History) (calls : List Call) → IsLegal opening h
    → IsLegal opening (fold (λ g call. entry_of opening g call ∷ g) h calls)
legal_from opening h [] legal = legal
legal_from opening h (call ∷ calls) legal =
    legal_from opening (entry_of opening h call ∷ h) calls (made_right opening h call, legal)

pub runs_are_legal : RunsAreLegal
runs_are_legal opening calls = legal_from opening [] calls tt
