-- What the calls of a change in stages leave.
use Rattle.std.proofs.Common.{◌≡◌, ℕ, Some, None, ◌∷◌, refl, sym, ap, subst, ◌∙◌}
use Rattle.iocm_types.specs.declared.answer.Answer.TheVariants as answers
use Rattle.iocm_model.specs.Operation.State.{State}
use Rattle.iocm_model.specs.Change.Runs.{state_after_all}
use Rattle.iocm_model.specs.Change.Tree.{ChangeTree}
use Rattle.iocm_model.specs.Change.Meaning.{meaning}
use Rattle.iocm_model.specs.Change.Effect.{Effect}
use Rattle.iocm_history.specs.Change.{change_of}
use Rattle.iocm_history.specs.Entry.{begin, advance, commit, abort, History, plain_entry}
use Rattle.iocm_history.specs.Store.{store_of, state_of, store_with}
use Rattle.iocm_history.specs.MarkedEntry.{effect_of_act}
use Rattle.iocm_history.specs.Account.{replay, committed, account, state_at, stage_of}
use Rattle.iocm_history.specs.Journal.{journal_of}
use Rattle.iocm_history.specs.Legal.{IsLegal}
use Rattle.iocm_history.specs.InUse.{IsInUse}
use Rattle.iocm_history.specs.Stage.{Stage, once_more, advanced}
use Rattle.iocm_history.proofs.Along.{settled}
use Rattle.iocm_history.proofs.EditsLike.{edits_do}
use Rattle.iocm_history.proofs.Level.{IsReady, state_changed, state_changed_in_use, changed_store}
use Rattle.iocm_history.proofs.OneCell.{state_of_store}
use Rattle.iocm_history.proofs.Settled.{IsStaged, settled_in_use, level_is}

-- what is staged after these calls
pub begun_stage : (opening : State) (h : History) (p : ChangeTree) (k : ℕ)
    → stage_of opening (plain_entry (begin p) (answers.Staged k) ∷ h)
    ≡ Some (record { change = change_of (meaning p (state_at opening h)) (state_at opening h); advances = 0 })
unfolding account
begun_stage opening h p k = refl

pub advanced_stage : (opening : State) (h : History) (t : Stage) (k : ℕ) → stage_of opening h ≡ Some t
    → stage_of opening (plain_entry advance (answers.Left k) ∷ h) ≡ Some (once_more t)
unfolding account
advanced_stage opening h t k is = ap advanced is

pub committed_stage : (opening : State) (h : History) (n : ℕ) (f : Effect)
    → stage_of opening (record { call = commit; answer = answers.Changed n; effect = f } ∷ h) ≡ None
unfolding account
committed_stage opening h n f = refl

pub aborted_stage : (opening : State) (h : History) → stage_of opening (plain_entry abort answers.Aborted ∷ h) ≡ None
unfolding account
aborted_stage opening h = refl

-- a Commit leaves what the edits of the staged change do in the state now
pub commit_leaves : (opening : State) (h : History) (t : Stage) (n : ℕ) (f : Effect) → IsInUse opening
    → IsLegal opening h → stage_of opening h ≡ Some t
    → state_at opening (record { call = commit; answer = answers.Changed n; effect = f } ∷ h)
    ≡ state_after_all t.change.edits (state_at opening h)
unfolding account
commit_leaves opening h t n f used legal is =
    let i = settled opening h used legal in
    let s = state_at opening h in
    let in_use = settled_in_use (store_of opening) (journal_of h) (account opening h) i in
    let ready : IsReady t.change s = subst (λ g. IsStaged g s) is i.stage in
    let now : replay (store_of opening) (account opening h).entries ≡ store_of s
    = i.level.is ∙ ap store_of (sym (level_is (store_of opening) (journal_of h) (account opening h) i)) in
    (λ z. state_of (store_with (effect_of_act (committed n (is z))) (now z)))
    ∙ ap state_of (changed_store t.change s ready in_use)
    ∙ state_of_store (state_changed t.change s) (state_changed_in_use t.change s ready in_use).sound
    ∙ edits_do t.change s ready in_use
