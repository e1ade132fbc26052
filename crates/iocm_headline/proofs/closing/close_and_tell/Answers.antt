-- What the laws of histories say of the history of a core.
use Rattle.std.proofs.Common.{◌∷◌, sym, ap, ◌∙◌, subst}
use Rattle.iocm_model.specs.Operation.State.{State}
use Rattle.iocm_history.specs.Account.{state_at}
use Rattle.iocm_history.specs.Entry.{History}
use Rattle.iocm_history.specs.Legal.{IsLegal}
use Rattle.iocm_runs.proofs.TakingBack.{inverses_of_changes_take_back}
use Rattle.iocm_runs.proofs.UndoAnswers.{undo_is_answered_in_order}
use Rattle.iocm_headline.specs.Headline.{LeavesTheRunWithout}
use Rattle.iocm_headline.proofs.Leaving.{leaves, legal_before}
use Rattle.iocm_headline.proofs.closing.close_and_tell.Goals as goal

pub returns-clause-undone : goal.returns-clause-undone
returns-clause-undone c n h is =
    let opening = c.args.core.opening in
    subst (λ (s : State). LeavesTheRunWithout opening h n s)
    (ap (state_at opening) (sym is) ∙ sym c.close.ensures.state)
    (leaves opening h n c.is_legal.ensures.used
    (subst (λ (g : History). IsLegal opening g) is c.is_legal.ensures.legal))

pub returns-clause-answered : goal.returns-clause-answered
returns-clause-answered c later h e n is call =
    let opening = c.args.core.opening in
    undo_is_answered_in_order opening h n e c.is_legal.ensures.used
    (legal_before opening later (e ∷ h) (subst (λ (g : History). IsLegal opening g) is c.is_legal.ensures.legal)) call

pub returns-clause-taken_back : goal.returns-clause-taken_back
returns-clause-taken_back c n undone there =
    inverses_of_changes_take_back c.args.core.opening c.args.core.history n undone c.is_legal.ensures.used
    c.is_legal.ensures.legal there
