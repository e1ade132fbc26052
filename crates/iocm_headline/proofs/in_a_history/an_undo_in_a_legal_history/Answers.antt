-- A legal history is legal up to each of its entries.
use Rattle.std.proofs.Common.{◌∷◌, subst}
use Rattle.iocm_history.specs.Entry.{History}
use Rattle.iocm_history.specs.Legal.{IsLegal}
use Rattle.iocm_history.specs.UndoLaws.{undo_entry}
use Rattle.iocm_headline.proofs.Leaving.{leaves, legal_before}
use Rattle.iocm_headline.proofs.in_a_history.an_undo_in_a_legal_history.Goals as goal

pub returns : goal.returns
returns c opening whole used legal later h n is =
    leaves opening h n used (legal_before opening later (undo_entry n ∷ h)
    (subst (λ (g : History). IsLegal opening g) is legal))
