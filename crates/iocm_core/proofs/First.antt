-- An installation of which nothing was asked yet.
use Rattle.std.proofs.Common.{◌≡◌, None, [], sym, subst, ◌∙◌}
use Rattle.iocm_model.specs.Operation.State.{State}
use Rattle.iocm_history.specs.Account.{account, state_at, stage_of}
use Rattle.iocm_history.specs.InUse.{IsInUse}
use Rattle.iocm_history.proofs.OneCell.{state_of_store}
use Rattle.iocm_journal.specs.Now.{IsJournalOf}
use Rattle.iocm_core.specs.Running.{IsStagedAs, HasRoomFor, IsInstallationOf}
use Rattle.iocm_core.specs.declared.installation.Installation.{Installation}

pub nothing_asked : (s : State) (m : Installation) → IsInUse s → IsJournalOf s [] m.journal [] → m.changes.items ≡ []
    → m.stage ≡ None → m.plant.state ≡ s → IsInstallationOf s [] m
unfolding account
nothing_asked s m used journal changes none state = record {
  journal = subst (IsJournalOf s [] m.journal) (sym changes) journal;
  stage = subst (λ g. IsStagedAs (stage_of s []) g (state_at s []) m.plant) (sym none)
      (state ∙ sym (state_of_store s used.sound));
  room = subst (λ g. HasRoomFor g m) (sym none) tt;
}
