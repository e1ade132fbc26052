-- Its entries tell its history, with what each change wrote.
use Rattle.std.proofs.Common.{◌≡◌, refl, subst}
use Rattle.iocm_core.specs.Seen as seen
use Rattle.iocm_core.specs.Told.{history_in}
use Rattle.iocm_core.proofs.calling.Core.is_legal.Goals as goal

pub returns-clause-told : goal.returns-clause-told
returns-clause-told c =
    let fs = c.self.inside.installation.changes.items in
    (fs, subst (λ (v : seen.Core). v.history ≡ history_in fs v.entries) c.self.view_is refl)
