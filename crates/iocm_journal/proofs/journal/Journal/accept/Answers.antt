-- The journal has one more change.
use Rattle.std.proofs.Common.{◌+◌, ◌++◌, ◌∷◌, [], refl, sym, ap, subst, ◌∙◌}
use Rattle.iocm_journal.specs.Accepting.{newly_kept}
use Rattle.iocm_journal.specs.Journaled.{Journaled, count_standing}
use Rattle.iocm_journal.specs.Noted.{AreNoted}
use Rattle.iocm_journal.proofs.Counts.{count_accepted}
use Rattle.iocm_journal.proofs.GoingOn.{accepts}
use Rattle.iocm_journal.proofs.Noting.{noted_accepted}
use Rattle.iocm_journal.proofs.journal.Journal.accept.Goals as goal

pub invariant_of-self : goal.invariant_of-self
invariant_of-self c =
    let kept = newly_kept c.args.inverse c.args.performed in
    let items = c.push_reserved.ensures.items in (
      ap (λ n. n + 1) c.self.invariant.0 ∙ sym (count_accepted c.self.inside.changes.items kept refl)
          ∙ sym (ap count_standing items),
      subst (λ ks. AreNoted ks c.self.inside.undos.items) (sym items)
          (noted_accepted c.self.inside.changes.items c.self.inside.undos.items kept refl c.self.invariant.1),
    )

pub returns-clause-accepts : goal.returns-clause-accepts
returns-clause-accepts c =
    let kept = newly_kept c.args.inverse c.args.performed in
    accepts c.args.inverse c.args.performed c.args.self.now _
    (c.push_reserved.ensures.items ∙ ap (λ (v : Journaled). v.changes ++ kept ∷ []) c.self.view_is)
    (ap (λ (v : Journaled). v.standing + 1) c.self.view_is) c.clear.ensures.items
