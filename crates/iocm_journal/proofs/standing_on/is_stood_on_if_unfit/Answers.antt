-- A later change stands on it, or an earlier one does, or none.
use Rattle.std.proofs.Common.{sym, ◌∙◌}
use Rattle.iocm_journal.proofs.Noting.{later_on, stands_by_undos}
use Rattle.iocm_journal.proofs.standing_on.is_stood_on_if_unfit.Goals as goal

pub returns-then-stands_later : goal.returns-then-stands_later
returns-then-stands_later c = λ fs.
    let later = c.if-stands_later.true in
    later ∙ sym (later_on c.args.kept.now c.args.place (sym c.stands_later.ensures ∙ later) fs)

pub returns-else-stands_later : goal.returns-else-stands_later
returns-else-stands_later c = λ fs.
    c.undone_since.ensures
    ∙ stands_by_undos c.args.kept.now c.args.undos.now c.args.place c.requires.within c.requires.noted
    (sym c.stands_later.ensures ∙ c.if-stands_later.false) fs
