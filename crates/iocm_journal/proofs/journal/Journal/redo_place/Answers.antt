-- Why a redo is refused.
use Rattle.std.proofs.Common.{Some, None, sym, ◌∙◌}
use Rattle.iocm_journal.proofs.RedoCalls.{no_such, standing, another_last, is_the_last}
use Rattle.iocm_journal.proofs.journal.Journal.redo_place.Goals as goal

pub returns-in_default-clause-decided : goal.returns-in_default-clause-decided
returns-in_default-clause-decided c = λ opening h now.
    no_such now c.args.number c.of.result c.in_default.ensures c.of.ensures

pub returns-then-kept_at-clause-decided : goal.returns-then-kept_at-clause-decided
returns-then-kept_at-clause-decided c = λ opening h now.
    standing now c.args.number c.in-Some.place c.kept_at.result.now c.in-Some.ensures.0 c.kept_at.ensures
    c.of-then-kept_at.result c.if-kept_at.true c.of-then-kept_at.ensures

pub returns-then-not-is_last_undone-clause-decided : goal.returns-then-not-is_last_undone-clause-decided
returns-then-not-is_last_undone-clause-decided c = λ opening h now.
    another_last now c.args.number c.in-Some.place c.kept_at.result.now c.in-Some.ensures.0 c.kept_at.ensures
    c.of-then-not-is_last_undone.result c.if-kept_at.false
    (sym c.is_last_undone.ensures ∙ c.if-not-is_last_undone.true) c.of-then-not-is_last_undone.ensures

pub returns-in-Some-refused_for_not_quiet-clause-decided : goal.returns-in-Some-refused_for_not_quiet-clause-decided
returns-in-Some-refused_for_not_quiet-clause-decided c = λ opening h now.
    is_the_last now c.args.number c.in-Some.place c.kept_at.result.now c.in-Some.ensures.0 c.kept_at.ensures
    c.get.result.now (Some c.in-Some-refused_for_not_quiet.why) c.get.ensures
    (sym c.is_last_undone.ensures ∙ c.if-not-is_last_undone.false)
    (sym c.in-Some-refused_for_not_quiet.is ∙ c.refused_for_not_quiet.ensures)

pub returns-in-None-clause-decided : goal.returns-in-None-clause-decided
returns-in-None-clause-decided c = λ opening h now.
    is_the_last now c.args.number c.in-Some.place c.kept_at.result.now c.in-Some.ensures.0 c.kept_at.ensures
    c.get.result.now None c.get.ensures
    (sym c.is_last_undone.ensures ∙ c.if-not-is_last_undone.false) (sym c.in-None.is ∙ c.refused_for_not_quiet.ensures)
