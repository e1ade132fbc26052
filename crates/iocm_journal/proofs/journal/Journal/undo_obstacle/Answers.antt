-- Why an undo is refused where its change stands.
use Rattle.std.proofs.Common.{option_map, ap, ◌∙◌}
use Rattle.std.specs.FinMap.{keys}
use Rattle.iocm_model.specs.Change.Refusal.{first_not_quiet}
use Rattle.iocm_model.specs.Operation.State.{State}
use Rattle.iocm_activate.specs.Effects.{effect_in}
use Rattle.iocm_journal.specs.Deciding.{not_quiet}
use Rattle.iocm_journal.proofs.UndoCalls.{rules_now, stood_on, waits_for}
use Rattle.iocm_journal.proofs.journal.Journal.undo_obstacle.Goals as goal

pub stood_on_by-requires : goal.stood_on_by-requires
stood_on_by-requires c =
    record { rules = rules_now c.requires.now; place = c.requires.place; changes = c.requires.now.now.journal.effects }

pub returns-in-Some-clause-decided : goal.returns-in-Some-clause-decided
returns-in-Some-clause-decided c = λ opening h now.
    stood_on now c.args.place c.requires.stands _ c.in_ok-on.ensures.greatest c.in-Some.other c.about.result
    c.in-Some.is c.about.ensures

pub returns-clause-decided : goal.returns-clause-decided
returns-clause-decided c = λ opening h now.
    let f = c.get.result.now in
    let lives = ap (λ (s : State). first_not_quiet s.lives (keys (effect_in f).lives)) c.in_ok-on.ensures.same in
    let busy = c.refused_for_not_quiet.ensures ∙ ap (option_map not_quiet) lives in
    waits_for now c.args.place c.requires.stands _ c.in_ok-on.ensures.greatest f _ c.get.ensures c.in_default.is busy
