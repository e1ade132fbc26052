use Rattle.std.proofs.Common.{◌≡◌, [], ◌++◌, Option, None, Some, append-nil, sym, ap, ◌∙◌}
use Rattle.std.specs.FinMap.{get}
use Rattle.std.specs.List.{cons_option}
use Rattle.std.specs.Option.{option_copied}
use Rattle.iocm_types.specs.declared.place.NumberCell.{NumberCell}
use Rattle.iocm_types.specs.declared.view.View.{View}
use Rattle.iocm_seats.specs.Changes.{subchannel_at, change_from}
use Rattle.iocm_seats.specs.Seated.{views_seated, lives_seated}
use Rattle.iocm_seats.proofs.Remembered.{met_more, met_there, met_nowhere}
use Rattle.iocm_seats.proofs.Settled.{view_in, view_seated}
use Rattle.iocm_seats.proofs.Sighted.{change_there}
use Rattle.iocm_seats.proofs.changes.list_at_cell.Goals as goal

pub returns-in_ok-list_seated-in-Some-clause-changes : goal.returns-in_ok-list_seated-in-Some-clause-changes
returns-in_ok-list_seated-in-Some-clause-changes g c =
    let seats = c.args.tried.now.seats.now.seats in
    let x = subchannel_at c.args.named.now.image c.cell-cell.result in
    let after = c.view_there-after.result in
    let found : get seats x ≡ Some c.in-Some.seat.now = sym c.get.ensures ∙ ap option_copied c.in-Some.is in
    c.in_ok-list_seated-in-Some.ensures.changes ∙ ap (λ xs. c.args.altered.now.changes.items ++ xs) (sym
    (change_there (get (views_seated seats)) c.args.tried.now.config.now.records c.args.tried.now.numbers.now.numbers
    c.requires.keyed
    c.args.named.now.image c.args.sight.now c.cell-cell.result c.requires.sight c.cell-cell.ensures
    (ap (λ (x : NumberCell). x.css) c.cell-cell.ensures ∙ c.requires.own)
    c.view_there-after.result c.view_there-after.ensures (change_from (Some c.in-Some.seat.now.view) after x)
    (ap (λ (o : Option View). change_from o after x) (sym (view_seated seats x ∙ ap view_in found)))))

pub returns-in_ok-list_seated-in-Some-clause-met : goal.returns-in_ok-list_seated-in-Some-clause-met
returns-in_ok-list_seated-in-Some-clause-met g c =
    let seats = c.args.tried.now.seats.now.seats in
    let x = subchannel_at c.args.named.now.image c.cell-cell.result in
    let found : get seats x ≡ Some c.in-Some.seat.now = sym c.get.ensures ∙ ap option_copied c.in-Some.is in
    met_more (lives_seated seats) c.args.altered.now.changes.items
    (cons_option (change_from (Some c.in-Some.seat.now.view) c.view_there-after.result x) [])
    c.list_seated.new.altered.changes.items c.args.altered.now.met.items _ c.list_seated.new.altered.met.items
    c.requires.met
    c.in_ok-list_seated-in-Some.ensures.changes c.in_ok-list_seated-in-Some.ensures.met
    (met_there seats x c.in-Some.seat.now found c.view_there-after.result)

pub returns-in_ok-list_new-in-None-clause-changes : goal.returns-in_ok-list_new-in-None-clause-changes
returns-in_ok-list_new-in-None-clause-changes g c =
    let seats = c.args.tried.now.seats.now.seats in
    let x = subchannel_at c.args.named.now.image c.cell-cell.result in
    let after = c.view_there-after.result in
    let found : get seats x ≡ None = sym c.get.ensures ∙ ap option_copied c.in-None.is in
    c.in_ok-list_new-in-None.ensures.changes ∙ ap (λ xs. c.args.altered.now.changes.items ++ xs) (sym
    (change_there (get (views_seated seats)) c.args.tried.now.config.now.records c.args.tried.now.numbers.now.numbers
    c.requires.keyed
    c.args.named.now.image c.args.sight.now c.cell-cell.result c.requires.sight c.cell-cell.ensures
    (ap (λ (x : NumberCell). x.css) c.cell-cell.ensures ∙ c.requires.own)
    c.view_there-after.result c.view_there-after.ensures (change_from None after x)
    (ap (λ (o : Option View). change_from o after x) (sym (view_seated seats x ∙ ap view_in found)))))

pub returns-in_ok-list_new-in-None-clause-met : goal.returns-in_ok-list_new-in-None-clause-met
returns-in_ok-list_new-in-None-clause-met g c =
    let seats = c.args.tried.now.seats.now.seats in
    let x = subchannel_at c.args.named.now.image c.cell-cell.result in
    let found : get seats x ≡ None = sym c.get.ensures ∙ ap option_copied c.in-None.is in
    met_more (lives_seated seats) c.args.altered.now.changes.items
    (cons_option (change_from None c.view_there-after.result x) [])
    c.list_new.new.altered.changes.items c.args.altered.now.met.items [] c.list_new.new.altered.met.items c.requires.met
    c.in_ok-list_new-in-None.ensures.changes (c.list_new.ensures.met ∙ sym (append-nil c.args.altered.now.met.items))
    (met_nowhere seats x found c.view_there-after.result)
