use Rattle.std.proofs.Common.{◌+◌, drop, drop_of_length-le, fold, sym, ap, subst, ◌∙◌}
use Rattle.std.specs.List.{flat_map}
use Rattle.std.specs.FinMap.{entries}
use Rattle.std.proofs.lemmas.List.Sums.{fold-append}
use Rattle.iocm_types.proofs.Lists.{drop-item}
use Rattle.iocm_model.specs.Machine.Configuration.{records_of}
use Rattle.iocm_model.specs.Machine.Numbering.{cells_of}
use Rattle.iocm_seats.specs.Seated.{Seats}
use Rattle.iocm_seats.specs.Listing.{subsystem_seats, with_seat, AreSubsystemsOf}
use Rattle.iocm_seats.proofs.Opened.{opened_all}
use Rattle.iocm_seats.proofs.opening.open_seats.Goals as goal

pub loop-css-init : goal.loop-css-init
loop-css-init g c = let of =
    subsystem_seats c.args.config.now.records (entries (cells_of c.args.numbers.now.numbers)) in
    ap (λ (m : Seats). fold with_seat m (flat_map of c.as_slice-css-items.result.now)) c.new-seats.ensures.seats

pub loop-css-preserved : goal.loop-css-preserved
loop-css-preserved g c =
    let of = subsystem_seats c.args.config.now.records (entries (cells_of c.args.numbers.now.numbers)) in
    let items = c.as_slice-css-items.result.now in
    let rest = flat_map of (drop (c.loop-css.css-index + 1) items) in
    ap (λ (m : Seats). fold with_seat m rest) c.in_ok-open_subsystem.ensures
    ∙ sym (fold-append with_seat c.loop-css.seats.seats (of c.css-item.result) rest)
    ∙ ap (λ subsystems. fold with_seat c.loop-css.seats.seats (flat_map of subsystems))
    (sym (drop-item items c.loop-css.css-index c.css-item.result c.loop-css-test.true c.css-item.is))
    ∙ c.loop-css.invariant

pub returns : goal.returns
returns g c =
    let of = subsystem_seats c.args.config.now.records (entries (cells_of c.args.numbers.now.numbers)) in
    let items = c.as_slice-css-items.result.now in
    sym (ap (λ subsystems. fold with_seat c.loop-css.seats.seats (flat_map of subsystems))
    (drop_of_length-le items c.loop-css-test.false))
    ∙ c.loop-css.invariant
    ∙ opened_all c.args.config.now.records c.args.numbers.now.numbers c.has_own_keys.ensures items
    (subst (AreSubsystemsOf (records_of c.args.config.now.records)) (sym c.as_slice-css-items.ensures.value)
    c.in_ok-subsystems.ensures)
