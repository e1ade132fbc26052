use Rattle.std.proofs.Common.{None, Some, refl, sym, ap, ◌∙◌}
use Rattle.std.specs.FinMap.{get}
use Rattle.std.specs.Option.{option_copied_mut, option_flatten, ghost_name_of}
use Rattle.iocm_grid.specs.Gridded.{gridded}
use Rattle.iocm_grid.proofs.Lending.{given, lent_changed, lent_counted, none_changed, none_counted}
use Rattle.iocm_grid.proofs.Looking.{row_at}
use Rattle.iocm_grid.proofs.grid.Grid.get_mut.Goals as goal

pub returns-in_err-row : goal.returns-in_err-row
returns-in_err-row g c = (
  (
    ap ghost_name_of (sym c.from_residual.ensures),
    (λ w. rw c.from_residual.ensures tt),
    record {
      rows = ap (λ l. (gridded l).rows) c.slot_mut.follows.holds-at-none ∙ ap (λ s. s.rows) c.self.view_is;
      places = ap (λ l. (gridded l).places) c.slot_mut.follows.holds-at-none ∙ ap (λ s. s.places) c.self.view_is;
    },
  ),
  record {
    writes_back = tt;
    value = ap option_copied_mut c.from_residual.ensures
        ∙ ap option_flatten (ap option_copied_mut (sym c.in_err-row.was) ∙ c.slot_mut.ensures.value)
        ∙ sym (row_at c.self.inside.levels c.args.key.now) ∙ ap (λ s. get s.rows c.args.key.now) c.self.view_is;
  },
)

pub invariant_of-self-lent : goal.invariant_of-self-lent
invariant_of-self-lent g c =
    rw c.in-Some.is (λ w. lent_counted c.self.inside.levels (c.slot_mut.follows.lender (Some w)) c.args.key.now
    c.slot_mut.ensures.in_range
    c.args.self.now c.self.view_is c.self.inside.len c.self.invariant c.in-Some.row w
    (sym (ap Some (sym c.in-Some.is) ∙ c.in_ok-row.ensures.value))
    (given c.slot_mut.result c.in_ok-row.field-0 c.in_ok-row.was (c.slot_mut.follows.holds (Some w))))

pub invariant_of-self-in-None : goal.invariant_of-self-in-None
invariant_of-self-in-None g c =
    rw c.in-None.is (none_counted c.self.inside.levels (c.slot_mut.follows.lender None) c.args.key.now
    c.slot_mut.ensures.in_range
    c.args.self.now c.self.view_is c.self.inside.len c.self.invariant
    (sym (ap Some (sym c.in-None.is) ∙ c.in_ok-row.ensures.value))
    (given c.slot_mut.result c.in_ok-row.field-0 c.in_ok-row.was (c.slot_mut.follows.holds None)))

pub returns-in-Some : goal.returns-in-Some
returns-in-Some g c =
    let found = ap Some (sym c.in-Some.is) ∙ c.in_ok-row.ensures.value in
    rw c.in-Some.is (
      (
        refl,
        (λ w. lent_changed c.self.inside.levels (c.slot_mut.follows.lender (Some w)) c.args.key.now
            c.slot_mut.ensures.in_range
            c.args.self.now c.self.view_is c.self.inside.len c.self.invariant c.in-Some.row w (sym found)
            (given c.slot_mut.result c.in_ok-row.field-0 c.in_ok-row.was (c.slot_mut.follows.holds (Some w)))),
        record { rows = refl; places = refl },
      ),
      record {
        writes_back = tt;
        value = ap option_flatten found ∙ sym (row_at c.self.inside.levels c.args.key.now)
            ∙ ap (λ s. get s.rows c.args.key.now) c.self.view_is;
      },
    )

pub returns-in-None : goal.returns-in-None
returns-in-None g c =
    let found = ap Some (sym c.in-None.is) ∙ c.in_ok-row.ensures.value in
    rw c.in-None.is (
      (
        refl,
        (λ w. tt),
        none_changed c.self.inside.levels (c.slot_mut.follows.lender None) c.args.key.now c.slot_mut.ensures.in_range
            c.args.self.now c.self.view_is c.self.inside.len c.self.invariant (sym found)
            (given c.slot_mut.result c.in_ok-row.field-0 c.in_ok-row.was (c.slot_mut.follows.holds None)),
      ),
      record {
        writes_back = tt;
        value = ap option_flatten found ∙ sym (row_at c.self.inside.levels c.args.key.now)
            ∙ ap (λ s. get s.rows c.args.key.now) c.self.view_is;
      },
    )
