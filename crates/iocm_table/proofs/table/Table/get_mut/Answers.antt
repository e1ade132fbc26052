use Rattle.std.proofs.Common.{None, Some, refl, sym, ap, ◌∙◌}
use Rattle.std.specs.Option.{option_copied_mut, option_flatten, ghost_name_of}
use Rattle.iocm_table.specs.Slots.{rows}
use Rattle.iocm_table.proofs.Lookups.{seen_of, row_at}
use Rattle.iocm_table.proofs.Lending.{row_changed, row_still_counted, none_changed, none_still_counted}
use Rattle.iocm_table.proofs.table.Table.get_mut.Goals as goal

pub returns-in_err-row : goal.returns-in_err-row
returns-in_err-row g c = (
  (
    ap ghost_name_of (sym c.from_residual.ensures),
    (λ w. rw c.from_residual.ensures tt),
    record {
      rows = ap (λ m. rows g.K.TableKey.order (seen_of m)) c.get_mut.follows.holds-at-none
          ∙ ap (rows g.K.TableKey.order) c.self.view_is;
      places = ap (λ m. (seen_of m).places) c.get_mut.follows.holds-at-none ∙ ap (λ v. v.places) c.self.view_is;
    },
  ),
  record {
    writes_back = tt;
    value = ap option_copied_mut c.from_residual.ensures
        ∙ ap option_flatten (ap option_copied_mut (sym c.in_err-row.was) ∙ c.get_mut.ensures.value)
        ∙ sym (row_at g.met.K.TableKey.is_cmp c.self.inside.slots c.args.self.now c.self.view_is c.self.invariant.rise
        g.met.K.Ord.total c.args.key.now);
  },
)

pub invariant_of-self-lent : goal.invariant_of-self-lent
invariant_of-self-lent g c = rw c.in-Some.is
    (λ w. row_still_counted g.met.K.TableKey.is_cmp g.met.K.Ord.total g.met.K.TableKey.exact c.self.inside.slots
    (c.get_mut.follows.lender (Some w)) c.args.self.now c.self.view_is c.args.key.now c.self.inside.len c.self.invariant
    c.in-Some.row w
    (ap Some (sym c.in-Some.is) ∙ c.in_ok-row.ensures.value) (c.get_mut.follows.holds (Some w)))

pub invariant_of-self-in-None : goal.invariant_of-self-in-None
invariant_of-self-in-None g c = rw c.in-None.is
    (none_still_counted g.met.K.TableKey.is_cmp g.met.K.Ord.total g.met.K.TableKey.exact c.self.inside.slots
    (c.get_mut.follows.lender None) c.args.self.now c.self.view_is c.args.key.now c.self.inside.len c.self.invariant
    (ap Some (sym c.in-None.is) ∙ c.in_ok-row.ensures.value) (c.get_mut.follows.holds None))

pub returns-in-Some : goal.returns-in-Some
returns-in-Some g c =
    let found = ap Some (sym c.in-Some.is) ∙ c.in_ok-row.ensures.value in
    rw c.in-Some.is (
      (
        refl,
        (λ w. row_changed g.met.K.TableKey.is_cmp g.met.K.Ord.total g.met.K.TableKey.exact c.self.inside.slots
            (c.get_mut.follows.lender (Some w)) c.args.self.now
            c.self.view_is c.args.key.now c.self.inside.len c.self.invariant c.in-Some.row w found
            (c.get_mut.follows.holds (Some w))),
        record { rows = refl; places = refl },
      ),
      record {
        writes_back = tt;
        value = ap option_flatten found
            ∙ sym (row_at g.met.K.TableKey.is_cmp c.self.inside.slots c.args.self.now c.self.view_is
            c.self.invariant.rise g.met.K.Ord.total c.args.key.now);
      },
    )

pub returns-in-None : goal.returns-in-None
returns-in-None g c =
    let found = ap Some (sym c.in-None.is) ∙ c.in_ok-row.ensures.value in
    rw c.in-None.is (
      (
        refl,
        (λ w. tt),
        none_changed g.met.K.TableKey.is_cmp g.met.K.Ord.total g.met.K.TableKey.exact c.self.inside.slots
            (c.get_mut.follows.lender None) c.args.self.now
            c.self.view_is c.args.key.now c.self.inside.len c.self.invariant found (c.get_mut.follows.holds None),
      ),
      record {
        writes_back = tt;
        value = ap option_flatten found
            ∙ sym (row_at g.met.K.TableKey.is_cmp c.self.inside.slots c.args.self.now c.self.view_is
            c.self.invariant.rise g.met.K.Ord.total c.args.key.now);
      },
    )
