use Rattle.std.proofs.Common.{◌-◌, ◌≤◌, None, Some, sym, ap, subst, ◌∙◌, is_some}
use Rattle.std.specs.Option.{option_copied_mut, option_flatten}
use Rattle.std.specs.BTreeMap.{UpdatesBy}
use Rattle.iocm_table.specs.Slots.{rows}
use Rattle.iocm_table.proofs.Lookups.{seen_of, row_at}
use Rattle.iocm_table.proofs.Writing.{counted_out, one_row, rows_taken, rows_untaken}
use Rattle.iocm_table.proofs.table.Table.take.Goals as goal

pub returns-in_err-slot-clause-before : goal.returns-in_err-slot-clause-before
returns-in_err-slot-clause-before g c =
    c.from_residual.ensures ∙ ap option_flatten (ap option_copied_mut (sym c.in_err-slot.was) ∙ c.get_mut.ensures.value)
    ∙ sym (row_at g.met.K.TableKey.is_cmp c.self.inside.slots c.args.self.now c.self.view_is c.self.invariant.rise
    g.met.K.Ord.total c.args.key.now)

pub returns-in_err-slot-clause-rows : goal.returns-in_err-slot-clause-rows
returns-in_err-slot-clause-rows g c =
    ap (λ m. rows g.K.TableKey.order (seen_of m)) c.get_mut.follows.holds-at-none
    ∙ ap (rows g.K.TableKey.order) c.self.view_is
    ∙ rows_untaken g.met.K.TableKey.is_cmp g.met.K.Ord.total g.met.K.TableKey.exact c.self.inside.slots c.args.self.now
    c.self.view_is c.args.key.now
    c.self.invariant.rise (ap option_flatten (sym c.get_mut.ensures.value ∙ ap option_copied_mut c.in_err-slot.was))

pub overflow_sub-self : goal.overflow_sub-self
overflow_sub-self g c = subst (λ n. n ≤ c.self.inside.len) (sym c.one_if.ensures.value)
    (one_row g.met.K.Ord.total c.self.inside.slots c.args.key.now c.self.invariant.rise c.take-before.result
    (ap Some c.take-before.ensures.value ∙ c.in_ok-slot.ensures.value) c.is_some.result c.is_some.ensures
    c.self.inside.len c.self.invariant.counted)

pub invariant_of-self-2 : goal.invariant_of-self-2
invariant_of-self-2 g c =
    let holds = c.get_mut.follows.holds c.take-before.new.self in
    let u : UpdatesBy g.K.Ord.cmp (g.K.Ord.cmp c.args.key.now) c.self.inside.slots
    (c.get_mut.follows.lender c.take-before.new.self) (Some None) =
    subst (λ w. UpdatesBy g.K.Ord.cmp (g.K.Ord.cmp c.args.key.now) c.self.inside.slots
    (c.get_mut.follows.lender c.take-before.new.self) (Some w))
    c.take-before.ensures.after (holds.3 (ap is_some (sym c.in_ok-slot.ensures.value))) in
    record {
      rise = holds.4;
      counted = ap (λ n. c.self.inside.len - n) c.one_if.ensures.value
          ∙ counted_out g.met.K.Ord.total g.met.K.TableKey.exact c.self.inside.slots
          (c.get_mut.follows.lender c.take-before.new.self) c.args.key.now
          c.self.invariant.rise holds.4 c.take-before.result c.is_some.result c.self.inside.len u
          (ap Some c.take-before.ensures.value ∙ c.in_ok-slot.ensures.value) c.is_some.ensures c.self.invariant.counted;
    }

pub returns-clause-before : goal.returns-clause-before
returns-clause-before g c = ap option_flatten (ap Some c.take-before.ensures.value ∙ c.in_ok-slot.ensures.value)
    ∙ sym (row_at g.met.K.TableKey.is_cmp c.self.inside.slots c.args.self.now c.self.view_is c.self.invariant.rise
    g.met.K.Ord.total c.args.key.now)

pub returns-clause-rows : goal.returns-clause-rows
returns-clause-rows g c =
    let holds = c.get_mut.follows.holds c.take-before.new.self in
    rows_taken g.met.K.TableKey.is_cmp g.met.K.Ord.total g.met.K.TableKey.exact c.self.inside.slots
    (c.get_mut.follows.lender c.take-before.new.self)
    c.args.self.now c.self.view_is c.args.key.now c.self.invariant.rise holds.4
    (subst (λ w. UpdatesBy g.K.Ord.cmp (g.K.Ord.cmp c.args.key.now) c.self.inside.slots
    (c.get_mut.follows.lender c.take-before.new.self) (Some w))
    c.take-before.ensures.after (holds.3 (ap is_some (sym c.in_ok-slot.ensures.value))))
