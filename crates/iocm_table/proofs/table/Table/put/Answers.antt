use Rattle.std.proofs.Common.{◌≡◌, ◌+◌, true, false, Some, sym, ap, subst, ◌∙◌, arith, is_some}
use Rattle.std.specs.Option.{option_copied_mut, option_flatten}
use Rattle.std.specs.BTreeMap.{UpdatesBy, get_by}
use Rattle.iocm_table.proofs.Lookups.{row_at}
use Rattle.iocm_table.proofs.Writing.{present_short, place_found, counted_in, rows_put}
use Rattle.iocm_table.proofs.table.Table.put.Goals as goal

pub unreachable-requires : goal.unreachable-requires
unreachable-requires g c =
    let found : is_some (get_by (g.K.Ord.cmp c.args.key.now) c.self.inside.slots) ≡ true =
    place_found g.met.K.TableKey.is_cmp c.self.inside.slots c.args.self.now c.self.view_is c.args.key.now c.requires in
    let none : is_some (get_by (g.K.Ord.cmp c.args.key.now) c.self.inside.slots) ≡ false =
    ap is_some (sym c.get_mut.ensures.value ∙ ap option_copied_mut c.in_default.is) in
    let bad : false ≡ true = sym none ∙ found in cc

pub overflow_add-self : goal.overflow_add-self
overflow_add-self g c = let short = present_short c.self.inside.slots.entries in omega (arith, c.one_if.ensures.small)

pub invariant_of-self : goal.invariant_of-self
invariant_of-self g c =
    let holds = c.get_mut.follows.holds c.replace-before.new.self in
    let u : UpdatesBy g.K.Ord.cmp (g.K.Ord.cmp c.args.key.now) c.self.inside.slots
    (c.get_mut.follows.lender c.replace-before.new.self) (Some (Some c.args.row)) =
    subst (λ w. UpdatesBy g.K.Ord.cmp (g.K.Ord.cmp c.args.key.now) c.self.inside.slots
    (c.get_mut.follows.lender c.replace-before.new.self) (Some w))
    c.replace-before.ensures.after (holds.3 (ap is_some (sym c.in-Some.ensures.value))) in
    record {
      rise = holds.4;
      counted = ap (λ n. c.self.inside.len + n) c.one_if.ensures.value
          ∙ counted_in g.met.K.Ord.total g.met.K.TableKey.exact c.self.inside.slots
          (c.get_mut.follows.lender c.replace-before.new.self) c.args.key.now
          c.self.invariant.rise holds.4 c.args.row c.replace-before.result c.is_none.result c.self.inside.len u
          (ap Some c.replace-before.ensures.value ∙ c.in-Some.ensures.value) c.is_none.ensures c.self.invariant.counted;
    }

pub returns-clause-before : goal.returns-clause-before
returns-clause-before g c = ap option_flatten (ap Some c.replace-before.ensures.value ∙ c.in-Some.ensures.value)
    ∙ sym (row_at g.met.K.TableKey.is_cmp c.self.inside.slots c.args.self.now c.self.view_is c.self.invariant.rise
    g.met.K.Ord.total c.args.key.now)

pub returns-clause-rows : goal.returns-clause-rows
returns-clause-rows g c =
    let holds = c.get_mut.follows.holds c.replace-before.new.self in
    rows_put g.met.K.TableKey.is_cmp g.met.K.Ord.total g.met.K.TableKey.exact c.self.inside.slots
    (c.get_mut.follows.lender c.replace-before.new.self)
    c.args.self.now c.self.view_is c.args.key.now c.self.invariant.rise holds.4 c.args.row
    (subst (λ w. UpdatesBy g.K.Ord.cmp (g.K.Ord.cmp c.args.key.now) c.self.inside.slots
    (c.get_mut.follows.lender c.replace-before.new.self) (Some w))
    c.replace-before.ensures.after (holds.3 (ap is_some (sym c.in-Some.ensures.value))))
