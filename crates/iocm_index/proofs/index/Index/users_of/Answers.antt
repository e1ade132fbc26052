use Rattle.std.proofs.Common.{ap, sym, subst, ◌∙◌}
use Rattle.std.specs.List.{list_any}
use Rattle.std.specs.List.Sorted.{IsStrictlySortedBy}
use Rattle.std.specs.Ordering.{eq_by_cmp}
use Rattle.std.specs.FinMap.{entries, entries_sorted}
use Rattle.iocm_types.specs.Key.{key_cmp}
use Rattle.iocm_types.specs.Naming.{naming_cmp}
use Rattle.iocm_table.specs.Slots.{rows}
use Rattle.iocm_index.specs.Namings.{users_in_front}
use Rattle.iocm_index.proofs.Front.{users_stand_in_front}
use Rattle.iocm_index.proofs.Members.{users_name_it, users_in_order}
use Rattle.iocm_index.proofs.index.Index.users_of.Goals as goal

pub returns-clause-users : goal.returns-clause-users
returns-clause-users g c = let now = rows naming_cmp c.args.self.now in
    c.over.ensures ∙ ap (users_in_front c.args.named) c.from_first-rows.ensures
    ∙ users_stand_in_front c.args.named (entries now) (entries_sorted now)

pub returns-clause-named : goal.returns-clause-named
returns-clause-named g c k =
    ap (list_any (eq_by_cmp key_cmp k)) (returns-clause-users g c)
    ∙ users_name_it c.args.named (rows naming_cmp c.args.self.now) k

pub returns-clause-rise : goal.returns-clause-rise
returns-clause-rise g c =
    subst (IsStrictlySortedBy key_cmp) (sym (returns-clause-users g c))
    (users_in_order c.args.named (rows naming_cmp c.args.self.now))
