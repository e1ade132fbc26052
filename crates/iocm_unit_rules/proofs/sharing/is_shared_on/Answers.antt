-- At the first user, at one that tells, at one that doesn't, and behind the last one.
use Rattle.std.proofs.Common.{sym, ap, subst, ◌∙◌}
use Rattle.std.specs.List.{list_any}
use Rattle.std.specs.List.Sorted.{IsStrictlySortedBy}
use Rattle.std.proofs.lemmas.Map.Iter.{rest_more}
use Rattle.iocm_types.specs.declared.key.Key.{Key}
use Rattle.iocm_types.specs.declared.key.Key.TheVariants.{Path}
use Rattle.iocm_types.specs.declared.named.Named.TheVariants.{Record}
use Rattle.iocm_types.specs.Key.{key_cmp}
use Rattle.iocm_types.specs.Naming.{naming_cmp}
use Rattle.iocm_table.specs.Slots.{rows}
use Rattle.iocm_index.proofs.Members.{users_in_order}
use Rattle.iocm_model.specs.Machine.Configuration.{lookup_of}
use Rattle.iocm_record.specs.Meaning.{unit_of}
use Rattle.iocm_lookup.proofs.UserWalks.{any_more, any_none}
use Rattle.iocm_unit_rules.specs.Sharing.{clashes_before}
use Rattle.iocm_unit_rules.proofs.Sharers.{told_is, untold, later_order}
use Rattle.iocm_unit_rules.proofs.sharing.is_shared_on.Goals as goal

pub loop-user-init : goal.loop-user-init
loop-user-init g c =
    let same = c.into_iter-user-iterator.ensures.into_iter_gives ∙ c.users_of-user-items.ensures.users in record {
      rest = ap (list_any (clashes_before (lookup_of c.args.config.now.records) (unit_of c.args.fields.now)
          c.args.path)) same;
      order = subst (IsStrictlySortedBy key_cmp) (sym same)
          (users_in_order (Record (Path c.args.path.css c.args.path.path)) (rows naming_cmp c.args.index.now));
    }

pub returns-in-Some-told_by : goal.returns-in-Some-told_by
returns-in-Some-told_by g c =
    let left = rest_more (λ (q : Key). q) _ _ _ c.in-Some.user c.in-Some.is c.next.ensures.steps in
    sym (told_is (lookup_of c.args.config.now.records) (unit_of c.args.fields.now) c.args.path c.in-Some.user
    c.next.new.self c.in-Some-told_by.answer
    (sym c.told_by.ensures ∙ c.in-Some-told_by.is)
    (subst (IsStrictlySortedBy key_cmp) left c.loop-user.invariant.order))
    ∙ ap (list_any (clashes_before (lookup_of c.args.config.now.records) (unit_of c.args.fields.now) c.args.path))
    (sym left)
    ∙ c.loop-user.invariant.rest

pub loop-user-preserved : goal.loop-user-preserved
loop-user-preserved g c = record {
  rest = any_more (clashes_before (lookup_of c.args.config.now.records) (unit_of c.args.fields.now) c.args.path)
      c.loop-user.user-iterator c.next.new.self c.next.result
      c.in-Some.user c.in-Some.is c.next.ensures.steps
      (untold (lookup_of c.args.config.now.records) (unit_of c.args.fields.now) c.args.path c.in-Some.user
      (sym c.told_by.ensures ∙ c.in_default.is))
      ∙ c.loop-user.invariant.rest;
  order = later_order c.in-Some.user c.next.new.self (subst (IsStrictlySortedBy key_cmp)
      (rest_more (λ (q : Key). q) _ _ _ c.in-Some.user c.in-Some.is c.next.ensures.steps) c.loop-user.invariant.order);
}

pub returns : goal.returns
returns g c =
    sym (sym c.loop-user.invariant.rest
    ∙ any_none (clashes_before (lookup_of c.args.config.now.records) (unit_of c.args.fields.now) c.args.path)
    c.loop-user.user-iterator c.next.new.self c.next.result
    c.in-None.is c.next.ensures.steps)
