-- From the key before the path on: one record more, one of the path, one that isn't before it, and
-- at the end.
use Rattle.std.proofs.Common.{Some, None, not, sym, ap, subst, ◌∙◌}
use Rattle.std.specs.Map.Iter.{deref_pair}
use Rattle.std.proofs.lemmas.Map.Iter.{rest_more, rest_all}
use Rattle.iocm_model.specs.Machine.Configuration.{records_of}
use Rattle.iocm_lookup.proofs.OnlineBefore.{is_so, is_behind, online_from, online_behind, is_one, is_none}
use Rattle.iocm_lookup.proofs.OnlineBefore.{told_of_online}
use Rattle.iocm_lookup.proofs.Walks.{IsLeft, left_from, passed_by, found_here, none_from, none_left}
use Rattle.iocm_lookup.proofs.onlines.is_online_before.Goals as goal

pub loop-key-init : goal.loop-key-init
loop-key-init g c = let so = is_so c.args.css c.args.path c.args.name in
    subst (IsLeft so (records_of c.args.config.now.records))
    (sym (c.into_iter-key-iterator.ensures.into_iter_gives ∙ c.walk_from-key-items.ensures.entries))
    (left_from so c.before_path.result
    (online_from c.args.css c.args.path c.args.name c.before_path.result c.before_path.ensures)
    c.args.config.now.records c.has_own_keys.ensures)

pub returns-then-not-is_before : goal.returns-then-not-is_before
returns-then-not-is_before g c = let so = is_so c.args.css c.args.path c.args.name in let records =
    records_of c.args.config.now.records in
    told_of_online c.args.css c.args.path c.args.name c.args.config.now.records None
    (none_from so (is_behind c.args.css c.args.path c.args.name) (online_behind c.args.css c.args.path c.args.name)
    records
    (c.in-Some.key.now, c.in-Some.entry.now) c.next.new.self
    (ap not (sym c.is_before.ensures ∙ c.if-not-is_before.true))
    (subst (IsLeft so records)
    (rest_more deref_pair _ _ _ (c.in-Some.key, c.in-Some.entry) c.in-Some.is c.next.ensures.steps)
    c.loop-key.invariant))

pub returns-then-is_online_on : goal.returns-then-is_online_on
returns-then-is_online_on g c = let so = is_so c.args.css c.args.path c.args.name in let records =
    records_of c.args.config.now.records in
    let left = subst (IsLeft so records)
    (rest_more deref_pair _ _ _ (c.in-Some.key, c.in-Some.entry) c.in-Some.is c.next.ensures.steps)
    c.loop-key.invariant in
    told_of_online c.args.css c.args.path c.args.name c.args.config.now.records (Some c.in-Some.key.now)
    (found_here so records (c.in-Some.key.now, c.in-Some.entry.now) c.next.new.self
    (is_one c.args.css c.args.path c.args.name c.in-Some.key.now c.in-Some.entry.now left.own.0
    (sym c.is_before.ensures ∙ c.if-not-is_before.false)
    (sym c.is_online_on.ensures ∙ c.if-is_online_on.true)) left)

pub loop-key-preserved : goal.loop-key-preserved
loop-key-preserved g c = let so = is_so c.args.css c.args.path c.args.name in let records =
    records_of c.args.config.now.records in
    passed_by so records (c.in-Some.key.now, c.in-Some.entry.now) c.next.new.self
    (is_none c.args.css c.args.path c.args.name c.in-Some.entry.now
    (sym c.is_online_on.ensures ∙ c.if-is_online_on.false))
    (subst (IsLeft so records)
    (rest_more deref_pair _ _ _ (c.in-Some.key, c.in-Some.entry) c.in-Some.is c.next.ensures.steps)
    c.loop-key.invariant)

pub returns : goal.returns
returns g c = let so = is_so c.args.css c.args.path c.args.name in let records = records_of c.args.config.now.records in
    told_of_online c.args.css c.args.path c.args.name c.args.config.now.records None
    (none_left so records (subst (IsLeft so records) (rest_all deref_pair _ _ _ c.in-None.is c.next.ensures.steps)
    c.loop-key.invariant))
