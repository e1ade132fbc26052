-- From the first key of the kind on: one record more, the first that is to be found, past the kind,
-- and at the end.
use Rattle.std.proofs.Common.{◌≡◌, ℕ, true, nat_lt, sym, subst, ◌∙◌}
use Rattle.std.specs.Map.Iter.{deref_pair}
use Rattle.std.proofs.lemmas.Map.Iter.{rest_more, rest_all}
use Rattle.iocm_model.specs.Machine.Configuration.{records_of}
use Rattle.iocm_lookup.specs.Kinds.{kind_of, IsBeforeKind}
use Rattle.iocm_lookup.proofs.Walks.{IsLeft, left_at_first, passed_by, found_here, none_past, none_left}
use Rattle.iocm_lookup.proofs.kept.first_wanted_by_named.Goals as goal

pub loop-key-init : goal.loop-key-init
loop-key-init g c = let wants = g.W.WantedByNamed.wants c.args.wanted.now c.args.config.now.records in (
  subst (IsLeft wants (records_of c.args.config.now.records))
      (sym (c.into_iter-key-iterator.ensures.into_iter_gives ∙ c.walk_from-key-items.ensures.entries))
      (left_at_first wants g.W.WantedByNamed.place c.first.result
      (subst (IsBeforeKind c.first.result) c.kind-kind.ensures c.first.ensures.first)
      (g.met.W.WantedByNamed.of_kind c.args.wanted.now c.args.config.now.records) c.args.config.now.records
      c.has_own_keys.ensures),
  λ other is. cc,
)

pub returns-then-is_past : goal.returns-then-is_past
returns-then-is_past g c = let wants = g.W.WantedByNamed.wants c.args.wanted.now c.args.config.now.records in
    none_past wants g.W.WantedByNamed.place (g.met.W.WantedByNamed.of_kind c.args.wanted.now c.args.config.now.records)
    (records_of c.args.config.now.records)
    (c.in-Some.key.now, c.in-Some.entry.now) c.next.new.self
    (subst (λ (p : ℕ). nat_lt p (kind_of c.in-Some.key.now) ≡ true) c.kind-kind.ensures
    (sym c.is_past.ensures ∙ c.if-is_past.true))
    (subst (IsLeft wants (records_of c.args.config.now.records))
    (rest_more deref_pair _ _ _ (c.in-Some.key, c.in-Some.entry) c.in-Some.is c.next.ensures.steps)
    c.loop-key.invariant.0)

pub returns-then-is_wanted : goal.returns-then-is_wanted
returns-then-is_wanted g c = let wants = g.W.WantedByNamed.wants c.args.wanted.now c.args.config.now.records in
    found_here wants (records_of c.args.config.now.records) (c.in-Some.key.now, c.in-Some.entry.now) c.next.new.self
    (sym c.is_wanted.ensures.wanted ∙ c.if-is_wanted.true)
    (subst (IsLeft wants (records_of c.args.config.now.records))
    (rest_more deref_pair _ _ _ (c.in-Some.key, c.in-Some.entry) c.in-Some.is c.next.ensures.steps)
    c.loop-key.invariant.0)

pub loop-key-preserved : goal.loop-key-preserved
loop-key-preserved g c = let wants = g.W.WantedByNamed.wants c.args.wanted.now c.args.config.now.records in (
  passed_by wants (records_of c.args.config.now.records) (c.in-Some.key.now, c.in-Some.entry.now) c.next.new.self
      (sym c.is_wanted.ensures.wanted ∙ c.if-is_wanted.false)
      (subst (IsLeft wants (records_of c.args.config.now.records))
      (rest_more deref_pair _ _ _ (c.in-Some.key, c.in-Some.entry) c.in-Some.is c.next.ensures.steps)
      c.loop-key.invariant.0),
  c.is_wanted.ensures.last,
)

pub returns : goal.returns
returns g c = let wants = g.W.WantedByNamed.wants c.args.wanted.now c.args.config.now.records in
    none_left wants (records_of c.args.config.now.records)
    (subst (IsLeft wants (records_of c.args.config.now.records))
    (rest_all deref_pair _ _ _ c.in-None.is c.next.ensures.steps) c.loop-key.invariant.0)
