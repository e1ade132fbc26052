-- From the key before the path on, past its keys.
use Rattle.std.proofs.Common.{◌++◌, append-nil, ap, subst, sym, ◌∙◌}
use Rattle.std.specs.List.{filter_map}
use Rattle.std.specs.Map.Iter.{deref_pair}
use Rattle.std.proofs.lemmas.Map.Iter.{rest_more}
use Rattle.iocm_lookup.proofs.KindWalks.{in_order_from}
use Rattle.iocm_lookup.specs.Entries.{AreInOrder, in_entries}
use Rattle.iocm_plan.specs.Objects.{name_online}
use Rattle.iocm_objects.proofs.Onlines.{all_from, none_left}
use Rattle.iocm_objects.proofs.online.names_at.Goals as goal

pub loop-key-init : goal.loop-key-init
loop-key-init c =
    let walked = c.into_iter-key-iterator.ensures.into_iter_gives ∙ c.walk_from-key-items.ensures.entries in
    record {
      order = subst AreInOrder (sym walked)
          (in_order_from c.before_path.result c.args.config.now.records c.has_own_keys.ensures);
      left = (λ i. c.new-names.ensures.items i
          ++ filter_map (name_online c.args.css c.args.path) (in_entries (walked i)))
          ∙ all_from c.args.css c.args.path c.before_path.result c.before_path.ensures c.args.config.now.records
          c.has_own_keys.ensures;
    }

pub returns-then-is_past : goal.returns-then-is_past
returns-then-is_past c =
    let rest = rest_more deref_pair _ _ _ (c.in-Some.key, c.in-Some.entry) c.in-Some.is c.next.ensures.steps in
    let none = ap (λ es. filter_map (name_online c.args.css c.args.path) (in_entries es)) rest
    ∙ none_left c.args.css c.args.path (c.in-Some.key.now, c.in-Some.entry.now) c.next.new.self
    (subst AreInOrder rest c.loop-key.invariant.order) (sym c.is_past.ensures ∙ c.if-is_past.true) in
    sym (append-nil c.loop-key.names.items) ∙ ap (λ names. c.loop-key.names.items ++ names) (sym none)
    ∙ c.loop-key.invariant.left
