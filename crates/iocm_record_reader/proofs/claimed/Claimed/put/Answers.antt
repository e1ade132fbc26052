-- The set goes by the derived order of keys, which is the order of keys.
use Rattle.std.proofs.Common.{◌≡◌, not, true, cond, subst}
use Rattle.std.specs.BTreeSet.{contains}
use Rattle.std.specs.Ordering.{is_eq}
use Rattle.std.specs.declared.cmp.Ordering.{Ordering}
use Rattle.iocm_types.specs.declared.key.Key.{Key}
use Rattle.iocm_types.specs.KeyOrder.{derived_cmp}
use Rattle.iocm_record_reader.proofs.claimed.Claimed.put.Goals as goal

pub returns-clause-added : goal.returns-clause-added
returns-clause-added c =
    subst (λ (f : Key → Key → Ordering). c.in_ok-insert.field-0 ≡ not (contains f c.args.self.now.keys c.args.key))
    derived_cmp c.in_ok-insert.ensures.added

pub returns-clause-keys : goal.returns-clause-keys
returns-clause-keys c =
    subst (λ (f : Key → Key → Ordering). (q : Key)
    → contains f c.insert.new.self q ≡ cond (is_eq (f c.args.key q)) true (contains f c.args.self.now.keys q))
    derived_cmp (λ q. c.in_ok-insert.ensures.updates.0 q)
