-- A list that is full, one that has the path, and any other.
use Rattle.std.proofs.Common.{nat_eq, sym, ◌∙◌, ap}
use Rattle.std.proofs.lemmas.Bool.{false≢true}
use Rattle.std.specs.List.{list_any}
use Rattle.iocm_device_rules.proofs.JoinedPaths.{wrong_full, wrong_again, right_longer}
use Rattle.iocm_device_rules.proofs.joined.with_path.Goals as goal
use Rattle.iocm_device_rules.proofs.joined.with_path.Goals.{then-is_full-via-then-is_full}
use Rattle.iocm_device_rules.proofs.joined.with_path.Goals.{then-is_full-via-else-is_full+then-has_number}

pub returns-then-is_full-clause-wrong : goal.returns-then-is_full-clause-wrong
returns-then-is_full-clause-wrong c _ = elim c.then-is_full.branch [
  | then-is_full-via-then-is_full w ↦
      wrong_full c.args.list.now c.args.path (c.is_full.ensures.full.0 w.if-is_full.true)
  | then-is_full-via-else-is_full+then-has_number w ↦ wrong_again c.args.list.now c.args.path
      (ap (list_any (nat_eq c.args.path)) (sym w.as_slice.ensures.list) ∙ sym w.has_number.ensures
      ∙ w.if-has_number.true)
]

pub returns-clause-kept : goal.returns-clause-kept
returns-clause-kept c _ = right_longer c.args.list.now c.args.path c.is_full.ensures.most
    (λ eight. false≢true (sym c.if-is_full.false ∙ c.is_full.ensures.full.1 eight))
    (ap (list_any (nat_eq c.args.path)) (sym c.as_slice.ensures.list) ∙ sym c.has_number.ensures
    ∙ c.if-has_number.false)
