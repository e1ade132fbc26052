-- None of the numbers so far is; and the last limit is that of its channel subsystem and set.
use Rattle.std.proofs.Common.{◌≡◌, drop}
use Rattle.std.specs.List.{list_any}
use Rattle.iocm_types.specs.declared.key.Key.TheVariants.{Limit}
use Rattle.iocm_model.specs.Machine.Configuration.{lookup_of}
use Rattle.iocm_model.specs.Rules.EachRule.{limit_or_default}
use Rattle.iocm_device_rules.specs.Past.{is_row_past}
use Rattle.iocm_device_rules.proofs.limits_at_opening.is_any_row_past.Given as goal

abbrev pub invariant-loop-row : goal.invariant-loop-row
invariant-loop-row g l = record {
  known : l.last.limit ≡ limit_or_default l.last.set (lookup_of l.config.records (Limit l.last.css l.last.set));
  rest : list_any (is_row_past (lookup_of l.config.records)) (drop l.row-index l.rows)
      ≡ list_any (is_row_past (lookup_of l.config.records)) l.rows;
}
