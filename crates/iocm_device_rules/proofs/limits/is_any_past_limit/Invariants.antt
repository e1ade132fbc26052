-- None of the numbers so far is; and the last limit is that of its channel subsystem and set.
use Rattle.std.proofs.Common.{◌≡◌}
use Rattle.std.specs.FinMap.{entries}
use Rattle.std.specs.List.{list_any}
use Rattle.iocm_types.specs.declared.key.Key.TheVariants.{Limit}
use Rattle.iocm_model.specs.Machine.Configuration.{lookup_of}
use Rattle.iocm_model.specs.Machine.Numbering.{cells_of}
use Rattle.iocm_model.specs.Rules.EachRule.{limit_or_default}
use Rattle.iocm_device_rules.specs.Past.{is_past}
use Rattle.iocm_device_rules.proofs.limits.is_any_past_limit.Given as goal

abbrev pub invariant-loop-cell : goal.invariant-loop-cell
invariant-loop-cell g l = record {
  known : l.last.limit ≡ limit_or_default l.last.set (lookup_of l.config.records (Limit l.last.css l.last.set));
  rest : list_any (is_past (lookup_of l.config.records)) l.cell-iterator
      ≡ list_any (is_past (lookup_of l.config.records)) (entries (cells_of l.numbers.numbers));
}
