use Rattle.std.proofs.Common.{◌≡◌, drop, map}
use Rattle.std.specs.List.{list_any}
use Rattle.iocm_values.specs.Value.{seen}
use Rattle.iocm_operands.specs.ChpidPartition.{is_list_form}
use Rattle.iocm_operands.proofs.chpid_partition.has_list_form.Given as goal

abbrev pub invariant-loop-item : goal.invariant-loop-item
invariant-loop-item l = list_any is_list_form (map seen (drop l.item-index l.items))
    ≡ list_any is_list_form (map seen l.items)
