-- There are no more devices in the rows that are told than in the runs.
use Rattle.std.proofs.Common.{◌<◌, ◌^◌, List, sym, subst, ◌∙◌}
use Rattle.std.specs.Prelude.{sum_by}
use Rattle.iocm_impact.specs.declared.row.Row.{Row}
use Rattle.iocm_impact.proofs.Counting.{few_told}
use Rattle.iocm_impact.proofs.rows.rows_of.Goals as goal

pub joined_rows-requires : goal.joined_rows-requires
joined_rows-requires c = let P : List Row → Type 0 = λ rs. sum_by (λ (r : Row). r.run.count) rs < 2 ^ 64 in
    subst P (sym (c.deref.ensures.value ∙ c.in_ok-told.ensures))
    (few_told c.args.runs.now c.args.effects.now c.requires)
