-- The addresses so far, with those in the channel subsystems that are left, are all.
use Rattle.std.proofs.Common.{◌≡◌, ◌++◌, drop}
use Rattle.std.specs.List.{flat_map}
use Rattle.iocm_model.specs.Machine.Numbering.{subsystems}
use Rattle.iocm_record.specs.Meaning.{unit_of}
use Rattle.iocm_unit_rules.specs.LinkNumbers.{numbers_in}
use Rattle.iocm_unit_rules.proofs.sharing_at_opening.list_of_unit.Given as goal

abbrev pub invariant-loop-css : goal.invariant-loop-css
invariant-loop-css g l =
    l.listed.items ++ flat_map (numbers_in (unit_of l.fields)) (drop l.css-index l.css-items) ≡ l.fn.listed.items
    ++ flat_map (numbers_in (unit_of l.fields)) subsystems
