-- The table has what the records so far tell, and those that are left tell the rest.
use Rattle.iocm_types.specs.declared.key.Key.TheVariants.{Path}
use Rattle.iocm_model.specs.Machine.Configuration.{lookup_of}
use Rattle.iocm_model.specs.Machine.Sight.{reaches, record_lists}
use Rattle.iocm_derive.proofs.Tables.{IsFilling}
use Rattle.iocm_derive.proofs.path_tables.reached_paths.Given as goal

abbrev pub invariant-loop-key : goal.invariant-loop-key
invariant-loop-key g l =
    IsFilling (Path l.css 0) (Path l.css) (record_lists l.name) (reaches (lookup_of l.config.records) l.css l.name)
    l.reached l.key-iterator
