-- The table has what the records so far tell, and those that are left tell the rest.
use Rattle.std.proofs.Common.{is_some}
use Rattle.iocm_types.specs.declared.key.Key.TheVariants.{Online}
use Rattle.iocm_model.specs.Machine.Configuration.{lookup_of}
use Rattle.iocm_model.specs.Machine.Mask.{is_online}
use Rattle.iocm_derive.proofs.Tables.{IsFilling}
use Rattle.iocm_derive.proofs.path_tables.online_paths.Given as goal

abbrev pub invariant-loop-key : goal.invariant-loop-key
invariant-loop-key g l =
    IsFilling (Online l.css 0 l.name) (λ n. Online l.css n l.name) is_some
    (is_online (lookup_of l.config.records) l.css l.name) l.online l.key-iterator
