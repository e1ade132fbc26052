-- The names so far, and those of the records that are left, are those of all images there.
use Rattle.iocm_model.specs.Machine.Configuration.{records_of}
use Rattle.iocm_lookup.proofs.SubsystemNames.{IsGathering}
use Rattle.iocm_lookup.proofs.subsystem_images.names_in.Given as goal

abbrev pub invariant-loop-key : goal.invariant-loop-key
invariant-loop-key g l = IsGathering l.css (records_of l.config.records) l.names.items l.key-iterator
