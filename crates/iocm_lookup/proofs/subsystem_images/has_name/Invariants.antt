-- The name is not among those so far.
use Rattle.std.proofs.Common.{◌≡◌, drop}
use Rattle.std.specs.List.{list_any}
use Rattle.iocm_lookup.specs.Images.{is_named}
use Rattle.iocm_lookup.proofs.subsystem_images.has_name.Given as goal

abbrev pub invariant-loop-own : goal.invariant-loop-own
invariant-loop-own l = list_any (is_named l.name) (drop l.own-index l.names) ≡ list_any (is_named l.name) l.names
