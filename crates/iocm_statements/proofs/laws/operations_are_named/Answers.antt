use Rattle.std.proofs.Common.{refl}
use Rattle.iocm_statements.specs.declared.operation.Operation.TheVariants.{Id, Resource, Chpid, Cntlunit, Iodevice}
use Rattle.iocm_statements.specs.declared.operation.Operation.TheVariants.{Online, Row, Group, Choose, End}
use Rattle.iocm_statements.specs.Operation.{IsNamedByItsName}
use Rattle.iocm_statements.proofs.laws.operations_are_named.Goals as goal

named : IsNamedByItsName
named Id = refl
named Resource = refl
named Chpid = refl
named Cntlunit = refl
named Iodevice = refl
named Online = refl
named Row = refl
named Group = refl
named Choose = refl
named End = refl

pub returns : goal.returns
returns c = named
