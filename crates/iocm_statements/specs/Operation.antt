-- The operations by their names.
use Rattle.std.specs.Prelude.{◌≡◌, ℕ, List, if◌then◌else◌, Option, None, Some, codes}
use Rattle.std.specs.Str.{bytes_eq}
use Rattle.iocm_statements.specs.declared.operation.Operation.{Operation}
use Rattle.iocm_statements.specs.declared.operation.Operation.TheVariants.{Id, Resource, Chpid, Cntlunit}
use Rattle.iocm_statements.specs.declared.operation.Operation.TheVariants.{Iodevice, Online, Row}
use Rattle.iocm_statements.specs.declared.operation.Operation.TheVariants.{Group, Choose, End}

-- the operation of this name, if there is one
abbrev pub operation_named : List ℕ → Option Operation
operation_named name =
    if bytes_eq name (codes "ID") then Some Id
    else if bytes_eq name (codes "RESOURCE") then Some Resource
    else if bytes_eq name (codes "CHPID") then Some Chpid
    else if bytes_eq name (codes "CNTLUNIT") then Some Cntlunit
    else if bytes_eq name (codes "IODEVICE") then Some Iodevice
    else if bytes_eq name (codes "ONLINE") then Some Online
    else if bytes_eq name (codes "ROW") then Some Row
    else if bytes_eq name (codes "GROUP") then Some Group
    else if bytes_eq name (codes "CHOOSE") then Some Choose
    else if bytes_eq name (codes "END") then Some End
    else None

-- the name of an operation
abbrev pub operation_name : Operation → List ℕ
operation_name Id = codes "ID"
operation_name Resource = codes "RESOURCE"
operation_name Chpid = codes "CHPID"
operation_name Cntlunit = codes "CNTLUNIT"
operation_name Iodevice = codes "IODEVICE"
operation_name Online = codes "ONLINE"
operation_name Row = codes "ROW"
operation_name Group = codes "GROUP"
operation_name Choose = codes "CHOOSE"
operation_name End = codes "END"

-- an operation is found by its name
abbrev pub IsNamedByItsName : Type 0
IsNamedByItsName = (operation : Operation) → operation_named (operation_name operation) ≡ Some operation
