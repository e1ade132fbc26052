-- The records of a RESOURCE statement: its images and limits, and what it carries. IOCP User's
-- Guide, RESOURCE statement; that what is carried is a record of its own, where there is any, is
-- own.
use Rattle.std.specs.Prelude.{List, [], ◌∷◌, ◌++◌, map, Result, Ok, codes}
use Rattle.iocm_types.specs.declared.fault.Fault.{Fault}
use Rattle.iocm_types.specs.Fault.{◌>>=◌}
use Rattle.iocm_statements.specs.declared.operation.Operation.TheVariants.{Resource}
use Rattle.iocm_statements.specs.Operands.{Operand}
use Rattle.iocm_model.specs.Machine.Record.{Rec, CarriedOperand, ImageRecord, LimitRecord, resource, image, limit}
use Rattle.iocm_operands.specs.Resource.{images_of}
use Rattle.iocm_operands.specs.Limits.{limits_of}
use Rattle.iocm_record_reader.specs.Values.{optional, carried_by}

-- the images that the statement gives; without PARTITION there are none
abbrev pub resource_images : Fault → List Operand → Result (List ImageRecord) Fault
resource_images fault operands = optional fault images_of [] (codes "PARTITION") operands

-- the limits; without MAXDEV there are none
abbrev pub resource_limits : Fault → List Operand → Result (List LimitRecord) Fault
resource_limits fault operands = optional fault limits_of [] (codes "MAXDEV") operands

-- a record of what is carried, where there is any
abbrev pub carried_records : List CarriedOperand → List Rec
carried_records [] = []
carried_records (c ∷ cs) = resource (c ∷ cs) ∷ []

abbrev pub resource_records : Fault → List Operand → Result (List Rec) Fault
resource_records fault operands =
    resource_images fault operands >>= λ images. resource_limits fault operands >>= λ limits.
    Ok (carried_records (carried_by Resource operands) ++ (map image images ++ map limit limits))
