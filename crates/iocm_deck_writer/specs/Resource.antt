-- The RESOURCE statement of a configuration: its images, its limits, and what the statement
-- carries.
use Rattle.std.specs.Prelude.{ℕ, Option, List, [], ◌∷◌, ◌++◌, codes}
use Rattle.std.specs.List.{flat_map}
use Rattle.iocm_model.specs.Machine.Record.{Rec, CarriedOperand, ImageRecord, LimitRecord, resource, image, limit}
use Rattle.iocm_statements.specs.declared.operation.Operation.TheVariants.{Resource}
use Rattle.iocm_operands.specs.Limits.{limits_text}
use Rattle.iocm_operands.specs.Resource.{images_text}
use Rattle.iocm_deck_writer.specs.Statement.{Statement, valued, if_any}

-- the image of a record, if it is one; the limit; what a RESOURCE statement carries
abbrev pub images_of : Rec → List ImageRecord
images_of (image i) = i ∷ []
images_of _ = []

abbrev pub limits_of : Rec → List LimitRecord
limits_of (limit l) = l ∷ []
limits_of _ = []

abbrev pub resource_carried : Rec → List CarriedOperand
resource_carried (resource carried) = carried
resource_carried _ = []

-- the value of PARTITION for some images, if there are any; that of MAXDEV for some limits
abbrev pub images_given : List ImageRecord → Option (List ℕ)
images_given images = if_any images (images_text images)

abbrev pub limits_given : List LimitRecord → Option (List ℕ)
limits_given limits = if_any limits (limits_text limits)

-- PARTITION and MAXDEV, each left out where there is nothing of it
abbrev pub resource_operands : List ImageRecord → List LimitRecord → List CarriedOperand
resource_operands images limits =
    valued (codes "PARTITION") (images_given images) ++ valued (codes "MAXDEV") (limits_given limits)

-- the operands for some records: these two, and what a RESOURCE record carries
abbrev pub operands_given : List Rec → List CarriedOperand
operands_given records =
    resource_operands (flat_map images_of records) (flat_map limits_of records)
    ++ flat_map resource_carried records

-- the statement, which is left out where it has no operands
abbrev pub with_operands : List CarriedOperand → List Statement
with_operands [] = []
with_operands (o ∷ os) = record { operation = Resource; operands = o ∷ os } ∷ []

abbrev pub resource_statements : List Rec → List Statement
resource_statements records = with_operands (operands_given records)
