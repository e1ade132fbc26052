-- Readers of values: they give the value, or refuse it as malformed. At which line that stands is
-- for the statement to say.
use Rattle.std.specs.Prelude.{◌≡◌, Option, None, Some, Result, Ok, Err}
use Rattle.iocm_types.specs.declared.fault.Fault.{Fault}
use Rattle.iocm_types.specs.Fault.{memory}
use Rattle.iocm_statements.specs.declared.unread.Unread.{Unread}
use Rattle.iocm_statements.specs.declared.unread.Unread.TheVariants.{Memory, Malformed}

-- what a refusal says of what was to be read: there is nothing, or, where memory ran out,
-- nothing is said
abbrev pub Refuses : {Y : Type 0} → Unread → Option Y → Type 0
Refuses Memory read = Unit {0}
Refuses Malformed read = read ≡ None

-- what a reader promises: what it gives shows what was to be read, and where it is malformed there
-- was nothing to be read; only lack of memory may come instead
abbrev pub Reads : {X Y : Type 0} → (X → Y) → Result X Unread → Option Y → Type 0
Reads view (Ok x) read = read ≡ Some (view x)
Reads view (Err e) read = Refuses e read

-- the fault of a value in a statement: this one where it is malformed
abbrev pub fault_of : Fault → Unread → Fault
fault_of malformed Memory = memory
fault_of malformed Malformed = malformed

-- what was read, with the fault where nothing was
abbrev pub or_malformed : {X : Type 0} → Fault → Result X Unread → Result X Fault
or_malformed malformed (Ok x) = Ok x
or_malformed malformed (Err e) = Err (fault_of malformed e)
