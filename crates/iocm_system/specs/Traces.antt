-- The history that the trace of a closed machine tells.
use Rattle.iocm_core.specs.Told.{history_in}
use Rattle.iocm_core.specs.declared.closing.Closed.{Closed}
use Rattle.iocm_history.specs.Entry.{History}

-- its entries, with the changes that they name
abbrev pub history_of : Closed → History
history_of closed = history_in closed.trace.changes.items closed.trace.entries.items
