-- What a call asks, without its tree.
use Rattle.iocm_core.specs.declared.call.Call.{Call}
use Rattle.iocm_core.specs.declared.call.Call.TheVariants as calls
use Rattle.iocm_system.specs.declared.asked.Asked.{Asked}
use Rattle.iocm_system.specs.declared.asked.Asked.TheVariants as asks

abbrev pub asked_by : Call → Asked
asked_by (calls.Io x o) = asks.Io x o
asked_by (calls.DeviceBegin x) = asks.DeviceBegin x
asked_by (calls.DeviceEnd x) = asks.DeviceEnd x
asked_by (calls.Activate t) = asks.Activate
asked_by (calls.Begin t) = asks.Begin
asked_by calls.Advance = asks.Advance
asked_by calls.Commit = asks.Commit
asked_by calls.Abort = asks.Abort
asked_by (calls.Undo n) = asks.Undo n
asked_by (calls.Redo n) = asks.Redo n
asked_by calls.Show = asks.Show
