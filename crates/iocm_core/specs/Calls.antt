-- Calls in memory, as the history's.
use Rattle.iocm_model.specs.Operation.Step.{order, device_begin, device_end}
use Rattle.iocm_history.specs.Entry as history
use Rattle.iocm_tree.specs.Trees.{plain_tree, tree_of}
use Rattle.iocm_core.specs.declared.call.Call.{Call}
use Rattle.iocm_core.specs.declared.call.Call.TheVariants as calls

-- the history's call
abbrev pub call_in : Call → history.Call
call_in (calls.Io x o) = history.at x (order o)
call_in (calls.DeviceBegin x) = history.at x device_begin
call_in (calls.DeviceEnd x) = history.at x device_end
call_in (calls.Activate t) = history.activate (plain_tree (tree_of t.value))
call_in (calls.Begin t) = history.begin (plain_tree (tree_of t.value))
call_in calls.Advance = history.advance
call_in calls.Commit = history.commit
call_in calls.Abort = history.abort
call_in (calls.Undo n) = history.undo n
call_in (calls.Redo n) = history.redo n
call_in calls.Show = history.show
