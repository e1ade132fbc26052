-- What the lines of a script ask of a machine.
use Rattle.std.specs.Prelude.{ℕ, ◌-◌, ◌==◌, List, map, filter}
use Rattle.std.specs.List.{slice_get}
use Rattle.std.specs.Option.{option_map_or}
use Rattle.iocm_model.specs.Change.Tree.{ChangeTree, row, none}
use Rattle.iocm_model.specs.Operation.Step.{order, device_begin, device_end}
use Rattle.iocm_history.specs.Entry as history
use Rattle.iocm_script.specs.declared.line.Line.{Line}
use Rattle.iocm_script.specs.declared.said.ImageCommand.{ImageCommand}
use Rattle.iocm_script.specs.declared.said.ImageCommand.TheVariants as image
use Rattle.iocm_script.specs.declared.said.ImageThread.TheVariants as images
use Rattle.iocm_script.specs.declared.said.OperatorCommand.{OperatorCommand}
use Rattle.iocm_script.specs.declared.said.OperatorCommand.TheVariants as operator
use Rattle.iocm_script.specs.declared.said.OperatorThread.TheVariants as operators
use Rattle.iocm_script.specs.declared.said.Said.{Said}
use Rattle.iocm_script.specs.declared.said.Said.TheVariants.{Image, Operator}

-- the actors by number: the operators P and Q, then the images A and B
abbrev pub actor_of : Said → ℕ
actor_of (Operator operators.P c) = 0
actor_of (Operator operators.Q c) = 1
actor_of (Image images.A c) = 2
actor_of (Image images.B c) = 3

-- the change tree of a number, which counts from 1; where there is none, a Row of nothing (K2
-- refuses a script that names such a one)
abbrev pub tree_at : List ChangeTree → ℕ → ChangeTree
tree_at ts k = option_map_or (λ t. t) (slice_get ts (k - 1)) (row none)

-- what an image asks, and an operator
abbrev pub asked_by_image : ImageCommand → history.Call
asked_by_image (image.Io s o) = history.at s (order o)
asked_by_image (image.DeviceBegin s) = history.at s device_begin
asked_by_image (image.DeviceEnd s) = history.at s device_end

abbrev pub asked_by_operator : List ChangeTree → OperatorCommand → history.Call
asked_by_operator ts (operator.Activate k) = history.activate (tree_at ts k)
asked_by_operator ts (operator.Begin k) = history.begin (tree_at ts k)
asked_by_operator ts operator.Advance = history.advance
asked_by_operator ts operator.Commit = history.commit
asked_by_operator ts operator.Abort = history.abort
asked_by_operator ts (operator.Undo n) = history.undo n
asked_by_operator ts (operator.Redo n) = history.redo n
asked_by_operator ts operator.Show = history.show

-- the call that a line asks for, where these are the trees of the change decks
abbrev pub call_said : List ChangeTree → Said → history.Call
call_said ts (Image thread c) = asked_by_image c
call_said ts (Operator thread c) = asked_by_operator ts c

-- the lines of an actor, and the calls that they ask for
abbrev pub lines_of : ℕ → List Line → List Line
lines_of n ls = filter (λ (l : Line). actor_of l.said == n) ls

abbrev pub calls_said : List ChangeTree → ℕ → List Line → List history.Call
calls_said ts n ls = map (λ (l : Line). call_said ts l.said) (lines_of n ls)
