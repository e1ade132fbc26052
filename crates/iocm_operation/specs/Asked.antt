-- The calls of a round that its lines ask for.
use Rattle.std.specs.Prelude.{◌≡◌, ℕ, List, [], ◌∷◌, ◌++◌, map}
use Rattle.iocm_core.specs.Calls.{call_in}
use Rattle.iocm_core.specs.declared.call.Call.{Call}
use Rattle.iocm_model.specs.Change.Tree.{ChangeTree}
use Rattle.iocm_rounds.specs.declared.round.Round.{Round}
use Rattle.iocm_script.specs.declared.line.Line.{Line}
use Rattle.iocm_tree.specs.Trees.{plain_tree, tree_of}
use Rattle.iocm_tree.specs.declared.tree.Tree.{Tree}
use Rattle.std.specs.declared.alloc.Global.{Global}
use Rattle.iocm_operation.specs.Marks.{of_actor}
use Rattle.iocm_operation.specs.Saying.{calls_said}

-- the change trees, plain
abbrev pub trees_in : List (Tree Global) → List ChangeTree
trees_in ts = map (λ t. plain_tree (tree_of t)) ts

-- the calls of an actor in a round
abbrev pub calls_by : ℕ → Round → List Call
calls_by n r = of_actor n r.p.items r.q.items r.a.items r.b.items

-- those of each actor are what its lines ask for, in order
abbrev pub AreAsked : List ChangeTree → List Line → Round → Type 0
AreAsked ts ls r = (n : ℕ) → map call_in (calls_by n r) ≡ calls_said ts n ls

-- a round has one call more, that of a line
abbrev pub HasOne : List ChangeTree → Line → Round → Round → Type 0
HasOne ts l old new = (ls : List Line) → AreAsked ts ls old → AreAsked ts (ls ++ l ∷ []) new
