-- Change decks that were worked by hand.
use Rattle.std.specs.Prelude.{◌≡◌, ℕ, List, [], ◌∷◌, Ok, Err, codes}
use Rattle.iocm_types.specs.declared.key.Key.TheVariants as key
use Rattle.iocm_types.specs.declared.rule.Rule.TheVariants.{S9, S10}
use Rattle.iocm_types.specs.Fault.{at}
use Rattle.iocm_model.specs.Change.Edit.{delete}
use Rattle.iocm_statements.specs.declared.operation.Operation.{Operation}
use Rattle.iocm_statements.specs.declared.operation.Operation.TheVariants.{Id, Resource, Group, Choose, End}
use Rattle.iocm_statements.specs.declared.statement.Statement.{Statement}
use Rattle.iocm_tree.specs.Carried.{bare}
use Rattle.iocm_tree.specs.Trees.{leaf, row, group, choose, parts_from}
use Rattle.iocm_tree_reader.specs.Reading.{read_tree}

-- a statement without operands at a line
abbrev pub statement : List ℕ → Operation → ℕ → Statement
statement name operation line = record { name = name; operation = operation; operands = []; line = line }

-- a deck without statements
abbrev pub EmptyIsARow : Type 0
EmptyIsARow = read_tree [] ≡ Ok (row (parts_from []))

-- one statement
abbrev pub OneIsTheTree : Type 0
OneIsTheTree = read_tree (statement (codes "DELETE") Id 1 ∷ []) ≡ Ok (leaf (bare (delete key.Id)))

-- two statements at the top, the first a GROUP with two parts
abbrev pub NodesAreNested : Type 0
NodesAreNested =
    read_tree (statement [] Group 1
    ∷ statement (codes "DELETE") Resource 2
    ∷ statement [] Choose 3
    ∷ statement [] End 4
    ∷ statement [] End 5
    ∷ statement (codes "DELETE") Id 6 ∷ [])
    ≡ Ok (row (parts_from (group (parts_from (leaf (bare (delete key.Resource)) ∷ choose (parts_from []) ∷ []))
    ∷ leaf (bare (delete key.Id)) ∷ [])))

-- the END of a GROUP is missing, while that of the CHOOSE in it is there
abbrev pub EndIsMissing : Type 0
EndIsMissing = read_tree (statement [] Group 1 ∷ statement [] Choose 2 ∷ statement [] End 3 ∷ []) ≡ Err (at S9 1)

-- END where nothing is open comes before what follows it
abbrev pub EndIsUnmatched : Type 0
EndIsUnmatched = read_tree (statement [] End 1 ∷ statement [] Id 2 ∷ []) ≡ Err (at S9 1)

-- a statement without a verb comes before the missing END
abbrev pub VerbIsMissing : Type 0
VerbIsMissing = read_tree (statement [] Group 1 ∷ statement [] Id 2 ∷ []) ≡ Err (at S10 2)
