-- The verbs of change decks: what the name field of a statement says.
use Rattle.std.specs.Prelude.{ℕ, if◌then◌else◌, Option, None, Some, List, codes}
use Rattle.std.specs.Str.{bytes_eq}
use Rattle.iocm_tree.specs.declared.verb.Verb.{Verb}
use Rattle.iocm_tree.specs.declared.verb.Verb.TheVariants.{Add, Delete, Modify}

-- the verb of this name
abbrev pub verb_named : List ℕ → Option Verb
verb_named name =
    if bytes_eq name (codes "ADD") then Some Add
    else if bytes_eq name (codes "DELETE") then Some Delete
    else if bytes_eq name (codes "MODIFY") then Some Modify
    else None
