-- The table of commands: the word of each. Those of images are first, then those of operators.
use Rattle.std.specs.Prelude.{ℕ, Option, List, [], ◌∷◌, codes}
use Rattle.std.specs.Map.{lookup}
use Rattle.std.specs.Str.{bytes_eq}
use Rattle.iocm_script.specs.declared.verb.Row as code
use Rattle.iocm_script.specs.declared.verb.Verb.{Verb}
use Rattle.iocm_script.specs.declared.verb.Verb.TheVariants.{Start, Halt, Clear, Cancel, Test, Store, Modify, Active}
use Rattle.iocm_script.specs.declared.verb.Verb.TheVariants.{End, Activate, Begin, Advance, Commit, Abort, Undo, Redo}
use Rattle.iocm_script.specs.declared.verb.Verb.TheVariants.{Show}

-- a row of the code, wherever its bytes lie
abbrev pub seen_row : code.Row → List ℕ × Verb
seen_row r = (r.word.now, r.verb)

-- the word of each command
abbrev pub verbs : List (List ℕ × Verb)
verbs =
    (codes "start", Start)
    ∷ (codes "halt", Halt)
    ∷ (codes "clear", Clear)
    ∷ (codes "cancel", Cancel)
    ∷ (codes "test", Test)
    ∷ (codes "store", Store)
    ∷ (codes "modify", Modify)
    ∷ (codes "active", Active)
    ∷ (codes "end", End)
    ∷ (codes "activate", Activate)
    ∷ (codes "begin", Begin)
    ∷ (codes "advance", Advance)
    ∷ (codes "commit", Commit)
    ∷ (codes "abort", Abort)
    ∷ (codes "undo", Undo)
    ∷ (codes "redo", Redo)
    ∷ (codes "show", Show)
    ∷ []

-- the command of a word, if it has one
abbrev pub verb_named : List ℕ → Option Verb
verb_named word = lookup (bytes_eq word) verbs
