-- Words that name a command and its files plainly, and what they mean.
use Rattle.std.specs.Prelude.{◌≡◌, ◌==◌, ℕ, false, List, [], ◌∷◌, ◌++◌, Option, Some, None, IfSome, Ok, codes}
use Rattle.std.specs.Prelude.{option_map}
use Rattle.std.specs.List.{All}
use Rattle.clap.specs.Words.{Text}
use Rattle.iocm_filter.specs.Wanted.{nothing}
use Rattle.iocm_lines.specs.declared.form.Form.TheVariants as form
use Rattle.iocm_command.specs.CommandLine.{Meant, Stated, apply, check, commanded, number_of, run, show, write}
use Rattle.iocm_command.specs.CommandLine.{IsSizeText}
use Rattle.iocm_command.specs.declared.report.Report.{Report}
use Rattle.iocm_command.specs.declared.report.Report.TheVariants.{Table, WayBack}
use Rattle.iocm_command.specs.declared.table.Breaches.TheVariants.{First}

-- a name that doesn't begin with a hyphen
abbrev pub IsPlainName : Text → Type 0
IsPlainName name = (first : ℕ) × (rest : List ℕ) × (name ≡ first ∷ rest) × ((first == 45) ≡ false)

-- the command, printed as text; standard error isn't quiet, and the exit status says nothing of what is told
abbrev pub plainly : Meant → Stated
plainly command = record { command = command; form = form.Text; quiet = false; exit_code = false }

-- the words mean this command, plainly
abbrev pub Mean : List Text → Meant → Type 0
Mean words command = commanded words ≡ Ok (plainly command)

-- `check`, `show` and `write` with the name of a deck
abbrev pub DecksAreMeant : Type 0
DecksAreMeant = (program deck : Text) → IsPlainName deck
    → Mean (program ∷ codes "check" ∷ deck ∷ []) (check deck First)
    × Mean (program ∷ codes "show" ∷ deck ∷ []) (show deck nothing)
    × Mean (program ∷ codes "write" ∷ deck ∷ []) (write deck)

-- the option with the text of a heap's size, if there is one, and the size
abbrev pub heap_words : Option Text → List Text
heap_words None = []
heap_words (Some size) = codes "--heap" ∷ size ∷ []

abbrev pub heap_meant : Option Text → Option ℕ
heap_meant = option_map number_of

-- `apply` with these files and options means this size and this report
abbrev pub MeanApply : Text → Text → Text → List Text → Option ℕ → Report → Type 0
MeanApply program deck change options heap report =
    Mean (program ∷ codes "apply" ∷ deck ∷ change ∷ options) (apply deck change heap report nothing)

-- with the size of a heap or without one, and with `--undo` behind it, before it, or not
abbrev pub MeansApply : Text → Text → Text → Option Text → Type 0
MeansApply program deck change size = MeanApply program deck change (heap_words size) (heap_meant size) Table
    × MeanApply program deck change (heap_words size ++ codes "--undo" ∷ []) (heap_meant size) WayBack
    × MeanApply program deck change (codes "--undo" ∷ heap_words size) (heap_meant size) WayBack

-- `apply` with the names of a deck and of a change deck, and such options
abbrev pub AppliesAreMeant : Type 0
AppliesAreMeant = (program deck change : Text) (size : Option Text) → IsPlainName deck → IsPlainName change
    → IfSome size IsSizeText → MeansApply program deck change size

-- `run` with the names of a deck, of a script and of change decks, with the size of a heap or without one
abbrev pub RunsAreMeant : Type 0
RunsAreMeant = (program deck script : Text) (changes : List Text) (size : Option Text)
    → IsPlainName deck → IsPlainName script → All IsPlainName changes → IfSome size IsSizeText
    → Mean (program ∷ codes "run" ∷ deck ∷ script ∷ (changes ++ heap_words size))
    (run deck script changes (heap_meant size))
