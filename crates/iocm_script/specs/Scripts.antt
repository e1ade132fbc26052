-- A script: the lines of its rounds.
use Rattle.std.specs.Prelude.{ℕ, Option, None, Some, List, map, filter_map, Result, Ok, ◌≤◌, count_by, ◌≡◌, ◌+◌, length}
use Rattle.std.specs.Prelude.{flat_map}
use Rattle.std.specs.List.{slice_split}
use Rattle.iocm_types.specs.declared.fault.Fault.{Fault}
use Rattle.iocm_types.specs.Fault.{◌>>=◌}
use Rattle.iocm_columns.specs.declared.card.Card.{Card}
use Rattle.iocm_columns.specs.Cards.{cards_of}
use Rattle.iocm_script.specs.declared.line.Line as code
use Rattle.iocm_script.specs.declared.line.Spoken as spoken
use Rattle.iocm_script.specs.declared.line.Spoken.TheVariants.{Line}
use Rattle.iocm_script.specs.Lines.{is_operators_said, is_sync, lines_of}

-- a script as a plain value: its rounds, each with its lines in the order of the text
abbrev pub Rounds : Type 0
Rounds = List (List code.Line)

-- the line of an actor, if it is one
abbrev pub line_said : spoken.Spoken → Option code.Line
line_said (Line l) = Some l
line_said _ = None

-- the rounds: what stands between the lines sync, without comments and blank lines
abbrev pub rounds_of : List spoken.Spoken → Rounds
rounds_of lines = map (filter_map line_said) (slice_split is_sync lines)

-- the script of these cards, or their first fault
abbrev pub script_of : ℕ → List Card → Result Rounds Fault
script_of changes cards = lines_of changes cards >>= λ lines. Ok (rounds_of lines)

-- how many of some lines are operators'
abbrev pub operator_lines : List code.Line → ℕ
operator_lines lines = count_by (λ l. is_operators_said l.said) lines

-- a round for whose lines of operators their queue has room, beside the two marks that end it
abbrev pub FitsQueue : List code.Line → Type 0
FitsQueue round = operator_lines round ≤ 14

-- the script of a text, or its first fault: L1 and L2 of all lines come before K1, K2 and K3
abbrev pub script_in : ℕ → List ℕ → Result Rounds Fault
script_in changes text = cards_of text >>= λ cards. script_of changes cards

-- the rounds have the lines of all actors, in the order of the text
abbrev pub KeepLines : Type 0
KeepLines = (lines : List spoken.Spoken) → flat_map (λ round. round) (rounds_of lines) ≡ filter_map line_said lines

-- there is one round more than lines sync
abbrev pub HaveOneRoundMore : Type 0
HaveOneRoundMore = (lines : List spoken.Spoken) → length (rounds_of lines) ≡ count_by is_sync lines + 1
