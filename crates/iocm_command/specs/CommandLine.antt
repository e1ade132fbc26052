-- What a command line means, as `clap` reads it.
use Rattle.std.specs.Prelude.{◌≡◌, ℕ, Bool, true, false, List, [], ◌∷◌, Option, Some, None, Result, Ok, Err}
use Rattle.std.specs.Prelude.{MatchResult}
use Rattle.std.specs.Prelude.{codes, is_none, is_some, ◌||◌, unwrap_or, if◌then◌else◌}
use Rattle.std.specs.Option.{option_map_or}
use Rattle.std.specs.Str.{bytes_eq}
use Rattle.std.specs.Str.Parse.{digits_value, without_leading_plus}
use Rattle.clap.specs.ValueTests.{accepts}
use Rattle.clap.specs.Walk.{texts}
use Rattle.clap.specs.Words.{Row, Text, Kinds, HasKind, IsUnsignedIn}
use Rattle.clap.specs.Words.{all_of, fault_of, first_of, found_of, rows_of, subcommand_of}
use Rattle.clap.specs.declared.error.Error.{Error}
use Rattle.clap.specs.declared.error.kind.ErrorKind.TheVariants.{ArgumentConflict, ValueValidation}
use Rattle.clap.specs.declared.parser.matches.ArgMatches.{ArgMatches}
use Rattle.iocm_lines.specs.declared.form.Form.{Form}
use Rattle.iocm_lines.specs.declared.form.Form.TheVariants as form
use Rattle.iocm_values.specs.Reading.{◌>>=◌}
use Rattle.iocm_filter.specs.Wanted.{Wanted}
use Rattle.iocm_filter.specs.Misread.{misread_of}
use Rattle.iocm_filter.specs.Words.{Asking, filters_of}
use Rattle.iocm_command.specs.Program.{heap_parser, iocm_app}
use Rattle.iocm_command.specs.declared.report.PlanScope.{PlanScope}
use Rattle.iocm_command.specs.declared.report.Report.{Report}
use Rattle.iocm_command.specs.declared.report.Report.TheVariants.{Table, WayBack, Altered, Count, Deck, Test}
use Rattle.iocm_command.specs.declared.table.Before.{Before}
use Rattle.iocm_command.specs.declared.table.Before.TheVariants.{LeftOut, Shown}
use Rattle.iocm_command.specs.declared.table.Breaches.{Breaches}
use Rattle.iocm_command.specs.declared.table.Breaches.TheVariants.{First, All}
use Rattle.iocm_command.specs.declared.table.Command.{Command}
use Rattle.iocm_command.specs.declared.table.Command.TheVariants.{Check, Show, List as ListOf, Write, Diff, Plan, Vary}
use Rattle.iocm_command.specs.declared.table.Command.TheVariants.{Apply, PlanChange, Run, Explain}
use Rattle.iocm_command.specs.declared.table.Listed.{Listed}
use Rattle.iocm_command.specs.declared.table.Listed.TheVariants.{Images, Paths, Units, Devices}
use Rattle.iocm_command.specs.declared.command.Understood.{Understood}
use Rattle.iocm_command.specs.declared.table.Varied.{Varied}
use Rattle.iocm_command.specs.declared.table.Varied.TheVariants.{Offline, Online}

-- what is asked for: files by their names, and what else a command takes
pub data Meant : Type 0 where
  check : Text → Breaches → Meant
  show : Text → Wanted → Meant
  list : Listed → Text → Wanted → Meant
  write : Text → Meant
  diff : Text → Text → Before → Meant
  plan : Text → Text → PlanScope → Wanted → Meant
  vary : Text → Varied → Wanted → Meant
  apply : Text → Text → Option ℕ → Report → Wanted → Meant
  plan_change : Text → Text → Option ℕ → PlanScope → Wanted → Meant
  run : Text → Text → List Text → Option ℕ → Meant
  explain : List Text → Meant

-- with the form in which it is printed, whether standard error is to be quiet, and whether the exit status is to say
-- that something is told
pub record Stated : Type 0 where
  pub command : Meant
  pub form : Form
  pub quiet : Bool
  pub exit_code : Bool

-- the files that it has, the deck first
abbrev pub files_of : Meant → List Text
files_of (check deck breaches) = deck ∷ []
files_of (show deck filters) = deck ∷ []
files_of (list listed deck filters) = deck ∷ []
files_of (write deck) = deck ∷ []
files_of (diff old new before) = old ∷ new ∷ []
files_of (plan old new scope filters) = old ∷ new ∷ []
files_of (vary deck to filters) = deck ∷ []
files_of (apply deck change heap report filters) = deck ∷ change ∷ []
files_of (plan_change deck change heap scope filters) = deck ∷ change ∷ []
files_of (run deck script changes heap) = deck ∷ script ∷ changes
files_of (explain rules) = []

-- what is asked for of decks that nothing changes
abbrev pub filters_of_deck : Meant → Option Wanted
filters_of_deck (show deck filters) = Some filters
filters_of_deck (list listed deck filters) = Some filters
filters_of_deck (plan old new scope filters) = Some filters
filters_of_deck (vary deck to filters) = Some filters
filters_of_deck _ = None

-- ---- what the code's values ask for

abbrev pub meant_of : Command → Meant
meant_of (Check deck breaches) = check deck.now breaches
meant_of (Show deck filters) = show deck.now filters
meant_of (ListOf listed deck filters) = list listed deck.now filters
meant_of (Write deck) = write deck.now
meant_of (Diff old new before) = diff old.now new.now before
meant_of (Plan old new scope filters) = plan old.now new.now scope filters
meant_of (Vary deck to filters) = vary deck.now to filters
meant_of (Apply deck change heap report filters) = apply deck.now change.now heap report filters
meant_of (PlanChange deck change heap scope filters) = plan_change deck.now change.now heap scope filters
meant_of (Run deck script changes heap) = run deck.now script.now (texts changes.items) heap
meant_of (Explain rules) = explain (texts rules.items)

abbrev pub understood_of : Understood → Stated
understood_of u =
    record { command = meant_of u.command; form = u.form; quiet = u.quiet; exit_code = u.exit_code }

-- ---- what is found under the arguments of a command

abbrev pub rows_in : ArgMatches → List Row
rows_in m = rows_of (found_of m)

-- all values of an option, none where it isn't given
abbrev pub values_under : Text → List Row → List Text
values_under id rows = unwrap_or (all_of id rows) []

-- a flag is given: clap makes "true" of it
abbrev pub is_given : Text → List Row → Bool
is_given flag rows = option_map_or (λ value. bytes_eq value (codes "true")) (first_of flag rows) false

-- the form in which is printed: lines of JSON by `--json`
abbrev pub form_in : List Row → Form
form_in rows = if is_given (codes "json") rows then form.Json else form.Text

-- a text that gives the size of a heap: a decimal number of 16 to 16777216
abbrev pub IsSizeText : Text → Type 0
IsSizeText text = IsUnsignedIn 16 16777216 text

-- the number that a text has
abbrev pub number_of : Text → ℕ
number_of text = digits_value 10 (without_leading_plus text)

-- the text gives this size
abbrev pub GivesSize : Text → ℕ → Type 0
GivesSize text size = IsSizeText text × (size ≡ number_of text)

-- the size of a heap, if one is given
abbrev pub size_of : Text → Option ℕ
size_of text = if accepts false heap_parser text then Some (number_of text) else None

abbrev pub heap_by : Option Text → Option (Option ℕ)
heap_by None = Some None
heap_by (Some text) = size_of text >>= λ size. Some (Some size)

abbrev pub heap_in : List Row → Option (Option ℕ)
heap_in rows = heap_by (first_of (codes "heap") rows)

-- which breaches are asked for, and whether what was there before is
abbrev pub breaches_in : List Row → Breaches
breaches_in rows = if is_given (codes "all") rows then All else First

abbrev pub before_in : List Row → Before
before_in rows = if is_given (codes "old") rows then Shown else LeftOut

-- the report that is asked for so far, or one more; not both
abbrev pub one_more : Option Report → Bool → Report → Option (Option Report)
one_more so_far false report = Some so_far
one_more None true report = Some (Some report)
one_more (Some other) true report = None

-- the report that flags ask for, of which one is given at the most; the table where none is
abbrev pub report_given : List Row → Option (Option Report)
report_given rows =
    one_more None (is_given (codes "undo") rows) WayBack >>= λ r. one_more r (is_given (codes "altered") rows) Altered
    >>= λ r. one_more r (is_given (codes "count") rows) Count >>= λ r. one_more r (is_given (codes "deck") rows) Deck
    >>= λ r. one_more r (is_given (codes "test") rows) Test

abbrev pub report_in : List Row → Option Report
report_in rows = report_given rows >>= λ r. Some (unwrap_or r Table)

abbrev pub has_report : List Row → Bool
has_report rows = is_given (codes "undo") rows || (is_given (codes "altered") rows
    || (is_given (codes "count") rows || (is_given (codes "deck") rows || is_given (codes "test") rows)))

-- how much of a plan is asked for, and whether part of one is
abbrev pub scope_in : List Row → PlanScope
scope_in rows = record { is_brief = is_given (codes "brief") rows; is_lost = is_given (codes "lost") rows }

abbrev pub has_plan_words : List Row → Bool
has_plan_words rows =
    is_given (codes "brief") rows || (is_given (codes "exit-code") rows || is_given (codes "lost") rows)

-- the words of filters, and what they ask for, if all have their forms
abbrev pub filter_words_in : List Row → Asking
filter_words_in rows = record {
  images = values_under (codes "image") rows;
  devices = values_under (codes "device") rows;
  units = values_under (codes "unit") rows;
  paths = values_under (codes "path") rows;
  online = values_under (codes "paths-online") rows;
}

abbrev pub filters_in : List Row → Option Wanted
filters_in rows = filters_of (filter_words_in rows)

-- ---- what each command asks for

abbrev pub check_in : List Row → Option Meant
check_in rows = first_of (codes "DECK") rows >>= λ deck. Some (check deck (breaches_in rows))

abbrev pub show_in : List Row → Option Meant
show_in rows = first_of (codes "DECK") rows >>= λ deck. filters_in rows >>= λ filters. Some (show deck filters)

-- what is listed
abbrev pub listed_by : Text → Option Listed
listed_by kind =
    if bytes_eq kind (codes "images") then Some Images
    else (if bytes_eq kind (codes "paths") then Some Paths
    else (if bytes_eq kind (codes "units") then Some Units
    else (if bytes_eq kind (codes "devices") then Some Devices else None)))

abbrev pub listed_in : List Row → Option Listed
listed_in rows = first_of (codes "KIND") rows >>= listed_by

abbrev pub list_in : List Row → Option Meant
list_in rows =
    listed_in rows >>= λ listed. first_of (codes "DECK") rows >>= λ deck. filters_in rows >>= λ filters.
    Some (list listed deck filters)

abbrev pub write_in : List Row → Option Meant
write_in rows = first_of (codes "DECK") rows >>= λ deck. Some (write deck)

abbrev pub diff_in : List Row → Option Meant
diff_in rows =
    first_of (codes "OLD") rows >>= λ old. first_of (codes "NEW") rows >>= λ new. Some (diff old new (before_in rows))

abbrev pub plan_in : List Row → Option Meant
plan_in rows =
    first_of (codes "OLD") rows >>= λ old. first_of (codes "NEW") rows >>= λ new. filters_in rows >>= λ filters.
    Some (plan old new (scope_in rows) filters)

-- what becomes of the paths of `vary`
abbrev pub varied_by : Text → Option Varied
varied_by state =
    if bytes_eq state (codes "offline") then Some Offline
    else (if bytes_eq state (codes "online") then Some Online else None)

abbrev pub varied_in : List Row → Option Varied
varied_in rows = first_of (codes "STATE") rows >>= varied_by

abbrev pub vary_in : List Row → Option Meant
vary_in rows =
    first_of (codes "DECK") rows >>= λ deck. varied_in rows >>= λ to. filters_in rows >>= λ filters.
    Some (vary deck to filters)

-- a plan is a report of its own, as text alone, and part of one is asked for with it alone
abbrev pub change_in : List Row → Option Meant
change_in rows = if has_plan_words rows then None
    else (first_of (codes "DECK") rows >>= λ deck. first_of (codes "CHANGE") rows >>= λ change.
    heap_in rows >>= λ heap. report_in rows >>= λ report. filters_in rows >>= λ filters.
    Some (apply deck change heap report filters))

abbrev pub plan_change_in : List Row → Option Meant
plan_change_in rows = if has_report rows || is_given (codes "json") rows then None
    else (first_of (codes "DECK") rows >>= λ deck. first_of (codes "CHANGE") rows >>= λ change.
    heap_in rows >>= λ heap. filters_in rows >>= λ filters.
    Some (plan_change deck change heap (scope_in rows) filters))

abbrev pub apply_in : List Row → Option Meant
apply_in rows = if is_given (codes "plan") rows then plan_change_in rows else change_in rows

abbrev pub run_in : List Row → Option Meant
run_in rows =
    first_of (codes "DECK") rows >>= λ deck. first_of (codes "SCRIPT") rows >>= λ script.
    heap_in rows >>= λ heap. Some (run deck script (values_under (codes "CHANGE") rows) heap)

abbrev pub explain_in : List Row → Option Meant
explain_in rows = Some (explain (values_under (codes "RULE") rows))

-- what the command of this name asks for
abbrev pub command_in : Text → List Row → Option Meant
command_in name rows =
    if bytes_eq name (codes "check") then check_in rows
    else (if bytes_eq name (codes "show") then show_in rows
    else (if bytes_eq name (codes "list") then list_in rows
    else (if bytes_eq name (codes "write") then write_in rows
    else (if bytes_eq name (codes "diff") then diff_in rows
    else (if bytes_eq name (codes "plan") then plan_in rows
    else (if bytes_eq name (codes "vary") then vary_in rows
    else (if bytes_eq name (codes "apply") then apply_in rows
    else (if bytes_eq name (codes "run") then run_in rows
    else (if bytes_eq name (codes "explain") then explain_in rows else None)))))))))

-- what the command that the words name asks for
abbrev pub stated_in : List Row → Meant → Stated
stated_in rows command = record {
  command = command;
  form = form_in rows;
  quiet = is_given (codes "quiet") rows;
  exit_code = is_given (codes "exit-code") rows;
}

abbrev pub understood_in : Option (Text × List Row) → Option Stated
understood_in None = None
understood_in (Some named) = command_in named.0 named.1 >>= λ command. Some (stated_in named.1 command)

-- a value has another form: the state of paths, what is listed, or that of a filter
abbrev pub is_misread_state : List Row → Bool
is_misread_state rows = option_map_or (λ state. is_none (varied_by state)) (first_of (codes "STATE") rows) false

abbrev pub is_misread_kind : List Row → Bool
is_misread_kind rows = option_map_or (λ kind. is_none (listed_by kind)) (first_of (codes "KIND") rows) false

abbrev pub is_misread_in : List Row → Bool
is_misread_in rows = is_misread_state rows || (is_misread_kind rows || is_some (misread_of (filter_words_in rows)))

abbrev pub is_misread : Option (Text × List Row) → Bool
is_misread named = option_map_or (λ command. is_misread_in command.1) named false

-- ---- what words mean

-- the kinds of mistakes that clap finds in the words
abbrev pub mistakes : List Text → Kinds
mistakes words = fault_of iocm_app words

-- if clap finds none and the words mean nothing: a value has another form, or there are two reports, or part of a
-- plan that isn't asked for
abbrev pub others : Bool → Kinds
others true = ValueValidation ∷ []
others false = ArgumentConflict ∷ []

abbrev pub outcome : Kinds → Option (Text × List Row) → Option Stated → Result Stated Kinds
outcome [] named (Some stated) = Ok stated
outcome [] named None = Err (others (is_misread named))
outcome (kind ∷ kinds) _ _ = Err (kind ∷ kinds)

-- what words mean, or the kinds of their mistake
abbrev pub meant_by : Kinds → Option (Text × List Row) → Result Stated Kinds
meant_by kinds named = outcome kinds named (understood_in named)

abbrev pub commanded : List Text → Result Stated Kinds
commanded words = meant_by (mistakes words) (subcommand_of iocm_app words)

-- ---- what a call answers

abbrev pub kinds_of : Result Stated Kinds → Kinds
kinds_of (Ok stated) = []
kinds_of (Err kinds) = kinds

-- just what is meant, or an error of one of these kinds; memory may run out always
abbrev pub Answers : Result Understood Error → Result Stated Kinds → Type 0
Answers result said = MatchResult result (λ u. said ≡ Ok (understood_of u)) (HasKind (kinds_of said))
