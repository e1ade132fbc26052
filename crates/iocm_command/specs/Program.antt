-- The commands of the program and what they take, as `clap` reads them.
use Rattle.std.specs.Prelude.{Bool, true, List, [], ◌∷◌, Some, codes, fold, map}
use Rattle.clap.specs.Words.{App, Rule, Text, new_app, new_rule, with_rule, with_subcommand}
use Rattle.clap.specs.declared.builder.action.ArgAction.TheVariants.{Append, SetTrue}
use Rattle.clap.specs.declared.builder.command.Command as clap
use Rattle.clap.specs.declared.builder.command.Command.TheViews.{out-Command}
use Rattle.clap.specs.declared.builder.value_parser.ValueParser.{ValueParser}
use Rattle.clap.specs.declared.builder.value_parser.ValueParser.TheVariants.{Unsigned}
use Rattle.iocm_command.specs.declared.argument.Argument.{Argument}
use Rattle.iocm_command.specs.declared.argument.Form.{Form}
use Rattle.iocm_command.specs.declared.argument.Form.TheVariants.{File, Word, Words, Paths, Heap, Flag, Letter, Filter}
use Rattle.iocm_command.specs.declared.table.Row.{Row}

-- the size of a heap in bytes: 16 to 16777216
unfoldable pub heap_parser : ValueParser
heap_parser = Unsigned 16 16777216

-- what `clap` is told of an argument: a file, a word and paths are required; words, paths and a filter may
-- be given several times
abbrev pub rule_by : Text → Form → Rule
rule_by name File = record (new_rule name) { required = true }
rule_by name Word = record (new_rule name) { required = true }
rule_by name Words = record (new_rule name) { action = Some Append }
rule_by name Paths = record (new_rule name) { value_names = 1; action = Some Append; required = true }
rule_by name Heap = record (new_rule name) {
  long = Some name;
  value_names = 1;
  parser = Some heap_parser;
}
rule_by name Flag = record (new_rule name) { long = Some name; action = Some SetTrue }
rule_by name (Letter letter) = record (new_rule name) { long = Some name; short = Some letter; action = Some SetTrue }
rule_by name Filter = record (new_rule name) { long = Some name; value_names = 1; action = Some Append }

-- an argument of the code's table: its name, and what it is; a command: its name, and its arguments
abbrev pub seen_argument : Argument → Text × Form
seen_argument a = (a.name.now, a.form)

abbrev pub seen_row : Row → Text × List (Text × Form)
seen_row row = (row.name.now, map seen_argument row.arguments.now)

-- the arguments that more than one command has
abbrev pub quiet : Text × Form
quiet = (codes "quiet", Letter 113)

abbrev pub json : Text × Form
json = (codes "json", Flag)

abbrev pub deck : Text × Form
deck = (codes "DECK", File)

abbrev pub heap : Text × Form
heap = (codes "heap", Heap)

abbrev pub filters : List (Text × Form)
filters = (codes "image", Filter) ∷ (codes "device", Filter) ∷ (codes "unit", Filter) ∷ (codes "path", Filter)
    ∷ (codes "paths-online", Filter) ∷ []

-- each command, with its arguments
abbrev pub check_row : Text × List (Text × Form)
check_row = (codes "check", quiet ∷ json ∷ deck ∷ (codes "all", Flag) ∷ [])

abbrev pub show_row : Text × List (Text × Form)
show_row = (codes "show", quiet ∷ json ∷ deck ∷ filters)

abbrev pub list_row : Text × List (Text × Form)
list_row = (codes "list", quiet ∷ json ∷ (codes "KIND", Word) ∷ deck ∷ filters)

abbrev pub write_row : Text × List (Text × Form)
write_row = (codes "write", quiet ∷ json ∷ deck ∷ [])

abbrev pub diff_row : Text × List (Text × Form)
diff_row = (
  codes "diff",
  quiet ∷ json ∷ (codes "OLD", File) ∷ (codes "NEW", File) ∷ (codes "old", Flag)
      ∷ (codes "exit-code", Flag) ∷ [],
)

abbrev pub plan_row : Text × List (Text × Form)
plan_row = (
  codes "plan",
  quiet ∷ (codes "OLD", File) ∷ (codes "NEW", File) ∷ (codes "brief", Flag) ∷ (codes "exit-code", Flag)
      ∷ (codes "lost", Flag) ∷ (codes "image", Filter) ∷ (codes "device", Filter) ∷ (codes "unit", Filter)
      ∷ (codes "path", Filter) ∷ [],
)

abbrev pub vary_row : Text × List (Text × Form)
vary_row = (
  codes "vary",
  quiet ∷ deck ∷ (codes "STATE", Word) ∷ (codes "path", Paths) ∷ (codes "image", Filter) ∷ [],
)

abbrev pub apply_row : Text × List (Text × Form)
apply_row = (
  codes "apply",
  quiet ∷ json ∷ deck ∷ (codes "CHANGE", File) ∷ heap ∷ (codes "undo", Flag) ∷ (codes "altered", Flag)
      ∷ (codes "count", Flag) ∷ (codes "deck", Flag) ∷ (codes "test", Flag) ∷ (codes "plan", Flag)
      ∷ (codes "brief", Flag) ∷ (codes "exit-code", Flag) ∷ (codes "lost", Flag) ∷ filters,
)

abbrev pub run_row : Text × List (Text × Form)
run_row = (codes "run", quiet ∷ json ∷ deck ∷ (codes "SCRIPT", File) ∷ (codes "CHANGE", Words) ∷ heap ∷ [])

abbrev pub explain_row : Text × List (Text × Form)
explain_row = (codes "explain", (codes "RULE", Words) ∷ [])

-- of decks alone, of changes, and others
abbrev pub of_decks : List (Text × List (Text × Form))
of_decks = check_row ∷ show_row ∷ list_row ∷ write_row ∷ []

abbrev pub of_changes : List (Text × List (Text × Form))
of_changes = diff_row ∷ plan_row ∷ vary_row ∷ apply_row ∷ []

abbrev pub others : List (Text × List (Text × Form))
others = run_row ∷ explain_row ∷ []

-- a command with one more argument, and a command of the table
abbrev pub with_argument : App → Text × Form → App
with_argument app a = with_rule app (rule_by a.0 a.1)

abbrev pub command_app : Text × List (Text × Form) → App
command_app c = fold with_argument (new_app c.0) c.1

-- whether an argument of the command is one of all commands below it too
abbrev pub has_globals : clap.Command → Bool
has_globals c = (out-Command c).has_globals

-- the program without its commands: it tells its version, and one of the commands is required
abbrev pub bare_app : App
bare_app = record (new_app (codes "iocm")) {
  top = record (new_app (codes "iocm")).top { subcommand_required = true; has_version = true };
}

-- the program with one more command, and with all
abbrev pub with_command : App → Text × List (Text × Form) → App
with_command app c = with_subcommand app (command_app c).top

abbrev pub iocm_app : App
iocm_app = fold with_command (fold with_command (fold with_command bare_app of_decks) of_changes) others
