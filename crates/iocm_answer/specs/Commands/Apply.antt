-- What `apply` prints of a deck and a change deck.
use Rattle.std.specs.Prelude.{⊤, ℕ, Bool, false, ◌||◌, List, ◌++◌, filter, Option, Result, Ok, Err}
use Rattle.std.specs.FinMap.{len}
use Rattle.std.specs.Option.{option_map_or}
use Rattle.iocm_types.specs.declared.sub_id.SubId.{SubId}
use Rattle.iocm_types.specs.declared.view.View.{View}
use Rattle.iocm_model.specs.Machine.Configuration.{Configuration}
use Rattle.iocm_model.specs.Operation.State.{State, opening_state}
use Rattle.iocm_model.specs.Change.Edit.{Edit}
use Rattle.iocm_model.specs.Change.InverseTree.{inverse_tree}
use Rattle.iocm_model.specs.Change.Meaning.{Outcome, Performed, meaning}
use Rattle.iocm_model.specs.Change.Runs.{effect_of}
use Rattle.iocm_filter.specs.Wanted.{Wanted, asks_nothing, wanted}
use Rattle.iocm_lines.specs.declared.form.Form.{Form}
use Rattle.iocm_lines.specs.declared.form.Form.TheVariants.{Text, Json}
use Rattle.iocm_record_lines.specs.Records.{record_lines}
use Rattle.iocm_seats.specs.declared.view_change.ViewChange.{ViewChange}
use Rattle.iocm_tree.specs.Trees.{plain_tree}
use Rattle.iocm_console.specs.declared.refusal.Refusal.{Refusal}
use Rattle.iocm_console.specs.Opening.{opened_deck}
use Rattle.iocm_console.specs.Refusal.{of_change, or_refused, ◌>>-◌}
use Rattle.iocm_console.specs.Shown.{Shown, done}
use Rattle.iocm_console.specs.Table.{table_in}
use Rattle.iocm_reports.specs.Altered.{altered_rows}
use Rattle.iocm_reports.specs.Change.{change_in}
use Rattle.iocm_reports.specs.Counts.{counted_in}
use Rattle.iocm_reports.specs.Deck.{deck_text}
use Rattle.iocm_command.specs.declared.report.Report.{Report}
use Rattle.iocm_command.specs.declared.report.Report.TheVariants.{Table, WayBack, Altered, Count, Deck, Test}
use Rattle.iocm_reports.specs.Lines.{altered_in}
use Rattle.iocm_reports.specs.WayBack.{way_back_in}
use Rattle.iocm_answer.specs.Asked.{Question}
use Rattle.iocm_tree_writer.specs.Again.{tree_in}
use Rattle.iocm_answer.specs.declared.manner.Manner.{Manner}
use Rattle.iocm_answer.specs.Manner.{refused, shown_or_refused}
use Rattle.iocm_answer.specs.Rows.{AlteredRows}

-- the machine of a deck as it is opened, or why the deck is refused
abbrev pub opened_machine : List ℕ → Result State Refusal
opened_machine deck = opened_deck deck >>- λ c. Ok (opening_state c)

-- how many subchannels edits altered
abbrev pub count_altered : List Edit → State → ℕ
count_altered es s = len (effect_of es s).lives

-- a subchannel with what is seen there, if something is, is wanted in a configuration
abbrev pub is_side_wanted : Wanted → Configuration → SubId → Option View → Bool
is_side_wanted w c x v = option_map_or (λ view. wanted w c (x, view)) v false

-- an altered subchannel is wanted as it was before, or as it is afterwards; where nothing is asked for,
-- each is
abbrev pub is_row_wanted : Wanted → Configuration → Configuration → ViewChange → Bool
is_row_wanted w before after r = asks_nothing w
    || (is_side_wanted w before r.subchannel r.before || is_side_wanted w after r.subchannel r.after)

-- of the subchannels that edits altered those that are wanted, each before and afterwards
abbrev pub wanted_rows : Wanted → List Edit → State → State → List ViewChange
wanted_rows w es s t = filter (is_row_wanted w s.config t.config) (altered_rows es s t)

-- and how many they altered
abbrev pub altered_asked_for : Wanted → List Edit → State → State → AlteredRows
altered_asked_for w es s t = record { altered = count_altered es s; rows = wanted_rows w es s t }

-- the deck afterwards, or a line for each record of it
abbrev pub filed_in : Form → Configuration → List ℕ
filed_in Text c = deck_text c
filed_in Json c = record_lines c

-- a report of edits from one state to another
abbrev pub reported : Manner → Report → Wanted → List Edit → State → State → List ℕ
reported m Table w es s t = change_in m.form (count_altered es s) ++ table_in m.form w t.config t.numbers
reported m WayBack w es s t = way_back_in m.form (inverse_tree es s)
reported m Altered w es s t = altered_in m.form (count_altered es s) (wanted_rows w es s t)
reported m Count w es s t = counted_in m.form (count_altered es s) (wanted_rows w es s t)
reported m Deck w es s t = filed_in m.form t.config
reported m Test w es s t = change_in m.form (count_altered es s)

-- a report isn't the table
abbrev pub IsNoTable : Report → Type 0
IsNoTable Table = ⊥
IsNoTable _ = ⊤

-- what is told of what was performed, or the refusal
abbrev pub told_or_refused : Manner → (Performed → List ℕ) → Outcome → Shown
told_or_refused m tell (Ok r) = done (tell r)
told_or_refused m tell (Err why) = refused m (of_change why)

-- what is printed of what a change tree means in a state: the report of the edits that were
-- performed, or the refusal
abbrev pub made : Manner → Question → State → Outcome → Shown
made m asked s o = told_or_refused m (λ r. reported m asked.report asked.wanted r.edits s r.state) o

-- what is printed of the bytes of a change deck, tried in a state: a fault of the text comes first
abbrev pub tried : Manner → Question → State → List ℕ → Shown
tried m asked s change =
    shown_or_refused m (λ t. made m asked s (meaning (plain_tree t) s)) (or_refused (tree_in change))

-- what is printed of the bytes of a deck and of a change deck: the deck's refusal comes first
abbrev pub applied : Manner → Question → List ℕ → List ℕ → Shown
applied m asked deck change = shown_or_refused m (λ s. tried m asked s change) (opened_machine deck)
