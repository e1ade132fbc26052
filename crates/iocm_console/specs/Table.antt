-- The table of a configuration's subchannels, of those that are wanted: text with a heading, or lines of JSON.
use Rattle.std.specs.Prelude.{ℕ, List, [], ◌∷◌, ◌++◌, filter, Option, None, Some}
use Rattle.std.specs.FinMap.{get}
use Rattle.std.specs.List.{flat_map}
use Rattle.std.specs.Option.{option_and_then}
use Rattle.iocm_types.specs.declared.image.Image as images
use Rattle.iocm_types.specs.declared.key.Key.TheVariants as key
use Rattle.iocm_types.specs.declared.sub_id.SubId.{SubId}
use Rattle.iocm_types.specs.declared.view.View.{View}
use Rattle.iocm_model.specs.Machine.Configuration.{Configuration, as_image, lookup_of, records_of}
use Rattle.iocm_model.specs.Machine.Numbering.{Numbering}
use Rattle.iocm_model.specs.Machine.Record.{ImageRecord}
use Rattle.iocm_model.specs.Machine.Table.{heading}
use Rattle.iocm_model.specs.Machine.View.{views}
use Rattle.iocm_filter.specs.Sieves.{Sieve}
use Rattle.iocm_filter.specs.Wanted.{Wanted, wanted}
use Rattle.iocm_lines.specs.declared.form.Form.{Form}
use Rattle.iocm_lines.specs.declared.form.Form.TheVariants.{Text, Json}
use Rattle.iocm_console.specs.declared.table.Table.{Table}
use Rattle.iocm_console.specs.Lines.{Gathered, record_lines, row_text}

-- the name of an image that is there
abbrev pub name_there : Option ImageRecord → List ℕ
name_there (Some i) = i.name
name_there None = []

-- the name of an image, as the configuration has it
abbrev pub name_in : Configuration → images.Image → List ℕ
name_in c i = name_there (option_and_then as_image (get c (key.Image i.css i.mif)))

-- what comes before the rows: the heading of a text
abbrev pub opening_text : Form → List ℕ
opening_text Text = heading ++ 10 ∷ []
opening_text Json = []

-- some rows in a form, each with its image's name
abbrev pub rows_in : Form → Configuration → List (SubId × View) → List ℕ
rows_in form c rows = opening_text form ++ flat_map (λ row. row_text form (name_in c row.0.image) row) rows

-- the table of a configuration with its numbers in a form, of the subchannels that are wanted
abbrev pub table_in : Form → Wanted → Configuration → Numbering → List ℕ
table_in form w c n = rows_in form c (filter (wanted w c) (views c n))

-- the same of all subchannels
abbrev pub whole_table_in : Form → Configuration → Numbering → List ℕ
whole_table_in form c n = rows_in form c (views c n)

-- the table as text
abbrev pub wanted_table : Wanted → Configuration → Numbering → List ℕ
wanted_table w c n = table_in Text w c n

-- ---- a table that is ready to be printed

-- what comes before the rows, and the rows at some number cells
abbrev pub text_by : Form → Option Sieve → Gathered → List ℕ
text_by form s t =
    opening_text form ++ record_lines form s (lookup_of t.records) t.cells (records_of t.records)

-- what is printed of it in a form
abbrev pub text_in : Form → Table → List ℕ
text_in form table = text_by form table.sieve table.cells

-- the same as text
abbrev pub text_of : Table → List ℕ
text_of table = text_in Text table
