-- What `list` prints of a deck: what it has of one kind, of what is connected with what is asked for.
use Rattle.std.specs.Prelude.{ℕ, List}
use Rattle.iocm_model.specs.Machine.Configuration.{Configuration}
use Rattle.iocm_filter.specs.Wanted.{Wanted}
use Rattle.iocm_lines.specs.declared.form.Form.{Form}
use Rattle.iocm_lines.specs.declared.form.Form.TheVariants.{Text, Json}
use Rattle.iocm_list.specs.Cells.{path_table, unit_table}
use Rattle.iocm_list.specs.DeviceCells.{device_table, image_table}
use Rattle.iocm_list_lines.specs.Devices.{device_lines}
use Rattle.iocm_list_lines.specs.Images.{image_lines}
use Rattle.iocm_list_lines.specs.Paths.{path_lines}
use Rattle.iocm_list_lines.specs.Units.{unit_lines}
use Rattle.iocm_command.specs.declared.table.Listed.{Listed}
use Rattle.iocm_command.specs.declared.table.Listed.TheVariants as listed
use Rattle.iocm_console.specs.Shown.{Shown, done}
use Rattle.iocm_answer.specs.declared.manner.Manner.{Manner}

-- the table of it, and a line for each of its rows
abbrev pub table_of : Listed → Wanted → Configuration → List ℕ
table_of listed.Images w c = image_table w c
table_of listed.Paths w c = path_table w c
table_of listed.Units w c = unit_table w c
table_of listed.Devices w c = device_table w c

abbrev pub lines_of : Listed → Wanted → Configuration → List ℕ
lines_of listed.Images w c = image_lines w c
lines_of listed.Paths w c = path_lines w c
lines_of listed.Units w c = unit_lines w c
lines_of listed.Devices w c = device_lines w c

abbrev pub list_in : Form → Listed → Wanted → Configuration → List ℕ
list_in Text kind w c = table_of kind w c
list_in Json kind w c = lines_of kind w c

abbrev pub listed_of : Manner → Listed → Wanted → Configuration → Shown
listed_of m kind w c = done (list_in m.form kind w c)
