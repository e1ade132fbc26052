use Rattle.std.proofs.Common.{refl}
use Rattle.std.specs.Fmt.{char_count, digits, padded_integral}
use Rattle.json.specs.Print.{escape_byte}
use Rattle.iocm_reports.specs.Counts.{is_gone, has_come, has_changed, is_same, count_lines}
use Rattle.iocm_reports.proofs.Worked.{lines_of_json, lines_of_rows, remarks_on_pairs}
use Rattle.iocm_reports.proofs.laws.lines_are_as_worked.Goals as goal

pub returns-clause-rows : goal.returns-clause-rows
returns-clause-rows c = lines_of_rows

pub returns-clause-counts : goal.returns-clause-counts
unfolding char_count digits padded_integral count_lines is_gone has_come has_changed is_same
returns-clause-counts c = refl

pub returns-clause-rows_as_json : goal.returns-clause-rows_as_json
returns-clause-rows_as_json c = lines_of_json

pub returns-clause-counts_as_json : goal.returns-clause-counts_as_json
unfolding char_count digits padded_integral count_lines is_gone has_come has_changed is_same escape_byte
returns-clause-counts_as_json c = refl

pub returns-clause-remarks : goal.returns-clause-remarks
returns-clause-remarks c = remarks_on_pairs
