-- The record of a CNTLUNIT statement.
-- IOCP User's Guide, CNTLUNIT statement; the defaults are own.
use Rattle.std.specs.Prelude.{ℕ, Option, None, Some, List, [], ◌∷◌, Result, Ok, codes}
use Rattle.std.specs.Option.{option_map}
use Rattle.iocm_types.specs.declared.css_path.CssPath.{CssPath}
use Rattle.iocm_types.specs.declared.fault.Fault.{Fault}
use Rattle.iocm_types.specs.declared.link.CssLink.{CssLink}
use Rattle.iocm_types.specs.declared.unit_range.UnitRange.{UnitRange}
use Rattle.iocm_types.specs.Fault.{◌>>=◌}
use Rattle.iocm_statements.specs.declared.operation.Operation.TheVariants.{Cntlunit}
use Rattle.iocm_statements.specs.Operands.{Operand}
use Rattle.iocm_model.specs.Machine.Record.{Rec, UnitRecord, unit}
use Rattle.iocm_operands.specs.Unit.{number_of, paths_of, ranges_of, links_of, cuadd_of, all_addresses}
use Rattle.iocm_record_reader.specs.Values.{required, optional, carried_by}

-- its number
abbrev pub unit_number : Fault → List Operand → Result ℕ Fault
unit_number fault operands = required fault number_of (codes "CUNUMBR") operands

-- a unit without PATH has no paths
abbrev pub unit_paths : Fault → List Operand → Result (List CssPath) Fault
unit_paths fault operands = optional fault paths_of [] (codes "PATH") operands

-- without UNITADD all 256 addresses
abbrev pub unit_ranges : Fault → List Operand → Result (List UnitRange) Fault
unit_ranges fault operands = optional fault ranges_of all_addresses (codes "UNITADD") operands

-- without LINK no links
abbrev pub unit_links : Fault → List Operand → Result (List CssLink) Fault
unit_links fault operands = optional fault links_of [] (codes "LINK") operands

-- without CUADD none
abbrev pub unit_cuadd : Fault → List Operand → Result (Option ℕ) Fault
unit_cuadd fault operands = optional fault (λ v. option_map Some (cuadd_of v)) None (codes "CUADD") operands

-- the control unit of the statement
abbrev pub unit_fields : Fault → List Operand → Result UnitRecord Fault
unit_fields fault operands =
    unit_number fault operands >>= λ number. unit_paths fault operands >>= λ paths.
    unit_ranges fault operands >>= λ ranges. unit_links fault operands >>= λ links.
    unit_cuadd fault operands >>= λ cuadd.
    Ok (record {
      number = number;
      paths = paths;
      ranges = ranges;
      links = links;
      cuadd = cuadd;
      carried = carried_by Cntlunit operands;
    })

abbrev pub cntlunit_records : Fault → List Operand → Result (List Rec) Fault
cntlunit_records fault operands = unit_fields fault operands >>= λ (u : UnitRecord). Ok (unit u ∷ [])
