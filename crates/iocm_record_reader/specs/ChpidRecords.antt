-- The records of a CHPID statement: a channel path, and that it is online to the images of its
-- access list. IOCP User's Guide, CHPID statement; the defaults are own.
use Rattle.std.specs.Prelude.{ℕ, ◌||◌, Bool, true, false, Option, None, Some, List, [], ◌∷◌, map, Result, Ok, codes}
use Rattle.std.specs.Option.{option_map, option_map_or}
use Rattle.iocm_types.specs.declared.fault.Fault.{Fault}
use Rattle.iocm_types.specs.declared.css_path.CssPath.{CssPath}
use Rattle.iocm_types.specs.declared.path_kind.PathKind.{PathKind}
use Rattle.iocm_types.specs.declared.path_kind.PathKind.TheVariants.{Dedicated, Shared, Reconfigurable}
use Rattle.iocm_types.specs.Fault.{◌>>=◌, or_fault}
use Rattle.iocm_statements.specs.declared.operation.Operation.TheVariants.{Chpid}
use Rattle.iocm_statements.specs.Operands.{Operand, has_bare}
use Rattle.iocm_model.specs.Machine.Record.{Rec, CarriedOperand, ImageRecord, path, online}
use Rattle.iocm_operands.specs.declared.chpid_partition.Partition.{Partition}
use Rattle.iocm_operands.specs.ChpidPath.{path_of}
use Rattle.iocm_operands.specs.ChpidPartition.{partition_of}
use Rattle.iocm_operands.specs.Resource.{names_in}
use Rattle.iocm_record_reader.specs.declared.chpid.Lists.{Lists}
use Rattle.iocm_record_reader.specs.Values.{required, optional, carried_by}

-- the path of the statement
abbrev pub chpid_path : Fault → List Operand → Result CssPath Fault
chpid_path fault operands = required fault path_of (codes "PATH") operands

-- PARTITION of a path, if it is there
abbrev pub chpid_partition : Fault → ℕ → List Operand → Result (Option Partition) Fault
chpid_partition fault css operands =
    optional fault (λ v. option_map Some (partition_of css v)) None (codes "PARTITION") operands

-- how a path is used, by the words SHARED and REC; both are malformed
abbrev pub kind_by : Bool → Bool → Option PathKind
kind_by true true = None
kind_by true false = Some Shared
kind_by false true = Some Reconfigurable
kind_by false false = Some Dedicated

-- PARTITION ends in REC
abbrev pub has_rec : Option Partition → Bool
has_rec partition = option_map_or (λ (p : Partition). p.is_reconfigurable) partition false

abbrev pub kind_of : List Operand → Option Partition → Option PathKind
kind_of operands partition =
    kind_by (has_bare (codes "SHARED") operands) (has_bare (codes "REC") operands || has_rec partition)

-- the candidates where none are listed: of a SHARED or REC path all images of its channel
-- subsystem, else the access list
abbrev pub default_candidates : PathKind → List (List ℕ) → List (List ℕ) → List (List ℕ)
default_candidates Dedicated all access = access
default_candidates Shared all access = all
default_candidates Reconfigurable all access = all

abbrev pub candidates_or_default : PathKind → List (List ℕ) → Partition → List (List ℕ)
candidates_or_default kind all p = option_map_or (λ names. names) p.candidates (default_candidates kind all p.access)

-- without PARTITION a SHARED path has all images of its channel subsystem in both lists, another
-- path none
abbrev pub default_lists : PathKind → List (List ℕ) → Lists
default_lists Shared all = record { access = all; candidates = all }
default_lists Dedicated all = record { access = []; candidates = [] }
default_lists Reconfigurable all = record { access = []; candidates = [] }

-- the lists of a path, with PARTITION or without; all are the names of its channel subsystem
abbrev pub lists_of : PathKind → List (List ℕ) → Option Partition → Lists
lists_of kind all (Some p) = record { access = p.access; candidates = candidates_or_default kind all p }
lists_of kind all None = default_lists kind all

-- that a path is online to the image of a name
abbrev pub online_to : ℕ → ℕ → List ℕ → Rec
online_to css number name = online (record { css = css; path = number; name = name })

-- the record of a path alone
abbrev pub path_record : CssPath → PathKind → Lists → List CarriedOperand → Rec
path_record p kind lists carried =
    path (record {
      css = p.css;
      number = p.path;
      kind = kind;
      access = lists.access;
      candidates = lists.candidates;
      carried = carried;
    })

-- the record of a path, and one for each image that it is online to
abbrev pub path_records : CssPath → PathKind → Lists → List CarriedOperand → List Rec
path_records p kind lists carried = path_record p kind lists carried ∷ map (online_to p.css p.path) lists.access

-- in a machine of these images
abbrev pub chpid_records : Fault → List ImageRecord → List Operand → Result (List Rec) Fault
chpid_records fault images operands =
    chpid_path fault operands >>= λ (p : CssPath). chpid_partition fault p.css operands >>= λ partition.
    or_fault fault (kind_of operands partition) >>= λ kind.
    Ok (path_records p kind (lists_of kind (names_in p.css images) partition) (carried_by Chpid operands))
