-- The records that a deck describes are their own deck, and no key stands twice among them.
use Rattle.std.proofs.Common.{◌≡◌, ℕ, Bool, true, false, cond, Option, None, Some, List, [], ◌∷◌, ◌++◌, map, Err, refl}
use Rattle.std.proofs.Common.{sym, ap, ◌∙◌, append_assoc}
use Rattle.std.proofs.lemmas.List.{append-nil}
use Rattle.std.proofs.lemmas.List.Concat.{flat_map-append}
use Rattle.std.proofs.lemmas.Result.{IfOk-weaker}
use Rattle.std.specs.List.{range_with_len}
use Rattle.std.specs.Result.{IfOk}
use Rattle.iocm_types.specs.declared.css_path.CssPath.{CssPath}
use Rattle.iocm_types.specs.declared.fault.Fault.{Fault}
use Rattle.iocm_types.specs.declared.path_kind.PathKind.{PathKind}
use Rattle.iocm_types.specs.declared.rule.Rule.{Rule}
use Rattle.iocm_types.specs.declared.rule.Rule.TheVariants.{S8}
use Rattle.iocm_types.specs.Fault.{◌>>=◌, or_fault, at}
use Rattle.iocm_types.proofs.Giving.{whichever, in_turn}
use Rattle.iocm_columns.specs.Statements.{joined_of}
use Rattle.iocm_model.specs.Machine.Record.{Rec, CarriedOperand, ImageRecord, LimitRecord, DeviceRecord, image, limit}
use Rattle.iocm_model.specs.Machine.Record.{key_of}
use Rattle.iocm_model.specs.Machine.Configuration.{HasNoKeyTwice}
use Rattle.iocm_statements.specs.declared.operation.Operation.{Operation}
use Rattle.iocm_statements.specs.declared.operation.Operation.TheVariants.{Id, Resource, Chpid, Cntlunit, Iodevice}
use Rattle.iocm_statements.specs.declared.statement.Statement.{Statement}
use Rattle.iocm_statements.specs.Operands.{Operand}
use Rattle.iocm_statements.specs.Statement.{parsed}
use Rattle.iocm_operands.specs.declared.device.Devices.{Devices}
use Rattle.iocm_operands.specs.Resource.{names_in}
use Rattle.iocm_record_reader.specs.declared.chpid.Lists.{Lists}
use Rattle.iocm_record_reader.specs.ChpidRecords.{chpid_path, chpid_partition, kind_of, lists_of, online_to}
use Rattle.iocm_record_reader.specs.ChpidRecords.{path_records}
use Rattle.iocm_record_reader.specs.Deck.{statement_records, records_unless, first_fault, read_statement, with_records}
use Rattle.iocm_record_reader.specs.Deck.{with_statement, progress_after, read_from, deck_records, machine_images}
use Rattle.iocm_record_reader.specs.Deck.{nothing_read}
use Rattle.iocm_record_reader.specs.DeviceRecords.{statement_devices, device_units, device_address, device_set}
use Rattle.iocm_record_reader.specs.DeviceRecords.{device_candidates, device_record, device_records, first_device}
use Rattle.iocm_record_reader.specs.Progress.{Progress, has_key}
use Rattle.iocm_record_reader.specs.ResourceRecords.{resource_images, resource_limits, carried_records}
use Rattle.iocm_record_reader.specs.UnitRecords.{unit_fields}
use Rattle.iocm_record_reader.specs.Values.{carried_by}
use Rattle.iocm_record_reader.proofs.Claiming.{apart_push}
use Rattle.iocm_round_trip.specs.Again.{records_in, expanded, deck_of}

-- they are their own deck: each path has its online records behind it
abbrev pub AreWhole : List Rec → Type 0
AreWhole records = deck_of records ≡ records

-- ---- records that are their own deck

whole_append : (xs ys : List Rec) → AreWhole xs → AreWhole ys → AreWhole (xs ++ ys)
whole_append xs ys first second = flat_map-append expanded xs ys ∙ (λ i. first i ++ second i)

-- records that are neither paths nor online
whole_each : {X : Type 0} (f : X → Rec) → ((x : X) → expanded (f x) ≡ f x ∷ []) → (xs : List X) → AreWhole (map f xs)
whole_each f one [] = refl
whole_each f one (x ∷ xs) = λ i. one x i ++ whole_each f one xs i

-- online records go with their path
onlines_go : (css number : ℕ) (names : List (List ℕ)) → deck_of (map (online_to css number) names) ≡ []
onlines_go css number [] = refl
onlines_go css number (name ∷ names) = onlines_go css number names

whole_path : (p : CssPath) (kind : PathKind) (lists : Lists) (carried : List CarriedOperand)
    → AreWhole (path_records p kind lists carried)
whole_path p kind lists carried =
    ap (λ rest. path_records p kind lists carried ++ rest) (onlines_go p.css p.path lists.access)
    ∙ append-nil (path_records p kind lists carried)

whole_carried : (carried : List CarriedOperand) → AreWhole (carried_records carried)
whole_carried [] = refl
whole_carried (c ∷ cs) = refl

whole_resource : (carried : List CarriedOperand) (images : List ImageRecord) (limits : List LimitRecord)
    → AreWhole (carried_records carried ++ (map image images ++ map limit limits))
whole_resource carried images limits =
    whole_append (carried_records carried) (map image images ++ map limit limits) (whole_carried carried)
    (whole_append (map image images) (map limit limits) (whole_each image (λ i. refl) images)
    (whole_each limit (λ l. refl) limits))

whole_devices : (first : DeviceRecord) (address : Option ℕ) (count : ℕ) → AreWhole (device_records first address count)
whole_devices first address count = whole_each (device_record first address) (λ place. refl) (range_with_len 0 count)

-- ---- the records of a statement

whole_statement : (fault : Fault) (images : List ImageRecord) (operation : Operation) (operands : List Operand)
    → IfOk (statement_records fault images operation operands) AreWhole
whole_statement fault images Id operands = refl
whole_statement fault images Resource operands =
    whichever AreWhole (resource_images fault operands) _ (λ is.
    whichever AreWhole (resource_limits fault operands) _ (λ ls. whole_resource (carried_by Resource operands) is ls))
whole_statement fault images Chpid operands =
    whichever AreWhole (chpid_path fault operands) _ (λ (p : CssPath).
    whichever AreWhole (chpid_partition fault p.css operands) _ (λ partition.
    whichever AreWhole (or_fault fault (kind_of operands partition)) _ (λ kind.
    whole_path p kind (lists_of kind (names_in p.css images) partition) (carried_by Chpid operands))))
whole_statement fault images Cntlunit operands = whichever AreWhole (unit_fields fault operands) _ (λ u. refl)
whole_statement fault images Iodevice operands =
    whichever AreWhole (statement_devices fault operands) _ (λ (d : Devices).
    whichever AreWhole (device_units fault operands) _ (λ units.
    whichever AreWhole (device_address fault d.count operands) _ (λ address.
    whichever AreWhole (device_set fault operands) _ (λ set.
    whichever AreWhole (device_candidates fault operands) _ (λ candidates.
    whole_devices (first_device set d units candidates (carried_by Iodevice operands)) address d.count)))))
whole_statement fault images _ operands = refl

whole_unless : (fault : Option Rule) (images : List ImageRecord) (s : Statement)
    → IfOk (records_unless fault images s) AreWhole
whole_unless (Some rule) images s = tt
whole_unless None images s = whole_statement _ images s.operation s.operands

-- ---- the records of a deck

pub record AreOfDeck (records : List Rec) : Type 0 where
  pub whole : AreWhole records
  pub apart : HasNoKeyTwice records

-- further records go behind those that are there, if none of them brings a key that is there
abbrev AreBehind : List Rec → List Rec → List Rec → Type 0
AreBehind records rs all = (all ≡ records ++ rs) × HasNoKeyTwice all

behind : (fault : Fault) (records rs : List Rec) → HasNoKeyTwice records
    → IfOk (with_records fault records rs) (AreBehind records rs)
unfolding with_records
behind fault records [] apart = (sym (append-nil records), apart)
behind fault records (r ∷ rs) apart = by (has_key records (key_of r)) refl (behind fault (records ++ r ∷ []) rs)
  where
    by : (there : Bool) → has_key records (key_of r) ≡ there
        → (HasNoKeyTwice (records ++ r ∷ [])
        → IfOk (with_records fault (records ++ r ∷ []) rs) (AreBehind (records ++ r ∷ []) rs))
        → IfOk (cond there (Err fault) (with_records fault (records ++ r ∷ []) rs)) (AreBehind records (r ∷ rs))
    by true old more = tt
    by false new more =
        IfOk-weaker (with_records fault (records ++ r ∷ []) rs) (AreBehind (records ++ r ∷ []) rs)
        (AreBehind records (r ∷ rs))
        (λ all are. (are.0 ∙ append_assoc records (r ∷ []) rs, are.1)) (more (apart_push records r new apart))

after_statement : (images : List ImageRecord) (p : Progress) (s : Statement) → AreOfDeck p.records
    → IfOk (progress_after images p s) (λ q. AreOfDeck q.records)
after_statement images p s so_far =
    in_turn AreWhole (λ (q : Progress). AreOfDeck q.records) (read_statement images p s)
    (with_statement (at S8 s.line) p s.operation)
    (whole_unless (first_fault p s) images s)
    (λ rs whole. in_turn (AreBehind p.records rs) (λ (q : Progress). AreOfDeck q.records)
    (with_records (at S8 s.line) p.records rs) _
    (behind (at S8 s.line) p.records rs so_far.apart)
    (λ all is. record {
      whole = ap deck_of is.0 ∙ whole_append p.records rs so_far.whole whole ∙ sym is.0;
      apart = is.1;
    }))

from_deck : (images : List ImageRecord) (p : Progress) (ss : List Statement) → AreOfDeck p.records
    → IfOk (read_from images p ss) AreOfDeck
unfolding read_from
from_deck images p [] so_far = so_far
from_deck images p (s ∷ ss) so_far =
    in_turn (λ (q : Progress). AreOfDeck q.records) AreOfDeck (progress_after images p s) (λ q. read_from images q ss)
    (after_statement images p s so_far) (λ q is. from_deck images q ss is)

-- whatever bytes say
pub records_are_of_deck : (bytes : List ℕ) → IfOk (records_in bytes) AreOfDeck
records_are_of_deck bytes =
    whichever AreOfDeck (joined_of bytes >>= parsed) deck_records
    (λ ss. from_deck (machine_images ss) nothing_read ss (record { whole = refl; apart = tt }))
