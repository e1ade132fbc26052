-- The records that an ADD or a MODIFY gives are such as decks give, and a MODIFY gives no Online
-- record.
use Rattle.std.proofs.Common.{◌≡◌, ℕ, ◌||◌, Bool, true, false, cond, Option, Some, None, List, [], ◌∷◌, ◌++◌, All, map}
use Rattle.std.proofs.Common.{take, Result, Ok, Err, ◌∙◌, subst, append_assoc, append-nil, sym}
use Rattle.std.proofs.lemmas.List.Elements.{All-nil, All-cons, All-head, All-append, All-map}
use Rattle.std.proofs.lemmas.Result.{IfOk-weaker}
use Rattle.std.specs.List.{list_any, range_with_len}
use Rattle.std.specs.Result.{IfOk}
use Rattle.iocm_types.specs.declared.css_path.CssPath.{CssPath}
use Rattle.iocm_types.specs.declared.fault.Fault.{Fault}
use Rattle.iocm_types.specs.declared.rule.Rule.{Rule}
use Rattle.iocm_types.specs.declared.rule.Rule.TheVariants.{S3, S4, S5, S8}
use Rattle.iocm_types.specs.Fault.{◌>>=◌, at, or_fault}
use Rattle.iocm_types.proofs.Giving.{whichever, in_turn}
use Rattle.iocm_model.specs.Machine.Record.{Rec, CarriedOperand, ImageRecord, UnitRecord, id, resource, image, limit}
use Rattle.iocm_model.specs.Machine.Record.{path, unit, device, online, key_of}
use Rattle.iocm_statements.specs.declared.operation.Operation.{Operation}
use Rattle.iocm_statements.specs.declared.operation.Operation.TheVariants.{Id, Resource, Chpid, Cntlunit, Iodevice}
use Rattle.iocm_statements.specs.declared.operation.Operation.TheVariants.{Online, Row, Group, Choose, End}
use Rattle.iocm_statements.specs.declared.statement.Statement.{Statement}
use Rattle.iocm_statements.specs.Operands.{Operand}
use Rattle.iocm_operands.specs.declared.device.Devices.{Devices}
use Rattle.iocm_operands.specs.Again.{IsImage}
use Rattle.iocm_record_reader.specs.ChpidRecords.{chpid_path, chpid_partition, chpid_records, kind_of, online_to}
use Rattle.iocm_record_reader.specs.ChpidRecords.{path_record}
use Rattle.iocm_record_reader.specs.Deck.{first_fault, records_unless, statement_records, read_statement, with_records}
use Rattle.iocm_record_reader.specs.Deck.{with_statement, progress_after, read_from, machine_images, nothing_read}
use Rattle.iocm_record_reader.specs.DeviceRecords.{statement_devices, device_units, device_address, device_set}
use Rattle.iocm_record_reader.specs.DeviceRecords.{device_candidates, device_record, iodevice_records, first_device}
use Rattle.iocm_record_reader.specs.Progress.{Progress, has_key}
use Rattle.iocm_record_reader.specs.ResourceRecords.{resource_images, resource_limits, carried_records}
use Rattle.iocm_record_reader.specs.ResourceRecords.{resource_records}
use Rattle.iocm_record_reader.specs.UnitRecords.{unit_fields, cntlunit_records}
use Rattle.iocm_record_reader.specs.Values.{carried_by}
use Rattle.iocm_tree.specs.declared.verb.Verb.{Verb}
use Rattle.iocm_tree.specs.declared.verb.Verb.TheVariants.{Add, Modify}
use Rattle.iocm_change_records.specs.declared.pairs.Pairs.{Pairs}
use Rattle.iocm_change_records.specs.Listed.{lacks_lists}
use Rattle.iocm_change_records.specs.Pairs.{pairs_of, is_beside, online_fault, online_records}
use Rattle.iocm_change_records.specs.Pairs as pairs
use Rattle.iocm_change_records.specs.Table.{lacks_key, has_key_left_out}
use Rattle.iocm_change_records.specs.Whole.{alone, path_alone, given}
use Rattle.iocm_round_trip.specs.Given.{IsGiven}
use Rattle.iocm_round_trip.proofs.Fields.{statement_given}
use Rattle.iocm_round_trip.proofs.GivenRecords.{machine_images_given}
use Rattle.iocm_round_trip.proofs.Shown.{AreCarriable, IsCarriable}
use Rattle.iocm_tree_writer.specs.Given.{IsGivenRecord, IsModified}
use Rattle.iocm_tree_writer.specs.Leaves.{IsDeckRecord}
use Rattle.iocm_tree_writer.proofs.Writable.{modified_is_given}
use Rattle.iocm_tree_writer.proofs.ReadKeys.{ArePairs, pairs_given}

-- ---- what a reader gives

if_both : {A : Type 0} (P Q R : A → Type 0) (read : Result A Fault) → IfOk read P → IfOk read Q
    → ((x : A) → P x → Q x → R x) → IfOk read R
if_both P Q R (Err e) first second both = tt
if_both P Q R (Ok x) first second both = both x first second

-- ---- records that stand in the decks of configurations

both_modified : (r : Rec) → IsGiven r → IsDeckRecord r → IsModified r
both_modified (id c) is deck = is
both_modified (resource c) is deck = is
both_modified (image i) is deck = is
both_modified (limit l) is deck = is
both_modified (path p) is deck = is
both_modified (unit u) is deck = is
both_modified (device d) is deck = is
both_modified (online o) is deck = absurd deck

all_modified : (rs : List Rec) → All IsGiven rs → All IsDeckRecord rs → All IsModified rs
all_modified rs are deck = λ k d within. both_modified _ (are k d within) (deck k d within)

carried_deck : (carried : List CarriedOperand) → All IsDeckRecord (carried_records carried)
carried_deck [] = All-nil IsDeckRecord
carried_deck (c ∷ cs) = All-cons IsDeckRecord (resource (c ∷ cs)) [] tt (All-nil IsDeckRecord)

one_deck : (r : Rec) → IsDeckRecord r → All IsDeckRecord (r ∷ [])
one_deck r is = All-cons IsDeckRecord r [] is (All-nil IsDeckRecord)

resource_deck : (fault : Fault) (operands : List Operand) → IfOk (resource_records fault operands) (All IsDeckRecord)
resource_deck fault operands =
    whichever (All IsDeckRecord) (resource_images fault operands) _
    (λ images. whichever (All IsDeckRecord) (resource_limits fault operands) _ (λ limits.
    All-append IsDeckRecord (carried_records (carried_by Resource operands)) (map image images ++ map limit limits)
    (carried_deck (carried_by Resource operands))
    (All-append IsDeckRecord (map image images) (map limit limits)
    (All-map IsDeckRecord image images (λ k d within. tt)) (All-map IsDeckRecord limit limits (λ k d within. tt)))))

unit_deck : (fault : Fault) (operands : List Operand) → IfOk (cntlunit_records fault operands) (All IsDeckRecord)
unit_deck fault operands =
    whichever (All IsDeckRecord) (unit_fields fault operands) _ (λ (u : UnitRecord). one_deck (unit u) tt)

device_deck : (fault : Fault) (operands : List Operand) → IfOk (iodevice_records fault operands) (All IsDeckRecord)
device_deck fault operands =
    whichever (All IsDeckRecord) (statement_devices fault operands) _
    (λ (d : Devices). whichever (All IsDeckRecord) (device_units fault operands) _ (λ units.
    whichever (All IsDeckRecord) (device_address fault d.count operands) _
    (λ address. whichever (All IsDeckRecord) (device_set fault operands) _ (λ set.
    whichever (All IsDeckRecord) (device_candidates fault operands) _ (λ candidates.
    All-map IsDeckRecord (device_record (first_device set d units candidates (carried_by Iodevice operands)) address)
    (range_with_len 0 d.count) (λ k e within. tt))))))

-- the first record of a CHPID is that of its path
abbrev BeginsWithDeck : List Rec → Type 0
BeginsWithDeck rs = All IsDeckRecord (take 1 rs)

path_deck : (fault : Fault) (images : List ImageRecord) (operands : List Operand)
    → IfOk (chpid_records fault images operands) BeginsWithDeck
path_deck fault images operands =
    whichever BeginsWithDeck (chpid_path fault operands) _
    (λ (p : CssPath). whichever BeginsWithDeck (chpid_partition fault p.css operands) _ (λ partition.
    whichever BeginsWithDeck (or_fault fault (kind_of operands partition)) _
    (λ kind. one_deck (path_record p kind _ (carried_by Chpid operands)) tt)))

first_given : (rs : List Rec) → All IsGiven rs → All IsGiven (take 1 rs)
first_given [] are = All-nil IsGiven
first_given (r ∷ rs) are = All-cons IsGiven r [] (All-head IsGiven r rs are) (All-nil IsGiven)

-- ---- a deck of one statement

went_in : (fault : Fault) (records rs : List Rec) → IfOk (with_records fault records rs) (λ out. out ≡ records ++ rs)
unfolding with_records
went_in fault records [] = sym (append-nil records)
went_in fault records (r ∷ rs) = by (has_key records (key_of r)) (went_in fault (records ++ r ∷ []) rs)
  where
    by : (there : Bool) → IfOk (with_records fault (records ++ r ∷ []) rs) (λ out. out ≡ (records ++ r ∷ []) ++ rs)
        → IfOk (cond there (Err fault) (with_records fault (records ++ r ∷ []) rs)) (λ out. out ≡ records ++ r ∷ rs)
    by true more = tt
    by false more =
        IfOk-weaker (with_records fault (records ++ r ∷ []) rs) (λ out. out ≡ (records ++ r ∷ []) ++ rs)
        (λ out. out ≡ records ++ r ∷ rs)
        (λ out is. is ∙ append_assoc records (r ∷ []) rs) more

-- an operation but ONLINE
abbrev IsNoPair : Operation → Type 0
IsNoPair Online = ⊥
IsNoPair _ = Unit {0}

module _ (name : List ℕ) (operands : List Operand) (line : ℕ) (carriable : AreCarriable operands) where
  abbrev stated : Operation → Statement
  stated operation = record { name = name; operation = operation; operands = operands; line = line }

  read_gives : (P : List Rec → Type 0) (images : List ImageRecord) (operation : Operation)
      → IfOk (statement_records (at S4 line) images operation operands) P
      → IfOk (read_statement images nothing_read (stated operation)) P
  read_gives P images operation gives = by (first_fault nothing_read (stated operation))
    where
      by : (fault : Option Rule) → IfOk (records_unless fault images (stated operation)) P
      by (Some rule) = tt
      by None = gives

  alone_gives : (P : List Rec → Type 0) (operation : Operation)
      → IfOk (statement_records (at S4 line) (machine_images (stated operation ∷ [])) operation operands) P
      → IfOk (alone (stated operation)) P
  unfolding read_from
  alone_gives P operation gives =
      let images = machine_images (stated operation ∷ []) in
      in_turn (λ (q : Progress). P q.records) P (progress_after images nothing_read (stated operation)) _
      (in_turn P (λ (q : Progress). P q.records) (read_statement images nothing_read (stated operation))
      (with_statement (at S8 line) nothing_read operation)
      (read_gives P images operation gives)
      (λ rs is. in_turn (λ out. out ≡ rs) (λ (q : Progress). P q.records) (with_records (at S8 line) [] rs) _
      (went_in (at S8 line) [] rs)
      (λ out same. subst P (sym same) is)))
      (λ q is. is)

  deck_gives : (images : List ImageRecord) (operation : Operation) → All IsImage images
      → IfOk (statement_records (at S4 line) images operation operands) (All IsDeckRecord)
      → IfOk (statement_records (at S4 line) images operation operands) (All IsModified)
  deck_gives images operation are deck =
      if_both (All IsGiven) (All IsDeckRecord) (All IsModified)
      (statement_records (at S4 line) images operation operands)
      (statement_given (at S4 line) images operation operands are carriable) deck all_modified

  alone_modified : (operation : Operation)
      → IfOk (statement_records (at S4 line) (machine_images (stated operation ∷ [])) operation operands)
      (All IsDeckRecord) → IfOk (alone (stated operation)) (All IsModified)
  alone_modified operation deck =
      let images = machine_images (stated operation ∷ []) in
      alone_gives (All IsModified) operation
      (deck_gives images operation (machine_images_given (stated operation ∷ [])) deck)

  path_modified : IfOk (path_alone (stated Chpid)) (All IsModified)
  path_modified = by (lacks_lists operands)
    where
      first : IfOk (alone (stated Chpid)) (λ rs. All IsModified (take 1 rs))
      first =
          alone_gives (λ rs. All IsModified (take 1 rs)) Chpid
          (if_both (All IsGiven) BeginsWithDeck (λ rs. All IsModified (take 1 rs))
          (chpid_records (at S4 line) (machine_images (stated Chpid ∷ [])) operands)
          (statement_given (at S4 line) (machine_images (stated Chpid ∷ [])) Chpid operands
          (machine_images_given (stated Chpid ∷ [])) carriable)
          (path_deck (at S4 line) (machine_images (stated Chpid ∷ [])) operands)
          (λ rs are deck. all_modified (take 1 rs) (first_given rs are) deck))

      by : (lacks : Bool) → IfOk
          (cond lacks (Err (at S3 line)) (alone (stated Chpid) >>= λ records. Ok (take 1 records))) (All IsModified)
      by true = tt
      by false = in_turn (λ rs. All IsModified (take 1 rs)) (All IsModified) (alone (stated Chpid)) _ first
          (λ rs is. is)

  -- whatever the verb
  deck_modified : (verb : Verb) (operation : Operation) → IsNoPair operation
      → IfOk (given verb operation (stated operation)) (All IsModified)
  deck_modified verb Id other = alone_modified Id (one_deck (id (carried_by Id operands)) tt)
  deck_modified verb Resource other =
      read_gives (All IsModified) [] Resource
      (deck_gives [] Resource (All-nil IsImage) (resource_deck (at S4 line) operands))
  deck_modified verb Chpid other = path_modified
  deck_modified verb Cntlunit other = alone_modified Cntlunit (unit_deck (at S4 line) operands)
  deck_modified verb Iodevice other = alone_modified Iodevice (device_deck (at S4 line) operands)
  deck_modified verb Online other = absurd other
  deck_modified verb Row other = All-nil IsModified
  deck_modified verb Group other = All-nil IsModified
  deck_modified verb Choose other = All-nil IsModified
  deck_modified verb End other = All-nil IsModified

  -- ---- ONLINE

  pairs_added : IfOk (online_records Add (stated Online)) (All IsGivenRecord)
  pairs_added = by (online_fault Add operands)
    where
      by : (fault : Option Rule) → IfOk (pairs.records_unless fault (stated Online)) (All IsGivenRecord)
      by (Some rule) = tt
      by None =
          in_turn ArePairs (All IsGivenRecord) (pairs_of (at S4 line) operands) _ (pairs_given (at S4 line) operands)
          (λ (p : Pairs) are.
          All-map IsGivenRecord (online_to p.path.css p.path.path) p.names
          (λ k d within. record { path = are.path; named = are.names k d within }))

  none_modified : IfOk (online_records Modify (stated Online)) (All IsModified)
  none_modified = by (lacks_key Online operands)
    where
      by : (lacks : Bool) → IfOk (pairs.records_unless
          (cond lacks (Some S3) (cond (true || has_key_left_out Online operands) (Some S5)
          (cond (list_any is_beside operands) (Some S4) None))) (stated Online)) (All IsModified)
      by true = tt
      by false = tt

  as_added : (operation : Operation) → IsNoPair operation
      → IfOk (given Add operation (stated operation)) (All IsGivenRecord)
  as_added operation other =
      IfOk-weaker (given Add operation (stated operation)) (All IsModified) (All IsGivenRecord)
      (λ rs are k d within. modified_is_given _ (are k d within))
      (deck_modified Add operation other)

  added : (operation : Operation) → IfOk (given Add operation (stated operation)) (All IsGivenRecord)
  added Online = pairs_added
  added Id = as_added Id tt
  added Resource = as_added Resource tt
  added Chpid = as_added Chpid tt
  added Cntlunit = as_added Cntlunit tt
  added Iodevice = as_added Iodevice tt
  added Row = as_added Row tt
  added Group = as_added Group tt
  added Choose = as_added Choose tt
  added End = as_added End tt

  modified : (operation : Operation) → IfOk (given Modify operation (stated operation)) (All IsModified)
  modified Online = none_modified
  modified Id = deck_modified Modify Id tt
  modified Resource = deck_modified Modify Resource tt
  modified Chpid = deck_modified Modify Chpid tt
  modified Cntlunit = deck_modified Modify Cntlunit tt
  modified Iodevice = deck_modified Modify Iodevice tt
  modified Row = deck_modified Modify Row tt
  modified Group = deck_modified Modify Group tt
  modified Choose = deck_modified Modify Choose tt
  modified End = deck_modified Modify End tt

pub records_are_added : (s : Statement) → IsCarriable s → IfOk (given Add s.operation s) (All IsGivenRecord)
records_are_added s are = added s.name s.operands s.line are s.operation

pub records_are_modified : (s : Statement) → IsCarriable s → IfOk (given Modify s.operation s) (All IsModified)
records_are_modified s are = modified s.name s.operands s.line are s.operation
