-- A record that is added or modified is read again of its line: the statement of one record gives
-- this record alone.
use Rattle.std.proofs.Common.{◌≡◌, ◌≢◌, ℕ, not, Bool, true, false, Option, Some, None, List, [], ◌∷◌, ◌++◌, ◌⊎◌, inl}
use Rattle.std.proofs.Common.{inr, All, map, Ok, codes, refl, sym, ap, ◌∙◌, subst, append-nil}
use Rattle.std.proofs.lemmas.Bool.{and_right}
use Rattle.std.proofs.lemmas.List.Elements.{All-nil, All-cons, All-head}
use Rattle.std.specs.List.{join_with_byte}
use Rattle.std.specs.Option.{option_and_then, unwrap_or}
use Rattle.iocm_types.specs.declared.path_kind.PathKind.{PathKind}
use Rattle.iocm_types.specs.declared.path_kind.PathKind.TheVariants.{Dedicated, Shared, Reconfigurable}
use Rattle.iocm_types.specs.declared.rule.Rule.{Rule}
use Rattle.iocm_types.specs.declared.rule.Rule.TheVariants.{S4, S8}
use Rattle.iocm_types.specs.Fault.{◌>>=◌, at}
use Rattle.iocm_model.specs.Machine.Configuration.{HasNoKeyTwice}
use Rattle.iocm_model.specs.Machine.Record.{Rec, CarriedOperand, DeviceRecord, ImageRecord, PathRecord, id, resource}
use Rattle.iocm_model.specs.Machine.Record.{image, limit, path, unit, device, online}
use Rattle.iocm_statements.specs.declared.operation.Operation.TheVariants.{Resource, Chpid}
use Rattle.iocm_statements.specs.declared.statement.Statement as read
use Rattle.iocm_statements.specs.Operands.{Operand, text_under}
use Rattle.iocm_values.specs.NameSet.{names_text}
use Rattle.iocm_values.specs.Value.{Value, word, list, value, items}
use Rattle.iocm_values.proofs.Levels.{list_again, items_again}
use Rattle.iocm_values.proofs.Pieces.{AllWhole, whole_plain}
use Rattle.iocm_operands.specs.Again.{IsNameSet}
use Rattle.iocm_operands.specs.ChpidPath.{path_text}
use Rattle.iocm_operands.specs.ChpidPartition.{rec_texts, partition_text}
use Rattle.iocm_record_reader.specs.Deck.{is_of_changes, is_repeated, first_fault, records_unless, read_statement}
use Rattle.iocm_record_reader.specs.Deck.{with_statement, read_from, machine_images, nothing_read}
use Rattle.iocm_record_reader.specs.ResourceRecords.{carried_records}
use Rattle.iocm_deck_writer.specs.Again.{placed}
use Rattle.iocm_deck_writer.specs.Canonical.{chpid_operands, chpid_statement, is_reconfigurable, shared_words}
use Rattle.iocm_deck_writer.specs.Device.{Run, iodevice_statement}
use Rattle.iocm_deck_writer.specs.Statement.{Statement, valued}
use Rattle.iocm_change_records.specs.Listed.{partition_items, written_shape, shape_of, ungrouped, lacks_lists}
use Rattle.iocm_change_records.specs.Listed.{wants_lists}
use Rattle.iocm_change_records.specs.Whole.{alone, path_alone, given}
use Rattle.iocm_round_trip.specs.Again.{expanded}
use Rattle.iocm_round_trip.specs.Given.{IsGiven, IsGivenDevice, IsGivenPath}
use Rattle.iocm_round_trip.specs.Running.{IsGivenRun}
use Rattle.iocm_round_trip.specs.Stating.{IsReadAs, path_records}
use Rattle.iocm_round_trip.proofs.BySubsystem.{images_by_css, limits_are}
use Rattle.iocm_round_trip.proofs.Deck.{nothing_carried}
use Rattle.iocm_round_trip.proofs.Looked.{text_found, text_of}
use Rattle.iocm_round_trip.proofs.OneKey.{deck_has_no_key_twice}
use Rattle.iocm_round_trip.proofs.OperandTexts.{names_clean}
use Rattle.iocm_round_trip.proofs.Reading.{all_are_read}
use Rattle.iocm_round_trip.proofs.Running.{are_runs_of_devices, are_given_runs}
use Rattle.iocm_round_trip.proofs.Stated.{id_again, resource_again, chpid_again, cntlunit_again, iodevice_again}
use Rattle.iocm_tree.specs.declared.verb.Verb.{Verb}
use Rattle.iocm_tree_writer.specs.Leaves.{IsDeckRecord, record_statement}

-- ---- the statement of one record

just : (r : Rec) → IsGiven r → All IsGiven (r ∷ [])
just r is = All-cons IsGiven r [] is (All-nil IsGiven)

carried_alone : (carried : List CarriedOperand) → carried ≢ [] → carried_records carried ++ [] ≡ resource carried ∷ []
carried_alone [] some = absurd (some refl)
carried_alone (o ∷ os) some = refl

one_run : (d : DeviceRecord) → IsGivenDevice d → IsGivenRun (record { first = d; count = 1 })
one_run d is = All-head IsGivenRun (record { first = d; count = 1 }) []
    (are_given_runs (d ∷ []) (All-cons IsGivenDevice d [] is (All-nil IsGivenDevice)))

-- it can be written, and is read as what the record's deck has
pub record_again : (r : Rec) → IsDeckRecord r → IsGiven r → IsReadAs (record_statement r) (expanded r)
record_again (id carried) deck is = id_again carried is
record_again (resource carried) deck is =
    subst (IsReadAs (record { operation = Resource; operands = carried })) (carried_alone carried is.some)
    (resource_again [] [] carried (λ some. absurd (some refl)) (λ some. absurd (some refl)) is.carried)
record_again (image i) deck is =
    resource_again (i ∷ []) [] [] (images_by_css (image i ∷ []) (tt, tt) (just (image i) is))
    (λ some. absurd (some refl)) (nothing_carried Resource)
record_again (limit l) deck is =
    resource_again [] (l ∷ []) [] (λ some. absurd (some refl)) (limits_are (limit l ∷ []) (tt, tt) (just (limit l) is))
    (nothing_carried Resource)
record_again (path p) deck is = chpid_again p is
record_again (unit u) deck is = cntlunit_again u is
record_again (device d) deck is =
    let run : Run = record { first = d; count = 1 } in
    subst (λ ds. IsReadAs (iodevice_statement run) (map device ds)) (are_runs_of_devices (d ∷ []))
    (iodevice_again run (one_run d is))
record_again (online o) deck is = absurd deck

-- ---- in a deck of its own

-- what is read of a statement with this in its name field
abbrev as_named : List ℕ → ℕ → Statement → read.Statement
as_named name line s = record { name = name; operation = s.operation; operands = placed 0 s.operands; line = line }

same_unless : (name : List ℕ) (line : ℕ) (images : List ImageRecord) (s : Statement) (fault : Option Rule)
    → records_unless fault images (as_named name line s) ≡ records_unless fault images (as_named [] line s)
same_unless name line images s (Some rule) = refl
same_unless name line images s None = refl

alone_gives : (name : List ℕ) (line : ℕ) (s : Statement) (rs : List Rec) → IsReadAs s rs
    → is_of_changes s.operation ≡ false
    → is_repeated nothing_read s.operation ≡ false → HasNoKeyTwice rs → alone (as_named name line s) ≡ Ok rs
unfolding read_from
alone_gives name line s rs is of_decks once apart =
    let images = machine_images (as_named name line s ∷ []) in
    ap (λ found. found >>= with_statement (at S8 line) nothing_read s.operation >>= λ q. read_from images q [])
    (same_unless name line images s (first_fault nothing_read (as_named name line s)))
    ∙ all_are_read images (s ∷ []) (as_named [] line s ∷ []) nothing_read rs
    (rs, [], is, sym (append-nil rs), refl) (refl, tt) (of_decks, once, tt) apart

read_gives : (name : List ℕ) (line : ℕ) (images : List ImageRecord) (s : Statement) (rs : List Rec) → IsReadAs s rs
    → is_of_changes s.operation ≡ false
    → is_repeated nothing_read s.operation ≡ false → read_statement images nothing_read (as_named name line s) ≡ Ok rs
read_gives name line images s rs is of_decks once =
    let none : first_fault nothing_read (as_named name line s) ≡ None =
    rw (of_decks, once, is.no_fault.complete, is.no_fault.taken, is.no_fault.formed) refl in
    rw none (is.is_read (at S4 line) images)

apart_alone : (r : Rec) → IsGiven r → HasNoKeyTwice (expanded r)
apart_alone r is = subst HasNoKeyTwice (append-nil (expanded r)) (deck_has_no_key_twice (r ∷ []) (tt, tt) (just r is))

-- ---- both lists of a path are written

-- `0`, or a list
abbrev IsListed : Value → Type 0
IsListed v = (v ≡ word (codes "0")) ⊎ ((inner : List ℕ) × (v ≡ list inner))

names_listed : (names : List (List ℕ)) → IsListed (value (names_text names))
names_listed [] = inl refl
names_listed (name ∷ names) = inr (join_with_byte 44 (name ∷ names), list_again (join_with_byte 44 (name ∷ names)))

-- these items show both lists, with REC behind them or without
abbrev ShowsBoth : Bool → Value → Value → Type 0
ShowsBoth rec a c = (shape_of (ungrouped (a ∷ c ∷ map value (rec_texts rec)))).has_both_lists ≡ true

both_listed : (rec : Bool) (a c : Value) → IsListed a → IsListed c → ShowsBoth rec a c
both_listed true a c (inl first) second = rw first refl
both_listed true a c (inr first) second = rw first.1 refl
both_listed false a c (inl first) (inl second) = rw (first, second) refl
both_listed false a c (inl first) (inr second) = rw (first, second.1) refl
both_listed false a c (inr first) (inl second) = rw (first.1, second) refl
both_listed false a c (inr first) (inr second) = rw (first.1, second.1) refl

rec_whole : (rec : Bool) → AllWhole (rec_texts rec)
rec_whole true = (whole_plain (codes "REC") refl, tt)
rec_whole false = tt

items_shown : (access candidates : List (List ℕ)) (rec : Bool) → IsNameSet access → IsNameSet candidates
    → (operands : List Operand)
    → text_under (codes "PARTITION") operands ≡ Some (partition_text access candidates rec)
    → partition_items operands ≡ value (names_text access) ∷ value (names_text candidates) ∷ map value (rec_texts rec)
items_shown access candidates rec first second operands there =
    ap (λ found. unwrap_or (option_and_then (λ text. items (value text)) found) []) there
    ∙ ap (λ found. unwrap_or found []) (items_again (names_text access) (names_text candidates ∷ rec_texts rec)
    ((names_clean access first).whole, ((names_clean candidates second).whole, rec_whole rec)))

partition_stands : (kind : PathKind) (number lists : List ℕ)
    → text_of (codes "PARTITION")
    (valued (codes "PATH") (Some number) ++ (shared_words kind ++ valued (codes "PARTITION") (Some lists)))
    ≡ Some lists
partition_stands Dedicated number lists = refl
partition_stands Shared number lists = refl
partition_stands Reconfigurable number lists = refl

lists_written : (p : PathRecord) → IsGivenPath p → lacks_lists (placed 0 (chpid_statement p).operands) ≡ false
lists_written p is =
    let operands = placed 0 (chpid_statement p).operands in
    let rec = is_reconfigurable p.kind in
    let there : text_under (codes "PARTITION") operands ≡ Some (partition_text p.access p.candidates rec) =
    text_found Chpid (chpid_operands p) p.carried is.carried.unknown (codes "PARTITION") refl
    ∙ partition_stands p.kind (path_text (record { css = p.css; path = p.number }))
    (partition_text p.access p.candidates rec) in
    let both : (written_shape operands).has_both_lists ≡ true =
    ap (λ vs. (shape_of (ungrouped vs)).has_both_lists)
    (items_shown p.access p.candidates rec is.access is.candidates operands there)
    ∙ both_listed rec (value (names_text p.access)) (value (names_text p.candidates)) (names_listed p.access)
    (names_listed p.candidates) in
    and_right (wants_lists operands (written_shape operands)) (not (written_shape operands).has_both_lists)
    (ap not both)

-- ---- the line of a record

path_given : (name : List ℕ) (line : ℕ) (p : PathRecord) → IsGivenPath p
    → path_alone (as_named name line (chpid_statement p)) ≡ Ok (path p ∷ [])
path_given name line p is =
    rw (
      lists_written p is,
      alone_gives name line (chpid_statement p) (path_records p) (chpid_again p is) refl refl
          (apart_alone (path p) is),
    ) refl

-- each kind of record but an Online record
pub record_given : (v : Verb) (name : List ℕ) (line : ℕ) (r : Rec) → IsDeckRecord r → IsGiven r
    → given v (record_statement r).operation (as_named name line (record_statement r)) ≡ Ok (r ∷ [])
record_given v name line (id carried) deck is =
    alone_gives name line (record_statement (id carried)) (id carried ∷ []) (record_again (id carried) deck is) refl
    refl (apart_alone (id carried) is)
record_given v name line (resource carried) deck is =
    read_gives name line [] (record_statement (resource carried)) (resource carried ∷ [])
    (record_again (resource carried) deck is) refl refl
record_given v name line (image i) deck is =
    read_gives name line [] (record_statement (image i)) (image i ∷ []) (record_again (image i) deck is) refl refl
record_given v name line (limit l) deck is =
    read_gives name line [] (record_statement (limit l)) (limit l ∷ []) (record_again (limit l) deck is) refl refl
record_given v name line (path p) deck is = path_given name line p is
record_given v name line (unit u) deck is =
    alone_gives name line (record_statement (unit u)) (unit u ∷ []) (record_again (unit u) deck is) refl refl
    (apart_alone (unit u) is)
record_given v name line (device d) deck is =
    alone_gives name line (record_statement (device d)) (device d ∷ []) (record_again (device d) deck is) refl refl
    (apart_alone (device d) is)
record_given v name line (online o) deck is = absurd deck
