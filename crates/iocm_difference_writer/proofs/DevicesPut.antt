-- Devices that are added or modified: a run of them stands in statements as in a deck, each of which
-- is read as its devices.
use Rattle.std.proofs.Common.{◌≡◌, ◌∙◌, ℕ, zero, suc, ◌≤◌, ◌<◌, ◌+◌, true, false, List, [], ◌∷◌, ◌++◌, All, Option}
use Rattle.std.proofs.Common.{Some, None, map, Ok, refl, sym, ap, subst, append-nil, arith, rules}
use Rattle.std.proofs.lemmas.List.{map-append}
use Rattle.std.proofs.lemmas.Bool.{false≢true}
use Rattle.std.proofs.lemmas.List.FromFn.{length-map-range_with_len}
use Rattle.std.proofs.lemmas.List.Elements.{All-nil, All-cons, All-head, All-tail}
use Rattle.std.specs.Cmp.{tied_itself, nat_cmp_total}
use Rattle.std.specs.List.{AllByRecursion, flat_map, range_with_len}
use Rattle.std.specs.Ordering.{nat_cmp}
use Rattle.std.specs.declared.cmp.Ordering.TheVariants.{Less}
use Rattle.iocm_types.specs.declared.key.Key.TheVariants as key
use Rattle.iocm_types.specs.declared.rule.Rule.{Rule}
use Rattle.iocm_types.specs.declared.rule.Rule.TheVariants.{S8}
use Rattle.iocm_types.specs.Fault.{◌>>=◌, at}
use Rattle.iocm_types.specs.Key.{key_cmp}
use Rattle.iocm_model.specs.Change.Edit.{Action, add, delete, modify}
use Rattle.iocm_model.specs.Machine.Configuration.{HasNoKeyTwice}
use Rattle.iocm_model.specs.Machine.Record.{Rec, DeviceRecord, ImageRecord, id, resource, image, limit, path, unit}
use Rattle.iocm_model.specs.Machine.Record.{device, online}
use Rattle.iocm_statements.specs.declared.statement.Statement as read
use Rattle.iocm_record_reader.specs.Deck.{is_of_changes, is_repeated, first_fault, records_unless, with_statement}
use Rattle.iocm_record_reader.specs.Deck.{read_from, machine_images, nothing_read}
use Rattle.iocm_tree.specs.Carried.{bare}
use Rattle.iocm_tree.specs.declared.verb.Verb.{Verb}
use Rattle.iocm_tree.specs.declared.verb.Verb.TheVariants.{Add, Delete, Modify}
use Rattle.iocm_tree_reader.specs.Leaves.{edits_of}
use Rattle.iocm_deck_writer.specs.Again.{placed}
use Rattle.iocm_deck_writer.specs.Canonical.{canonical, id_statements, part_statements}
use Rattle.iocm_deck_writer.specs.Device.{Run, iodevice_statement, devices_of, runs}
use Rattle.iocm_deck_writer.specs.Resource.{images_of, limits_of, resource_carried}
use Rattle.iocm_deck_writer.specs.Statement.{Statement}
use Rattle.iocm_change_records.specs.Whole.{alone}
use Rattle.iocm_round_trip.specs.Again.{deck_of}
use Rattle.iocm_round_trip.specs.Given.{IsGiven, IsGivenDevice}
use Rattle.iocm_round_trip.specs.Running.{IsGivenRun, device_at, run_devices}
use Rattle.iocm_round_trip.specs.Stating.{IsReadAs}
use Rattle.iocm_round_trip.proofs.ByKind.{AreOrdered}
use Rattle.iocm_round_trip.proofs.InOrder.{ComesBefore}
use Rattle.iocm_round_trip.proofs.OneKey.{deck_has_no_key_twice}
use Rattle.iocm_round_trip.proofs.Reading.{all_are_read}
use Rattle.iocm_round_trip.proofs.Running.{are_runs_of_devices, are_given_runs}
use Rattle.iocm_round_trip.proofs.Stated.{iodevice_again}
use Rattle.iocm_tree_writer.specs.Again.{as_read}
use Rattle.iocm_tree_writer.specs.Given.{IsGivenAction}
use Rattle.iocm_tree_writer.specs.Leaves.{verb_name}
use Rattle.iocm_tree_writer.proofs.Reread.{verb_is_field}
use Rattle.iocm_difference_writer.specs.Runs.{goes_with}
use Rattle.iocm_difference_writer.specs.Written.{devices_put, left_by, line_with}
use Rattle.iocm_difference_writer.proofs.Chains.{IsChain}
use Rattle.iocm_difference_writer.proofs.Groups.{IsLineOf, AreRead, none_read, one_read, both_read}
use Rattle.iocm_difference_writer.proofs.Rising.{Precedes}

-- ---- numbers that follow each other

-- what numbers from one on give is ordered, where what greater numbers give comes later
module _ {A : Type 0} (S : A → A → Type 0) (f : ℕ → A) (later : (m n : ℕ) → m < n → S (f m) (f n)) where
  all_later : (m from count : ℕ) → m < from → AllByRecursion (S (f m)) (map f (range_with_len from count))
  all_later m from zero less = tt
  all_later m from (suc count) less = (later m from less, all_later m (from + 1) count (omega arith))

  pub numbers_ordered : (from count : ℕ) → AreOrdered S (map f (range_with_len from count))
  numbers_ordered from zero = tt
  numbers_ordered from (suc count) = (all_later from (from + 1) count (omega arith), numbers_ordered (from + 1) count)

nat_less : (m n : ℕ) → m < n → nat_cmp m n ≡ Less
nat_less m n less = search rules

pub device_precedes : (set m n : ℕ) → m < n → key_cmp (key.Device set m) (key.Device set n) ≡ Less
device_precedes set m n less = rw (tied_itself nat_cmp_total set, nat_less m n less) refl

-- ---- a run of devices of one statement

device_less : (d : DeviceRecord) (m n : ℕ) → m < n → ComesBefore (device (device_at d m)) (device (device_at d n))
device_less d m n less = device_precedes d.set (d.number + m) (d.number + n) (omega arith)

-- each device of a run is given
devices_given : (r : Run) → IsGivenRun r → (from count : ℕ) → from + count ≤ r.count
    → All IsGiven (map (λ place. device (device_at r.first place)) (range_with_len from count))
devices_given r is from zero within = All-nil IsGiven
devices_given r is from (suc count) within =
    All-cons IsGiven (device (device_at r.first from))
    (map (λ place. device (device_at r.first place)) (range_with_len (from + 1) count))
    (record {
      set = is.first.set;
      number = omega (arith, is.numbers);
      units = is.first.units;
      unit_address = omega (arith, is.addresses);
      candidates = is.first.candidates;
      carried = is.first.carried;
    })
    (devices_given r is (from + 1) count (omega arith))

map_twice : {A B C : Type 0} (f : B → C) (g : A → B) (xs : List A) → map f (map g xs) ≡ map (λ x. f (g x)) xs
map_twice f g [] = refl
map_twice f g (x ∷ xs) = ap (λ rest. f (g x) ∷ rest) (map_twice f g xs)

-- the records of a run
abbrev run_records : Run → List Rec
run_records r = map (λ place. device (device_at r.first place)) (range_with_len 0 r.count)

records_are : (r : Run) → map device (run_devices r) ≡ run_records r
records_are r = map_twice device (device_at r.first) (range_with_len 0 r.count)

all_devices : (r : DeviceRecord) (places : List ℕ)
    → deck_of (map (λ place. device (device_at r place)) places) ≡ map (λ place. device (device_at r place)) places
all_devices r [] = refl
all_devices r (place ∷ places) = ap (λ rest. device (device_at r place) ∷ rest) (all_devices r places)

records_apart : (r : Run) → IsGivenRun r → HasNoKeyTwice (run_records r)
records_apart r is =
    subst HasNoKeyTwice (all_devices r.first (range_with_len 0 r.count))
    (deck_has_no_key_twice (run_records r)
    (numbers_ordered ComesBefore (λ place. device (device_at r.first place)) (device_less r.first) 0 r.count)
    (devices_given r is 0 r.count (omega arith)))

-- ---- a statement in a deck of its own, with a verb in its name field

abbrev as_named : List ℕ → ℕ → Statement → read.Statement
as_named name line s = record { name = name; operation = s.operation; operands = placed 0 s.operands; line = line }

same_unless : (name : List ℕ) (line : ℕ) (images : List ImageRecord) (s : Statement) (fault : Option Rule)
    → records_unless fault images (as_named name line s) ≡ records_unless fault images (as_named [] line s)
same_unless name line images s (Some rule) = refl
same_unless name line images s None = refl

alone_gives : (name : List ℕ) (line : ℕ) (s : Statement) (rs : List Rec) → IsReadAs s rs
    → is_of_changes s.operation ≡ false
    → is_repeated nothing_read s.operation ≡ false → HasNoKeyTwice rs → alone (as_named name line s) ≡ Ok rs
unfolding read_from
alone_gives name line s rs is of_decks once apart =
    let images = machine_images (as_named name line s ∷ []) in
    ap (λ found. found >>= with_statement (at S8 line) nothing_read s.operation >>= λ q. read_from images q [])
    (same_unless name line images s (first_fault nothing_read (as_named name line s)))
    ∙ all_are_read images (s ∷ []) (as_named [] line s ∷ []) nothing_read rs
    (rs, [], is, sym (append-nil rs), refl) (refl, tt) (of_decks, once, tt) apart

run_alone : (name : List ℕ) (line : ℕ) (r : Run) → IsGivenRun r
    → alone (as_named name line (iodevice_statement r)) ≡ Ok (run_records r)
run_alone name line r is =
    alone_gives name line (iodevice_statement r) (run_records r)
    (subst (IsReadAs (iodevice_statement r)) (records_are r) (iodevice_again r is)) refl refl (records_apart r is)

-- ---- its line

-- verbs that leave a record
abbrev pub IsPut : Verb → Type 0
IsPut Add = Unit {0}
IsPut Modify = Unit {0}
IsPut Delete = ⊥

-- what such a verb does with a device
abbrev pub put : Verb → DeviceRecord → Action
put Modify d = modify (device d)
put verb d = add (device d)

run_precedes : (verb : Verb) → IsPut verb → (d : DeviceRecord) (m n : ℕ) → m < n
    → Precedes (put verb (device_at d m)) (put verb (device_at d n))
run_precedes Add is d m n less = device_less d m n less
run_precedes Modify is d m n less = device_less d m n less
run_precedes Delete is d m n less = absurd is

-- the actions of a run
abbrev run_actions : Verb → Run → List Action
run_actions verb r = map (λ place. put verb (device_at r.first place)) (range_with_len 0 r.count)

edits_added : (places : List ℕ) (d : DeviceRecord)
    → map (λ r. bare (add r)) (map (λ place. device (device_at d place)) places)
    ≡ map bare (map (λ place. put Add (device_at d place)) places)
edits_added [] d = refl
edits_added (place ∷ places) d = ap (λ rest. bare (put Add (device_at d place)) ∷ rest) (edits_added places d)

edits_modified : (places : List ℕ) (d : DeviceRecord)
    → map (λ r. bare (modify r)) (map (λ place. device (device_at d place)) places)
    ≡ map bare (map (λ place. put Modify (device_at d place)) places)
edits_modified [] d = refl
edits_modified (place ∷ places) d = ap (λ rest. bare (put Modify (device_at d place)) ∷ rest) (edits_modified places d)

run_is_read : (verb : Verb) → IsPut verb → (r : Run) → IsGivenRun r → (line : ℕ)
    → edits_of (as_read line (line_with verb (iodevice_statement r))) ≡ Ok (map bare (run_actions verb r))
run_is_read Add is r given line =
    ap (λ found. found >>= λ records. Ok (map (λ x. bare (add x)) records)) (run_alone (verb_name Add) line r given)
    ∙ ap Ok (edits_added (range_with_len 0 r.count) r.first)
run_is_read Modify is r given line =
    ap (λ found. found >>= λ records. Ok (map (λ x. bare (modify x)) records))
    (run_alone (verb_name Modify) line r given)
    ∙ ap Ok (edits_modified (range_with_len 0 r.count) r.first)
run_is_read Delete is r given line = absurd is

line_of_run : (verb : Verb) → IsPut verb → (r : Run) → IsGivenRun r
    → IsLineOf (line_with verb (iodevice_statement r)) (run_actions verb r)
line_of_run verb is r given = record {
  can = record { field = verb_is_field verb; statement = (iodevice_again r given).written };
  of_records = tt;
  is_read = run_is_read verb is r given;
  group = record {
    some = omega (arith, length-map-range_with_len (λ place. put verb (device_at r.first place)) 0 r.count, given.some);
    rising = numbers_ordered Precedes (λ place. put verb (device_at r.first place)) (run_precedes verb is r.first) 0
        r.count;
  };
}

-- ---- all runs

devices_of_run : (verb : Verb) (r : Run) → run_actions verb r ≡ map (put verb) (run_devices r)
devices_of_run verb r = sym (map_twice (put verb) (device_at r.first) (range_with_len 0 r.count))

runs_are_read : (verb : Verb) → IsPut verb → (rs : List Run) → All IsGivenRun rs
    → AreRead (map (line_with verb) (map iodevice_statement rs)) (map (put verb) (flat_map run_devices rs))
runs_are_read verb is [] given = none_read
runs_are_read verb is (r ∷ rs) given =
    let first = one_read (line_with verb (iodevice_statement r)) (run_actions verb r)
    (line_of_run verb is r (All-head IsGivenRun r rs given)) in
    subst (AreRead (map (line_with verb) (map iodevice_statement (r ∷ rs))))
    (ap (λ x. x ++ map (put verb) (flat_map run_devices rs)) (devices_of_run verb r)
    ∙ sym (map-append (put verb) (run_devices r) (flat_map run_devices rs)))
    (both_read (line_with verb (iodevice_statement r) ∷ []) (map (line_with verb) (map iodevice_statement rs))
    (run_actions verb r) (map (put verb) (flat_map run_devices rs))
    first (runs_are_read verb is rs (All-tail IsGivenRun r rs given)))

-- ---- devices in the canonical deck

nothing_of : {A : Type 0} (give : Rec → List A) → ((d : DeviceRecord) → give (device d) ≡ []) → (ds : List DeviceRecord)
    → flat_map give (map device ds) ≡ []
nothing_of give none [] = refl
nothing_of give none (d ∷ ds) = ap (λ x. x ++ flat_map give (map device ds)) (none d) ∙ nothing_of give none ds

each_device : (ds : List DeviceRecord) → flat_map devices_of (map device ds) ≡ ds
each_device [] = refl
each_device (d ∷ ds) = ap (λ rest. d ∷ rest) (each_device ds)

pub canonical_devices : (ds : List DeviceRecord) → canonical (map device ds) ≡ map iodevice_statement (runs ds)
canonical_devices ds =
    rw (
      nothing_of id_statements (λ d. refl) ds,
      nothing_of images_of (λ d. refl) ds,
      nothing_of limits_of (λ d. refl) ds,
      nothing_of resource_carried (λ d. refl) ds,
      nothing_of part_statements (λ d. refl) ds,
      each_device ds,
    ) refl

records_left : (verb : Verb) → IsPut verb → (ds : List DeviceRecord)
    → flat_map left_by (map (put verb) ds) ≡ map device ds
records_left verb is [] = refl
records_left Add is (d ∷ ds) = ap (λ rest. device d ∷ rest) (records_left Add is ds)
records_left Modify is (d ∷ ds) = ap (λ rest. device d ∷ rest) (records_left Modify is ds)
records_left Delete is (d ∷ ds) = absurd is

devices_read : (verb : Verb) → IsPut verb → (ds : List DeviceRecord) → All IsGivenDevice ds
    → AreRead (devices_put verb (map (put verb) ds)) (map (put verb) ds)
devices_read verb is ds given =
    let statements : canonical (flat_map left_by (map (put verb) ds)) ≡ map iodevice_statement (runs ds) =
    ap canonical (records_left verb is ds) ∙ canonical_devices ds in
    subst (λ ss. AreRead (map (line_with verb) ss) (map (put verb) ds)) (sym statements)
    (subst (λ all. AreRead (map (line_with verb) (map iodevice_statement (runs ds))) (map (put verb) all))
    (are_runs_of_devices ds)
    (runs_are_read verb is (runs ds) (are_given_runs ds given)))

-- ---- a run of such actions

next_added : (count : ℕ) (d : DeviceRecord) (b : Action) → goes_with count (put Add d) b ≡ true
    → (e : DeviceRecord) × (b ≡ put Add e)
next_added count d (add (id c)) goes = absurd (false≢true goes)
next_added count d (add (resource c)) goes = absurd (false≢true goes)
next_added count d (add (image i)) goes = absurd (false≢true goes)
next_added count d (add (limit l)) goes = absurd (false≢true goes)
next_added count d (add (path p)) goes = absurd (false≢true goes)
next_added count d (add (unit u)) goes = absurd (false≢true goes)
next_added count d (add (device e)) goes = (e, refl)
next_added count d (add (online o)) goes = absurd (false≢true goes)
next_added count d (delete k) goes = absurd (false≢true goes)
next_added count d (modify r) goes = absurd (false≢true goes)

next_modified : (count : ℕ) (d : DeviceRecord) (b : Action) → goes_with count (put Modify d) b ≡ true
    → (e : DeviceRecord) × (b ≡ put Modify e)
next_modified count d (modify (id c)) goes = absurd (false≢true goes)
next_modified count d (modify (resource c)) goes = absurd (false≢true goes)
next_modified count d (modify (image i)) goes = absurd (false≢true goes)
next_modified count d (modify (limit l)) goes = absurd (false≢true goes)
next_modified count d (modify (path p)) goes = absurd (false≢true goes)
next_modified count d (modify (unit u)) goes = absurd (false≢true goes)
next_modified count d (modify (device e)) goes = (e, refl)
next_modified count d (modify (online o)) goes = absurd (false≢true goes)
next_modified count d (delete k) goes = absurd (false≢true goes)
next_modified count d (add r) goes = absurd (false≢true goes)

next_put : (verb : Verb) → IsPut verb → (count : ℕ) (d : DeviceRecord) (b : Action)
    → goes_with count (put verb d) b ≡ true → (e : DeviceRecord) × (b ≡ put verb e)
next_put Add is count d b goes = next_added count d b goes
next_put Modify is count d b goes = next_modified count d b goes
next_put Delete is count d b goes = absurd is

devices_in_chain : (verb : Verb) → IsPut verb → (count : ℕ) (d : DeviceRecord) (actions : List Action)
    → IsChain count (put verb d) actions
    → (ds : List DeviceRecord) × (actions ≡ map (put verb) ds)
devices_in_chain verb is count d [] chain = ([], refl)
devices_in_chain verb is count d (b ∷ actions) chain =
    let next = next_put verb is count d b chain.0 in
    let rest = devices_in_chain verb is (count + 1) next.0 actions
    (subst (λ x. IsChain (count + 1) x actions) next.1 chain.1) in
    (next.0 ∷ rest.0, λ i. next.1 i ∷ rest.1 i)

device_is_given : (verb : Verb) → IsPut verb → (d : DeviceRecord) → IsGivenAction (put verb d) → IsGivenDevice d
device_is_given Add is d given = given
device_is_given Modify is d given = given
device_is_given Delete is d given = absurd is

devices_are_given : (verb : Verb) → IsPut verb → (ds : List DeviceRecord) → All IsGivenAction (map (put verb) ds)
    → All IsGivenDevice ds
devices_are_given verb is [] given = All-nil IsGivenDevice
devices_are_given verb is (d ∷ ds) given =
    All-cons IsGivenDevice d ds
    (device_is_given verb is d (All-head IsGivenAction (put verb d) (map (put verb) ds) given))
    (devices_are_given verb is ds (All-tail IsGivenAction (put verb d) (map (put verb) ds) given))

-- a run that begins with a device that is added or modified
pub devices_run_read : (verb : Verb) → IsPut verb → (d : DeviceRecord) (actions : List Action)
    → IsChain 1 (put verb d) actions
    → All IsGivenAction (put verb d ∷ actions)
    → AreRead (devices_put verb (put verb d ∷ actions)) (put verb d ∷ actions)
devices_run_read verb is d actions chain given =
    let rest = devices_in_chain verb is 1 d actions chain in
    let same : put verb d ∷ actions ≡ map (put verb) (d ∷ rest.0) = ap (λ x. put verb d ∷ x) rest.1 in
    subst (λ run. AreRead (devices_put verb run) run) (sym same)
    (devices_read verb is (d ∷ rest.0) (devices_are_given verb is (d ∷ rest.0) (subst (All IsGivenAction) same given)))
