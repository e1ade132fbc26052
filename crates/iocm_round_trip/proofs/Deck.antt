-- The statements of a canonical deck are read as the records of the deck, one behind the other.
use Rattle.std.proofs.Common.{◌≡◌, ◌≢◌, ℕ, Bool, true, false, List, [], ◌∷◌, ◌++◌, map, All, Ok, ◌||◌, refl, sym, ap}
use Rattle.std.proofs.Common.{◌∙◌, subst, append-nil, append_assoc, length, codes, arith}
use Rattle.std.proofs.Math.Dec.{eqb-suc-zero}
use Rattle.std.proofs.lemmas.List.{map-append}
use Rattle.std.proofs.lemmas.List.Elements.{All-nil, All-cons, All-head, All-tail, All-append}
use Rattle.std.specs.List.{AllByRecursion, flat_map}
use Rattle.iocm_types.specs.Fault.{◌>>=◌}
use Rattle.iocm_model.specs.Machine.Configuration.{HasNoKeyTwice, records_of}
use Rattle.iocm_model.specs.Machine.Record.{Rec, CarriedOperand, ImageRecord, LimitRecord, DeviceRecord, id, resource}
use Rattle.iocm_model.specs.Machine.Record.{image, limit, path, unit, device, online}
use Rattle.iocm_statements.specs.declared.operation.Operation.{Operation}
use Rattle.iocm_statements.specs.declared.operation.Operation.TheVariants.{Id, Resource}
use Rattle.iocm_keywords.specs.Known.{is_carried}
use Rattle.iocm_operands.specs.Limits.{limits_text}
use Rattle.iocm_operands.specs.Resource.{images_text}
use Rattle.iocm_record_reader.specs.Deck.{deck_records, is_id, is_of_changes, is_repeated, is_resource, machine_images}
use Rattle.iocm_record_reader.specs.Deck.{nothing_read}
use Rattle.iocm_record_reader.specs.ResourceRecords.{carried_records}
use Rattle.iocm_deck_writer.specs.Again.{IsPlaceable}
use Rattle.iocm_deck_writer.specs.Canonical.{canonical, id_statements, part_statements, chpid_statement}
use Rattle.iocm_deck_writer.specs.Canonical.{cntlunit_statement}
use Rattle.iocm_deck_writer.specs.Device.{Run, runs, devices_of, iodevice_statement, iodevice_statements}
use Rattle.iocm_deck_writer.specs.Resource.{images_of, limits_of, resource_carried, resource_operands}
use Rattle.iocm_deck_writer.specs.Resource.{resource_statements, with_operands}
use Rattle.iocm_deck_writer.specs.Statement.{Statement, valued, if_any}
use Rattle.iocm_round_trip.specs.Again.{deck_of, ReadsDeckAgain}
use Rattle.iocm_round_trip.specs.Given.{IsGiven, IsGivenDevice, IsInColumns, AreCarriedBy, as_operand}
use Rattle.iocm_round_trip.specs.Running.{IsGivenRun, run_devices}
use Rattle.iocm_round_trip.specs.Stating.{IsReadAs, path_records}
use Rattle.iocm_round_trip.proofs.ByKind.{AreOrdered, ids, resources, parts, records_by_kind, deck_by_kind}
use Rattle.iocm_round_trip.proofs.BySubsystem.{images_by_css, limits_are}
use Rattle.iocm_round_trip.proofs.Columns.{statements_are_read_again}
use Rattle.iocm_round_trip.proofs.InOrder.{ComesBefore, records_ordered, by_kind}
use Rattle.iocm_round_trip.proofs.OneKey.{deck_has_no_key_twice}
use Rattle.iocm_round_trip.proofs.Reading.{Give, give_both, written_each, AreOnce, all_are_read}
use Rattle.iocm_round_trip.proofs.Stated.{id_again, resource_again, chpid_again, cntlunit_again, iodevice_again}
use Rattle.iocm_round_trip.proofs.Running.{are_runs_of_devices, are_given_runs}

give_one : (s : Statement) (rs : List Rec) → IsReadAs s rs → Give (s ∷ []) rs
give_one s rs is = (rs, [], is, sym (append-nil rs), refl)

-- what each record gives is read as what it is to be read as
give_each : (statements : Rec → List Statement) (records : Rec → List Rec)
    → ((r : Rec) → IsGiven r → Give (statements r) (records r))
    → (rs : List Rec) → All IsGiven rs → Give (flat_map statements rs) (flat_map records rs)
give_each statements records one [] are = refl
give_each statements records one (r ∷ rs) are =
    give_both (statements r) (flat_map statements rs) (records r) (flat_map records rs)
    (one r (All-head IsGiven r rs are)) (give_each statements records one rs (All-tail IsGiven r rs are))

-- ---- devices

device_given : (r : Rec) → IsGiven r → All IsGivenDevice (devices_of r)
device_given (id carried) is = All-nil IsGivenDevice
device_given (resource carried) is = All-nil IsGivenDevice
device_given (image i) is = All-nil IsGivenDevice
device_given (limit l) is = All-nil IsGivenDevice
device_given (path p) is = All-nil IsGivenDevice
device_given (unit u) is = All-nil IsGivenDevice
device_given (device d) is = All-cons IsGivenDevice d [] is (All-nil IsGivenDevice)
device_given (online o) is = All-nil IsGivenDevice

devices_given : (rs : List Rec) → All IsGiven rs → All IsGivenDevice (flat_map devices_of rs)
devices_given [] are = All-nil IsGivenDevice
devices_given (r ∷ rs) are =
    All-append IsGivenDevice (devices_of r) (flat_map devices_of rs) (device_given r (All-head IsGiven r rs are))
    (devices_given rs (All-tail IsGiven r rs are))

-- ---- what a RESOURCE statement carries is of one record

-- the kinds behind RESOURCE
IsLater : Rec → Type 0
IsLater r = (resource_carried r ≡ []) × (resources r ≡ [])

later : (carried : List CarriedOperand) (r : Rec) → ComesBefore (resource carried) r → IsLater r
unfolding IsLater
later carried (id c) less = cc
later carried (resource c) less = cc
later carried (image i) less = (refl, refl)
later carried (limit l) less = (refl, refl)
later carried (path p) less = (refl, refl)
later carried (unit u) less = (refl, refl)
later carried (device d) less = (refl, refl)
later carried (online o) less = (refl, refl)

all_later : (carried : List CarriedOperand) (rs : List Rec) → AllByRecursion (ComesBefore (resource carried)) rs
    → (flat_map resource_carried rs ≡ []) × (flat_map resources rs ≡ [])
unfolding IsLater
all_later carried [] behind = (refl, refl)
all_later carried (r ∷ rs) behind =
    let here = later carried r behind.0 in
    let rest = all_later carried rs behind.1 in (rw (here.0, rest.0) refl, rw (here.1, rest.1) refl)

carried_record : (carried : List CarriedOperand) → carried ≢ [] → resource carried ∷ [] ≡ carried_records carried
carried_record [] some = absurd (some refl)
carried_record (o ∷ carried) some = refl

resources_are : (rs : List Rec) → AreOrdered ComesBefore rs → All IsGiven rs
    → flat_map resources rs ≡ carried_records (flat_map resource_carried rs)
resources_are [] ordered are = refl
resources_are (id c ∷ rs) ordered are = resources_are rs ordered.1 (All-tail IsGiven (id c) rs are)
resources_are (resource carried ∷ rs) ordered are =
    let rest = all_later carried rs ordered.0 in
    rw (rest.0, rest.1) (carried_record carried (All-head IsGiven (resource carried) rs are).some
    ∙ ap carried_records (sym (append-nil carried)))
resources_are (image i ∷ rs) ordered are = resources_are rs ordered.1 (All-tail IsGiven (image i) rs are)
resources_are (limit l ∷ rs) ordered are = resources_are rs ordered.1 (All-tail IsGiven (limit l) rs are)
resources_are (path p ∷ rs) ordered are = resources_are rs ordered.1 (All-tail IsGiven (path p) rs are)
resources_are (unit u ∷ rs) ordered are = resources_are rs ordered.1 (All-tail IsGiven (unit u) rs are)
resources_are (device d ∷ rs) ordered are = resources_are rs ordered.1 (All-tail IsGiven (device d) rs are)
resources_are (online o ∷ rs) ordered are = resources_are rs ordered.1 (All-tail IsGiven (online o) rs are)

pub nothing_carried : (operation : Operation) → AreCarriedBy operation []
nothing_carried operation = record {
  placeable = record { each = All-nil IsPlaceable; apart = λ i j d below within. absurd (omega arith) };
  texts = All-nil (λ (o : CarriedOperand). IsInColumns o.text);
  unknown = All-nil (λ (o : CarriedOperand). is_carried operation (as_operand o) ≡ true);
}

carried_given : (rs : List Rec) → AreOrdered ComesBefore rs → All IsGiven rs
    → AreCarriedBy Resource (flat_map resource_carried rs)
carried_given [] ordered are = nothing_carried Resource
carried_given (id c ∷ rs) ordered are = carried_given rs ordered.1 (All-tail IsGiven (id c) rs are)
carried_given (resource carried ∷ rs) ordered are =
    let alone : carried ≡ flat_map resource_carried (resource carried ∷ rs) =
    sym (append-nil carried) ∙ ap (λ more. carried ++ more) (sym (all_later carried rs ordered.0).0) in
    subst (AreCarriedBy Resource) alone (All-head IsGiven (resource carried) rs are).carried
carried_given (image i ∷ rs) ordered are = carried_given rs ordered.1 (All-tail IsGiven (image i) rs are)
carried_given (limit l ∷ rs) ordered are = carried_given rs ordered.1 (All-tail IsGiven (limit l) rs are)
carried_given (path p ∷ rs) ordered are = carried_given rs ordered.1 (All-tail IsGiven (path p) rs are)
carried_given (unit u ∷ rs) ordered are = carried_given rs ordered.1 (All-tail IsGiven (unit u) rs are)
carried_given (device d ∷ rs) ordered are = carried_given rs ordered.1 (All-tail IsGiven (device d) rs are)
carried_given (online o ∷ rs) ordered are = carried_given rs ordered.1 (All-tail IsGiven (online o) rs are)

-- ---- RESOURCE

-- the records of its statement
abbrev resource_all : List ImageRecord → List LimitRecord → List CarriedOperand → List Rec
resource_all images limits carried = carried_records carried ++ (map image images ++ map limit limits)

-- operands of one item or more are written
is_there : {A : Type 0} (word : List ℕ) (x : A) (xs : List A) (text : List ℕ) (more : List CarriedOperand)
    → valued word (if_any (x ∷ xs) text) ++ more ≢ []
is_there word x xs text more = rw (eqb-suc-zero (length xs)) (λ none. cc)

nothing_written : (images : List ImageRecord) (limits : List LimitRecord) (carried : List CarriedOperand)
    → resource_operands images limits ++ carried ≡ [] → resource_all images limits carried ≡ []
nothing_written [] [] [] none = refl
nothing_written [] [] (c ∷ cs) none = cc
nothing_written [] (l ∷ ls) carried none = absurd (is_there (codes "MAXDEV") l ls (limits_text (l ∷ ls)) carried none)
nothing_written (i ∷ is) limits carried none =
    absurd (is_there (codes "PARTITION") i is (images_text (i ∷ is))
    (valued (codes "MAXDEV") (if_any limits (limits_text limits)) ++ carried)
    (sym (append_assoc (valued (codes "PARTITION") (if_any (i ∷ is) (images_text (i ∷ is))))
    (valued (codes "MAXDEV") (if_any limits (limits_text limits))) carried) ∙ none))

give_operands : (operands : List CarriedOperand) (out : List Rec) → (operands ≡ [] → out ≡ [])
    → IsReadAs (record { operation = Resource; operands = operands }) out → Give (with_operands operands) out
give_operands [] out none is = none refl
give_operands (o ∷ os) out none is = give_one (record { operation = Resource; operands = o ∷ os }) out is

-- ---- each once

-- a statement that may stand more than once
abbrev MayRepeat : Statement → Type 0
MayRepeat s = (is_of_changes s.operation ≡ false)
    × ((had_id had_resource : Bool)
    → is_repeated (record { has_id = had_id; has_resource = had_resource; records = [] }) s.operation ≡ false)

all_once : (ss : List Statement) → AllByRecursion MayRepeat ss → (had_id had_resource : Bool)
    → AreOnce had_id had_resource ss
all_once [] may had_id had_resource = tt
all_once (s ∷ ss) may had_id had_resource = (
  may.0.0,
  may.0.1 had_id had_resource,
  all_once ss may.1 (had_id || is_id s.operation) (had_resource || is_resource s.operation),
)

may_both : (ss tt : List Statement) → AllByRecursion MayRepeat ss → AllByRecursion MayRepeat tt
    → AllByRecursion MayRepeat (ss ++ tt)
may_both [] tt first second = second
may_both (s ∷ ss) tt first second = (first.0, may_both ss tt first.1 second)

part_may : (r : Rec) → AllByRecursion MayRepeat (part_statements r)
part_may (id carried) = tt
part_may (resource carried) = tt
part_may (image i) = tt
part_may (limit l) = tt
part_may (path p) = ((refl, λ _ _. refl), tt)
part_may (unit u) = ((refl, λ _ _. refl), tt)
part_may (device d) = tt
part_may (online o) = tt

parts_may : (rs : List Rec) → AllByRecursion MayRepeat (flat_map part_statements rs)
parts_may [] = tt
parts_may (r ∷ rs) = may_both (part_statements r) (flat_map part_statements rs) (part_may r) (parts_may rs)

runs_may : (rl : List Run) → AllByRecursion MayRepeat (map iodevice_statement rl)
runs_may [] = tt
runs_may (r ∷ rl) = ((refl, λ _ _. refl), runs_may rl)

resource_once : (operands : List CarriedOperand) (ss : List Statement) → AllByRecursion MayRepeat ss → (had_id : Bool)
    → AreOnce had_id false (with_operands operands ++ ss)
resource_once [] ss may had_id = all_once ss may had_id false
resource_once (o ∷ os) ss may had_id = (refl, refl, all_once ss may (had_id || false) true)

no_more_ids : (carried : List CarriedOperand) (rs : List Rec) → AllByRecursion (ComesBefore (id carried)) rs
    → flat_map id_statements rs ≡ []
no_more_ids carried [] behind = refl
no_more_ids carried (id c ∷ rs) behind = cc
no_more_ids carried (resource c ∷ rs) behind = no_more_ids carried rs behind.1
no_more_ids carried (image i ∷ rs) behind = no_more_ids carried rs behind.1
no_more_ids carried (limit l ∷ rs) behind = no_more_ids carried rs behind.1
no_more_ids carried (path p ∷ rs) behind = no_more_ids carried rs behind.1
no_more_ids carried (unit u ∷ rs) behind = no_more_ids carried rs behind.1
no_more_ids carried (device d ∷ rs) behind = no_more_ids carried rs behind.1
no_more_ids carried (online o ∷ rs) behind = no_more_ids carried rs behind.1

ids_once : (rs : List Rec) (ss : List Statement) → AreOrdered ComesBefore rs
    → ((had_id : Bool) → AreOnce had_id false ss) → AreOnce false false (flat_map id_statements rs ++ ss)
ids_once [] ss ordered once = once false
ids_once (id carried ∷ rs) ss ordered once = rw (no_more_ids carried rs ordered.0) (refl, refl, once true)
ids_once (resource c ∷ rs) ss ordered once = ids_once rs ss ordered.1 once
ids_once (image i ∷ rs) ss ordered once = ids_once rs ss ordered.1 once
ids_once (limit l ∷ rs) ss ordered once = ids_once rs ss ordered.1 once
ids_once (path p ∷ rs) ss ordered once = ids_once rs ss ordered.1 once
ids_once (unit u ∷ rs) ss ordered once = ids_once rs ss ordered.1 once
ids_once (device d ∷ rs) ss ordered once = ids_once rs ss ordered.1 once
ids_once (online o ∷ rs) ss ordered once = ids_once rs ss ordered.1 once

each_once : (rs : List Rec) → AreOrdered ComesBefore rs → AreOnce false false (canonical rs)
each_once rs ordered = ids_once rs (resource_statements rs ++ (flat_map part_statements rs ++ iodevice_statements rs))
    ordered
    (resource_once (resource_operands (flat_map images_of rs) (flat_map limits_of rs) ++ flat_map resource_carried rs)
    (flat_map part_statements rs ++ iodevice_statements rs)
    (may_both (flat_map part_statements rs) (iodevice_statements rs) (parts_may rs)
    (runs_may (runs (flat_map devices_of rs)))))

-- ---- the deck

give_id : (r : Rec) → IsGiven r → Give (id_statements r) (ids r)
give_id (id carried) is =
    give_one (record { operation = Id; operands = carried }) (id carried ∷ []) (id_again carried is)
give_id (resource carried) is = refl
give_id (image i) is = refl
give_id (limit l) is = refl
give_id (path p) is = refl
give_id (unit u) is = refl
give_id (device d) is = refl
give_id (online o) is = refl

give_part : (r : Rec) → IsGiven r → Give (part_statements r) (parts r)
give_part (id carried) is = refl
give_part (resource carried) is = refl
give_part (image i) is = refl
give_part (limit l) is = refl
give_part (path p) is = give_one (chpid_statement p) (path_records p) (chpid_again p is)
give_part (unit u) is = give_one (cntlunit_statement u) (unit u ∷ []) (cntlunit_again u is)
give_part (device d) is = refl
give_part (online o) is = refl

give_runs : (rl : List Run) → All IsGivenRun rl
    → Give (map iodevice_statement rl) (map device (flat_map run_devices rl))
give_runs [] are = refl
give_runs (r ∷ rl) are = (
  map device (run_devices r),
  map device (flat_map run_devices rl),
  iodevice_again r (All-head IsGivenRun r rl are),
  map-append device (run_devices r) (flat_map run_devices rl),
  give_runs rl (All-tail IsGivenRun r rl are),
)

give_devices : (ds : List DeviceRecord) → All IsGivenDevice ds → Give (map iodevice_statement (runs ds)) (map device ds)
give_devices ds are = subst (λ out. Give (map iodevice_statement (runs ds)) (map device out)) (are_runs_of_devices ds)
    (give_runs (runs ds) (are_given_runs ds are))

give_resource : (rs : List Rec) → AreOrdered ComesBefore rs → All IsGiven rs
    → Give (resource_statements rs)
    (flat_map resources rs ++ (map image (flat_map images_of rs) ++ map limit (flat_map limits_of rs)))
give_resource rs ordered are =
    let images = flat_map images_of rs in
    let limits = flat_map limits_of rs in
    let carried = flat_map resource_carried rs in
    subst (λ first. Give (resource_statements rs) (first ++ (map image images ++ map limit limits)))
    (sym (resources_are rs ordered are))
    (give_operands (resource_operands images limits ++ carried) (resource_all images limits carried)
    (nothing_written images limits carried)
    (resource_again images limits carried (images_by_css rs ordered are) (limits_are rs ordered are)
    (carried_given rs ordered are)))

give_all : (rs : List Rec) → AreOrdered ComesBefore rs → All IsGiven rs → Give (canonical rs) (records_by_kind rs)
give_all rs ordered are =
    give_both (flat_map id_statements rs) _ (flat_map ids rs) _ (give_each id_statements ids give_id rs are)
    (give_both (resource_statements rs) _ _ _ (give_resource rs ordered are)
    (give_both (flat_map part_statements rs) (iodevice_statements rs) (flat_map parts rs) _
    (give_each part_statements parts give_part rs are)
    (give_devices (flat_map devices_of rs) (devices_given rs are))))

pub deck_is_read_again : ReadsDeckAgain
deck_is_read_again c own are =
    let rs = records_of c in
    let ordered = records_ordered c own in
    let give = give_all rs ordered are in
    let again = statements_are_read_again (canonical rs) (written_each (canonical rs) (records_by_kind rs) give) in
    let same : deck_of rs ≡ records_by_kind rs = deck_by_kind rs (by_kind rs ordered) in
    ap (λ statements. statements >>= deck_records) again.is_read
    ∙ all_are_read (machine_images again.read) (canonical rs) again.read nothing_read (records_by_kind rs) give
    again.same (each_once rs ordered)
    (subst HasNoKeyTwice same (deck_has_no_key_twice rs ordered are))
    ∙ ap Ok (sym same)
