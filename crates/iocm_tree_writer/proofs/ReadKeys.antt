-- The keys that a DELETE gives are those of a machine.
use Rattle.std.proofs.Common.{◌≡◌, ℕ, ◌+◌, ◌<◌, ◌≤◌, ◌==◌, nat_lt, Bool, true, false, cond, Option, Some, None, List}
use Rattle.std.proofs.Common.{[], ◌∷◌, ◌++◌, All, map, filter, Ok, codes, refl, sym, ◌∙◌, subst, arith, eqb-true}
use Rattle.std.proofs.lemmas.Bool.Decides.{nat_tests}
use Rattle.std.proofs.lemmas.List.Elements.{All-nil, All-cons, All-head, All-tail, All-append, All-map, filter_passes}
use Rattle.std.proofs.lemmas.List.FromFn.{length-range_with_len, get_or-range_with_len}
use Rattle.std.specs.List.{filter_map, range_with_len}
use Rattle.std.specs.Option.{option_map}
use Rattle.std.specs.Result.{IfOk}
use Rattle.iocm_types.specs.declared.css_path.CssPath.{CssPath}
use Rattle.iocm_types.specs.declared.fault.Fault.{Fault}
use Rattle.iocm_types.specs.declared.key.Key.{Key}
use Rattle.iocm_types.specs.declared.key.Key.TheVariants as key
use Rattle.iocm_types.specs.declared.rule.Rule.{Rule}
use Rattle.iocm_types.specs.declared.rule.Rule.TheVariants.{S4}
use Rattle.iocm_types.specs.Fault.{at}
use Rattle.iocm_types.specs.Fault as then
use Rattle.iocm_types.specs.Name.{is_name, name_of}
use Rattle.iocm_types.proofs.Giving.{in_turn}
use Rattle.iocm_model.specs.Machine.Numbering.{subsystems}
use Rattle.iocm_statements.specs.declared.operation.Operation.{Operation}
use Rattle.iocm_statements.specs.declared.operation.Operation.TheVariants.{Id, Resource, Chpid, Cntlunit, Iodevice}
use Rattle.iocm_statements.specs.declared.operation.Operation.TheVariants.{Online, Row, Group, Choose, End}
use Rattle.iocm_statements.specs.declared.statement.Statement.{Statement}
use Rattle.iocm_statements.specs.Operands.{Operand, text_under}
use Rattle.iocm_values.specs.NameSet.{name_item}
use Rattle.iocm_values.specs.Reading.{◌>>=◌, every, every_at, gathered}
use Rattle.iocm_values.specs.Value.{Value, word, list, items, word_text}
use Rattle.iocm_operands.specs.declared.device.Devices.{Devices}
use Rattle.iocm_operands.specs.Again.{IsPath, AreDevices}
use Rattle.iocm_operands.specs.ChpidPath.{path_of}
use Rattle.iocm_operands.specs.Device.{devices_of, set_of}
use Rattle.iocm_operands.specs.Resource.{mif_of}
use Rattle.iocm_operands.specs.Unit.{number_of}
use Rattle.iocm_operands.proofs.Given.{no_value, same_value, step_gave, then_gave, map_gave, test_gave, hex_small}
use Rattle.iocm_operands.proofs.Given.{not_zero, every_gave, path_given, number_given, set_given, devices_given}
use Rattle.iocm_operands.proofs.Ordered.{by_css_gave}
use Rattle.iocm_record_reader.specs.ChpidRecords.{chpid_path}
use Rattle.iocm_record_reader.specs.DeviceRecords.{statement_devices, device_set}
use Rattle.iocm_record_reader.specs.UnitRecords.{unit_number}
use Rattle.iocm_record_reader.specs.Values.{optional}
use Rattle.iocm_tree.specs.declared.verb.Verb.TheVariants.{Delete}
use Rattle.iocm_values.specs.SetPlaces.{place_at, set_places_in}
use Rattle.iocm_change_records.specs.declared.image_keys.ImageKey.{ImageKey}
use Rattle.iocm_change_records.specs.declared.limit_keys.LimitSeat.{LimitSeat}
use Rattle.iocm_change_records.specs.declared.pairs.Pairs.{Pairs}
use Rattle.iocm_change_records.specs.Keys.{device_keys, pair_keys, keys_given, key_fault, keys_unless, keys_by}
use Rattle.iocm_change_records.specs.Pairs.{names_listed, pairs_of}
use Rattle.iocm_change_records.specs.ResourceKeys.{is_empty, image_key, image_key_listed, image_keys, key_of_image}
use Rattle.iocm_change_records.specs.ResourceKeys.{limit_key_in, limit_keys, resource_keys, resource_keys_by}
use Rattle.iocm_round_trip.proofs.Fields.{required_gives, optional_gives}
use Rattle.iocm_tree_writer.specs.Given.{IsGivenKey, IsImagePlace}

abbrev AreKeys : List Key → Type 0
AreKeys keys = All IsGivenKey keys

one_key : (k : Key) → IsGivenKey k → AreKeys (k ∷ [])
one_key k is = All-cons IsGivenKey k [] is (All-nil IsGivenKey)

-- ---- pairs of a path and a name

abbrev IsName : List ℕ → Type 0
IsName name = is_name name ≡ true

item_is_name : (v : Value) (name : List ℕ) → name_item v ≡ Some name → IsName name
item_is_name v name e =
    let text = then_gave (word_text v) name_of name e in
    let gave = test_gave (is_name text.0) (Some text.0) name text.2 in
    subst IsName (same_value text.0 name gave.1) gave.0

names_are : (v : Value) (names : List (List ℕ)) → names_listed v ≡ Some names → All IsName names
names_are v names e =
    let gave = step_gave (items v) (every name_item) names e in
    (every_gave IsName name_item item_is_name gave.0 names gave.2).0

-- a path, and names
pub record ArePairs (p : Pairs) : Type 0 where
  pub path : IsPath p.path
  pub names : All IsName p.names

pub pairs_given : (fault : Fault) (operands : List Operand) → IfOk (pairs_of fault operands) ArePairs
pairs_given fault operands =
    in_turn IsPath ArePairs (chpid_path fault operands) _
    (required_gives IsPath fault path_of path_given (codes "PATH") operands) (λ path path_is.
    in_turn (All IsName) ArePairs _ _
    (required_gives (All IsName) fault names_listed names_are (codes "PARTITION") operands) (λ names names_is.
    record { path = path_is; names = names_is }))

pair_keys_are : (p : Pairs) → ArePairs p → AreKeys (pair_keys p)
pair_keys_are p are =
    All-map IsGivenKey (λ name. key.Online p.path.css p.path.path name) p.names
    (λ k d within. record { path = are.path; named = are.names k d within })

-- ---- devices

places_within : (count : ℕ) → All (λ place. place < count) (range_with_len 0 count)
places_within count k d within =
    let inside : k < count = omega (arith, within, length-range_with_len 0 count) in
    omega (arith, inside, get_or-range_with_len 0 count k d inside)

device_keys_are : (set : ℕ) (d : Devices) → set ≤ 3 → AreDevices d → AreKeys (device_keys set d)
device_keys_are set d small are =
    let last = are.last in
    All-map IsGivenKey (λ place. key.Device set (d.first + place)) (range_with_len 0 d.count)
    (λ k place within. let inside = places_within d.count k place within in record
    { within = small; last = omega (arith, last, inside) })

-- ---- images

mif_is : (text : List ℕ) (mif : ℕ) → mif_of text ≡ Some mif → (1 ≤ mif) × (mif ≤ 15)
mif_is text mif e =
    let gave = then_gave _ (λ m. cond (m == 0) None (Some m)) mif e in
    let some = not_zero gave.0 mif gave.2 in
    (some.1, subst (λ k. k ≤ 15) some.0 (hex_small 15 1 gave.0 text gave.1))

abbrev IsImageKey : ImageKey → Type 0
IsImageKey i = IsImagePlace i.css i.mif

listed_is_image : (css : ℕ) (vs : List Value) (i : ImageKey) → css < 6 → image_key_listed css vs ≡ Some i → IsImageKey i
listed_is_image css [] i small e = no_value i e
listed_is_image css (name ∷ []) i small e = no_value i e
listed_is_image css (name ∷ list inner ∷ vs) i small e = no_value i e
listed_is_image css (name ∷ word digit ∷ v ∷ vs) i small e = no_value i e
listed_is_image css (name ∷ word digit ∷ []) i small e = by (is_empty name) e
  where
    by : (empty : Bool) → cond empty None (option_map (λ mif. record { css = css; mif = mif }) (mif_of digit)) ≡ Some i
        → IsImageKey i
    by true e = no_value i e
    by false e =
        let gave = map_gave (mif_of digit) (λ mif. record { css = css; mif = mif }) i e in
        let mif = mif_is digit gave.0 gave.1 in
        subst IsImageKey gave.2 (record { subsystem = small; some = mif.0; most = mif.1 })

key_is_image : (css : ℕ) (v : Value) (i : ImageKey) → css < 6 → image_key css v ≡ Some i → IsImageKey i
key_is_image css v i small e =
    let gave = step_gave (items v) (image_key_listed css) i e in
    listed_is_image css gave.0 i small gave.2

image_keys_are : (v : Value) (keys : List Key) → image_keys v ≡ Some keys → AreKeys keys
image_keys_are v keys e =
    let gave = map_gave _ (map key_of_image) keys e in
    let images = by_css_gave IsImageKey image_key (λ (i : ImageKey). i.css) key_is_image (λ i is. is.subsystem) v gave.0
    gave.1 in
    subst AreKeys gave.2 (All-map IsGivenKey key_of_image gave.0 images.each)

-- ---- limits

-- a key, if there is one
abbrev IsKeyIfAny : Option Key → Type 0
IsKeyIfAny found = (k : Key) → found ≡ Some k → IsGivenKey k

keys_kept : (all : List (Option Key)) → All IsKeyIfAny all → AreKeys (filter_map (λ k. k) all)
keys_kept [] are = All-nil IsGivenKey
keys_kept (None ∷ all) are = keys_kept all (All-tail IsKeyIfAny None all are)
keys_kept (Some k ∷ all) are =
    All-cons IsGivenKey k (filter_map (λ x. x) all) (All-head IsKeyIfAny (Some k) all are k refl)
    (keys_kept all (All-tail IsKeyIfAny (Some k) all are))

-- the key of the place of a set, 0 to 3
abbrev limit_key_at : ℕ → LimitSeat → Option (Option Key)
limit_key_at set p = place_at limit_key_in set p

-- the keys of the places of a channel subsystem
abbrev limit_keys_in : List LimitSeat → ℕ → Option (List Key)
limit_keys_in places css = set_places_in limit_key_in (λ (p : LimitSeat). p.css) places css

place_is_key : (set : ℕ) (p : LimitSeat) (found : Option Key) → p.css < 6 → limit_key_at set p ≡ Some found
    → IsKeyIfAny found
place_is_key set p found small e =
    let gave = test_gave (nat_lt set 4) (Some (cond p.is_empty None (Some (key.Limit p.css set)))) found e in
    by p.is_empty gave.0 (same_value (cond p.is_empty None (Some (key.Limit p.css set))) found gave.1)
  where
    four : nat_lt set 4 ≡ true → set < 4
    four less = grind (arith, nat_tests)

    by : (empty : Bool) → nat_lt set 4 ≡ true → cond empty None (Some (key.Limit p.css set)) ≡ found → IsKeyIfAny found
    by true less same = λ k is. no_value k (same ∙ is)
    by false less same = λ k is.
        subst IsGivenKey (same_value (key.Limit p.css set) k (same ∙ is))
        (record { subsystem = small; within = four less })

places_are_keys : (from : ℕ) (ps : List LimitSeat) (os : List (Option Key)) → All (λ (p : LimitSeat). p.css < 6) ps
    → every_at limit_key_at from ps ≡ Some os
    → All IsKeyIfAny os
unfolding every_at
places_are_keys from [] os small e = subst (All IsKeyIfAny) (same_value [] os e) (All-nil IsKeyIfAny)
places_are_keys from (p ∷ ps) os small e =
    let first = step_gave (limit_key_at from p) (λ y. every_at limit_key_at (from + 1) ps >>= λ ys. Some (y ∷ ys)) os
    e in
    let rest = step_gave (every_at limit_key_at (from + 1) ps) (λ ys. Some (first.0 ∷ ys)) os first.2 in
    subst (All IsKeyIfAny) (same_value (first.0 ∷ rest.0) os rest.2)
    (All-cons IsKeyIfAny first.0 rest.0
    (place_is_key from p first.0 (All-head (λ (q : LimitSeat). q.css < 6) p ps small) first.1)
    (places_are_keys (from + 1) ps rest.0 (All-tail (λ (q : LimitSeat). q.css < 6) p ps small) rest.1))

subsystem_keys_are : (places : List LimitSeat) (css : ℕ) (keys : List Key) → css < 6
    → limit_keys_in places css ≡ Some keys → AreKeys keys
subsystem_keys_are places css keys small e =
    let own = filter (λ (p : LimitSeat). p.css == css) places in
    let gave = map_gave (every_at limit_key_at 0 own) (filter_map (λ k. k)) keys e in
    let here : All (λ (p : LimitSeat). p.css < 6) own =
    (λ k d within. subst (λ n. n < 6)
    (sym (eqb-true _ css (filter_passes (λ (p : LimitSeat). p.css == css) places k d within))) small) in
    subst AreKeys gave.2 (keys_kept gave.0 (places_are_keys 0 own gave.0 here gave.1))

abbrev AreSubsystems : List ℕ → Type 0
AreSubsystems [] = Unit {0}
AreSubsystems (css ∷ all) = (css < 6) × AreSubsystems all

gathered_are_keys : (places : List LimitSeat) (all : List ℕ) (keys : List Key) → AreSubsystems all
    → gathered (limit_keys_in places) all ≡ Some keys → AreKeys keys
unfolding gathered
gathered_are_keys places [] keys small e = subst AreKeys (same_value [] keys e) (All-nil IsGivenKey)
gathered_are_keys places (css ∷ all) keys small e =
    let first = step_gave (limit_keys_in places css)
    (λ ys. gathered (limit_keys_in places) all >>= λ zs. Some (ys ++ zs)) keys e in
    let rest = step_gave (gathered (limit_keys_in places) all) (λ zs. Some (first.0 ++ zs)) keys first.2 in
    subst AreKeys (same_value (first.0 ++ rest.0) keys rest.2)
    (All-append IsGivenKey first.0 rest.0 (subsystem_keys_are places css first.0 small.0 first.1)
    (gathered_are_keys places all rest.0 small.1 rest.1))

limit_keys_are : (v : Value) (keys : List Key) → limit_keys v ≡ Some keys → AreKeys keys
limit_keys_are v keys e =
    let gave = step_gave _ (λ places. gathered (limit_keys_in places) subsystems) keys e in
    gathered_are_keys gave.0 subsystems keys
    (omega arith, (omega arith, (omega arith, (omega arith, (omega arith, (omega arith, tt)))))) gave.2

-- ---- RESOURCE

both_are_keys : (fault : Fault) (operands : List Operand)
    → IfOk (then.◌>>=◌ (optional fault image_keys [] (codes "PARTITION") operands) (λ images.
    then.◌>>=◌ (optional fault limit_keys [] (codes "MAXDEV") operands) (λ limits. Ok (images ++ limits)))) AreKeys
both_are_keys fault operands =
    in_turn AreKeys AreKeys _ _
    (optional_gives AreKeys fault image_keys image_keys_are [] (All-nil IsGivenKey) (codes "PARTITION") operands)
    (λ images images_are.
    in_turn AreKeys AreKeys _ _
    (optional_gives AreKeys fault limit_keys limit_keys_are [] (All-nil IsGivenKey) (codes "MAXDEV") operands)
    (λ limits limits_are.
    All-append IsGivenKey images limits images_are limits_are))

resource_keys_are : (fault : Fault) (operands : List Operand) → IfOk (resource_keys fault operands) AreKeys
resource_keys_are fault operands = by (text_under (codes "PARTITION") operands) (text_under (codes "MAXDEV") operands)
  where
    by : (images limits : Option (List ℕ)) → IfOk (resource_keys_by fault operands images limits) AreKeys
    by None None = one_key key.Resource tt
    by None (Some limits) = both_are_keys fault operands
    by (Some images) None = both_are_keys fault operands
    by (Some images) (Some limits) = both_are_keys fault operands

-- ---- any statement

operands_give_keys : (fault : Fault) (operation : Operation) (operands : List Operand)
    → IfOk (keys_given fault operation operands) AreKeys
operands_give_keys fault Id operands = one_key key.Id tt
operands_give_keys fault Resource operands = resource_keys_are fault operands
operands_give_keys fault Chpid operands =
    in_turn IsPath AreKeys (chpid_path fault operands) _
    (required_gives IsPath fault path_of path_given (codes "PATH") operands)
    (λ (p : CssPath) is. one_key (key.Path p.css p.path) is)
operands_give_keys fault Cntlunit operands =
    in_turn (λ number. number ≤ 65534) AreKeys (unit_number fault operands) _
    (required_gives (λ number. number ≤ 65534) fault number_of number_given (codes "CUNUMBR") operands)
    (λ number is. one_key (key.Unit number) is)
operands_give_keys fault Iodevice operands =
    in_turn AreDevices AreKeys (statement_devices fault operands) _
    (required_gives AreDevices fault devices_of devices_given (codes "ADDRESS") operands) (λ (d : Devices) are.
    in_turn (λ set. set ≤ 3) AreKeys (device_set fault operands) _
    (optional_gives (λ set. set ≤ 3) fault set_of set_given 0 (omega arith) (codes "SCHSET") operands) (λ set small.
    device_keys_are set d small are))
operands_give_keys fault Online operands =
    in_turn ArePairs AreKeys (pairs_of fault operands) _ (pairs_given fault operands) (λ p are. pair_keys_are p are)
operands_give_keys fault Row operands = All-nil IsGivenKey
operands_give_keys fault Group operands = All-nil IsGivenKey
operands_give_keys fault Choose operands = All-nil IsGivenKey
operands_give_keys fault End operands = All-nil IsGivenKey

pub keys_are_given : (s : Statement) → IfOk (keys_by (Some Delete) s) AreKeys
keys_are_given s = by (key_fault s.operation s.operands)
  where
    by : (fault : Option Rule) → IfOk (keys_unless fault s) AreKeys
    by (Some rule) = tt
    by None = operands_give_keys (at S4 s.line) s.operation s.operands
