-- The records of a statement are such as decks give: each field has a value that its operand can
-- have, or what counts where it isn't there.
use Rattle.std.proofs.Common.{◌≡◌, ◌≢◌, ℕ, ◌+◌, ◌<◌, ◌≤◌, ◌==◌, true, Option, None, Some, List, [], ◌∷◌, ◌++◌, All, map}
use Rattle.std.proofs.Common.{filter, codes, refl, ◌∙◌, arith}
use Rattle.std.proofs.lemmas.List.Elements.{All-nil, All-cons, All-append, All-map, All-filter}
use Rattle.std.proofs.lemmas.List.FromFn.{length-range_with_len, get_or-range_with_len}
use Rattle.std.specs.List.{range_with_len}
use Rattle.std.specs.Option.{option_map, option_map_or}
use Rattle.std.specs.Result.{IfOk}
use Rattle.iocm_types.specs.declared.css_path.CssPath.{CssPath}
use Rattle.iocm_types.specs.declared.fault.Fault.{Fault}
use Rattle.iocm_types.specs.declared.link.CssLink.{CssLink}
use Rattle.iocm_types.specs.declared.path_kind.PathKind.{PathKind}
use Rattle.iocm_types.specs.declared.path_kind.PathKind.TheVariants.{Dedicated, Shared, Reconfigurable}
use Rattle.iocm_types.specs.Fault.{or_fault}
use Rattle.iocm_types.specs.Name.{is_name}
use Rattle.iocm_types.proofs.Giving.{whichever, in_turn}
use Rattle.iocm_model.specs.Machine.Record.{CarriedOperand, ImageRecord, LimitRecord, UnitRecord, DeviceRecord, id}
use Rattle.iocm_model.specs.Machine.Record.{resource, image, limit, unit}
use Rattle.iocm_statements.specs.declared.operation.Operation.{Operation}
use Rattle.iocm_statements.specs.declared.operation.Operation.TheVariants.{Id, Resource, Chpid, Cntlunit, Iodevice}
use Rattle.iocm_statements.specs.Operands.{Operand, text_under}
use Rattle.iocm_operands.specs.declared.chpid_partition.Partition.{Partition}
use Rattle.iocm_operands.specs.declared.device.Devices.{Devices}
use Rattle.iocm_operands.specs.Again.{IsPath, AreDevices, IsRange, IsNameSet, AreByCss, IsLink, IsImage, IsLimit}
use Rattle.iocm_operands.specs.Again.{AreLimits}
use Rattle.iocm_operands.specs.ChpidPath.{path_of}
use Rattle.iocm_operands.specs.ChpidPartition.{partition_of}
use Rattle.iocm_operands.specs.Device.{candidates_of, devices_of, first_address, set_of, units_of}
use Rattle.iocm_operands.specs.Given.{HasNameSets}
use Rattle.iocm_operands.specs.Limits.{limits_of}
use Rattle.iocm_operands.specs.Resource.{images_of, names_in}
use Rattle.iocm_operands.specs.Unit.{number_of, paths_of, ranges_of, links_of, cuadd_of, all_addresses}
use Rattle.iocm_operands.proofs.Given.{no_value, map_gave, path_given, number_given, cuadd_given, first_address_given}
use Rattle.iocm_operands.proofs.Given.{set_given, devices_given, units_given, ranges_given}
use Rattle.iocm_operands.proofs.Maxdev.{limits_given}
use Rattle.iocm_operands.proofs.Ordered.{name_set_is}
use Rattle.iocm_operands.proofs.Readings.{candidates_given, partition_given, paths_given, links_given, images_given}
use Rattle.iocm_values.specs.Value.{Value, value}
use Rattle.iocm_record_reader.specs.declared.chpid.Lists.{Lists}
use Rattle.iocm_record_reader.specs.ChpidRecords.{chpid_path, chpid_partition, chpid_records, kind_of}
use Rattle.iocm_record_reader.specs.ChpidRecords.{default_candidates, candidates_or_default, lists_of, online_to}
use Rattle.iocm_record_reader.specs.ChpidRecords.{path_record, path_records}
use Rattle.iocm_record_reader.specs.Deck.{statement_records}
use Rattle.iocm_record_reader.specs.DeviceRecords.{statement_devices, device_units, device_address, device_set}
use Rattle.iocm_record_reader.specs.DeviceRecords.{device_candidates, address_at, device_record, device_records}
use Rattle.iocm_record_reader.specs.DeviceRecords.{iodevice_records, first_device}
use Rattle.iocm_record_reader.specs.ResourceRecords.{resource_images, resource_limits, carried_records}
use Rattle.iocm_record_reader.specs.ResourceRecords.{resource_records}
use Rattle.iocm_record_reader.specs.UnitRecords.{unit_number, unit_paths, unit_ranges, unit_links, unit_cuadd}
use Rattle.iocm_record_reader.specs.UnitRecords.{unit_fields}
use Rattle.iocm_record_reader.specs.Values.{read_as, required, read_if_there, optional, carried_by}
use Rattle.iocm_round_trip.specs.Given.{AreCarriedBy, IsGivenUnit, IsGiven}
use Rattle.iocm_round_trip.proofs.Shown.{AreCarriable}

-- ---- the values of operands

module _ {A : Type 0} (P : A → Type 0) (fault : Fault) (read : Value → Option A)
    (gives : (v : Value) (x : A) → read v ≡ Some x → P x) where
  -- what a text says
  read_gives : (text : List ℕ) → IfOk (read_as fault read text) P
  read_gives text = by (read (value text)) refl
    where
      by : (found : Option A) → read (value text) ≡ found → IfOk (or_fault fault found) P
      by None is = tt
      by (Some x) is = gives (value text) x is

  -- what an operand says that has to be there
  pub required_gives : (keyword : List ℕ) (operands : List Operand) → IfOk (required fault read keyword operands) P
  required_gives keyword operands =
      whichever P (or_fault fault (text_under keyword operands)) (read_as fault read) read_gives

  -- what an operand says that need not be there, or what counts without it
  pub optional_gives : (absent : A) → P absent → (keyword : List ℕ) (operands : List Operand)
      → IfOk (optional fault read absent keyword operands) P
  optional_gives absent is keyword operands = by (text_under keyword operands)
    where
      by : (text : Option (List ℕ)) → IfOk (read_if_there fault read absent text) P
      by None = is
      by (Some text) = read_gives text

-- a value that need not be there
abbrev IfAny : {A : Type 0} → (A → Type 0) → Option A → Type 0
IfAny {A} P o = (x : A) → o ≡ Some x → P x

module _ {A : Type 0} (P : A → Type 0) where
  none_given : IfAny P None
  none_given x e = no_value x e

  -- such a value is that of its operand, and without the operand there is none
  if_any_gives : (read : Value → Option A) → ((v : Value) (x : A) → read v ≡ Some x → P x)
      → (v : Value) (o : Option A) → option_map Some (read v) ≡ Some o → IfAny P o
  if_any_gives read gives v o e = let gave = map_gave (read v) Some o e in λ x same. gives v x (gave.1 ∙ gave.2 ∙ same)

  if_any_read : (fault : Fault) (read : Value → Option A) → ((v : Value) (x : A) → read v ≡ Some x → P x)
      → (keyword : List ℕ) (operands : List Operand)
      → IfOk (optional fault (λ v. option_map Some (read v)) None keyword operands) (IfAny P)
  if_any_read fault read gives keyword operands =
      optional_gives (IfAny P) fault (λ v. option_map Some (read v)) (if_any_gives read gives) None none_given keyword
      operands

-- ---- RESOURCE

-- (*,digit) gives no image and an empty place no limit, so there may be none
each_image : (images : List ImageRecord) → (images ≢ [] → AreByCss (λ (i : ImageRecord). i.css) IsImage images)
    → All IsImage images
each_image [] are = All-nil IsImage
each_image (i ∷ is) are = (are (λ e. cc)).each

each_limit : (limits : List LimitRecord) → (limits ≢ [] → AreLimits limits) → All IsLimit limits
each_limit [] are = All-nil IsLimit
each_limit (l ∷ ls) are = (are (λ e. cc)).by_css.each

pub images_are : (v : Value) (images : List ImageRecord) → images_of v ≡ Some images → All IsImage images
images_are v images e = each_image images (images_given v images e)

limits_are : (v : Value) (limits : List LimitRecord) → limits_of v ≡ Some limits → All IsLimit limits
limits_are v limits e = each_limit limits (limits_given v limits e)

carried_records_given : (carried : List CarriedOperand) → AreCarriedBy Resource carried
    → All IsGiven (carried_records carried)
carried_records_given [] are = All-nil IsGiven
carried_records_given (c ∷ cs) are =
    All-cons IsGiven (resource (c ∷ cs)) [] (record { some = λ e. cc; carried = are }) (All-nil IsGiven)

resource_given : (fault : Fault) (operands : List Operand) → AreCarriable operands
    → IfOk (resource_records fault operands) (All IsGiven)
resource_given fault operands are =
    let carried = carried_by Resource operands in
    in_turn (All IsImage) (All IsGiven) (resource_images fault operands) _
    (optional_gives (All IsImage) fault images_of images_are [] (All-nil IsImage) (codes "PARTITION") operands)
    (λ images are_images.
    in_turn (All IsLimit) (All IsGiven) (resource_limits fault operands) _
    (optional_gives (All IsLimit) fault limits_of limits_are [] (All-nil IsLimit) (codes "MAXDEV") operands)
    (λ limits are_limits.
    All-append IsGiven (carried_records carried) (map image images ++ map limit limits)
    (carried_records_given carried (are Resource))
    (All-append IsGiven (map image images) (map limit limits) (All-map IsGiven image images are_images)
    (All-map IsGiven limit limits are_limits))))

-- ---- CHPID

abbrev IsName : List ℕ → Type 0
IsName name = is_name name ≡ true

no_names : IsNameSet []
no_names = name_set_is [] (All-nil IsName)

-- the names of a channel subsystem's images
names_given : (css : ℕ) (images : List ImageRecord) → All IsImage images → IsNameSet (names_in css images)
names_given css images are =
    let own = filter (λ (i : ImageRecord). i.css == css) images in
    let each = All-filter (λ (i : ImageRecord). i.css == css) IsImage images are in
    name_set_is (map (λ (i : ImageRecord). i.name) own)
    (All-map IsName (λ (i : ImageRecord). i.name) own (λ k d within. (each k d within).name))

-- a candidate list that isn't written is that of all images, or the access list
default_given : (kind : PathKind) (all access : List (List ℕ)) → IsNameSet all → IsNameSet access
    → IsNameSet (default_candidates kind all access)
default_given Dedicated all access first second = second
default_given Shared all access first second = first
default_given Reconfigurable all access first second = first

own_or_default_given : (kind : PathKind) (all : List (List ℕ)) (p : Partition) → IsNameSet all → HasNameSets p
    → IsNameSet (candidates_or_default kind all p)
own_or_default_given kind all p is has = by p.candidates refl
  where
    by : (own : Option (List (List ℕ))) → p.candidates ≡ own
        → IsNameSet (option_map_or (λ names. names) own (default_candidates kind all p.access))
    by None none = default_given kind all p.access is has.access
    by (Some names) some = has.candidates names some

record HaveNameSets (l : Lists) : Type 0 where
  pub access : IsNameSet l.access
  pub candidates : IsNameSet l.candidates

lists_given : (kind : PathKind) (all : List (List ℕ)) (partition : Option Partition) → IsNameSet all
    → IfAny HasNameSets partition
    → HaveNameSets (lists_of kind all partition)
lists_given kind all (Some p) is has = let own = has p refl in
    record { access = own.access; candidates = own_or_default_given kind all p is own }
lists_given Shared all None is has = record { access = is; candidates = is }
lists_given Dedicated all None is has = record { access = no_names; candidates = no_names }
lists_given Reconfigurable all None is has = record { access = no_names; candidates = no_names }

-- that the path is online says nothing further
path_records_given : (p : CssPath) (kind : PathKind) (lists : Lists) (carried : List CarriedOperand)
    → IsPath p → HaveNameSets lists → AreCarriedBy Chpid carried → All IsGiven (path_records p kind lists carried)
path_records_given p kind lists carried is have are =
    All-cons IsGiven (path_record p kind lists carried) (map (online_to p.css p.path) lists.access)
    (record {
      path = record { css = is.css; path = is.path };
      access = have.access;
      candidates = have.candidates;
      carried = are;
    })
    (All-map IsGiven (online_to p.css p.path) lists.access (λ k d within. tt))

chpid_given : (fault : Fault) (images : List ImageRecord) (operands : List Operand) → All IsImage images
    → AreCarriable operands
    → IfOk (chpid_records fault images operands) (All IsGiven)
chpid_given fault images operands images_are are =
    in_turn IsPath (All IsGiven) (chpid_path fault operands) _
    (required_gives IsPath fault path_of path_given (codes "PATH") operands) (λ (p : CssPath) is.
    in_turn (IfAny HasNameSets) (All IsGiven) (chpid_partition fault p.css operands) _
    (if_any_read HasNameSets fault (partition_of p.css) (partition_given p.css) (codes "PARTITION") operands)
    (λ partition has.
    whichever (All IsGiven) (or_fault fault (kind_of operands partition)) _ (λ kind.
    path_records_given p kind (lists_of kind (names_in p.css images) partition) (carried_by Chpid operands) is
    (lists_given kind (names_in p.css images) partition (names_given p.css images images_are) has) (are Chpid))))

-- ---- CNTLUNIT

some_range : All IsRange all_addresses
some_range = All-cons IsRange _ [] (record { start = omega arith; some = omega arith; most = omega arith })
    (All-nil IsRange)

unit_given : (fault : Fault) (operands : List Operand) → AreCarriable operands
    → IfOk (unit_fields fault operands) IsGivenUnit
unit_given fault operands are =
    let by_path : (p : CssPath) → ℕ = λ p. p.css in
    let by_link : (l : CssLink) → ℕ = λ l. l.css in
    in_turn (λ number. number ≤ 65534) IsGivenUnit (unit_number fault operands) _
    (required_gives (λ number. number ≤ 65534) fault number_of number_given (codes "CUNUMBR") operands)
    (λ number number_is.
    in_turn (λ paths. paths ≢ [] → AreByCss by_path IsPath paths) IsGivenUnit (unit_paths fault operands) _
    (optional_gives (λ paths. paths ≢ [] → AreByCss by_path IsPath paths) fault paths_of
    (λ v paths e some. paths_given v paths e) []
    (λ some. absurd (some refl)) (codes "PATH") operands) (λ paths paths_are.
    in_turn (λ ranges. (ranges ≢ []) × All IsRange ranges) IsGivenUnit (unit_ranges fault operands) _
    (optional_gives (λ ranges. (ranges ≢ []) × All IsRange ranges) fault ranges_of ranges_given all_addresses
    (λ e. cc, some_range) (codes "UNITADD") operands) (λ ranges ranges_are.
    in_turn (λ links. links ≢ [] → AreByCss by_link IsLink links) IsGivenUnit (unit_links fault operands) _
    (optional_gives (λ links. links ≢ [] → AreByCss by_link IsLink links) fault links_of
    (λ v links e some. links_given v links e) []
    (λ some. absurd (some refl)) (codes "LINK") operands) (λ links links_are.
    in_turn (IfAny (λ address. address < 256)) IsGivenUnit (unit_cuadd fault operands) _
    (if_any_read (λ address. address < 256) fault cuadd_of cuadd_given (codes "CUADD") operands) (λ cuadd cuadd_is.
    record {
      number = number_is;
      paths = paths_are;
      some_range = ranges_are.0;
      ranges = ranges_are.1;
      links = links_are;
      cuadd = cuadd_is;
      carried = are Cntlunit;
    })))))

-- ---- IODEVICE

-- the unit address of the first of so many devices
abbrev IsFirstAddress : ℕ → ℕ → Type 0
IsFirstAddress count first = (first < 256) × (first + count ≤ 256)

address_small : (address : Option ℕ) (count place number : ℕ) → IfAny (IsFirstAddress count) address → place < count
    → address_at address place number < 256
address_small None count place number is within = omega arith
address_small (Some first) count place number is within = let last = (is first refl).1 in omega (arith, last, within)

-- the first of so many devices, and its unit address: no device is past the last number or the last
-- unit address
record IsGivenFirst (first : DeviceRecord) (address : Option ℕ) (count : ℕ) : Type 0 where
  pub set : first.set ≤ 3
  pub numbers : first.number + count ≤ 65536
  pub units : All (λ unit. unit ≤ 65534) first.units
  pub addresses : IfAny (IsFirstAddress count) address
  pub candidates : IfAny IsNameSet first.candidates
  pub carried : AreCarriedBy Iodevice first.carried

device_given : (first : DeviceRecord) (address : Option ℕ) (count : ℕ) → IsGivenFirst first address count
    → (place : ℕ) → place < count → IsGiven (device_record first address place)
device_given first address count is place within = record {
  set = is.set;
  number = omega (arith, is.numbers, within);
  units = is.units;
  unit_address = address_small address count place (first.number + place) is.addresses within;
  candidates = is.candidates;
  carried = is.carried;
}

places_within : (count : ℕ) → All (λ place. place < count) (range_with_len 0 count)
places_within count k d within =
    let inside : k < count = omega (arith, within, length-range_with_len 0 count) in
    omega (arith, inside, get_or-range_with_len 0 count k d inside)

devices_all_given : (first : DeviceRecord) (address : Option ℕ) (count : ℕ) → IsGivenFirst first address count
    → All IsGiven (device_records first address count)
devices_all_given first address count is =
    All-map IsGiven (device_record first address) (range_with_len 0 count)
    (λ k place within. device_given first address count is _ (places_within count k place within))

iodevice_given : (fault : Fault) (operands : List Operand) → AreCarriable operands
    → IfOk (iodevice_records fault operands) (All IsGiven)
iodevice_given fault operands are =
    in_turn AreDevices (All IsGiven) (statement_devices fault operands) _
    (required_gives AreDevices fault devices_of devices_given (codes "ADDRESS") operands) (λ (d : Devices) devices_are.
    in_turn (All (λ unit. unit ≤ 65534)) (All IsGiven) (device_units fault operands) _
    (optional_gives (All (λ unit. unit ≤ 65534)) fault units_of (λ v units e. (units_given v units e).1) []
    (All-nil (λ unit. unit ≤ 65534)) (codes "CUNUMBR") operands) (λ units units_are.
    in_turn (IfAny (IsFirstAddress d.count)) (All IsGiven) (device_address fault d.count operands) _
    (if_any_read (IsFirstAddress d.count) fault (first_address d.count) (first_address_given d.count) (codes "UNITADD")
    operands) (λ address address_is.
    in_turn (λ set. set ≤ 3) (All IsGiven) (device_set fault operands) _
    (optional_gives (λ set. set ≤ 3) fault set_of set_given 0 (omega arith) (codes "SCHSET") operands) (λ set set_is.
    in_turn (IfAny IsNameSet) (All IsGiven) (device_candidates fault operands) _
    (if_any_read IsNameSet fault candidates_of candidates_given (codes "PARTITION") operands)
    (λ candidates candidates_are.
    devices_all_given (first_device set d units candidates (carried_by Iodevice operands)) address d.count (record {
      set = set_is;
      numbers = devices_are.last;
      units = units_are;
      addresses = address_is;
      candidates = candidates_are;
      carried = are Iodevice;
    }))))))

-- ---- any statement

-- in a machine of such images
pub statement_given : (fault : Fault) (images : List ImageRecord) (operation : Operation) (operands : List Operand)
    → All IsImage images → AreCarriable operands
    → IfOk (statement_records fault images operation operands) (All IsGiven)
statement_given fault images Id operands images_are are =
    All-cons IsGiven (id (carried_by Id operands)) [] (are Id) (All-nil IsGiven)
statement_given fault images Resource operands images_are are = resource_given fault operands are
statement_given fault images Chpid operands images_are are = chpid_given fault images operands images_are are
statement_given fault images Cntlunit operands images_are are =
    in_turn IsGivenUnit (All IsGiven) (unit_fields fault operands) _ (unit_given fault operands are)
    (λ (u : UnitRecord) is. All-cons IsGiven (unit u) [] is (All-nil IsGiven))
statement_given fault images Iodevice operands images_are are = iodevice_given fault operands are
statement_given fault images _ operands images_are are = All-nil IsGiven
