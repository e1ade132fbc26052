-- The canonical statements are read as the records that they were written of.
use Rattle.std.proofs.Common.{◌≡◌, ◌≢◌, ℕ, ◌≤◌, ◌==◌, ◌||◌, Bool, true, false, cond, Option, Some, None, List, [], ◌∷◌}
use Rattle.std.proofs.Common.{◌++◌, map, length, Ok, codes, refl, sym, ap, ◌∙◌, eqb-true}
use Rattle.std.specs.List.{list_any, range_with_len}
use Rattle.std.specs.Option.{option_map}
use Rattle.std.proofs.lemmas.List.Elements.{All-nil}
use Rattle.std.proofs.lemmas.Simd.{map-map}
use Rattle.std.proofs.Math.Dec.{eqb-suc-zero}
use Rattle.iocm_types.specs.declared.css_path.CssPath.{CssPath}
use Rattle.iocm_types.specs.declared.fault.Fault.{Fault}
use Rattle.iocm_types.specs.declared.path_kind.PathKind.{PathKind}
use Rattle.iocm_types.specs.declared.path_kind.PathKind.TheVariants.{Dedicated, Shared, Reconfigurable}
use Rattle.iocm_types.specs.Fault.{◌>>=◌, or_fault}
use Rattle.iocm_types.specs.Print.{hex1, hex2, hex4}
use Rattle.iocm_model.specs.Machine.Record.{CarriedOperand, ImageRecord, LimitRecord, PathRecord, UnitRecord, id, image}
use Rattle.iocm_model.specs.Machine.Record.{limit, unit, device}
use Rattle.iocm_statements.specs.declared.operation.Operation.TheVariants.{Id, Resource, Chpid, Cntlunit, Iodevice}
use Rattle.iocm_statements.specs.Operands.{Operand, text_under, is_bare_word, has_bare}
use Rattle.iocm_values.specs.NameSet.{names_text}
use Rattle.iocm_values.specs.Value.{Value, value}
use Rattle.iocm_operands.specs.declared.chpid_partition.Partition.{Partition}
use Rattle.iocm_operands.specs.ChpidPath.{path_of, path_text}
use Rattle.iocm_operands.specs.ChpidPartition.{partition_of, partition_text}
use Rattle.iocm_operands.specs.Device.{devices_of, units_of, first_address, set_of, candidates_of, devices_text}
use Rattle.iocm_operands.specs.Device.{units_text}
use Rattle.iocm_operands.specs.Limits.{limits_of, limits_text}
use Rattle.iocm_operands.specs.Resource.{images_of, images_text}
use Rattle.iocm_operands.specs.Unit.{number_of, paths_of, ranges_of, links_of, cuadd_of, all_addresses, paths_text}
use Rattle.iocm_operands.specs.Unit.{ranges_text, links_text}
use Rattle.iocm_record_reader.specs.Values.{read_as, required, read_if_there, optional, carried_by}
use Rattle.iocm_record_reader.specs.ChpidRecords as chpids
use Rattle.iocm_record_reader.specs.DeviceRecords as devices
use Rattle.iocm_record_reader.specs.UnitRecords as units
use Rattle.iocm_record_reader.specs.ResourceRecords as resources
use Rattle.iocm_record_reader.specs.Deck.{statement_records}
use Rattle.iocm_deck_writer.specs.Again.{placed}
use Rattle.iocm_deck_writer.specs.Canonical.{shared_words, is_reconfigurable, chpid_operands, cntlunit_operands}
use Rattle.iocm_deck_writer.specs.Device.{Run, set_operand, iodevice_operands}
use Rattle.iocm_deck_writer.specs.Resource.{resource_operands}
use Rattle.iocm_deck_writer.specs.Statement.{valued, if_any}
use Rattle.iocm_round_trip.specs.Given.{as_operand, AreCarriedBy, IsGivenPath, IsGivenUnit}
use Rattle.iocm_round_trip.specs.Running.{device_at, run_devices, IsGivenRun}
use Rattle.iocm_round_trip.specs.Stating.{path_records}
use Rattle.iocm_operands.proofs.Operands.{path_again, number_again, cuadd_again, first_address_again, set_again}
use Rattle.iocm_operands.proofs.Operands.{devices_again, units_again, ranges_again}
use Rattle.iocm_operands.proofs.Names.{candidates_again, partition_again}
use Rattle.iocm_operands.proofs.Lists.{paths_again, links_again, images_again}
use Rattle.iocm_operands.proofs.Places.{limits_again}
use Rattle.iocm_round_trip.proofs.Forms.{AreImages, AreAnyLimits, resource_rows, resource_in_rows, resource_taken}
use Rattle.iocm_round_trip.proofs.Forms.{chpid_taken, chpid_path_stands, cntlunit_taken, cntlunit_text, devices_in}
use Rattle.iocm_round_trip.proofs.Forms.{run_has_devices, iodevice_taken, iodevice_text}
use Rattle.iocm_round_trip.proofs.Looked.{Knows, IsTaken, text_of, or_none, text_found, bare_found, carried_behind}
use Rattle.iocm_round_trip.proofs.Rows.{text_in, text_read}

-- ---- an operand that is required, and one that may be left out

required_gives : {A : Type 0} (fault : Fault) (read : Value → Option A) (keyword : List ℕ) (operands : List Operand)
    (text : List ℕ) (x : A)
    → text_under keyword operands ≡ Some text → read (value text) ≡ Some x → required fault read keyword operands ≡ Ok x
required_gives fault read keyword operands text x there again =
    ap (λ found. or_fault fault found >>= read_as fault read) there ∙ ap (or_fault fault) again

optional_gives : {A : Type 0} (fault : Fault) (read : Value → Option A) (absent : A) (keyword : List ℕ)
    (operands : List Operand) (found : Option (List ℕ)) (x : A)
    → text_under keyword operands ≡ found → read_if_there fault read absent found ≡ Ok x
    → optional fault read absent keyword operands ≡ Ok x
optional_gives fault read absent keyword operands found x there is = ap (read_if_there fault read absent) there ∙ is

-- a list, left out where it has no items
list_if_any : {X : Type 0} (fault : Fault) (read : Value → Option (List X)) (xs : List X) (text : List ℕ)
    → (xs ≢ [] → read (value text) ≡ Some xs)
    → read_if_there fault read [] (if_any xs text) ≡ Ok xs
list_if_any fault read [] text again = refl
list_if_any fault read (x ∷ xs) text again =
    ap (λ none. read_if_there fault read [] (cond none None (Some text))) (eqb-suc-zero (length xs))
    ∙ ap (or_fault fault) (again (λ e. cc))

-- what there may be one of
one_if_there : {X : Type 0} (fault : Fault) (read : Value → Option X) (write : X → List ℕ) (found : Option X)
    → ((x : X) → found ≡ Some x → read (value (write x)) ≡ Some x)
    → read_if_there fault (λ v. option_map Some (read v)) None (option_map write found) ≡ Ok found
one_if_there fault read write None again = refl
one_if_there fault read write (Some x) again = ap (λ y. or_fault fault (option_map Some y)) (again x refl)

-- ---- ID

pub id_gives : (carried : List CarriedOperand) → AreCarriedBy Id carried → (fault : Fault) (machine : List ImageRecord)
    → statement_records fault machine Id (placed 0 carried) ≡ Ok (id carried ∷ [])
id_gives carried are fault machine =
    ap (λ behind. Ok (id behind ∷ [])) (carried_behind Id [] carried are.unknown (All-nil (IsTaken Id)))

-- ---- RESOURCE

module _ (images : List ImageRecord) (limits : List LimitRecord) (carried : List CarriedOperand)
    (are_images : AreImages images)
    (are_limits : AreAnyLimits limits) (are : AreCarriedBy Resource carried) (fault : Fault) where
  abbrev resource_placed : List Operand
  resource_placed = placed 0 (resource_operands images limits ++ carried)

  resource_text : (keyword : List ℕ) → Knows Resource keyword
      → text_under keyword resource_placed ≡ text_in keyword (resource_rows images limits)
  resource_text = text_read Resource (resource_rows images limits) (resource_operands images limits)
      (resource_in_rows images limits) carried are.unknown

  images_read : resources.resource_images fault resource_placed ≡ Ok images
  images_read =
      optional_gives fault images_of [] (codes "PARTITION") resource_placed (if_any images (images_text images)) images
      (resource_text (codes "PARTITION") refl ∙ or_none (if_any images (images_text images)))
      (list_if_any fault images_of images (images_text images) (λ some. images_again images (are_images some)))

  limits_read : resources.resource_limits fault resource_placed ≡ Ok limits
  limits_read =
      optional_gives fault limits_of [] (codes "MAXDEV") resource_placed (if_any limits (limits_text limits)) limits
      (resource_text (codes "MAXDEV") refl ∙ or_none (if_any limits (limits_text limits)))
      (list_if_any fault limits_of limits (limits_text limits) (λ some. limits_again limits (are_limits some)))

  resource_carries : carried_by Resource resource_placed ≡ carried
  resource_carries =
      carried_behind Resource (resource_operands images limits) carried are.unknown
      (resource_taken images limits are_images are_limits)

  pub resource_gives : (machine : List ImageRecord) → statement_records fault machine Resource resource_placed
      ≡ Ok (resources.carried_records carried ++ (map image images ++ map limit limits))
  resource_gives machine = rw (images_read, limits_read, resource_carries) refl

-- ---- CHPID

-- the known operands of a path of this kind, by their texts
abbrev path_operands : PathKind → List ℕ → List ℕ → List CarriedOperand
path_operands kind path lists =
    valued (codes "PATH") (Some path) ++ (shared_words kind ++ valued (codes "PARTITION") (Some lists))

abbrev is_shared : PathKind → Bool
is_shared Shared = true
is_shared _ = false

partition_stands : (kind : PathKind) (path lists : List ℕ)
    → text_of (codes "PARTITION") (path_operands kind path lists) ≡ Some lists
partition_stands Dedicated path lists = refl
partition_stands Shared path lists = refl
partition_stands Reconfigurable path lists = refl

shared_stands : (kind : PathKind) (path lists : List ℕ)
    → list_any (λ o. is_bare_word (codes "SHARED") (as_operand o)) (path_operands kind path lists) ≡ is_shared kind
shared_stands Dedicated path lists = refl
shared_stands Shared path lists = refl
shared_stands Reconfigurable path lists = refl

-- REC stands inside PARTITION alone
rec_stands_not : (kind : PathKind) (path lists : List ℕ)
    → list_any (λ o. is_bare_word (codes "REC") (as_operand o)) (path_operands kind path lists) ≡ false
rec_stands_not Dedicated path lists = refl
rec_stands_not Shared path lists = refl
rec_stands_not Reconfigurable path lists = refl

kind_again : (kind : PathKind) → chpids.kind_by (is_shared kind) (false || is_reconfigurable kind) ≡ Some kind
kind_again Dedicated = refl
kind_again Shared = refl
kind_again Reconfigurable = refl

module _ (p : PathRecord) (is : IsGivenPath p) (fault : Fault) where
  abbrev chpid_placed : List Operand
  chpid_placed = placed 0 (chpid_operands p ++ p.carried)

  abbrev path_number : CssPath
  path_number = record { css = p.css; path = p.number }

  abbrev path_lists : Partition
  path_lists = record {
    access = p.access;
    candidates = Some p.candidates;
    is_reconfigurable = is_reconfigurable p.kind;
  }

  abbrev lists_text : List ℕ
  lists_text = partition_text p.access p.candidates (is_reconfigurable p.kind)

  path_read : chpids.chpid_path fault chpid_placed ≡ Ok path_number
  path_read =
      required_gives fault path_of (codes "PATH") chpid_placed (path_text path_number) path_number
      (chpid_path_stands p is) (path_again path_number is.path)

  lists_read : chpids.chpid_partition fault p.css chpid_placed ≡ Ok (Some path_lists)
  lists_read =
      optional_gives fault (λ v. option_map Some (partition_of p.css v)) None (codes "PARTITION") chpid_placed
      (Some lists_text) (Some path_lists)
      (text_found Chpid (chpid_operands p) p.carried is.carried.unknown (codes "PARTITION") refl
      ∙ partition_stands p.kind (path_text path_number) lists_text)
      (ap (λ read. or_fault fault (option_map Some read))
      (partition_again p.css p.access p.candidates (is_reconfigurable p.kind) is.access is.candidates))

  shared_read : has_bare (codes "SHARED") chpid_placed ≡ is_shared p.kind
  shared_read =
      bare_found Chpid (chpid_operands p) p.carried is.carried.unknown (codes "SHARED") refl
      ∙ shared_stands p.kind (path_text path_number) lists_text

  rec_not_read : has_bare (codes "REC") chpid_placed ≡ false
  rec_not_read = bare_found Chpid (chpid_operands p) p.carried is.carried.unknown (codes "REC") refl
      ∙ rec_stands_not p.kind (path_text path_number) lists_text

  chpid_carries : carried_by Chpid chpid_placed ≡ p.carried
  chpid_carries = carried_behind Chpid (chpid_operands p) p.carried is.carried.unknown (chpid_taken p is)

  pub chpid_gives : (machine : List ImageRecord)
      → statement_records fault machine Chpid chpid_placed ≡ Ok (path_records p)
  chpid_gives machine = rw (path_read, lists_read, shared_read, rec_not_read, kind_again p.kind, chpid_carries) refl

-- ---- CNTLUNIT

module _ (u : UnitRecord) (is : IsGivenUnit u) (fault : Fault) where
  abbrev cntlunit_placed : List Operand
  cntlunit_placed = placed 0 (cntlunit_operands u ++ u.carried)

  number_read : units.unit_number fault cntlunit_placed ≡ Ok u.number
  number_read =
      required_gives fault number_of (codes "CUNUMBR") cntlunit_placed (hex4 u.number) u.number
      (cntlunit_text u is (codes "CUNUMBR") refl) (number_again u.number is.number)

  paths_read : units.unit_paths fault cntlunit_placed ≡ Ok u.paths
  paths_read =
      optional_gives fault paths_of [] (codes "PATH") cntlunit_placed (if_any u.paths (paths_text u.paths)) u.paths
      (cntlunit_text u is (codes "PATH") refl ∙ or_none (if_any u.paths (paths_text u.paths)))
      (list_if_any fault paths_of u.paths (paths_text u.paths) (λ some. paths_again u.paths (is.paths some)))

  ranges_read : units.unit_ranges fault cntlunit_placed ≡ Ok u.ranges
  ranges_read =
      optional_gives fault ranges_of all_addresses (codes "UNITADD") cntlunit_placed (Some (ranges_text u.ranges))
      u.ranges
      (cntlunit_text u is (codes "UNITADD") refl) (ap (or_fault fault) (ranges_again u.ranges is.some_range is.ranges))

  links_read : units.unit_links fault cntlunit_placed ≡ Ok u.links
  links_read =
      optional_gives fault links_of [] (codes "LINK") cntlunit_placed (if_any u.links (links_text u.links)) u.links
      (cntlunit_text u is (codes "LINK") refl ∙ or_none (if_any u.links (links_text u.links)))
      (list_if_any fault links_of u.links (links_text u.links) (λ some. links_again u.links (is.links some)))

  cuadd_read : units.unit_cuadd fault cntlunit_placed ≡ Ok u.cuadd
  cuadd_read =
      optional_gives fault (λ v. option_map Some (cuadd_of v)) None (codes "CUADD") cntlunit_placed
      (option_map hex2 u.cuadd) u.cuadd
      (cntlunit_text u is (codes "CUADD") refl ∙ or_none (option_map hex2 u.cuadd))
      (one_if_there fault cuadd_of hex2 u.cuadd (λ address there. cuadd_again address (is.cuadd address there)))

  cntlunit_carries : carried_by Cntlunit cntlunit_placed ≡ u.carried
  cntlunit_carries = carried_behind Cntlunit (cntlunit_operands u) u.carried is.carried.unknown (cntlunit_taken u is)

  pub cntlunit_gives : (machine : List ImageRecord)
      → statement_records fault machine Cntlunit cntlunit_placed ≡ Ok (unit u ∷ [])
  cntlunit_gives machine = rw (number_read, paths_read, ranges_read, links_read, cuadd_read, cntlunit_carries) refl

-- ---- IODEVICE

-- set 0 is left out
set_unless_zero : (fault : Fault) (set : ℕ) → set ≤ 3 → read_if_there fault set_of 0 (set_operand set) ≡ Ok set
set_unless_zero fault set small = by (set == 0) refl
  where
    by : (none : Bool) → set == 0 ≡ none → read_if_there fault set_of 0 (cond none None (Some (hex1 set))) ≡ Ok set
    by true zero = ap Ok (sym (eqb-true set 0 zero))
    by false some = ap (or_fault fault) (set_again set small)

-- the devices of a run, one after the other
devices_of_run : (r : Run)
    → devices.device_records (record r.first { unit_address = 0 }) (Some r.first.unit_address) r.count
    ≡ map device (run_devices r)
devices_of_run r = sym (map-map device (device_at r.first) (range_with_len 0 r.count))

module _ (r : Run) (is : IsGivenRun r) (fault : Fault) where
  abbrev iodevice_placed : List Operand
  iodevice_placed = placed 0 (iodevice_operands r ++ r.first.carried)

  devices_read : devices.statement_devices fault iodevice_placed ≡ Ok (devices_in r)
  devices_read =
      required_gives fault devices_of (codes "ADDRESS") iodevice_placed (devices_text (devices_in r)) (devices_in r)
      (iodevice_text r is (codes "ADDRESS") refl) (devices_again (devices_in r) (run_has_devices r is))

  units_read : devices.device_units fault iodevice_placed ≡ Ok r.first.units
  units_read =
      optional_gives fault units_of [] (codes "CUNUMBR") iodevice_placed
      (if_any r.first.units (units_text r.first.units)) r.first.units
      (iodevice_text r is (codes "CUNUMBR") refl ∙ or_none (if_any r.first.units (units_text r.first.units)))
      (list_if_any fault units_of r.first.units (units_text r.first.units)
      (λ some. units_again r.first.units some is.first.units))

  address_read : devices.device_address fault r.count iodevice_placed ≡ Ok (Some r.first.unit_address)
  address_read =
      optional_gives fault (λ v. option_map Some (first_address r.count v)) None (codes "UNITADD") iodevice_placed
      (Some (hex2 r.first.unit_address)) (Some r.first.unit_address) (iodevice_text r is (codes "UNITADD") refl)
      (ap (λ read. or_fault fault (option_map Some read))
      (first_address_again r.count r.first.unit_address is.first.unit_address is.addresses))

  set_read : devices.device_set fault iodevice_placed ≡ Ok r.first.set
  set_read =
      optional_gives fault set_of 0 (codes "SCHSET") iodevice_placed (set_operand r.first.set) r.first.set
      (iodevice_text r is (codes "SCHSET") refl ∙ or_none (set_operand r.first.set))
      (set_unless_zero fault r.first.set is.first.set)

  candidates_read : devices.device_candidates fault iodevice_placed ≡ Ok r.first.candidates
  candidates_read =
      optional_gives fault (λ v. option_map Some (candidates_of v)) None (codes "PARTITION") iodevice_placed
      (option_map names_text r.first.candidates) r.first.candidates
      (iodevice_text r is (codes "PARTITION") refl ∙ or_none (option_map names_text r.first.candidates))
      (one_if_there fault candidates_of names_text r.first.candidates
      (λ names there. candidates_again names (is.first.candidates names there)))

  iodevice_carries : carried_by Iodevice iodevice_placed ≡ r.first.carried
  iodevice_carries = carried_behind Iodevice (iodevice_operands r) r.first.carried is.first.carried.unknown
      (iodevice_taken r is)

  pub iodevice_gives : (machine : List ImageRecord)
      → statement_records fault machine Iodevice iodevice_placed ≡ Ok (map device (run_devices r))
  iodevice_gives machine =
      rw (devices_read, units_read, address_read, set_read, candidates_read, iodevice_carries)
      (ap Ok (devices_of_run r))
