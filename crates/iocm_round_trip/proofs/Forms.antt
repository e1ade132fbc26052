-- The canonical statements have no fault: nothing that is required is missing, and each operand
-- stands in its form and in none that is left out.
use Rattle.std.proofs.Common.{◌≡◌, ◌≢◌, ℕ, ◌<◌, ◌==◌, ◌||◌, Bool, true, false, cond, Option, Some, None, List, [], ◌∷◌}
use Rattle.std.proofs.Common.{◌++◌, All, length, codes, refl, sym, ap, subst, arith, append-nil}
use Rattle.std.specs.Prelude.{is_none, IfSome}
use Rattle.std.specs.Option.{option_map}
use Rattle.std.proofs.lemmas.Bool.{true≢false}
use Rattle.std.proofs.lemmas.List.Elements.{All-nil, All-cons, All-append}
use Rattle.std.proofs.Math.Dec.{eqb-suc-zero}
use Rattle.iocm_types.specs.declared.css_path.CssPath.{CssPath}
use Rattle.iocm_types.specs.declared.path_kind.PathKind.{PathKind}
use Rattle.iocm_types.specs.declared.path_kind.PathKind.TheVariants.{Dedicated, Shared, Reconfigurable}
use Rattle.iocm_types.specs.Print.{hex1, hex2, hex4}
use Rattle.iocm_model.specs.Machine.Record.{CarriedOperand, ImageRecord, LimitRecord, PathRecord, UnitRecord}
use Rattle.iocm_statements.specs.declared.operation.Operation.{Operation}
use Rattle.iocm_statements.specs.declared.operation.Operation.TheVariants.{Id, Resource, Chpid, Cntlunit, Iodevice}
use Rattle.iocm_statements.specs.Operands.{Operand, text_under}
use Rattle.iocm_keywords.specs.declared.known.Form.{Form}
use Rattle.iocm_keywords.specs.declared.known.Form.TheVariants as form
use Rattle.iocm_keywords.specs.Known.{table, form_in, is_other_form_of, lacks_required}
use Rattle.iocm_keywords.specs.LeftOut.{names_several_css, is_form_left_out, is_left_out_as, is_list}
use Rattle.iocm_operands.specs.declared.device.Devices.{Devices}
use Rattle.iocm_operands.specs.Again.{AreDevices, AreByCss, IsImage, AreLimits}
use Rattle.iocm_operands.specs.ChpidPath.{path_text}
use Rattle.iocm_operands.specs.ChpidPartition.{partition_text}
use Rattle.iocm_operands.specs.Device.{devices_text, units_text}
use Rattle.iocm_operands.specs.Limits.{limits_text}
use Rattle.iocm_operands.specs.Resource.{images_text}
use Rattle.iocm_operands.specs.Unit.{paths_text, ranges_text, links_text}
use Rattle.iocm_values.specs.NameSet.{names_text}
use Rattle.iocm_values.specs.Value.{value}
use Rattle.iocm_deck_writer.specs.Again.{placed}
use Rattle.iocm_deck_writer.specs.Canonical.{shared_words, is_reconfigurable, chpid_operands, chpid_statement}
use Rattle.iocm_deck_writer.specs.Canonical.{cntlunit_operands, cntlunit_statement}
use Rattle.iocm_deck_writer.specs.Device.{Run, set_operand, iodevice_operands, iodevice_statement}
use Rattle.iocm_deck_writer.specs.Resource.{resource_operands}
use Rattle.iocm_deck_writer.specs.Statement.{valued, alone, if_any}
use Rattle.iocm_round_trip.specs.Given.{as_operand, AreCarriedBy, IsGivenPath, IsGivenUnit}
use Rattle.iocm_round_trip.specs.Running.{IsGivenRun}
use Rattle.iocm_round_trip.specs.Stating.{HasNoFault}
use Rattle.iocm_values.proofs.Levels.{plain_again}
use Rattle.iocm_values.proofs.Numerals.{hex1_plain}
use Rattle.iocm_round_trip.proofs.LeftOut.{IsInOneCss, names_one_css}
use Rattle.iocm_round_trip.proofs.Looked.{Knows, IsTaken, IsTakenText, text_found, none_left_out, none_in_other_form}
use Rattle.iocm_round_trip.proofs.OneSubsystem.{hex1_in_one, hex2_in_one, hex4_in_one, names_in_one, path_in_one}
use Rattle.iocm_round_trip.proofs.OneSubsystem.{names_one_path, partition_in_one, paths_in_one, ranges_in_one}
use Rattle.iocm_round_trip.proofs.OneSubsystem.{links_in_one, devices_in_one, units_in_one, images_in_one}
use Rattle.iocm_round_trip.proofs.OneSubsystem.{limits_in_one}
use Rattle.iocm_round_trip.proofs.Rows.{ValueRow, AreTakenRows, operands_in, text_in, text_read, known_taken}

-- ---- an operand with a value

-- a keyword of this form has a value
abbrev takes_value : Option Form → Bool
takes_value (Some form.Required) = true
takes_value (Some form.Optional) = true
takes_value _ = false

-- it is taken where the value isn't in a form that is left out
value_taken : (operation : Operation) (keyword text : List ℕ) → takes_value (form_in (table operation) keyword) ≡ true
    → IsInOneCss text
    → is_form_left_out operation keyword text ≡ false → IsTakenText operation keyword text
value_taken operation keyword text takes in_one other =
    let facts = by (form_in (table operation) keyword) takes in
    record { known = facts.0; formed = facts.1; taken = facts.2 }
  where
    o : Operand
    o = as_operand (record { keyword = Some keyword; text = text })

    not_left_out : (names_several_css text || is_form_left_out operation keyword text) ≡ false
    not_left_out = λ i. names_one_css text in_one i || other i

    by : (found : Option Form) → takes_value found ≡ true
        → (is_none found ≡ false) × (is_other_form_of found true ≡ false) × (is_left_out_as found operation o ≡ false)
    by (Some form.Required) takes = (refl, refl, not_left_out)
    by (Some form.Optional) takes = (refl, refl, not_left_out)
    by _ takes = absurd (true≢false (sym takes))

-- a list's operand stands only where there are items
any_taken : {X : Type 0} (P : List ℕ → Type 0) (xs : List X) (text : List ℕ) → (xs ≢ [] → P text)
    → IfSome (if_any xs text) P
any_taken P [] text is = tt
any_taken P (x ∷ xs) text is =
    subst (λ b. IfSome (cond b None (Some text)) P) (sym (eqb-suc-zero (length xs))) (is (λ e. cc))

-- an operand that there may be one of
some_taken : {X : Type 0} (P : List ℕ → Type 0) (write : X → List ℕ) (found : Option X)
    → ((x : X) → found ≡ Some x → P (write x)) → IfSome (option_map write found) P
some_taken P write None is = tt
some_taken P write (Some x) is = is x refl

unless_taken : (P : List ℕ → Type 0) (none : Bool) (text : List ℕ) → P text → IfSome (cond none None (Some text)) P
unless_taken P true text is = tt
unless_taken P false text is = is

-- ---- no fault

no_fault : (operation : Operation) (known carried : List CarriedOperand) → AreCarriedBy operation carried
    → All (IsTaken operation) known
    → lacks_required operation (placed 0 (known ++ carried)) ≡ false
    → HasNoFault operation (placed 0 (known ++ carried))
no_fault operation known carried are taken complete = record {
  complete = complete;
  taken = none_left_out operation known carried are.unknown taken;
  formed = none_in_other_form operation known carried are.unknown taken;
}

-- ---- ID

pub id_has_no_fault : (carried : List CarriedOperand) → AreCarriedBy Id carried → HasNoFault Id (placed 0 carried)
id_has_no_fault carried are = no_fault Id [] carried are (All-nil (IsTaken Id)) refl

-- ---- RESOURCE

abbrev pub resource_rows : List ImageRecord → List LimitRecord → List ValueRow
resource_rows images limits =
    (codes "PARTITION", if_any images (images_text images)) ∷ (codes "MAXDEV", if_any limits (limits_text limits)) ∷ []

pub resource_in_rows : (images : List ImageRecord) (limits : List LimitRecord)
    → resource_operands images limits ≡ operands_in (resource_rows images limits)
resource_in_rows images limits =
    ap (λ last. valued (codes "PARTITION") (if_any images (images_text images)) ++ last)
    (sym (append-nil (valued (codes "MAXDEV") (if_any limits (limits_text limits)))))

-- images of a machine, and limits; there may be none
abbrev pub AreImages : List ImageRecord → Type 0
AreImages images = images ≢ [] → AreByCss (λ (i : ImageRecord). i.css) IsImage images

abbrev pub AreAnyLimits : List LimitRecord → Type 0
AreAnyLimits limits = limits ≢ [] → AreLimits limits

resource_rows_taken : (images : List ImageRecord) (limits : List LimitRecord) → AreImages images → AreAnyLimits limits
    → AreTakenRows Resource (resource_rows images limits)
resource_rows_taken images limits are_images are_limits = (taken_images, (taken_limits, tt))
  where
    taken_images : IfSome (if_any images (images_text images)) (IsTakenText Resource (codes "PARTITION"))
    taken_images =
        any_taken (IsTakenText Resource (codes "PARTITION")) images (images_text images)
        (λ some. value_taken Resource (codes "PARTITION") (images_text images) refl
        (images_in_one images (are_images some).each) refl)

    taken_limits : IfSome (if_any limits (limits_text limits)) (IsTakenText Resource (codes "MAXDEV"))
    taken_limits =
        any_taken (IsTakenText Resource (codes "MAXDEV")) limits (limits_text limits)
        (λ some. value_taken Resource (codes "MAXDEV") (limits_text limits) refl
        (limits_in_one limits (are_limits some).by_css.each) refl)

pub resource_taken : (images : List ImageRecord) (limits : List LimitRecord) → AreImages images → AreAnyLimits limits
    → All (IsTaken Resource) (resource_operands images limits)
resource_taken images limits are_images are_limits =
    known_taken Resource (resource_rows images limits) (resource_operands images limits)
    (resource_in_rows images limits)
    (resource_rows_taken images limits are_images are_limits)

pub resource_has_no_fault : (images : List ImageRecord) (limits : List LimitRecord) (carried : List CarriedOperand)
    → AreImages images → AreAnyLimits limits
    → AreCarriedBy Resource carried → HasNoFault Resource (placed 0 (resource_operands images limits ++ carried))
resource_has_no_fault images limits carried are_images are_limits are =
    no_fault Resource (resource_operands images limits) carried are (resource_taken images limits are_images are_limits)
    refl

-- ---- CHPID

chpid_value : (keyword text : List ℕ) → takes_value (form_in (table Chpid) keyword) ≡ true → IsInOneCss text
    → is_form_left_out Chpid keyword text ≡ false
    → (rest : List CarriedOperand) → All (IsTaken Chpid) rest → All (IsTaken Chpid) (valued keyword (Some text) ++ rest)
chpid_value keyword text takes in_one other rest others =
    All-cons (IsTaken Chpid) (record { keyword = Some keyword; text = text }) rest
    (value_taken Chpid keyword text takes in_one other) others

shared_taken : (kind : PathKind) → All (IsTaken Chpid) (shared_words kind)
shared_taken Shared =
    All-cons (IsTaken Chpid) (alone (codes "SHARED")) [] (record { known = refl; formed = refl; taken = refl })
    (All-nil (IsTaken Chpid))
shared_taken Dedicated = All-nil (IsTaken Chpid)
shared_taken Reconfigurable = All-nil (IsTaken Chpid)

pub chpid_taken : (p : PathRecord) → IsGivenPath p → All (IsTaken Chpid) (chpid_operands p)
chpid_taken p is =
    let number : CssPath = record { css = p.css; path = p.number } in
    let lists : List ℕ = partition_text p.access p.candidates (is_reconfigurable p.kind) in
    let last : List CarriedOperand = valued (codes "PARTITION") (Some lists) in
    chpid_value (codes "PATH") (path_text number) refl (path_in_one number is.path) (names_one_path number is.path)
    (shared_words p.kind ++ last)
    (All-append (IsTaken Chpid) (shared_words p.kind) last (shared_taken p.kind)
    (chpid_value (codes "PARTITION") lists refl
    (partition_in_one p.access p.candidates (is_reconfigurable p.kind) is.access is.candidates) refl []
    (All-nil (IsTaken Chpid))))

pub chpid_path_stands : (p : PathRecord) → IsGivenPath p
    → text_under (codes "PATH") (placed 0 (chpid_operands p ++ p.carried))
    ≡ Some (path_text (record { css = p.css; path = p.number }))
chpid_path_stands p is = text_found Chpid (chpid_operands p) p.carried is.carried.unknown (codes "PATH") refl

pub chpid_has_no_fault : (p : PathRecord) → IsGivenPath p → HasNoFault Chpid (placed 0 (chpid_statement p).operands)
chpid_has_no_fault p is =
    no_fault Chpid (chpid_operands p) p.carried is.carried (chpid_taken p is)
    (ap (λ text. is_none text || false) (chpid_path_stands p is))

-- ---- CNTLUNIT

abbrev pub cntlunit_rows : UnitRecord → List ValueRow
cntlunit_rows u =
    (codes "CUNUMBR", Some (hex4 u.number)) ∷ (codes "PATH", if_any u.paths (paths_text u.paths))
    ∷ (codes "UNITADD", Some (ranges_text u.ranges))
    ∷ (codes "LINK", if_any u.links (links_text u.links)) ∷ (codes "CUADD", option_map hex2 u.cuadd) ∷ []

pub cntlunit_in_rows : (u : UnitRecord) → cntlunit_operands u ≡ operands_in (cntlunit_rows u)
cntlunit_in_rows u =
    ap (λ last. valued (codes "CUNUMBR") (Some (hex4 u.number))
    ++ (valued (codes "PATH") (if_any u.paths (paths_text u.paths))
    ++ (valued (codes "UNITADD") (Some (ranges_text u.ranges))
    ++ (valued (codes "LINK") (if_any u.links (links_text u.links)) ++ last))))
    (sym (append-nil (valued (codes "CUADD") (option_map hex2 u.cuadd))))

cntlunit_value : (keyword text : List ℕ) → takes_value (form_in (table Cntlunit) keyword) ≡ true → IsInOneCss text
    → IsTakenText Cntlunit keyword text
cntlunit_value keyword text takes in_one = value_taken Cntlunit keyword text takes in_one refl

cntlunit_rows_taken : (u : UnitRecord) → IsGivenUnit u → AreTakenRows Cntlunit (cntlunit_rows u)
cntlunit_rows_taken u is = (taken_number, (taken_paths, (taken_ranges, (taken_links, (taken_cuadd, tt)))))
  where
    taken_number : IsTakenText Cntlunit (codes "CUNUMBR") (hex4 u.number)
    taken_number = cntlunit_value (codes "CUNUMBR") (hex4 u.number) refl
        (hex4_in_one u.number (let most = is.number in omega arith))

    taken_paths : IfSome (if_any u.paths (paths_text u.paths)) (IsTakenText Cntlunit (codes "PATH"))
    taken_paths =
        any_taken (IsTakenText Cntlunit (codes "PATH")) u.paths (paths_text u.paths)
        (λ some. cntlunit_value (codes "PATH") (paths_text u.paths) refl (paths_in_one u.paths (is.paths some).each))

    taken_ranges : IsTakenText Cntlunit (codes "UNITADD") (ranges_text u.ranges)
    taken_ranges = cntlunit_value (codes "UNITADD") (ranges_text u.ranges) refl (ranges_in_one u.ranges is.ranges)

    taken_links : IfSome (if_any u.links (links_text u.links)) (IsTakenText Cntlunit (codes "LINK"))
    taken_links =
        any_taken (IsTakenText Cntlunit (codes "LINK")) u.links (links_text u.links)
        (λ some. cntlunit_value (codes "LINK") (links_text u.links) refl (links_in_one u.links (is.links some).each))

    taken_cuadd : IfSome (option_map hex2 u.cuadd) (IsTakenText Cntlunit (codes "CUADD"))
    taken_cuadd =
        some_taken (IsTakenText Cntlunit (codes "CUADD")) hex2 u.cuadd
        (λ address there. cntlunit_value (codes "CUADD") (hex2 address) refl
        (hex2_in_one address (is.cuadd address there)))

pub cntlunit_taken : (u : UnitRecord) → IsGivenUnit u → All (IsTaken Cntlunit) (cntlunit_operands u)
cntlunit_taken u is = known_taken Cntlunit (cntlunit_rows u) (cntlunit_operands u) (cntlunit_in_rows u)
    (cntlunit_rows_taken u is)

-- what stands under a keyword of the statement
pub cntlunit_text : (u : UnitRecord) → IsGivenUnit u → (keyword : List ℕ) → Knows Cntlunit keyword
    → text_under keyword (placed 0 (cntlunit_operands u ++ u.carried)) ≡ text_in keyword (cntlunit_rows u)
cntlunit_text u is = text_read Cntlunit (cntlunit_rows u) (cntlunit_operands u) (cntlunit_in_rows u) u.carried
    is.carried.unknown

pub cntlunit_has_no_fault : (u : UnitRecord) → IsGivenUnit u
    → HasNoFault Cntlunit (placed 0 (cntlunit_statement u).operands)
cntlunit_has_no_fault u is =
    no_fault Cntlunit (cntlunit_operands u) u.carried is.carried (cntlunit_taken u is)
    (ap (λ text. is_none text || false) (cntlunit_text u is (codes "CUNUMBR") refl))

-- ---- IODEVICE

-- the devices of a run, as its statement has them
abbrev pub devices_in : Run → Devices
devices_in r = record { first = r.first.number; count = r.count }

pub run_has_devices : (r : Run) → IsGivenRun r → AreDevices (devices_in r)
run_has_devices r is =
    let addresses = is.addresses in
    record { some = is.some; most = omega arith; last = is.numbers }

abbrev pub iodevice_rows : Run → List ValueRow
iodevice_rows r =
    (codes "ADDRESS", Some (devices_text (devices_in r)))
    ∷ (codes "CUNUMBR", if_any r.first.units (units_text r.first.units))
    ∷ (codes "UNITADD", Some (hex2 r.first.unit_address)) ∷ (codes "SCHSET", set_operand r.first.set)
    ∷ (codes "PARTITION", option_map names_text r.first.candidates) ∷ []

pub iodevice_in_rows : (r : Run) → iodevice_operands r ≡ operands_in (iodevice_rows r)
iodevice_in_rows r =
    ap (λ last. valued (codes "ADDRESS") (Some (devices_text (devices_in r)))
    ++ (valued (codes "CUNUMBR") (if_any r.first.units (units_text r.first.units))
    ++ (valued (codes "UNITADD") (Some (hex2 r.first.unit_address))
    ++ (valued (codes "SCHSET") (set_operand r.first.set) ++ last))))
    (sym (append-nil (valued (codes "PARTITION") (option_map names_text r.first.candidates))))

-- a digit is no list
digit_is_no_list : (n : ℕ) → n < 16 → is_list (value (hex1 n)) ≡ false
digit_is_no_list n small = ap is_list (plain_again (hex1 n) (hex1_plain n small))

iodevice_rows_taken : (r : Run) → IsGivenRun r → AreTakenRows Iodevice (iodevice_rows r)
iodevice_rows_taken r is = (taken_devices, (taken_units, (taken_address, (taken_set, (taken_candidates, tt)))))
  where
    taken_devices : IsTakenText Iodevice (codes "ADDRESS") (devices_text (devices_in r))
    taken_devices = value_taken Iodevice (codes "ADDRESS") (devices_text (devices_in r)) refl
        (devices_in_one (devices_in r) (run_has_devices r is)) refl

    taken_units : IfSome (if_any r.first.units (units_text r.first.units)) (IsTakenText Iodevice (codes "CUNUMBR"))
    taken_units =
        any_taken (IsTakenText Iodevice (codes "CUNUMBR")) r.first.units (units_text r.first.units)
        (λ some. value_taken Iodevice (codes "CUNUMBR") (units_text r.first.units) refl
        (units_in_one r.first.units is.first.units) refl)

    taken_address : IsTakenText Iodevice (codes "UNITADD") (hex2 r.first.unit_address)
    taken_address =
        value_taken Iodevice (codes "UNITADD") (hex2 r.first.unit_address) refl
        (hex2_in_one r.first.unit_address is.first.unit_address) refl

    small : r.first.set < 16
    small = let set = is.first.set in omega arith

    taken_set : IfSome (set_operand r.first.set) (IsTakenText Iodevice (codes "SCHSET"))
    taken_set =
        unless_taken (IsTakenText Iodevice (codes "SCHSET")) (r.first.set == 0) (hex1 r.first.set)
        (value_taken Iodevice (codes "SCHSET") (hex1 r.first.set) refl (hex1_in_one r.first.set small)
        (digit_is_no_list r.first.set small))

    taken_candidates : IfSome (option_map names_text r.first.candidates) (IsTakenText Iodevice (codes "PARTITION"))
    taken_candidates =
        some_taken (IsTakenText Iodevice (codes "PARTITION")) names_text r.first.candidates
        (λ names there. value_taken Iodevice (codes "PARTITION") (names_text names) refl
        (names_in_one names (is.first.candidates names there).each) refl)

pub iodevice_taken : (r : Run) → IsGivenRun r → All (IsTaken Iodevice) (iodevice_operands r)
iodevice_taken r is = known_taken Iodevice (iodevice_rows r) (iodevice_operands r) (iodevice_in_rows r)
    (iodevice_rows_taken r is)

pub iodevice_text : (r : Run) → IsGivenRun r → (keyword : List ℕ) → Knows Iodevice keyword
    → text_under keyword (placed 0 (iodevice_operands r ++ r.first.carried)) ≡ text_in keyword (iodevice_rows r)
iodevice_text r is = text_read Iodevice (iodevice_rows r) (iodevice_operands r) (iodevice_in_rows r) r.first.carried
    is.first.carried.unknown

pub iodevice_has_no_fault : (r : Run) → IsGivenRun r → HasNoFault Iodevice (placed 0 (iodevice_statement r).operands)
iodevice_has_no_fault r is =
    no_fault Iodevice (iodevice_operands r) r.first.carried is.first.carried (iodevice_taken r is)
    (ap (λ text. is_none text || false) (iodevice_text r is (codes "ADDRESS") refl))
