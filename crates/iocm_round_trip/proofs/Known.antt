-- Each canonical statement can be written: the values that it knows are clean and stand under
-- different keywords, before what it carries.
use Rattle.std.proofs.Common.{◌≡◌, ◌≢◌, ℕ, ◌≤◌, ◌==◌, Bool, true, false, cond, Option, None, Some, List, [], ◌∷◌, ◌++◌}
use Rattle.std.proofs.Common.{IfSome, length, codes, refl, sym, ap, ◌∙◌, subst, append_assoc, arith}
use Rattle.std.proofs.Math.Dec.{eqb-suc-zero}
use Rattle.std.specs.Option.{option_map}
use Rattle.iocm_types.specs.declared.path_kind.PathKind.{PathKind}
use Rattle.iocm_types.specs.declared.path_kind.PathKind.TheVariants.{Dedicated, Shared, Reconfigurable}
use Rattle.iocm_types.specs.Fault.{memory}
use Rattle.iocm_types.specs.Print.{hex1, hex2, hex4}
use Rattle.iocm_model.specs.Machine.Record.{CarriedOperand, ImageRecord, LimitRecord, PathRecord, UnitRecord}
use Rattle.iocm_operands.specs.Again.{AreByCss, IsImage, AreLimits}
use Rattle.iocm_operands.specs.ChpidPartition.{partition_text}
use Rattle.iocm_operands.specs.ChpidPath.{path_text}
use Rattle.iocm_operands.specs.Device.{devices_text, units_text}
use Rattle.iocm_operands.specs.Limits.{limits_text}
use Rattle.iocm_operands.specs.Resource.{images_text}
use Rattle.iocm_operands.specs.Unit.{paths_text, ranges_text, links_text}
use Rattle.iocm_statements.specs.declared.operands.OperandKey.TheVariants.{Bare}
use Rattle.iocm_statements.specs.declared.operation.Operation.TheVariants.{Id, Resource, Chpid, Cntlunit, Iodevice}
use Rattle.iocm_statements.specs.Nesting.{step, sets, is_outside}
use Rattle.iocm_statements.specs.Operands.{equals_from}
use Rattle.iocm_statements.specs.Splitting.{HasNoEquals}
use Rattle.iocm_statements.proofs.Saying.{finds_operand}
use Rattle.iocm_values.specs.NameSet.{names_text}
use Rattle.iocm_deck_writer.specs.Canonical.{chpid_operands, chpid_statement, cntlunit_statement, shared_words}
use Rattle.iocm_deck_writer.specs.Canonical.{is_reconfigurable}
use Rattle.iocm_deck_writer.specs.Device.{Run, iodevice_statement, set_operand}
use Rattle.iocm_deck_writer.specs.Resource.{resource_operands}
use Rattle.iocm_deck_writer.specs.Statement.{valued, if_any}
use Rattle.iocm_round_trip.specs.Given.{AreCarriedBy, IsGivenPath, IsGivenUnit}
use Rattle.iocm_round_trip.specs.Running.{IsGivenRun}
use Rattle.iocm_round_trip.specs.Stating.{CanBeWritten}
use Rattle.iocm_round_trip.proofs.OperandTexts.{path_clean, names_clean, partition_clean, paths_clean, ranges_clean}
use Rattle.iocm_round_trip.proofs.OperandTexts.{links_clean, devices_clean, units_clean, images_clean, limits_clean}
use Rattle.iocm_round_trip.proofs.Texts.{IsClean, clean_plain, clean_hex1, clean_hex2, clean_hex4}
use Rattle.iocm_round_trip.proofs.Following.{CanFollow, Entry, can_be_written, value_follows, word_follows}
use Rattle.iocm_round_trip.proofs.Following.{carried_follows, entries_can_be_written}

-- ---- values that may be left out

any_clean : {A : Type 0} (items : List A) (text : List ℕ) → (items ≢ [] → IsClean text)
    → IfSome (if_any items text) IsClean
any_clean [] text clean = tt
any_clean (x ∷ items) text clean =
    subst (λ none. IfSome (cond none None (Some text)) IsClean) (sym (eqb-suc-zero (length items))) (clean (λ e. cc))

mapped_clean : {A : Type 0} (text_of : A → List ℕ) (value : Option A) → ((x : A) → value ≡ Some x → IsClean (text_of x))
    → IfSome (option_map text_of value) IsClean
mapped_clean text_of None clean = tt
mapped_clean text_of (Some x) clean = clean x refl

set_clean : (set : ℕ) → set ≤ 3 → IfSome (set_operand set) IsClean
set_clean set small = by (set == 0)
  where
    by : (none : Bool) → IfSome (cond none None (Some (hex1 set))) IsClean
    by true = tt
    by false = clean_hex1 set (omega arith)

-- ---- entries

-- a value that always stands
abbrev always : (word text : List ℕ) → IsClean text → Entry
always word text clean = record { word = word; text = Some text; clean = clean }

-- the value of a list, which is left out where the list is empty
abbrev where_any : {A : Type 0} (word : List ℕ) (items : List A) (text : List ℕ) → (items ≢ [] → IsClean text) → Entry
where_any word items text clean = record { word = word; text = if_any items text; clean = any_clean items text clean }

-- a value that stands where there is one
abbrev where_some : {A : Type 0} (word : List ℕ) (text_of : A → List ℕ) (value : Option A)
    → ((x : A) → value ≡ Some x → IsClean (text_of x)) → Entry
where_some word text_of value clean =
    record { word = word; text = option_map text_of value; clean = mapped_clean text_of value clean }

-- ---- ID

-- the ID statement has nothing but what it carries
pub id_can_be_written : (carried : List CarriedOperand) → AreCarriedBy Id carried
    → CanBeWritten (record { operation = Id; operands = carried })
id_can_be_written carried at = entries_can_be_written Id [] carried refl refl at

-- ---- RESOURCE

abbrev resource_entries : (images : List ImageRecord) (limits : List LimitRecord)
    → (images ≢ [] → AreByCss (λ (i : ImageRecord). i.css) IsImage images) → (limits ≢ [] → AreLimits limits)
    → List Entry
resource_entries images limits are_images are_limits =
    where_any (codes "PARTITION") images (images_text images) (λ some. images_clean images (are_images some).each)
    ∷ where_any (codes "MAXDEV") limits (limits_text limits) (λ some. limits_clean limits (are_limits some).by_css.each)
    ∷ []

pub resource_can_be_written : (images : List ImageRecord) (limits : List LimitRecord) (carried : List CarriedOperand)
    → (images ≢ [] → AreByCss (λ (i : ImageRecord). i.css) IsImage images) → (limits ≢ [] → AreLimits limits)
    → AreCarriedBy Resource carried
    → CanBeWritten (record { operation = Resource; operands = resource_operands images limits ++ carried })
resource_can_be_written images limits carried are_images are_limits at =
    entries_can_be_written Resource (resource_entries images limits are_images are_limits) carried refl refl at

-- ---- CHPID

-- the word SHARED stands alone
shared_has_no_equals : HasNoEquals (codes "SHARED")
unfolding equals_from sets step is_outside
shared_has_no_equals = (finds_operand memory 0 (codes "SHARED") (Bare 0, codes "SHARED") refl).3

shared_follows : (taken : List (List ℕ)) (kind : PathKind) (operands : List CarriedOperand) → CanFollow taken operands
    → CanFollow taken (shared_words kind ++ operands)
shared_follows taken Shared operands can =
    word_follows taken (codes "SHARED") operands (λ e. cc) shared_has_no_equals (clean_plain (codes "SHARED") refl refl)
    can
shared_follows taken Dedicated operands can = can
shared_follows taken Reconfigurable operands can = can

pub chpid_can_be_written : (p : PathRecord) → IsGivenPath p → CanBeWritten (chpid_statement p)
chpid_can_be_written p is =
    let number = path_text (record { css = p.css; path = p.number }) in
    let lists = partition_text p.access p.candidates (is_reconfigurable p.kind) in
    let front = valued (codes "PATH") (Some number) in
    let back = valued (codes "PARTITION") (Some lists) in
    let in_order : front ++ (shared_words p.kind ++ (back ++ p.carried)) ≡ chpid_operands p ++ p.carried =
    ap (λ os. front ++ os) (sym (append_assoc (shared_words p.kind) back p.carried))
    ∙ sym (append_assoc front (shared_words p.kind ++ back) p.carried) in
    let carried = carried_follows Chpid (codes "PARTITION" ∷ codes "PATH" ∷ []) p.carried refl is.carried in
    let clean = partition_clean p.access p.candidates (is_reconfigurable p.kind) is.access is.candidates in
    let with_lists = value_follows (codes "PATH" ∷ []) (codes "PARTITION") (Some lists) p.carried refl refl clean
    carried in
    let with_word = shared_follows (codes "PATH" ∷ []) p.kind (back ++ p.carried) with_lists in
    let all = value_follows [] (codes "PATH") (Some number) (shared_words p.kind ++ (back ++ p.carried)) refl refl
    (path_clean p.css p.number is.path) with_word in
    can_be_written Chpid (chpid_operands p ++ p.carried) (subst (CanFollow []) in_order all)

-- ---- CNTLUNIT

abbrev cntlunit_entries : (u : UnitRecord) → IsGivenUnit u → List Entry
cntlunit_entries u is =
    always (codes "CUNUMBR") (hex4 u.number) (clean_hex4 u.number (let small = is.number in omega arith))
    ∷ where_any (codes "PATH") u.paths (paths_text u.paths) (λ some. paths_clean u.paths (is.paths some).each)
    ∷ always (codes "UNITADD") (ranges_text u.ranges) (ranges_clean u.ranges is.ranges)
    ∷ where_any (codes "LINK") u.links (links_text u.links) (λ some. links_clean u.links (is.links some).each)
    ∷ where_some (codes "CUADD") hex2 u.cuadd (λ address there. clean_hex2 address (is.cuadd address there))
    ∷ []

pub cntlunit_can_be_written : (u : UnitRecord) → IsGivenUnit u → CanBeWritten (cntlunit_statement u)
cntlunit_can_be_written u is = entries_can_be_written Cntlunit (cntlunit_entries u is) u.carried refl refl is.carried

-- ---- IODEVICE

abbrev iodevice_entries : (r : Run) → IsGivenRun r → List Entry
iodevice_entries r is =
    let d = r.first in
    let first = is.first in
    always (codes "ADDRESS") (devices_text (record { first = d.number; count = r.count }))
    (devices_clean d.number r.count first.number (let last = is.numbers in omega arith))
    ∷ where_any (codes "CUNUMBR") d.units (units_text d.units) (λ some. units_clean d.units first.units)
    ∷ always (codes "UNITADD") (hex2 d.unit_address) (clean_hex2 d.unit_address first.unit_address)
    ∷ record { word = codes "SCHSET"; text = set_operand d.set; clean = set_clean d.set first.set }
    ∷ where_some (codes "PARTITION") names_text d.candidates
    (λ names there. names_clean names (first.candidates names there))
    ∷ []

pub iodevice_can_be_written : (r : Run) → IsGivenRun r → CanBeWritten (iodevice_statement r)
iodevice_can_be_written r is =
    entries_can_be_written Iodevice (iodevice_entries r is) r.first.carried refl refl is.first.carried
