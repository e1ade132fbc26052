-- Each line of a tree can be written.
use Rattle.std.proofs.Common.{◌≡◌, ℕ, ◌≤◌, ◌==◌, Bool, true, false, cond, Option, Some, None, List, [], ◌∷◌, ◌++◌}
use Rattle.std.proofs.Common.{IfSome, All, codes, map, refl, subst, append-nil, arith}
use Rattle.std.proofs.lemmas.List.Elements.{All-nil, All-cons, All-append}
use Rattle.std.specs.List.{list_any}
use Rattle.std.specs.Str.{bytes_eq}
use Rattle.iocm_types.specs.declared.key.Key.{Key}
use Rattle.iocm_types.specs.declared.key.Key.TheVariants as key
use Rattle.iocm_types.specs.Name.{is_name}
use Rattle.iocm_types.specs.Print.{hex1, hex4}
use Rattle.iocm_model.specs.Change.Edit.{Action, add, delete, modify}
use Rattle.iocm_model.specs.Machine.Record.{Rec, id, resource, image, limit, path, unit, device, online}
use Rattle.iocm_statements.specs.declared.operation.Operation.{Operation}
use Rattle.iocm_statements.specs.declared.operation.Operation.TheVariants.{Id, Resource, Chpid, Cntlunit, Iodevice}
use Rattle.iocm_statements.specs.declared.operation.Operation.TheVariants.{Online, Row, Group, Choose, End}
use Rattle.iocm_statements.specs.Operands.{is_keyword}
use Rattle.iocm_operands.specs.ChpidPath.{path_text}
use Rattle.iocm_operands.specs.Device.{devices_text}
use Rattle.iocm_operands.specs.Resource.{image_text, images_text}
use Rattle.iocm_values.specs.declared.texts.CssText.{CssText}
use Rattle.iocm_values.specs.NameSet.{names_text}
use Rattle.iocm_tree.specs.Carried.{verb_of}
use Rattle.iocm_tree.specs.Trees.{CarriedTree, CarriedParts, leaf, row, group, choose, none, part, plain_parts}
use Rattle.iocm_tree.specs.Trees.{plain_tree}
use Rattle.iocm_deck_writer.specs.Device.{set_operand}
use Rattle.iocm_deck_writer.specs.Statement.{valued}
use Rattle.iocm_round_trip.specs.Stating.{CanBeWritten}
use Rattle.iocm_round_trip.proofs.Deck.{nothing_carried}
use Rattle.iocm_round_trip.proofs.Following.{CanFollow, IsOther, can_be_written, value_follows}
use Rattle.iocm_round_trip.proofs.OperandTexts.{path_clean, devices_clean}
use Rattle.iocm_round_trip.proofs.Texts.{IsClean, clean_plain, clean_name, clean_hex1, clean_hex4, clean_list}
use Rattle.iocm_round_trip.proofs.Texts.{clean_pair, clean_by_css}
use Rattle.iocm_tree_writer.specs.Given.{IsGivenKey, IsGivenRecord, IsModified, IsGivenAction, IsGivenTree}
use Rattle.iocm_tree_writer.specs.Given.{AreGivenParts, IsImagePlace, IsPair}
use Rattle.iocm_tree_writer.specs.Leaves.{key_statement, record_statement, online_statement}
use Rattle.iocm_tree_writer.specs.Written.{Line, action_line, word_line, enclosed, tree_lines, lines_in}
use Rattle.iocm_tree_writer.proofs.Deleted.{starred, no_limit_is}
use Rattle.iocm_tree_writer.proofs.Given.{record_again}
use Rattle.iocm_tree_writer.proofs.LimitKeys.{no_limit}
use Rattle.iocm_tree_writer.proofs.Reread.{CanBeLine, verb_is_field, nothing_is_field}

-- ---- statements of one or two operands

nothing_follows : (taken : List (List ℕ)) → CanFollow taken []
nothing_follows taken = record {
  placeable = (nothing_carried Id).placeable;
  texts = (nothing_carried Id).texts;
  others = λ k d within. All-nil (IsOther _);
}

nothing_can : (operation : Operation) → CanBeWritten (record { operation = operation; operands = [] })
nothing_can operation = can_be_written operation [] (nothing_follows [])

one_can : (operation : Operation) (word text : List ℕ) → is_keyword word ≡ true → IsClean text
    → CanBeWritten (record { operation = operation; operands = valued word (Some text) })
one_can operation word text keyword clean =
    can_be_written operation (valued word (Some text))
    (value_follows [] word (Some text) [] keyword refl clean (nothing_follows (word ∷ [])))

two_can : (operation : Operation) (a x b : List ℕ) (y : Option (List ℕ)) → is_keyword a ≡ true → is_keyword b ≡ true
    → list_any (bytes_eq b) (a ∷ []) ≡ false
    → IsClean x → IfSome y IsClean
    → CanBeWritten (record { operation = operation; operands = valued a (Some x) ++ valued b y })
two_can operation a x b y first second apart clean_x clean_y =
    let last : CanFollow (a ∷ []) (valued b y ++ []) =
    value_follows (a ∷ []) b y [] second apart clean_y (nothing_follows (b ∷ a ∷ [])) in
    can_be_written operation (valued a (Some x) ++ valued b y)
    (value_follows [] a (Some x) (valued b y) first refl clean_x
    (subst (CanFollow (a ∷ [])) (append-nil (valued b y)) last))

-- ---- keys

star_clean : (css mif : ℕ) → IsImagePlace css mif → IsClean (images_text (starred css mif ∷ []))
star_clean css mif is =
    let most = is.most in
    let one : IsClean (image_text (starred css mif)).text =
    clean_pair (codes "*") (hex1 mif) (clean_plain (codes "*") refl refl) (clean_hex1 mif (omega arith)) in
    clean_by_css (map image_text (starred css mif ∷ []))
    (All-cons (λ (i : CssText). IsClean i.text) (image_text (starred css mif)) [] one
    (All-nil (λ (i : CssText). IsClean i.text)))

set_clean : (set : ℕ) → set ≤ 3 → IfSome (set_operand set) IsClean
set_clean set small = by (set == 0)
  where
    by : (none : Bool) → IfSome (cond none None (Some (hex1 set))) IsClean
    by true = tt
    by false = clean_hex1 set (omega arith)

name_clean : (name : List ℕ) → is_name name ≡ true → IsClean (names_text (name ∷ []))
name_clean name is = clean_list (name ∷ []) (All-cons IsClean name [] (clean_name name is) (All-nil IsClean))

pair_can : (css number : ℕ) (name : List ℕ) → IsPair css number name → CanBeWritten (online_statement css number name)
pair_can css number name is =
    two_can Online (codes "PATH") (path_text (record { css = css; path = number })) (codes "PARTITION")
    (Some (names_text (name ∷ []))) refl refl refl
    (path_clean css number is.path) (name_clean name is.named)

key_can : (k : Key) → IsGivenKey k → CanBeWritten (key_statement k)
key_can key.Id is = nothing_can Id
key_can key.Resource is = nothing_can Resource
key_can (key.Image css mif) is =
    one_can Resource (codes "PARTITION") (images_text (starred css mif ∷ [])) refl (star_clean css mif is)
key_can (key.Limit css set) is = (record_again (limit (no_limit css set)) tt (no_limit_is css set is)).written
key_can (key.Path css number) is =
    one_can Chpid (codes "PATH") (path_text (record { css = css; path = number })) refl (path_clean css number is)
key_can (key.Unit number) is = one_can Cntlunit (codes "CUNUMBR") (hex4 number) refl (clean_hex4 number (omega arith))
key_can (key.Device set number) is =
    two_can Iodevice (codes "ADDRESS") (devices_text (record { first = number; count = 1 })) (codes "SCHSET")
    (set_operand set) refl refl refl
    (devices_clean number 1 is.last (omega arith)) (set_clean set is.within)
key_can (key.Online css number name) is = pair_can css number name is

-- ---- records

record_can : (r : Rec) → IsGivenRecord r → CanBeWritten (record_statement r)
record_can (id c) is = (record_again (id c) tt is).written
record_can (resource c) is = (record_again (resource c) tt is).written
record_can (image i) is = (record_again (image i) tt is).written
record_can (limit l) is = (record_again (limit l) tt is).written
record_can (path p) is = (record_again (path p) tt is).written
record_can (unit u) is = (record_again (unit u) tt is).written
record_can (device d) is = (record_again (device d) tt is).written
record_can (online o) is = pair_can o.css o.path o.name is

pub modified_is_given : (r : Rec) → IsModified r → IsGivenRecord r
modified_is_given (id c) is = is
modified_is_given (resource c) is = is
modified_is_given (image i) is = is
modified_is_given (limit l) is = is
modified_is_given (path p) is = is
modified_is_given (unit u) is = is
modified_is_given (device d) is = is
modified_is_given (online o) is = absurd is

-- ---- lines

line_can : (a : Action) → IsGivenAction a → CanBeLine (action_line a)
line_can (add r) is = record { field = verb_is_field (verb_of (add r)); statement = record_can r is }
line_can (delete k) is = record { field = verb_is_field (verb_of (delete k)); statement = key_can k is }
line_can (modify r) is =
    record { field = verb_is_field (verb_of (modify r)); statement = record_can r (modified_is_given r is) }

word_can : (operation : Operation) → CanBeLine (word_line operation)
word_can operation = record { field = nothing_is_field; statement = nothing_can operation }

enclosed_can : (operation : Operation) (lines : List Line) → All CanBeLine lines
    → All CanBeLine (enclosed operation lines)
enclosed_can operation lines can =
    All-cons CanBeLine (word_line operation) (lines ++ word_line End ∷ []) (word_can operation)
    (All-append CanBeLine lines (word_line End ∷ []) can
    (All-cons CanBeLine (word_line End) [] (word_can End) (All-nil CanBeLine)))

mutual
  pub lines_can : (t : CarriedTree) → IsGivenTree t → All CanBeLine (tree_lines (plain_tree t))
  lines_can (leaf c) is = All-cons CanBeLine (action_line c.edit.action) [] (line_can c.edit.action is.action)
      (All-nil CanBeLine)
  lines_can (row ps) is = enclosed_can Row (lines_in (plain_parts ps)) (all_can ps is)
  lines_can (group ps) is = enclosed_can Group (lines_in (plain_parts ps)) (all_can ps is)
  lines_can (choose ps) is = enclosed_can Choose (lines_in (plain_parts ps)) (all_can ps is)

  all_can : (ps : CarriedParts) → AreGivenParts ps → All CanBeLine (lines_in (plain_parts ps))
  all_can none are = All-nil CanBeLine
  all_can (part p ps) are =
      All-append CanBeLine (tree_lines (plain_tree p)) (lines_in (plain_parts ps)) (lines_can p are.0)
      (all_can ps are.1)
