-- Statements of one or two operands can be written.
use Rattle.std.proofs.Common.{◌≡◌, ℕ, ◌≤◌, ◌==◌, Bool, true, false, cond, Option, Some, None, List, [], ◌∷◌, ◌++◌}
use Rattle.std.proofs.Common.{IfSome, All, refl, subst, append-nil, arith}
use Rattle.std.proofs.lemmas.List.Elements.{All-nil}
use Rattle.std.specs.List.{list_any}
use Rattle.std.specs.Str.{bytes_eq}
use Rattle.iocm_types.specs.Name.{is_name}
use Rattle.iocm_types.specs.Print.{hex1}
use Rattle.iocm_statements.specs.declared.operation.Operation.{Operation}
use Rattle.iocm_statements.specs.declared.operation.Operation.TheVariants.{Id}
use Rattle.iocm_statements.specs.Operands.{is_keyword}
use Rattle.iocm_values.specs.NameSet.{names_text}
use Rattle.iocm_deck_writer.specs.Device.{set_operand}
use Rattle.iocm_deck_writer.specs.Statement.{valued}
use Rattle.iocm_round_trip.specs.Stating.{CanBeWritten}
use Rattle.iocm_round_trip.proofs.Deck.{nothing_carried}
use Rattle.iocm_round_trip.proofs.Following.{CanFollow, IsOther, can_be_written, value_follows}
use Rattle.iocm_round_trip.proofs.Texts.{IsClean, clean_name, clean_hex1, clean_list}

nothing_follows : (taken : List (List ℕ)) → CanFollow taken []
nothing_follows taken = record {
  placeable = (nothing_carried Id).placeable;
  texts = (nothing_carried Id).texts;
  others = λ k d within. All-nil (IsOther _);
}

pub two_can : (operation : Operation) (a x b : List ℕ) (y : Option (List ℕ)) → is_keyword a ≡ true → is_keyword b ≡ true
    → list_any (bytes_eq b) (a ∷ []) ≡ false
    → IsClean x → IfSome y IsClean
    → CanBeWritten (record { operation = operation; operands = valued a (Some x) ++ valued b y })
two_can operation a x b y first second apart clean_x clean_y =
    let last : CanFollow (a ∷ []) (valued b y ++ []) =
    value_follows (a ∷ []) b y [] second apart clean_y (nothing_follows (b ∷ a ∷ [])) in
    can_be_written operation (valued a (Some x) ++ valued b y)
    (value_follows [] a (Some x) (valued b y) first refl clean_x
    (subst (CanFollow (a ∷ [])) (append-nil (valued b y)) last))

pub set_clean : (set : ℕ) → set ≤ 3 → IfSome (set_operand set) IsClean
set_clean set small = by (set == 0)
  where
    by : (none : Bool) → IfSome (cond none None (Some (hex1 set))) IsClean
    by true = tt
    by false = clean_hex1 set (omega arith)

pub names_clean : (name : List ℕ) (names : List (List ℕ)) → All (λ n. is_name n ≡ true) (name ∷ names)
    → IsClean (names_text (name ∷ names))
names_clean name names are = clean_list (name ∷ names) (λ k d within. clean_name _ (are k d within))
