-- The operands that are read of an operand part can be written, and are written as the part.
use Rattle.std.proofs.Common.{◌≡◌, ◌≢◌, ℕ, ◌+◌, Bool, true, false, cond, Option, None, Some, List, [], ◌∷◌, ◌++◌, All}
use Rattle.std.proofs.Common.{map, length, Result, Ok, Err, refl, sym, ap, ◌∙◌, subst, append_assoc}
use Rattle.std.proofs.lemmas.List.Elements.{All-nil, All-cons, All-head, All-tail, All-map, All-filter}
use Rattle.std.proofs.Math.Dec.{eqb-suc-zero}
use Rattle.std.specs.Prelude.{filter}
use Rattle.std.specs.List.{list_all, join_with_byte}
use Rattle.iocm_types.specs.declared.fault.Fault.{Fault}
use Rattle.iocm_types.specs.declared.rule.Rule.TheVariants.{S2, S4, S6}
use Rattle.iocm_types.specs.Fault.{◌>>=◌, or_fault, at}
use Rattle.iocm_types.specs.Each.{each}
use Rattle.iocm_statements.specs.declared.operands.OperandKey.TheVariants.{Keyword, Bare}
use Rattle.iocm_statements.specs.Pieces.{pieces_of}
use Rattle.iocm_statements.specs.Cutting.{IsBalanced, IsUncut}
use Rattle.iocm_statements.specs.Operands.{Operand, is_keyword_byte, operand_of, operand_texts, has_twins}
use Rattle.iocm_statements.specs.Operands.{without_twins}
use Rattle.iocm_statements.specs.Splitting.{HasNoEquals, Says}
use Rattle.iocm_statements.proofs.Relation.{finds_pieces}
use Rattle.iocm_statements.proofs.Saying.{finds_operand}
use Rattle.iocm_record_reader.specs.Values.{as_carried}
use Rattle.iocm_deck_writer.specs.Canonical.{operand_text}
use Rattle.iocm_deck_writer.specs.Again.{key_at, placed, IsPlaceable, ArePlaceable, AreGivenBy, WritesOperandsAgain}
use Rattle.iocm_deck_writer.specs.Again.{WritesCarriedAgain}
use Rattle.iocm_deck_writer.proofs.Apart.{apart_brings_no_twins, no_twins_are_apart, some_have_no_twins}
use Rattle.iocm_deck_writer.proofs.Again.{keyword_stays, keyword_bytes}

refused : {A : Type 0} (e : Fault) (x : A) → ◌≡◌ {A = Result A Fault} (Err e) (Ok x) → ⊥
refused e x is = cc

-- ---- one operand

-- an operand that was read at this place, of this text
pub record IsGivenAt (place : ℕ) (text : List ℕ) (operand : Operand) : Type 0 where
  pub placeable : IsPlaceable (as_carried operand)
  pub in_place : (key_at place (as_carried operand).keyword, (as_carried operand).text) ≡ operand
  pub written : operand_text (as_carried operand) ≡ text

value_uncut : (keyword value : List ℕ) → list_all is_keyword_byte keyword ≡ true → IsUncut (keyword ++ 61 ∷ value)
    → IsUncut value
value_uncut keyword value word uncut a b e h =
    uncut (keyword ++ 61 ∷ a) b (ap (λ v. keyword ++ 61 ∷ v) e ∙ sym (append_assoc keyword (61 ∷ a) (44 ∷ b)))
    (keyword_stays keyword a word ∙ h)

given_at : (place : ℕ) (text : List ℕ) (operand : Operand) → Says place text operand → IsBalanced text → IsUncut text
    → IsGivenAt place text operand
given_at place text ((Keyword keyword), value) says balanced uncut =
    let bytes = keyword_bytes keyword says.0 in
    record {
      placeable = record {
        keyed = says.0;
        balanced = sym (keyword_stays keyword value bytes) ∙ subst IsBalanced says.1 balanced;
        uncut = value_uncut keyword value bytes (subst IsUncut says.1 uncut);
      };
      in_place = refl;
      written = sym says.1;
    }
given_at place text ((Bare i), word) says balanced uncut =
    let word_is : text ≡ word = sym says.1 in
    record {
      placeable = record {
        keyed = subst (λ t. (t ≢ []) × HasNoEquals t) word_is (says.2, says.3);
        balanced = subst IsBalanced word_is balanced;
        uncut = subst IsUncut word_is uncut;
      };
      in_place = ap (λ j. (Bare j, word)) (sym says.0);
      written = says.1;
    }

-- ---- the operands of the pieces

pub record AreGivenFrom (place : ℕ) (texts : List (List ℕ)) (operands : List Operand) : Type 0 where
  pub placeable : All IsPlaceable (map as_carried operands)
  pub in_place : placed place (map as_carried operands) ≡ operands
  pub written : map operand_text (map as_carried operands) ≡ texts

none_given : (place : ℕ) → AreGivenFrom place [] []
unfolding placed
none_given place = record { placeable = All-nil IsPlaceable; in_place = refl; written = refl }

more_given : (place : ℕ) (x : List ℕ) (xs : List (List ℕ)) (y : Operand) (ys : List Operand)
    → IsGivenAt place x y → AreGivenFrom (place + 1) xs ys → AreGivenFrom place (x ∷ xs) (y ∷ ys)
unfolding placed
more_given place x xs y ys first rest = record {
  placeable = All-cons IsPlaceable (as_carried y) (map as_carried ys) first.placeable rest.placeable;
  in_place = λ i. first.in_place i ∷ rest.in_place i;
  written = λ i. first.written i ∷ rest.written i;
}

given_from : (fault : Fault) (place : ℕ) (texts : List (List ℕ)) (operands : List Operand) → All IsBalanced texts
    → All IsUncut texts
    → each (operand_of fault) place texts ≡ Ok operands → AreGivenFrom place texts operands
unfolding each
given_from fault place [] operands balanced uncut is =
    let none : [] ≡ operands = cc in
    subst (AreGivenFrom place []) none (none_given place)
given_from fault place (x ∷ xs) operands balanced uncut is =
    by (operand_of fault place x) refl (each (operand_of fault) (place + 1) xs) refl
    (λ ys. given_from fault (place + 1) xs ys (All-tail IsBalanced x xs balanced) (All-tail IsUncut x xs uncut)) is
  where
    by : (first : Result Operand Fault) → operand_of fault place x ≡ first
        → (rest : Result (List Operand) Fault) → each (operand_of fault) (place + 1) xs ≡ rest
        → ((ys : List Operand) → each (operand_of fault) (place + 1) xs ≡ Ok ys → AreGivenFrom (place + 1) xs ys)
        → (first >>= λ y. rest >>= λ ys. Ok (y ∷ ys)) ≡ Ok operands → AreGivenFrom place (x ∷ xs) operands
    by (Err e) found rest others further is = absurd (refused e operands is)
    by (Ok y) found (Err e) others further is = absurd (refused e operands is)
    by (Ok y) found (Ok ys) others further is =
        let all : y ∷ ys ≡ operands = cc in
        let first = given_at place x y (finds_operand fault place x y found) (All-head IsBalanced x xs balanced)
        (All-head IsUncut x xs uncut) in
        subst (AreGivenFrom place (x ∷ xs)) all (more_given place x xs y ys first (further ys others))

-- ---- the operand part

pub record AreTexts (text : List ℕ) (texts : List (List ℕ)) : Type 0 where
  pub joined : join_with_byte 44 texts ≡ text
  pub balanced : All IsBalanced texts
  pub uncut : All IsUncut texts

some_part : (fault : Fault) (b : ℕ) (bs : List ℕ) → operand_texts fault (b ∷ bs) ≡ or_fault fault (pieces_of (b ∷ bs))
some_part fault b bs = rw (eqb-suc-zero (length bs)) refl

texts_given : (fault : Fault) (text : List ℕ) (texts : List (List ℕ)) → operand_texts fault text ≡ Ok texts
    → AreTexts text texts
texts_given fault [] texts is =
    let none : [] ≡ texts = cc in
    subst (AreTexts []) none (record { joined = refl; balanced = All-nil IsBalanced; uncut = All-nil IsUncut })
texts_given fault (b ∷ bs) texts is = by (pieces_of (b ∷ bs)) refl (sym (some_part fault b bs) ∙ is)
  where
    by : (pieces : Option (List (List ℕ))) → pieces_of (b ∷ bs) ≡ pieces → or_fault fault pieces ≡ Ok texts
        → AreTexts (b ∷ bs) texts
    by None cut is = absurd (refused fault texts is)
    by (Some pieces) cut is =
        let same : pieces ≡ texts = cc in
        let found = finds_pieces (b ∷ bs) texts (cut ∙ ap Some same) in
        record { joined = found.joined; balanced = found.balanced; uncut = found.uncut }

none_twice : (fault : Fault) (found operands : List Operand) → without_twins fault found ≡ Ok operands
    → (found ≡ operands) × (has_twins operands ≡ false)
none_twice fault found operands is = by (has_twins found) refl is
  where
    by : (twins : Bool) → has_twins found ≡ twins → cond twins (Err fault) (Ok found) ≡ Ok operands
        → (found ≡ operands) × (has_twins operands ≡ false)
    by true twins is = absurd (refused fault operands is)
    by false apart is =
        let same : found ≡ operands = cc in
        (same, ap has_twins (sym same) ∙ apart)

given_of_texts : (line : ℕ) (text : List ℕ) (texts : List (List ℕ)) (operands : List Operand) → AreTexts text texts
    → (each (operand_of (at S4 line)) 0 texts >>= λ found. without_twins (at S2 line) found) ≡ Ok operands
    → AreGivenBy text operands
given_of_texts line text texts operands are is = by (each (operand_of (at S4 line)) 0 texts) refl is
  where
    by : (read : Result (List Operand) Fault) → each (operand_of (at S4 line)) 0 texts ≡ read
        → (read >>= λ found. without_twins (at S2 line) found) ≡ Ok operands → AreGivenBy text operands
    by (Err e) found is = absurd (refused e operands is)
    by (Ok all) found is =
        let once = none_twice (at S2 line) all operands is in
        let given = given_from (at S4 line) 0 texts operands are.balanced are.uncut (found ∙ ap Ok once.0) in
        record {
          placeable = record { each = given.placeable; apart = no_twins_are_apart operands once.1 };
          in_place = given.in_place;
          written = ap (join_with_byte 44) given.written ∙ are.joined;
        }

pub operands_given : WritesOperandsAgain
operands_given line text operands is = by (operand_texts (at S6 line) text) refl is
  where
    by : (read : Result (List (List ℕ)) Fault) → operand_texts (at S6 line) text ≡ read
        → (read >>= λ texts. each (operand_of (at S4 line)) 0 texts >>= λ found. without_twins (at S2 line) found)
        ≡ Ok operands
        → AreGivenBy text operands
    by (Err e) cut is = absurd (refused e operands is)
    by (Ok texts) cut is = given_of_texts line text texts operands (texts_given (at S6 line) text texts cut) is

-- ---- what is carried of it

all_carried : (es : List Operand) → All IsPlaceable (map as_carried es)
    → All (λ (e : Operand). IsPlaceable (as_carried e)) es
all_carried [] all = All-nil (λ (e : Operand). IsPlaceable (as_carried e))
all_carried (e ∷ es) all =
    All-cons (λ (x : Operand). IsPlaceable (as_carried x)) e es
    (All-head IsPlaceable (as_carried e) (map as_carried es) all)
    (all_carried es (All-tail IsPlaceable (as_carried e) (map as_carried es) all))

some_placeable : (p : Operand → Bool) (es : List Operand) → All IsPlaceable (map as_carried es) → has_twins es ≡ false
    → ArePlaceable (map as_carried (filter p es))
some_placeable p es all none = record {
  each = All-map IsPlaceable as_carried (filter p es)
      (All-filter p (λ (e : Operand). IsPlaceable (as_carried e)) es (all_carried es all));
  apart = no_twins_are_apart (filter p es) (some_have_no_twins p es none);
}

pub carried_given : WritesCarriedAgain
carried_given line text operands is operation =
    let given = operands_given line text operands is in
    let none = ap has_twins (sym given.in_place)
    ∙ apart_brings_no_twins 0 (map as_carried operands) given.placeable.apart in
    some_placeable _ operands given.placeable.each none
