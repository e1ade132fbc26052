-- The operand of a text is what the text says, and nothing else is.
use Rattle.std.proofs.Common.{◌≡◌, ◌≢◌, ℕ, suc, ◌+◌, Bool, true, false, not, cond, ◌==◌, Option, None, Some, List, []}
use Rattle.std.proofs.Common.{◌∷◌, ◌++◌, length, take, drop, Result, Ok, Err, refl, sym, ap, ◌∙◌, subst, arith}
use Rattle.std.proofs.lemmas.Bool.{false≢true, and_parts}
use Rattle.std.proofs.Math.Dec.{eqb-suc-zero}
use Rattle.std.proofs.Math.Seq.{take-append_seam, drop-append-add}
use Rattle.std.specs.List.{list_all}
use Rattle.std.specs.Option.{option_map, option_and_then}
use Rattle.iocm_types.specs.declared.fault.Fault.{Fault}
use Rattle.iocm_statements.specs.declared.nesting.Nesting.{Nesting}
use Rattle.iocm_statements.specs.declared.operands.OperandKey.TheVariants.{Keyword, Bare}
use Rattle.iocm_statements.specs.Nesting.{start, step, sets}
use Rattle.iocm_statements.specs.Cutting.{nesting_behind}
use Rattle.iocm_statements.specs.Operands.{Operand, equals_from, is_keyword_byte, is_keyword, keyword_operand}
use Rattle.iocm_statements.specs.Operands.{operand_split, operand_of}
use Rattle.iocm_statements.specs.Splitting.{HasNoEquals, Says, FindsOperand, FindsNoOtherOperand}
use Rattle.iocm_statements.proofs.Nestings.{sets_at_start, sets_at_equals, equals_sets, keyword_byte_sets_not}
use Rattle.iocm_statements.proofs.Nestings.{keyword_byte_stays}

-- ---- the equal sign that is found

-- it stands behind so many bytes, and they end outside
abbrev Split : Nesting → List ℕ → Option ℕ → Type 0
Split p text None = (a b : List ℕ) → text ≡ a ++ 61 ∷ b → nesting_behind p a ≢ Some start
Split p text (Some n) = (take n text ++ 61 ∷ drop (n + 1) text ≡ text) × (nesting_behind p (take n text) ≡ Some start)

no_text : (a b : List ℕ) → [] ≡ a ++ 61 ∷ b → ⊥
no_text [] b e = cc
no_text (x ∷ a) b e = cc

split_here : (p : Nesting) (b : ℕ) (bs : List ℕ) → sets p b ≡ true → Split p (b ∷ bs) (Some 0)
split_here p b bs here = (ap (λ c. c ∷ bs) (sym (sets_at_equals p b here)), ap Some (sets_at_start p b here))

none_longer : (p : Nesting) (b : ℕ) (bs : List ℕ) → sets p b ≡ false
    → ((a c : List ℕ) → bs ≡ a ++ 61 ∷ c → option_and_then (λ q. nesting_behind q a) (step p b) ≢ Some start)
    → Split p (b ∷ bs) None
none_longer p b bs other rest [] c e h =
    let equals : b ≡ 61 = cc in
    let begun : p ≡ start = cc in
    false≢true (sym other ∙ (λ i. sets (begun i) (equals i)) ∙ equals_sets)
none_longer p b bs other rest (x ∷ a) c e h =
    let same : x ≡ b = cc in
    let more : bs ≡ a ++ 61 ∷ c = cc in
    rest a c more (ap (λ y. option_and_then (λ q. nesting_behind q a) (step p y)) (sym same) ∙ h)

longer : (p q : Nesting) (b : ℕ) (bs : List ℕ) (found : Option ℕ) → sets p b ≡ false → step p b ≡ Some q
    → Split q bs found → Split p (b ∷ bs) (option_map suc found)
longer p q b bs None other next at =
    none_longer p b bs other (λ a c e h. at a c e (sym (ap (option_and_then (λ r. nesting_behind r a)) next) ∙ h))
longer p q b bs (Some n) other next at =
    let further : suc n + 1 ≡ suc (n + 1) = omega arith in
    (ap (λ k. b ∷ (take n bs ++ 61 ∷ drop k (b ∷ bs))) further ∙ ap (λ xs. b ∷ xs) at.0, rw next at.1)

split_from : (p : Nesting) (text : List ℕ) → Split p text (equals_from p text)
unfolding equals_from
split_from p [] = λ a b e _. no_text a b e
split_from p (b ∷ bs) = by (sets p b) refl (step p b) refl (λ q. split_from q bs)
  where
    by : (here : Bool) → sets p b ≡ here → (next : Option Nesting) → step p b ≡ next
        → ((q : Nesting) → Split q bs (equals_from q bs))
        → Split p (b ∷ bs) (cond here (Some 0) (option_and_then (λ q. option_map suc (equals_from q bs)) next))
    by true here next is rest = split_here p b bs here
    by false other None is rest =
        none_longer p b bs other
        (λ a c e h. let none : None ≡ Some start = sym (ap (option_and_then (λ q. nesting_behind q a)) is)
        ∙ h in cc)
    by false other (Some q) is rest = longer p q b bs (equals_from q bs) other is (rest q)

-- ---- the operand that is found

abbrev Found : Fault → ℕ → List ℕ → Result Operand Fault → Type 0
Found fault place text (Ok operand) = Says place text operand
Found fault place text (Err e) = e ≡ fault

found_keyword : (fault : Fault) (place : ℕ) (text : List ℕ) (n : ℕ) → Split start text (Some n)
    → Found fault place text (keyword_operand fault text n)
found_keyword fault place text n at = by (is_keyword (take n text)) refl
  where
    by : (good : Bool) → is_keyword (take n text) ≡ good
        → Found fault place text (cond good (Ok (Keyword (take n text), drop (n + 1) text)) (Err fault))
    by true good = (good, sym at.0)
    by false bad = refl

found_operand : (fault : Fault) (place : ℕ) (text : List ℕ) → text ≢ [] → (found : Option ℕ) → Split start text found
    → Found fault place text (operand_split fault place text found)
found_operand fault place text some None at = (refl, refl, some, at)
found_operand fault place text some (Some n) at = found_keyword fault place text n at

operand_more : (fault : Fault) (place b : ℕ) (bs : List ℕ)
    → operand_of fault place (b ∷ bs) ≡ operand_split fault place (b ∷ bs) (equals_from start (b ∷ bs))
operand_more fault place b bs = rw (eqb-suc-zero (length bs)) refl

found : (fault : Fault) (place : ℕ) (text : List ℕ) → Found fault place text (operand_of fault place text)
found fault place [] = refl
found fault place (b ∷ bs) =
    subst (Found fault place (b ∷ bs)) (sym (operand_more fault place b bs))
    (found_operand fault place (b ∷ bs) (λ e. cc) (equals_from start (b ∷ bs)) (split_from start (b ∷ bs)))

pub finds_operand : FindsOperand
finds_operand fault place text operand is = subst (Found fault place text) is (found fault place text)

-- ---- what is said is found

equals_behind : (keyword value : List ℕ) → list_all is_keyword_byte keyword ≡ true
    → equals_from start (keyword ++ 61 ∷ value) ≡ Some (length keyword)
unfolding equals_from
equals_behind [] value word = rw equals_sets refl
equals_behind (b ∷ keyword) value word =
    let byte = (and_parts (is_keyword_byte b) (list_all is_keyword_byte keyword) word).0 in
    let rest = equals_behind keyword value (and_parts (is_keyword_byte b) (list_all is_keyword_byte keyword) word).1 in
    rw (keyword_byte_sets_not b byte, keyword_byte_stays b byte, rest) refl

no_equals : (text : List ℕ) → HasNoEquals text → equals_from start text ≡ None
no_equals text none = by (equals_from start text) (split_from start text)
  where
    by : (found : Option ℕ) → Split start text found → found ≡ None
    by None at = refl
    by (Some n) at = absurd (none (take n text) (drop (n + 1) text) (sym at.0) at.1)

keyword_splits : (fault : Fault) (keyword value : List ℕ) → is_keyword keyword ≡ true
    → keyword_operand fault (keyword ++ 61 ∷ value) (length keyword) ≡ Ok (Keyword keyword, value)
keyword_splits fault keyword value word =
    rw (take-append_seam keyword (61 ∷ value), drop-append-add keyword (61 ∷ value) 1, word) refl

says_keyword : (fault : Fault) (place : ℕ) (keyword value : List ℕ) → is_keyword keyword ≡ true
    → operand_of fault place (keyword ++ 61 ∷ value) ≡ Ok (Keyword keyword, value)
says_keyword fault place [] value word = absurd (false≢true word)
says_keyword fault place (b ∷ keyword) value word =
    let bytes = (and_parts (not (length (b ∷ keyword) == 0)) (list_all is_keyword_byte (b ∷ keyword)) word).1 in
    operand_more fault place b (keyword ++ 61 ∷ value)
    ∙ ap (operand_split fault place ((b ∷ keyword) ++ 61 ∷ value)) (equals_behind (b ∷ keyword) value bytes)
    ∙ keyword_splits fault (b ∷ keyword) value word

says_bare : (fault : Fault) (place : ℕ) (text : List ℕ) → text ≢ [] → HasNoEquals text
    → operand_of fault place text ≡ Ok (Bare place, text)
says_bare fault place [] some none = absurd (some refl)
says_bare fault place (b ∷ bs) some none =
    operand_more fault place b bs ∙ ap (operand_split fault place (b ∷ bs)) (no_equals (b ∷ bs) none)

pub finds_no_other_operand : FindsNoOtherOperand
finds_no_other_operand fault place text ((Keyword keyword), value) at =
    ap (operand_of fault place) at.1 ∙ says_keyword fault place keyword value at.0
finds_no_other_operand fault place text ((Bare i), word) at =
    let place_is : place ≡ i = sym at.0 in
    let text_is : text ≡ word = sym at.1 in
    says_bare fault place text at.2 at.3 ∙ (λ j. Ok (Bare (place_is j), text_is j))
