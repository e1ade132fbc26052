-- The operands of a written statement are read again: their texts are the pieces of the operand
-- part, and each says its operand.
use Rattle.std.proofs.Common.{◌≡◌, ◌≢◌, ℕ, ◌+◌, ◌==◌, not, true, false, Option, None, Some, List, [], ◌∷◌, ◌++◌, All}
use Rattle.std.proofs.Common.{map, length, Ok, refl, sym, ap, ◌∙◌}
use Rattle.std.proofs.lemmas.Bool.{false≢true, and_parts}
use Rattle.std.proofs.lemmas.List.Elements.{All-head, All-tail, All-map}
use Rattle.std.proofs.Math.Dec.{eqb-suc-zero}
use Rattle.std.specs.List.{flat_map, list_all, join_with_byte}
use Rattle.std.specs.Option.{option_map_or, option_and_then}
use Rattle.iocm_types.specs.declared.fault.Fault.{Fault}
use Rattle.iocm_types.specs.declared.rule.Rule.TheVariants.{S4, S6}
use Rattle.iocm_types.specs.Fault.{at}
use Rattle.iocm_types.specs.Each.{each}
use Rattle.iocm_model.specs.Machine.Record.{CarriedOperand}
use Rattle.iocm_statements.specs.Nesting.{start, step}
use Rattle.iocm_statements.specs.Pieces.{pieces_of}
use Rattle.iocm_statements.specs.Cutting.{nesting_behind, IsBalanced, IsUncut, IsCutInto}
use Rattle.iocm_statements.specs.Operands.{is_keyword_byte, is_keyword, operand_of, operand_texts}
use Rattle.iocm_statements.specs.Splitting.{Says}
use Rattle.iocm_statements.proofs.Nestings.{keyword_byte_stays}
use Rattle.iocm_statements.proofs.Relation.{finds_no_others}
use Rattle.iocm_statements.proofs.Saying.{finds_no_other_operand}
use Rattle.iocm_values.proofs.Joined.{join_behind}
use Rattle.iocm_deck_writer.specs.Canonical.{operand_text}
use Rattle.iocm_deck_writer.proofs.Apart.{apart_brings_no_twins}
use Rattle.iocm_deck_writer.specs.Again.{key_at, placed, IsKeyed, IsPlaceable, ReadsOperandsAgain}

-- ---- a keyword in front leaves the nesting as it is, and brings no comma

equals_stays : step start 61 ≡ Some start
unfolding step
equals_stays = refl

equals_is_no_comma : ◌≢◌ {A = ℕ} 61 44
equals_is_no_comma e = false≢true (sym (ap (λ b. b == 61) e))

keyword_byte_is_no_comma : (b : ℕ) → is_keyword_byte b ≡ true → b ≢ 44
keyword_byte_is_no_comma b word = λ e. false≢true (sym (ap is_keyword_byte e) ∙ word)

pub keyword_stays : (keyword text : List ℕ) → list_all is_keyword_byte keyword ≡ true
    → nesting_behind start (keyword ++ 61 ∷ text) ≡ nesting_behind start text
keyword_stays [] text word = rw equals_stays refl
keyword_stays (b ∷ keyword) text word =
    let parts = and_parts (is_keyword_byte b) (list_all is_keyword_byte keyword) word in
    rw (keyword_byte_stays b parts.0) (keyword_stays keyword text parts.1)

longer_uncut : (b : ℕ) (text : List ℕ) → step start b ≡ Some start → b ≢ 44 → IsUncut text → IsUncut (b ∷ text)
longer_uncut b text stays other uncut [] c e h = other cc
longer_uncut b text stays other uncut (x ∷ a) c e h =
    let same : x ≡ b = cc in
    let rest : text ≡ a ++ 44 ∷ c = cc in
    uncut a c rest (sym (ap (option_and_then (λ q. nesting_behind q a)) (ap (step start) same ∙ stays)) ∙ h)

keyword_uncut : (keyword text : List ℕ) → list_all is_keyword_byte keyword ≡ true → IsUncut text
    → IsUncut (keyword ++ 61 ∷ text)
keyword_uncut [] text word uncut = longer_uncut 61 text equals_stays equals_is_no_comma uncut
keyword_uncut (b ∷ keyword) text word uncut =
    let parts = and_parts (is_keyword_byte b) (list_all is_keyword_byte keyword) word in
    longer_uncut b (keyword ++ 61 ∷ text) (keyword_byte_stays b parts.0) (keyword_byte_is_no_comma b parts.0)
    (keyword_uncut keyword text parts.1 uncut)

pub keyword_bytes : (keyword : List ℕ) → is_keyword keyword ≡ true → list_all is_keyword_byte keyword ≡ true
keyword_bytes keyword word = (and_parts (not (length keyword == 0)) (list_all is_keyword_byte keyword) word).1

-- ---- the text of one operand

-- what operand_text gives, by the operand's two parts
abbrev text_of : Option (List ℕ) → List ℕ → List ℕ
text_of keyword text = option_map_or (λ word. word ++ 61 ∷ text) keyword text

text_balanced : (keyword : Option (List ℕ)) (text : List ℕ) → IsKeyed keyword text → IsBalanced text
    → IsBalanced (text_of keyword text)
text_balanced (Some keyword) text word balanced = keyword_stays keyword text (keyword_bytes keyword word) ∙ balanced
text_balanced None text keyed balanced = balanced

text_uncut : (keyword : Option (List ℕ)) (text : List ℕ) → IsKeyed keyword text → IsUncut text
    → IsUncut (text_of keyword text)
text_uncut (Some keyword) text word uncut = keyword_uncut keyword text (keyword_bytes keyword word) uncut
text_uncut None text keyed uncut = uncut

text_some : (keyword : Option (List ℕ)) (text : List ℕ) → IsKeyed keyword text → text_of keyword text ≢ []
text_some (Some []) text word = λ e. cc
text_some (Some (b ∷ keyword)) text word = λ e. cc
text_some None text keyed = keyed.0

text_says : (place : ℕ) (keyword : Option (List ℕ)) (text : List ℕ) → IsKeyed keyword text
    → Says place (text_of keyword text) (key_at place keyword, text)
text_says place (Some keyword) text word = (word, refl)
text_says place None text keyed = (refl, refl, keyed.0, keyed.1)

-- ---- the operand part

texts_are_pieces : (o : CarriedOperand) (os : List CarriedOperand) → All IsPlaceable (o ∷ os)
    → IsCutInto (join_with_byte 44 (map operand_text (o ∷ os))) (map operand_text (o ∷ os))
texts_are_pieces o os all = record {
  some = λ e. cc;
  joined = refl;
  balanced = All-map IsBalanced operand_text (o ∷ os)
      (λ k d h. let is = all k d h in text_balanced _ _ is.keyed is.balanced);
  uncut = All-map IsUncut operand_text (o ∷ os) (λ k d h. let is = all k d h in text_uncut _ _ is.keyed is.uncut);
}

-- a part that isn't empty is cut
some_texts : (fault : Fault) (x : List ℕ) (xs pieces : List (List ℕ)) → x ≢ []
    → pieces_of (join_with_byte 44 (x ∷ xs)) ≡ Some pieces
    → operand_texts fault (join_with_byte 44 (x ∷ xs)) ≡ Ok pieces
some_texts fault [] xs pieces some cut = absurd (some refl)
some_texts fault (b ∷ bs) xs pieces some cut =
    let behind = join_behind 44 (b ∷ bs) xs in
    let is_some : length (join_with_byte 44 ((b ∷ bs) ∷ xs)) == 0 ≡ false =
    ap (λ text. length text == 0) behind ∙ eqb-suc-zero (length (bs ++ flat_map (λ y. 44 ∷ y) xs)) in
    rw (is_some, cut) refl

texts_again : (fault : Fault) (operands : List CarriedOperand) → All IsPlaceable operands
    → operand_texts fault (join_with_byte 44 (map operand_text operands)) ≡ Ok (map operand_text operands)
texts_again fault [] all = refl
texts_again fault (o ∷ os) all =
    let first = All-head IsPlaceable o os all in
    some_texts fault (operand_text o) (map operand_text os) (map operand_text (o ∷ os))
    (text_some o.keyword o.text first.keyed)
    (finds_no_others (join_with_byte 44 (map operand_text (o ∷ os))) (map operand_text (o ∷ os))
    (texts_are_pieces o os all))

each_again : (fault : Fault) (place : ℕ) (operands : List CarriedOperand) → All IsPlaceable operands
    → each (operand_of fault) place (map operand_text operands) ≡ Ok (placed place operands)
unfolding each placed
each_again fault place [] all = refl
each_again fault place (o ∷ os) all =
    let first = All-head IsPlaceable o os all in
    let says = text_says place o.keyword o.text first.keyed in
    rw (
      finds_no_other_operand fault place (operand_text o) (key_at place o.keyword, o.text) says,
      each_again fault (place + 1) os (All-tail IsPlaceable o os all),
    ) refl

pub operands_again : ReadsOperandsAgain
operands_again line operands are =
    rw (
      texts_again (at S6 line) operands are.each,
      each_again (at S4 line) 0 operands are.each,
      apart_brings_no_twins 0 operands are.apart,
    ) refl
