-- Words in capitals, and the refusals whose numbers they are.
use Rattle.std.proofs.Common.{◌≡◌, ◌∙◌, ℕ, Bool, true, false, cond, List, [], ◌∷◌, Option, Some, map, refl, sym, ap}
use Rattle.std.proofs.Common.{arith}
use Rattle.std.proofs.lemmas.Bool.Decides.{nat_tests}
use Rattle.std.proofs.lemmas.Slice.Eq.{bytes_eq-Decides}
use Rattle.std.specs.Char.{to_ascii_lowercase, to_ascii_uppercase}
use Rattle.std.specs.Prelude.{IfSome}
use Rattle.iocm_types.specs.declared.rule.Rule.{Rule}
use Rattle.iocm_types.specs.declared.rule.Rule.TheVariants.{L1}
use Rattle.iocm_types.specs.Rule.{rule_text}
use Rattle.iocm_explain.specs.Named.{capitals, is_number_of, named_among}

-- a letter and its small letter have one capital
capital_of_small : (c : ℕ) → to_ascii_uppercase (to_ascii_lowercase c) ≡ to_ascii_uppercase c
capital_of_small c = grind (arith, nat_tests)

capitals_of_small : (word : List ℕ) → capitals (map to_ascii_lowercase word) ≡ capitals word
capitals_of_small [] = refl
capitals_of_small (c ∷ word) = λ i. capital_of_small c i ∷ capitals_of_small word i

number_in_capitals : (r : Rule) → capitals (rule_text r) ≡ rule_text r
number_in_capitals L1 = refl
number_in_capitals _ = refl

-- a word that is a refusal's number is it in capitals
word_in_capitals : (word : List ℕ) (r : Rule) → is_number_of word r ≡ true → rule_text r ≡ capitals word
word_in_capitals word r is =
    let one : map to_ascii_lowercase (rule_text r) ≡ map to_ascii_lowercase word =
    (bytes_eq-Decides (map to_ascii_lowercase (rule_text r)) (map to_ascii_lowercase word)).0 is in
    sym (number_in_capitals r) ∙ sym (capitals_of_small (rule_text r)) ∙ ap capitals one ∙ capitals_of_small word

first_or_later : (word : List ℕ) (r : Rule) (later : Option Rule) (b : Bool) → is_number_of word r ≡ b
    → IfSome later (λ s. rule_text s ≡ capitals word)
    → IfSome (cond b (Some r) later) (λ s. rule_text s ≡ capitals word)
first_or_later word r later true is found = word_in_capitals word r is
first_or_later word r later false is found = found

-- the number of the refusal that is found is the word in capitals
pub named_in_capitals : (word : List ℕ) (rules : List Rule)
    → IfSome (named_among word rules) (λ r. rule_text r ≡ capitals word)
named_in_capitals word [] = tt
named_in_capitals word (r ∷ rules) =
    first_or_later word r (named_among word rules) (is_number_of word r) refl (named_in_capitals word rules)
