-- Words that are explained: the first that is no refusal's number, or the refusals that they name.
use Rattle.std.proofs.Common.{◌≡◌, ◌∙◌, ℕ, ◌+◌, ◌<◌, ◌≤◌, Bool, true, false, cond, List, [], ◌∷◌, ◌++◌, Option, None}
use Rattle.std.proofs.Common.{Some, append_assoc, length, get_or, drop, map, option_map, refl, sym, ap, subst}
use Rattle.std.proofs.Math.ListN.{drop_of_length-le}
use Rattle.std.proofs.lemmas.List.{append-nil}
use Rattle.std.specs.Borrow.{Bor}
use Rattle.std.specs.List.{cons_option, find}
use Rattle.iocm_types.proofs.Lists.{drop-item}
use Rattle.iocm_types.specs.declared.rule.Rule.{Rule}
use Rattle.iocm_explain.specs.declared.explaining.Explained.{Explained}
use Rattle.iocm_explain.specs.declared.explaining.Unexplained.TheVariants.{Unknown}
use Rattle.iocm_explain.specs.Explain.{explained, rules_named, unless_unknown, Explains}
use Rattle.iocm_explain.specs.Named.{is_unknown, rule_named}
use Rattle.std.specs.Prelude.{Ok, Err}

-- the first of some values that passes is the value of the first that does
find_mapped : {A B : Type 0} (f : A → B) (p : B → Bool) (xs : List A)
    → find p (map f xs) ≡ option_map f (find (λ x. p (f x)) xs)
find_mapped f p [] = refl
find_mapped f p (x ∷ xs) =
    elim (p (f x)) as (λ b. cond b (Some (f x)) (find p (map f xs))
    ≡ option_map f (cond b (Some x) (find (λ y. p (f y)) xs))) [ true ↦ refl | false ↦ find_mapped f p xs ]

abbrev text_of : Bor (List ℕ) → List ℕ
text_of word = word.now

abbrev first_of : List (Bor (List ℕ)) → Option (Bor (List ℕ))
first_of words = find (λ word. is_unknown word.now) words

-- what is said of words whose first unknown one is this
explained_of : (words : List (Bor (List ℕ))) (found : Option (Bor (List ℕ))) → found ≡ first_of words
    → explained (map text_of words) ≡ unless_unknown (option_map text_of found) (rules_named (map text_of words))
explained_of words found is =
    ap (λ o. unless_unknown o (rules_named (map text_of words)))
    (find_mapped text_of is_unknown words ∙ ap (option_map text_of) (sym is))

-- the word is answered
pub unknown_explains : (words : List (Bor (List ℕ))) (word : Bor (List ℕ)) → Some word ≡ first_of words
    → Explains (Err (Unknown word)) (explained (map text_of words))
unknown_explains words word is =
    subst (Explains (Err (Unknown word))) (sym (explained_of words (Some word) is)) refl

-- the refusals are named
pub named_explains : (words : List (Bor (List ℕ))) (e : Explained) → None ≡ first_of words
    → e.rules.items ≡ rules_named (map text_of words) → Explains (Ok e) (explained (map text_of words))
named_explains words e is named = subst (Explains (Ok e)) (sym (explained_of words None is)) named

-- the refusals that the words from a place on name
abbrev pub rest_of : ℕ → List (Bor (List ℕ)) → List Rule
rest_of i words = rules_named (map text_of (drop i words))

rest_begins : (words : List (Bor (List ℕ))) (i : ℕ) (word : Bor (List ℕ)) (named : Option Rule) → i < length words
    → word ≡ get_or words i word → rule_named word.now ≡ named
    → rest_of i words ≡ cons_option named (rest_of (i + 1) words)
rest_begins words i word named within item is =
    ap (λ ws. rules_named (map text_of ws)) (drop-item words i word within item)
    ∙ ap (λ o. cons_option o (rest_of (i + 1) words)) is

-- a word that names a refusal
pub named_goes_on : (words : List (Bor (List ℕ))) (i : ℕ) (word : Bor (List ℕ)) (rules : List Rule) (rule : Rule)
    → i < length words → word ≡ get_or words i word → Some rule ≡ rule_named word.now
    → (rules ++ rule ∷ []) ++ rest_of (i + 1) words ≡ rules ++ rest_of i words
named_goes_on words i word rules rule within item is =
    append_assoc rules (rule ∷ []) (rest_of (i + 1) words)
    ∙ ap (λ rest. rules ++ rest) (sym (rest_begins words i word (Some rule) within item (sym is)))

-- a word that names none
pub unnamed_goes_on : (words : List (Bor (List ℕ))) (i : ℕ) (word : Bor (List ℕ)) → i < length words
    → word ≡ get_or words i word → None ≡ rule_named word.now → rest_of (i + 1) words ≡ rest_of i words
unnamed_goes_on words i word within item is = sym (rest_begins words i word None within item (sym is))

-- at the end no word is left
pub named_done : (words : List (Bor (List ℕ))) (i : ℕ) (rules : List Rule) → length words ≤ i
    → rules ++ rest_of i words ≡ rules
named_done words i rules past =
    ap (λ ws. rules ++ rules_named (map text_of ws)) (drop_of_length-le words past) ∙ append-nil rules

pub ruleset named_steps = (named_goes_on, unnamed_goes_on, named_done)
