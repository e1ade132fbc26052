-- What is found among the operands of a written statement: the place that an operand stands at is
-- of no account, and what the statement carries is none of the words that it knows.
use Rattle.std.proofs.Common.{◌≡◌, ℕ, ◌+◌, ◌||◌, Bool, true, false, cond, Option, Some, None, List, [], ◌∷◌, ◌++◌, All}
use Rattle.std.proofs.Common.{map, refl, sym, ap, ◌∙◌}
use Rattle.std.specs.Prelude.{is_none, filter}
use Rattle.std.specs.Option.{option_or}
use Rattle.std.specs.List.{list_any}
use Rattle.std.specs.Str.{bytes_eq}
use Rattle.std.proofs.lemmas.Bool.{true≢false}
use Rattle.std.proofs.Math.Bool.{or-false}
use Rattle.std.proofs.lemmas.List.Elements.{All-head, All-tail, filter-append}
use Rattle.std.proofs.lemmas.List.Folds.{list_any-append}
use Rattle.std.proofs.lemmas.Slice.Eq.{bytes_eq-Decides}
use Rattle.iocm_model.specs.Machine.Record.{CarriedOperand}
use Rattle.iocm_statements.specs.declared.operation.Operation.{Operation}
use Rattle.iocm_statements.specs.declared.operands.OperandKey.TheVariants.{Bare}
use Rattle.iocm_statements.specs.Operands.{Operand, is_under, text_under, is_bare_word, has_bare}
use Rattle.iocm_keywords.specs.declared.known.Form.{Form}
use Rattle.iocm_keywords.specs.declared.known.Form.TheVariants as form
use Rattle.iocm_keywords.specs.Known.{table, form_in, word_of, is_carried, is_other_form_of, is_other_form, has_value}
use Rattle.iocm_keywords.specs.LeftOut.{is_left_out_as, is_left_out}
use Rattle.iocm_record_reader.specs.Values.{as_carried, carried_by}
use Rattle.iocm_deck_writer.specs.Again.{key_at, placed}
use Rattle.iocm_round_trip.specs.Given.{as_operand}

-- ---- wherever they stand

under_key : (keyword : List ℕ) (place : ℕ) (key : Option (List ℕ))
    → is_under keyword (key_at place key) ≡ is_under keyword (key_at 0 key)
under_key keyword place None = refl
under_key keyword place (Some word) = refl

-- the text under a keyword, of operands that have no places
abbrev pub text_of : List ℕ → List CarriedOperand → Option (List ℕ)
text_of keyword operands = text_under keyword (map as_operand operands)

text_placed : (keyword : List ℕ) (place : ℕ) (os : List CarriedOperand)
    → text_under keyword (placed place os) ≡ text_of keyword os
unfolding placed
text_placed keyword place [] = refl
text_placed keyword place (o ∷ os) =
    λ i. cond (under_key keyword place o.keyword i) (Some o.text) (text_placed keyword (place + 1) os i)

-- a test of operands that doesn't ask for their places
abbrev pub IsBlind : (Operand → Bool) → Type 0
IsBlind test = (place : ℕ) (key : Option (List ℕ)) (text : List ℕ)
    → test (key_at place key, text) ≡ test (key_at 0 key, text)

any_placed : (test : Operand → Bool) → IsBlind test → (place : ℕ) (os : List CarriedOperand)
    → list_any test (placed place os) ≡ list_any (λ o. test (as_operand o)) os
unfolding placed
any_placed test blind place [] = refl
any_placed test blind place (o ∷ os) = λ i. blind place o.keyword o.text i || any_placed test blind (place + 1) os i

bare_blind : (word : List ℕ) → IsBlind (is_bare_word word)
bare_blind word place None text = refl
bare_blind word place (Some keyword) text = refl

-- a text alone has no value that could be left out
bare_left_out : (operation : Operation) (place : ℕ) (text : List ℕ) (found : Option Form)
    → is_left_out_as found operation (Bare place, text) ≡ is_left_out_as found operation (Bare 0, text)
bare_left_out operation place text None = refl
bare_left_out operation place text (Some form.Required) = refl
bare_left_out operation place text (Some form.Optional) = refl
bare_left_out operation place text (Some form.Bare) = refl
bare_left_out operation place text (Some form.LeftOut) = refl

left_out_blind : (operation : Operation) → IsBlind (is_left_out operation)
left_out_blind operation place None text = bare_left_out operation place text (form_in (table operation) text)
left_out_blind operation place (Some keyword) text = refl

other_form_blind : (operation : Operation) → IsBlind (is_other_form operation)
other_form_blind operation place None text = refl
other_form_blind operation place (Some keyword) text = refl

carried_blind : (operation : Operation) → IsBlind (is_carried operation)
carried_blind operation place None text = refl
carried_blind operation place (Some keyword) text = refl

carried_again : (place : ℕ) (key : Option (List ℕ)) (text : List ℕ)
    → as_carried (key_at place key, text) ≡ record { keyword = key; text = text }
carried_again place None text = refl
carried_again place (Some keyword) text = refl

first_carried : (b : Bool) (e : Operand) (es : List Operand) (o : CarriedOperand) (os : List CarriedOperand)
    → as_carried e ≡ o → map as_carried es ≡ os → map as_carried (cond b (e ∷ es) es) ≡ cond b (o ∷ os) os
first_carried true e es o os first rest = λ i. first i ∷ rest i
first_carried false e es o os first rest = rest

carried_placed : (operation : Operation) (place : ℕ) (os : List CarriedOperand)
    → carried_by operation (placed place os) ≡ filter (λ o. is_carried operation (as_operand o)) os
unfolding placed
carried_placed operation place [] = refl
carried_placed operation place (o ∷ os) =
    let e : Operand = (key_at place o.keyword, o.text) in
    let es : List Operand = filter (is_carried operation) (placed (place + 1) os) in
    ap (λ b. map as_carried (cond b (e ∷ es) es)) (carried_blind operation place o.keyword o.text)
    ∙ first_carried (is_carried operation (as_operand o)) e es o (filter (λ p. is_carried operation (as_operand p)) os)
    (carried_again place o.keyword o.text) (carried_placed operation (place + 1) os)

-- ---- what is carried is none of the known words

no_form : (found : Option Form) → is_none found ≡ true → found ≡ None
no_form None none = refl
no_form (Some found) none = absurd (true≢false (sym none))

-- a word that the statement knows
abbrev pub Knows : Operation → List ℕ → Type 0
Knows operation word = is_none (form_in (table operation) word) ≡ false

other_word : (operation : Operation) (known word : List ℕ) → Knows operation known
    → is_none (form_in (table operation) word) ≡ true → bytes_eq word known ≡ false
other_word operation known word knows unknown = by (bytes_eq word known) refl
  where
    by : (same : Bool) → bytes_eq word known ≡ same → same ≡ false
    by false e = refl
    by true e =
        let is : word ≡ known = (bytes_eq-Decides word known).0 e in
        absurd (true≢false (sym unknown ∙ ap (λ w. is_none (form_in (table operation) w)) is ∙ knows))

-- an operand that the statement doesn't know
abbrev pub IsUnknown : Operation → CarriedOperand → Type 0
IsUnknown operation o = is_carried operation (as_operand o) ≡ true

not_under : (operation : Operation) (keyword : List ℕ) → Knows operation keyword
    → (key : Option (List ℕ)) (text : List ℕ)
    → is_carried operation (key_at 0 key, text) ≡ true → is_under keyword (key_at 0 key) ≡ false
not_under operation keyword knows None text unknown = refl
not_under operation keyword knows (Some word) text unknown = other_word operation keyword word knows unknown

no_text : (operation : Operation) (keyword : List ℕ) → Knows operation keyword → (carried : List CarriedOperand)
    → All (IsUnknown operation) carried
    → text_of keyword carried ≡ None
no_text operation keyword knows [] unknown = refl
no_text operation keyword knows (o ∷ os) unknown =
    ap (λ b. cond b (Some o.text) (text_of keyword os))
    (not_under operation keyword knows o.keyword o.text (All-head (IsUnknown operation) o os unknown))
    ∙ no_text operation keyword knows os (All-tail (IsUnknown operation) o os unknown)

-- a test that no carried operand passes
none_pass : (operation : Operation) (test : Operand → Bool)
    → ((key : Option (List ℕ)) (text : List ℕ) → is_carried operation (key_at 0 key, text) ≡ true
    → test (key_at 0 key, text) ≡ false)
    → (carried : List CarriedOperand) → All (IsUnknown operation) carried
    → list_any (λ o. test (as_operand o)) carried ≡ false
none_pass operation test fails [] unknown = refl
none_pass operation test fails (o ∷ os) unknown =
    (λ i. fails o.keyword o.text (All-head (IsUnknown operation) o os unknown) i
    || list_any (λ x. test (as_operand x)) os)
    ∙ none_pass operation test fails os (All-tail (IsUnknown operation) o os unknown)

not_bare : (operation : Operation) (known : List ℕ) → Knows operation known → (key : Option (List ℕ)) (text : List ℕ)
    → is_carried operation (key_at 0 key, text) ≡ true → is_bare_word known (key_at 0 key, text) ≡ false
not_bare operation known knows None text unknown = other_word operation known text knows unknown
not_bare operation known knows (Some word) text unknown = refl

not_left_out : (operation : Operation) (key : Option (List ℕ)) (text : List ℕ)
    → is_carried operation (key_at 0 key, text) ≡ true → is_left_out operation (key_at 0 key, text) ≡ false
not_left_out operation key text unknown =
    ap (λ found. is_left_out_as found operation (key_at 0 key, text))
    (no_form (form_in (table operation) (word_of (key_at 0 key, text))) unknown)

not_other_form : (operation : Operation) (key : Option (List ℕ)) (text : List ℕ)
    → is_carried operation (key_at 0 key, text) ≡ true → is_other_form operation (key_at 0 key, text) ≡ false
not_other_form operation key text unknown =
    ap (λ found. is_other_form_of found (has_value (key_at 0 key, text)))
    (no_form (form_in (table operation) (word_of (key_at 0 key, text))) unknown)

all_kept : (operation : Operation) (carried : List CarriedOperand) → All (IsUnknown operation) carried
    → filter (λ o. is_carried operation (as_operand o)) carried ≡ carried
all_kept operation [] unknown = refl
all_kept operation (o ∷ os) unknown =
    (λ i. cond (All-head (IsUnknown operation) o os unknown i)
    (o ∷ filter (λ x. is_carried operation (as_operand x)) os) (filter (λ x. is_carried operation (as_operand x)) os))
    ∙ ap (λ rest. o ∷ rest) (all_kept operation os (All-tail (IsUnknown operation) o os unknown))

-- ---- known operands

-- an operand that its statement knows, in its form and in none that is left out
pub record IsTaken (operation : Operation) (o : CarriedOperand) : Type 0 where
  pub known : is_carried operation (as_operand o) ≡ false
  pub formed : is_other_form operation (as_operand o) ≡ false
  pub taken : is_left_out operation (as_operand o) ≡ false

-- a value under its keyword is
abbrev pub IsTakenText : Operation → List ℕ → List ℕ → Type 0
IsTakenText operation keyword text = IsTaken operation (record { keyword = Some keyword; text = text })

all_fail : (test : CarriedOperand → Bool) (os : List CarriedOperand) → All (λ o. test o ≡ false) os
    → list_any test os ≡ false
all_fail test [] fail = refl
all_fail test (o ∷ os) fail =
    (λ i. All-head (λ x. test x ≡ false) o os fail i || list_any test os)
    ∙ all_fail test os (All-tail (λ x. test x ≡ false) o os fail)

none_kept : (test : CarriedOperand → Bool) (os : List CarriedOperand) → All (λ o. test o ≡ false) os
    → filter test os ≡ []
none_kept test [] fail = refl
none_kept test (o ∷ os) fail =
    (λ i. cond (All-head (λ x. test x ≡ false) o os fail i) (o ∷ filter test os) (filter test os))
    ∙ none_kept test os (All-tail (λ x. test x ≡ false) o os fail)

-- ---- known operands, and what is carried behind them

pub or_none : {A : Type 0} (found : Option A) → option_or found None ≡ found
or_none None = refl
or_none (Some x) = refl

text_of_both : (keyword : List ℕ) (front back : List CarriedOperand)
    → text_of keyword (front ++ back) ≡ option_or (text_of keyword front) (text_of keyword back)
text_of_both keyword [] back = refl
text_of_both keyword (o ∷ os) back = by (is_under keyword (key_at 0 o.keyword)) (text_of_both keyword os back)
  where
    by : (b : Bool) → text_of keyword (os ++ back) ≡ option_or (text_of keyword os) (text_of keyword back)
        → cond b (Some o.text) (text_of keyword (os ++ back))
        ≡ option_or (cond b (Some o.text) (text_of keyword os)) (text_of keyword back)
    by true rest = refl
    by false rest = rest

module _ (operation : Operation) (known carried : List CarriedOperand)
    (unknown : All (IsUnknown operation) carried) where
  -- the text under a known keyword is that of the known operands
  pub text_found : (keyword : List ℕ) → Knows operation keyword
      → text_under keyword (placed 0 (known ++ carried)) ≡ text_of keyword known
  text_found keyword knows =
      text_placed keyword 0 (known ++ carried) ∙ text_of_both keyword known carried
      ∙ ap (option_or (text_of keyword known)) (no_text operation keyword knows carried unknown)
      ∙ or_none (text_of keyword known)

  any_found : (test : Operand → Bool) → IsBlind test → list_any (λ o. test (as_operand o)) carried ≡ false
      → list_any test (placed 0 (known ++ carried)) ≡ list_any (λ o. test (as_operand o)) known
  any_found test blind none =
      any_placed test blind 0 (known ++ carried) ∙ list_any-append (λ o. test (as_operand o)) known carried
      ∙ ap (λ b. list_any (λ o. test (as_operand o)) known || b) none
      ∙ or-false (list_any (λ o. test (as_operand o)) known)

  -- a known word stands alone if it does among the known operands
  pub bare_found : (word : List ℕ) → Knows operation word
      → has_bare word (placed 0 (known ++ carried)) ≡ list_any (λ o. is_bare_word word (as_operand o)) known
  bare_found word knows = any_found (is_bare_word word) (bare_blind word)
      (none_pass operation (is_bare_word word) (not_bare operation word knows) carried unknown)

  module _ (are : All (IsTaken operation) known) where
    pub none_left_out : list_any (is_left_out operation) (placed 0 (known ++ carried)) ≡ false
    none_left_out =
        any_found (is_left_out operation) (left_out_blind operation)
        (none_pass operation (is_left_out operation) (not_left_out operation) carried unknown)
        ∙ all_fail (λ o. is_left_out operation (as_operand o)) known (λ k d within. (are k d within).taken)

    pub none_in_other_form : list_any (is_other_form operation) (placed 0 (known ++ carried)) ≡ false
    none_in_other_form =
        any_found (is_other_form operation) (other_form_blind operation)
        (none_pass operation (is_other_form operation) (not_other_form operation) carried unknown)
        ∙ all_fail (λ o. is_other_form operation (as_operand o)) known (λ k d within. (are k d within).formed)

    -- the statement carries what stands behind the known operands
    pub carried_behind : carried_by operation (placed 0 (known ++ carried)) ≡ carried
    carried_behind =
        carried_placed operation 0 (known ++ carried)
        ∙ filter-append (λ o. is_carried operation (as_operand o)) known carried
        ∙ ap (λ front. front ++ filter (λ o. is_carried operation (as_operand o)) carried)
        (none_kept (λ o. is_carried operation (as_operand o)) known (λ k d within. (are k d within).known))
        ∙ all_kept operation carried unknown
