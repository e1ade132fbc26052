-- Operands that can stand behind others: clean ones in front, each under a keyword of its own, and
-- behind them what a statement carries.
use Rattle.std.proofs.Common.{◌≡◌, ◌≢◌, ℕ, ◌&&◌, not, is_none, Bool, true, false, Option, None, Some, List, [], ◌∷◌}
use Rattle.std.proofs.Common.{◌++◌, All, IfSome, get_or, refl, sym, ap, ◌∙◌, subst, append_assoc}
use Rattle.std.proofs.lemmas.Bool.{false≢true, and_parts, and_from, or_parts, not-true, false_from_ne_true}
use Rattle.std.proofs.lemmas.List.Elements.{All-nil, All-cons, All-head, All-tail}
use Rattle.std.proofs.lemmas.List.Folds.{list_all-append}
use Rattle.std.proofs.lemmas.List.Kept.{AllPairs-cons}
use Rattle.std.proofs.lemmas.List.Sums.{AllPass-from_list_all}
use Rattle.std.proofs.lemmas.Slice.Eq.{bytes_eq-Decides}
use Rattle.std.specs.List.{list_all, list_any}
use Rattle.std.specs.Str.{bytes_eq}
use Rattle.iocm_columns.specs.Cards.{is_printable}
use Rattle.iocm_columns.specs.Columns.{is_blank}
use Rattle.iocm_columns.specs.Written.{is_graphic}
use Rattle.iocm_keywords.specs.Known.{table, form_in, is_carried}
use Rattle.iocm_model.specs.Machine.Record.{CarriedOperand}
use Rattle.iocm_statements.specs.declared.operation.Operation.{Operation}
use Rattle.iocm_statements.specs.Cutting.{IsBalanced, IsUncut}
use Rattle.iocm_statements.specs.Operands.{is_keyword}
use Rattle.iocm_statements.specs.Splitting.{HasNoEquals}
use Rattle.iocm_statements.proofs.Relation.{finds_pieces}
use Rattle.iocm_values.proofs.Pieces.{pieces_again}
use Rattle.iocm_deck_writer.specs.Again.{key_at, IsKeyed, IsPlaceable, ArePlaceable, repeats}
use Rattle.iocm_deck_writer.specs.Statement.{valued, alone}
use Rattle.iocm_round_trip.specs.Given.{IsInColumns, as_operand, AreCarriedBy}
use Rattle.iocm_round_trip.specs.Stating.{CanBeWritten}
use Rattle.iocm_round_trip.proofs.Texts.{IsClean}

-- ---- clean texts stand in columns and in an operand part

graphic_printable : (text : List ℕ) → list_all is_graphic text ≡ true → list_all is_printable text ≡ true
graphic_printable [] are = refl
graphic_printable (b ∷ text) are =
    let parts = and_parts (is_graphic b) (list_all is_graphic text) are in
    and_from (is_printable b) (list_all is_printable text) (and_parts (is_printable b) (not (is_blank b)) parts.0).0
    (graphic_printable text parts.1)

-- there is no blank that would have to be inside quotes
graphic_no_blank : (text before after : List ℕ) → list_all is_graphic text ≡ true → text ≢ before ++ 32 ∷ after
graphic_no_blank text before after are is =
    let parted = sym (list_all-append is_graphic before (32 ∷ after)) ∙ ap (list_all is_graphic) (sym is) ∙ are in
    false≢true (and_parts (list_all is_graphic before) (list_all is_graphic (32 ∷ after)) parted).1

clean_in_columns : (text : List ℕ) → IsClean text → IsInColumns text
clean_in_columns text clean = record {
  printable = graphic_printable text clean.graphic;
  blanks = λ before after is. absurd (graphic_no_blank text before after clean.graphic is);
}

-- a whole text is one piece, so it is balanced and no comma cuts it
clean_placeable : (keyword : Option (List ℕ)) (text : List ℕ) → IsKeyed keyword text → IsClean text
    → IsPlaceable (record { keyword = keyword; text = text })
clean_placeable keyword text keyed clean =
    let cut = finds_pieces text (text ∷ []) (pieces_again text [] (clean.whole, tt)) in
    record {
      keyed = keyed;
      balanced = All-head IsBalanced text [] cut.balanced;
      uncut = All-head IsUncut text [] cut.uncut;
    }

-- ---- operands behind others, whose keywords are taken

-- an operand under another keyword than this, or under none
abbrev pub IsOther : List ℕ → CarriedOperand → Type 0
IsOther word o = repeats (Some word) o.keyword ≡ false

-- they can stand in an operand part and in columns, under none of these keywords
pub record CanFollow (taken : List (List ℕ)) (operands : List CarriedOperand) : Type 0 where
  pub placeable : ArePlaceable operands
  pub texts : All (λ (o : CarriedOperand). IsInColumns o.text) operands
  pub others : All (λ word. All (IsOther word) operands) taken

pub can_be_written : (operation : Operation) (operands : List CarriedOperand) → CanFollow [] operands
    → CanBeWritten (record { operation = operation; operands = operands })
can_be_written operation operands can = record { operands = can.placeable; texts = can.texts }

-- a clean operand in front, if its keyword isn't taken and those behind have another
one_follows : (taken : List (List ℕ)) (keyword : Option (List ℕ)) (text : List ℕ) (operands : List CarriedOperand)
    → IsKeyed keyword text → IsClean text → All (λ word. repeats (Some word) keyword ≡ false) taken
    → All (λ (o : CarriedOperand). repeats keyword o.keyword ≡ false) operands
    → CanFollow taken operands → CanFollow taken (record { keyword = keyword; text = text } ∷ operands)
one_follows taken keyword text operands keyed clean own behind can =
    let o : CarriedOperand = record { keyword = keyword; text = text } in
    record {
      placeable = record {
        each = All-cons IsPlaceable o operands (clean_placeable keyword text keyed clean) can.placeable.each;
        apart = AllPairs-cons (λ (a b : CarriedOperand). repeats a.keyword b.keyword ≡ false) o operands behind
            can.placeable.apart;
      };
      texts = All-cons (λ (x : CarriedOperand). IsInColumns x.text) o operands (clean_in_columns text clean) can.texts;
      others = λ k d within. All-cons (IsOther _) o operands (own k d within) (can.others k d within);
    }

not_taken : (word : List ℕ) (taken : List (List ℕ)) → list_any (bytes_eq word) taken ≡ false
    → All (λ other. bytes_eq word other ≡ false) taken
not_taken word [] none = All-nil (λ other. bytes_eq word other ≡ false)
not_taken word (other ∷ taken) none =
    let parts = or_parts (bytes_eq word other) (list_any (bytes_eq word) taken) none in
    All-cons (λ o. bytes_eq word o ≡ false) other taken parts.0 (not_taken word taken parts.1)

-- what stands behind more keywords stands behind fewer
fewer_taken : (word : List ℕ) (taken : List (List ℕ)) (operands : List CarriedOperand)
    → CanFollow (word ∷ taken) operands → CanFollow taken operands
fewer_taken word taken operands can = record {
  placeable = can.placeable;
  texts = can.texts;
  others = All-tail (λ w. All (IsOther w) operands) word taken can.others;
}

-- a value under its keyword, if there is one
pub value_follows : (taken : List (List ℕ)) (word : List ℕ) (text : Option (List ℕ)) (operands : List CarriedOperand)
    → is_keyword word ≡ true → list_any (bytes_eq word) taken ≡ false → IfSome text IsClean
    → CanFollow (word ∷ taken) operands → CanFollow taken (valued word text ++ operands)
value_follows taken word None operands keyword own clean can = fewer_taken word taken operands can
value_follows taken word (Some text) operands keyword own clean can =
    one_follows taken (Some word) text operands keyword clean (not_taken word taken own)
    (All-head (λ w. All (IsOther w) operands) word taken can.others) (fewer_taken word taken operands can)

-- a word alone has no keyword
none_repeats : (keyword : Option (List ℕ)) → repeats None keyword ≡ false
none_repeats None = refl
none_repeats (Some word) = refl

pub word_follows : (taken : List (List ℕ)) (text : List ℕ) (operands : List CarriedOperand) → text ≢ []
    → HasNoEquals text → IsClean text
    → CanFollow taken operands → CanFollow taken (alone text ∷ operands)
word_follows taken text operands some none clean can =
    one_follows taken None text operands (some, none) clean (λ k d within. refl)
    (λ k d within. none_repeats (get_or operands k d).keyword) can

-- ---- what a statement carries has no keyword that it knows

-- a word of the table of the statement
abbrev pub is_known : Operation → List ℕ → Bool
is_known operation word = not (is_none (form_in (table operation) word))

unknown_differs : (operation : Operation) (word other : List ℕ) → is_known operation word ≡ true
    → is_none (form_in (table operation) other) ≡ true
    → bytes_eq other word ≡ false
unknown_differs operation word other known unknown = false_from_ne_true (bytes_eq other word) (λ same.
    let is : word ≡ other = sym ((bytes_eq-Decides other word).0 same) in
    false≢true (sym (ap (is_known operation) is ∙ ap not unknown) ∙ known))

carried_is_other : (operation : Operation) (word : List ℕ) (o : CarriedOperand) → is_known operation word ≡ true
    → is_carried operation (as_operand o) ≡ true → IsOther word o
carried_is_other operation word o known carried = by o.keyword carried
  where
    by : (keyword : Option (List ℕ)) → is_carried operation (key_at 0 keyword, o.text) ≡ true
        → repeats (Some word) keyword ≡ false
    by None unknown = refl
    by (Some other) unknown = unknown_differs operation word other known unknown

pub carried_follows : (operation : Operation) (taken : List (List ℕ)) (carried : List CarriedOperand)
    → list_all (is_known operation) taken ≡ true
    → AreCarriedBy operation carried → CanFollow taken carried
carried_follows operation taken carried known at = record {
  placeable = at.placeable;
  texts = at.texts;
  others = λ k d within i e inside.
      carried_is_other operation _ _ (AllPass-from_list_all (is_known operation) taken known k d within)
      (at.unknown i e inside);
}

-- ---- values under keywords, one behind the other, with what is carried behind them

-- a keyword, and a clean value, if there is one
pub record Entry : Type 0 where
  pub word : List ℕ
  pub text : Option (List ℕ)
  pub clean : IfSome text IsClean

abbrev pub all_valued : List Entry → List CarriedOperand
all_valued [] = []
all_valued (e ∷ []) = valued e.word e.text
all_valued (e ∷ next ∷ entries) = valued e.word e.text ++ all_valued (next ∷ entries)

-- each has a keyword, and none of those that are taken or stand before
abbrev pub are_new : List (List ℕ) → List Entry → Bool
are_new taken [] = true
are_new taken (e ∷ entries) =
    (is_keyword e.word && not (list_any (bytes_eq e.word) taken)) && are_new (e.word ∷ taken) entries

-- the keywords that are taken behind them
abbrev pub taken_behind : List (List ℕ) → List Entry → List (List ℕ)
taken_behind taken [] = taken
taken_behind taken (e ∷ entries) = taken_behind (e.word ∷ taken) entries

entry_follows : (taken : List (List ℕ)) (e : Entry) (operands : List CarriedOperand)
    → (is_keyword e.word && not (list_any (bytes_eq e.word) taken)) ≡ true → CanFollow (e.word ∷ taken) operands
    → CanFollow taken (valued e.word e.text ++ operands)
entry_follows taken e operands own can =
    let parts = and_parts (is_keyword e.word) (not (list_any (bytes_eq e.word) taken)) own in
    value_follows taken e.word e.text operands parts.0 (not-true (list_any (bytes_eq e.word) taken) parts.1) e.clean can

entries_follow : (taken : List (List ℕ)) (entries : List Entry) (operands : List CarriedOperand)
    → are_new taken entries ≡ true
    → CanFollow (taken_behind taken entries) operands → CanFollow taken (all_valued entries ++ operands)
entries_follow taken [] operands new can = can
entries_follow taken (e ∷ []) operands new can = entry_follows taken e operands (and_parts _ true new).0 can
entries_follow taken (e ∷ next ∷ entries) operands new can =
    let parts = and_parts _ (are_new (e.word ∷ taken) (next ∷ entries)) new in
    subst (CanFollow taken) (sym (append_assoc (valued e.word e.text) (all_valued (next ∷ entries)) operands))
    (entry_follows taken e (all_valued (next ∷ entries) ++ operands) parts.0
    (entries_follow (e.word ∷ taken) (next ∷ entries) operands parts.1 can))

-- a statement of such values whose keywords it knows, with what it carries behind them
pub entries_can_be_written : (operation : Operation) (entries : List Entry) (carried : List CarriedOperand)
    → are_new [] entries ≡ true
    → list_all (is_known operation) (taken_behind [] entries) ≡ true → AreCarriedBy operation carried
    → CanBeWritten (record { operation = operation; operands = all_valued entries ++ carried })
entries_can_be_written operation entries carried new known at =
    can_be_written operation (all_valued entries ++ carried)
    (entries_follow [] entries carried new (carried_follows operation (taken_behind [] entries) carried known at))
