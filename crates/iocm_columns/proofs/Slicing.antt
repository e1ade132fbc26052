-- The columns that a part takes are the slices of the relation, and no others are.
use Rattle.std.proofs.Common.{◌≡◌, ◌⊎◌, inl, inr, ℕ, Bool, true, false, not, ◌&&◌, eqb, cond, IsTrue, List, [], ◌∷◌}
use Rattle.std.proofs.Common.{◌++◌, refl, sym, ap, subst, ◌∙◌, append_assoc, append-nil}
use Rattle.std.specs.List.{fold, concat}
use Rattle.std.proofs.lemmas.List.Sums.{fold-append}
use Rattle.std.proofs.lemmas.Bool.{eqb-true, eq-eqb, and_parts, not-true, both_ways}
use Rattle.iocm_columns.specs.declared.going.Going.{Going}
use Rattle.iocm_columns.specs.declared.going.Going.TheVariants.{Exactly, AtNext, Ended}
use Rattle.iocm_columns.specs.declared.statement_card.StatementCard.{StatementCard}
use Rattle.iocm_columns.specs.Columns.{after_blanks, behind_operation, continuation_area}
use Rattle.iocm_columns.specs.Part.{switched, is_quoting, ends, front, Part, part_with}
use Rattle.iocm_columns.specs.Statements.{with_continuation, statement_of}
use Rattle.iocm_columns.specs.Slices.{IsFront, AreSlices, AreSlicesOf, going_behind}

-- ---- one slice

quoting_more : (text : List ℕ) (b : ℕ) → is_quoting (text ++ b ∷ []) ≡ switched (is_quoting text) b
quoting_more text b = fold-append switched false text (b ∷ [])

-- a part ends at a blank outside quotes, and at no other column
blank_outside : (inside : Bool) (b : ℕ) → ends inside b ≡ true → (b ≡ 32) × (inside ≡ false)
unfolding ends
blank_outside inside b is =
    let both = and_parts (eqb b 32) (not inside) is in
    (eqb-true b 32 both.0, not-true inside both.1)

inside_since : (e inside : Bool) → (e && not inside) ≡ false → e ≡ true → inside ≡ true
inside_since true true is blank = refl
inside_since true false is blank = cc
inside_since false inside is blank = cc

blank_inside : (inside : Bool) (b : ℕ) → ends inside b ≡ false → b ≡ 32 → inside ≡ true
unfolding ends
blank_inside inside b is blank = inside_since (eqb b 32) inside is (eq-eqb b 32 blank)

nil_split : (before after : List ℕ) → [] ≡ before ++ 32 ∷ after → ⊥
nil_split [] after same = cc
nil_split (x ∷ before) after same = cc

regrouped : (text : List ℕ) (b : ℕ) (slice : List ℕ)
    → is_quoting ((text ++ b ∷ []) ++ slice) ≡ is_quoting (text ++ b ∷ slice)
regrouped text b slice = ap is_quoting (append_assoc text (b ∷ []) slice)

front_stops : (text : List ℕ) (b : ℕ) (bs : List ℕ) → ends (is_quoting text) b ≡ true → IsFront text (b ∷ bs) []
front_stops text b bs is =
    let at = blank_outside (is_quoting text) b is in
    record {
      rest = b ∷ bs;
      whole = refl;
      inside = λ before after same. absurd (nil_split before after same);
      stops = inr (bs, ap (λ x. x ∷ bs) at.0, ap is_quoting (append-nil text) ∙ at.1);
    }

grown_inside : (text : List ℕ) (b : ℕ) (slice : List ℕ) → ends (is_quoting text) b ≡ false
    → ((before after : List ℕ) → slice ≡ before ++ 32 ∷ after → IsTrue (is_quoting ((text ++ b ∷ []) ++ before)))
    → (before after : List ℕ) → b ∷ slice ≡ before ++ 32 ∷ after → IsTrue (is_quoting (text ++ before))
grown_inside text b slice is inside [] after same =
    let here : b ≡ 32 = cc in
    ap is_quoting (append-nil text) ∙ blank_inside (is_quoting text) b is here
grown_inside text b slice is inside (x ∷ before) after same =
    let here : b ≡ x = cc in
    let there : slice ≡ before ++ 32 ∷ after = cc in
    ap (λ y. is_quoting (text ++ y ∷ before)) (sym here) ∙ sym (regrouped text b before) ∙ inside before after there

grown_stops : (text : List ℕ) (b : ℕ) (slice rest : List ℕ)
    → (rest ≡ []) ⊎ ((more : List ℕ) × (rest ≡ 32 ∷ more) × (is_quoting ((text ++ b ∷ []) ++ slice) ≡ false))
    → (rest ≡ []) ⊎ ((more : List ℕ) × (rest ≡ 32 ∷ more) × (is_quoting (text ++ b ∷ slice) ≡ false))
grown_stops text b slice rest (inl none) = inl none
grown_stops text b slice rest (inr stop) = inr (stop.0, stop.1, sym (regrouped text b slice) ∙ stop.2)

front_grows : (text : List ℕ) (b : ℕ) (bs slice : List ℕ) → ends (is_quoting text) b ≡ false
    → IsFront (text ++ b ∷ []) bs slice → IsFront text (b ∷ bs) (b ∷ slice)
front_grows text b bs slice is part = record {
  rest = part.rest;
  whole = ap (λ l. b ∷ l) part.whole;
  inside = grown_inside text b slice is part.inside;
  stops = grown_stops text b slice part.rest part.stops;
}

front_found_at : (text : List ℕ) (b : ℕ) (bs : List ℕ)
    → IsFront (text ++ b ∷ []) bs (front (is_quoting (text ++ b ∷ [])) bs)
    → (e : Bool) → ends (is_quoting text) b ≡ e
    → IsFront text (b ∷ bs) (cond e [] (b ∷ front (switched (is_quoting text) b) bs))
front_found_at text b bs part true is = front_stops text b bs is
front_found_at text b bs part false is =
    front_grows text b bs (front (switched (is_quoting text) b) bs) is
    (subst (λ q. IsFront (text ++ b ∷ []) bs (front q bs)) (quoting_more text b) part)

-- what a part takes is a slice of the relation
pub front_found : (text columns : List ℕ) → IsFront text columns (front (is_quoting text) columns)
unfolding front
front_found text [] = record {
  rest = [];
  whole = refl;
  inside = λ before after same. absurd (nil_split before after same);
  stops = inl refl;
}
front_found text (b ∷ bs) = front_found_at text b bs (front_found (text ++ b ∷ []) bs) (ends (is_quoting text) b) refl

only_stops : (text : List ℕ) (b : ℕ) (bs rest : List ℕ) → b ∷ bs ≡ rest
    → (rest ≡ []) ⊎ ((more : List ℕ) × (rest ≡ 32 ∷ more) × (is_quoting (text ++ []) ≡ false))
    → (e : Bool) → ends (is_quoting text) b ≡ e → [] ≡ cond e [] (b ∷ front (switched (is_quoting text) b) bs)
only_stops text b bs rest whole stops true is = refl
only_stops text b bs rest whole (inl none) false is = cc
only_stops text b bs rest whole (inr stop) false is =
    let same : b ∷ bs ≡ 32 ∷ stop.0 = whole ∙ stop.1 in
    let here : b ≡ 32 = cc in
    absurd (both_ways (is_quoting text) (sym (ap is_quoting (append-nil text)) ∙ stop.2)
    (blank_inside (is_quoting text) b is here))

shrunk_stops : (text : List ℕ) (b : ℕ) (slice rest : List ℕ)
    → (rest ≡ []) ⊎ ((more : List ℕ) × (rest ≡ 32 ∷ more) × (is_quoting (text ++ b ∷ slice) ≡ false))
    → (rest ≡ []) ⊎ ((more : List ℕ) × (rest ≡ 32 ∷ more) × (is_quoting ((text ++ b ∷ []) ++ slice) ≡ false))
shrunk_stops text b slice rest (inl none) = inl none
shrunk_stops text b slice rest (inr stop) = inr (stop.0, stop.1, regrouped text b slice ∙ stop.2)

front_shrinks : (text : List ℕ) (b : ℕ) (bs slice : List ℕ) → IsFront text (b ∷ bs) (b ∷ slice)
    → IsFront (text ++ b ∷ []) bs slice
front_shrinks text b bs slice part =
    let same : b ∷ bs ≡ b ∷ (slice ++ part.rest) = part.whole in
    let tail : bs ≡ slice ++ part.rest = cc in
    record {
      rest = part.rest;
      whole = tail;
      inside = λ before after split. regrouped text b before ∙ part.inside (b ∷ before) after (ap (λ l. b ∷ l) split);
      stops = shrunk_stops text b slice part.rest part.stops;
    }

only_grows : (text : List ℕ) (b : ℕ) (bs slice : List ℕ) → IsFront text (b ∷ bs) (b ∷ slice)
    → slice ≡ front (is_quoting (text ++ b ∷ [])) bs
    → (e : Bool) → ends (is_quoting text) b ≡ e → b ∷ slice ≡ cond e [] (b ∷ front (switched (is_quoting text) b) bs)
only_grows text b bs slice part more true is =
    let at = blank_outside (is_quoting text) b is in
    let quoting = part.inside [] slice (ap (λ x. x ∷ slice) at.0) in
    absurd (both_ways (is_quoting text) at.1 (sym (ap is_quoting (append-nil text)) ∙ quoting))
only_grows text b bs slice part more false is = ap (λ l. b ∷ l) (more ∙ ap (λ q. front q bs) (quoting_more text b))

-- no other slice has the relation
pub front_only : (text columns slice : List ℕ) → IsFront text columns slice → slice ≡ front (is_quoting text) columns
unfolding front
front_only text [] [] part = refl
front_only text [] (s ∷ slice) part = cc
front_only text (b ∷ bs) [] part = only_stops text b bs part.rest part.whole part.stops (ends (is_quoting text) b) refl
front_only text (b ∷ bs) (s ∷ slice) part =
    let whole : b ∷ bs ≡ s ∷ (slice ++ part.rest) = part.whole in
    let here : s ≡ b = cc in
    let moved : IsFront text (b ∷ bs) (b ∷ slice) = subst (λ x. IsFront text (b ∷ bs) (x ∷ slice)) here part in
    ap (λ x. x ∷ slice) here
    ∙ only_grows text b bs slice moved (front_only (text ++ b ∷ []) bs slice (front_shrinks text b bs slice moved))
    (ends (is_quoting text) b) refl

-- ---- all slices of a statement

abbrev part_at : List ℕ → Going → Part
part_at text going = record { text = text; going = going }

abbrev SlicesOf : List ℕ → Going → List StatementCard → Type 0
SlicesOf text going rs =
    (slices : List (List ℕ)) × AreSlices text going rs slices
    × ((fold with_continuation (part_at text going) rs).text ≡ text ++ concat slices)

slices_found : (text : List ℕ) (going : Going) (rs : List StatementCard) → SlicesOf text going rs
slices_found text going [] = ([], tt, sym (append-nil text))
slices_found text Exactly (r ∷ rs) =
    let area = continuation_area r.columns in
    let slice = front (is_quoting text) area in
    let more = slices_found (text ++ slice) (going_behind text area slice) rs in
    (slice ∷ more.0, (front_found text area, more.1), more.2 ∙ append_assoc text slice (concat more.0))
slices_found text AtNext (r ∷ rs) =
    let area = after_blanks (continuation_area r.columns) in
    let slice = front (is_quoting text) area in
    let more = slices_found (text ++ slice) (going_behind text area slice) rs in
    (slice ∷ more.0, (front_found text area, more.1), more.2 ∙ append_assoc text slice (concat more.0))
slices_found text Ended (r ∷ rs) =
    let more = slices_found text Ended rs in
    ([] ∷ more.0, (refl, more.1), more.2)

slices_only : (text : List ℕ) (going : Going) (rs : List StatementCard) (slices : List (List ℕ))
    → AreSlices text going rs slices
    → (fold with_continuation (part_at text going) rs).text ≡ text ++ concat slices
slices_only text going [] [] are = sym (append-nil text)
slices_only text going [] (s ∷ ss) are = absurd are
slices_only text Exactly (r ∷ rs) [] are = absurd are
slices_only text AtNext (r ∷ rs) [] are = absurd are
slices_only text Ended (r ∷ rs) [] are = absurd are
slices_only text Exactly (r ∷ rs) (s ∷ ss) are =
    let area = continuation_area r.columns in
    ap (λ x. (fold with_continuation (part_with text area x) rs).text) (sym (front_only text area s are.0))
    ∙ slices_only (text ++ s) (going_behind text area s) rs ss are.1 ∙ append_assoc text s (concat ss)
slices_only text AtNext (r ∷ rs) (s ∷ ss) are =
    let area = after_blanks (continuation_area r.columns) in
    ap (λ x. (fold with_continuation (part_with text area x) rs).text) (sym (front_only text area s are.0))
    ∙ slices_only (text ++ s) (going_behind text area s) rs ss are.1 ∙ append_assoc text s (concat ss)
slices_only text Ended (r ∷ rs) (s ∷ ss) are =
    slices_only text Ended rs ss are.1 ∙ ap (λ x. text ++ (x ++ concat ss)) (sym are.0)

-- each statement has slices, one for each card
pub text_found : (r : StatementCard) (rs : List StatementCard)
    → (slices : List (List ℕ)) × AreSlicesOf r rs slices × ((statement_of (r ∷ rs)).text ≡ concat slices)
text_found r rs =
    let columns = behind_operation r.columns in
    let slice = front false columns in
    let more = slices_found slice (going_behind [] columns slice) rs in
    (slice ∷ more.0, (front_found [] columns, more.1), more.2)

-- and the text is the concatenation of any such slices
pub text_only : (r : StatementCard) (rs : List StatementCard) (slices : List (List ℕ)) → AreSlicesOf r rs slices
    → (statement_of (r ∷ rs)).text ≡ concat slices
text_only r rs [] are = absurd are
text_only r rs (s ∷ ss) are =
    let columns = behind_operation r.columns in
    ap (λ x. (fold with_continuation (part_with [] columns x) rs).text) (sym (front_only [] columns s are.0))
    ∙ slices_only s (going_behind [] columns s) rs ss are.1
