-- The pieces of a text are the slices of the columns in which they are written.
use Rattle.std.proofs.Common.{◌≡◌, ◌∙◌, ◌⊎◌, inl, inr, ◌+◌, ◌-◌, ◌<◌, ◌++◌, ℕ, zero, suc, Bool, true, false, cond, not}
use Rattle.std.proofs.Common.{◌||◌, List, [], ◌∷◌, length, refl, ap, sym, subst, arith, append_assoc, append-nil, eqb}
use Rattle.std.proofs.Common.{slice_index}
use Rattle.std.specs.List.{concat}
use Rattle.std.proofs.lemmas.Bool.{and_parts, both_ways, eqb-true, eq-eqb, not-true}
use Rattle.std.proofs.lemmas.List.{length-append}
use Rattle.iocm_columns.specs.declared.going.Going.TheVariants.{Exactly, AtNext}
use Rattle.iocm_columns.specs.declared.statement_card.StatementCard.{StatementCard}
use Rattle.iocm_columns.specs.Columns.{after_blanks, columns_of, continuation_area, is_blank}
use Rattle.iocm_columns.specs.Part.{ends_in_comma, front, going_of, is_quoting}
use Rattle.iocm_columns.specs.Slices.{AreSlices, IsFront, going_behind}
use Rattle.iocm_columns.proofs.Pieces.{Fits}
use Rattle.iocm_columns.proofs.Slicing.{front_found}
use Rattle.iocm_columns.proofs.WrittenCards.{rows_from}
use Rattle.iocm_columns.proofs.WrittenColumns.{blanks, blanks_len, columns_from_16, columns_of_short, columns_of_whole}
use Rattle.iocm_columns.proofs.WrittenColumns.{no_blank_before}
use Rattle.iocm_columns.proofs.WrittenLines.{lines_with, margin}

-- each blank in a text is inside quotes
abbrev pub AreInside : List ℕ → Type 0
AreInside text = (before after : List ℕ) → text ≡ before ++ 32 ∷ after → is_quoting before ≡ true

-- so it is where a part doesn't end before the text does
pub inside_where_front_is_all : (text : List ℕ) → front false text ≡ text → AreInside text
inside_where_front_is_all text is = (subst (IsFront [] text) is (front_found [] text)).inside

-- so it is in a piece of the text
inside_piece : (t s later : List ℕ) → AreInside (t ++ (s ++ later)) → (before after : List ℕ) → s ≡ before ++ 32 ∷ after
    → is_quoting (t ++ before) ≡ true
inside_piece t s later are before after same =
    are (t ++ before) (after ++ later)
    (ap (λ l. t ++ (l ++ later)) same ∙ ap (λ l. t ++ l) (append_assoc before (32 ∷ after) later)
    ∙ sym (append_assoc t before (32 ∷ (after ++ later))))

-- a piece that fills its columns
pub front_whole : (t s later : List ℕ) → AreInside (t ++ (s ++ later)) → IsFront t s s
front_whole t s later are =
    record { rest = []; whole = sym (append-nil s); inside = inside_piece t s later are; stops = inl refl }

blanks_stop : (t s : List ℕ) (n : ℕ) → is_quoting (t ++ s) ≡ false
    → (blanks n ≡ []) ⊎ ((more : List ℕ) × (blanks n ≡ 32 ∷ more) × (is_quoting (t ++ s) ≡ false))
blanks_stop t s zero closed = inl refl
blanks_stop t s (suc n) closed = inr (blanks n, refl, closed)

-- the last piece, with blanks behind it
pub front_last : (t s : List ℕ) (n : ℕ) → AreInside (t ++ s) → is_quoting (t ++ s) ≡ false → IsFront t (s ++ blanks n) s
front_last t s n are closed =
    let whole : AreInside (t ++ (s ++ [])) = subst (λ l. AreInside (t ++ l)) (sym (append-nil s)) are in
    record { rest = blanks n; whole = refl; inside = inside_piece t s [] whole; stops = blanks_stop t s n closed }

-- ---- a piece doesn't begin with a blank outside quotes

pub begins_nonblank : (t : List ℕ) (b : ℕ) (rest : List ℕ) → AreInside (t ++ b ∷ rest) → is_quoting t ≡ false
    → (e : Bool) → is_blank b ≡ e → e ≡ false
begins_nonblank t b rest are outside false is = refl
begins_nonblank t b rest are outside true is =
    absurd (both_ways (is_quoting t) outside (are t rest (ap (λ x. t ++ x ∷ rest) (eqb-true b 32 is))))

empty_outside : (t : List ℕ) → eqb (length t) 0 ≡ true → is_quoting t ≡ false
empty_outside [] is = refl
empty_outside (b ∷ bs) is = absurd (omega (arith, eqb-true (length (b ∷ bs)) 0 is))

next_outside : (t : List ℕ) (e : Bool) → eqb (length t) 0 ≡ e → (e || ends_in_comma t) ≡ true → is_quoting t ≡ false
next_outside t true none is = empty_outside t none
next_outside t false none is =
    not-true (is_quoting t) (and_parts (eqb (slice_index t (length t - 1)) 44) (not (is_quoting t)) is).1

-- ---- how a text goes on behind a piece that ran through

abbrev GoesOn : List ℕ → List ℕ → List ℕ → List StatementCard → List (List ℕ) → Type 0
GoesOn t c columns rs ss = IsFront t columns c × AreSlices (t ++ c) (going_behind t columns c) rs ss

goes_on_at : (t : List ℕ) (b : ℕ) (bs rest : List ℕ) (r : StatementCard) (rs : List StatementCard) (ss : List (List ℕ))
    → continuation_area r.columns ≡ b ∷ rest → (is_quoting t ≡ false → is_blank b ≡ false)
    → GoesOn t (b ∷ bs) (continuation_area r.columns) rs ss
    → (e : Bool) → (eqb (length t) 0 || ends_in_comma t) ≡ e
    → AreSlices t (cond e AtNext Exactly) (r ∷ rs) ((b ∷ bs) ∷ ss)
goes_on_at t b bs rest r rs ss area nonblank on false is = on
goes_on_at t b bs rest r rs ss area nonblank on true is =
    let outside = next_outside t (eqb (length t) 0) refl is in
    let same : continuation_area r.columns ≡ after_blanks (continuation_area r.columns) =
    area ∙ sym (no_blank_before b rest (nonblank outside)) ∙ ap after_blanks (sym area) in
    subst (λ columns. GoesOn t (b ∷ bs) columns rs ss) same on

pub goes_on : (t : List ℕ) (b : ℕ) (bs rest : List ℕ) (r : StatementCard) (rs : List StatementCard) (ss : List (List ℕ))
    → continuation_area r.columns ≡ b ∷ rest → (is_quoting t ≡ false → is_blank b ≡ false)
    → GoesOn t (b ∷ bs) (continuation_area r.columns) rs ss
    → AreSlices t (going_of t true) (r ∷ rs) ((b ∷ bs) ∷ ss)
goes_on t b bs rest r rs ss area nonblank on =
    goes_on_at t b bs rest r rs ss area nonblank on (eqb (length t) 0 || ends_in_comma t) refl

-- ---- the pieces in continuations

pub regrouped : (t c later : List ℕ) → t ++ (c ++ later) ≡ (t ++ c) ++ later
regrouped t c later = sym (append_assoc t c later)

-- each piece is the slice of its continuation
pub slices_written : (t c : List ℕ) (cs : List (List ℕ)) (n : ℕ) → 0 < length c → Fits 16 c cs
    → AreInside (t ++ (c ++ concat cs)) → is_quoting (t ++ (c ++ concat cs)) ≡ false
    → AreSlices t (going_of t true) (rows_from n (lines_with margin c cs)) (c ∷ cs)
slices_written t [] cs n some fits inside closed = absurd (omega (arith, some))
slices_written t (b ∷ bs) [] n some fits inside closed =
    let c : List ℕ = b ∷ bs in
    let k = 56 - length c in
    let within : length (c ++ blanks k) ≡ 56 = omega (arith, fits, length-append c (blanks k), blanks_len k) in
    let area : continuation_area (columns_of (margin ++ c)) ≡ c ++ blanks k =
    ap continuation_area (columns_of_short (margin ++ c) k (omega (arith, fits)))
    ∙ columns_from_16 (c ++ blanks k) 32 within in
    let all : c ++ [] ≡ c = append-nil c in
    goes_on t b bs (bs ++ blanks k) (record { line = n; columns = columns_of (margin ++ c) }) [] [] area
    (λ outside. begins_nonblank t b (bs ++ []) inside outside (is_blank b) refl)
    (subst (λ x. GoesOn t c x [] []) (sym area) (
      front_last t c k (subst (λ l. AreInside (t ++ l)) all inside) (ap (λ l. is_quoting (t ++ l)) (sym all) ∙ closed),
      tt,
    ))
slices_written t (b ∷ bs) (d ∷ ds) n some fits inside closed =
    let c : List ℕ = b ∷ bs in
    let later = d ++ concat ds in
    let rs = rows_from (n + 1) (lines_with margin d ds) in
    let area : continuation_area (columns_of (margin ++ (c ++ 88 ∷ []))) ≡ c =
    ap continuation_area (columns_of_whole (margin ++ c) (omega (arith, fits.0)))
    ∙ columns_from_16 c 88 (omega (arith, fits.0)) in
    let rest = slices_written (t ++ c) d ds (n + 1) fits.1 fits.2 (subst AreInside (regrouped t c later) inside)
    (ap is_quoting (sym (regrouped t c later)) ∙ closed) in
    let through : true ≡ eqb (length c) (length c) = sym (eq-eqb (length c) (length c) refl) in
    goes_on t b bs bs (record { line = n; columns = columns_of (margin ++ (c ++ 88 ∷ [])) }) rs (d ∷ ds) area
    (λ outside. begins_nonblank t b (bs ++ later) inside outside (is_blank b) refl)
    (subst (λ x. GoesOn t c x rs (d ∷ ds)) (sym area)
    (front_whole t c later inside, subst (λ e. AreSlices (t ++ c) (going_of (t ++ c) e) rs (d ∷ ds)) through rest))
