-- The pieces of a text, as cutting finds them, are those of the relation, and no others are.
use Rattle.std.proofs.Common.{◌≡◌, ◌≢◌, ℕ, Bool, true, false, cond, Option, None, Some, List, [], ◌∷◌, ◌++◌, All, refl}
use Rattle.std.proofs.Common.{sym, ap, ◌∙◌, subst}
use Rattle.std.proofs.lemmas.Bool.{false≢true}
use Rattle.std.proofs.lemmas.List.{append-nil}
use Rattle.std.proofs.lemmas.List.Elements.{All-nil, All-cons, All-head, All-tail}
use Rattle.std.specs.List.{join_with_byte}
use Rattle.std.specs.Option.{option_and_then}
use Rattle.std.specs.Option.{option_map}
use Rattle.iocm_statements.specs.declared.nesting.Nesting.{Nesting}
use Rattle.iocm_statements.specs.Nesting.{start, is_outside, step, cuts}
use Rattle.iocm_statements.proofs.Nestings.{start_is_outside, comma_cuts, outside_is_start, cuts_at_start}
use Rattle.iocm_statements.proofs.Nestings.{cuts_at_comma, step_over_cut}
use Rattle.iocm_statements.specs.Pieces.{onto_first, pieces_from, pieces_of}
use Rattle.iocm_statements.specs.Cutting.{nesting_behind, IsBalanced, IsUncut, FindsPieces, FindsNoOthers, CutsBalanced}
use Rattle.iocm_statements.specs.Cutting.{CutsNoOthers}

-- ---- pieces that begin at any nesting

pub record IsPieceFrom (p : Nesting) (piece : List ℕ) : Type 0 where
  pub ends : nesting_behind p piece ≡ Some start
  pub uncut : (a b : List ℕ) → piece ≡ a ++ 44 ∷ b → nesting_behind p a ≢ Some start

abbrev IsCutFrom : Nesting → List (List ℕ) → Type 0
IsCutFrom p [] = ⊥
IsCutFrom p (piece ∷ pieces) = IsPieceFrom p piece × All (IsPieceFrom start) pieces

empty_piece : IsPieceFrom start []
empty_piece = record { ends = refl; uncut = λ a b e _. no_parts a b e }
  where
    no_parts : (a b : List ℕ) → [] ≡ a ++ 44 ∷ b → ⊥
    no_parts [] b e = cc
    no_parts (x ∷ a) b e = cc

longer_piece : (p q : Nesting) (b : ℕ) (piece : List ℕ) → cuts p b ≡ false → step p b ≡ Some q → IsPieceFrom q piece
    → IsPieceFrom p (b ∷ piece)
longer_piece p q b piece kept next at = record {
  ends = rw next at.ends;
  uncut = parts;
}
  where
    parts : (a c : List ℕ) → b ∷ piece ≡ a ++ 44 ∷ c → nesting_behind p a ≢ Some start
    parts [] c e h =
        let comma : b ≡ 44 = cc in
        let begun : p ≡ start = cc in
        false≢true (sym kept ∙ (λ i. cuts (begun i) (comma i)) ∙ comma_cuts)
    parts (x ∷ a) c e h =
        let same : x ≡ b = cc in
        let rest : piece ≡ a ++ 44 ∷ c = cc in
        at.uncut a c rest (sym (ap (option_and_then (λ r. nesting_behind r a)) (ap (step p) same ∙ next)) ∙ h)

shorter_piece : (p q : Nesting) (b : ℕ) (piece : List ℕ) → step p b ≡ Some q → IsPieceFrom p (b ∷ piece)
    → IsPieceFrom q piece
shorter_piece p q b piece next at = record {
  ends = rw next at at.ends;
  uncut = λ a c e h. at.uncut (b ∷ a) c (ap (λ xs. b ∷ xs) e) (rw next h);
}

-- ---- what is found

abbrev Found : Nesting → List ℕ → Option (List (List ℕ)) → Type 0
Found p text (Some pieces) =
    (join_with_byte 44 pieces ≡ text) × IsCutFrom p pieces × (nesting_behind p text ≡ Some start)
Found p text None = nesting_behind p text ≢ Some start

found_end : (p : Nesting) (out : Bool) → is_outside p ≡ out → Found p [] (cond out (Some ([] ∷ [])) None)
found_end p true out =
    let at : p ≡ start = outside_is_start p out in
    (refl, (subst (λ q. IsPieceFrom q []) (sym at) empty_piece, All-nil (IsPieceFrom start)), ap Some at)
found_end p false inside = λ e. let at : p ≡ start = cc in false≢true (sym inside ∙ ap is_outside at ∙ start_is_outside)

found_cut : (p : Nesting) (b : ℕ) (bs : List ℕ) (rest : Option (List (List ℕ)))
    → cuts p b ≡ true → Found p bs rest → Found p (b ∷ bs) (option_map (λ pieces. [] ∷ pieces) rest)
found_cut p b bs None cut at = rw (step_over_cut p b cut) at
found_cut p b bs (Some []) cut at = absurd at.1
found_cut p b bs (Some (r ∷ rs)) cut at =
    let begun = cuts_at_start p b cut in
    let comma = cuts_at_comma p b cut in
    let first : IsPieceFrom p [] = subst (λ q. IsPieceFrom q []) (sym begun) empty_piece in
    let second : IsPieceFrom start r = subst (λ q. IsPieceFrom q r) begun at.1.0 in (
      ap (λ c. c ∷ join_with_byte 44 (r ∷ rs)) (sym comma)
          ∙ ap (λ xs. b ∷ xs) at.0,
      (first, All-cons (IsPieceFrom start) r rs second at.1.1),
      rw (step_over_cut p b cut) at.2,
    )

found_byte : (p q : Nesting) (b : ℕ) (bs : List ℕ) (rest : Option (List (List ℕ)))
    → cuts p b ≡ false → step p b ≡ Some q → Found q bs rest → Found p (b ∷ bs) (option_map (onto_first (b ∷ [])) rest)
found_byte p q b bs None kept next at = rw next at
found_byte p q b bs (Some []) kept next at = absurd at.1
found_byte p q b bs (Some (r ∷ [])) kept next at =
    (ap (λ xs. b ∷ xs) at.0, (longer_piece p q b r kept next at.1.0, at.1.1), rw next at.2)
found_byte p q b bs (Some (r ∷ s ∷ ss)) kept next at =
    (ap (λ xs. b ∷ xs) at.0, (longer_piece p q b r kept next at.1.0, at.1.1), rw next at.2)

found_step : (p : Nesting) (b : ℕ) (bs : List ℕ) (next : Option Nesting) → cuts p b ≡ false → step p b ≡ next
    → ((q : Nesting) → Found q bs (pieces_from q bs))
    → Found p (b ∷ bs) (option_and_then (λ q. option_map (onto_first (b ∷ [])) (pieces_from q bs)) next)
found_step p b bs None kept next rest = λ e. let none : None ≡ Some start =
    sym (ap (option_and_then (λ q. nesting_behind q bs)) next) ∙ e in cc
found_step p b bs (Some q) kept next rest = found_byte p q b bs (pieces_from q bs) kept next (rest q)

pub found_from : (p : Nesting) (text : List ℕ) → Found p text (pieces_from p text)
unfolding pieces_from
found_from p [] = found_end p (is_outside p) refl
found_from p (b ∷ bs) = by (cuts p b) refl (λ q. found_from q bs)
  where
    by : (cut : Bool) → cuts p b ≡ cut → ((q : Nesting) → Found q bs (pieces_from q bs))
        → Found p (b ∷ bs) (cond cut (option_map (λ pieces. [] ∷ pieces) (pieces_from p bs))
        (option_and_then (λ q. option_map (onto_first (b ∷ [])) (pieces_from q bs)) (step p b)))
    by true cut rest = found_cut p b bs (pieces_from p bs) cut (rest p)
    by false kept rest = found_step p b bs (step p b) kept refl rest

-- ---- what is a piece is found

only_piece : (more : List ℕ) (pieces : List (List ℕ)) → pieces_from start more ≡ Some ([] ∷ pieces)
    → (piece : List ℕ) (p : Nesting) → IsPieceFrom p piece → pieces_from p (piece ++ more) ≡ Some (piece ∷ pieces)
unfolding pieces_from
only_piece more pieces rest [] p at =
    let begun : p ≡ start = let e = at.ends in cc in
    ap (λ q. pieces_from q more) begun ∙ rest
only_piece more pieces rest (b ∷ piece) p at = by (cuts p b) refl (step p b) refl (only_piece more pieces rest piece)
  where
    by : (cut : Bool) → cuts p b ≡ cut → (next : Option Nesting) → step p b ≡ next
        → ((q : Nesting) → IsPieceFrom q piece → pieces_from q (piece ++ more) ≡ Some (piece ∷ pieces))
        → cond cut (option_map (λ found. [] ∷ found) (pieces_from p (piece ++ more)))
        (option_and_then (λ q. option_map (onto_first (b ∷ [])) (pieces_from q (piece ++ more))) next)
        ≡ Some ((b ∷ piece) ∷ pieces)
    by true cut next is found =
        absurd (at.uncut [] piece (ap (λ c. c ∷ piece) (cuts_at_comma p b cut)) (ap Some (cuts_at_start p b cut)))
    by false kept None is found =
        let none : None ≡ Some start = sym (ap (option_and_then (λ q. nesting_behind q piece)) is) ∙ at.ends in cc
    by false kept (Some q) is found = rw (found q (shorter_piece p q b piece is at)) refl

only_from : (pieces : List (List ℕ)) (p : Nesting) (piece : List ℕ)
    → IsCutFrom p (piece ∷ pieces) → pieces_from p (join_with_byte 44 (piece ∷ pieces)) ≡ Some (piece ∷ pieces)
unfolding pieces_from
only_from [] p piece at =
    let ended : pieces_from start [] ≡ Some ([] ∷ []) = rw start_is_outside refl in
    ap (pieces_from p) (sym (append-nil piece)) ∙ only_piece [] [] ended piece p at.0
only_from (next ∷ pieces) p piece at =
    let rest = only_from pieces start next
    (All-head (IsPieceFrom start) next pieces at.1, All-tail (IsPieceFrom start) next pieces at.1) in
    let cut : pieces_from start (44 ∷ join_with_byte 44 (next ∷ pieces)) ≡ Some ([] ∷ next ∷ pieces) =
    rw (comma_cuts, rest) refl in
    only_piece (44 ∷ join_with_byte 44 (next ∷ pieces)) (next ∷ pieces) cut piece p at.0

-- ---- the law

found_at : (text : List ℕ) (pieces : List (List ℕ)) → pieces_of text ≡ Some pieces
    → (join_with_byte 44 pieces ≡ text) × IsCutFrom start pieces × IsBalanced text
found_at text pieces is = subst (Found start text) is (found_from start text)

all_balanced : (pieces : List (List ℕ)) → All (IsPieceFrom start) pieces → All IsBalanced pieces
all_balanced pieces at = λ k d h. (at k d h).ends

all_uncut : (pieces : List (List ℕ)) → All (IsPieceFrom start) pieces → All IsUncut pieces
all_uncut pieces at = λ k d h. (at k d h).uncut

pub finds_pieces : FindsPieces
finds_pieces text [] is = absurd (found_at text [] is).1
finds_pieces text (piece ∷ pieces) is =
    let found = found_at text (piece ∷ pieces) is in
    let all = All-cons (IsPieceFrom start) piece pieces found.1.0 found.1.1 in
    record {
      some = λ e. cc;
      joined = found.0;
      balanced = all_balanced (piece ∷ pieces) all;
      uncut = all_uncut (piece ∷ pieces) all;
    }

pub finds_no_others : FindsNoOthers
finds_no_others text [] at = absurd (at.some refl)
finds_no_others text (piece ∷ pieces) at =
    let each : All (IsPieceFrom start) (piece ∷ pieces) =
    λ k d h. record { ends = at.balanced k d h; uncut = at.uncut k d h } in
    ap pieces_of (sym at.joined)
    ∙ only_from pieces start piece
    (All-head (IsPieceFrom start) piece pieces each, All-tail (IsPieceFrom start) piece pieces each)

pub cuts_balanced : CutsBalanced
cuts_balanced text is = subst (Found start text) is (found_from start text)

pub cuts_no_others : CutsNoOthers
cuts_no_others text pieces is = (found_at text pieces is).2
