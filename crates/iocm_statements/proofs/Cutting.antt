-- The steps of the loop that cuts a text.
use Rattle.std.proofs.Common.{◌≡◌, ℕ, ◌+◌, ◌<◌, ◌≤◌, true, false, Option, None, Some, List, [], ◌∷◌, ◌++◌, length}
use Rattle.std.proofs.Common.{get_or, drop, slice_range, refl, sym, ap, ◌∙◌, append_assoc}
use Rattle.std.proofs.Math.ListN.{drop_of_length-le}
use Rattle.std.proofs.lemmas.List.{append-nil, drop_more}
use Rattle.std.specs.Option.{option_map}
use Rattle.iocm_statements.specs.declared.nesting.Nesting.{Nesting}
use Rattle.iocm_statements.specs.Nesting.{is_outside, step, cuts}
use Rattle.iocm_statements.specs.Pieces.{onto_first, pieces_from}
use Rattle.iocm_statements.proofs.Runs.{run_grows, run_begins}

-- the pieces that are cut, and the one at hand, in front of those of the rest
abbrev pub with_front : List (List ℕ) → List ℕ → Option (List (List ℕ)) → Option (List (List ℕ))
with_front pieces piece rest = option_map (λ more. pieces ++ onto_first piece more) rest

none_in_front : (more : List (List ℕ)) → onto_first [] more ≡ more
none_in_front [] = refl
none_in_front (p ∷ ps) = refl

in_front_twice : (a b : List ℕ) (more : List (List ℕ)) → onto_first a (onto_first b more) ≡ onto_first (a ++ b) more
in_front_twice a b [] = refl
in_front_twice a b (p ∷ ps) = ap (λ x. x ∷ ps) (sym (append_assoc a b p))

cut_grows : (pieces : List (List ℕ)) (piece : List ℕ) (rest : Option (List (List ℕ)))
    → with_front pieces piece (option_map (λ more. [] ∷ more) rest) ≡ with_front (pieces ++ piece ∷ []) [] rest
cut_grows pieces piece None = refl
cut_grows pieces piece (Some more) =
    ap Some (rw (append-nil piece, none_in_front more) (sym (append_assoc pieces (piece ∷ []) more)))

piece_grows : (pieces : List (List ℕ)) (piece : List ℕ) (b : ℕ) (rest : Option (List (List ℕ)))
    → with_front pieces piece (option_map (onto_first (b ∷ [])) rest) ≡ with_front pieces (piece ++ b ∷ []) rest
piece_grows pieces piece b None = refl
piece_grows pieces piece b (Some more) = ap (λ x. Some (pieces ++ x)) (in_front_twice piece (b ∷ []) more)

-- a comma that cuts ends the piece at hand
pub cut_ends_piece : (pieces more : List (List ℕ)) (p : Nesting) (text : List ℕ) (from next i : ℕ)
    → i < length text → cuts p (get_or text i 0) ≡ true → more ≡ pieces ++ slice_range text from i ∷ [] → next ≡ i + 1
    → with_front pieces (slice_range text from i) (pieces_from p (drop i text))
    ≡ with_front more (slice_range text next (i + 1)) (pieces_from p (drop (i + 1) text))
unfolding pieces_from
cut_ends_piece pieces more p text from next i within cut is begins =
    rw (drop_more text i 0 within, cut, is, begins, run_begins text (i + 1))
    (cut_grows pieces (slice_range text from i) (pieces_from p (drop (i + 1) text)))

-- another byte goes to the piece at hand
pub byte_joins_piece : (pieces : List (List ℕ)) (p q : Nesting) (text : List ℕ) (from i : ℕ)
    → from ≤ i → i < length text → cuts p (get_or text i 0) ≡ false → step p (get_or text i 0) ≡ Some q
    → with_front pieces (slice_range text from i) (pieces_from p (drop i text))
    ≡ with_front pieces (slice_range text from (i + 1)) (pieces_from q (drop (i + 1) text))
unfolding pieces_from
byte_joins_piece pieces p q text from i begun within kept next =
    rw (drop_more text i 0 within, kept, next)
    (piece_grows pieces (slice_range text from i) (get_or text i 0) (pieces_from q (drop (i + 1) text))
    ∙ ap (λ piece. with_front pieces piece (pieces_from q (drop (i + 1) text))) (run_grows text from i begun within))

-- behind a parenthesis that closes nothing there are no pieces
pub closing_fails : (pieces : List (List ℕ)) (piece : List ℕ) (p : Nesting) (text : List ℕ) (i : ℕ)
    → i < length text → cuts p (get_or text i 0) ≡ false → step p (get_or text i 0) ≡ None
    → with_front pieces piece (pieces_from p (drop i text)) ≡ None
unfolding pieces_from
closing_fails pieces piece p text i within kept next = rw (drop_more text i 0 within, kept, next) refl

-- at the end, outside, the piece at hand is the last one
pub end_ends_piece : (pieces : List (List ℕ)) (piece : List ℕ) (p : Nesting) (text : List ℕ) (i : ℕ)
    → length text ≤ i → is_outside p ≡ true
    → with_front pieces piece (pieces_from p (drop i text)) ≡ Some (pieces ++ piece ∷ [])
unfolding pieces_from
end_ends_piece pieces piece p text i past out = rw (drop_of_length-le text past, out, append-nil piece) refl

-- at the end, inside, there are none
pub end_fails : (pieces : List (List ℕ)) (piece : List ℕ) (p : Nesting) (text : List ℕ) (i : ℕ)
    → length text ≤ i → is_outside p ≡ false
    → with_front pieces piece (pieces_from p (drop i text)) ≡ None
unfolding pieces_from
end_fails pieces piece p text i past inside = rw (drop_of_length-le text past, inside) refl

pub nothing_in_front : (rest : Option (List (List ℕ))) → with_front [] [] rest ≡ rest
nothing_in_front None = refl
nothing_in_front (Some more) = ap Some (none_in_front more)

pub ruleset cutting = (
  cut_ends_piece,
  byte_joins_piece,
  closing_fails,
  end_ends_piece,
  end_fails,
  nothing_in_front,
  run_begins,
)
