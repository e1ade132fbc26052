-- Texts that are cut as they were joined: a plain text and a list are whole, and whole texts that
-- commas join are inside of a list. Bytes by their codes: 39 is a quote, 40 and 41 are parentheses,
-- 44 is a comma.
use Rattle.std.proofs.Common.{◌≡◌, ℕ, suc, ◌==◌, ◌&&◌, not, Bool, true, false, Option, None, Some, List, [], ◌∷◌, ◌++◌}
use Rattle.std.proofs.Common.{refl, sym, ap, ◌∙◌, append_assoc, append-nil, arith, add-one}
use Rattle.std.proofs.lemmas.Bool.{and_parts}
use Rattle.std.proofs.lemmas.Bool.Decides.{nat_tests}
use Rattle.std.specs.List.{list_all, join_with_byte}
use Rattle.std.specs.Option.{option_map}
use Rattle.iocm_statements.specs.declared.nesting.Nesting.{Nesting}
use Rattle.iocm_statements.specs.Nesting.{start, is_outside, step, cuts}
use Rattle.iocm_statements.specs.Pieces.{onto_first, pieces_from, pieces_of}

-- inside so many parentheses, and no quotes
abbrev pub at : ℕ → Nesting
at depth = record { depth = depth; quoted = false }

-- at this depth the text is no more than the front of the piece at hand
abbrev pub StandsAt : ℕ → List ℕ → Type 0
StandsAt depth text = (rest : List ℕ)
    → pieces_from (at depth) (text ++ rest) ≡ option_map (onto_first text) (pieces_from (at depth) rest)

-- at each depth
pub record IsWhole (text : List ℕ) : Type 0 where
  pub stands : (depth : ℕ) → StandsAt depth text

-- inside parentheses, at each depth
pub record IsInner (text : List ℕ) : Type 0 where
  pub stands : (depth : ℕ) → StandsAt (suc depth) text

nothing_first : (pieces : List (List ℕ)) → onto_first [] pieces ≡ pieces
nothing_first [] = refl
nothing_first (x ∷ xs) = refl

nothing_first_of : (pieces : Option (List (List ℕ))) → pieces ≡ option_map (onto_first []) pieces
nothing_first_of None = refl
nothing_first_of (Some pieces) = ap Some (sym (nothing_first pieces))

first_twice : (a b : List ℕ) (pieces : Option (List (List ℕ)))
    → option_map (onto_first a) (option_map (onto_first b) pieces) ≡ option_map (onto_first (a ++ b)) pieces
first_twice a b None = refl
first_twice a b (Some []) = refl
first_twice a b (Some (x ∷ xs)) = ap (λ y. Some (y ∷ xs)) (sym (append_assoc a b x))

none_stands : (depth : ℕ) → StandsAt depth []
none_stands depth rest = nothing_first_of (pieces_from (at depth) rest)

both_stand : (depth : ℕ) (a b : List ℕ) → StandsAt depth a → StandsAt depth b → StandsAt depth (a ++ b)
both_stand depth a b first second rest =
    ap (pieces_from (at depth)) (append_assoc a b rest) ∙ first (b ++ rest)
    ∙ ap (option_map (onto_first a)) (second rest) ∙ first_twice a b (pieces_from (at depth) rest)

-- a byte that cuts nothing, and what follows it at the nesting behind
byte_first : (p q : Nesting) (b : ℕ) (rest : List ℕ) → cuts p b ≡ false → step p b ≡ Some q
    → pieces_from p (b ∷ rest) ≡ option_map (onto_first (b ∷ [])) (pieces_from q rest)
unfolding pieces_from
byte_first p q b rest kept next = rw (kept, next) refl

-- no quote, no parenthesis, no comma
abbrev pub is_plain : ℕ → Bool
is_plain b = not (b == 39) && not (b == 40) && not (b == 41) && not (b == 44)

plain_kept : (depth b : ℕ) → is_plain b ≡ true → cuts (at depth) b ≡ false
unfolding cuts is_outside
plain_kept depth b plain = grind (arith, nat_tests)

plain_stays : (depth b : ℕ) → is_plain b ≡ true → step (at depth) b ≡ Some (at depth)
unfolding step
plain_stays depth b plain = grind (arith, nat_tests)

plain_stands : (depth : ℕ) (text : List ℕ) → list_all is_plain text ≡ true → StandsAt depth text
plain_stands depth [] plain = none_stands depth
plain_stands depth (b ∷ text) plain =
    let parts = and_parts (is_plain b) (list_all is_plain text) plain in
    both_stand depth (b ∷ []) text
    (λ rest. byte_first (at depth) (at depth) b rest (plain_kept depth b parts.0) (plain_stays depth b parts.0))
    (plain_stands depth text parts.1)

comma_kept : (depth : ℕ) → cuts (at (suc depth)) 44 ≡ false
unfolding cuts is_outside
comma_kept depth = grind (arith, nat_tests)

comma_stays : (p : Nesting) → p.quoted ≡ false → step p 44 ≡ Some p
unfolding step
comma_stays p out = rw out refl

comma_stands : (depth : ℕ) → StandsAt (suc depth) (44 ∷ [])
comma_stands depth rest =
    byte_first (at (suc depth)) (at (suc depth)) 44 rest (comma_kept depth) (comma_stays (at (suc depth)) refl)

open_kept : (p : Nesting) → cuts p 40 ≡ false
unfolding cuts is_outside
open_kept p = grind (arith, nat_tests)

close_kept : (p : Nesting) → cuts p 41 ≡ false
unfolding cuts is_outside
close_kept p = grind (arith, nat_tests)

opens : (depth : ℕ) → step (at depth) 40 ≡ Some (at (suc depth))
unfolding step
opens depth = ap (λ d. Some (at d)) (add-one depth)

closes : (depth : ℕ) → step (at (suc depth)) 41 ≡ Some (at depth)
unfolding step
closes depth = grind (arith, nat_tests)

-- a list of what stands inside
list_stands : (depth : ℕ) (inner : List ℕ) → StandsAt (suc depth) inner → StandsAt depth (40 ∷ (inner ++ 41 ∷ []))
list_stands depth inner inside rest =
    byte_first (at depth) (at (suc depth)) 40 ((inner ++ 41 ∷ []) ++ rest) (open_kept (at depth)) (opens depth)
    ∙ ap (λ t. option_map (onto_first (40 ∷ [])) (pieces_from (at (suc depth)) t)) (append_assoc inner (41 ∷ []) rest)
    ∙ ap (option_map (onto_first (40 ∷ []))) (inside (41 ∷ rest))
    ∙ first_twice (40 ∷ []) inner (pieces_from (at (suc depth)) (41 ∷ rest))
    ∙ ap (option_map (onto_first (40 ∷ inner)))
    (byte_first (at (suc depth)) (at depth) 41 rest (close_kept (at (suc depth))) (closes depth))
    ∙ first_twice (40 ∷ inner) (41 ∷ []) (pieces_from (at depth) rest)

pub whole_plain : (text : List ℕ) → list_all is_plain text ≡ true → IsWhole text
whole_plain text plain = record { stands = λ depth. plain_stands depth text plain }

pub whole_both : (a b : List ℕ) → IsWhole a → IsWhole b → IsWhole (a ++ b)
whole_both a b first second =
    record { stands = λ depth. both_stand depth a b (first.stands depth) (second.stands depth) }

pub whole_list : (inner : List ℕ) → IsInner inner → IsWhole (40 ∷ (inner ++ 41 ∷ []))
whole_list inner inside = record { stands = λ depth. list_stands depth inner (inside.stands depth) }

-- each of these
abbrev pub AllWhole : List (List ℕ) → Type 0
AllWhole [] = Unit {0}
AllWhole (x ∷ xs) = IsWhole x × AllWhole xs

joined_stands : (depth : ℕ) (xs : List (List ℕ)) → AllWhole xs → StandsAt (suc depth) (join_with_byte 44 xs)
joined_stands depth [] whole = none_stands (suc depth)
joined_stands depth (x ∷ []) whole = whole.0.stands (suc depth)
joined_stands depth (x ∷ y ∷ ys) whole =
    both_stand (suc depth) x (44 ∷ join_with_byte 44 (y ∷ ys)) (whole.0.stands (suc depth))
    (both_stand (suc depth) (44 ∷ []) (join_with_byte 44 (y ∷ ys)) (comma_stands depth)
    (joined_stands depth (y ∷ ys) whole.1))

pub inner_joined : (xs : List (List ℕ)) → AllWhole xs → IsInner (join_with_byte 44 xs)
inner_joined xs whole = record { stands = λ depth. joined_stands depth xs whole }

ended : pieces_from start [] ≡ Some ([] ∷ [])
unfolding pieces_from is_outside
ended = refl

one_piece : (x : List ℕ) → IsWhole x → pieces_of x ≡ Some (x ∷ [])
one_piece x whole =
    ap pieces_of (sym (append-nil x)) ∙ whole.stands 0 []
    ∙ ap (option_map (onto_first x)) ended ∙ ap (λ y. Some (y ∷ [])) (append-nil x)

comma_ends : (rest : List ℕ) (pieces : List (List ℕ)) → pieces_from start rest ≡ Some pieces
    → pieces_from start (44 ∷ rest) ≡ Some ([] ∷ pieces)
unfolding pieces_from cuts is_outside
comma_ends rest pieces is = rw is refl

-- whole texts that commas join are cut into these again
pub pieces_again : (x : List ℕ) (xs : List (List ℕ)) → AllWhole (x ∷ xs)
    → pieces_of (join_with_byte 44 (x ∷ xs)) ≡ Some (x ∷ xs)
pieces_again x [] whole = one_piece x whole.0
pieces_again x (y ∷ ys) whole =
    whole.0.stands 0 (44 ∷ join_with_byte 44 (y ∷ ys))
    ∙ ap (option_map (onto_first x)) (comma_ends (join_with_byte 44 (y ∷ ys)) (y ∷ ys) (pieces_again y ys whole.1))
    ∙ ap (λ z. Some (z ∷ y ∷ ys)) (append-nil x)
