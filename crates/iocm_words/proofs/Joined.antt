-- Words that are joined by a byte, with one word more.
use Rattle.std.proofs.Common.{◌≡◌, ℕ, ◌+◌, ◌<◌, ◌≤◌, List, [], ◌∷◌, ◌++◌, length, take, get_or, refl, sym, ap, ◌∙◌}
use Rattle.std.proofs.Common.{arith, append_assoc, length-take-le}
use Rattle.std.proofs.lemmas.List.{take_more}
use Rattle.std.specs.List.{join_with_byte}

join_more : (byte : ℕ) (words : List (List ℕ)) (word : List ℕ) → 1 ≤ length words
    → join_with_byte byte (words ++ word ∷ []) ≡ join_with_byte byte words ++ (byte ∷ word)
join_more byte [] word some = absurd (omega (arith, some))
join_more byte (x ∷ []) word some = refl
join_more byte (x ∷ y ∷ ys) word some =
    ap (λ r. x ++ (byte ∷ r)) (join_more byte (y ∷ ys) word (omega arith))
    ∙ sym (append_assoc x (byte ∷ join_with_byte byte (y ∷ ys)) (byte ∷ word))

-- up to the next place there is the word at the place, too
next : (words : List (List ℕ)) (place : ℕ) (word : List ℕ) → place < length words → word ≡ get_or words place word
    → take (place + 1) words ≡ take place words ++ word ∷ []
next words place word within is = take_more words place word within ∙ ap (λ w. take place words ++ w ∷ []) (sym is)

-- the first word has no byte before it
pub first_put : (byte : ℕ) (words : List (List ℕ)) (place : ℕ) (word old t new : List ℕ) → place < length words
    → word ≡ get_or words place word → place ≤ 0 → t ≡ old ++ join_with_byte byte (take place words) → new ≡ t ++ word
    → new ≡ old ++ join_with_byte byte (take (place + 1) words)
first_put byte words place word old t new within is first so_far put =
    let at_start : place ≡ 0 = omega (arith, first) in
    let none : take place words ≡ [] = ap (λ n. take n words) at_start in
    put ∙ ap (λ s. s ++ word) (so_far ∙ ap (λ ws. old ++ join_with_byte byte ws) none)
    ∙ append_assoc old [] word
    ∙ ap (λ ws. old ++ join_with_byte byte ws) (sym (next words place word within is ∙ ap (λ ws. ws ++ word ∷ []) none))

-- another one has
pub more_put : (byte : ℕ) (words : List (List ℕ)) (place : ℕ) (word old t t1 new : List ℕ) → place < length words
    → word ≡ get_or words place word → 0 < place → t ≡ old ++ join_with_byte byte (take place words)
    → t1 ≡ t ++ byte ∷ [] → new ≡ t1 ++ word
    → new ≡ old ++ join_with_byte byte (take (place + 1) words)
more_put byte words place word old t t1 new within is later so_far parted put =
    let before : List (List ℕ) = take place words in
    let some : 1 ≤ length before = omega (arith, length-take-le place words (omega (arith, within)), later) in
    put ∙ ap (λ s. s ++ word) (parted ∙ ap (λ s. s ++ byte ∷ []) so_far)
    ∙ append_assoc (old ++ join_with_byte byte before) (byte ∷ []) word
    ∙ append_assoc old (join_with_byte byte before) (byte ∷ word)
    ∙ ap (λ s. old ++ s) (sym (join_more byte before word some))
    ∙ ap (λ ws. old ++ join_with_byte byte ws) (sym (next words place word within is))
