-- Words with a blank between each two are the words of that line.
use Rattle.std.proofs.Common.{◌≡◌, ℕ, Bool, true, false, not, ◌&&◌, List, [], ◌∷◌, refl, ap, ◌∙◌}
use Rattle.std.specs.List.{All, filter, join_with_byte, list_all, slice_split}
use Rattle.std.proofs.lemmas.List.Splits.{slice_split_at, slice_split_none}
use Rattle.std.proofs.lemmas.List.Sums.{AllPass-from_list_all}
use Rattle.iocm_script.specs.Words.{is_blank, is_empty, words_of}
use Rattle.iocm_script.specs.Written.{is_word}

pub both_left : (a b : Bool) → (a && b) ≡ true → a ≡ true
both_left true b e = refl
both_left false b e = e

pub both_right : (a b : Bool) → (a && b) ≡ true → b ≡ true
both_right true b e = e
both_right false b e = cc

is_not : (b : Bool) → not b ≡ true → b ≡ false
is_not true e = cc
is_not false e = refl

unblank : (w : List ℕ) → is_word w ≡ true → All (λ b. is_blank b ≡ false) w
unblank w is k d within =
    is_not _ (AllPass-from_list_all (λ b. not (is_blank b)) w
    (both_right (not (is_empty w)) (list_all (λ b. not (is_blank b)) w) is) k d within)

kept : (w : List ℕ) (rest : List (List ℕ)) → is_word w ≡ true
    → filter (λ piece. not (is_empty piece)) (w ∷ rest) ≡ w ∷ filter (λ piece. not (is_empty piece)) rest
kept w rest is = rw (both_left (not (is_empty w)) (list_all (λ b. not (is_blank b)) w) is) refl

pub words_again : (words : List (List ℕ)) → list_all is_word words ≡ true → words_of (join_with_byte 32 words) ≡ words
words_again [] is = refl
words_again (w ∷ []) is =
    let word = both_left (is_word w) true is in
    ap (filter (λ piece. not (is_empty piece))) (slice_split_none is_blank w (unblank w word)) ∙ kept w [] word
words_again (w ∷ v ∷ more) is =
    let word = both_left (is_word w) (list_all is_word (v ∷ more)) is in
    let others = both_right (is_word w) (list_all is_word (v ∷ more)) is in
    ap (filter (λ piece. not (is_empty piece)))
    (slice_split_at is_blank w 32 (join_with_byte 32 (v ∷ more)) (unblank w word) refl)
    ∙ kept w (slice_split is_blank (join_with_byte 32 (v ∷ more))) word
    ∙ ap (λ ws. w ∷ ws) (words_again (v ∷ more) others)
