-- A text that is cut behind column 71, byte by byte.
use Rattle.std.proofs.Common.{◌≡◌, ◌∙◌, ◌+◌, ◌<◌, ◌≤◌, ◌++◌, ℕ, List, [], ◌∷◌, length, drop, get_or, refl, ap, sym}
use Rattle.std.proofs.Common.{append_assoc}
use Rattle.std.proofs.lemmas.List.{append-nil, drop_all, drop_more}
use Rattle.iocm_columns.specs.Written.{placed, column_behind, cut_from}

cut_first : (column b : ℕ) (bs : List ℕ)
    → cut_from column (b ∷ bs) ≡ placed column b ++ cut_from (column_behind column) bs
unfolding cut_from
cut_first column b bs = refl

pub cut_none : (column : ℕ) → cut_from column [] ≡ []
unfolding cut_from
cut_none column = refl

-- one byte more has been put
pub cut_goes_on : (text new whole : List ℕ) (column next : ℕ) (bytes : List ℕ) (i b d : ℕ) → i < length bytes
    → b ≡ get_or bytes i d
    → text ++ cut_from column (drop i bytes) ≡ whole → new ≡ text ++ placed column b → next ≡ column_behind column
    → new ++ cut_from next (drop (i + 1) bytes) ≡ whole
cut_goes_on text new whole column next bytes i b d within is before put behind =
    ap (λ n. n ++ cut_from next (drop (i + 1) bytes)) put
    ∙ append_assoc text (placed column b) (cut_from next (drop (i + 1) bytes))
    ∙ ap (λ r. text ++ r)
    (ap (λ n. placed column b ++ cut_from n (drop (i + 1) bytes)) behind
    ∙ sym (cut_first column b (drop (i + 1) bytes))
    ∙ ap (λ x. cut_from column (x ∷ drop (i + 1) bytes)) is
    ∙ ap (λ r. cut_from column r) (sym (drop_more bytes i d within)))
    ∙ before

-- all bytes have been put
pub cut_ends : (text whole : List ℕ) (column : ℕ) (bytes : List ℕ) (i : ℕ) → length bytes ≤ i
    → text ++ cut_from column (drop i bytes) ≡ whole → text ≡ whole
cut_ends text whole column bytes i past all =
    sym (append-nil text) ∙ ap (λ r. text ++ r)
    (sym (cut_none column) ∙ ap (λ r. cut_from column r) (sym (drop_all i bytes past))) ∙ all
