-- A text that is cut behind column 71, piece by piece: the first piece from a column on, each other
-- one from column 16 on.
use Rattle.std.proofs.Common.{◌≡◌, ◌∙◌, ◌+◌, ◌<◌, ◌≤◌, ◌++◌, ℕ, Bool, true, false, List, [], ◌∷◌, length, refl, ap, sym}
use Rattle.std.proofs.Common.{arith, eqb}
use Rattle.std.specs.List.{concat}
use Rattle.std.proofs.lemmas.Bool.{eqb-true, eqb-false, ne_eqb}
use Rattle.iocm_columns.specs.Written.{cut, cut_from}

-- each piece but the last one ends in column 71, and none behind the first one is empty
abbrev pub Fits : ℕ → List ℕ → List (List ℕ) → Type 0
Fits column s [] = length s + column ≤ 72
Fits column s (c ∷ cs) = (length s + column ≡ 72) × (0 < length c) × Fits 16 c cs

-- the pieces as they are written
abbrev pub layout : List ℕ → List (List ℕ) → List ℕ
layout s [] = s
layout s (c ∷ cs) = s ++ (cut ++ layout c cs)

pub record Pieces (column : ℕ) (text : List ℕ) : Type 0 where
  pub first : List ℕ
  pub more : List (List ℕ)
  pub fits : Fits column first more
  pub whole : text ≡ first ++ concat more
  pub written : cut_from column text ≡ layout first more

fits_more : (column b : ℕ) (s : List ℕ) (cs : List (List ℕ)) → Fits (column + 1) s cs → Fits column (b ∷ s) cs
fits_more column b s [] fits = omega arith
fits_more column b s (c ∷ cs) fits = (omega (arith, fits.0), fits.1, fits.2)

layout_more : (b : ℕ) (s : List ℕ) (cs : List (List ℕ)) → layout (b ∷ s) cs ≡ b ∷ layout s cs
layout_more b s [] = refl
layout_more b s (c ∷ cs) = refl

pieces_at : (column b : ℕ) (bs : List ℕ) → column ≤ 72 → ((n : ℕ) → n ≤ 72 → Pieces n bs) → (e : Bool)
    → eqb column 72 ≡ e → Pieces column (b ∷ bs)
unfolding cut_from
pieces_at column b bs within later true is =
    let p = later 17 (omega arith) in
    record {
      first = [];
      more = (b ∷ p.first) ∷ p.more;
      fits = (omega (arith, eqb-true column 72 is), omega arith, fits_more 16 b p.first p.more p.fits);
      whole = ap (λ l. b ∷ l) p.whole;
      written = rw is (ap (λ l. cut ++ (b ∷ l)) p.written ∙ ap (λ l. cut ++ l) (sym (layout_more b p.first p.more)));
    }
pieces_at column b bs within later false is =
    let p = later (column + 1) (omega (arith, eqb-false column 72 is)) in
    record {
      first = b ∷ p.first;
      more = p.more;
      fits = fits_more column b p.first p.more p.fits;
      whole = ap (λ l. b ∷ l) p.whole;
      written = rw is (ap (λ l. b ∷ l) p.written ∙ sym (layout_more b p.first p.more));
    }

-- any text has its pieces
pub pieces_of : (text : List ℕ) (column : ℕ) → column ≤ 72 → Pieces column text
unfolding cut_from
pieces_of [] column within =
    record { first = []; more = []; fits = omega (arith, within); whole = refl; written = refl }
pieces_of (b ∷ bs) column within = pieces_at column b bs within (pieces_of bs) (eqb column 72) refl

-- what stands before column 72 isn't cut
pub cut_behind : (head text : List ℕ) (column : ℕ) → length head + column ≤ 72
    → cut_from column (head ++ text) ≡ head ++ cut_from (length head + column) text
unfolding cut_from
cut_behind [] text column within = ap (λ n. cut_from n text) (let same : column ≡ 0 + column = omega arith in same)
cut_behind (b ∷ bs) text column within =
    let before : eqb column 72 ≡ false = ne_eqb column 72 (λ same. omega (arith, same, within)) in
    let there : length bs + (column + 1) ≡ length (b ∷ bs) + column = omega arith in
    rw before (ap (λ l. b ∷ l)
    (cut_behind bs text (column + 1) (omega (arith, within)) ∙ ap (λ n. bs ++ cut_from n text) there))
