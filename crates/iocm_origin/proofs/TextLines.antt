-- A line is the part between line feeds, without the carriage return before one; an empty part at
-- the end is none.
use Rattle.std.proofs.Common.{◌≡◌, ℕ, suc, zero, ◌==◌, cond, true, false, List, [], ◌∷◌, length, Option, None, Some}
use Rattle.std.proofs.Common.{refl, sym, ap, ◌∙◌}
use Rattle.std.specs.List.{slice_get, slice_split}
use Rattle.std.specs.Str.Lines.{lines_of_parts}
use Rattle.iocm_origin.specs.Origin.{line_of, line_at}

by_parts : (ps : List (List ℕ)) (n : ℕ)
    → line_at (slice_get ps n) (slice_get ps (suc n)) ≡ slice_get (lines_of_parts ps) n
by_parts [] n = refl
by_parts (p ∷ []) zero = elim (length p == 0) as
    (λ b. cond b None (Some p) ≡ slice_get (cond b [] (p ∷ [])) 0) [ true ↦ refl | false ↦ refl ]
by_parts (p ∷ []) (suc n) = elim (length p == 0) as
    (λ b. None ≡ slice_get (cond b [] (p ∷ [])) (suc n)) [ true ↦ refl | false ↦ refl ]
by_parts (p ∷ q ∷ ps) zero = refl
by_parts (p ∷ q ∷ ps) (suc n) = by_parts (q ∷ ps) n

pub of_number : (text : List ℕ) (line place : ℕ) (part next : Option (List ℕ)) → line ≡ suc place
    → part ≡ slice_get (slice_split (λ b. b == 10) text) place
    → next ≡ slice_get (slice_split (λ b. b == 10) text) line → line_at part next ≡ line_of text line
of_number text line place part next is here there = let parts = slice_split (λ b. b == 10) text in
    (λ i. line_at (here i) ((there ∙ ap (slice_get parts) is) i)) ∙ by_parts parts place ∙ ap (line_of text) (sym is)
