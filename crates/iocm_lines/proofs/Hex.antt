-- The digits of all bytes in a table, and those of a path in a line.
use Rattle.std.proofs.Common.{◌≡◌, ℕ, zero, suc, ◌+◌, ◌*◌, ◌/◌, ◌%◌, ◌<◌, List, [], ◌∷◌, ◌++◌, get_or, refl, ap, ◌∙◌}
use Rattle.std.proofs.Common.{arith, append_assoc}
use Rattle.json.specs.Print.{quoted}
use Rattle.iocm_types.specs.Print.{hex2, hex4}
use Rattle.iocm_values.proofs.Numerals.{glyph, hex2_text, hex4_text}
use Rattle.iocm_lines.specs.declared.hexadecimal.TheConstants.{PAIRS}
use Rattle.iocm_lines.proofs.Texts.{hex2_stays}

-- ---- the table

-- the two digits of each of so many numbers, from one on
abbrev pairs_from : ℕ → ℕ → List ℕ
pairs_from zero n = []
pairs_from (suc k) n = glyph (n / 16) ∷ glyph (n % 16) ∷ pairs_from k (n + 1)

pair_at : (k n i : ℕ) → i < k → (get_or (pairs_from k n) (2 * i) 0 ≡ glyph ((n + i) / 16))
    × (get_or (pairs_from k n) (2 * i + 1) 0 ≡ glyph ((n + i) % 16))
pair_at zero n i within = absurd (omega arith)
pair_at (suc k) n zero within = (ap (λ m. glyph (m / 16)) (omega arith), ap (λ m. glyph (m % 16)) (omega arith))
pair_at (suc k) n (suc i) within =
    let first : 2 * suc i ≡ suc (suc (2 * i)) = omega arith in
    let second : 2 * suc i + 1 ≡ suc (suc (2 * i + 1)) = omega arith in
    let number : n + 1 + i ≡ n + suc i = omega arith in
    let more = pair_at k (n + 1) i (omega arith) in (
      ap (λ j. get_or (pairs_from (suc k) n) j 0) first ∙ more.0 ∙ ap (λ m. glyph (m / 16)) number,
      ap (λ j. get_or (pairs_from (suc k) n) j 0) second ∙ more.1 ∙ ap (λ m. glyph (m % 16)) number,
    )

pairs_are : PAIRS ≡ pairs_from 256 0
pairs_are = refl

pub digits_at : (n : ℕ) → n < 256
    → (get_or PAIRS (2 * n) 0 ≡ glyph (n / 16)) × (get_or PAIRS (2 * n + 1) 0 ≡ glyph (n % 16))
digits_at n small =
    let at = pair_at 256 0 n small in
    rw pairs_are (at.0 ∙ ap (λ m. glyph (m / 16)) (omega arith), at.1 ∙ ap (λ m. glyph (m % 16)) (omega arith))

-- the digits of a half-word, byte by byte
pub hex4_pairs : (n : ℕ) → n < 65536
    → hex4 n ≡ glyph (n / 256 / 16) ∷ glyph (n / 256 % 16) ∷ glyph (n % 256 / 16) ∷ glyph (n % 256 % 16) ∷ []
hex4_pairs n small =
    let first : n / 4096 ≡ n / 256 / 16 = omega arith in
    let third : n / 16 % 16 ≡ n % 256 / 16 = omega arith in
    let fourth : n % 16 ≡ n % 256 % 16 = omega arith in
    hex4_text n small ∙ (λ i. glyph (first i) ∷ glyph (n / 256 % 16) ∷ glyph (third i) ∷ glyph (fourth i) ∷ [])

-- ---- in a line

-- the digits of a path between quotes, put at the end one after the other
pub path_by_places : (xs : List ℕ) (path : ℕ) → path < 256
    → (((xs ++ 34 ∷ []) ++ glyph (path / 16) ∷ []) ++ glyph (path % 16) ∷ []) ++ 34 ∷ [] ≡ xs ++ quoted (hex2 path)
path_by_places xs path small = rw (hex2_stays path, hex2_text path small) (simp append_assoc)
