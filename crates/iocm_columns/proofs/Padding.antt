-- What is read off the bytes of a line is what its columns have.
use Rattle.std.proofs.Common.{◌≡◌, ℕ, zero, suc, ◌-◌, ◌<◌, ◌≤◌, true, false, ◌&&◌, ◌||◌, eqb, not, List, [], ◌∷◌}
use Rattle.std.proofs.Common.{◌++◌, length, take, drop, replicate, slice_index, get_or, refl, ap, ◌∙◌, arith}
use Rattle.std.specs.List.{list_all}
use Rattle.std.proofs.lemmas.List.{get_or-append_right, get_or_append_left, get_or-replicate, get_or-take}
use Rattle.std.proofs.lemmas.List.{drop-replicate, length-append, length-replicate, length-take, take_all}
use Rattle.iocm_columns.specs.Columns.{is_blank, columns_of, is_continued, has_margin, is_skipped}

blanks : (k m : ℕ) → list_all is_blank (take k (replicate m 32)) ≡ true
blanks zero m = refl
blanks (suc k) zero = refl
blanks (suc k) (suc m) = blanks k m

front_read : (k n m : ℕ) (bytes : List ℕ) → k ≤ n
    → list_all is_blank (take k (take n bytes ++ replicate m 32)) ≡ list_all is_blank (take k bytes)
front_read zero n m bytes within = refl
front_read (suc k) zero m bytes within = absurd (omega (arith, within))
front_read (suc k) (suc n) m [] within = blanks (suc k) m
front_read (suc k) (suc n) m (b ∷ bytes) within =
    ap (λ rest. is_blank b && rest) (front_read k n m bytes (omega (arith, within)))

-- the margin
pub margin_read : (bytes : List ℕ) → has_margin (columns_of bytes) ≡ list_all is_blank (take 15 bytes)
margin_read bytes = front_read 15 72 (72 - length bytes) bytes (omega arith)

first_read : (bytes : List ℕ) → eqb (slice_index (columns_of bytes) 0) 42 ≡ eqb (slice_index bytes 0) 42
first_read [] = refl
first_read (b ∷ bs) = refl

-- a comment or a blank line
pub skipped_read : (bytes : List ℕ)
    → is_skipped (columns_of bytes) ≡ (eqb (slice_index bytes 0) 42 || list_all is_blank (take 72 bytes))
skipped_read bytes =
    let all : take 72 (columns_of bytes) ≡ columns_of bytes = take_all 72 (columns_of bytes)
    (omega (
      arith,
      length-append (take 72 bytes) (replicate (72 - length bytes) 32),
      length-take 72 bytes,
      length-replicate {A = ℕ} (72 - length bytes) 32,
    )) in
    rw (first_read bytes, ← all) (ap (λ blank. eqb (slice_index bytes 0) 42 || blank)
    (front_read 72 72 (72 - length bytes) bytes (omega arith)))

within_front : (n m i : ℕ) (bytes : List ℕ) → i < n → i < length bytes
    → get_or (take n bytes ++ replicate m 32) i 0 ≡ get_or bytes i 0
within_front n m i bytes below within =
    get_or_append_left (take n bytes) (replicate m 32) 0 i (omega (arith, length-take n bytes, below, within))
    ∙ get_or-take n bytes i 0 below

past_bytes : (n i : ℕ) (bytes : List ℕ) → i < n → length bytes ≤ i
    → get_or (take n bytes ++ replicate (n - length bytes) 32) i 0 ≡ 32
past_bytes n i bytes below past =
    get_or-append_right (take n bytes) (replicate (n - length bytes) 32) (length bytes) i 0
    (omega (arith, length-take n bytes, below, past)) past
    ∙ get_or-replicate (n - length bytes) (i - length bytes) 32 0 (omega (arith, below, past))

-- column 72 of a line that has it
pub continued_read : (bytes : List ℕ) → 71 < length bytes
    → is_continued (columns_of bytes) ≡ not (is_blank (slice_index bytes 71))
continued_read bytes within =
    ap (λ b. not (is_blank b)) (within_front 72 (72 - length bytes) 71 bytes (omega arith) within)

-- a line without column 72 isn't continued
pub short_read : (bytes : List ℕ) → length bytes ≤ 71 → is_continued (columns_of bytes) ≡ false
short_read bytes past = ap (λ b. not (is_blank b)) (past_bytes 72 71 bytes (omega arith) past)

-- the columns are the bytes, as many as fit, and blanks behind them
pub filled : (bytes : List ℕ) → take 72 bytes ++ drop (length (take 72 bytes)) (replicate 72 32) ≡ columns_of bytes
filled bytes =
    let blank : 72 - length (take 72 bytes) ≡ 72 - length bytes = omega (arith, length-take 72 bytes) in
    ap (λ rest. take 72 bytes ++ rest)
    (drop-replicate (length (take 72 bytes)) 72 32 ∙ ap (λ k. replicate k 32) blank)

pub ruleset padding = (margin_read, skipped_read, continued_read, short_read, filled)
