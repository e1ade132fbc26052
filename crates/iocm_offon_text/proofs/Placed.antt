-- A line is told with the first of which the same is told, or behind all of them.
use Rattle.std.proofs.Common.{◌≡◌, ℕ, suc, ◌+◌, ◌<◌, ◌≤◌, cond, Bool, true, false, not, List, [], ◌∷◌, ◌++◌}
use Rattle.std.proofs.Common.{length, get_or, refl, sym, ap, ◌∙◌, arith}
use Rattle.std.proofs.Math.ListN.{set}
use Rattle.std.specs.List.{prefix_len}
use Rattle.iocm_offon_text.specs.Lines.{Line, both, is_told_with, with_line}

abbrev pub is_other : Line → Line → Bool
is_other l m = not (is_told_with m l)

abbrev pub place_in : Line → List Line → ℕ
place_in l ms = prefix_len (is_other l) ms

module _ (l : Line) where
  abbrev pub put_at : List Line → ℕ → Line → List Line
  put_at ms n d = set ms n (both (get_or ms n d) l)

  pub is_placed : (ms : List Line) (d : Line) → place_in l ms < length ms
      → with_line ms l ≡ put_at ms (place_in l ms) d
  is_placed [] d within = absurd (omega arith)
  is_placed (m ∷ ms) d within = by (is_told_with m l) within (is_placed ms d)
    where
      by : (same : Bool) → cond (not same) (1 + place_in l ms) 0 < length (m ∷ ms)
          → (place_in l ms < length ms → with_line ms l ≡ put_at ms (place_in l ms) d)
          → cond same (both m l ∷ ms) (m ∷ with_line ms l)
          ≡ put_at (m ∷ ms) (cond (not same) (1 + place_in l ms) 0) d
      by true within rest = refl
      by false within rest =
          let next : 1 + place_in l ms ≡ suc (place_in l ms) = omega arith in
          ap (λ ts. m ∷ ts) (rest (omega arith)) ∙ sym (ap (λ n. put_at (m ∷ ms) n d) next)

  pub is_last : (ms : List Line) → length ms ≤ place_in l ms → with_line ms l ≡ ms ++ l ∷ []
  is_last [] past = refl
  is_last (m ∷ ms) past = by (is_told_with m l) past (is_last ms)
    where
      by : (same : Bool) → length (m ∷ ms) ≤ cond (not same) (1 + place_in l ms) 0
          → (length ms ≤ place_in l ms → with_line ms l ≡ ms ++ l ∷ [])
          → cond same (both m l ∷ ms) (m ∷ with_line ms l) ≡ m ∷ (ms ++ l ∷ [])
      by true past rest = absurd (omega arith)
      by false past rest = ap (λ ts. m ∷ ts) (rest (omega arith))

-- ---- as the code finds it

module _ (l : Line) (ms all new : List Line) (place : ℕ) (lines : all ≡ ms) (found : place ≡ place_in l all) where
  found_at : place ≡ place_in l ms
  found_at = found ∙ ap (place_in l) lines

  pub placed_at : place < length all
      → ((d : Line) → new ≡ set ms place (both (get_or ms place d) l)) → new ≡ with_line ms l
  placed_at within put =
      let place_found = found_at in
      let long = ap length lines in
      let inside : place_in l ms < length ms = omega arith in
      put l ∙ ap (λ n. put_at l ms n l) place_found ∙ sym (is_placed l ms l inside)

  pub placed_last : length all ≤ place → new ≡ ms ++ l ∷ [] → new ≡ with_line ms l
  placed_last past put =
      let place_found = found_at in
      let long = ap length lines in
      let behind : length ms ≤ place_in l ms = omega arith in
      put ∙ sym (is_last l ms behind)
