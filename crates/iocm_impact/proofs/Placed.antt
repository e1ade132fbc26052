-- An image is put into the block at the place of the first with equal rows, or behind all of them.
use Rattle.std.proofs.Common.{◌≡◌, ℕ, suc, ◌+◌, ◌<◌, ◌≤◌, cond, Bool, true, false, not, List, [], ◌∷◌, ◌++◌}
use Rattle.std.proofs.Common.{length, get_or, refl, sym, ap, ◌∙◌, arith}
use Rattle.std.proofs.Math.ListN.{set}
use Rattle.std.specs.List.{prefix_len}
use Rattle.iocm_impact.specs.Blocks.{Told, same_rows, told_in, with_image}
use Rattle.iocm_impact.specs.declared.named_image.NamedImage.{NamedImage}
use Rattle.iocm_impact.specs.declared.row.Row.{Row}

abbrev pub is_other : List Row → Told → Bool
is_other rs b = not (same_rows b.rows rs)

abbrev pub place_in : List Row → List Told → ℕ
place_in rs bs = prefix_len (is_other rs) bs

module _ (i : NamedImage) (rs : List Row) where
  abbrev pub put_at : List Told → ℕ → Told → List Told
  put_at bs n d = set bs n (with_image (get_or bs n d) i)

  pub is_placed : (bs : List Told) (d : Told) → place_in rs bs < length bs
      → told_in bs i rs ≡ put_at bs (place_in rs bs) d
  is_placed [] d within = absurd (omega arith)
  is_placed (b ∷ bs) d within = by (same_rows b.rows rs) within (is_placed bs d)
    where
      by : (same : Bool) → cond (not same) (1 + place_in rs bs) 0 < length (b ∷ bs)
          → (place_in rs bs < length bs → told_in bs i rs ≡ put_at bs (place_in rs bs) d)
          → cond same (with_image b i ∷ bs) (b ∷ told_in bs i rs)
          ≡ put_at (b ∷ bs) (cond (not same) (1 + place_in rs bs) 0) d
      by true within rest = refl
      by false within rest =
          let next : 1 + place_in rs bs ≡ suc (place_in rs bs) = omega arith in
          ap (λ ts. b ∷ ts) (rest (omega arith)) ∙ sym (ap (λ n. put_at (b ∷ bs) n d) next)

  pub is_last : (bs : List Told) → length bs ≤ place_in rs bs
      → told_in bs i rs ≡ bs ++ record { images = i ∷ []; rows = rs } ∷ []
  is_last [] past = refl
  is_last (b ∷ bs) past = by (same_rows b.rows rs) past (is_last bs)
    where
      by : (same : Bool) → length (b ∷ bs) ≤ cond (not same) (1 + place_in rs bs) 0
          → (length bs ≤ place_in rs bs → told_in bs i rs ≡ bs ++ record { images = i ∷ []; rows = rs } ∷ [])
          → cond same (with_image b i ∷ bs) (b ∷ told_in bs i rs)
          ≡ b ∷ (bs ++ record { images = i ∷ []; rows = rs } ∷ [])
      by true past rest = absurd (omega arith)
      by false past rest = ap (λ ts. b ∷ ts) (rest (omega arith))

-- ---- as the code finds it

abbrev no_block : Told
no_block = record { images = []; rows = [] }

module _ (i : NamedImage) (rs own : List Row) (bs all new : List Told) (place : ℕ) (rows : own ≡ rs) (blocks : all ≡ bs)
    (found : place ≡ place_in own all) where
  found_at : place ≡ place_in rs bs
  found_at = found ∙ (λ j. place_in (rows j) (blocks j))

  pub placed_at : place < length all
      → ((d : Told) → new ≡ set bs place (with_image (get_or bs place d) i)) → new ≡ told_in bs i rs
  placed_at within put =
      let place_found = found_at in
      let long = ap length blocks in
      let inside : place_in rs bs < length bs = omega arith in
      put no_block ∙ ap (λ n. put_at i rs bs n no_block) place_found ∙ sym (is_placed i rs bs no_block inside)

  pub placed_last : length all ≤ place → (b : Told) → b ≡ record { images = i ∷ []; rows = rs }
      → new ≡ bs ++ b ∷ [] → new ≡ told_in bs i rs
  placed_last past b is put =
      let place_found = found_at in
      let long = ap length blocks in
      let behind : length bs ≤ place_in rs bs = omega arith in
      put ∙ ap (λ c. bs ++ c ∷ []) is ∙ sym (is_last i rs bs behind)
