-- A path is put in its place among others.
use Rattle.std.proofs.Common.{◌≡◌, ℕ, suc, ◌+◌, ◌&&◌, cond, Bool, true, false, not, List, [], ◌∷◌, length, get_or}
use Rattle.std.proofs.Common.{insert, nat_lt, refl, sym, ap, ◌∙◌, arith}
use Rattle.std.specs.List.{prefix_len}
use Rattle.std.proofs.lemmas.Bool.{lt-ltb}
use lib.Dec.{leb-suc-suc}
use Rattle.iocm_types.specs.declared.css_path.CssPath.{CssPath}
use Rattle.iocm_offon.specs.Reached.{is_before, with_path}

module _ (p : CssPath) where
  abbrev pub place_in : List CssPath → ℕ
  place_in ps = prefix_len (λ q. is_before q p) ps

  abbrev pub is_there : List CssPath → ℕ → Bool
  is_there ps n = nat_lt n (length ps) && not (is_before p (get_or ps n p))

  abbrev pub put_at : List CssPath → ℕ → List CssPath
  put_at ps n = cond (is_there ps n) ps (insert ps n p)

  behind : (q : CssPath) (c : Bool) (xs ys : List CssPath) → q ∷ cond c xs ys ≡ cond c (q ∷ xs) (q ∷ ys)
  behind q true xs ys = refl
  behind q false xs ys = refl

  next : (q : CssPath) (qs : List CssPath) (n : ℕ) → with_path qs p ≡ put_at qs n
      → q ∷ with_path qs p ≡ put_at (q ∷ qs) (1 + n)
  next q qs n h =
      let more : suc n ≡ 1 + n = omega arith in
      ap (λ zs. q ∷ zs) h ∙ behind q (is_there qs n) qs (insert qs n p)
      ∙ ap (λ t. cond (t && not (is_before p (get_or qs n p))) (q ∷ qs) (q ∷ insert qs n p))
      (sym (leb-suc-suc (suc n) (length qs)))
      ∙ ap (put_at (q ∷ qs)) more

  first_is_there : (q : CssPath) (qs : List CssPath) (a : Bool) → is_before p q ≡ a
      → put_at (q ∷ qs) 0 ≡ cond a (p ∷ q ∷ qs) (q ∷ qs)
  first_is_there q qs a is =
      ap (λ t. cond (t && not (is_before p q)) (q ∷ qs) (p ∷ q ∷ qs)) (lt-ltb 0 (suc (length qs)) (omega arith))
      ∙ turned a is
    where
      turned : (a : Bool) → is_before p q ≡ a
          → cond (not (is_before p q)) (q ∷ qs) (p ∷ q ∷ qs) ≡ cond a (p ∷ q ∷ qs) (q ∷ qs)
      turned true is = ap (λ t. cond (not t) (q ∷ qs) (p ∷ q ∷ qs)) is
      turned false is = ap (λ t. cond (not t) (q ∷ qs) (p ∷ q ∷ qs)) is

  -- none before it is at or behind its place
  pub put_in : (ps : List CssPath) → with_path ps p ≡ put_at ps (place_in ps)
  put_in [] = refl
  put_in (q ∷ qs) = by (is_before q p) (is_before p q) refl (put_in qs)
    where
      by : (b a : Bool) → is_before p q ≡ a → with_path qs p ≡ put_at qs (place_in qs)
          → cond b (q ∷ with_path qs p) (cond a (p ∷ q ∷ qs) (q ∷ qs))
          ≡ put_at (q ∷ qs) (cond b (1 + place_in qs) 0)
      by true a is h = next q qs (place_in qs) h
      by false a is h = sym (first_is_there q qs a is)

-- ---- as the code finds it

module _ (p : CssPath) (ps own other : List CssPath) (place : ℕ) (one : own ≡ ps) (two : other ≡ ps)
    (found : place ≡ place_in p own) where
  found_in : place ≡ place_in p ps
  found_in = found ∙ ap (place_in p) one

  there : (at : Bool) → at ≡ is_there p other place → at ≡ is_there p ps (place_in p ps)
  there at is = is ∙ (λ j. is_there p (two j) (found_in j))

  pub already : (at : Bool) → at ≡ is_there p other place → at ≡ true → ps ≡ with_path ps p
  already at is held = sym (put_in p ps ∙ ap (λ b. cond b ps (insert ps (place_in p ps) p)) (sym (there at is) ∙ held))

  pub inserted : (at : Bool) → at ≡ is_there p other place → at ≡ false → insert ps place p ≡ with_path ps p
  inserted at is free = ap (λ n. insert ps n p) found_in
      ∙ sym (put_in p ps ∙ ap (λ b. cond b ps (insert ps (place_in p ps) p)) (sym (there at is) ∙ free))
