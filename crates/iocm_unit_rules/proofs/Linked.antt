-- Paths with their links, one path after the other.
use Rattle.std.proofs.Common.{◌≡◌, ℕ, suc, zero, ◌+◌, ◌<◌, Bool, true, false, cond, ◌&&◌, ◌||◌, nat_eq, List, [], ◌∷◌}
use Rattle.std.proofs.Common.{map, filter, length, get_or, drop, refl, sym, ap, ◌∙◌, add-one, arith}
use Rattle.std.specs.List.{list_any}
use Rattle.iocm_types.proofs.Lists.{drop-item}
use Rattle.iocm_types.specs.declared.css_path.CssPath.{CssPath}
use Rattle.iocm_types.specs.declared.link.Link.{Link}
use Rattle.iocm_types.specs.declared.link.Link.TheVariants as link
use Rattle.iocm_model.specs.Machine.PathList.{paths_in}
use Rattle.iocm_model.specs.Rules.EachRule.{with_links}

-- the first path has the link at its place
pub first_linked : (x : ℕ) (xs : List ℕ) (ls : List Link) (k : ℕ)
    → with_links (x ∷ xs) (drop k ls) ≡ (x, get_or ls k link.None) ∷ with_links xs (drop (suc k) ls)
first_linked x xs [] zero = refl
first_linked x xs [] (suc k) = refl
first_linked x xs (l ∷ ls) zero = refl
first_linked x xs (l ∷ ls) (suc k) = first_linked x xs ls k

-- how far a path goes on among the links
abbrev pub step : Bool → ℕ
step b = cond b 1 0

module _ (test : ℕ × Link → Bool) (css : ℕ) (ps : List CssPath) (ls : List Link) (i k : ℕ) (p : CssPath)
    (within : i < length ps) (item : p ≡ get_or ps i p) where
  opened_by : (b : Bool) (qs : List CssPath)
      → list_any test (with_links (map (λ (q : CssPath). q.path) (cond b (p ∷ qs) qs)) (drop k ls))
      ≡ ((b && test (p.path, get_or ls k link.None))
      || list_any test (with_links (map (λ (q : CssPath). q.path) qs) (drop (k + step b) ls)))
  opened_by true qs = ap (list_any test) (first_linked p.path (map (λ (q : CssPath). q.path) qs) ls k)
      ∙ ap (λ n. test (p.path, get_or ls k link.None)
      || list_any test (with_links (map (λ (q : CssPath). q.path) qs) (drop n ls))) (sym (add-one k))
  opened_by false qs = let same : k ≡ k + 0 = omega arith in
      ap (λ n. list_any test (with_links (map (λ (q : CssPath). q.path) qs) (drop n ls))) same

  opened : list_any test (with_links (paths_in css (drop i ps)) (drop k ls))
      ≡ ((nat_eq p.css css && test (p.path, get_or ls k link.None))
      || list_any test (with_links (paths_in css (drop (i + 1) ps)) (drop (k + step (nat_eq p.css css)) ls)))
  opened = ap (λ qs. list_any test (with_links (paths_in css qs) (drop k ls))) (drop-item ps i p within item)
      ∙ opened_by (nat_eq p.css css) (filter (λ (q : CssPath). nat_eq q.css css) (drop (i + 1) ps))

  -- a path that doesn't pass with its link leaves the answer to the rest
  pub linked_more : (n : ℕ) → n ≡ step (nat_eq p.css css)
      → (nat_eq p.css css && test (p.path, get_or ls k link.None)) ≡ false
      → list_any test (with_links (paths_in css (drop (i + 1) ps)) (drop (k + n) ls))
      ≡ list_any test (with_links (paths_in css (drop i ps)) (drop k ls))
  linked_more n is fails = ap (λ m. list_any test (with_links (paths_in css (drop (i + 1) ps)) (drop (k + m) ls))) is
      ∙ sym (opened ∙ ap (λ b.
      b || list_any test (with_links (paths_in css (drop (i + 1) ps)) (drop (k + step (nat_eq p.css css)) ls))) fails)

  -- one that passes is enough
  pub linked_here : (nat_eq p.css css && test (p.path, get_or ls k link.None)) ≡ true
      → list_any test (with_links (paths_in css (drop i ps)) (drop k ls)) ≡ true
  linked_here passes = opened
      ∙ ap (λ b. b || list_any test
      (with_links (paths_in css (drop (i + 1) ps)) (drop (k + step (nat_eq p.css css)) ls))) passes
