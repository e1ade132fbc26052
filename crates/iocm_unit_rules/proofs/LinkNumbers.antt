-- The addresses of units on their paths: one more, and units that have one in common.
use Rattle.std.proofs.Common.{◌≡◌, ℕ, ◌+◌, ◌<◌, ◌≤◌, Bool, true, false, cond, nat_eq, List, [], ◌∷◌, ◌++◌, append_assoc}
use Rattle.std.proofs.Common.{map, filter, length, get_or, drop, sym, ap, ◌∙◌, add-one, arith}
use Rattle.std.proofs.Math.ListN.{drop_of_length-le}
use Rattle.std.proofs.lemmas.List.{append-nil}
use Rattle.std.specs.List.{flat_map}
use Rattle.iocm_types.proofs.Lists.{drop-item}
use Rattle.iocm_types.specs.declared.css_path.CssPath.{CssPath}
use Rattle.iocm_types.specs.declared.link.Link.{Link}
use Rattle.iocm_types.specs.declared.link.Link.TheVariants as link
use Rattle.iocm_model.specs.Machine.PathList.{paths_in}
use Rattle.iocm_model.specs.Rules.EachRule.{with_links}
use Rattle.iocm_unit_rules.proofs.Linked.{first_linked, step}

-- ---- lists that grow

-- one item more: what it gives is behind what was there
pub part_more : {A B : Type 0} (gives : A → List B) (xs : List A) (i : ℕ) (x : A) (front grown : List B) → i < length xs
    → x ≡ get_or xs i x → grown ≡ front ++ gives x
    → grown ++ flat_map gives (drop (i + 1) xs) ≡ front ++ flat_map gives (drop i xs)
part_more gives xs i x front grown within item is =
    ap (λ l. l ++ flat_map gives (drop (i + 1) xs)) is ∙ append_assoc front (gives x) (flat_map gives (drop (i + 1) xs))
    ∙ ap (λ l. front ++ flat_map gives l) (sym (drop-item xs i x within item))

pub part_end : {A B : Type 0} (gives : A → List B) (xs : List A) (i : ℕ) (front : List B) → length xs ≤ i
    → front ++ flat_map gives (drop i xs) ≡ front
part_end gives xs i front past = ap (λ l. front ++ flat_map gives l) (drop_of_length-le xs past) ∙ append-nil front

-- ---- paths with their links

module _ (number : ℕ × Link → ℕ) (css : ℕ) (ps : List CssPath) (ls : List Link) (i k : ℕ) (p : CssPath)
    (within : i < length ps) (item : p ≡ get_or ps i p) where
  -- the numbers on the paths from a place on
  abbrev left : List CssPath → ℕ → List ℕ
  left qs n = map number (with_links (map (λ (q : CssPath). q.path) (filter (λ (q : CssPath). nat_eq q.css css) qs))
      (drop n ls))

  opened_by : (b : Bool) (qs : List CssPath)
      → map number (with_links (map (λ (q : CssPath). q.path) (cond b (p ∷ qs) qs)) (drop k ls))
      ≡ cond b (number (p.path, get_or ls k link.None) ∷ []) []
      ++ map number (with_links (map (λ (q : CssPath). q.path) qs) (drop (k + step b) ls))
  opened_by true qs = ap (map number) (first_linked p.path (map (λ (q : CssPath). q.path) qs) ls k)
      ∙ ap (λ n. number (p.path, get_or ls k link.None)
      ∷ map number (with_links (map (λ (q : CssPath). q.path) qs) (drop n ls))) (sym (add-one k))
  opened_by false qs = let same : k ≡ k + 0 = omega arith in
      ap (λ n. map number (with_links (map (λ (q : CssPath). q.path) qs) (drop n ls))) same

  opened : left (drop i ps) k ≡ cond (nat_eq p.css css) (number (p.path, get_or ls k link.None) ∷ []) []
      ++ left (drop (i + 1) ps) (k + step (nat_eq p.css css))
  opened = ap (λ qs. left qs k) (drop-item ps i p within item)
      ∙ opened_by (nat_eq p.css css) (filter (λ (q : CssPath). nat_eq q.css css) (drop (i + 1) ps))

  -- one path more
  pub path_more : (front grown : List ℕ) (n : ℕ) → n ≡ step (nat_eq p.css css)
      → grown ≡ front ++ cond (nat_eq p.css css) (number (p.path, get_or ls k link.None) ∷ []) []
      → grown ++ map number (with_links (paths_in css (drop (i + 1) ps)) (drop (k + n) ls)) ≡ front
      ++ map number (with_links (paths_in css (drop i ps)) (drop k ls))
  path_more front grown n is more =
      ap (λ l. l ++ left (drop (i + 1) ps) (k + n)) more
      ∙ append_assoc front (cond (nat_eq p.css css) (number (p.path, get_or ls k link.None) ∷ []) [])
      (left (drop (i + 1) ps) (k + n))
      ∙ ap (λ m. front ++ (cond (nat_eq p.css css) (number (p.path, get_or ls k link.None) ∷ []) []
      ++ left (drop (i + 1) ps) (k + m))) is
      ∙ ap (λ l. front ++ l) (sym opened)

pub path_end : (number : ℕ × Link → ℕ) (css : ℕ) (ps : List CssPath) (ls : List Link) (i k : ℕ) (front : List ℕ)
    → length ps ≤ i
    → front ++ map number (with_links (paths_in css (drop i ps)) (drop k ls)) ≡ front
path_end number css ps ls i k front past =
    ap (λ qs. front ++ map number (with_links (paths_in css qs) (drop k ls))) (drop_of_length-le ps past)
    ∙ append-nil front
