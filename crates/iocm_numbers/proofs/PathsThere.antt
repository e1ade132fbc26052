-- Whether there is a path, one control unit or one path after the other.
use Rattle.std.proofs.Common.{◌≡◌, ℕ, Bool, true, false, cond, ◌||◌, nat_eq, not, List, [], ◌∷◌, ◌++◌, map, refl, ap}
use Rattle.std.proofs.Common.{◌∙◌}
use Rattle.std.specs.List.{filter, list_any}
use Rattle.iocm_types.specs.declared.css_path.CssPath.{CssPath}
use Rattle.iocm_model.specs.Machine.Configuration.{Lookup}
use Rattle.iocm_model.specs.Machine.Numbering.{is_empty}
use Rattle.iocm_model.specs.Machine.PathList.{paths_in, unit_paths, path_list}

-- whether a unit has a path in a channel subsystem
abbrev pub has_path : Lookup → ℕ → ℕ → Bool
has_path c css unit = not (is_empty (unit_paths c css unit))

-- two lists, one behind the other, have an item where one of them has
there_append : {A : Type 0} (xs ys : List A) → not (is_empty (xs ++ ys)) ≡ (not (is_empty xs) || not (is_empty ys))
there_append [] ys = refl
there_append (x ∷ xs) ys = refl

-- some units have a path where one of them has
pub some_unit : (c : Lookup) (css : ℕ) (us : List ℕ)
    → not (is_empty (path_list c css us)) ≡ list_any (has_path c css) us
some_unit c css [] = refl
some_unit c css (u ∷ us) =
    there_append (unit_paths c css u) (path_list c css us) ∙ ap (λ b. has_path c css u || b) (some_unit c css us)

some_path_by : (b : Bool) (p : CssPath) (ps : List CssPath)
    → not (is_empty (map (λ (q : CssPath). q.path) (cond b (p ∷ ps) ps)))
    ≡ (b || not (is_empty (map (λ (q : CssPath). q.path) ps)))
some_path_by true p ps = refl
some_path_by false p ps = refl

-- some of these paths is in a channel subsystem where one of them is
pub some_path : (css : ℕ) (ps : List CssPath)
    → not (is_empty (paths_in css ps)) ≡ list_any (λ (p : CssPath). nat_eq p.css css) ps
some_path css [] = refl
some_path css (p ∷ ps) =
    some_path_by (nat_eq p.css css) p (filter (λ (q : CssPath). nat_eq q.css css) ps)
    ∙ ap (λ b. nat_eq p.css css || b) (some_path css ps)
