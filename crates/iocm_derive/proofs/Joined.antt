-- Path lists, one path or one control unit after the other.
use Rattle.std.proofs.Common.{◌≡◌, ℕ, ◌+◌, ◌<◌, ◌≤◌, true, false, cond, nat_eq, List, [], ◌∷◌, ◌++◌, map, length}
use Rattle.std.proofs.Common.{get_or, drop, Option, Some, None, refl, sym, ap, ◌∙◌}
use Rattle.std.proofs.Math.ListN.{drop_of_length-le}
use Rattle.std.specs.List.{filter}
use Rattle.iocm_types.proofs.Lists.{drop-item}
use Rattle.iocm_types.specs.declared.css_path.CssPath.{CssPath}
use Rattle.iocm_types.specs.declared.key.Key.TheVariants as key
use Rattle.iocm_model.specs.Machine.Record.{Rec, id, resource, image, limit, path, unit, device, online}
use Rattle.iocm_model.specs.Machine.Configuration.{Lookup}
use Rattle.iocm_model.specs.Machine.PathList.{paths_in, unit_record_paths, path_list}
use Rattle.iocm_derive.specs.Derived.{all_paths}

paths_in_cons : (css : ℕ) (p : CssPath) (rest : List CssPath)
    → paths_in css (p ∷ rest) ≡ paths_in css (p ∷ []) ++ paths_in css rest
paths_in_cons css p rest =
    elim (nat_eq p.css css) as
    (λ b. map (λ (q : CssPath). q.path)
    (cond b (p ∷ filter (λ (q : CssPath). nat_eq q.css css) rest)
    (filter (λ (q : CssPath). nat_eq q.css css) rest))
    ≡ map (λ (q : CssPath). q.path) (cond b (p ∷ []) []) ++ paths_in css rest) [ true ↦ refl | false ↦ refl ]

-- the paths from one on are it and those after it
pub paths_opened : (css : ℕ) (ps : List CssPath) (i : ℕ) (p : CssPath) → i < length ps → p ≡ get_or ps i p
    → paths_in css (drop i ps) ≡ paths_in css (p ∷ []) ++ paths_in css (drop (i + 1) ps)
paths_opened css ps i p within item =
    ap (paths_in css) (drop-item ps i p within item) ∙ paths_in_cons css p (drop (i + 1) ps)

pub paths_past : (css : ℕ) (ps : List CssPath) (i : ℕ) → length ps ≤ i → paths_in css (drop i ps) ≡ []
paths_past css ps i past = ap (paths_in css) (drop_of_length-le ps past)

-- the paths of a unit in a channel subsystem are those of all its paths that are there
pub of_unit : (css : ℕ) (r : Option Rec) → unit_record_paths css r ≡ paths_in css (all_paths r)
of_unit css None = refl
of_unit css (Some (id x)) = refl
of_unit css (Some (resource x)) = refl
of_unit css (Some (image x)) = refl
of_unit css (Some (limit x)) = refl
of_unit css (Some (path x)) = refl
of_unit css (Some (unit x)) = refl
of_unit css (Some (device x)) = refl
of_unit css (Some (online x)) = refl

-- the path list from one unit on is its paths and those of the units after it
pub units_opened : (c : Lookup) (css : ℕ) (us : List ℕ) (i u : ℕ) (shown : List CssPath) → i < length us
    → u ≡ get_or us i u → shown ≡ all_paths (c (key.Unit u))
    → path_list c css (drop i us) ≡ paths_in css shown ++ path_list c css (drop (i + 1) us)
units_opened c css us i u shown within item is =
    ap (path_list c css) (drop-item us i u within item)
    ∙ ap (λ ps. ps ++ path_list c css (drop (i + 1) us)) (of_unit css (c (key.Unit u)) ∙ ap (paths_in css) (sym is))

pub units_past : (c : Lookup) (css : ℕ) (us : List ℕ) (i : ℕ) → length us ≤ i → path_list c css (drop i us) ≡ []
units_past c css us i past = ap (path_list c css) (drop_of_length-le us past)
