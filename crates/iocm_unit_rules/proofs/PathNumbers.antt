-- The paths of a channel subsystem among some paths, one path after the other.
use Rattle.std.proofs.Common.{◌≡◌, ℕ, ◌+◌, ◌<◌, ◌≤◌, Bool, true, false, cond, ◌&&◌, ◌||◌, nat_eq, List, [], ◌∷◌, map}
use Rattle.std.proofs.Common.{length, get_or, drop, refl, ap, ◌∙◌}
use Rattle.std.proofs.Math.ListN.{drop_of_length-le}
use Rattle.std.specs.List.{list_any, filter}
use Rattle.iocm_types.proofs.Lists.{drop-item}
use Rattle.iocm_types.specs.declared.css_path.CssPath.{CssPath}
use Rattle.iocm_model.specs.Machine.PathList.{paths_in}
use Rattle.iocm_model.specs.Rules.EachRule.{has_twice}

-- a path of a channel subsystem among some paths
abbrev pub is_path : ℕ → ℕ → CssPath → Bool
is_path css number p = nat_eq p.css css && nat_eq number p.path

among_by : (b : Bool) (number : ℕ) (p : CssPath) (ps : List CssPath)
    → list_any (nat_eq number) (map (λ (q : CssPath). q.path) (cond b (p ∷ ps) ps))
    ≡ ((b && nat_eq number p.path) || list_any (nat_eq number) (map (λ (q : CssPath). q.path) ps))
among_by true number p ps = refl
among_by false number p ps = refl

pub path_among : (css number : ℕ) (ps : List CssPath)
    → list_any (nat_eq number) (paths_in css ps) ≡ list_any (is_path css number) ps
path_among css number [] = refl
path_among css number (p ∷ ps) =
    among_by (nat_eq p.css css) number p (filter (λ (q : CssPath). nat_eq q.css css) ps)
    ∙ ap (λ b. is_path css number p || b) (path_among css number ps)

twice_by : (b : Bool) (p : CssPath) (ps : List CssPath) → has_twice (map (λ (q : CssPath). q.path) (cond b (p ∷ ps) ps))
    ≡ ((b && list_any (nat_eq p.path) (map (λ (q : CssPath). q.path) ps))
    || has_twice (map (λ (q : CssPath). q.path) ps))
twice_by true p ps = refl
twice_by false p ps = refl

-- from place i on a path stands twice where it stands there and behind, or two do behind
twice_from : (css : ℕ) (ps : List CssPath) (i : ℕ) (p : CssPath) → i < length ps → p ≡ get_or ps i p
    → has_twice (paths_in css (drop i ps))
    ≡ ((nat_eq p.css css && list_any (nat_eq p.path) (paths_in css (drop (i + 1) ps)))
    || has_twice (paths_in css (drop (i + 1) ps)))
twice_from css ps i p within item = ap (λ qs. has_twice (paths_in css qs)) (drop-item ps i p within item)
    ∙ twice_by (nat_eq p.css css) p (filter (λ (q : CssPath). nat_eq q.css css) (drop (i + 1) ps))

-- a path that isn't of the channel subsystem, or doesn't stand behind
pub not_twice : (css : ℕ) (ps : List CssPath) (i : ℕ) (p : CssPath) → i < length ps → p ≡ get_or ps i p
    → (nat_eq p.css css && list_any (nat_eq p.path) (paths_in css (drop (i + 1) ps))) ≡ false
    → has_twice (paths_in css (drop i ps)) ≡ has_twice (paths_in css (drop (i + 1) ps))
not_twice css ps i p within item apart =
    twice_from css ps i p within item ∙ ap (λ b. b || has_twice (paths_in css (drop (i + 1) ps))) apart

pub is_twice : (css : ℕ) (ps : List CssPath) (i : ℕ) (p : CssPath) → i < length ps → p ≡ get_or ps i p
    → (nat_eq p.css css && list_any (nat_eq p.path) (paths_in css (drop (i + 1) ps))) ≡ true
    → has_twice (paths_in css (drop i ps)) ≡ true
is_twice css ps i p within item there =
    twice_from css ps i p within item ∙ ap (λ b. b || has_twice (paths_in css (drop (i + 1) ps))) there

pub none_twice : (css : ℕ) (ps : List CssPath) (i : ℕ) → length ps ≤ i → has_twice (paths_in css (drop i ps)) ≡ false
none_twice css ps i past = ap (λ qs. has_twice (paths_in css qs)) (drop_of_length-le ps past)

pub ruleset path_twice = (not_twice, is_twice, none_twice)
