-- A path leads by one route where nothing differs.
use Rattle.std.proofs.Common.{◌≡◌, ℕ, nat_eq, cond, ◌&&◌, ◌||◌, Bool, true, false, map, filter, List, [], ◌∷◌, Option}
use Rattle.std.proofs.Common.{Some, None, refl, sym, ap, ◌∙◌}
use Rattle.std.specs.List.{list_any}
use Rattle.std.specs.Option.{option_and_then, option_eq, option_map_or}
use Rattle.std.specs.Cmp.Derive.{both_true}
use Rattle.iocm_types.specs.declared.css_path.CssPath.{CssPath}
use Rattle.iocm_types.specs.declared.link.Link.{Link}
use Rattle.iocm_model.specs.Machine.PathList.{paths_in}
use Rattle.iocm_model.specs.Machine.Record.{PathRecord, UnitRecord, DeviceRecord}
use Rattle.iocm_model.specs.Rules.EachRule.{cuadd_or_zero, linked_paths, links_in, same_link, with_links}
use Rattle.iocm_difference.proofs.SameRecords.{own_kind, own_link, own_name, own_number, own_operands, own_option}
use Rattle.iocm_unit_rules.specs.Links.{share_link_on}
use Rattle.iocm_sight.specs.Connected.{has_path}
use Rattle.iocm_plan.specs.Routes.{is_one_device, is_one_path, is_one_route, is_one_unit, path_at}
use Rattle.iocm_plan.specs.Routes.{unit_record}
use Rattle.iocm_plan.specs.Routes.{if_it_has, unit_over, unit_with}
use Rattle.iocm_plan.specs.Seen.{Side}
use Rattle.iocm_plan.proofs.Lists.{first_passes, passes_near}

own_path : (p : PathRecord) → is_one_path p p ≡ true
own_path p = both_true (own_kind p.kind) (own_operands p.carried)

own_device : (d : DeviceRecord) → is_one_device d d ≡ true
own_device d = both_true (own_number d.unit_address) (own_operands d.carried)

-- a path with its link is the path
path_with_link : (p : ℕ) (ps : List ℕ) (ls : List Link)
    → list_any (λ (q : ℕ × Link). nat_eq p q.0) (with_links ps ls) ≡ list_any (nat_eq p) ps
path_with_link p [] ls = refl
path_with_link p (x ∷ ps) [] = ap (λ b. nat_eq p x || b) (path_with_link p ps [])
path_with_link p (x ∷ ps) (l ∷ ls) = ap (λ b. nat_eq p x || b) (path_with_link p ps ls)

-- a path of a channel subsystem is among those there
in_subsystem : (css p : ℕ) (ps : List CssPath)
    → list_any (λ (own : CssPath). nat_eq own.css css && nat_eq p own.path) ps ≡ list_any (nat_eq p) (paths_in css ps)
in_subsystem css p [] = refl
in_subsystem css p (own ∷ ps) = by (nat_eq own.css css) (in_subsystem css p ps)
  where
    by : (b : Bool) → list_any (λ (q : CssPath). nat_eq q.css css && nat_eq p q.path) ps
        ≡ list_any (nat_eq p) (paths_in css ps)
        → ((b && nat_eq p own.path) || list_any (λ (q : CssPath). nat_eq q.css css && nat_eq p q.path) ps)
        ≡ list_any (nat_eq p) (map (λ (q : CssPath). q.path)
        (cond b (own ∷ filter (λ (q : CssPath). nat_eq q.css css) ps)
        (filter (λ (q : CssPath). nat_eq q.css css) ps)))
    by true rest = ap (λ b. nat_eq p own.path || b) rest
    by false rest = rest

-- a control unit has one link with itself at a path that it has
own_link_on : (css p : ℕ) (u : UnitRecord) → has_path css p u ≡ true → share_link_on css p u u ≡ true
own_link_on css p u has = passes_near (λ (a b : ℕ × Link). nat_eq a.0 b.0 && same_link a.1 b.1)
    (λ a. both_true (own_number a.0) (own_link a.1)) (λ q. nat_eq p q.0) (linked_paths css u)
    (path_with_link p (paths_in css u.paths) (links_in css u.links)
    ∙ sym (in_subsystem css p u.paths) ∙ has)

own_unit : (css p : ℕ) (u : UnitRecord) → has_path css p u ≡ true → is_one_unit css p u u ≡ true
own_unit css p u has =
    both_true (both_true (both_true (own_number u.number) (own_number (cuadd_or_zero u))) (own_operands u.carried))
    (own_link_on css p u has)

-- the control unit that has a path has it
its_own : (css p : ℕ) (found : Option UnitRecord) (u : UnitRecord) → option_and_then (if_it_has css p) found ≡ Some u
    → has_path css p u ≡ true
its_own css p None u h = cc
its_own css p (Some v) u h = by (has_path css p v) refl h
  where
    by : (b : Bool) → has_path css p v ≡ b → cond b (Some v) None ≡ Some u → has_path css p u ≡ true
    by true is at = sym (ap (λ o. option_map_or (has_path css p) o true) at) ∙ is
    by false is at = cc

own_unit_with : (s : Side) (p : ℕ) → option_eq (is_one_unit s.image.css p) (unit_with s p) (unit_with s p) ≡ true
own_unit_with s p = by (unit_with s p) refl
  where
    by : (u : Option UnitRecord) → unit_with s p ≡ u → option_eq (is_one_unit s.image.css p) u u ≡ true
    by None is = refl
    by (Some u) is = own_unit s.image.css p u
        (first_passes (unit_over s p) (has_path s.image.css p)
        (λ number. its_own s.image.css p (unit_record s.records number)) s.device.units u is)

pub own_route : (s : Side) (p : ℕ) → is_one_route s s p ≡ true
own_route s p = both_true (both_true (both_true (own_name s.image.name) (own_device s.device))
    (own_option is_one_path own_path (path_at s p))) (own_unit_with s p)
