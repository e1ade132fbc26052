-- The rules, from the entries of a configuration and of a numbering as lists.
use Rattle.std.proofs.Common.{◌≡◌, ℕ, ◌+◌, ◌==◌, ◌&&◌, ◌||◌, nat_le, nat_lt, Bool, false, not, is_none, length, List}
use Rattle.std.proofs.Common.{[], ◌∷◌, ◌++◌, map, Option, unwrap_or, refl, ap, ◌∙◌}
use Rattle.std.specs.List.{list_any, filter_map}
use Rattle.std.specs.Option.{option_map_or}
use Rattle.std.specs.FinMap.{get, find, entries, get-entries}
use Rattle.iocm_types.specs.declared.css_path.CssPath.{CssPath}
use Rattle.iocm_types.specs.declared.key.Key.TheVariants.{Path, Unit, Limit}
use Rattle.iocm_types.specs.declared.place.Place.{Place}
use Rattle.iocm_types.specs.declared.rule.Rule.{Rule}
use Rattle.iocm_types.specs.declared.rule.Rule.TheVariants.{V1, V2, V3, V4, V5, V6, V7, V8, V9, V10, V11, V12, V13, V14}
use Rattle.iocm_types.specs.declared.unit_range.UnitRange.{UnitRange}
use Rattle.iocm_types.specs.Place.{place_cmp}
use Rattle.iocm_model.specs.Machine.Record.{Rec, ImageRecord, image, path, unit, device, online}
use Rattle.iocm_model.specs.Machine.Configuration.{Configuration, Lookup, lookup_of, records_of, as_image}
use Rattle.iocm_model.specs.Machine.PathList.{paths_in, path_list}
use Rattle.iocm_model.specs.Machine.Sight.{record_lists}
use Rattle.iocm_model.specs.Machine.Numbering.{Numbering, subsystems}
use Rattle.iocm_model.specs.Rules.EachRule.{same_name, stands_before, has_twice, is_image_named, breaks_v3_by_kind}
use Rattle.iocm_model.specs.Rules.EachRule.{is_exclusive, is_online_at, links_in, has_overlap, lacks_address}
use Rattle.iocm_model.specs.Rules.EachRule.{answers_on, limit_or_default, answers_for}
use Rattle.iocm_model.specs.Rules.FirstBreach.{Breach, rules_of, first_breach_of, first_breach}
use Rattle.iocm_examples.proofs.Listed.Views.{Records, Numbers, record_in, lookup_seen}

-- some of these records with a smaller key is so
abbrev pub some_of : List Rec → Rec → (Rec → Bool) → Bool
some_of rs r is_so = list_any (λ other. stands_before other r && is_so other) rs

-- each rule by the look-up, the records, the images and the numbers
abbrev v1_by : List Rec → Rec → Bool
v1_by rs (image i) = some_of rs (image i) (is_image_named i.name)
v1_by rs _ = false

abbrev v2_by : List ImageRecord → Rec → Bool
v2_by images (path p) =
    list_any (λ name. not (list_any (λ (i : ImageRecord). i.css == p.css && same_name name i.name) images))
    (p.access ++ p.candidates)
v2_by images _ = false

abbrev v3_by : Rec → Bool
v3_by (path p) = breaks_v3_by_kind p.kind p.access p.candidates
v3_by _ = false

abbrev pub v4_by : Lookup → List Rec → Rec → Bool
v4_by at rs (online o) = let p = at (Path o.css o.path) in
    not (record_lists o.name p) || (is_exclusive p && some_of rs (online o) (is_online_at o.css o.path))
v4_by at rs _ = false

abbrev v5_by : Lookup → Rec → Bool
v5_by at (unit u) = (length u.paths == 0)
    || list_any (λ css. nat_lt 8 (length (paths_in css u.paths))) subsystems
    || list_any (λ css. has_twice (paths_in css u.paths)) subsystems
    || list_any (λ (p : CssPath). is_none (at (Path p.css p.path))) u.paths
v5_by at _ = false

abbrev v6_by : Rec → Bool
v6_by (unit u) = list_any (λ css. not (length (links_in css u.links) == 0)
    && not (length (links_in css u.links) == length (paths_in css u.paths))) subsystems
v6_by _ = false

abbrev v7_by : Rec → Bool
v7_by (unit u) = list_any (λ (r : UnitRange). nat_lt 256 (r.start + r.count)) u.ranges || has_overlap u.ranges
v7_by _ = false

abbrev v8_by : Lookup → Rec → Bool
v8_by at (device d) = (length d.units == 0) || nat_lt 8 (length d.units) || has_twice d.units
    || list_any (λ number. is_none (at (Unit number))) d.units
v8_by at _ = false

abbrev v9_by : Lookup → Rec → Bool
v9_by at (device d) = list_any (λ number. lacks_address d.unit_address (at (Unit number))) d.units
v9_by at _ = false

abbrev v10_by : List Rec → Rec → Bool
v10_by rs (device d) = some_of rs (device d) (answers_on d.unit_address d.units)
v10_by rs _ = false

abbrev v11_by : Lookup → Rec → Bool
v11_by at (device d) = list_any
    (λ css. let paths = path_list at css d.units in nat_lt 8 (length paths) || has_twice paths) subsystems
v11_by at _ = false

abbrev v12_by : List ImageRecord → Rec → Bool
v12_by images (device d) =
    list_any (λ name. not (list_any (λ (i : ImageRecord). same_name name i.name) images)) (unwrap_or d.candidates [])
v12_by images _ = false

abbrev v13_by : Lookup → (Place → Option ℕ) → Rec → Bool
v13_by at number_at (device d) = list_any (λ css. option_map_or (nat_le (limit_or_default d.set (at (Limit css d.set))))
    (number_at (record { css = css; set = d.set; device = d.number })) false) subsystems
v13_by at number_at _ = false

abbrev v14_by : List Rec → Rec → Bool
v14_by rs (unit u) = some_of rs (unit u) (answers_for u)
v14_by rs _ = false

-- the rules in their order, each with the records that break it
abbrev pub rules_by : Lookup → List Rec → List ImageRecord → (Place → Option ℕ) → List (Rule × (Rec → Bool))
rules_by at rs images number_at =
    (V1, v1_by rs) ∷ (V2, v2_by images) ∷ (V3, v3_by) ∷ (V4, v4_by at rs) ∷ (V5, v5_by at) ∷ (V6, v6_by)
    ∷ (V7, v7_by) ∷ (V8, v8_by at) ∷ (V9, v9_by at) ∷ (V10, v10_by rs) ∷ (V11, v11_by at) ∷ (V12, v12_by images)
    ∷ (V13, v13_by at number_at) ∷ (V14, v14_by rs) ∷ []

-- the rules of a configuration and a numbering are these
pub rules_seen : (c : Configuration) (n : Numbering)
    → rules_of c n ≡ rules_by (lookup_of c) (records_of c) (filter_map as_image (records_of c)) (get n)
rules_seen c n = refl

-- the first breach by the look-up, the numbers and the records
abbrev breach_by : Lookup → (Place → Option ℕ) → List Rec → Option Breach
breach_by at number_at rs = first_breach_of (rules_by at rs (filter_map as_image rs) number_at) rs

-- the first breach
unfoldable pub first_breach_listed : Records → Numbers → Option Breach
first_breach_listed es n = breach_by (record_in es) (λ p. find place_cmp p n) (map (λ e. e.1) es)

-- the first breach of a configuration and a numbering is that of their entries
pub first_breach_seen : (c : Configuration) (n : Numbering)
    → first_breach c n ≡ first_breach_listed (entries c) (entries n)
unfolding first_breach_listed
first_breach_seen c n = ap (λ rules. first_breach_of rules (records_of c)) (rules_seen c n)
    ∙ (λ i. breach_by (lookup_seen c i) (λ p. get-entries n p i) (records_of c))
