-- The fourteen rules that a configuration in use keeps, each as the records that break it. The
-- limits of eight in V5 and V8 are IOCP's; the rules in this form are own.
use Rattle.std.specs.Prelude.{ℕ, ◌+◌, ◌==◌, ◌&&◌, ◌||◌, nat_eq, nat_le, nat_lt, Bool}
use Rattle.std.specs.Prelude.{true, false, not, is_none, length, if◌then◌else◌, Option}
use Rattle.std.specs.Prelude.{Some, List, [], ◌∷◌, ◌++◌, map, filter, unwrap_or}
use Rattle.std.specs.List.{list_any}
use Rattle.std.specs.Option.{option_map_or}
use Rattle.std.specs.Ordering.{is_lt}
use Rattle.std.specs.Cmp.Lexicographic.{pointwise}
use Rattle.std.specs.FinMap.{get}
use Rattle.iocm_types.specs.declared.css_path.CssPath.{CssPath}
use Rattle.iocm_types.specs.declared.link.Link.{Link}
use Rattle.iocm_types.specs.declared.link.CssLink.{CssLink}
use Rattle.iocm_types.specs.declared.unit_range.UnitRange.{UnitRange}
use Rattle.iocm_types.specs.declared.path_kind.PathKind.{PathKind}
use Rattle.iocm_types.specs.declared.path_kind.PathKind.TheVariants.{Dedicated, Shared, Reconfigurable}
use Rattle.iocm_types.specs.declared.key.Key.TheVariants.{Path, Unit, Limit}
use Rattle.iocm_types.specs.Key.{key_cmp}
use Rattle.iocm_types.specs.declared.link.Link.TheVariants as link
use Rattle.iocm_model.specs.Machine.Record.{Rec, ImageRecord, UnitRecord, image, limit}
use Rattle.iocm_model.specs.Machine.Record.{path, unit, device, online, key_of}
use Rattle.iocm_model.specs.Machine.Configuration.{Configuration, lookup_of, records_of, images_of}
use Rattle.iocm_model.specs.Machine.PathList.{paths_in, path_list}
use Rattle.iocm_model.specs.Machine.Sight.{record_lists}
use Rattle.iocm_model.specs.Machine.Numbering.{Numbering, subsystems}

abbrev pub same_name : List ℕ → List ℕ → Bool
same_name = pointwise nat_eq

-- a record with a smaller key
abbrev pub stands_before : Rec → Rec → Bool
stands_before a b = is_lt (key_cmp (key_of a) (key_of b))

-- some record of the configuration with a smaller key is so
abbrev pub some_before : Configuration → Rec → (Rec → Bool) → Bool
some_before c r is_so = list_any (λ other. stands_before other r && is_so other) (records_of c)

-- a number stands twice in a list
abbrev pub has_twice : List ℕ → Bool
has_twice [] = false
has_twice (x ∷ xs) = list_any (nat_eq x) xs || has_twice xs

-- an image of this name
abbrev pub is_image_named : List ℕ → Rec → Bool
is_image_named name (image i) = same_name name i.name
is_image_named name _ = false

-- V1: an image whose name an image with a smaller key has
abbrev pub breaks_v1 : Configuration → Rec → Bool
breaks_v1 c (image i) = some_before c (image i) (is_image_named i.name)
breaks_v1 c _ = false

-- the name is that of an image of the channel subsystem; of some channel subsystem
abbrev pub is_image_in : Configuration → ℕ → List ℕ → Bool
is_image_in c css name = list_any (λ (i : ImageRecord). i.css == css && same_name name i.name) (images_of c)

abbrev pub is_image : Configuration → List ℕ → Bool
is_image c name = list_any (λ (i : ImageRecord). same_name name i.name) (images_of c)

-- V2: a name in the access or candidate list is that of no image of the path's channel subsystem
abbrev pub breaks_v2 : Configuration → Rec → Bool
breaks_v2 c (path p) = list_any (λ name. not (is_image_in c p.css name)) (p.access ++ p.candidates)
breaks_v2 c _ = false

-- two names in a list differ
abbrev pub has_two_names : List (List ℕ) → Bool
has_two_names names = list_any (λ a. list_any (λ b. not (same_name a b)) names) names

-- V3: more than one name reaches a dedicated path, or stands in the access list of a REC path
abbrev pub breaks_v3_by_kind : PathKind → List (List ℕ) → List (List ℕ) → Bool
breaks_v3_by_kind Dedicated access candidates = has_two_names (access ++ candidates)
breaks_v3_by_kind Reconfigurable access candidates = has_two_names access
breaks_v3_by_kind Shared access candidates = false

abbrev pub breaks_v3 : Configuration → Rec → Bool
breaks_v3 c (path p) = breaks_v3_by_kind p.kind p.access p.candidates
breaks_v3 c _ = false

-- a path that one image uses at a time
abbrev pub is_exclusive_kind : PathKind → Bool
is_exclusive_kind Dedicated = true
is_exclusive_kind Reconfigurable = true
is_exclusive_kind Shared = false

abbrev pub is_exclusive : Option Rec → Bool
is_exclusive (Some (path p)) = is_exclusive_kind p.kind
is_exclusive _ = false

-- an online record of this path
abbrev pub is_online_at : ℕ → ℕ → Rec → Bool
is_online_at css number (online o) = o.css == css && o.path == number
is_online_at css number _ = false

-- V4: the path isn't there or doesn't list the name, or one image uses it at a time and an online
-- record with a smaller key has the same path
abbrev pub breaks_v4 : Configuration → Rec → Bool
breaks_v4 c (online o) = let p = lookup_of c (Path o.css o.path) in
    not (record_lists o.name p) || (is_exclusive p && some_before c (online o) (is_online_at o.css o.path))
breaks_v4 c _ = false

-- V5: no path; over eight in one channel subsystem; one twice; one that isn't there
abbrev pub breaks_v5 : Configuration → Rec → Bool
breaks_v5 c (unit u) = (length u.paths == 0)
    || list_any (λ css. nat_lt 8 (length (paths_in css u.paths))) subsystems
    || list_any (λ css. has_twice (paths_in css u.paths)) subsystems
    || list_any (λ (p : CssPath). is_none (lookup_of c (Path p.css p.path))) u.paths
breaks_v5 c _ = false

-- the links of a channel subsystem, in the order of its paths
abbrev pub links_in : ℕ → List CssLink → List Link
links_in css links = map (λ (l : CssLink). l.link) (filter (λ (l : CssLink). l.css == css) links)

-- V6: in a channel subsystem with links, their number differs from the number of paths
abbrev pub breaks_v6 : Configuration → Rec → Bool
breaks_v6 c (unit u) = list_any (λ css. not (length (links_in css u.links) == 0)
    && not (length (links_in css u.links) == length (paths_in css u.paths))) subsystems
breaks_v6 c _ = false

-- two ranges of unit addresses have one in common
abbrev pub overlap : UnitRange → UnitRange → Bool
overlap a b = nat_lt a.start (b.start + b.count) && nat_lt b.start (a.start + a.count)

-- two ranges of a list overlap
abbrev pub has_overlap : List UnitRange → Bool
has_overlap [] = false
has_overlap (r ∷ rs) = list_any (overlap r) rs || has_overlap rs

-- V7: a range passes FF, or two ranges overlap
abbrev pub breaks_v7 : Configuration → Rec → Bool
breaks_v7 c (unit u) = list_any (λ (r : UnitRange). nat_lt 256 (r.start + r.count)) u.ranges || has_overlap u.ranges
breaks_v7 c _ = false

-- V8: no unit; over eight; one twice; one that isn't there
abbrev pub breaks_v8 : Configuration → Rec → Bool
breaks_v8 c (device d) = (length d.units == 0) || nat_lt 8 (length d.units) || has_twice d.units
    || list_any (λ number. is_none (lookup_of c (Unit number))) d.units
breaks_v8 c _ = false

-- a range has the unit address
abbrev pub holds : ℕ → UnitRange → Bool
holds address r = nat_le r.start address && nat_lt address (r.start + r.count)

-- a unit that is there has no range with the unit address
abbrev pub lacks_address : ℕ → Option Rec → Bool
lacks_address address (Some (unit u)) = not (list_any (holds address) u.ranges)
lacks_address address _ = false

-- V9: a unit's ranges don't hold the unit address
abbrev pub breaks_v9 : Configuration → Rec → Bool
breaks_v9 c (device d) = list_any (λ number. lacks_address d.unit_address (lookup_of c (Unit number))) d.units
breaks_v9 c _ = false

-- a device with this unit address on one of these units
abbrev pub answers_on : ℕ → List ℕ → Rec → Bool
answers_on address units (device d) =
    (d.unit_address == address) && list_any (λ number. list_any (nat_eq number) units) d.units
answers_on address units _ = false

-- V10: a device with a smaller key has the same unit address and a common unit
abbrev pub breaks_v10 : Configuration → Rec → Bool
breaks_v10 c (device d) = some_before c (device d) (answers_on d.unit_address d.units)
breaks_v10 c _ = false

-- V11: in some channel subsystem the path list is over eight or has a path twice
abbrev pub breaks_v11 : Configuration → Rec → Bool
breaks_v11 c (device d) =
    list_any
    (λ css. let paths = path_list (lookup_of c) css d.units in nat_lt 8 (length paths) || has_twice paths)
    subsystems
breaks_v11 c _ = false

-- V12: a candidate is no image of any channel subsystem
abbrev pub breaks_v12 : Configuration → Rec → Bool
breaks_v12 c (device d) = list_any (λ name. not (is_image c name)) (unwrap_or d.candidates [])
breaks_v12 c _ = false

-- below which number a set's subchannels stay where no limit is given
abbrev pub default_limit : ℕ → ℕ
default_limit set = if set == 0 then 65280 else 65535

abbrev pub limit_or_default : ℕ → Option Rec → ℕ
limit_or_default set (Some (limit l)) = l.limit
limit_or_default set _ = default_limit set

-- V13: in some channel subsystem the number is at or above the limit
abbrev pub breaks_v13 : Configuration → Numbering → Rec → Bool
breaks_v13 c n (device d) = list_any
    (λ css. option_map_or (nat_le (limit_or_default d.set (lookup_of c (Limit css d.set))))
    (get n (record { css = css; set = d.set; device = d.number })) false)
    subsystems
breaks_v13 c n _ = false

-- one link: none equals none, and two digits and four digits are two links
abbrev pub same_link : Link → Link → Bool
same_link link.None link.None = true
same_link (link.Short a) (link.Short b) = a == b
same_link (link.Long a) (link.Long b) = a == b
same_link _ _ = false

-- the links of paths in their order; paths without links have none
abbrev pub with_links : List ℕ → List Link → List (ℕ × Link)
with_links [] links = []
with_links (p ∷ ps) [] = (p, link.None) ∷ with_links ps []
with_links (p ∷ ps) (l ∷ ls) = (p, l) ∷ with_links ps ls

-- the paths of a unit in a channel subsystem, with their links
abbrev pub linked_paths : ℕ → UnitRecord → List (ℕ × Link)
linked_paths css u = with_links (paths_in css u.paths) (links_in css u.links)

-- two units share a path on which both have the same link
abbrev pub share_link : UnitRecord → UnitRecord → Bool
share_link a b = list_any
    (λ css. list_any
    (λ (p : ℕ × Link). list_any (λ (q : ℕ × Link). (p.0 == q.0) && same_link p.1 q.1)
    (linked_paths css b))
    (linked_paths css a)) subsystems

-- the address of a unit; absent is 00
abbrev pub cuadd_or_zero : UnitRecord → ℕ
cuadd_or_zero u = unwrap_or u.cuadd 0

-- a unit that answers to an address of this one
abbrev pub answers_for : UnitRecord → Rec → Bool
answers_for u (unit other) = share_link u other && (cuadd_or_zero u == cuadd_or_zero other)
    && list_any (λ r. list_any (overlap r) other.ranges) u.ranges
answers_for u _ = false

-- V14: a unit with a smaller key shares a path on which both have the same link, has the same
-- CUADD, and a range overlaps
abbrev pub breaks_v14 : Configuration → Rec → Bool
breaks_v14 c (unit u) = some_before c (unit u) (answers_for u)
breaks_v14 c _ = false
