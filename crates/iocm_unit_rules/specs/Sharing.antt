-- Units that are looked for among the users of a path.
use Rattle.std.specs.Prelude.{ℕ, ◌&&◌, Bool, true, false, if◌then◌else◌, Option, None, Some}
use Rattle.std.specs.List.{list_any}
use Rattle.std.specs.Ordering.{is_lt}
use Rattle.iocm_types.specs.declared.css_path.CssPath.{CssPath}
use Rattle.iocm_types.specs.declared.key.Key.{Key}
use Rattle.iocm_types.specs.declared.key.Key.TheVariants as key
use Rattle.iocm_types.specs.declared.named.Named.TheVariants as thing
use Rattle.iocm_types.specs.Key.{key_cmp}
use Rattle.iocm_model.specs.Machine.Record.{Rec, UnitRecord, path, unit}
use Rattle.iocm_model.specs.Machine.Configuration.{Lookup}
use Rattle.iocm_model.specs.Rules.EachRule.{answers_for, cuadd_or_zero}
use Rattle.iocm_index.specs.Namings.{Namings, users_in}
use Rattle.iocm_lookup.specs.Repeats.{repeated_on}
use Rattle.iocm_unit_rules.specs.Links.{share_link_on}

-- a unit has a path with the link of another
abbrev pub is_on_its_link : CssPath → UnitRecord → Rec → Bool
is_on_its_link p u (unit v) = share_link_on p.css p.path u v
is_on_its_link p u _ = false

-- a record that is there answers to an address of a unit, on the link of this path
abbrev pub clashes : CssPath → UnitRecord → Option Rec → Bool
clashes p u (Some r) = is_on_its_link p u r && answers_for u r
clashes p u _ = false

-- and stands before it
abbrev pub clashes_before : Lookup → UnitRecord → CssPath → Key → Bool
clashes_before c u p user = is_lt (key_cmp user (key.Unit u.number)) && clashes p u (c user)

-- what a user of a path says of itself and of those behind it: one that isn't before the unit that
-- none clashes before it, one that clashes that one does, and others nothing
abbrev pub told_by : Lookup → UnitRecord → CssPath → Key → Option Bool
told_by c u p user =
    if is_lt (key_cmp user (key.Unit u.number)) then (if clashes p u (c user) then Some true else None) else Some false

-- on this path there is one that does
abbrev pub clashes_on : Lookup → Namings → UnitRecord → CssPath → Bool
clashes_on c index u p = list_any (clashes_before c u p) (users_in (thing.Record (key.Path p.css p.path)) index)

-- the address of a unit on its paths; absent is 00
abbrev pub cuadd_of : Rec → Option ℕ
cuadd_of (unit u) = Some (cuadd_or_zero u)
cuadd_of _ = None

-- a unit that shares an address with one before it on this path
abbrev pub shares_on : Lookup → Namings → CssPath → Rec → Bool
shares_on c index p (unit u) = clashes_on c index u p
shares_on c index p _ = false

-- of the users of a path the first that has the CUADD of one before it and shares an address
abbrev pub shared_on : Lookup → Namings → CssPath → Option Key
shared_on c index p = repeated_on cuadd_of (shares_on c index p) c index (thing.Record (key.Path p.css p.path))

-- that of a path record
abbrev pub shared_of : Lookup → Namings → Rec → Option Key
shared_of c index (path p) = shared_on c index (record { css = p.css; path = p.number })
shared_of c index _ = None
