-- A unit breaks V14 exactly where on one of its paths a unit before it answers to one of its addresses.
use Rattle.std.proofs.Common.{◌≡◌, true, false, ◌&&◌, ◌==◌, Some, ap, ◌∙◌}
use Rattle.std.proofs.lemmas.Bool.{false≢true}
use Rattle.std.specs.List.{list_any}
use Rattle.std.specs.Ordering.{is_lt}
use Rattle.std.specs.FinMap.{get}
use Rattle.iocm_types.specs.declared.css_path.CssPath.{CssPath}
use Rattle.iocm_types.specs.declared.key.Key.TheVariants as key
use Rattle.iocm_types.specs.declared.named.Named.TheVariants as thing
use Rattle.iocm_types.specs.declared.naming.Naming.{Naming}
use Rattle.iocm_types.specs.Key.{key_cmp}
use Rattle.iocm_types.specs.Naming.{naming_cmp}
use Rattle.iocm_table.specs.Slots.{Stored, rows}
use Rattle.iocm_index.specs.Namings.{users_in}
use Rattle.iocm_index.proofs.Members.{users_name_it}
use Rattle.iocm_model.specs.Machine.Record.{Rec, UnitRecord, id, resource, image, limit, path, unit, device, online}
use Rattle.iocm_model.specs.Machine.Record.{key_of}
use Rattle.iocm_model.specs.Machine.Configuration.{Configuration, IsKeyed, lookup_of}
use Rattle.iocm_model.specs.Rules.EachRule.{stands_before, some_before, answers_for, share_link, cuadd_or_zero}
use Rattle.iocm_lookup.specs.Indexed.{names, IsIndexOf}
use Rattle.iocm_lookup.proofs.Anys.{any_implies, any_weaker}
use Rattle.iocm_lookup.proofs.Members.{same_tests, record_found, user_there}
use Rattle.iocm_unit_rules.specs.Links.{share_link_on}
use Rattle.iocm_unit_rules.specs.Sharing.{clashes, clashes_before, clashes_on}
use Rattle.iocm_unit_rules.proofs.Sharers.{with_middle, first_of, second_of, shared_path, clash_breaks}

module _ (c : Configuration) (t : Stored Naming (Unit {0})) (keyed : IsKeyed c) (of : IsIndexOf c t)
    (u : UnitRecord) where
  -- a unit before it that answers for it, and a path of both with one link
  clash_of : (v : UnitRecord) → get c (key_of (unit v)) ≡ Some (unit v)
      → (stands_before (unit v) (unit u) && answers_for u (unit v)) ≡ true
      → (p : CssPath) → (names (thing.Record (key.Path p.css p.path)) (Some (unit v)) && share_link_on p.css p.path u v)
      ≡ true
      → clashes_on (lookup_of c) (rows naming_cmp t) u p ≡ true
  clash_of v there so p both = user_there c t (thing.Record (key.Path p.css p.path))
      (users_in (thing.Record (key.Path p.css p.path)) (rows naming_cmp t))
      (clashes_before (lookup_of c) u p) of (users_name_it (thing.Record (key.Path p.css p.path)) (rows naming_cmp t))
      (key_of (unit v)) (unit v) there
      (first_of (names (thing.Record (key.Path p.css p.path)) (Some (unit v))) _ both)
      (ap (λ o. is_lt (key_cmp (key.Unit v.number) (key.Unit u.number)) && clashes p u o) there
      ∙ with_middle (stands_before (unit v) (unit u)) (share_link_on p.css p.path u v) (answers_for u (unit v)) so
      (second_of (names (thing.Record (key.Path p.css p.path)) (Some (unit v))) _ both))

  clash_by : (r : Rec) → get c (key_of r) ≡ Some r → (stands_before r (unit u) && answers_for u r) ≡ true
      → list_any (clashes_on (lookup_of c) (rows naming_cmp t) u) u.paths ≡ true
  clash_by (unit v) there so =
      let answers = second_of (stands_before (unit v) (unit u)) _ so in
      let link = first_of (share_link u v) _
      (first_of (share_link u v && (cuadd_or_zero u == cuadd_or_zero v)) _ answers) in
      any_weaker (λ (p : CssPath).
      names (thing.Record (key.Path p.css p.path)) (Some (unit v)) && share_link_on p.css p.path u v)
      (clashes_on (lookup_of c) (rows naming_cmp t) u) (clash_of v there so) u.paths (shared_path u v link)
  clash_by (id x) there so = absurd (false≢true (second_of (stands_before (id x) (unit u)) false so))
  clash_by (resource x) there so = absurd (false≢true (second_of (stands_before (resource x) (unit u)) false so))
  clash_by (image x) there so = absurd (false≢true (second_of (stands_before (image x) (unit u)) false so))
  clash_by (limit x) there so = absurd (false≢true (second_of (stands_before (limit x) (unit u)) false so))
  clash_by (path x) there so = absurd (false≢true (second_of (stands_before (path x) (unit u)) false so))
  clash_by (device x) there so = absurd (false≢true (second_of (stands_before (device x) (unit u)) false so))
  clash_by (online x) there so = absurd (false≢true (second_of (stands_before (online x) (unit u)) false so))

  found : some_before c (unit u) (answers_for u) ≡ true
      → list_any (clashes_on (lookup_of c) (rows naming_cmp t) u) u.paths ≡ true
  found so = let m = record_found c (λ r. stands_before r (unit u) && answers_for u r) keyed so in
      clash_by m.member m.there m.passes

  pub shared_is : list_any (clashes_on (lookup_of c) (rows naming_cmp t) u) u.paths
      ≡ some_before c (unit u) (answers_for u)
  shared_is = same_tests _ _
      (any_implies (clashes_on (lookup_of c) (rows naming_cmp t) u) u.paths (clash_breaks c t keyed of u)) found
