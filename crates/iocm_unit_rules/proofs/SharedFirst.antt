-- The least unit that shares, on a path, an address with one before it is the first that breaks the
-- rule.
use Rattle.std.proofs.Common.{◌≡◌, ◌⊎◌, inl, inr, ℕ, Bool, true, false, ◌&&◌, ◌||◌, ◌==◌, nat_eq, nat_lt, length}
use Rattle.std.proofs.Common.{is_none, Option, None, Some, List, refl, sym, ap, subst, ◌∙◌, arith}
use Rattle.std.proofs.lemmas.Bool.{false≢true}
use Rattle.std.proofs.lemmas.Bool.Decides.{nat_tests}
use Rattle.std.specs.List.{list_any}
use Rattle.std.specs.Option.{option_map, option_map_or}
use Rattle.std.specs.Ordering.{is_lt, eq_by_cmp}
use Rattle.std.specs.FinMap.{get}
use Rattle.iocm_types.specs.declared.css_path.CssPath.{CssPath}
use Rattle.iocm_types.specs.declared.key.Key.{Key}
use Rattle.iocm_types.specs.declared.key.Key.TheVariants as key
use Rattle.iocm_types.specs.declared.named.Named.TheVariants as thing
use Rattle.iocm_types.specs.declared.naming.Naming.{Naming}
use Rattle.iocm_types.specs.Key.{key_cmp}
use Rattle.iocm_types.specs.Naming.{naming_cmp}
use Rattle.iocm_table.specs.Slots.{Stored, rows}
use Rattle.iocm_index.specs.Namings.{naming, users_in}
use Rattle.iocm_index.proofs.Members.{users_name_it, users_in_order}
use Rattle.iocm_model.specs.Machine.Record.{Rec, UnitRecord, id, resource, image, limit, path, unit, device, online}
use Rattle.iocm_model.specs.Machine.Record.{key_of}
use Rattle.iocm_model.specs.Machine.Configuration.{Configuration, IsKeyed, lookup_of, records_of}
use Rattle.iocm_model.specs.Machine.Numbering.{subsystems}
use Rattle.iocm_model.specs.Machine.PathList.{paths_in}
use Rattle.iocm_model.specs.Rules.EachRule.{breaks_v5, breaks_v14, stands_before, some_before, answers_for, share_link}
use Rattle.iocm_model.specs.Rules.EachRule.{cuadd_or_zero, has_twice}
use Rattle.iocm_model.specs.Rules.FirstBreach.{first_record}
use Rattle.iocm_model.proofs.Machine.OwnKeys.{keyed_own}
use Rattle.iocm_lookup.specs.Among.{least_of, is_so_at}
use Rattle.iocm_lookup.specs.Indexed.{names, IsIndexOf}
use Rattle.iocm_lookup.specs.Repeats.{address_in}
use Rattle.iocm_lookup.proofs.AtMost.{IsAtMost, least_at_most, least_is_given, IsGiver}
use Rattle.iocm_lookup.proofs.Firsts.{IsSoAt, least_so_is_first, records_are_there, none_is_so}
use Rattle.iocm_lookup.proofs.Members.{record_found, record_there, user_there}
use Rattle.iocm_lookup.proofs.RepeatedUsers.{IsRepeated, less_key, first_is_repeated, repeated_has_first}
use Rattle.iocm_unit_rules.specs.Links.{share_link_on}
use Rattle.iocm_unit_rules.specs.Sharing.{clashes, clashes_before, cuadd_of, shares_on, shared_on, shared_of}
use Rattle.iocm_unit_rules.proofs.Sharers.{with_middle, first_of, second_of, same_number, shared_path, path_found}
use Rattle.iocm_unit_rules.proofs.Sharers.{clash_breaks}

last_fails : (a b c d : Bool) → (a || b || c || d) ≡ false → d ≡ false
last_fails true b c d h = absurd (false≢true (sym h))
last_fails false true c d h = absurd (false≢true (sym h))
last_fails false false true d h = absurd (false≢true (sym h))
last_fails false false false d h = h

equal_numbers : (a b : ℕ) → a ≡ b → nat_eq a b ≡ true
equal_numbers a b h = grind (arith, nat_tests)

-- a path of its numbers
abbrev is_path_record : CssPath → Rec → Bool
is_path_record p (path q) = nat_eq q.css p.css && nat_eq q.number p.path
is_path_record p _ = false

own_path_record : (p : CssPath) (r : Rec) → key_of r ≡ key.Path p.css p.path → is_path_record p r ≡ true
own_path_record p (path q) own =
    let css : q.css ≡ p.css = cc in
    let number : q.number ≡ p.path = cc in
    λ i. equal_numbers q.css p.css css i && equal_numbers q.number p.path number i
own_path_record p (id x) own = cc
own_path_record p (resource x) own = cc
own_path_record p (image x) own = cc
own_path_record p (limit x) own = cc
own_path_record p (unit x) own = cc
own_path_record p (device x) own = cc
own_path_record p (online x) own = cc

module _ (c : Configuration) (t : Stored Naming (Unit {0})) (keyed : IsKeyed c) (of : IsIndexOf c t) where
  -- the users of a path, their addresses, and which share one with a unit before them
  abbrev users : CssPath → List Key
  users p = users_in (thing.Record (key.Path p.css p.path)) (rows naming_cmp t)

  abbrev address : Key → Option ℕ
  address k = address_in cuadd_of (lookup_of c k)

  abbrev wanted : CssPath → Key → Bool
  wanted p k = is_so_at (shares_on (lookup_of c) (rows naming_cmp t) p) (lookup_of c) k

  abbrev no_address : ℕ → Bool
  no_address a = false

  is_user : (p : CssPath) (k : Key) (u : UnitRecord) → get c k ≡ Some (unit u)
      → names (thing.Record (key.Path p.css p.path)) (Some (unit u)) ≡ true
      → list_any (eq_by_cmp key_cmp k) (users p) ≡ true
  is_user p k u here named =
      users_name_it (thing.Record (key.Path p.css p.path)) (rows naming_cmp t) k
      ∙ of (naming k (thing.Record (key.Path p.css p.path)))
      ∙ ap (names (thing.Record (key.Path p.css p.path))) here ∙ named

  -- ---- what is given breaks the rule

  record_breaks : (p : CssPath) (r : Rec) → shares_on (lookup_of c) (rows naming_cmp t) p r ≡ true
      → breaks_v14 c r ≡ true
  record_breaks p (unit u) so = clash_breaks c t keyed of u p so
  record_breaks p (id x) so = absurd (false≢true so)
  record_breaks p (resource x) so = absurd (false≢true so)
  record_breaks p (image x) so = absurd (false≢true so)
  record_breaks p (limit x) so = absurd (false≢true so)
  record_breaks p (path x) so = absurd (false≢true so)
  record_breaks p (device x) so = absurd (false≢true so)
  record_breaks p (online x) so = absurd (false≢true so)

  path_gives : (p : CssPath) (k : Key) → shared_on (lookup_of c) (rows naming_cmp t) p ≡ Some k
      → IsSoAt (breaks_v14 c) (get c) k
  path_gives p k is = by (get c k) refl
      (first_is_repeated address (wanted p) no_address (users p)
      (users_in_order (thing.Record (key.Path p.css p.path)) (rows naming_cmp t)) k is).so
    where
      by : (o : Option Rec) → get c k ≡ o → option_map_or (shares_on (lookup_of c) (rows naming_cmp t) p) o false ≡ true
          → IsSoAt (breaks_v14 c) (get c) k
      by None here so = absurd (false≢true so)
      by (Some r) here so = record { one = r; there = here; so = record_breaks p r so }

  giver_breaks : (r : Rec) (k : Key) → shared_of (lookup_of c) (rows naming_cmp t) r ≡ Some k
      → IsSoAt (breaks_v14 c) (get c) k
  giver_breaks (path p) k is = path_gives (record { css = p.css; path = p.number }) k is
  giver_breaks (id x) k is = cc
  giver_breaks (resource x) k is = cc
  giver_breaks (image x) k is = cc
  giver_breaks (limit x) k is = cc
  giver_breaks (unit x) k is = cc
  giver_breaks (device x) k is = cc
  giver_breaks (online x) k is = cc

  sound : (k : Key) → least_of (shared_of (lookup_of c) (rows naming_cmp t)) None (records_of c) ≡ Some k
      → IsSoAt (breaks_v14 c) (get c) k
  sound k is = by (least_is_given (shared_of (lookup_of c) (rows naming_cmp t)) (λ r. get c (key_of r) ≡ Some r)
      (records_of c) (records_are_there c keyed) None k is)
    where
      by : (None ≡ Some k) ⊎ IsGiver (shared_of (lookup_of c) (rows naming_cmp t)) (λ r. get c (key_of r) ≡ Some r) k
          → IsSoAt (breaks_v14 c) (get c) k
      by (inl h) = cc
      by (inr g) = giver_breaks g.giver k g.given

  -- ---- what breaks the rule is given on a path

  -- a unit before another that answers to one of its addresses, and a path that is there, which both
  -- name with the same link
  record IsSharer (u : UnitRecord) : Type 0 where
    other : UnitRecord
    there : get c (key_of (unit other)) ≡ Some (unit other)
    so : (stands_before (unit other) (unit u) && answers_for u (unit other)) ≡ true
    on : CssPath
    in_own : names (thing.Record (key.Path on.css on.path)) (Some (unit u)) ≡ true
    in_other : names (thing.Record (key.Path on.css on.path)) (Some (unit other)) ≡ true
    alike : share_link_on on.css on.path u other ≡ true
    is_there : is_none (lookup_of c (key.Path on.css on.path)) ≡ false

  abbrev is_missing : CssPath → Bool
  is_missing p = is_none (lookup_of c (key.Path p.css p.path))

  sharer_by : (u : UnitRecord) → list_any is_missing u.paths ≡ false → (r : Rec) → get c (key_of r) ≡ Some r
      → (stands_before r (unit u) && answers_for u r) ≡ true → IsSharer u
  sharer_by u present (unit v) there so =
      let answers = second_of (stands_before (unit v) (unit u)) _ so in
      let link = first_of (share_link u v) _
      (first_of (share_link u v && (cuadd_or_zero u == cuadd_or_zero v)) _ answers) in
      let p = path_found (λ (q : CssPath).
      names (thing.Record (key.Path q.css q.path)) (Some (unit v)) && share_link_on q.css q.path u v) is_missing
      u.paths (shared_path u v link) present in
      record {
        other = v;
        there = there;
        so = so;
        on = p.path;
        in_own = p.named;
        in_other = first_of _ _ p.passes;
        alike = second_of (names (thing.Record (key.Path p.path.css p.path.path)) (Some (unit v))) _ p.passes;
        is_there = p.passes_not;
      }
  sharer_by u present (id x) there so = absurd (false≢true (second_of (stands_before (id x) (unit u)) false so))
  sharer_by u present (resource x) there so =
      absurd (false≢true (second_of (stands_before (resource x) (unit u)) false so))
  sharer_by u present (image x) there so = absurd (false≢true (second_of (stands_before (image x) (unit u)) false so))
  sharer_by u present (limit x) there so = absurd (false≢true (second_of (stands_before (limit x) (unit u)) false so))
  sharer_by u present (path x) there so = absurd (false≢true (second_of (stands_before (path x) (unit u)) false so))
  sharer_by u present (device x) there so = absurd (false≢true (second_of (stands_before (device x) (unit u)) false so))
  sharer_by u present (online x) there so = absurd (false≢true (second_of (stands_before (online x) (unit u)) false so))

  sharer_repeats : (k : Key) (u : UnitRecord) → get c k ≡ Some (unit u) → (s : IsSharer u)
      → IsRepeated address (wanted s.on) no_address (users s.on) k
  sharer_repeats k u here s =
      let v = s.other in
      let answers = second_of (stands_before (unit v) (unit u)) _ s.so in
      let same = second_of (share_link u v) _
      (first_of (share_link u v && (cuadd_or_zero u == cuadd_or_zero v)) _ answers) in
      record {
        there = is_user s.on k u here s.in_own;
        so = ap (λ o. option_map_or (shares_on (lookup_of c) (rows naming_cmp t) s.on) o false) here
            ∙ user_there c t (thing.Record (key.Path s.on.css s.on.path)) (users s.on)
            (clashes_before (lookup_of c) u s.on) of
            (users_name_it (thing.Record (key.Path s.on.css s.on.path)) (rows naming_cmp t)) (key_of (unit v)) (unit v)
            s.there s.in_other
            (ap (λ o. is_lt (key_cmp (key.Unit v.number) (key.Unit u.number)) && clashes s.on u o) s.there
            ∙ with_middle (stands_before (unit v) (unit u)) (share_link_on s.on.css s.on.path u v)
            (answers_for u (unit v)) s.so s.alike);
        at = cuadd_or_zero u;
        has = ap (address_in cuadd_of) here;
        before = inr (record {
          other = key_of (unit v);
          there = is_user s.on (key_of (unit v)) v s.there s.in_other;
          has = ap (address_in cuadd_of) s.there ∙ ap Some (sym (same_number (cuadd_or_zero u) (cuadd_or_zero v) same));
          less = less_key (key_cmp (key_of (unit v)) k)
              (ap (λ (q : Key). is_lt (key_cmp (key_of (unit v)) q)) (sym (keyed_own c keyed k (unit u) here))
              ∙ first_of (stands_before (unit v) (unit u)) _ s.so);
        });
      }

  -- so what its path gives is not behind it
  path_at_most : (k : Key) (u : UnitRecord) → get c k ≡ Some (unit u) → (s : IsSharer u)
      → IsAtMost (shared_on (lookup_of c) (rows naming_cmp t) s.on) k
  path_at_most k u here s =
      let f = repeated_has_first address (wanted s.on) no_address (users s.on)
      (users_in_order (thing.Record (key.Path s.on.css s.on.path)) (rows naming_cmp t)) k (sharer_repeats k u here s) in
      record { found = f.found; is = f.is; not_behind = f.not_behind }

  given : (k : Key) (p : CssPath) → IsAtMost (shared_on (lookup_of c) (rows naming_cmp t) p) k → (r : Rec)
      → is_path_record p r ≡ true
      → IsAtMost (shared_of (lookup_of c) (rows naming_cmp t) r) k
  given k p most (path q) same =
      let css = same_number q.css p.css (first_of (nat_eq q.css p.css) _ same) in
      let number = same_number q.number p.path (second_of (nat_eq q.css p.css) _ same) in
      subst (λ (o : Option Key). IsAtMost o k)
      (λ i. shared_on (lookup_of c) (rows naming_cmp t) (record { css = sym css i; path = sym number i })) most
  given k p most (id x) same = absurd (false≢true same)
  given k p most (resource x) same = absurd (false≢true same)
  given k p most (image x) same = absurd (false≢true same)
  given k p most (limit x) same = absurd (false≢true same)
  given k p most (unit x) same = absurd (false≢true same)
  given k p most (device x) same = absurd (false≢true same)
  given k p most (online x) same = absurd (false≢true same)

  path_there : (p : CssPath) (o : Option Rec) → get c (key.Path p.css p.path) ≡ o → is_none o ≡ false
      → list_any (is_path_record p) (records_of c) ≡ true
  path_there p None here there = absurd (false≢true (sym there))
  path_there p (Some r) here there =
      record_there c (is_path_record p) (key.Path p.css p.path) r here
      (own_path_record p r (keyed_own c keyed (key.Path p.css p.path) r here))

  module _ (kept : first_record (breaks_v5 c) (records_of c) ≡ None) where
    unit_at : (k : Key) (u : UnitRecord) → get c k ≡ Some (unit u) → some_before c (unit u) (answers_for u) ≡ true
        → IsAtMost (least_of (shared_of (lookup_of c) (rows naming_cmp t)) None (records_of c)) k
    unit_at k u here so =
        let present = last_fails (length u.paths == 0)
        (list_any (λ css. nat_lt 8 (length (paths_in css u.paths))) subsystems)
        (list_any (λ css. has_twice (paths_in css u.paths)) subsystems) (list_any is_missing u.paths)
        (none_is_so (breaks_v5 c) c kept k (unit u) here) in
        let m = record_found c (λ r. stands_before r (unit u) && answers_for u r) keyed so in
        let s = sharer_by u present m.member m.there m.passes in
        least_at_most (shared_of (lookup_of c) (rows naming_cmp t)) (is_path_record s.on) k
        (given k s.on (path_at_most k u here s)) (records_of c) None
        (path_there s.on (get c (key.Path s.on.css s.on.path)) refl s.is_there)

    least_at : (k : Key) (r : Rec) → get c k ≡ Some r → breaks_v14 c r ≡ true
        → IsAtMost (least_of (shared_of (lookup_of c) (rows naming_cmp t)) None (records_of c)) k
    least_at k (unit u) here so = unit_at k u here so
    least_at k (id x) here so = absurd (false≢true so)
    least_at k (resource x) here so = absurd (false≢true so)
    least_at k (image x) here so = absurd (false≢true so)
    least_at k (limit x) here so = absurd (false≢true so)
    least_at k (path x) here so = absurd (false≢true so)
    least_at k (device x) here so = absurd (false≢true so)
    least_at k (online x) here so = absurd (false≢true so)

    -- the least that a path gives is the first unit that breaks the rule
    pub least_is_first : least_of (shared_of (lookup_of c) (rows naming_cmp t)) None (records_of c)
        ≡ option_map key_of (first_record (breaks_v14 c) (records_of c))
    least_is_first = least_so_is_first (breaks_v14 c) c keyed
        (least_of (shared_of (lookup_of c) (rows naming_cmp t)) None (records_of c)) sound least_at
