-- Where since the rules held only devices and online records at some keys were changed, no other
-- rule than V4 and V8 to V13 can be broken, and these only by those records, or by others that
-- clash with them.
use Rattle.std.proofs.Common.{◌≡◌, ℕ, Bool, true, false, not, ◌&&◌, ◌||◌, ◌==◌, eq-eqb, nat_le, nat_lt, length, is_none}
use Rattle.std.proofs.Common.{unwrap_or, Option, None, Some, List, [], ◌∷◌, ◌++◌, refl, sym, ap, ◌∙◌}
use Rattle.std.proofs.lemmas.Bool.{false≢true, or_right}
use Rattle.std.specs.List.{list_any, flat_map}
use Rattle.std.specs.Option.{option_map, option_map_or}
use Rattle.std.specs.FinMap.{get}
use Rattle.iocm_types.specs.declared.css_path.CssPath.{CssPath}
use Rattle.iocm_types.specs.declared.key.Key.{Key}
use Rattle.iocm_types.specs.declared.key.Key.TheVariants as key
use Rattle.iocm_types.specs.declared.rule.Rule.TheVariants.{V1, V2, V3, V4, V5, V6, V7, V8, V9, V10, V11, V12, V13, V14}
use Rattle.iocm_model.specs.Machine.Record.{Rec, DeviceRecord, OnlineRecord, id, resource, image, limit, path, unit}
use Rattle.iocm_model.specs.Machine.Record.{device, online, key_of}
use Rattle.iocm_model.specs.Machine.Configuration.{Configuration, IsKeyed, records_of}
use Rattle.iocm_model.specs.Machine.Numbering.{Numbering, subsystems}
use Rattle.iocm_model.specs.Machine.PathList.{paths_in, unit_record_paths}
use Rattle.iocm_model.specs.Machine.Sight.{record_lists}
use Rattle.iocm_model.specs.Rules.EachRule.{breaks_v1, breaks_v2, breaks_v3, breaks_v4, breaks_v5, breaks_v6, breaks_v7}
use Rattle.iocm_model.specs.Rules.EachRule.{breaks_v8, breaks_v9, breaks_v10, breaks_v11, breaks_v12, breaks_v13}
use Rattle.iocm_model.specs.Rules.EachRule.{breaks_v14, stands_before, some_before, has_twice, is_image_named}
use Rattle.iocm_model.specs.Rules.EachRule.{is_image_in, is_image, is_exclusive, is_online_at, lacks_address}
use Rattle.iocm_model.specs.Rules.EachRule.{limit_or_default, answers_on, answers_for}
use Rattle.iocm_model.specs.Rules.FirstBreach.{first_record, first_breach, rules_of}
use Rattle.iocm_model.specs.Laws.Breaches.{AreKept}
use Rattle.iocm_model.proofs.Machine.OwnKeys.{keyed_own}
use Rattle.iocm_model.proofs.Rules.FirstBreach.{silent}
use Rattle.iocm_lookup.specs.Images.{is_named_in}
use Rattle.iocm_lookup.proofs.Members.{same_tests, record_found, record_there, key_there}
use Rattle.iocm_lookup.proofs.NamedImages.{image_of_name, image_in_subsystem}
use Rattle.iocm_lookup.specs.Among.{is_one_of, IsOnlyAt}
use Rattle.iocm_lookup.proofs.Firsts.{least_so_is_first}
use Rattle.iocm_device_rules.specs.Among.{AreClashesAt}
use Rattle.iocm_rules.specs.Found.{first_found}
use Rattle.iocm_rules.specs.Near.{is_near_key, KeptBut}
use Rattle.iocm_rules.specs.Onlines.{is_key_at_path, AreOnPathsOf}
use Rattle.iocm_rules.proofs.FirstBreaches.{found_is}

second : (a b : Bool) → (a && b) ≡ true → b ≡ true
second true b h = h
second false b h = cc

-- a record before another that is so is no device and no online record, where none of these is
far_before : (own : Rec) (is_so : Rec → Bool) → ((d : DeviceRecord) → is_so (device d) ≡ false)
    → ((o : OnlineRecord) → is_so (online o) ≡ false)
    → (r : Rec) → (stands_before r own && is_so r) ≡ true → is_near_key (key_of r) ≡ false
far_before own is_so no_device no_online (device d) h =
    absurd (false≢true (sym (no_device d) ∙ second (stands_before (device d) own) _ h))
far_before own is_so no_device no_online (online o) h =
    absurd (false≢true (sym (no_online o) ∙ second (stands_before (online o) own) _ h))
far_before own is_so no_device no_online r h = refl

-- nor is one that is so
far_kind : (is_so : Rec → Bool) → ((d : DeviceRecord) → is_so (device d) ≡ false)
    → ((o : OnlineRecord) → is_so (online o) ≡ false)
    → (r : Rec) → is_so r ≡ true → is_near_key (key_of r) ≡ false
far_kind is_so no_device no_online (device d) h = absurd (false≢true (sym (no_device d) ∙ h))
far_kind is_so no_device no_online (online o) h = absurd (false≢true (sym (no_online o) ∙ h))
far_kind is_so no_device no_online r h = refl

module _ (keys : List Key) (c : Configuration) (n : Numbering) (keyed : IsKeyed c) (w : KeptBut keys c n) where
  -- ---- what stayed

  off_keys : (k : Key) → is_near_key k ≡ false → is_one_of k keys ≡ false
  off_keys k far = by (is_one_of k keys) refl
    where
      by : (b : Bool) → is_one_of k keys ≡ b → is_one_of k keys ≡ false
      by true there = absurd (false≢true (sym far ∙ w.near k there))
      by false off = off

  -- a record that is neither device nor online is as it was
  same_at : (k : Key) → is_near_key k ≡ false → get c k ≡ get w.before k
  same_at k far = w.elsewhere k (off_keys k far)

  same_any : (test : Rec → Bool) → ((r : Rec) → test r ≡ true → is_near_key (key_of r) ≡ false)
      → list_any test (records_of c) ≡ list_any test (records_of w.before)
  same_any test far = same_tests _ _
      (λ any. let m = record_found c test keyed any in
      record_there w.before test (key_of m.member) m.member
      (sym (same_at (key_of m.member) (far m.member m.passes)) ∙ m.there) m.passes)
      (λ any. let m = record_found w.before test w.keyed_before any in
      record_there c test (key_of m.member) m.member (same_at (key_of m.member) (far m.member m.passes) ∙ m.there)
      m.passes)

  same_image_in : (css : ℕ) (name : List ℕ) → is_image_in c css name ≡ is_image_in w.before css name
  same_image_in css name =
      sym (image_in_subsystem css name (records_of c))
      ∙ same_any (is_named_in css name) (far_kind (is_named_in css name) (λ _. refl) (λ _. refl))
      ∙ image_in_subsystem css name (records_of w.before)

  same_image : (name : List ℕ) → is_image c name ≡ is_image w.before name
  same_image name = sym (image_of_name name (records_of c))
      ∙ same_any (is_image_named name) (far_kind (is_image_named name) (λ _. refl) (λ _. refl))
      ∙ image_of_name name (records_of w.before)

  -- ---- a record that breaks a rule broke it before

  held : AreKept (rules_of w.before w.numbers_before) (records_of w.before)
  held = silent (rules_of w.before w.numbers_before) (records_of w.before) w.held

  -- one that was there and broke a rule that was kept
  not_before : (was_so : Rec → Bool) → list_any was_so (records_of w.before) ≡ false → (k : Key) (r : Rec)
      → get w.before k ≡ Some r → was_so r ≡ true → ⊥
  not_before was_so none k r there so = false≢true (sym none ∙ record_there w.before was_so k r there so)

  none_new : (is_so was_so : Rec → Bool) → list_any was_so (records_of w.before) ≡ false
      → ((d : DeviceRecord) → is_so (device d) ≡ false)
      → ((o : OnlineRecord) → is_so (online o) ≡ false) → ((r : Rec) → is_so r ≡ true → was_so r ≡ true)
      → option_map key_of (first_record is_so (records_of c)) ≡ None
  none_new is_so was_so none no_device no_online before = sym (least_so_is_first is_so c keyed None (λ k is. cc)
      (λ k r here so. absurd (not_before was_so none k r
      (sym (same_at k (ap is_near_key (sym (keyed_own c keyed k r here)) ∙ far_kind is_so no_device no_online r so))
      ∙ here) (before r so))))

  only_at : (is_so was_so : Rec → Bool) → list_any was_so (records_of w.before) ≡ false
      → ((r : Rec) → is_one_of (key_of r) keys ≡ false → is_so r ≡ true → was_so r ≡ true) → IsOnlyAt keys c is_so
  only_at is_so was_so none before k r here so = by (is_one_of k keys) refl
    where
      by : (b : Bool) → is_one_of k keys ≡ b → is_one_of k keys ≡ true
      by true there = there
      by false off = absurd (not_before was_so none k r (sym (w.elsewhere k off) ∙ here)
          (before r (ap (λ q. is_one_of q keys) (keyed_own c keyed k r here) ∙ off) so))

  -- ---- the rules that are kept

  was_v1 : (r : Rec) → breaks_v1 c r ≡ true → breaks_v1 w.before r ≡ true
  was_v1 (image i) so = sym (same_any (λ other. stands_before other (image i) && is_image_named i.name other)
      (far_before (image i) (is_image_named i.name) (λ _. refl) (λ _. refl))) ∙ so
  was_v1 r so = so

  was_v2 : (r : Rec) → breaks_v2 c r ≡ true → breaks_v2 w.before r ≡ true
  was_v2 (path p) so = sym (λ i. list_any (λ name. not (same_image_in p.css name i)) (p.access ++ p.candidates)) ∙ so
  was_v2 r so = so

  was_v3 : (r : Rec) → breaks_v3 c r ≡ true → breaks_v3 w.before r ≡ true
  was_v3 (path p) so = so
  was_v3 r so = so

  was_v5 : (r : Rec) → breaks_v5 c r ≡ true → breaks_v5 w.before r ≡ true
  was_v5 (unit u) so = sym
      (λ i. (length u.paths == 0) || list_any (λ css. nat_lt 8 (length (paths_in css u.paths))) subsystems
      || list_any (λ css. has_twice (paths_in css u.paths)) subsystems
      || list_any (λ (p : CssPath). is_none (same_at (key.Path p.css p.path) refl i)) u.paths) ∙ so
  was_v5 r so = so

  was_v6 : (r : Rec) → breaks_v6 c r ≡ true → breaks_v6 w.before r ≡ true
  was_v6 (unit u) so = so
  was_v6 r so = so

  was_v7 : (r : Rec) → breaks_v7 c r ≡ true → breaks_v7 w.before r ≡ true
  was_v7 (unit u) so = so
  was_v7 r so = so

  was_v14 : (r : Rec) → breaks_v14 c r ≡ true → breaks_v14 w.before r ≡ true
  was_v14 (unit u) so = sym (same_any (λ other. stands_before other (unit u) && answers_for u other)
      (far_before (unit u) (answers_for u) (λ _. refl) (λ _. refl))) ∙ so
  was_v14 r so = so

  v1_kept : option_map key_of (first_record (breaks_v1 c) (records_of c)) ≡ None
  v1_kept = none_new (breaks_v1 c) (breaks_v1 w.before) held.0 (λ _. refl) (λ _. refl) was_v1

  v2_kept : option_map key_of (first_record (breaks_v2 c) (records_of c)) ≡ None
  v2_kept = none_new (breaks_v2 c) (breaks_v2 w.before) held.1.0 (λ _. refl) (λ _. refl) was_v2

  v3_kept : option_map key_of (first_record (breaks_v3 c) (records_of c)) ≡ None
  v3_kept = none_new (breaks_v3 c) (breaks_v3 w.before) held.1.1.0 (λ _. refl) (λ _. refl) was_v3

  v5_kept : option_map key_of (first_record (breaks_v5 c) (records_of c)) ≡ None
  v5_kept = none_new (breaks_v5 c) (breaks_v5 w.before) held.1.1.1.1.0 (λ _. refl) (λ _. refl) was_v5

  v6_kept : option_map key_of (first_record (breaks_v6 c) (records_of c)) ≡ None
  v6_kept = none_new (breaks_v6 c) (breaks_v6 w.before) held.1.1.1.1.1.0 (λ _. refl) (λ _. refl) was_v6

  v7_kept : option_map key_of (first_record (breaks_v7 c) (records_of c)) ≡ None
  v7_kept = none_new (breaks_v7 c) (breaks_v7 w.before) held.1.1.1.1.1.1.0 (λ _. refl) (λ _. refl) was_v7

  v14_kept : option_map key_of (first_record (breaks_v14 c) (records_of c)) ≡ None
  v14_kept = none_new (breaks_v14 c) (breaks_v14 w.before) held.1.1.1.1.1.1.1.1.1.1.1.1.1.0 (λ _. refl) (λ _. refl)
      was_v14

  -- ---- the rules of single devices

  was_v8 : (r : Rec) → is_one_of (key_of r) keys ≡ false → breaks_v8 c r ≡ true → breaks_v8 w.before r ≡ true
  was_v8 (device d) off so = sym (λ i. (length d.units == 0) || nat_lt 8 (length d.units) || has_twice d.units
      || list_any (λ number. is_none (same_at (key.Unit number) refl i)) d.units) ∙ so
  was_v8 r off so = so

  was_v9 : (r : Rec) → is_one_of (key_of r) keys ≡ false → breaks_v9 c r ≡ true → breaks_v9 w.before r ≡ true
  was_v9 (device d) off so =
      sym (λ i. list_any (λ number. lacks_address d.unit_address (same_at (key.Unit number) refl i)) d.units) ∙ so
  was_v9 r off so = so

  was_v11 : (r : Rec) → is_one_of (key_of r) keys ≡ false → breaks_v11 c r ≡ true → breaks_v11 w.before r ≡ true
  was_v11 (device d) off so =
      sym (λ i. list_any (λ css.
      nat_lt 8 (length (flat_map (λ number. unit_record_paths css (same_at (key.Unit number) refl i)) d.units))
      || has_twice (flat_map (λ number. unit_record_paths css (same_at (key.Unit number) refl i)) d.units)) subsystems)
      ∙ so
  was_v11 r off so = so

  was_v12 : (r : Rec) → is_one_of (key_of r) keys ≡ false → breaks_v12 c r ≡ true → breaks_v12 w.before r ≡ true
  was_v12 (device d) off so = sym (λ i. list_any (λ name. not (same_image name i)) (unwrap_or d.candidates [])) ∙ so
  was_v12 r off so = so

  was_v13 : (r : Rec) → is_one_of (key_of r) keys ≡ false → breaks_v13 c n r ≡ true
      → breaks_v13 w.before w.numbers_before r ≡ true
  was_v13 (device d) off so = sym
      (λ i. list_any (λ css. option_map_or (nat_le (limit_or_default d.set (same_at (key.Limit css d.set) refl i)))
      (w.numbers_elsewhere (record { css = css; set = d.set; device = d.number }) off i) false) subsystems) ∙ so
  was_v13 r off so = so

  pub v8_only : IsOnlyAt keys c (breaks_v8 c)
  v8_only = only_at (breaks_v8 c) (breaks_v8 w.before) held.1.1.1.1.1.1.1.0 was_v8

  pub v9_only : IsOnlyAt keys c (breaks_v9 c)
  v9_only = only_at (breaks_v9 c) (breaks_v9 w.before) held.1.1.1.1.1.1.1.1.0 was_v9

  pub v11_only : IsOnlyAt keys c (breaks_v11 c)
  v11_only = only_at (breaks_v11 c) (breaks_v11 w.before) held.1.1.1.1.1.1.1.1.1.1.0 was_v11

  pub v12_only : IsOnlyAt keys c (breaks_v12 c)
  v12_only = only_at (breaks_v12 c) (breaks_v12 w.before) held.1.1.1.1.1.1.1.1.1.1.1.0 was_v12

  pub v13_only : IsOnlyAt keys c (breaks_v13 c n)
  v13_only = only_at (breaks_v13 c n) (breaks_v13 w.before w.numbers_before) held.1.1.1.1.1.1.1.1.1.1.1.1.0 was_v13

  -- ---- the rules of two

  -- of two devices that clash one is new, since before no two did
  pub v10_only : AreClashesAt keys c
  v10_only k q d e here there so = by (is_one_of k keys) (is_one_of q keys) refl refl
    where
      by : (a b : Bool) → is_one_of k keys ≡ a → is_one_of q keys ≡ b → (is_one_of k keys || is_one_of q keys) ≡ true
      by true b in_first in_second = ap (λ x. x || is_one_of q keys) in_first
      by false true in_first in_second = or_right (is_one_of k keys) _ in_second
      by false false in_first in_second = absurd
          (not_before (breaks_v10 w.before) held.1.1.1.1.1.1.1.1.1.0 k (device d) (sym (w.elsewhere k in_first) ∙ here)
          (record_there w.before (λ r. stands_before r (device d) && answers_on d.unit_address d.units r) q (device e)
          (sym (w.elsewhere q in_second) ∙ there) so))

  -- an online record before another on its path, at one of the keys unless it was there
  at_path : (o : OnlineRecord) (m : Rec) → is_online_at o.css o.path m ≡ true
      → is_key_at_path o.css o.path (key_of m) ≡ true
  at_path o (online x) h = h
  at_path o (id x) h = absurd (false≢true h)
  at_path o (resource x) h = absurd (false≢true h)
  at_path o (image x) h = absurd (false≢true h)
  at_path o (limit x) h = absurd (false≢true h)
  at_path o (path x) h = absurd (false≢true h)
  at_path o (unit x) h = absurd (false≢true h)
  at_path o (device x) h = absurd (false≢true h)

  some_new : (o : OnlineRecord) → some_before c (online o) (is_online_at o.css o.path) ≡ true
      → some_before w.before (online o) (is_online_at o.css o.path) ≡ false
      → list_any (is_key_at_path o.css o.path) keys ≡ true
  some_new o now before =
      let m = record_found c (λ other. stands_before other (online o) && is_online_at o.css o.path other) keyed now in
      by m.member m.there m.passes (is_one_of (key_of m.member) keys) refl
    where
      by : (m : Rec) → get c (key_of m) ≡ Some m → (stands_before m (online o) && is_online_at o.css o.path m) ≡ true
          → (b : Bool) → is_one_of (key_of m) keys ≡ b
          → list_any (is_key_at_path o.css o.path) keys ≡ true
      by m there so true among =
          key_there (is_key_at_path o.css o.path) keys (key_of m) among
          (at_path o m (second (stands_before m (online o)) _ so))
      by m there so false off = absurd (false≢true (sym before
          ∙ record_there w.before (λ other. stands_before other (online o) && is_online_at o.css o.path other)
          (key_of m) m (sym (w.elsewhere (key_of m) off) ∙ there) so))

  itself_at_path : (o : OnlineRecord) → is_key_at_path o.css o.path (key_of (online o)) ≡ true
  itself_at_path o = (λ i. eq-eqb o.css o.css refl i && eq-eqb o.path o.path refl i)

  by_others : (lacks exclusive now before : Bool) → (lacks || (exclusive && now)) ≡ true
      → (lacks || (exclusive && before)) ≡ false → (now ≡ true) × (before ≡ false)
  by_others true e now before h g = absurd (false≢true (sym g))
  by_others false true now before h g = (h, g)
  by_others false false now before h g = absurd (false≢true h)

  not_true : (b : Bool) → (b ≡ true → ⊥) → b ≡ false
  not_true true never = absurd (never refl)
  not_true false never = refl

  pub v4_only : AreOnPathsOf keys c
  v4_only k o here so = by (is_one_of k keys) refl
    where
      own : key_of (online o) ≡ k
      own = keyed_own c keyed k (online o) here

      was_kept : is_one_of k keys ≡ false → breaks_v4 w.before (online o) ≡ false
      was_kept off = not_true (breaks_v4 w.before (online o))
          (not_before (breaks_v4 w.before) held.1.1.1.0 k (online o) (sym (w.elsewhere k off) ∙ here))

      by : (b : Bool) → is_one_of k keys ≡ b → list_any (is_key_at_path o.css o.path) keys ≡ true
      by true among = key_there (is_key_at_path o.css o.path) keys k among
          (ap (is_key_at_path o.css o.path) (sym own) ∙ itself_at_path o)
      by false off =
          let p = get w.before (key.Path o.css o.path) in
          let two = by_others (not (record_lists o.name p)) (is_exclusive p)
          (some_before c (online o) (is_online_at o.css o.path))
          (some_before w.before (online o) (is_online_at o.css o.path))
          (sym (ap (λ r. not (record_lists o.name r)
          || (is_exclusive r && some_before c (online o) (is_online_at o.css o.path)))
          (same_at (key.Path o.css o.path) refl)) ∙ so)
          (was_kept off) in
          some_new o two.0 two.1

  -- ---- breaches

  -- the rules of which something was found, and those that are kept
  pub near_found : (v4 v8 v9 v10 v11 v12 v13 : Option Key)
      → v4 ≡ option_map key_of (first_record (breaks_v4 c) (records_of c))
      → v8 ≡ option_map key_of (first_record (breaks_v8 c) (records_of c))
      → v9 ≡ option_map key_of (first_record (breaks_v9 c) (records_of c))
      → v10 ≡ option_map key_of (first_record (breaks_v10 c) (records_of c))
      → v11 ≡ option_map key_of (first_record (breaks_v11 c) (records_of c))
      → v12 ≡ option_map key_of (first_record (breaks_v12 c) (records_of c))
      → v13 ≡ option_map key_of (first_record (breaks_v13 c n) (records_of c))
      → first_found ((V4, v4) ∷ (V8, v8) ∷ (V9, v9) ∷ (V10, v10) ∷ (V11, v11) ∷ (V12, v12) ∷ (V13, v13) ∷ [])
      ≡ first_breach c n
  near_found v4 v8 v9 v10 v11 v12 v13 is4 is8 is9 is10 is11 is12 is13 =
      found_is ((V1, None) ∷ (V2, None) ∷ (V3, None) ∷ (V4, v4) ∷ (V5, None) ∷ (V6, None) ∷ (V7, None) ∷ (V8, v8)
      ∷ (V9, v9) ∷ (V10, v10)
      ∷ (V11, v11) ∷ (V12, v12) ∷ (V13, v13) ∷ (V14, None) ∷ []) (rules_of c n) (records_of c) (
        refl,
        (
          sym v1_kept,
          (
            refl,
            (
              sym v2_kept,
              (
                refl,
                (
                  sym v3_kept,
                  (
                    refl,
                    (
                      is4,
                      (
                        refl,
                        (
                          sym v5_kept,
                          (
                            refl,
                            (
                              sym v6_kept,
                              (
                                refl,
                                (
                                  sym v7_kept,
                                  (
                                    refl,
                                    (
                                      is8,
                                      (
                                        refl,
                                        (
                                          is9,
                                          (
                                            refl,
                                            (
                                              is10,
                                              (
                                                refl,
                                                (
                                                  is11,
                                                  (refl, (is12, (refl, (is13, (refl, (sym v14_kept, tt)))))),
                                                ),
                                              ),
                                            ),
                                          ),
                                        ),
                                      ),
                                    ),
                                  ),
                                ),
                              ),
                            ),
                          ),
                        ),
                      ),
                    ),
                  ),
                ),
              ),
            ),
          ),
        ),
      )
