-- The rows of an image, written out, are the devices of which a row is told.
use Rattle.std.proofs.Common.{◌≡◌, ℕ, zero, suc, ◌+◌, ◌==◌, ◌&&◌, cond, Bool, true, false, List, [], ◌∷◌, ◌++◌, map}
use Rattle.std.proofs.Common.{filter, Option, Some, None, append_assoc, refl, sym, ap, ◌∙◌, eqb-true, arith, nat_eq}
use Rattle.std.specs.Cmp.Lexicographic.{pointwise, same_text}
use Rattle.std.specs.List.{flat_map, zip}
use Rattle.std.specs.Option.{option_eq, option_map}
use Rattle.std.proofs.lemmas.Bool.{and_parts, false≢true}
use Rattle.std.proofs.lemmas.List.Elements.{filter-append}
use Rattle.iocm_types.specs.declared.view.View.{View}
use Rattle.iocm_sight.specs.declared.devices.DeviceKey.{DeviceKey}
use Rattle.iocm_plan.specs.Effects.{has_row}
use Rattle.iocm_plan.specs.Runs.{devices_from, devices_in_run, same_truth}
use Rattle.iocm_plan.specs.ToldAlike.{unnumbered, without_number}
use Rattle.iocm_plan.specs.declared.effect.Effect.{Effect}
use Rattle.iocm_plan.specs.declared.runs.DeviceRun.{DeviceRun}
use Rattle.iocm_plan.proofs.RunDevices.{runs_told_alike}
use Rattle.iocm_plan.proofs.ToldAlike.{one_truth}
use Rattle.iocm_impact.specs.Impact.{Change, effect_on, runs_of}
use Rattle.iocm_impact.specs.Laws.{RowsAreAllThatDiffer, ToldDevice, is_told_in_row, told_of, written_out}
use Rattle.iocm_impact.specs.Rows.{follows, is_told, joined, joined_from, row_of, tells_same, tells_same_view}
use Rattle.iocm_impact.specs.Rows.{told_rows, with_more}
use Rattle.iocm_impact.specs.declared.row.Row.{Row}
use Rattle.iocm_impact.proofs.ByRuns.{by_runs, map_append}
use Rattle.iocm_impact.proofs.Numbered.{have_number, row_unnumbered}

-- ---- what tells the same is the same, the number of the device aside

same_sight : (v u : View) → tells_same_view v u ≡ true → unnumbered v ≡ unnumbered u
same_sight v u h =
    let p = and_parts (pointwise nat_eq v.paths u.paths && v.pim == u.pim) (v.pam == u.pam) h in
    let q = and_parts (pointwise nat_eq v.paths u.paths) (v.pim == u.pim) p.0 in
    let paths = same_text v.paths u.paths (sym q.0) in
    let pim = eqb-true v.pim u.pim q.1 in
    let pam = eqb-true v.pam u.pam p.1 in
    λ j. record { device = 0; paths = paths j; pim = pim j; pam = pam j }

same_sights : (b a : Option View) → option_eq tells_same_view b a ≡ true
    → option_map unnumbered b ≡ option_map unnumbered a
same_sights None None h = refl
same_sights None (Some u) h = absurd (false≢true h)
same_sights (Some v) None h = absurd (false≢true h)
same_sights (Some v) (Some u) h = ap Some (same_sight v u h)

same_told : (e f : Effect) → tells_same e f ≡ true → without_number e ≡ without_number f
same_told e f h =
    let p = and_parts (option_eq tells_same_view e.before f.before && option_eq tells_same_view e.after f.after
    && same_truth e.interrupted f.interrupted) (same_truth e.offon f.offon) h in
    let q = and_parts (option_eq tells_same_view e.before f.before && option_eq tells_same_view e.after f.after)
    (same_truth e.interrupted f.interrupted) p.0 in
    let r = and_parts (option_eq tells_same_view e.before f.before) (option_eq tells_same_view e.after f.after) q.0 in
    let before = same_sights e.before f.before r.0 in
    let after = same_sights e.after f.after r.1 in
    let interrupted = one_truth e.interrupted f.interrupted q.1 in
    let offon = one_truth e.offon f.offon p.1 in
    λ j. record { before = before j; after = after j; interrupted = interrupted j; offon = offon j }

-- ---- rows that are joined are written out as they were

joined_devices : (set number a b : ℕ)
    → devices_from set number (a + b) ≡ devices_from set number a ++ devices_from set (number + a) b
joined_devices set number zero b =
    let e : number ≡ number + 0 = omega arith in
    let n : 0 + b ≡ b = omega arith in
    ap (devices_from set number) n ∙ ap (λ m. devices_from set m b) e
joined_devices set number (suc a) b =
    let n : suc a + b ≡ suc (a + b) = omega arith in
    let e : number + 1 + a ≡ number + suc a = omega arith in
    ap (devices_from set number) n
    ∙ ap (λ (ks : List DeviceKey). record { set = set; number = number } ∷ ks)
    (joined_devices set (number + 1) a b ∙ ap (λ m. devices_from set (number + 1) a ++ devices_from set m b) e)

abbrev told_as : Effect → DeviceKey → ToldDevice
told_as e k = (k, e)

both_written : (r s : Row) → follows r s ≡ true → written_out (with_more r s.run.count) ≡ written_out r ++ written_out s
both_written r s h =
    let p = and_parts (s.run.first.set == r.run.first.set
    && s.run.first.number == r.run.first.number + r.run.count) (tells_same r.effect s.effect) h in
    let q = and_parts (s.run.first.set == r.run.first.set)
    (s.run.first.number == r.run.first.number + r.run.count) p.0 in
    let set = eqb-true s.run.first.set r.run.first.set q.0 in
    let number = eqb-true s.run.first.number (r.run.first.number + r.run.count) q.1 in
    let told = same_told r.effect s.effect p.1 in
    ap (λ ks. map (told_as (without_number r.effect)) ks)
    (joined_devices r.run.first.set r.run.first.number r.run.count s.run.count)
    ∙ map_append (told_as (without_number r.effect)) (devices_in_run r.run)
    (devices_from r.run.first.set (r.run.first.number + r.run.count) s.run.count)
    ∙ (λ j. written_out r ++ map (told_as (told j)) (devices_from (sym set j) (sym number j) s.run.count))

joined_written : (r : Row) (ss : List Row)
    → flat_map written_out (joined_from r ss) ≡ written_out r ++ flat_map written_out ss
joined_written r [] = refl
joined_written r (s ∷ ss) =
    by (follows r s) refl (joined_written (with_more r s.run.count) ss) (joined_written s ss)
  where
    by : (b : Bool) → follows r s ≡ b
        → flat_map written_out (joined_from (with_more r s.run.count) ss)
        ≡ written_out (with_more r s.run.count) ++ flat_map written_out ss
        → flat_map written_out (joined_from s ss) ≡ written_out s ++ flat_map written_out ss
        → flat_map written_out (cond b (joined_from (with_more r s.run.count) ss) (r ∷ joined_from s ss))
        ≡ written_out r ++ (written_out s ++ flat_map written_out ss)
    by true is more other = more ∙ ap (λ ts. ts ++ flat_map written_out ss) (both_written r s is)
        ∙ append_assoc (written_out r) (written_out s) (flat_map written_out ss)
    by false is more other = ap (λ ts. written_out r ++ ts) other

all_written : (rs : List Row) → flat_map written_out (joined rs) ≡ flat_map written_out rs
all_written [] = refl
all_written (r ∷ rs) = joined_written r rs

-- ---- the runs of which a row is told

all_or_none : (e : Effect) (ks : List DeviceKey)
    → filter is_told_in_row (map (told_as e) ks) ≡ cond (has_row e) (map (told_as e) ks) []
all_or_none e ks = by (has_row e) refl ks
  where
    by : (b : Bool) → has_row e ≡ b → (ks : List DeviceKey)
        → filter is_told_in_row (map (told_as e) ks) ≡ cond b (map (told_as e) ks) []
    by true is [] = refl
    by true is (k ∷ ks) = ap (λ t. cond t (told_as e k ∷ filter is_told_in_row (map (told_as e) ks))
        (filter is_told_in_row (map (told_as e) ks))) is ∙ ap (λ ts. told_as e k ∷ ts) (by true is ks)
    by false is [] = refl
    by false is (k ∷ ks) = ap (λ t. cond t (told_as e k ∷ filter is_told_in_row (map (told_as e) ks))
        (filter is_told_in_row (map (told_as e) ks))) is ∙ by false is ks

module _ (g : DeviceRun → Effect) (told : (r : DeviceRun) → has_row (without_number (g r)) ≡ has_row (g r)) where
  abbrev out : DeviceRun → List ToldDevice
  out r = map (told_as (without_number (g r))) (devices_in_run r)

  one_run : (b : Bool) (r : DeviceRun) (rest : List Row)
      → flat_map written_out (cond b (row_of (r, g r) ∷ rest) rest) ≡ cond b (out r) [] ++ flat_map written_out rest
  one_run true r rest = refl
  one_run false r rest = refl

  told_written : (rs : List DeviceRun)
      → flat_map written_out (told_rows rs (map g rs)) ≡ filter is_told_in_row (flat_map out rs)
  told_written [] = refl
  told_written (r ∷ rs) =
      one_run (has_row (g r)) r (told_rows rs (map g rs))
      ∙ ap (λ b. cond b (out r) [] ++ flat_map written_out (told_rows rs (map g rs))) (sym (told r))
      ∙ ap (λ ts. ts ++ flat_map written_out (told_rows rs (map g rs)))
      (sym (all_or_none (without_number (g r)) (devices_in_run r)))
      ∙ ap (λ ts. filter is_told_in_row (out r) ++ ts) (told_written rs)
      ∙ sym (filter-append is_told_in_row (out r) (flat_map out rs))

-- ---- the whole

pub rows_differ : RowsAreAllThatDiffer
rows_differ x keyed i =
    all_written (told_rows (runs_of x) (map (λ (r : DeviceRun). effect_on x i.image r.first) (runs_of x)))
    ∙ told_written (λ (r : DeviceRun). effect_on x i.image r.first)
    (λ r. row_unnumbered r.first.number (effect_on x i.image r.first) (have_number x keyed i.image r.first)) (runs_of x)
    ∙ ap (filter is_told_in_row) (by_runs x.wanted x.before x.after (λ k. without_number (effect_on x i.image k))
    (runs_told_alike x.wanted x.is_lost x.before x.after i.image))
