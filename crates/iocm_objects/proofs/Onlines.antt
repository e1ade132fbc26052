-- The names that are online at a path, in a walk from a key that isn't behind them: none is missed, and behind them is
-- none.
use Rattle.std.proofs.Common.{◌≡◌, ℕ, ◌≤◌, Bool, true, false, cond, nat_lt, ◌==◌, ◌&&◌, ◌||◌, None, List, []}
use Rattle.std.proofs.Common.{◌∷◌, ◌<◌, T, refl, sym, ap, ◌∙◌, arith, eqb-true}
use Rattle.std.proofs.lemmas.Bool.{false≢true}
use Rattle.std.proofs.lemmas.Bool.Decides.{nat_tests}
use Rattle.std.specs.Cmp.{nat_cmp_total, tied_itself}
use Rattle.std.specs.Cmp.Lexicographic.{slice_cmp}
use Rattle.std.specs.FinMap.{entries, is_sorted}
use Rattle.std.specs.List.{cons_option, filter_map}
use Rattle.std.specs.Ordering.{is_le, nat_cmp, ordering_then}
use Rattle.std.specs.declared.cmp.Ordering.{Ordering}
use Rattle.std.specs.declared.cmp.Ordering.TheVariants.{Less, Equal}
use Rattle.iocm_types.specs.declared.key.Key.{Key}
use Rattle.iocm_types.specs.declared.key.Key.TheVariants as key
use Rattle.iocm_types.specs.Key.{key_cmp}
use Rattle.iocm_types.proofs.Orderings.{less_is}
use Rattle.iocm_types.proofs.Tests.{first_holds, second_holds}
use Rattle.iocm_table.specs.Slots.{rows_from}
use Rattle.iocm_model.specs.Machine.Record.{Rec, id, resource, image, limit, path, unit, device, online, key_of}
use Rattle.iocm_model.specs.Machine.Configuration.{Configuration, IsKeyed, records_of}
use Rattle.iocm_lookup.specs.Entries.{AreInOrder, AreOwn, in_entries}
use Rattle.iocm_lookup.specs.Kinds.{kind_of}
use Rattle.iocm_lookup.proofs.Walks.{kinds_rise, not_behind, own_entries}
use Rattle.iocm_plan.specs.Objects.{name_online}
use Rattle.iocm_objects.specs.OnlineKeys.{is_past}

module _ (css p : ℕ) where
  -- ---- from the first key on

  -- a key that isn't behind any by which the path is online
  abbrev pub IsBefore : Key → Type 0
  IsBefore first = (other : List ℕ) → is_le (key_cmp first (key.Online css p other)) ≡ true

  none_at : (first : Key) → IsBefore first → (own q : ℕ) (name : List ℕ)
      → is_le (key_cmp first (key.Online own q name)) ≡ false → ((own == css) && (q == p)) ≡ false
  none_at first before own q name behind = by ((own == css) && (q == p)) refl
    where
      by : (b : Bool) → ((own == css) && (q == p)) ≡ b → ((own == css) && (q == p)) ≡ false
      by false is = is
      by true is =
          let same_css : own ≡ css = grind (arith, nat_tests) in
          let same_path : q ≡ p = grind (arith, nat_tests) in
          absurd (false≢true (sym behind ∙ (λ i. is_le (key_cmp first (key.Online (same_css i) (same_path i) name)))
          ∙ before name))

  not_named : (first : Key) → IsBefore first → (r : Rec) → is_le (key_cmp first (key_of r)) ≡ false
      → name_online css p r ≡ None
  not_named first before (online o) behind = rw (none_at first before o.css o.path o.name behind) refl
  not_named first before (id x) behind = refl
  not_named first before (resource x) behind = refl
  not_named first before (image x) behind = refl
  not_named first before (limit x) behind = refl
  not_named first before (path x) behind = refl
  not_named first before (unit x) behind = refl
  not_named first before (device x) behind = refl

  same_from : (first : Key) → IsBefore first → (es : List (Key × Rec)) → AreOwn es
      → filter_map (name_online css p) (in_entries (rows_from key_cmp first es))
      ≡ filter_map (name_online css p) (in_entries es)
  same_from first before [] own = refl
  same_from first before (e ∷ es) own = by (is_le (key_cmp first e.0)) refl (same_from first before es own.1)
    where
      by : (b : Bool) → is_le (key_cmp first e.0) ≡ b
          → filter_map (name_online css p) (in_entries (rows_from key_cmp first es))
          ≡ filter_map (name_online css p) (in_entries es)
          → filter_map (name_online css p) (in_entries (cond b (e ∷ rows_from key_cmp first es)
          (rows_from key_cmp first es)))
          ≡ cons_option (name_online css p e.1) (filter_map (name_online css p) (in_entries es))
      by true is same = ap (cons_option (name_online css p e.1)) same
      by false is same = same
          ∙ ap (λ o. cons_option o (filter_map (name_online css p) (in_entries es)))
          (sym (not_named first before e.1 (ap (λ (k : Key). is_le (key_cmp first k)) (sym own.0) ∙ is)))

  -- nothing is missed
  pub all_from : (first : Key) → IsBefore first → (c : Configuration) → IsKeyed c
      → filter_map (name_online css p) (in_entries (rows_from key_cmp first (entries c)))
      ≡ filter_map (name_online css p) (records_of c)
  all_from first before c keyed = same_from first before (entries c) (own_entries c keyed)

  -- ---- behind them

  past_kind : (k : Key) → is_past css p k ≡ true → 7 ≤ kind_of k
  past_kind (key.Online own q name) past = omega arith
  past_kind key.Id past = absurd (false≢true past)
  past_kind key.Resource past = absurd (false≢true past)
  past_kind (key.Image own mif) past = absurd (false≢true past)
  past_kind (key.Limit own set) past = absurd (false≢true past)
  past_kind (key.Path own number) past = absurd (false≢true past)
  past_kind (key.Unit number) past = absurd (false≢true past)
  past_kind (key.Device set number) past = absurd (false≢true past)

  -- where the channel subsystem is the same, the paths rise
  second_rises : (own other q r : ℕ) (rest : Ordering) → own ≡ other
      → ordering_then (nat_cmp own other) (ordering_then (nat_cmp q r) rest) ≡ Less → q ≤ r
  second_rises own other q r rest same less =
      let tie : nat_cmp own other ≡ Equal = ap (nat_cmp own) (sym same) ∙ tied_itself nat_cmp_total own in
      not_behind q r (nat_cmp q r) rest refl
      (ap (λ o. ordering_then o (ordering_then (nat_cmp q r) rest)) (sym tie) ∙ less)

  rises : (own q other r : ℕ) → own ≤ other → (own ≡ other → q ≤ r)
      → (nat_lt css own || (css == own && nat_lt p q)) ≡ true
      → (nat_lt css other || (css == other && nat_lt p r)) ≡ true
  rises own q other r first second past = by (own == other) refl
    where
      by : (b : Bool) → (own == other) ≡ b → (nat_lt css other || (css == other && nat_lt p r)) ≡ true
      by true same =
          let e : own ≡ other = eqb-true own other same in let up : q ≤ r = second e in grind (arith, nat_tests)
      by false apart = let less : own < other = grind (arith, nat_tests) in grind (arith, nat_tests)

  online_rises : (a : Key) (other r : ℕ) (another : List ℕ) → key_cmp a (key.Online other r another) ≡ Less
      → is_past css p a ≡ true → is_past css p (key.Online other r another) ≡ true
  online_rises (key.Online own q name) other r another less past =
      let rest : Ordering = slice_cmp nat_cmp name another in
      rises own q other r (not_behind own other (nat_cmp own other) (ordering_then (nat_cmp q r) rest) refl less)
      (λ (same : own ≡ other). second_rises own other q r rest same less) past
  online_rises key.Id other r another less past = absurd (false≢true past)
  online_rises key.Resource other r another less past = absurd (false≢true past)
  online_rises (key.Image own mif) other r another less past = absurd (false≢true past)
  online_rises (key.Limit own set) other r another less past = absurd (false≢true past)
  online_rises (key.Path own number) other r another less past = absurd (false≢true past)
  online_rises (key.Unit number) other r another less past = absurd (false≢true past)
  online_rises (key.Device set number) other r another less past = absurd (false≢true past)

  past_rises : (a b : Key) → key_cmp a b ≡ Less → is_past css p a ≡ true → is_past css p b ≡ true
  past_rises a (key.Online other r another) less past = online_rises a other r another less past
  past_rises a key.Id less past =
      let low = past_kind a past in let up = kinds_rise a key.Id less in absurd (omega arith)
  past_rises a key.Resource less past =
      let low = past_kind a past in let up = kinds_rise a key.Resource less in absurd (omega arith)
  past_rises a (key.Image own mif) less past =
      let low = past_kind a past in let up = kinds_rise a (key.Image own mif) less in absurd (omega arith)
  past_rises a (key.Limit own set) less past =
      let low = past_kind a past in let up = kinds_rise a (key.Limit own set) less in absurd (omega arith)
  past_rises a (key.Path own number) less past =
      let low = past_kind a past in let up = kinds_rise a (key.Path own number) less in absurd (omega arith)
  past_rises a (key.Unit number) less past =
      let low = past_kind a past in let up = kinds_rise a (key.Unit number) less in absurd (omega arith)
  past_rises a (key.Device set number) less past =
      let low = past_kind a past in let up = kinds_rise a (key.Device set number) less in absurd (omega arith)

  past_names_none : (r : Rec) → is_past css p (key_of r) ≡ true → name_online css p r ≡ None
  past_names_none (online o) past =
      let not : ((o.css == css) && (o.path == p)) ≡ false = grind (arith, nat_tests) in rw not refl
  past_names_none (id x) past = refl
  past_names_none (resource x) past = refl
  past_names_none (image x) past = refl
  past_names_none (limit x) past = refl
  past_names_none (path x) past = refl
  past_names_none (unit x) past = refl
  past_names_none (device x) past = refl

  none_behind : (e : Key × Rec) (es : List (Key × Rec)) → AreOwn (e ∷ es) → T (is_sorted key_cmp (e ∷ es))
      → is_past css p e.0 ≡ true → filter_map (name_online css p) (in_entries (e ∷ es)) ≡ []
  none_behind e [] own up past =
      ap (λ o. cons_option o []) (past_names_none e.1 (ap (is_past css p) (sym own.0) ∙ past))
  none_behind e (f ∷ es) own up past =
      ap (λ o. cons_option o (filter_map (name_online css p) (in_entries (f ∷ es))))
      (past_names_none e.1 (ap (is_past css p) (sym own.0) ∙ past))
      ∙ none_behind f es own.1 (second_holds _ _ up)
      (past_rises e.0 f.0 (less_is _ (first_holds _ _ (first_holds _ _ up))) past)

  -- where the walk is past them, no name is left
  pub none_left : (e : Key × Rec) (es : List (Key × Rec)) → AreInOrder (e ∷ es) → is_past css p e.0 ≡ true
      → filter_map (name_online css p) (in_entries (e ∷ es)) ≡ []
  none_left e es order past = none_behind e es order.own order.up past
