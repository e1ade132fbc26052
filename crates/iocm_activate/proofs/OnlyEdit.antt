-- The effect of a change of one edit: its cells are in order, and have their values.
use Rattle.std.proofs.Common.{◌≡◌, ℕ, zero, suc, ◌==◌, ◌<◌, ◌≤◌, List, [], ◌∷◌, append-nil, get_or, length, map, Option}
use Rattle.std.proofs.Common.{refl, sym, ap, subst, ◌∙◌, arith}
use Rattle.std.specs.FinMap.{get}
use Rattle.std.specs.List.{AllByRecursion}
use Rattle.std.specs.List.Sorted.{IsStrictlySortedBy}
use Rattle.std.specs.Map.{keys_of}
use Rattle.iocm_types.specs.declared.live.Live.{Live}
use Rattle.iocm_types.specs.declared.place.NumberCell.{NumberCell}
use Rattle.iocm_types.specs.declared.sub_id.SubId.{SubId}
use Rattle.iocm_types.specs.declared.view.View.{View}
use Rattle.iocm_types.specs.Place.{cell_cmp}
use Rattle.iocm_types.specs.SubId.{sub_id_cmp}
use Rattle.iocm_types.specs.KeyOrder.{cells_exact, cells_total, sub_ids_exact, sub_ids_total}
use Rattle.iocm_types.proofs.Tests.{absent}
use Rattle.iocm_model.specs.Change.Edit.{Edit, same_view}
use Rattle.iocm_model.specs.Change.Maps.{cells_at, differing}
use Rattle.iocm_model.specs.Change.Runs.{state_after_all}
use Rattle.iocm_model.specs.Machine.Numbering.{Numbering, cells_of}
use Rattle.iocm_model.specs.Operation.State.{Lives, State, HasLives, Views, views_in}
use Rattle.iocm_numbers.specs.declared.number_change.NumberChange.{NumberChange}
use Rattle.iocm_numbers.specs.NumberChanges as numbers
use Rattle.iocm_seats.specs.declared.view_change.ViewChange.{ViewChange}
use Rattle.iocm_seats.specs.Changes as views
use Rattle.iocm_seats.proofs.Ordered.{differing_rise}
use Rattle.iocm_plant.specs.declared.touched.Applied.{Applied}
use Rattle.iocm_activate.specs.Cells.{cells_in}
use Rattle.iocm_activate.specs.Effects.{cells_changed, cells_told, numbers_told, subchannels_changed, subchannels_told}
use Rattle.iocm_activate.specs.OnlyEdit.{cells_of_one, holder_after, live_at, LivesIfSeen, TellsOf}
use Rattle.iocm_activate.specs.Told.{HaveLedTo, Told, told_in, told_of, told_of_all}
use Rattle.iocm_activate.specs.declared.log.Log.{Log}
use Rattle.iocm_activate.proofs.Activated.{cells_are, subchannels_are}
use Rattle.iocm_activate.proofs.Values.{keys_with_values, listed_cells, with_values}

-- ---- the number cells

holders_are : (n m : Numbering) (cells : List NumberCell)
    → map holder_after (map (numbers.number_change n m) cells) ≡ with_values (cells_of m) cells
holders_are n m [] = refl
holders_are n m (c ∷ cs) =
    ap (λ (rows : List (NumberCell × Option ℕ)). (c, get (cells_of m) c) ∷ rows) (holders_are n m cs)

module _ (n m : Numbering) (changes : List NumberChange) (is : changes ≡ numbers.changes_between n m) where
  -- the number cells that changed, in order
  abbrev changed : List NumberCell
  changed = differing ◌==◌ (cells_of n) (cells_of m)

  changed_are : cells_changed changes ≡ changed
  changed_are = ap cells_changed is ∙ cells_are n m changed

  -- listed with the devices that have them afterwards, they have their values
  pub with_holders : (listed : List (NumberCell × Option ℕ)) → listed ≡ map holder_after changes
      → listed ≡ with_values (cells_of m) (cells_changed changes)
  with_holders listed are =
      are ∙ ap (map holder_after) is ∙ holders_are n m changed ∙ ap (with_values (cells_of m)) (sym changed_are)

  changed_rise : IsStrictlySortedBy cell_cmp (cells_changed changes)
  changed_rise = subst (IsStrictlySortedBy cell_cmp) (sym changed_are)
      (differing_rise cell_cmp ◌==◌ (cells_of n) (cells_of m))

  pub holders_rise : (listed : List (NumberCell × Option ℕ)) → listed ≡ map holder_after changes
      → IsStrictlySortedBy cell_cmp (keys_of listed)
  holders_rise listed are =
      subst (IsStrictlySortedBy cell_cmp)
      (sym (ap keys_of (with_holders listed are) ∙ keys_with_values (cells_of m) (cells_changed changes)))
      changed_rise

  pub holders_listed : (listed : List (NumberCell × Option ℕ)) → listed ≡ map holder_after changes
      → cells_in cell_cmp listed ≡ cells_at (cells_of m) (cells_changed changes)
  holders_listed listed are =
      listed_cells cells_total cells_exact (cells_of m) (cells_changed changes) (cells_changed changes) listed
      (with_holders listed are) changed_rise (λ q. refl)

-- ---- the subchannels

-- what is so of each item is so of the one at a place
pub each_of : {A : Type 0} (P : A → Type 0) (xs : List A) (i : ℕ) (x : A) → AllByRecursion P xs → i < length xs
    → x ≡ get_or xs i x → P x
each_of P [] i x all within is = absurd (omega (arith, within))
each_of P (y ∷ ys) zero x all within is = subst P (sym is) all.0
each_of P (y ∷ ys) (suc i) x all within is = each_of P ys i x all.1 (omega (arith, within)) is

lives_are : (lives : Lives) (changes : List ViewChange)
    → map (live_at lives) changes ≡ with_values lives (subchannels_changed changes)
lives_are lives [] = refl
lives_are lives (ch ∷ chs) =
    ap (λ (rows : List (SubId × Option Live)). (ch.subchannel, get lives ch.subchannel) ∷ rows) (lives_are lives chs)

seen_live : (s : State) → HasLives s → (v : SubId → Option View) (xs : List SubId)
    → AllByRecursion (LivesIfSeen s.lives) (map (views.view_change v (get (views_in s))) xs)
seen_live s lived v [] = tt
seen_live s lived v (x ∷ xs) = (λ none. absent (get s.lives x) (lived x ∙ none), seen_live s lived v xs)

module _ (s : State) (v : Views) (changes : List ViewChange) (is : changes ≡ views.changes_between v (views_in s)) where
  -- where nothing is seen afterwards, there is no live record
  pub live_if_seen : HasLives s → AllByRecursion (LivesIfSeen s.lives) changes
  live_if_seen lived = subst (AllByRecursion (LivesIfSeen s.lives)) (sym is)
      (seen_live s lived (get v) (differing same_view v (views_in s)))

  altered_rise : IsStrictlySortedBy sub_id_cmp (subchannels_changed changes)
  altered_rise = subst (IsStrictlySortedBy sub_id_cmp)
      (sym (ap subchannels_changed is
      ∙ subchannels_are (get v) (get (views_in s)) (differing same_view v (views_in s))))
      (differing_rise sub_id_cmp same_view v (views_in s))

  pub lives_rise : (listed : List (SubId × Option Live)) → listed ≡ map (live_at s.lives) changes
      → IsStrictlySortedBy sub_id_cmp (keys_of listed)
  lives_rise listed are =
      subst (IsStrictlySortedBy sub_id_cmp)
      (sym (ap keys_of (are ∙ lives_are s.lives changes) ∙ keys_with_values s.lives (subchannels_changed changes)))
      altered_rise

  pub lives_listed : (listed : List (SubId × Option Live)) → listed ≡ map (live_at s.lives) changes
      → cells_in sub_id_cmp listed ≡ cells_at s.lives (subchannels_changed changes)
  lives_listed listed are =
      listed_cells sub_ids_total sub_ids_exact s.lives (subchannels_changed changes) (subchannels_changed changes)
      listed (are ∙ lives_are s.lives changes) altered_rise (λ q. refl)

-- ---- one edit of a log

-- a list of one item is that item
pub one_item : {A : Type 0} (xs : List A) (x : A) → 1 ≤ length xs → length xs < 2 → x ≡ get_or xs 0 x → xs ≡ x ∷ []
one_item [] x some few is = absurd (omega (arith, some))
one_item (y ∷ []) x some few is = ap (λ z. z ∷ []) (sym is)
one_item (y ∷ z ∷ xs) x some few is = absurd (omega (arith, few))

-- what is told of one edit is what it did to the state as it is
pub tells_of_one : (a : Applied) (s : State) → HaveLedTo (a ∷ []) s → TellsOf a.touched s
tells_of_one a s led = by led.edits led.told led.now
  where
    by : (es : List Edit) → map told_in (a ∷ []) ≡ told_of_all es led.before → s ≡ state_after_all es led.before
        → TellsOf a.touched s
    by [] told now = cc
    by (e ∷ f ∷ es) told now = cc
    by (e ∷ []) told now =
        let first : told_in a ≡ told_of e led.before = cc in
        record {
          numbers_before = led.before.numbers;
          views_before = views_in led.before;
          numbers = ap (λ (t : Told). t.numbers) first
              ∙ ap (λ (t : State). numbers.changes_between led.before.numbers t.numbers) (sym now);
          views = ap (λ (t : Told). t.subchannels) first
              ∙ ap (λ (t : State). views.changes_between (views_in led.before) (views_in t)) (sym now);
        }

-- the cells that a log of one edit tells are those of the edit
pub cells_of_log : (log : Log) (a : Applied) → log.done.items ≡ a ∷ []
    → cells_of_one log.keys.items a.touched ≡ cells_told log
cells_of_log log a one = λ i. record {
  keys = log.keys.items;
  numbers = (sym (append-nil (cells_changed a.touched.numbers.items))
      ∙ ap (λ ds. numbers_told (map told_in ds)) (sym one)) i;
  subchannels = (sym (append-nil (subchannels_changed a.touched.subchannels.items))
      ∙ ap (λ ds. subchannels_told (map told_in ds)) (sym one)) i;
}
