-- Where a change fits, its inverses write the cells that it wrote.
use Rattle.std.proofs.Common.{◌≡◌, ℕ, Bool, true, false, cond, not, ◌||◌, nat_eq, eqb-true, eq-eqb, List, [], ◌∷◌, ◌++◌}
use Rattle.std.proofs.Common.{Option, Some, None, refl, sym, ap, ◌∙◌}
use Rattle.std.specs.List.{list_any}
use Rattle.std.specs.Option.{option_eq, option_and_then}
use Rattle.std.specs.Ordering.{eq_by_cmp}
use Rattle.std.specs.FinMap.{get}
use Rattle.std.proofs.Math.Bool.{or_assoc}
use Rattle.iocm_types.specs.declared.place.NumberCell.{NumberCell}
use Rattle.iocm_types.specs.Key.{key_cmp}
use Rattle.iocm_types.specs.KeyOrder.{cells_total, cells_exact}
use Rattle.iocm_model.specs.Machine.Numbering.{cells_of}
use Rattle.iocm_model.specs.Operation.State.{State, IsSound}
use Rattle.iocm_model.specs.Change.Edit.{Edit, action_key, record_after, state_after}
use Rattle.iocm_model.specs.Change.Effect.{no_cells, cells_written}
use Rattle.iocm_model.specs.Change.Inverse.{inverse_of}
use Rattle.iocm_model.specs.Change.Runs.{state_after_all, cells_written_by_all, inverses, CarryFreeNumbers}
use Rattle.iocm_model.proofs.Maps.Cells.{in_differing}
use Rattle.iocm_model.proofs.Machine.OwnKeys.{keyed_own}
use Rattle.iocm_model.proofs.Change.EditsGoBack.{among_altered, back_key}
use Rattle.iocm_model.proofs.Change.RunsGoBack.{sound_after}
use Rattle.iocm_history.specs.Change.{Change, cells_of_change}
use Rattle.iocm_history.specs.Fits.{goes_back_in, state_before, state_before_all, keeps_the_rules, fits}
use Rattle.iocm_history.specs.InUse.{IsInUse}
use Rattle.iocm_history.proofs.Fitting.{stays_at, turns_at, IsBack, is_back, alters_the_same, one_of_both, all_back}
use Rattle.iocm_history.proofs.OneCell.{Cell, at_key, at_number, at_subchannel, is_one_of}
use Rattle.iocm_history.proofs.WasMade.{WasMade, carried_free}

-- ---- one edit

same_device : (a b : Option ℕ) → option_eq nat_eq a b ≡ true → a ≡ b
same_device None None h = refl
same_device None (Some y) h = cc
same_device (Some x) None h = cc
same_device (Some x) (Some y) h = ap Some (eqb-true x y h)

devices_turned : (a b : Option ℕ) → option_eq nat_eq a b ≡ false → option_eq nat_eq b a ≡ false
devices_turned None None h = cc
devices_turned None (Some y) h = refl
devices_turned (Some x) None h = refl
devices_turned (Some x) (Some y) h = by (nat_eq y x) refl
  where
    by : (b : Bool) → nat_eq y x ≡ b → b ≡ false
    by false e = refl
    by true e = let same : nat_eq x y ≡ true = eq-eqb x y (sym (eqb-true y x e)) in sym same ∙ h

module _ (e : Edit) (s u : State) (sound_s : IsSound s) (sound_u : IsSound u) (back : IsBack e s u) where
  abbrev t : State
  t = state_after e s

  abbrev v : State
  v = state_after (inverse_of e s) u

  abbrev device : State → NumberCell → Option ℕ
  device z c = get (cells_of z.numbers) c

  device_by : (b : Bool) (c : NumberCell) → option_eq nat_eq (device s c) (device t c) ≡ b
      → option_eq nat_eq (device u c) (device v c) ≡ b
  device_by true c is = stays_at nat_eq (device s c) (device t c) (device u c) (device v c) is (back.numbers c)
  device_by false c is =
      let turn = turns_at nat_eq (device s c) (device t c) (device u c) (device v c) is (back.numbers c) in
      (λ i. option_eq nat_eq (same_device (device u c) (device t c) turn.0 i)
      (same_device (device v c) (device s c) turn.1 i))
      ∙ devices_turned (device s c) (device t c) is

  -- the inverse of an edit that goes back writes what the edit wrote
  inverse_writes : (q : Cell) → is_one_of (cells_written (inverse_of e s) u) q ≡ is_one_of (cells_written e s) q
  inverse_writes (at_key k) =
      let same = back_key (action_key e.action) (get s.config (action_key e.action)) (record_after e.action)
      (keyed_own s.config sound_s.keyed (action_key e.action)) in
      λ i. list_any (eq_by_cmp key_cmp k) (same i ∷ [])
  inverse_writes (at_number c) =
      in_differing cells_total cells_exact nat_eq (cells_of u.numbers) (cells_of v.numbers) c
      ∙ ap not (device_by (option_eq nat_eq (device s c) (device t c)) c refl)
      ∙ sym (in_differing cells_total cells_exact nat_eq (cells_of s.numbers) (cells_of t.numbers) c)
  inverse_writes (at_subchannel x) =
      among_altered u v x ∙ alters_the_same e s u sound_s sound_u back x ∙ sym (among_altered s t x)

-- ---- a run

or_turned : (a b : Bool) → (a || b) ≡ (b || a)
or_turned true true = refl
or_turned true false = refl
or_turned false true = refl
or_turned false false = refl

none_of : (q : Cell) → is_one_of no_cells q ≡ false
none_of (at_key k) = refl
none_of (at_number c) = refl
none_of (at_subchannel x) = refl

-- the cells of a run and then an edit
last_cells : (es : List Edit) (f : Edit) (u : State) (q : Cell)
    → is_one_of (cells_written_by_all (es ++ (f ∷ [])) u) q
    ≡ (is_one_of (cells_written_by_all es u) q || is_one_of (cells_written f (state_after_all es u)) q)
last_cells [] f u q =
    one_of_both (cells_written f u) no_cells q ∙ or_turned (is_one_of (cells_written f u) q) (is_one_of no_cells q)
last_cells (e ∷ es) f u q =
    let first = cells_written e u in let middle = cells_written_by_all es (state_after e u) in
    let last = cells_written f (state_after_all es (state_after e u)) in
    one_of_both first (cells_written_by_all (es ++ (f ∷ [])) (state_after e u)) q
    ∙ ap (λ b. is_one_of first q || b) (last_cells es f (state_after e u) q)
    ∙ sym (or_assoc (is_one_of first q) (is_one_of middle q) (is_one_of last q))
    ∙ ap (λ b. b || is_one_of last q) (sym (one_of_both first middle q))

there : (b : Bool) (v w : State) → cond b (Some v) None ≡ Some w → b ≡ true
there true v w h = refl
there false v w h = cc

step_from : (o : Option State) (f : State → Option State) (v : State) → option_and_then f o ≡ Some v
    → (w : State) × (o ≡ Some w) × (f w ≡ Some v)
step_from None f v h = cc
step_from (Some w) f v h = (w, refl, h)

-- where edits go back, their inverses write what they wrote
inverses_write : (es : List Edit) (s u v : State) → IsSound s → CarryFreeNumbers es s → IsSound u
    → state_before_all es s u ≡ Some v
    → (q : Cell) → is_one_of (cells_written_by_all (inverses es s) u) q ≡ is_one_of (cells_written_by_all es s) q
inverses_write [] s u v sound free sound_u h q = refl
inverses_write (e ∷ es) s u v sound free sound_u h q =
    let t = state_after e s in
    let parts = step_from (state_before_all es t u) (state_before e s) v h in
    let w = parts.0 in
    let sound_t = sound_after e s sound free.0 in
    let later = all_back es t u w sound_t free.1 sound_u parts.1 in
    let back = is_back e s w (there (goes_back_in e s w) (state_after (inverse_of e s) w) v parts.2) in
    last_cells (inverses es t) (inverse_of e s) u q
    ∙ (λ i. inverses_write es t u w sound_t free.1 sound_u parts.1 q i
    || is_one_of (cells_written (inverse_of e s) (sym later.is i)) q)
    ∙ ap (λ b. is_one_of (cells_written_by_all es t) q || b) (inverse_writes e s w sound later.sound back q)
    ∙ or_turned (is_one_of (cells_written_by_all es t) q) (is_one_of (cells_written e s) q)
    ∙ sym (one_of_both (cells_written e s) (cells_written_by_all es t) q)

has_state : (o : Option State) → keeps_the_rules o ≡ true → (v : State) × (o ≡ Some v)
has_state None h = cc
has_state (Some v) h = (v, refl)

-- the inverses of a change that fits a state in use write there what it wrote
pub change_writes_back : (c : Change) (u : State) → WasMade c → IsInUse u → fits c u ≡ true
    → (q : Cell) → is_one_of (cells_written_by_all (inverses c.edits c.from) u) q ≡ is_one_of (cells_of_change c) q
change_writes_back c u was used h q =
    let there = has_state (state_before_all c.edits c.from u) h in
    inverses_write c.edits c.from u there.0 was.used.sound (carried_free c was) used.sound there.1 q
