-- The inverses of edits write the same cells as the edits.
use Rattle.std.proofs.Common.{◌≡◌, ℕ, Bool, true, false, not, ◌||◌, nat_eq, eq-eqb, eqb-true, List, [], ◌∷◌, ◌++◌}
use Rattle.std.proofs.Common.{Option, Some, None, refl, sym, ap, ◌∙◌}
use Rattle.std.specs.List.{list_any}
use Rattle.std.specs.Option.{option_eq}
use Rattle.std.specs.Ordering.{eq_by_cmp}
use Rattle.std.specs.FinMap.{get}
use Rattle.std.proofs.lemmas.List.Folds.{list_any-append}
use Rattle.std.proofs.Math.Bool.{or_assoc}
use Rattle.iocm_types.specs.declared.key.Key.{Key}
use Rattle.iocm_types.specs.declared.place.NumberCell.{NumberCell}
use Rattle.iocm_types.specs.declared.sub_id.SubId.{SubId}
use Rattle.iocm_types.specs.Key.{key_cmp}
use Rattle.iocm_types.specs.Place.{cell_cmp}
use Rattle.iocm_types.specs.SubId.{sub_id_cmp}
use Rattle.iocm_types.specs.KeyOrder.{cells_total, cells_exact}
use Rattle.iocm_model.specs.Machine.Numbering.{Numbering, cells_of}
use Rattle.iocm_model.specs.Change.Maps.{differing}
use Rattle.iocm_model.specs.Operation.State.{State, seen_in, views_of, IsSound, HasConfigAndNumbersOf}
use Rattle.iocm_model.specs.Change.Edit.{Edit, action_key, record_after, same_view, state_after, altered_between}
use Rattle.iocm_model.specs.Change.Inverse.{inverse_of}
use Rattle.iocm_model.specs.Change.Runs.{inverses, state_after_all, cells_written_by_all}
use Rattle.iocm_model.specs.Change.Effect.{Cells, no_cells, both_cells, cells_written}
use Rattle.iocm_model.specs.Laws.Runs.{HasSameCells, InversesWriteTheSame}
use Rattle.iocm_model.proofs.Maps.Cells.{in_differing}
use Rattle.iocm_model.proofs.Machine.OwnKeys.{keyed_own}
use Rattle.iocm_model.proofs.Change.SameViews.{sight_turned}
use Rattle.iocm_model.proofs.Change.EditsGoBack.{among_altered, back_key, given}
use Rattle.iocm_model.proofs.Change.RunsGoBack.{sound_after, run_back, one_back, given_like, seen_like}

-- ---- cells of a run that is followed by an edit

or_turned : (a b : Bool) → (a || b) ≡ (b || a)
or_turned true true = refl
or_turned true false = refl
or_turned false true = refl
or_turned false false = refl

or_none : (a : Bool) → (a || false) ≡ a
or_none true = refl
or_none false = refl

abbrev in_keys : Key → Cells → Bool
in_keys k w = list_any (eq_by_cmp key_cmp k) w.keys

abbrev in_numbers : NumberCell → Cells → Bool
in_numbers c w = list_any (eq_by_cmp cell_cmp c) w.numbers

abbrev in_subchannels : SubId → Cells → Bool
in_subchannels x w = list_any (eq_by_cmp sub_id_cmp x) w.subchannels

-- the same cells as two together
record IsOfBoth (w a b : Cells) : Type 0 where
  keys : (k : Key) → in_keys k w ≡ (in_keys k a || in_keys k b)
  numbers : (c : NumberCell) → in_numbers c w ≡ (in_numbers c a || in_numbers c b)
  subchannels : (x : SubId) → in_subchannels x w ≡ (in_subchannels x a || in_subchannels x b)

joined_cells : (a b : Cells) → IsOfBoth (both_cells a b) a b
joined_cells a b = record {
  keys = λ k. list_any-append (eq_by_cmp key_cmp k) a.keys b.keys;
  numbers = λ c. list_any-append (eq_by_cmp cell_cmp c) a.numbers b.numbers;
  subchannels = λ x. list_any-append (eq_by_cmp sub_id_cmp x) a.subchannels b.subchannels;
}

regrouped : (w a m b c f : Bool) → w ≡ (a || m) → m ≡ (b || c) → f ≡ (a || b) → w ≡ (f || c)
regrouped w a m b c f all more front = all ∙ ap (λ z. a || z) more ∙ sym (or_assoc a b c) ∙ ap (λ z. z || c) (sym front)

-- the cells of a run and then an edit
last_cells : (es : List Edit) (f : Edit) (u : State)
    → IsOfBoth (cells_written_by_all (es ++ (f ∷ [])) u) (cells_written_by_all es u)
    (cells_written f (state_after_all es u))
last_cells [] f u =
    let all = joined_cells (cells_written f u) no_cells in
    record {
      keys = λ k. all.keys k ∙ or_none (in_keys k (cells_written f u));
      numbers = λ c. all.numbers c ∙ or_none (in_numbers c (cells_written f u));
      subchannels = λ x. all.subchannels x ∙ or_none (in_subchannels x (cells_written f u));
    }
last_cells (e ∷ es) f u =
    let first = cells_written e u in let most = cells_written_by_all (es ++ (f ∷ [])) (state_after e u) in
    let middle = cells_written_by_all es (state_after e u) in let last =
    cells_written f (state_after_all es (state_after e u)) in
    let all = joined_cells first most in let more = last_cells es f (state_after e u) in let front =
    joined_cells first middle in
    record {
      keys = λ k. regrouped (in_keys k (both_cells first most)) (in_keys k first) (in_keys k most) (in_keys k middle)
          (in_keys k last)
          (in_keys k (both_cells first middle)) (all.keys k) (more.keys k) (front.keys k);
      numbers = λ c. regrouped (in_numbers c (both_cells first most)) (in_numbers c first) (in_numbers c most)
          (in_numbers c middle) (in_numbers c last)
          (in_numbers c (both_cells first middle)) (all.numbers c) (more.numbers c) (front.numbers c);
      subchannels = λ x. regrouped (in_subchannels x (both_cells first most)) (in_subchannels x first)
          (in_subchannels x most) (in_subchannels x middle)
          (in_subchannels x last) (in_subchannels x (both_cells first middle)) (all.subchannels x) (more.subchannels x)
          (front.subchannels x);
    }

-- ---- one inverse

same_turned : (a b : Option ℕ) → option_eq nat_eq a b ≡ option_eq nat_eq b a
same_turned None None = refl
same_turned None (Some y) = refl
same_turned (Some x) None = refl
same_turned (Some x) (Some y) = by (nat_eq x y) refl
  where
    by : (b : Bool) → nat_eq x y ≡ b → b ≡ nat_eq y x
    by true e = sym (eq-eqb y x (sym (eqb-true x y e)))
    by false e = turn (nat_eq y x) refl
      where
        turn : (c : Bool) → nat_eq y x ≡ c → false ≡ c
        turn false f = refl
        turn true f = let other : nat_eq x y ≡ true = eq-eqb x y (sym (eqb-true y x f)) in cc

numbers_turned : (n m : Numbering) (c : NumberCell)
    → list_any (eq_by_cmp cell_cmp c) (differing nat_eq (cells_of n) (cells_of m))
    ≡ list_any (eq_by_cmp cell_cmp c) (differing nat_eq (cells_of m) (cells_of n))
numbers_turned n m c = in_differing cells_total cells_exact nat_eq (cells_of n) (cells_of m) c
    ∙ ap not (same_turned (get (cells_of n) c) (get (cells_of m) c))
    ∙ sym (in_differing cells_total cells_exact nat_eq (cells_of m) (cells_of n) c)

-- the inverse of an edit writes what the edit wrote
inverse_cells : (e : Edit) (s v : State) → IsSound s → HasConfigAndNumbersOf v (state_after e s)
    → HasSameCells (cells_written (inverse_of e s) v) (cells_written e s)
inverse_cells e s v sound like =
    let t = state_after e s in let k = action_key e.action in
    let there : state_after (inverse_of e s) v ≡ given s s.lives (altered_between s t) v = one_back e s v sound like in
    let key : action_key (inverse_of e s).action ≡ k =
    back_key k (get s.config k) (record_after e.action) (keyed_own s.config sound.keyed k) in
    record {
      keys = λ q i. list_any (eq_by_cmp key_cmp q) (key i ∷ []);
      numbers = λ c. (λ i. list_any (eq_by_cmp cell_cmp c)
          (differing nat_eq (cells_of (like.numbers i)) (cells_of (there i).numbers)))
          ∙ numbers_turned t.numbers s.numbers c;
      subchannels = λ x. among_altered v (state_after (inverse_of e s) v) x
          ∙ (λ i. not (option_eq same_view (get (views_of (like.config i) (like.numbers i)) x) (seen_in (there i) x)))
          ∙ ap not (sight_turned (seen_in t x) (seen_in s x)) ∙ sym (among_altered s t x);
    }

-- ---- and of a run

turned_over : (w a b c d f : Bool) → w ≡ (a || b) → a ≡ c → b ≡ d → f ≡ (d || c) → w ≡ f
turned_over w a b c d f all front last forth = all ∙ (λ i. front i || last i) ∙ or_turned c d ∙ sym forth

pub inverses_write_the_same : InversesWriteTheSame
inverses_write_the_same [] s u sound free like =
    record { keys = λ k. refl; numbers = λ c. refl; subchannels = λ x. refl }
inverses_write_the_same (e ∷ es) s u sound free like =
    let t = state_after e s in let sound_t = sound_after e s sound free.0 in
    let later = (cells_written_by_all es t).subchannels in
    let v = given t t.lives later u in
    let there : state_after_all (inverses es t) u ≡ v = run_back es t u sound_t free.1 like in
    let like_v : HasConfigAndNumbersOf v t = given_like t u later sound_t.lived (seen_like es t u like) in
    let all = last_cells (inverses es t) (inverse_of e s) u in
    let front = inverses_write_the_same es t u sound_t free.1 like in
    let last = inverse_cells e s v sound like_v in
    let forth = joined_cells (cells_written e s) (cells_written_by_all es t) in
    let back = cells_written (inverse_of e s) (state_after_all (inverses es t) u) in
    record {
      keys = λ k. turned_over (in_keys k (cells_written_by_all (inverses (e ∷ es) s) u))
          (in_keys k (cells_written_by_all (inverses es t) u)) (in_keys k back)
          (in_keys k (cells_written_by_all es t)) (in_keys k (cells_written e s))
          (in_keys k (both_cells (cells_written e s) (cells_written_by_all es t)))
          (all.keys k) (front.keys k) ((λ i. in_keys k (cells_written (inverse_of e s) (there i))) ∙ last.keys k)
          (forth.keys k);
      numbers = λ c. turned_over (in_numbers c (cells_written_by_all (inverses (e ∷ es) s) u))
          (in_numbers c (cells_written_by_all (inverses es t) u)) (in_numbers c back)
          (in_numbers c (cells_written_by_all es t)) (in_numbers c (cells_written e s))
          (in_numbers c (both_cells (cells_written e s) (cells_written_by_all es t)))
          (all.numbers c) (front.numbers c)
          ((λ i. in_numbers c (cells_written (inverse_of e s) (there i))) ∙ last.numbers c) (forth.numbers c);
      subchannels = λ x. turned_over (in_subchannels x (cells_written_by_all (inverses (e ∷ es) s) u))
          (in_subchannels x (cells_written_by_all (inverses es t) u))
          (in_subchannels x back) (in_subchannels x (cells_written_by_all es t)) (in_subchannels x (cells_written e s))
          (in_subchannels x (both_cells (cells_written e s) (cells_written_by_all es t)))
          (all.subchannels x) (front.subchannels x)
          ((λ i. in_subchannels x (cells_written (inverse_of e s) (there i))) ∙ last.subchannels x)
          (forth.subchannels x);
    }
