-- Effects of edits on states as lists: the cells that edits write, their values, and what writing
-- them does.
use Rattle.std.proofs.Common.{◌≡◌, ℕ, ◌==◌, Option, List, [], ◌∷◌, ◌++◌, map, refl, sym, ap, ◌∙◌}
use Rattle.std.specs.FinMap.{entries}
use Rattle.iocm_types.specs.declared.key.Key.{Key}
use Rattle.iocm_types.specs.declared.live.Live.{Live}
use Rattle.iocm_types.specs.declared.place.NumberCell.{NumberCell}
use Rattle.iocm_types.specs.declared.sub_id.SubId.{SubId}
use Rattle.iocm_types.specs.Key.{key_cmp}
use Rattle.iocm_types.specs.Place.{cell_cmp}
use Rattle.iocm_types.specs.SubId.{sub_id_cmp}
use Rattle.iocm_types.specs.KeyOrder.{keys_total, keys_exact, cells_total, cells_exact, sub_ids_total, sub_ids_exact}
use Rattle.iocm_model.specs.Machine.Record.{Rec}
use Rattle.iocm_model.specs.Change.Maps.{with_cells}
use Rattle.iocm_model.specs.Machine.Numbering.{cells_of}
use Rattle.iocm_model.specs.Operation.State.{State}
use Rattle.iocm_model.specs.Change.Edit.{Edit, action_key, state_after}
use Rattle.iocm_model.specs.Change.Effect.{Cells, Effect, values_in, with_effect, no_cells, both_cells, cells_written}
use Rattle.iocm_model.specs.Change.Runs.{cells_written_by_all, state_after_all, effect_of, inverses}
use Rattle.iocm_examples.proofs.Listed.Maps.{put_cells, cells_found, keys_differing, entries-with_cells}
use Rattle.iocm_examples.proofs.Listed.Maps.{entries-cells_at, differing_seen}
use Rattle.iocm_examples.proofs.Listed.Views.{cells_listed, cells_seen, numbering_listed, numbering_seen}
use Rattle.iocm_examples.proofs.Listed.States.{ListedState, listing, same_by_listing, ListedEdit, edit_from}
use Rattle.iocm_examples.proofs.Listed.States.{state_after_listed, state_after_seen, altered_listed, altered_seen}
use Rattle.iocm_examples.proofs.Listed.States.{inverse_listed, inverse_seen}

-- an effect as lists in order
pub record ListedEffect : Type 0 where
  pub records : List (Key × Option Rec)
  pub numbers : List (NumberCell × Option ℕ)
  pub lives : List (SubId × Option Live)

-- an effect as it is listed
abbrev pub effect_listing : Effect → ListedEffect
effect_listing f = record { records = entries f.records; numbers = entries f.numbers; lives = entries f.lives }

-- these cells as they are in a state
unfoldable pub values_listed : ListedState → Cells → ListedEffect
values_listed x w = record {
  records = cells_found key_cmp x.records w.keys;
  numbers = cells_found cell_cmp (cells_listed x.numbers) w.numbers;
  lives = cells_found sub_id_cmp x.lives w.subchannels;
}

-- cells have in a state the values that they have in its lists
pub values_seen : (s : State) (w : Cells) → effect_listing (values_in s w) ≡ values_listed (listing s) w
unfolding values_listed
values_seen s w = λ i. record {
  records = entries-cells_at keys_total keys_exact s.config w.keys i;
  numbers = (entries-cells_at cells_total cells_exact (cells_of s.numbers) w.numbers
      ∙ ap (λ cells. cells_found cell_cmp cells w.numbers) (cells_seen s.numbers)) i;
  lives = entries-cells_at sub_ids_total sub_ids_exact s.lives w.subchannels i;
}

-- the state after an effect is written
unfoldable pub with_effect_listed : ListedEffect → ListedState → ListedState
with_effect_listed f x = record {
  records = put_cells key_cmp f.records x.records;
  numbers = numbering_listed (put_cells cell_cmp f.numbers (cells_listed x.numbers));
  lives = put_cells sub_id_cmp f.lives x.lives;
}

-- an effect does to a state what it does to its lists
pub with_effect_seen : (f : Effect) (s : State)
    → listing (with_effect f s) ≡ with_effect_listed (effect_listing f) (listing s)
unfolding with_effect_listed
with_effect_seen f s = λ i. record {
  records = entries-with_cells keys_total keys_exact (entries f.records) s.config i;
  numbers = (numbering_seen (with_cells (entries f.numbers) (cells_of s.numbers))
      ∙ ap numbering_listed (entries-with_cells cells_total cells_exact (entries f.numbers) (cells_of s.numbers)
      ∙ ap (put_cells cell_cmp (entries f.numbers)) (cells_seen s.numbers))) i;
  lives = entries-with_cells sub_ids_total sub_ids_exact (entries f.lives) s.lives i;
}

-- the cells that an edit writes, between two states
abbrev cells_to : ListedEdit → ListedState → ListedState → Cells
cells_to e x y = record {
  keys = action_key e.action ∷ [];
  numbers = keys_differing cell_cmp ◌==◌ (cells_listed x.numbers) (cells_listed y.numbers);
  subchannels = altered_listed x y;
}

-- the cells that an edit writes in a state
unfoldable pub edit_cells_listed : ListedEdit → ListedState → Cells
edit_cells_listed e x = cells_to e x (state_after_listed e x)

-- an edit writes in a state the cells that it writes in its lists
pub edit_cells_seen : (e : ListedEdit) (s : State) → cells_written (edit_from e) s ≡ edit_cells_listed e (listing s)
unfolding edit_cells_listed
edit_cells_seen e s =
    let t = state_after (edit_from e) s in
    (λ i. record {
      keys = action_key e.action ∷ [];
      numbers = (differing_seen cells_total cells_exact ◌==◌ (cells_of s.numbers) (cells_of t.numbers)
          ∙ (λ j. keys_differing cell_cmp ◌==◌ (cells_seen s.numbers j) (cells_seen t.numbers j))) i;
      subchannels = altered_seen s t i;
    }) ∙ ap (cells_to e (listing s)) (state_after_seen e s)

-- the edits of a list
abbrev pub edits_from : List ListedEdit → List Edit
edits_from es = map edit_from es

-- what edits do, one after the other, and the cells that they write
unfoldable pub state_after_all_listed : List ListedEdit → ListedState → ListedState
state_after_all_listed [] x = x
state_after_all_listed (e ∷ es) x = state_after_all_listed es (state_after_listed e x)

-- edits do to a state what they do to its lists
pub state_after_all_seen : (es : List ListedEdit) (s : State)
    → listing (state_after_all (edits_from es) s) ≡ state_after_all_listed es (listing s)
unfolding state_after_all_listed
state_after_all_seen [] s = refl
state_after_all_seen (e ∷ es) s =
    state_after_all_seen es (state_after (edit_from e) s) ∙ ap (state_after_all_listed es) (state_after_seen e s)

-- the cells that edits write, one after the other
unfoldable pub edits_cells_listed : List ListedEdit → ListedState → Cells
edits_cells_listed [] x = no_cells
edits_cells_listed (e ∷ es) x = both_cells (edit_cells_listed e x) (edits_cells_listed es (state_after_listed e x))

-- edits write in a state the cells that they write in its lists
pub edits_cells_seen : (es : List ListedEdit) (s : State)
    → cells_written_by_all (edits_from es) s ≡ edits_cells_listed es (listing s)
unfolding edits_cells_listed
edits_cells_seen [] s = refl
edits_cells_seen (e ∷ es) s =
    λ i. both_cells (edit_cells_seen e s i)
    ((edits_cells_seen es (state_after (edit_from e) s) ∙ ap (edits_cells_listed es) (state_after_seen e s)) i)

-- the effect of edits
abbrev pub effect_listed : List ListedEdit → ListedState → ListedEffect
effect_listed es x = values_listed (state_after_all_listed es x) (edits_cells_listed es x)

-- the effect of edits in a state is that in its lists
pub effect_seen : (es : List ListedEdit) (s : State)
    → effect_listing (effect_of (edits_from es) s) ≡ effect_listed es (listing s)
effect_seen es s = values_seen (state_after_all (edits_from es) s) (cells_written_by_all (edits_from es) s)
    ∙ (λ i. values_listed (state_after_all_seen es s i) (edits_cells_seen es s i))

-- the state after edits, and the cells that they write, of a state that is listed
pub state_after_all_is : (es : List ListedEdit) (s : State) (x : ListedState) → listing s ≡ x
    → listing (state_after_all (edits_from es) s) ≡ state_after_all_listed es x
state_after_all_is es s x is = state_after_all_seen es s ∙ ap (state_after_all_listed es) is

-- the cells that edits write, in a state that is listed
pub edits_cells_are : (es : List ListedEdit) (s : State) (x : ListedState) → listing s ≡ x
    → cells_written_by_all (edits_from es) s ≡ edits_cells_listed es x
edits_cells_are es s x is = edits_cells_seen es s ∙ ap (edits_cells_listed es) is

-- what edits wrote is put back by the values before
pub put_back : (es : List ListedEdit) (s : State) (x : ListedState) → listing s ≡ x
    → with_effect_listed (values_listed x (edits_cells_listed es x)) (state_after_all_listed es x) ≡ x
    → with_effect (values_in s (cells_written_by_all (edits_from es) s)) (state_after_all (edits_from es) s) ≡ s
put_back es s x is computed =
    let w = cells_written_by_all (edits_from es) s in
    let t = state_after_all (edits_from es) s in
    same_by_listing (with_effect (values_in s w) t) s (with_effect_seen (values_in s w) t
    ∙ (λ i. with_effect_listed ((values_seen s w ∙ (λ j. values_listed (is j) (edits_cells_are es s x is j))) i)
    (state_after_all_is es s x is i))
    ∙ computed ∙ sym is)

-- what edits do is what their effect writes
pub replayed : (es : List ListedEdit) (s : State) (x : ListedState) → listing s ≡ x
    → with_effect_listed (effect_listed es x) x ≡ state_after_all_listed es x
    → with_effect (effect_of (edits_from es) s) s ≡ state_after_all (edits_from es) s
replayed es s x is computed = same_by_listing (with_effect (effect_of (edits_from es) s) s)
    (state_after_all (edits_from es) s)
    (with_effect_seen (effect_of (edits_from es) s) s
    ∙ (λ i. with_effect_listed ((effect_seen es s ∙ ap (effect_listed es) is) i) (is i))
    ∙ computed ∙ sym (state_after_all_is es s x is))

-- the effect of edits of a state that is listed
pub effect_is : (es : List ListedEdit) (s : State) (x : ListedState) → listing s ≡ x
    → effect_listing (effect_of (edits_from es) s) ≡ effect_listed es x
effect_is es s x is = effect_seen es s ∙ ap (effect_listed es) is

-- the inverses of edits, the last first
unfoldable pub inverses_listed : List ListedEdit → ListedState → List ListedEdit
inverses_listed [] x = []
inverses_listed (e ∷ es) x = inverses_listed es (state_after_listed e x) ++ (inverse_listed e x ∷ [])

-- the edits of two lists, one after the other
edits_from-append : (es fs : List ListedEdit) → edits_from (es ++ fs) ≡ edits_from es ++ edits_from fs
edits_from-append [] fs = refl
edits_from-append (e ∷ es) fs = ap (λ rest. edit_from e ∷ rest) (edits_from-append es fs)

-- the inverses of edits in a state are those in its lists
pub inverses_seen : (es : List ListedEdit) (s : State)
    → inverses (edits_from es) s ≡ edits_from (inverses_listed es (listing s))
unfolding inverses_listed
inverses_seen [] s = refl
inverses_seen (e ∷ es) s =
    (λ i. (inverses_seen es (state_after (edit_from e) s)
    ∙ ap (λ x. edits_from (inverses_listed es x)) (state_after_seen e s)) i ++ (inverse_seen e s i ∷ []))
    ∙ sym (edits_from-append (inverses_listed es (state_after_listed e (listing s)))
    (inverse_listed e (listing s) ∷ []))
