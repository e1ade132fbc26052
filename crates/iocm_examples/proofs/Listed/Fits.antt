-- Whether a change fits a state, on lists.
use Rattle.std.proofs.Common.{◌≡◌, ◌==◌, Bool, false, ◌&&◌, ◌||◌, not, is_some, Option, None, Some, List, [], ◌∷◌, ◌++◌}
use Rattle.std.proofs.Common.{map, if◌then◌else◌, refl, sym, ap, ◌∙◌}
use Rattle.std.specs.List.{list_all}
use Rattle.std.specs.Option.{option_map, option_and_then}
use Rattle.std.specs.declared.cmp.Ordering.{Ordering}
use Rattle.std.specs.FinMap.{FinMap, find, entries, entries_sorted, from_entries, get-entries}
use Rattle.iocm_types.specs.Key.{key_cmp}
use Rattle.iocm_types.specs.Place.{cell_cmp}
use Rattle.iocm_types.specs.SubId.{sub_id_cmp}
use Rattle.iocm_types.specs.KeyOrder.{sub_ids_total, sub_ids_exact}
use Rattle.iocm_model.specs.Machine.Numbering.{cells_of}
use Rattle.iocm_model.specs.Operation.State.{State, views_in}
use Rattle.iocm_model.specs.Change.Edit.{Edit, action_key, config_after, same_view, state_after}
use Rattle.iocm_model.specs.Change.Inverse.{inverse_of}
use Rattle.iocm_model.specs.Change.Refusal.{refusal_by_key}
use Rattle.iocm_history.specs.Fits.{goes_back_at, goes_back, is_barred, goes_back_in, state_before, state_before_all}
use Rattle.iocm_history.specs.Fits.{keeps_the_rules, fits}
use Rattle.iocm_history.specs.Change.{Change}
use Rattle.iocm_examples.proofs.Listed.Maps.{cond_seen, same_by_entries, entries_in_order}
use Rattle.iocm_examples.proofs.Listed.Views.{cells_listed, cells_seen, views_seen}
use Rattle.iocm_examples.proofs.Listed.Rules.{first_breach_listed, first_breach_seen}
use Rattle.iocm_examples.proofs.Listed.States.{ListedState, listing, views_at, ListedEdit, edit_from}
use Rattle.iocm_examples.proofs.Listed.States.{records_after_listed, records_seen, taken_listed, taken_seen}
use Rattle.iocm_examples.proofs.Listed.States.{state_after_listed, state_after_seen, inverse_to, inverse_listed}
use Rattle.iocm_examples.proofs.Listed.States.{inverse_seen}
use Rattle.iocm_examples.proofs.Listed.Effects.{edits_from}

-- cells go back, on lists
abbrev goes_back_on : {K X : Type 0} → (K → K → Ordering) → (X → X → Bool) → List (K × X) → List (K × X) → List (K × X)
    → List (K × X) → Bool
goes_back_on R same old new here there =
    list_all (λ key. goes_back_at same (find R key old) (find R key new) (find R key here) (find R key there))
    (map (λ e. e.0) old ++ (map (λ e. e.0) new ++ (map (λ e. e.0) here ++ map (λ e. e.0) there)))

-- maps go back as their entries do
goes_back_seen : {K X : Type 0} {R : K → K → Ordering} (same : X → X → Bool) (old new here there : FinMap R X)
    → goes_back same old new here there ≡ goes_back_on R same (entries old) (entries new) (entries here) (entries there)
goes_back_seen same old new here there = λ i.
    list_all (λ key. goes_back_at same (get-entries old key i) (get-entries new key i) (get-entries here key i)
    (get-entries there key i))
    (map (λ e. e.0) (entries old)
    ++ (map (λ e. e.0) (entries new) ++ (map (λ e. e.0) (entries here) ++ map (λ e. e.0) (entries there))))

-- an edit is refused though every subchannel be quiet
abbrev barred_listed : ListedEdit → ListedState → Bool
barred_listed e x = is_some (refusal_by_key e.action (is_some (find key_cmp (action_key e.action) x.records)))
    || taken_listed (records_after_listed e.action x.records) x.numbers e.places

barred_seen : (e : ListedEdit) (s : State) → is_barred (edit_from e) s ≡ barred_listed e (listing s)
barred_seen e s =
    let taken = taken_seen (config_after e.action s.config) s.numbers e.places
    ∙ ap (λ es. taken_listed es (entries s.numbers) e.places) (records_seen e.action s.config) in
    λ i. is_some (refusal_by_key e.action (is_some (get-entries s.config (action_key e.action) i))) || taken i

-- an edit goes back: between the states before and after it, with its inverse, and between the
-- states before and after that
abbrev back_between : ListedState → ListedState → ListedEdit → ListedState → ListedState → Bool
back_between x t f y z = not (barred_listed f y)
    && goes_back_on cell_cmp ◌==◌ (cells_listed x.numbers) (cells_listed t.numbers) (cells_listed y.numbers)
    (cells_listed z.numbers)
    && goes_back_on sub_id_cmp same_view (views_at x) (views_at t) (views_at y) (views_at z)

abbrev before_between : ListedState → ListedState → ListedEdit → ListedState → ListedState → Option ListedState
before_between x t f y z = if back_between x t f y z then Some z else None

abbrev before_by : ListedState → ListedState → ListedEdit → ListedState → Option ListedState
before_by x t f y = before_between x t f y (state_after_listed f y)

abbrev before_from : ListedEdit → ListedState → ListedState → ListedState → Option ListedState
before_from e x t y = before_by x t (inverse_to e x t) y

-- the state that the inverse of an edit leaves, if it goes back
unfoldable pub before_listed : ListedEdit → ListedState → ListedState → Option ListedState
before_listed e x y = before_from e x (state_after_listed e x) y

before_seen : (e : ListedEdit) (s u : State)
    → option_map listing (state_before (edit_from e) s u) ≡ before_listed e (listing s) (listing u)
unfolding before_listed inverse_listed
before_seen e s u =
    let t = state_after (edit_from e) s in let f = inverse_listed e (listing s) in
    let z = state_after (edit_from f) u in
    let inverse = inverse_seen e s in
    let kept : goes_back_in (edit_from e) s u ≡ back_between (listing s) (listing t) f (listing u) (listing z) =
    (λ i. not (is_barred (inverse i) u)
    && goes_back ◌==◌ (cells_of s.numbers) (cells_of t.numbers) (cells_of u.numbers)
    (cells_of (state_after (inverse i) u).numbers)
    && goes_back same_view (views_in s) (views_in t) (views_in u) (views_in (state_after (inverse i) u)))
    ∙ (λ i. not (barred_seen f u i)
    && goes_back_seen ◌==◌ (cells_of s.numbers) (cells_of t.numbers) (cells_of u.numbers) (cells_of z.numbers) i
    && goes_back_seen same_view (views_in s) (views_in t) (views_in u) (views_in z) i)
    ∙ (λ i. not (barred_listed f (listing u))
    && goes_back_on cell_cmp ◌==◌ (cells_seen s.numbers i) (cells_seen t.numbers i) (cells_seen u.numbers i)
    (cells_seen z.numbers i)
    && goes_back_on sub_id_cmp same_view (views_seen s.config s.numbers i) (views_seen t.config t.numbers i)
    (views_seen u.config u.numbers i)
    (views_seen z.config z.numbers i)) in
    cond_seen (option_map listing) (goes_back_in (edit_from e) s u) (Some (state_after (inverse_of (edit_from e) s) u))
    None
    ∙ (λ i. if kept i then Some (listing (state_after (inverse i) u)) else None)
    ∙ (λ i. before_between (listing s) (state_after_seen e s i) f (listing u) (state_after_seen f u i))

-- the same of edits one after the other
unfoldable pub before_all_listed : List ListedEdit → ListedState → ListedState → Option ListedState
before_all_listed [] x y = Some y
before_all_listed (e ∷ es) x y = option_and_then (before_listed e x) (before_all_listed es (state_after_listed e x) y)

then_seen : (e : ListedEdit) (s : State) (o : Option State)
    → option_map listing (option_and_then (state_before (edit_from e) s) o)
    ≡ option_and_then (before_listed e (listing s)) (option_map listing o)
then_seen e s None = refl
then_seen e s (Some u) = before_seen e s u

before_all_seen : (es : List ListedEdit) (s u : State)
    → option_map listing (state_before_all (edits_from es) s u) ≡ before_all_listed es (listing s) (listing u)
unfolding before_all_listed
before_all_seen [] s u = refl
before_all_seen (e ∷ es) s u =
    then_seen e s (state_before_all (edits_from es) (state_after (edit_from e) s) u)
    ∙ ap (option_and_then (before_listed e (listing s))) (before_all_seen es (state_after (edit_from e) s) u
    ∙ ap (λ x. before_all_listed es x (listing u)) (state_after_seen e s))

-- there is a state, and the rules hold in it
abbrev keeps_listed : Option ListedState → Bool
keeps_listed (Some z) = not (is_some (first_breach_listed z.records z.numbers))
keeps_listed None = false

keeps_seen : (o : Option State) → keeps_the_rules o ≡ keeps_listed (option_map listing o)
keeps_seen (Some v) = ap (λ b. not (is_some b)) (first_breach_seen v.config v.numbers)
keeps_seen None = refl

-- whether edits fit
unfoldable pub fits_listed : List ListedEdit → ListedState → ListedState → Bool
fits_listed es x y = keeps_listed (before_all_listed es x y)

-- an edit, and edits, as they are listed
abbrev pub edit_listing : Edit → ListedEdit
edit_listing e = record { action = e.action; places = e.places; lives = entries e.lives }

abbrev pub edits_listing : List Edit → List ListedEdit
edits_listing es = map edit_listing es

edit_is : (e : Edit) → edit_from (edit_listing e) ≡ e
edit_is e =
    let lives = same_by_entries sub_ids_total sub_ids_exact (from_entries (entries e.lives)) e.lives
    (entries_in_order sub_id_cmp sub_ids_total sub_ids_exact (entries e.lives) (entries_sorted e.lives)) in
    λ i. record { action = e.action; places = e.places; lives = lives i }

pub edits_are : (es : List Edit) → edits_from (edits_listing es) ≡ es
edits_are [] = refl
edits_are (e ∷ es) = λ i. edit_is e i ∷ edits_are es i

-- a change fits a state as it does on lists
pub fits_seen : (c : Change) (u : State) → fits c u ≡ fits_listed (edits_listing c.edits) (listing c.from) (listing u)
unfolding fits_listed
fits_seen c u =
    ap (λ es. keeps_the_rules (state_before_all es c.from u)) (sym (edits_are c.edits))
    ∙ keeps_seen (state_before_all (edits_from (edits_listing c.edits)) c.from u)
    ∙ ap keeps_listed (before_all_seen (edits_listing c.edits) c.from u)
