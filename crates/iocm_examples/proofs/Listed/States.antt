-- States as lists: what edits and steps do to them, and when an edit is refused.
use Rattle.std.proofs.Common.{◌≡◌, ℕ, ◌&&◌, ◌||◌, Bool, not, is_some, Option, None, Some, List, map, filter}
use Rattle.std.proofs.Common.{if◌then◌else◌, refl, sym, ap, ◌∙◌}
use Rattle.std.specs.List.{filter_map, list_any}
use Rattle.std.specs.Option.{option_map, option_or, option_eq, option_zip}
use Rattle.std.specs.FinMap.{get, find, put, entries, entries_sorted, from_entries, retain_keys, get-entries}
use Rattle.std.specs.FinMap.{entries-insert}
use Rattle.std.specs.FinMap.Entries.{where_key, is_sorted-where_key}
use Rattle.std.specs.List as lists
use Rattle.iocm_types.specs.declared.key.Key.{Key}
use Rattle.iocm_types.specs.declared.live.Live.{Live}
use Rattle.iocm_types.specs.declared.place.Place.{Place}
use Rattle.iocm_types.specs.declared.sub_id.SubId.{SubId}
use Rattle.iocm_types.specs.declared.view.View.{View}
use Rattle.iocm_types.specs.declared.answer.Answer.{Answer}
use Rattle.iocm_types.specs.declared.refused.Refused.{Refused}
use Rattle.iocm_types.specs.declared.rule.Rule.TheVariants.{E4}
use Rattle.iocm_types.specs.Key.{key_cmp}
use Rattle.iocm_types.specs.Place.{place_cmp}
use Rattle.iocm_types.specs.SubId.{sub_id_cmp}
use Rattle.iocm_types.specs.KeyOrder.{keys_total, keys_exact, places_total, places_exact, sub_ids_total, sub_ids_exact}
use Rattle.iocm_types.specs.declared.refused.At.TheVariants as at
use Rattle.iocm_model.specs.Machine.Configuration.{Configuration}
use Rattle.iocm_model.specs.Machine.Numbering.{Numbering, opening, is_reached_at, reached_places}
use Rattle.iocm_model.specs.Change.Renumbering.{numbers_after}
use Rattle.iocm_model.specs.Machine.View.{views}
use Rattle.iocm_model.specs.Operation.State.{State, seen_in, Lives, Views, views_of, views_in, fresh_row, opening_state}
use Rattle.iocm_model.specs.Change.Edit.{Action, Edit, action_key, record_after, config_after, same_view}
use Rattle.iocm_model.specs.Change.Edit.{live_after_edit, lives_after_edit, state_after, altered_between, is_altered}
use Rattle.iocm_model.specs.Change.Refusal.{refusal_at, refusal_by_key, same_cell, has_cell_twice, is_number_taken}
use Rattle.iocm_model.specs.Change.Refusal.{is_not_quiet, first_not_quiet, refusal_by_subchannel, refusal_of}
use Rattle.iocm_model.specs.Change.Inverse.{action_back, inverse_of}
use Rattle.iocm_model.specs.Operation.Step.{Step, subchannel_in, step_answer, answer_in, live_after_step}
use Rattle.iocm_model.specs.Operation.Step.{lives_after_step, after_step}
use Rattle.iocm_examples.proofs.Listed.Maps.{entries_in_order, put_all, put_or_without, keys_differing, same_by_entries}
use Rattle.iocm_examples.proofs.Listed.Maps.{entries-from_entries, entries-retain_keys, entries-with_value}
use Rattle.iocm_examples.proofs.Listed.Maps.{differing_seen}
use Rattle.iocm_examples.proofs.Listed.Views.{Records, Numbers, ViewList, is_place_in, places_listed, places_seen}
use Rattle.iocm_examples.proofs.Listed.Views.{opening_listed, opening_seen, rows_listed, rows_seen, views_listed}
use Rattle.iocm_examples.proofs.Listed.Views.{views_seen, numbers_after_listed, numbers_after_seen}

-- live records as a list
abbrev pub LiveList : Type 0
LiveList = List (SubId × Live)

-- a state as lists in order
pub record ListedState : Type 0 where
  pub records : Records
  pub numbers : Numbers
  pub lives : LiveList

-- a state as it is listed
abbrev pub listing : State → ListedState
listing s = record { records = entries s.config; numbers = entries s.numbers; lives = entries s.lives }

-- two states that are listed alike are one
pub same_by_listing : (s t : State) → listing s ≡ listing t → s ≡ t
same_by_listing s t is = λ i. record {
  config = same_by_entries keys_total keys_exact s.config t.config (ap (λ (x : ListedState). x.records) is) i;
  numbers = same_by_entries places_total places_exact s.numbers t.numbers (ap (λ (x : ListedState). x.numbers) is) i;
  lives = same_by_entries sub_ids_total sub_ids_exact s.lives t.lives (ap (λ (x : ListedState). x.lives) is) i;
}

-- what is seen in a state
abbrev pub views_at : ListedState → ViewList
views_at x = views_listed x.records x.numbers

-- a state at opening
abbrev opening_state_with : Records → Numbers → ListedState
opening_state_with es n =
    record { records = es; numbers = n; lives = put_all sub_id_cmp (map fresh_row (rows_listed es n)) }

-- the state at opening of these records
unfoldable pub opening_state_listed : Records → ListedState
opening_state_listed es = opening_state_with es (opening_listed es)

-- a configuration opens as its entries do
pub opening_state_seen : (c : Configuration) → listing (opening_state c) ≡ opening_state_listed (entries c)
unfolding opening_state_listed
opening_state_seen c = λ i. record {
  records = entries c;
  numbers = opening_seen c i;
  lives = (entries-from_entries sub_ids_total sub_ids_exact (map fresh_row (views c (opening c)))
      ∙ ap (λ rows. put_all sub_id_cmp (map fresh_row rows))
      (rows_seen c (opening c) ∙ ap (rows_listed (entries c)) (opening_seen c))) i;
}

-- an edit with its live records in a list
pub record ListedEdit : Type 0 where
  pub action : Action
  pub places : List (Place × ℕ)
  pub lives : LiveList

-- the edit whose live records are those of the list
abbrev pub edit_from : ListedEdit → Edit
edit_from e = record { action = e.action; places = e.places; lives = from_entries e.lives }

-- the live records after the views have changed
abbrev lives_by : (SubId → Option View) → ViewList → (SubId → Option Live) → (SubId → Option Live) → LiveList
lives_by old new carried lives = put_all sub_id_cmp (filter_map
    (λ (e : SubId × View). option_map (λ (l : Live). (e.0, l))
    (live_after_edit (old e.0) e.1 (carried e.0) (lives e.0))) new)

-- the live records after the views have changed, on lists
abbrev pub lives_listed : ViewList → ViewList → LiveList → LiveList → LiveList
lives_listed old new carried lives =
    lives_by (λ x. find sub_id_cmp x old) new (λ x. find sub_id_cmp x carried) (λ x. find sub_id_cmp x lives)

-- live records change as their entries do
lives_seen : (old new : Views) (carried lives : Lives)
    → entries (lives_after_edit old new carried lives)
    ≡ lives_listed (entries old) (entries new) (entries carried) (entries lives)
lives_seen old new carried lives = entries-from_entries sub_ids_total sub_ids_exact _
    ∙ (λ i. lives_by (λ x. get-entries old x i) (entries new) (λ x. get-entries carried x i)
    (λ x. get-entries lives x i))

-- the records after an action, and the state after an edit
abbrev pub records_after_listed : Action → Records → Records
records_after_listed a es = put_or_without key_cmp (action_key a) (record_after a) es

-- a state after an edit, with these records and numbers
abbrev state_after_with : ListedEdit → ListedState → Records → Numbers → ListedState
state_after_with e x es n =
    record {
      records = es;
      numbers = n;
      lives = lives_listed (views_at x) (views_listed es n) (put_all sub_id_cmp e.lives) x.lives;
    }

-- a state after an edit, with these records
abbrev state_after_from : ListedEdit → ListedState → Records → ListedState
state_after_from e x es = state_after_with e x es (numbers_after_listed es e.places x.numbers)

-- a state after an edit
unfoldable pub state_after_listed : ListedEdit → ListedState → ListedState
state_after_listed e x = state_after_from e x (records_after_listed e.action x.records)

-- an action does to a configuration what it does to its entries
pub records_seen : (a : Action) (c : Configuration) → entries (config_after a c) ≡ records_after_listed a (entries c)
records_seen a c = entries-with_value keys_total keys_exact c (action_key a) (record_after a)

-- an edit does to the numbers of a state what it does to their entries
numbers_seen : (e : ListedEdit) (s : State)
    → entries (numbers_after (config_after e.action s.config) e.places s.numbers)
    ≡ numbers_after_listed (records_after_listed e.action (entries s.config)) e.places (entries s.numbers)
numbers_seen e s = numbers_after_seen (config_after e.action s.config) e.places s.numbers
    ∙ ap (λ es. numbers_after_listed es e.places (entries s.numbers)) (records_seen e.action s.config)

-- an edit does to a state what it does to its lists
pub state_after_seen : (e : ListedEdit) (s : State)
    → listing (state_after (edit_from e) s) ≡ state_after_listed e (listing s)
unfolding state_after_listed
state_after_seen e s =
    let c = config_after e.action s.config in
    let n = numbers_after c e.places s.numbers in
    λ i. record {
      records = records_seen e.action s.config i;
      numbers = numbers_seen e s i;
      lives = (lives_seen (views_in s) (views_of c n) (from_entries e.lives) s.lives
          ∙ (λ j. lives_listed (views_seen s.config s.numbers j)
          ((views_seen c n ∙ (λ k. views_listed (records_seen e.action s.config k) (numbers_seen e s k))) j)
          (entries-from_entries sub_ids_total sub_ids_exact e.lives j) (entries s.lives))) i;
    }

-- the subchannels whose views differ
abbrev pub altered_listed : ListedState → ListedState → List SubId
altered_listed x y = keys_differing sub_id_cmp same_view (views_at x) (views_at y)

-- the subchannels that are altered between two states are those of their lists
pub altered_seen : (s t : State) → altered_between s t ≡ altered_listed (listing s) (listing t)
altered_seen s t = differing_seen sub_ids_total sub_ids_exact same_view (views_in s) (views_in t)
    ∙ (λ i. keys_differing sub_id_cmp same_view (views_seen s.config s.numbers i) (views_seen t.config t.numbers i))

-- a carried number is taken
abbrev taken_of : List (Place × ℕ) → Numbers → Bool
taken_of arriving staying = list_any (λ p. list_any (same_cell p) staying) arriving || has_cell_twice arriving

-- by the places that are reached, the numbers and those of devices that stay
abbrev taken_by : List Place → (Place → Option ℕ) → Numbers → List (Place × ℕ) → Bool
taken_by places number_at staying carried =
    taken_of (filter (λ (e : Place × ℕ). is_place_in places e.0 && not (is_some (number_at e.0))) carried) staying

-- among these numbers
abbrev taken_in : Numbers → List (Place × ℕ) → List Place → Bool
taken_in n carried places =
    taken_by places (λ p. find place_cmp p n) (where_key place_cmp (is_place_in places) n) carried

-- among these numbers, once the records are these
abbrev pub taken_listed : Records → Numbers → List (Place × ℕ) → Bool
taken_listed es n carried = taken_in n carried (places_listed es)

-- a carried number is taken in a numbering as it is in its entries
pub taken_seen : (c : Configuration) (n : Numbering) (carried : List (Place × ℕ))
    → is_number_taken c n carried ≡ taken_listed (entries c) (entries n) carried
taken_seen c n carried =
    (λ i. taken_by (reached_places c) (λ p. get-entries n p i)
    (entries-retain_keys places_total places_exact n (is_reached_at c) i) carried)
    ∙ ap (taken_in (entries n) carried) (places_seen c)

-- the first subchannel that isn't quiet
abbrev busy_by : (SubId → Option Live) → List SubId → Option SubId
busy_by live_at xs = lists.find (λ x. is_not_quiet (live_at x)) xs

-- among these live records
abbrev pub busy_listed : LiveList → List SubId → Option SubId
busy_listed lives xs = busy_by (λ x. find sub_id_cmp x lives) xs

-- the first subchannel that isn't quiet is that of the list
pub busy_seen : (lives : Lives) (xs : List SubId) → first_not_quiet lives xs ≡ busy_listed (entries lives) xs
busy_seen lives xs = λ i. busy_by (λ x. get-entries lives x i) xs

-- why an edit is refused
abbrev refusal_by : Action → Bool → Bool → Option SubId → Option Refused
refusal_by a there taken busy = option_or (refusal_by_key a there)
    (option_or (if taken then Some (refusal_at E4 (at.Key (action_key a))) else None) (refusal_by_subchannel busy))

-- why an edit is refused in a state, on lists
unfoldable pub refusal_listed : ListedEdit → ListedState → Option Refused
refusal_listed e x = refusal_by e.action (is_some (find key_cmp (action_key e.action) x.records))
    (taken_listed (records_after_listed e.action x.records) x.numbers e.places)
    (busy_listed x.lives (altered_listed x (state_after_listed e x)))

-- an edit is refused in a state as it is in its lists
pub refusal_seen : (e : ListedEdit) (s : State) → refusal_of (edit_from e) s ≡ refusal_listed e (listing s)
unfolding refusal_listed
refusal_seen e s =
    let t = state_after (edit_from e) s in
    let taken = taken_seen (config_after e.action s.config) s.numbers e.places
    ∙ ap (λ es. taken_listed es (entries s.numbers) e.places) (records_seen e.action s.config) in
    let busy = busy_seen s.lives (altered_between s t)
    ∙ ap (busy_listed (entries s.lives)) (altered_seen s t ∙ ap (altered_listed (listing s)) (state_after_seen e s)) in
    λ i. refusal_by e.action (is_some (get-entries s.config (action_key e.action) i)) (taken i) (busy i)

-- the inverse of an edit, between two states
abbrev kept_by : (SubId → Option View) → (SubId → Option View) → LiveList → LiveList
kept_by old new lives = where_key sub_id_cmp (λ x. not (option_eq same_view (old x) (new x))) lives

-- the live records of the subchannels whose views differ
abbrev kept_listed : ViewList → ViewList → LiveList → LiveList
kept_listed v w lives = kept_by (λ x. find sub_id_cmp x v) (λ x. find sub_id_cmp x w) lives

-- the inverse of an edit, between two states
abbrev pub inverse_to : ListedEdit → ListedState → ListedState → ListedEdit
inverse_to e x y = record {
  action = action_back (action_key e.action) (find key_cmp (action_key e.action) x.records) (record_after e.action);
  places = filter (λ (p : Place × ℕ). not (is_some (find place_cmp p.0 y.numbers))) x.numbers;
  lives = kept_listed (views_at x) (views_at y) x.lives;
}

-- the inverse of an edit in a state
unfoldable pub inverse_listed : ListedEdit → ListedState → ListedEdit
inverse_listed e x = inverse_to e x (state_after_listed e x)

-- the live records of the subchannels that are altered
kept_seen : (s t : State)
    → retain_keys s.lives (is_altered s t)
    ≡ from_entries (kept_listed (views_at (listing s)) (views_at (listing t)) (entries s.lives))
kept_seen s t = same_by_entries sub_ids_total sub_ids_exact _ _
    (entries-retain_keys sub_ids_total sub_ids_exact s.lives (is_altered s t)
    ∙ sym (entries_in_order sub_id_cmp sub_ids_total sub_ids_exact _
    (is_sorted-where_key sub_id_cmp (is_altered s t) (entries s.lives) (entries_sorted s.lives))))
    ∙ (λ i. from_entries (kept_by (λ x. get-entries (views_in s) x i) (λ x. get-entries (views_in t) x i)
    (entries s.lives)))
    ∙ (λ i. from_entries (kept_listed (views_seen s.config s.numbers i) (views_seen t.config t.numbers i)
    (entries s.lives)))

-- the inverse of an edit in a state is that in its lists
pub inverse_seen : (e : ListedEdit) (s : State) → inverse_of (edit_from e) s ≡ edit_from (inverse_listed e (listing s))
unfolding inverse_listed
inverse_seen e s =
    let t = state_after (edit_from e) s in
    (λ i. record {
      action = action_back (action_key e.action) (get-entries s.config (action_key e.action) i) (record_after e.action);
      places = filter (λ (p : Place × ℕ). not (is_some (get-entries t.numbers p.0 i))) (entries s.numbers);
      lives = kept_seen s t i;
    }) ∙ ap (λ y. edit_from (inverse_to e (listing s) y)) (state_after_seen e s)

-- a subchannel as it is
abbrev subchannel_listed : ListedState → SubId → Option (View × Live)
subchannel_listed x at = option_zip (find sub_id_cmp at (views_at x)) (find sub_id_cmp at x.lives)

-- a subchannel is in a state as it is in its lists
pub subchannel_seen : (s : State) (x : SubId) → subchannel_in s x ≡ subchannel_listed (listing s) x
subchannel_seen s x =
    λ i. option_zip ((get-entries (views_in s) x ∙ ap (find sub_id_cmp x) (views_seen s.config s.numbers)) i)
    (get-entries s.lives x i)

-- what is seen at a subchannel, and its live record, in a state that is listed
pub seen_at_is : (s : State) (y : ListedState) (x : SubId) → listing s ≡ y
    → seen_in s x ≡ find sub_id_cmp x (views_at y)
seen_at_is s y x is =
    get-entries (views_in s) x ∙ ap (find sub_id_cmp x) (views_seen s.config s.numbers)
    ∙ ap (λ z. find sub_id_cmp x (views_at z)) is

-- the live record at a subchannel, in a state that is listed
pub live_at_is : (s : State) (y : ListedState) (x : SubId) → listing s ≡ y → get s.lives x ≡ find sub_id_cmp x y.lives
live_at_is s y x is = get-entries s.lives x ∙ ap (λ (z : ListedState). find sub_id_cmp x z.lives) is

-- the record of a key, in a state that is listed
pub record_at_is : (s : State) (y : ListedState) (key : Key) → listing s ≡ y
    → get s.config key ≡ find key_cmp key y.records
record_at_is s y key is = get-entries s.config key ∙ ap (λ (z : ListedState). find key_cmp key z.records) is

-- the number of a place, in a state that is listed
pub number_at_is : (s : State) (y : ListedState) (p : Place) → listing s ≡ y
    → get s.numbers p ≡ find place_cmp p y.numbers
number_at_is s y p is = get-entries s.numbers p ∙ ap (λ (z : ListedState). find place_cmp p z.numbers) is

-- the answer to a step
unfoldable pub answer_listed : ListedState → SubId → Step → Answer
answer_listed x at step = step_answer step (subchannel_listed x at)

-- a step is answered in a state as it is in its lists
pub answer_seen : (s : State) (x : SubId) (step : Step) → answer_in s x step ≡ answer_listed (listing s) x step
unfolding answer_listed
answer_seen s x step = ap (step_answer step) (subchannel_seen s x)

-- the state after a step
abbrev lives_after_step_listed : SubId → Step → Option (View × Live) → LiveList → LiveList
lives_after_step_listed at step (Some p) lives = put sub_id_cmp at (live_after_step step p.0 p.1) lives
lives_after_step_listed at step None lives = lives

-- the lists of a state after a step
unfoldable pub after_step_listed : SubId → Step → ListedState → ListedState
after_step_listed at step x =
    record {
      records = x.records;
      numbers = x.numbers;
      lives = lives_after_step_listed at step (subchannel_listed x at) x.lives;
    }

-- a step does to live records what it does to their entries
lives_after_step_seen : (x : SubId) (step : Step) (o : Option (View × Live)) (lives : Lives)
    → entries (lives_after_step x step o lives) ≡ lives_after_step_listed x step o (entries lives)
lives_after_step_seen x step (Some p) lives = entries-insert sub_ids_total lives x (live_after_step step p.0 p.1)
lives_after_step_seen x step None lives = refl

-- a step does to a state what it does to its lists
pub after_step_seen : (x : SubId) (step : Step) (s : State)
    → listing (after_step x step s) ≡ after_step_listed x step (listing s)
unfolding after_step_listed
after_step_seen x step s = λ i. record {
  records = entries s.config;
  numbers = entries s.numbers;
  lives = (lives_after_step_seen x step (subchannel_in s x) s.lives
      ∙ ap (λ o. lives_after_step_listed x step o (entries s.lives)) (subchannel_seen s x)) i;
}

-- an answer and a step, in a state that is listed
pub answer_is : (s : State) (y : ListedState) (x : SubId) (step : Step) → listing s ≡ y
    → answer_in s x step ≡ answer_listed y x step
answer_is s y x step is = answer_seen s x step ∙ ap (λ z. answer_listed z x step) is

-- a step, in a state that is listed
pub after_step_is : (x : SubId) (step : Step) (s : State) (y : ListedState) → listing s ≡ y
    → listing (after_step x step s) ≡ after_step_listed x step y
after_step_is x step s y is = after_step_seen x step s ∙ ap (after_step_listed x step) is
