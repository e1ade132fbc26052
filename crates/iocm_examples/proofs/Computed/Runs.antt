-- How runs of calls on the example deck are computed on histories as lists.
use Rattle.std.proofs.Common.{◌≡◌, ℕ, true, List, [], ◌∷◌, map, reverse, take, drop, refl, sym, ap, ◌∙◌}
use Rattle.std.proofs.lemmas.List.{drop-map}
use Rattle.std.specs.FinMap.{get, find, get-entries}
use Rattle.iocm_types.specs.declared.key.Key.{Key}
use Rattle.iocm_types.specs.declared.order.Order.{Order}
use Rattle.iocm_types.specs.declared.order.Order.TheVariants.{Modify}
use Rattle.iocm_types.specs.declared.sub_id.SubId.{SubId}
use Rattle.iocm_types.specs.Key.{key_cmp}
use Rattle.iocm_types.specs.Place.{place_cmp, cell_cmp}
use Rattle.iocm_types.specs.SubId.{sub_id_cmp}
use Rattle.iocm_model.specs.Operation.Step.{order, device_end}
use Rattle.iocm_model.specs.Change.Renumbering.{gap_from}
use Rattle.iocm_model.specs.Rules.FirstBreach.{first_record, first_breach_of}
use Rattle.iocm_history.specs.MarkedEntry.{MarkedEntry}
use Rattle.iocm_history.specs.Store.{store_of}
use Rattle.iocm_history.specs.Account.{replay, marked_entries, state_at}
use Rattle.iocm_history.specs.Run.{run, answers_of}
use Rattle.iocm_examples.specs.Edits.{base_opened}
use Rattle.iocm_examples.specs.Histories.{number_of}
use Rattle.iocm_examples.specs.SelectiveUndo.{device_of}
use Rattle.iocm_examples.proofs.Listed.Views.{numbers_after_listed}
use Rattle.iocm_examples.proofs.Listed.States.{ListedState, listing, record_at_is, live_at_is, ListedEdit}
use Rattle.iocm_examples.proofs.Listed.States.{state_after_listed, inverse_listed, refusal_listed, after_step_listed}
use Rattle.iocm_examples.proofs.Listed.States.{answer_listed}
use Rattle.iocm_examples.proofs.Listed.Rules.{first_breach_listed}
use Rattle.iocm_examples.proofs.Listed.Fits.{before_listed, before_all_listed, fits_listed}
use Rattle.iocm_examples.proofs.Listed.Effects.{state_after_all_listed, edits_cells_listed, edit_cells_listed}
use Rattle.iocm_examples.proofs.Listed.Effects.{values_listed, with_effect_listed}
use Rattle.iocm_examples.proofs.Listed.Trees.{one, mean_listed, meaning_listed}
use Rattle.iocm_examples.proofs.Computed.Edits.{base_listing, base_is}
use Rattle.iocm_examples.proofs.Listed.Entries.{ListedLine, line_listing, lines_listing, strike_lines, restore_lines}
use Rattle.iocm_examples.proofs.Listed.Entries.{ListedStore, store_listing, store_in, replay_lines, store_by_seen}
use Rattle.iocm_examples.proofs.Listed.Entries.{state_by}
use Rattle.iocm_examples.proofs.Listed.Histories.{ListedCall, stepping, activating, calls_from, ListedHistory}
use Rattle.iocm_examples.proofs.Listed.Histories.{call_listed, calls_listed, ComeRight, uncalled, run_is, last_state_is}
use Rattle.iocm_examples.proofs.Listed.Histories.{first_come_right}

-- a change of one edit
abbrev pub changes : ListedEdit → ListedCall
changes e = activating (one e) (e ∷ [])

-- an order
abbrev pub ordered : SubId → Order → ListedCall
ordered x o = stepping x (order o)

-- a device end
abbrev pub ended : SubId → ListedCall
ended x = stepping x device_end

-- MODIFY with this mask and parameter, that enables
abbrev pub enabled : SubId → ℕ → ℕ → ListedCall
enabled x lpm parm = ordered x (Modify (record { enabled = true; lpm = lpm; parm = parm }))

-- the history that calls make on the example deck, with all that computes it unfolded
unfoldable pub made_by : List ListedCall → ListedHistory
unfolding base_listing meaning_listed mean_listed state_after_all_listed state_after_listed refusal_listed
    first_breach_listed numbers_after_listed gap_from
    first_record first_breach_of edits_cells_listed edit_cells_listed values_listed with_effect_listed after_step_listed
    answer_listed
    strike_lines restore_lines replay_lines call_listed calls_listed ComeRight before_listed before_all_listed
    fits_listed inverse_listed
made_by cs = calls_listed base_listing cs uncalled

-- its last state
abbrev pub left_by : List ListedCall → ListedState
left_by cs = state_by base_listing (made_by cs).marked

-- each call comes with the edits that it performs
abbrev pub AreRight : List ListedCall → Type 0
AreRight cs = ComeRight base_listing cs uncalled

-- the answers of a run are those of its listing
pub answers_are : (cs : List ListedCall) → AreRight cs
    → reverse (answers_of (run base_opened (calls_from cs))) ≡ reverse (made_by cs).answers
unfolding made_by
answers_are cs right = ap (λ (m : ListedHistory). reverse m.answers) (run_is base_opened base_listing base_is cs right)

-- the state after the first calls of a run is that of its listing
pub state_is : (n : ℕ) (cs : List ListedCall) → AreRight cs
    → listing (state_at base_opened (run base_opened (calls_from (take n cs)))) ≡ left_by (take n cs)
unfolding made_by
state_is n cs right = last_state_is base_opened base_listing base_is (take n cs)
    (first_come_right base_listing n cs uncalled right)

-- a listing has the marks of its lines
marks_seen : (ls : List MarkedEntry)
    → map (λ (l : MarkedEntry). l.mark) ls ≡ map (λ (l : ListedLine). l.mark) (lines_listing ls)
marks_seen [] = refl
marks_seen (l ∷ ls) = ap (λ ms. l.mark ∷ ms) (marks_seen ls)

-- the marks after the first calls of a run are those of its listing
pub marks_are : (n : ℕ) (cs : List ListedCall) → AreRight cs
    → reverse (map (λ (l : MarkedEntry). l.mark)
    (marked_entries base_opened (run base_opened (calls_from (take n cs)))))
    ≡ reverse (map (λ (l : ListedLine). l.mark) (made_by (take n cs)).marked)
unfolding made_by
marks_are n cs right = ap reverse (marks_seen (marked_entries base_opened (run base_opened (calls_from (take n cs))))
    ∙ ap (λ (m : ListedHistory). map (λ (l : ListedLine). l.mark) m.marked)
    (run_is base_opened base_listing base_is (take n cs) (first_come_right base_listing n cs uncalled right)))

-- the number of a device there
pub number_is : (n : ℕ) (cs : List ListedCall) → AreRight cs → (d : ℕ)
    → number_of d (state_at base_opened (run base_opened (calls_from (take n cs))))
    ≡ find place_cmp (record { css = 0; set = 0; device = d }) (left_by (take n cs)).numbers
number_is n cs right d = let s = state_at base_opened (run base_opened (calls_from (take n cs))) in
    get-entries s.numbers (record { css = 0; set = 0; device = d })
    ∙ ap (λ (y : ListedState). find place_cmp (record { css = 0; set = 0; device = d }) y.numbers) (state_is n cs right)

-- the record of a key there
pub record_is : (n : ℕ) (cs : List ListedCall) → AreRight cs → (key : Key)
    → get (state_at base_opened (run base_opened (calls_from (take n cs)))).config key
    ≡ find key_cmp key (left_by (take n cs)).records
record_is n cs right key = record_at_is _ _ key (state_is n cs right)

-- the live record of a subchannel there
pub live_is : (n : ℕ) (cs : List ListedCall) → AreRight cs → (x : SubId)
    → get (state_at base_opened (run base_opened (calls_from (take n cs)))).lives x
    ≡ find sub_id_cmp x (left_by (take n cs)).lives
live_is n cs right x = live_at_is _ _ x (state_is n cs right)

-- the cells of the entries after the first calls of a run, but the latest of these entries, are
-- those of its listing
pub cells_are : (n k : ℕ) (cs : List ListedCall) → AreRight cs
    → store_listing (replay (store_of base_opened)
    (drop k (marked_entries base_opened (run base_opened (calls_from (take n cs))))))
    ≡ replay_lines (store_in base_listing) (drop k (made_by (take n cs)).marked)
unfolding made_by
cells_are n k cs right = let ls = marked_entries base_opened (run base_opened (calls_from (take n cs))) in
    store_by_seen base_opened (drop k ls) ∙ ap (λ y. replay_lines (store_in y) (lines_listing (drop k ls))) base_is
    ∙ ap (replay_lines (store_in base_listing)) (sym (drop-map line_listing k ls))
    ∙ ap (λ (m : ListedHistory). replay_lines (store_in base_listing) (drop k m.marked))
    (run_is base_opened base_listing base_is (take n cs) (first_come_right base_listing n cs uncalled right))

-- the device of a number of channel subsystem 1 there
pub device_is : (n k : ℕ) (cs : List ListedCall) → AreRight cs → (number : ℕ)
    → device_of number (replay (store_of base_opened)
    (drop k (marked_entries base_opened (run base_opened (calls_from (take n cs)))))).numbers
    ≡ find cell_cmp (record { css = 1; set = 0; number = number })
    (replay_lines (store_in base_listing) (drop k (made_by (take n cs)).marked)).cells
device_is n k cs right number =
    get-entries (replay (store_of base_opened)
    (drop k (marked_entries base_opened (run base_opened (calls_from (take n cs)))))).numbers
    (record { css = 1; set = 0; number = number })
    ∙ ap (λ (m : ListedStore). find cell_cmp (record { css = 1; set = 0; number = number }) m.cells)
    (cells_are n k cs right)
