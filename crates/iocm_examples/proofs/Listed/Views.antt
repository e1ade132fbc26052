-- Path lists, numbers and views, from the entries of a configuration and of a numbering as lists.
use Rattle.std.proofs.Common.{◌≡◌, ℕ, ◌==◌, ◌&&◌, not, Bool, is_some, List, map, filter, if◌then◌else◌, ap, ◌∙◌}
use Rattle.std.specs.List.{filter_map, flat_map, list_any, fold}
use Rattle.std.specs.Ordering.{eq_by_cmp}
use Rattle.std.specs.FinMap.{FinMap, find, put, entries, insert, get-entries, entries-insert}
use Rattle.std.specs.FinMap.Entries.{where_key}
use Rattle.iocm_types.specs.declared.key.Key.{Key}
use Rattle.iocm_types.specs.declared.place.Place.{Place}
use Rattle.iocm_types.specs.declared.place.NumberCell.{NumberCell}
use Rattle.iocm_types.specs.declared.sub_id.SubId.{SubId}
use Rattle.iocm_types.specs.declared.view.View.{View}
use Rattle.iocm_types.specs.Key.{key_cmp}
use Rattle.iocm_types.specs.Place.{place_cmp, cell_cmp}
use Rattle.iocm_types.specs.SubId.{sub_id_cmp}
use Rattle.iocm_types.specs.KeyOrder.{keys_total, keys_exact, places_total, places_exact, cells_total, cells_exact}
use Rattle.iocm_types.specs.KeyOrder.{sub_ids_total, sub_ids_exact}
use Rattle.iocm_model.specs.Machine.Configuration.{Configuration, Lookup, lookup_of, as_image, as_device, with_keys}
use Rattle.iocm_model.specs.Machine.Configuration.{configuration_of}
use Rattle.iocm_model.specs.Machine.Record.{Rec, ImageRecord, DeviceRecord}
use Rattle.iocm_model.specs.Machine.Numbering.{Numbering, subsystems, sets, is_reached, reached_places, is_reached_at}
use Rattle.iocm_model.specs.Machine.Numbering.{numbers_from, opening, cells_of, numbering_of}
use Rattle.iocm_model.specs.Change.Renumbering.{gap_from, lowest_free, without_leavers, with_carried, with_lowest}
use Rattle.iocm_model.specs.Change.Renumbering.{numbers_after}
use Rattle.iocm_model.specs.Machine.View.{row_at, views}
use Rattle.iocm_model.specs.Operation.State.{views_of}
use Rattle.iocm_examples.proofs.Listed.Maps.{fold_seen, cond_seen, put_all, entries-from_entries, entries-retain_keys}

-- the records of a configuration, the numbers of places, the devices of number cells, and what is
-- seen, as lists
abbrev pub Records : Type 0
Records = List (Key × Rec)

abbrev pub Numbers : Type 0
Numbers = List (Place × ℕ)

abbrev pub CellList : Type 0
CellList = List (NumberCell × ℕ)

abbrev pub ViewList : Type 0
ViewList = List (SubId × View)

-- the record of a key
abbrev pub record_in : Records → Lookup
record_in es key = find key_cmp key es

-- a configuration is looked up as its entries are
pub lookup_seen : (c : Configuration) → ◌≡◌ {A = Lookup} (lookup_of c) (record_in (entries c))
lookup_seen c = λ i key. get-entries c key i

-- the entries of the configuration of some records
pub entries-configuration_of : (rs : List Rec) → entries (configuration_of rs) ≡ put_all key_cmp (with_keys rs)
entries-configuration_of rs = entries-from_entries keys_total keys_exact (with_keys rs)

-- the devices of a set that are reached, and the places of all that are
abbrev pub reached_by : Lookup → Records → ℕ → ℕ → List ℕ
reached_by at es css set = map (λ (d : DeviceRecord). d.number)
    (filter (λ (d : DeviceRecord). d.set == set && is_reached at css d) (filter_map as_device (map (λ e. e.1) es)))

abbrev pub places_by : Lookup → Records → List Place
places_by at es =
    flat_map (λ css. flat_map (λ set. map (λ d. record { css = css; set = set; device = d }) (reached_by at es css set))
    sets) subsystems

-- the places of all devices that are reached
abbrev pub places_listed : Records → List Place
places_listed es = places_by (record_in es) es

-- the places of a configuration are those of its entries
pub places_seen : (c : Configuration) → reached_places c ≡ places_listed (entries c)
places_seen c = λ i. places_by (lookup_seen c i) (entries c)

-- whether a place is one of some places
abbrev pub is_place_in : List Place → Place → Bool
is_place_in places p = list_any (eq_by_cmp place_cmp p) places

-- the numbers at opening
abbrev pub first_numbers_by : Lookup → Records → Numbers
first_numbers_by at es =
    put_all place_cmp (flat_map (λ css. flat_map (λ set. numbers_from css set 0 (reached_by at es css set)) sets)
    subsystems)

-- the numbers at opening of these records
unfoldable pub opening_listed : Records → Numbers
opening_listed es = first_numbers_by (record_in es) es

-- a configuration opens with the numbers of its entries
pub opening_seen : (c : Configuration) → entries (opening c) ≡ opening_listed (entries c)
unfolding opening_listed
opening_seen c = entries-from_entries places_total places_exact _
    ∙ (λ i. first_numbers_by (lookup_seen c i) (entries c))

-- the number cells of numbers, and the numbers of number cells
abbrev pub cells_listed : Numbers → CellList
cells_listed n = put_all cell_cmp
    (map (λ (e : Place × ℕ). (record { css = e.0.css; set = e.0.set; number = e.1 }, e.0.device)) n)

-- the number cells of a numbering are those of its entries
pub cells_seen : (n : Numbering) → entries (cells_of n) ≡ cells_listed (entries n)
cells_seen n = entries-from_entries cells_total cells_exact _

-- the numbers of places in which these cells are given away
abbrev pub numbering_listed : CellList → Numbers
numbering_listed cells =
    put_all place_cmp (map (λ (e : NumberCell × ℕ). (record { css = e.0.css; set = e.0.set; device = e.1 }, e.0.number))
    cells)

-- the numbering of number cells is that of their entries
pub numbering_seen : (cells : FinMap cell_cmp ℕ) → entries (numbering_of cells) ≡ numbering_listed (entries cells)
numbering_seen cells = entries-from_entries places_total places_exact _

-- the rows that these records and number cells give
abbrev pub rows_by : Lookup → Records → CellList → ViewList
rows_by at es cells = flat_map
    (λ (i : ImageRecord). filter_map (row_at at i) (filter (λ (e : NumberCell × ℕ). e.0.css == i.css) cells))
    (filter_map as_image (map (λ e. e.1) es))

-- the rows that these records and numbers give
abbrev pub rows_listed : Records → Numbers → ViewList
rows_listed es n = rows_by (record_in es) es (cells_listed n)

-- the views of a configuration and a numbering are the rows of their entries
pub rows_seen : (c : Configuration) (n : Numbering) → views c n ≡ rows_listed (entries c) (entries n)
rows_seen c n = λ i. rows_by (lookup_seen c i) (entries c) (cells_seen n i)

-- the rows in the order of subchannels
abbrev pub views_listed : Records → Numbers → ViewList
views_listed es n = put_all sub_id_cmp (rows_listed es n)

-- what is seen, by subchannel, are these rows
pub views_seen : (c : Configuration) (n : Numbering) → entries (views_of c n) ≡ views_listed (entries c) (entries n)
views_seen c n = entries-from_entries sub_ids_total sub_ids_exact (views c n) ∙ ap (put_all sub_id_cmp) (rows_seen c n)

-- the lowest number that is free
abbrev pub lowest_in : CellList → ℕ → ℕ → ℕ
lowest_in cells css set =
    gap_from 0 (map (λ (e : NumberCell × ℕ). e.0.number)
    (filter (λ (e : NumberCell × ℕ). e.0.css == css && e.0.set == set) cells))

-- the lowest number that is free at a place
abbrev pub lowest_listed : Numbers → Place → ℕ
lowest_listed n p = lowest_in (cells_listed n) p.css p.set

-- the lowest free number of a numbering is that of its entries
lowest_seen : (n : Numbering) (p : Place) → lowest_free n p.css p.set ≡ lowest_listed (entries n) p
lowest_seen n p = ap (λ cells. lowest_in cells p.css p.set) (cells_seen n)

-- a device that comes in with a number, and one that comes in without
abbrev pub carried_listed : List Place → Numbers → Place × ℕ → Numbers
carried_listed places n e =
    if is_place_in places e.0 && not (is_some (find place_cmp e.0 n)) then put place_cmp e.0 e.1 n else n

-- the numbers once a device has the lowest free number, if it has none
abbrev pub lowest_put : Numbers → Place → Numbers
lowest_put n p = if is_some (find place_cmp p n) then n else put place_cmp p (lowest_listed n p) n

-- a carried number does to a numbering what it does to its entries
carried_seen : (c : Configuration) (n : Numbering) (e : Place × ℕ)
    → entries (with_carried c n e) ≡ carried_listed (reached_places c) (entries n) e
carried_seen c n e = cond_seen entries _ (insert n e.0 e.1) n
    ∙ (λ i. if is_place_in (reached_places c) e.0 && not (is_some (get-entries n e.0 i))
    then entries-insert places_total n e.0 e.1 i else entries n)

-- the lowest free number does to a numbering what it does to its entries
put_seen : (n : Numbering) (p : Place) → entries (with_lowest n p) ≡ lowest_put (entries n) p
put_seen n p = cond_seen entries _ n (insert n p (lowest_free n p.css p.set))
    ∙ (λ i. if is_some (get-entries n p i) then entries n
    else (entries-insert places_total n p (lowest_free n p.css p.set)
    ∙ (λ j. put place_cmp p (lowest_seen n p j) (entries n))) i)

-- the numbers after a change, where these places are reached
abbrev pub numbers_after_at : List Place → List (Place × ℕ) → Numbers → Numbers
numbers_after_at places carried n =
    fold lowest_put (fold (carried_listed places) (where_key place_cmp (is_place_in places) n) carried) places

-- the numbers after the records have become these
unfoldable pub numbers_after_listed : Records → List (Place × ℕ) → Numbers → Numbers
numbers_after_listed es carried n = numbers_after_at (places_listed es) carried n

-- a numbering is renumbered as its entries are
pub numbers_after_seen : (c : Configuration) (carried : List (Place × ℕ)) (n : Numbering)
    → entries (numbers_after c carried n) ≡ numbers_after_listed (entries c) carried (entries n)
unfolding numbers_after_listed
numbers_after_seen c carried n =
    fold_seen entries with_lowest lowest_put put_seen (fold (with_carried c) (without_leavers c n) carried)
    (reached_places c)
    ∙ ap (λ m. fold lowest_put m (reached_places c))
    (fold_seen entries (with_carried c) (carried_listed (reached_places c)) (carried_seen c) (without_leavers c n)
    carried
    ∙ ap (λ m. fold (carried_listed (reached_places c)) m carried)
    (entries-retain_keys places_total places_exact n (is_reached_at c)))
    ∙ ap (λ places. numbers_after_at places carried (entries n)) (places_seen c)
