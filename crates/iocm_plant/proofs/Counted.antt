-- As many subchannels are seen as there are seats.
use Rattle.std.proofs.Common.{◌≡◌, ◌&&◌, List, [], ◌∷◌, map, length, refl, sym, ap, subst, T, ◌∙◌}
use Rattle.std.specs.Ordering.{is_lt}
use Rattle.std.specs.FinMap.{entries, entries_sorted, entries-from_sorted, is_sorted, len, len-entries}
use Rattle.std.specs.FinMap.Entries.{below_all}
use Rattle.std.proofs.lemmas.List.{length-map}
use Rattle.iocm_types.specs.declared.sub_id.SubId.{SubId}
use Rattle.iocm_types.specs.declared.view.View.{View}
use Rattle.iocm_types.specs.SubId.{sub_id_cmp}
use Rattle.iocm_seats.specs.declared.seat.Seat.{Seat}
use Rattle.iocm_seats.specs.Seated.{Seats, views_seated}
use Rattle.iocm_plant.proofs.Sorted.{as_rows}

abbrev seen_row : SubId × Seat → SubId × View
seen_row e = (e.0, e.1.view)

below_seen : (x : SubId) (es : List (SubId × Seat))
    → below_all sub_id_cmp x es ≡ below_all sub_id_cmp x (map seen_row es)
below_seen x [] = refl
below_seen x (e ∷ es) = ap (λ b. is_lt (sub_id_cmp x e.0) && b) (below_seen x es)

seen_in_order : (es : List (SubId × Seat)) → is_sorted sub_id_cmp es ≡ is_sorted sub_id_cmp (map seen_row es)
seen_in_order [] = refl
seen_in_order (e ∷ es) = λ i. below_seen e.0 es i && seen_in_order es i

pub seats_counted : (seats : Seats) → len seats ≡ len (views_seated seats)
seats_counted seats =
    let up : T (is_sorted sub_id_cmp (map seen_row (entries seats))) =
    subst T (seen_in_order (entries seats)) (entries_sorted seats) in
    len-entries seats ∙ sym (len-entries (views_seated seats)
    ∙ ap length (ap entries (as_rows (map seen_row (entries seats)) up)
    ∙ entries-from_sorted sub_id_cmp (map seen_row (entries seats)) up)
    ∙ length-map (entries seats) seen_row)
