-- What an edit brings has places: its numbers, and the subchannels of its live records.
use Rattle.std.proofs.Common.{◌≡◌, ℕ, Bool, true, false, cond, List, [], ◌∷◌, Option, Some, None, is_some, T, refl, sym}
use Rattle.std.proofs.Common.{ap, subst, ◌∙◌}
use Rattle.std.specs.FinMap.{get, contains_key, find, is_sorted, from_sorted, retain_keys, get-from_sorted}
use Rattle.std.specs.List.{AllByRecursion}
use Rattle.std.specs.Ordering.{eq_by_cmp}
use Rattle.iocm_types.specs.declared.live.Live.{Live}
use Rattle.iocm_types.specs.declared.place.Place.{Place}
use Rattle.iocm_types.specs.declared.sub_id.SubId.{SubId}
use Rattle.iocm_types.specs.Place.{place_cmp, cell_cmp}
use Rattle.iocm_types.specs.SubId.{sub_id_cmp}
use Rattle.iocm_types.specs.KeyOrder.{sub_ids_total, sub_ids_exact}
use Rattle.iocm_types.proofs.Found.{ties_itself}
use Rattle.iocm_model.specs.Operation.State.{Lives}
use Rattle.iocm_model.proofs.Maps.Cells.{get_retained}
use Rattle.iocm_numbers.specs.Numbered.{Numbered, cell_at}
use Rattle.iocm_numbers.specs.PutBack.{HaveRoom}
use Rattle.iocm_seats.specs.declared.seat.Seat.{Seat}
use Rattle.iocm_seats.specs.Seated.{Seated, lives_seated, SeatsHavePlaces}
use Rattle.iocm_seats.proofs.Settled.{live_in, live_seated}
use Rattle.iocm_plant.specs.Operating.{Room, HasPlaceIn, HasNumberRoom, KeepsPlaces}

-- numbers that have room, as the plant sees it
pub numbers_placed : (held : Numbered) (room : Room) → room.places ≡ held.place_room → room.cells ≡ held.cell_room
    → (rows : List (Place × ℕ)) → HaveRoom held rows → AllByRecursion (HasNumberRoom room) rows
numbers_placed held room places cells [] has = tt
numbers_placed held room places cells (row ∷ rows) has = (
  record {
    of_place = subst (λ ps. HasPlaceIn place_cmp ps row.0) (sym places) has.0.place_has;
    of_cell = subst (λ ps. HasPlaceIn cell_cmp ps (cell_at row.0 row.1)) (sym cells) has.0.cell_has;
  },
  numbers_placed held room places cells rows has.1,
)

-- each subchannel of rows that come has a place
rows_placed : (places : List SubId) (rows : List (SubId × Live))
    → ((x : SubId) → is_some (find sub_id_cmp x rows) ≡ true → HasPlaceIn sub_id_cmp places x)
    → AllByRecursion (λ (row : SubId × Live). HasPlaceIn sub_id_cmp places row.0) rows
rows_placed places [] has = tt
rows_placed places (row ∷ rows) has = (
  has row.0 (ap (λ b. is_some (cond b (Some row.1) (find sub_id_cmp row.0 rows)))
      (ties_itself sub_id_cmp sub_ids_total row.0)),
  rows_placed places rows (λ x among. has x (behind (eq_by_cmp sub_id_cmp x row.0) (find sub_id_cmp x rows) among)),
)
  where
    behind : (b : Bool) (o : Option Live) → is_some o ≡ true → is_some (cond b (Some row.1) o) ≡ true
    behind true o h = refl
    behind false o h = h

-- rows in order have places where the subchannels of their map have
pub kept_placed : (places : List SubId) (rows : List (SubId × Live)) → T (is_sorted sub_id_cmp rows)
    → ((x : SubId) → contains_key (from_sorted {R = sub_id_cmp} rows) x ≡ true → HasPlaceIn sub_id_cmp places x)
    → AllByRecursion (λ (row : SubId × Live). HasPlaceIn sub_id_cmp places row.0) rows
kept_placed places rows up has =
    rows_placed places rows (λ x among. has x (ap is_some (get-from_sorted sub_id_cmp rows x up) ∙ among))

-- a seat that has a live record is there
has_seat : (o : Option Seat) → is_some (live_in o) ≡ true → is_some o ≡ true
has_seat None h = h
has_seat (Some s) h = refl

-- what a test keeps was there
retained_there : (kept : Bool) (o : Option Live) → is_some (cond kept o None) ≡ true → is_some o ≡ true
retained_there true o h = h
retained_there false o h = cc

-- live records that were kept are of subchannels that have places
pub kept_have_places : (seated : Seated) (places : List SubId) (kept : Lives) (test : SubId → Bool)
    → kept ≡ retain_keys (lives_seated seated.seats) test → SeatsHavePlaces seated
    → KeepsPlaces sub_id_cmp seated.places places
    → (x : SubId) → contains_key kept x ≡ true → HasPlaceIn sub_id_cmp places x
kept_have_places seated places kept test is have keeps x there =
    let lived : is_some (get (lives_seated seated.seats) x) ≡ true =
    retained_there (test x) (get (lives_seated seated.seats) x)
    (sym (ap is_some (ap (λ (l : Lives). get l x) is
    ∙ get_retained sub_ids_total sub_ids_exact (lives_seated seated.seats) test x)) ∙ there) in
    keeps x (have x (has_seat (get seated.seats x) (sym (ap is_some (live_seated seated.seats x)) ∙ lived)))
