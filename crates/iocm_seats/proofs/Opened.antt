-- The seats that are given one channel subsystem after the other are those of all views.
use Rattle.std.proofs.Common.{◌≡◌, ℕ, ◌==◌, nat_eq, eqb-true, Bool, true, false, cond, ◌||◌, List, [], ◌∷◌, map, fold}
use Rattle.std.proofs.Common.{Option, Some, None, T, refl, sym, ap, subst, ◌∙◌}
use Rattle.std.specs.List.{flat_map, list_any, AllByRecursion, IsDistinct}
use Rattle.std.specs.Map.{keys_of}
use Rattle.std.specs.Ordering.{eq_by_cmp}
use Rattle.std.specs.FinMap.{find, get, empty, entries, from_entries, get-insert, get-empty, get-from_entries, same_map}
use Rattle.std.proofs.lemmas.Map.Keys.{IsDistinct-head, IsDistinct-tail, IsDistinct-from_sorted}
use Rattle.iocm_types.specs.declared.place.NumberCell.{NumberCell}
use Rattle.iocm_types.specs.declared.sub_id.SubId.{SubId}
use Rattle.iocm_types.specs.SubId.{sub_id_cmp}
use Rattle.iocm_types.specs.KeyOrder.{sub_ids_total, sub_ids_exact}
use Rattle.iocm_types.proofs.Found.{same_key, ties_itself}
use Rattle.iocm_model.specs.Machine.Record.{ImageRecord}
use Rattle.iocm_model.specs.Machine.Configuration.{Configuration, IsKeyed, Lookup, lookup_of, images_of, records_of}
use Rattle.iocm_model.specs.Machine.Numbering.{Numbering, cells_of}
use Rattle.iocm_model.specs.Machine.View.{views}
use Rattle.iocm_model.proofs.Machine.Views.{views_listed}
use Rattle.iocm_derive.specs.Sighted.{Sighted}
use Rattle.iocm_seats.specs.declared.seat.Seat.{Seat}
use Rattle.iocm_seats.specs.Seated.{Seats, fresh_seat}
use Rattle.iocm_seats.specs.Listing.{seats_at, cell_seats, images_among, sights_of, subsystem_seats, with_seat}
use Rattle.iocm_seats.specs.Listing.{AreSubsystemsOf}
use Rattle.iocm_seats.specs.Taken.{cells_in}
use Rattle.iocm_seats.proofs.Everywhere.{of_both, of_first, of_second, of_parts, in_parts, weaker, by_both, of_any}
use Rattle.iocm_seats.proofs.Everywhere.{of_passing, in_passing, of_made, in_made, turned}
use Rattle.iocm_seats.proofs.Listed.{all_seats, seats_at-more, seats_at-nil, seat_keys}
use Rattle.iocm_types.proofs.InOrder.{keys_rise}

abbrev Row : Type 0
Row = SubId × Seat

abbrev Cell : Type 0
Cell = NumberCell × ℕ

-- ---- the same rows, in whatever order

module _ (P : Row → Type 0) where
  -- of the rows of an image at some cells, cell by cell
  by_cell : (c : Lookup) (i : ImageRecord) (cells : List Cell) → AllByRecursion P (seats_at c i cells)
      → AllByRecursion (λ e. AllByRecursion P (seats_at c i (e ∷ []))) cells
  by_cell c i [] all = tt
  by_cell c i (e ∷ cells) all = let parts = subst (AllByRecursion P) (seats_at-more c i e cells) all in (
    of_first P (seats_at c i (e ∷ [])) (seats_at c i cells) parts,
    by_cell c i cells (of_second P (seats_at c i (e ∷ [])) (seats_at c i cells) parts),
  )

  of_cells : (c : Lookup) (i : ImageRecord) (cells : List Cell)
      → AllByRecursion (λ e. AllByRecursion P (seats_at c i (e ∷ []))) cells → AllByRecursion P (seats_at c i cells)
  of_cells c i [] all = subst (AllByRecursion P) (sym (seats_at-nil c i)) tt
  of_cells c i (e ∷ cells) all = subst (AllByRecursion P) (sym (seats_at-more c i e cells))
      (of_both P (seats_at c i (e ∷ [])) (seats_at c i cells) all.0 (of_cells c i cells all.1))

  module _ (c : Configuration) (cells : List Cell) where
    -- the rows of an image at a cell
    abbrev at : ImageRecord → Cell → Type 0
    at i e = AllByRecursion P (seats_at (lookup_of c) i (e ∷ []))

    -- of all rows of a channel subsystem, image by image
    abbrev of_subsystem : ℕ → Type 0
    of_subsystem css = AllByRecursion (λ i. AllByRecursion (λ e. at i e) (cells_in css cells))
        (images_among css (records_of c))

    to_subsystem : (css : ℕ) → of_subsystem css → AllByRecursion P (subsystem_seats c cells css)
    to_subsystem css all =
        let images = images_among css (records_of c) in
        of_parts P (cell_seats (sights_of c images)) (cells_in css cells)
        (weaker (λ e. AllByRecursion (λ i. at i e) images) (λ e. AllByRecursion P (cell_seats (sights_of c images) e))
        (λ e here. of_parts P (λ (s : Sighted). seats_at (lookup_of s.records) s.image (e ∷ [])) (sights_of c images)
        (of_made (λ (s : Sighted). AllByRecursion P (seats_at (lookup_of s.records) s.image (e ∷ [])))
        (λ (i : ImageRecord). record { records = c; image = i }) images here))
        (cells_in css cells) (turned at images (cells_in css cells) all))

    in_subsystem : (css : ℕ) → AllByRecursion P (subsystem_seats c cells css) → of_subsystem css
    in_subsystem css all =
        let images = images_among css (records_of c) in
        turned (λ e i. at i e) (cells_in css cells) images
        (weaker (λ e. AllByRecursion P (cell_seats (sights_of c images) e)) (λ e. AllByRecursion (λ i. at i e) images)
        (λ e here. in_made (λ (s : Sighted). AllByRecursion P (seats_at (lookup_of s.records) s.image (e ∷ [])))
        (λ (i : ImageRecord). record { records = c; image = i }) images
        (in_parts P (λ (s : Sighted). seats_at (lookup_of s.records) s.image (e ∷ [])) (sights_of c images) here))
        (cells_in css cells) (in_parts P (cell_seats (sights_of c images)) (cells_in css cells) all))

    -- of all rows, image by image
    abbrev of_images : Type 0
    of_images = AllByRecursion (λ (i : ImageRecord). AllByRecursion (λ e. at i e) (cells_in i.css cells)) (images_of c)

    own_cells : (i : ImageRecord) (css : ℕ) → (i.css == css) ≡ true
        → AllByRecursion (λ e. at i e) (cells_in i.css cells) → AllByRecursion (λ e. at i e) (cells_in css cells)
    own_cells i css is all = subst (λ k. AllByRecursion (λ e. at i e) (cells_in k cells)) (eqb-true i.css css is) all

    there : of_images → (subsystems : List ℕ) → AllByRecursion P (flat_map (subsystem_seats c cells) subsystems)
    there all subsystems = of_parts P (subsystem_seats c cells) subsystems
        (of_any (λ css. AllByRecursion P (subsystem_seats c cells css))
        (λ css. to_subsystem css
        (of_passing (λ i. AllByRecursion (λ e. at i e) (cells_in css cells)) (λ (i : ImageRecord). i.css == css)
        (images_of c)
        (weaker (λ (i : ImageRecord). AllByRecursion (λ e. at i e) (cells_in i.css cells))
        (λ i. (i.css == css) ≡ true → AllByRecursion (λ e. at i e) (cells_in css cells))
        (λ i here is. own_cells i css is here) (images_of c) all))) subsystems)

    -- of the channel subsystem of an image that is among these
    picked : (i : ImageRecord) (subsystems : List ℕ) → T (list_any (nat_eq i.css) subsystems)
        → AllByRecursion (λ css. (i.css == css) ≡ true → AllByRecursion (λ e. at i e) (cells_in css cells)) subsystems
        → AllByRecursion (λ e. at i e) (cells_in i.css cells)
    picked i [] among all = absurd among
    picked i (css ∷ subsystems) among all = by (nat_eq i.css css) refl among (λ later. picked i subsystems later all.1)
      where
        by : (b : Bool) → nat_eq i.css css ≡ b → T (b || list_any (nat_eq i.css) subsystems)
            → (T (list_any (nat_eq i.css) subsystems) → AllByRecursion (λ e. at i e) (cells_in i.css cells))
            → AllByRecursion (λ e. at i e) (cells_in i.css cells)
        by true is among more = subst (λ k. AllByRecursion (λ e. at i e) (cells_in k cells))
            (sym (eqb-true i.css css is)) (all.0 is)
        by false is among more = more among

    back : (subsystems : List ℕ) → AreSubsystemsOf (records_of c) subsystems
        → AllByRecursion P (flat_map (subsystem_seats c cells) subsystems) → of_images
    back subsystems known all = by_both (λ (i : ImageRecord). T (list_any (nat_eq i.css) subsystems))
        (λ i. AllByRecursion (λ css. (i.css == css) ≡ true → AllByRecursion (λ e. at i e) (cells_in css cells))
        subsystems)
        (λ i. AllByRecursion (λ e. at i e) (cells_in i.css cells)) (λ i among each. picked i subsystems among each)
        (images_of c) known
        (turned (λ css (i : ImageRecord). (i.css == css) ≡ true → AllByRecursion (λ e. at i e) (cells_in css cells))
        subsystems (images_of c)
        (weaker (λ css. AllByRecursion P (subsystem_seats c cells css))
        (λ css. AllByRecursion (λ (i : ImageRecord). (i.css == css) ≡ true
        → AllByRecursion (λ e. at i e) (cells_in css cells)) (images_of c))
        (λ css here. in_passing (λ i. AllByRecursion (λ e. at i e) (cells_in css cells))
        (λ (i : ImageRecord). i.css == css) (images_of c) (in_subsystem css here))
        subsystems (in_parts P (subsystem_seats c cells) subsystems all)))

-- ---- seats that are given, perhaps more than once, each time the same

none_found : (x : SubId) (es : List Row) → list_any (eq_by_cmp sub_id_cmp x) (keys_of es) ≡ false
    → find sub_id_cmp x es ≡ None
none_found x [] none = refl
none_found x (e ∷ es) none = by (eq_by_cmp sub_id_cmp x e.0) none (none_found x es)
  where
    by : (b : Bool) → (b || list_any (eq_by_cmp sub_id_cmp x) (keys_of es)) ≡ false
        → (list_any (eq_by_cmp sub_id_cmp x) (keys_of es) ≡ false → find sub_id_cmp x es ≡ None)
        → cond b (Some e.1) (find sub_id_cmp x es) ≡ None
    by true none more = cc
    by false none more = more none

-- each row is one of a map
abbrev AreOf : Seats → List Row → Type 0
AreOf m es = AllByRecursion (λ (e : Row). get m e.0 ≡ Some e.1) es

given_by : (m : Seats) (q : SubId) (e : Row) (o : Option Seat) (b d : Bool) → eq_by_cmp sub_id_cmp q e.0 ≡ b
    → get m e.0 ≡ Some e.1
    → cond d (get m q) (cond b (Some e.1) o) ≡ cond (b || d) (get m q) o
given_by m q e o true true tied is = refl
given_by m q e o true false tied is = sym (ap (get m) (same_key sub_id_cmp sub_ids_exact q e.0 tied) ∙ is)
given_by m q e o false d tied is = refl

seats_given : (m : Seats) (es : List Row) (seats : Seats) → AreOf m es → (q : SubId)
    → get (fold with_seat seats es) q ≡ cond (list_any (eq_by_cmp sub_id_cmp q) (keys_of es)) (get m q) (get seats q)
seats_given m [] seats of q = refl
seats_given m (e ∷ es) seats of q =
    seats_given m es (with_seat seats e) of.1 q
    ∙ ap (cond (list_any (eq_by_cmp sub_id_cmp q) (keys_of es)) (get m q)) (get-insert sub_ids_total seats e.0 e.1 q)
    ∙ given_by m q e (get seats q) (eq_by_cmp sub_id_cmp q e.0) (list_any (eq_by_cmp sub_id_cmp q) (keys_of es)) refl
    of.0

-- a key isn't among those of rows, row by row
absent : (q : SubId) (es : List Row) → list_any (eq_by_cmp sub_id_cmp q) (keys_of es) ≡ false
    → AllByRecursion (λ (e : Row). eq_by_cmp sub_id_cmp q e.0 ≡ false) es
absent q [] none = tt
absent q (e ∷ es) none = by (eq_by_cmp sub_id_cmp q e.0) refl none (absent q es)
  where
    by : (b : Bool) → eq_by_cmp sub_id_cmp q e.0 ≡ b → (b || list_any (eq_by_cmp sub_id_cmp q) (keys_of es)) ≡ false
        → (list_any (eq_by_cmp sub_id_cmp q) (keys_of es) ≡ false
        → AllByRecursion (λ (e : Row). eq_by_cmp sub_id_cmp q e.0 ≡ false) es)
        → (eq_by_cmp sub_id_cmp q e.0 ≡ false) × AllByRecursion (λ (e : Row). eq_by_cmp sub_id_cmp q e.0 ≡ false) es
    by true is none more = cc
    by false is none more = (is, more none)

absent_from : (q : SubId) (es : List Row) → AllByRecursion (λ (e : Row). eq_by_cmp sub_id_cmp q e.0 ≡ false) es
    → list_any (eq_by_cmp sub_id_cmp q) (keys_of es) ≡ false
absent_from q [] all = refl
absent_from q (e ∷ es) all =
    ap (λ b. b || list_any (eq_by_cmp sub_id_cmp q) (keys_of es)) all.0 ∙ absent_from q es all.1

-- of rows whose keys differ each is found
each_found : (es : List Row) → IsDistinct (eq_by_cmp sub_id_cmp) (keys_of es)
    → AllByRecursion (λ (e : Row). find sub_id_cmp e.0 es ≡ Some e.1) es
each_found [] apart = tt
each_found (e ∷ es) apart = (
  ap (λ b. cond b (Some e.1) (find sub_id_cmp e.0 es)) (ties_itself sub_id_cmp sub_ids_total e.0),
  later es (IsDistinct-head (eq_by_cmp sub_id_cmp) e.0 (keys_of es) apart)
      (each_found es (IsDistinct-tail (eq_by_cmp sub_id_cmp) e.0 (keys_of es) apart)),
)
  where
    one : (r : Row) → eq_by_cmp sub_id_cmp e.0 r.0 ≡ false → find sub_id_cmp r.0 es ≡ Some r.1
        → find sub_id_cmp r.0 (e ∷ es) ≡ Some r.1
    one r other is = by (eq_by_cmp sub_id_cmp r.0 e.0) refl
      where
        by : (b : Bool) → eq_by_cmp sub_id_cmp r.0 e.0 ≡ b → cond b (Some e.1) (find sub_id_cmp r.0 es) ≡ Some r.1
        by true tied = let bad : true ≡ false =
            sym (ties_itself sub_id_cmp sub_ids_total e.0)
            ∙ ap (eq_by_cmp sub_id_cmp e.0) (sym (same_key sub_id_cmp sub_ids_exact r.0 e.0 tied)) ∙ other in cc
        by false tied = is

    later : (rs : List Row) → AllByRecursion (λ y. eq_by_cmp sub_id_cmp e.0 y ≡ false) (keys_of rs)
        → AllByRecursion (λ (r : Row). find sub_id_cmp r.0 es ≡ Some r.1) rs
        → AllByRecursion (λ (r : Row). find sub_id_cmp r.0 (e ∷ es) ≡ Some r.1) rs
    later [] others all = tt
    later (r ∷ rs) others all = (one r others.0 all.0, later rs others.1 all.1)

both_false : (a b : Bool) → (a ≡ false → b ≡ false) → (b ≡ false → a ≡ false) → a ≡ b
both_false false b there back = sym (there refl)
both_false true false there back = back refl
both_false true true there back = refl

or_none : (b : Bool) (o : Option Seat) → (b ≡ false → o ≡ None) → cond b o None ≡ o
or_none true o none = refl
or_none false o none = sym (none refl)

-- ---- all of them

module _ (c : Configuration) (n : Numbering) (keyed : IsKeyed c) (subsystems : List ℕ)
    (known : AreSubsystemsOf (records_of c) subsystems) where
  abbrev cells : List Cell
  cells = entries (cells_of n)

  abbrev rows : List Row
  rows = map fresh_seat (views c n)

  abbrev given : List Row
  given = flat_map (subsystem_seats c cells) subsystems

  abbrev all : Seats
  all = from_entries rows

  apart : IsDistinct (eq_by_cmp sub_id_cmp) (keys_of rows)
  apart = subst (IsDistinct (eq_by_cmp sub_id_cmp)) (sym (seat_keys (views c n)))
      (IsDistinct-from_sorted sub_id_cmp (keys_of (views c n))
      (keys_rise sub_id_cmp (views c n) (views_listed c n keyed).rising))

  rows_to_given : (P : Row → Type 0) → AllByRecursion P rows → AllByRecursion P given
  rows_to_given P holds = there P c cells
      (weaker (λ (i : ImageRecord). AllByRecursion P (seats_at (lookup_of c) i (cells_in i.css cells)))
      (λ (i : ImageRecord). AllByRecursion (λ e. at P c cells i e) (cells_in i.css cells))
      (λ i here. by_cell P (lookup_of c) i (cells_in i.css cells) here) (images_of c)
      (in_parts P (λ (i : ImageRecord). seats_at (lookup_of c) i (cells_in i.css cells)) (images_of c)
      (subst (AllByRecursion P) (sym (all_seats c n)) holds))) subsystems

  given_to_rows : (P : Row → Type 0) → AllByRecursion P given → AllByRecursion P rows
  given_to_rows P holds = subst (AllByRecursion P) (all_seats c n)
      (of_parts P (λ (i : ImageRecord). seats_at (lookup_of c) i (cells_in i.css cells)) (images_of c)
      (weaker (λ (i : ImageRecord). AllByRecursion (λ e. at P c cells i e) (cells_in i.css cells))
      (λ (i : ImageRecord). AllByRecursion P (seats_at (lookup_of c) i (cells_in i.css cells)))
      (λ i here. of_cells P (lookup_of c) i (cells_in i.css cells) here) (images_of c)
      (back P c cells subsystems known holds)))

  same_keys : (q : SubId) → list_any (eq_by_cmp sub_id_cmp q) (keys_of given)
      ≡ list_any (eq_by_cmp sub_id_cmp q) (keys_of rows)
  same_keys q = both_false _ _
      (λ none. absent_from q rows
      (given_to_rows (λ (e : Row). eq_by_cmp sub_id_cmp q e.0 ≡ false) (absent q given none)))
      (λ none. absent_from q given
      (rows_to_given (λ (e : Row). eq_by_cmp sub_id_cmp q e.0 ≡ false) (absent q rows none)))

  of_all : AreOf all given
  of_all = rows_to_given (λ (e : Row). get all e.0 ≡ Some e.1)
      (weaker (λ (e : Row). find sub_id_cmp e.0 rows ≡ Some e.1) (λ (e : Row). get all e.0 ≡ Some e.1)
      (λ e is. get-from_entries sub_ids_total rows e.0 ∙ is) rows (each_found rows apart))

  pub opened_all : fold with_seat empty given ≡ all
  opened_all = same_map sub_ids_total sub_ids_exact _ _ (λ q. seats_given all given empty of_all q
      ∙ (λ i. cond (same_keys q i) (get all q) (get-empty sub_id_cmp q i))
      ∙ or_none (list_any (eq_by_cmp sub_id_cmp q) (keys_of rows)) (get all q)
      (λ none. get-from_entries sub_ids_total rows q ∙ none_found q rows none))
