-- A seat that is taken out and put in again, and live records of seats that are taken out.
use Rattle.std.proofs.Common.{◌≡◌, ℕ, zero, suc, ◌+◌, ◌<◌, ◌≤◌, arith, Bool, true, false, cond, ◌||◌, List, [], ◌∷◌}
use Rattle.std.proofs.Common.{◌++◌, map, take, drop, drop_of_length-le, length, get_or, slice_set, Option, Some, None}
use Rattle.std.proofs.Common.{T, refl, sym, ap, subst, ◌∙◌}
use Rattle.std.specs.List.{fold, list_any}
use Rattle.std.specs.Map.{keys_of}
use Rattle.std.specs.Option.{unwrap_or}
use Rattle.std.specs.Ordering.{eq_by_cmp, is_eq}
use Rattle.std.specs.declared.cmp.Ordering.{Ordering}
use Rattle.std.specs.Cmp.{IsTotalOrder}
use Rattle.std.specs.FinMap.{IsAntisymmetric, is_sorted, get, remove, get-remove}
use Rattle.std.specs.FinMap.Entries.{below_all}
use Rattle.std.proofs.lemmas.Bool.{or_right}
use Rattle.std.proofs.lemmas.List.{take_more, take_more_set, take_all, drop_more, drop-set-lt, length-set}
use Rattle.iocm_types.specs.SubId.{sub_id_cmp}
use Rattle.iocm_types.specs.KeyOrder.{sub_ids_total, sub_ids_exact}
use Rattle.iocm_types.proofs.Found.{same_key, ties_itself}
use Rattle.iocm_types.proofs.Lists.{drop-item}
use Rattle.iocm_types.proofs.Orderings.{less_is}
use Rattle.iocm_types.proofs.Tests.{first_holds, second_holds}
use Rattle.iocm_types.specs.declared.live.Live.{Live}
use Rattle.iocm_types.specs.declared.sub_id.SubId.{SubId}
use Rattle.iocm_seats.specs.declared.seat.Seat.{Seat}
use Rattle.iocm_seats.specs.Seated.{Seats, lives_seated, Seated}
use Rattle.iocm_seats.specs.Exchange.{met}
use Rattle.iocm_seats.proofs.Settled.{live_in, live_seated}

module _ {K X : Type 0} {R : K → K → Ordering} (total : IsTotalOrder R) (exact : IsAntisymmetric R) where
  again : (b : Bool) (v w : X) (o : Option X) → cond b (Some w) (cond b (Some v) o) ≡ cond b (Some w) o
  again true v w o = refl
  again false v w o = refl

-- a row whose subchannel has a seat, or none
pub met_seat : (seats : Seats) (row : SubId × Live) (seat : Seat) → get seats row.0 ≡ Some seat
    → met (lives_seated seats) row ≡ (row.0, seat.live)
met_seat seats row seat is = ap (λ o. (row.0, unwrap_or o row.1)) (live_seated seats row.0 ∙ ap live_in is)

pub met_none : (seats : Seats) (row : SubId × Live) → get seats row.0 ≡ None → met (lives_seated seats) row ≡ row
met_none seats row is = ap (λ o. (row.0, unwrap_or o row.1)) (live_seated seats row.0 ∙ ap live_in is)

-- ---- the loop that takes seats out

-- the rows so far have their live records, the others are as they were; what is left to take out
-- gives what all gives
pub record IsTaking (first now : Seated) (start out : List (SubId × Live)) (i : ℕ) : Type 0 where
  pub len : length out ≡ length start
  pub rest : drop i out ≡ drop i start
  pub done : take i out ≡ map (met (lives_seated first.seats)) (take i start)
  pub left : fold remove now.seats (keys_of (drop i start)) ≡ fold remove first.seats (keys_of start)
  pub unread : (x : SubId) → list_any (eq_by_cmp sub_id_cmp x) (keys_of (drop i start)) ≡ true
      → get now.seats x ≡ get first.seats x
  pub same_places : now.places ≡ first.places

-- of rows in order, those from a place on stand in order
drop_sorted : (es : List (SubId × Live)) (i : ℕ) → T (is_sorted sub_id_cmp es) → T (is_sorted sub_id_cmp (drop i es))
drop_sorted es zero up = up
drop_sorted [] (suc i) up = up
drop_sorted (e ∷ es) (suc i) up = drop_sorted es i (second_holds _ _ up)

not_below : (k : SubId) (es : List (SubId × Live)) → T (below_all sub_id_cmp k es)
    → list_any (eq_by_cmp sub_id_cmp k) (keys_of es) ≡ false
not_below k [] below = refl
not_below k (e ∷ es) below =
    rw (ap is_eq (less_is (sub_id_cmp k e.0) (first_holds _ _ below))) (not_below k es (second_holds _ _ below))

other_key : (x k : SubId) (ks : List SubId) → list_any (eq_by_cmp sub_id_cmp k) ks ≡ false
    → list_any (eq_by_cmp sub_id_cmp x) ks ≡ true → eq_by_cmp sub_id_cmp x k ≡ false
other_key x k ks none among = by (eq_by_cmp sub_id_cmp x k) refl
  where
    by : (b : Bool) → eq_by_cmp sub_id_cmp x k ≡ b → b ≡ false
    by true tied = sym (sym none
        ∙ ap (λ z. list_any (eq_by_cmp sub_id_cmp z) ks) (sym (same_key sub_id_cmp sub_ids_exact x k tied)) ∙ among)
    by false tied = refl

kept_by : (b : Bool) (o : Option Seat) → b ≡ false → cond b None o ≡ o
kept_by true o h = cc
kept_by false o h = refl

map_last : (f : SubId × Live → SubId × Live) (xs : List (SubId × Live)) (x : SubId × Live)
    → map f (xs ++ x ∷ []) ≡ map f xs ++ f x ∷ []
map_last f [] x = refl
map_last f (y ∷ xs) x = ap (λ ys. f y ∷ ys) (map_last f xs x)

heads : {A : Type 0} {x y : A} {xs ys : List A} → x ∷ xs ≡ y ∷ ys → x ≡ y
heads e = cc

tails : {A : Type 0} {x y : A} {xs ys : List A} → x ∷ xs ≡ y ∷ ys → xs ≡ ys
tails e = cc

met_same : (s t : Seats) (row : SubId × Live) → get s row.0 ≡ get t row.0
    → met (lives_seated s) row ≡ met (lives_seated t) row
met_same s t row same = ap (λ o. (row.0, unwrap_or o row.1))
    (live_seated s row.0 ∙ ap live_in same ∙ sym (live_seated t row.0))

pub taken_more : (first now next : Seated) (start out : List (SubId × Live)) (i : ℕ) (row left : SubId × Live)
    → T (is_sorted sub_id_cmp start)
    → i < length out → row ≡ get_or out i row → IsTaking first now start out i
    → next.seats ≡ remove now.seats row.0 → left ≡ met (lives_seated now.seats) row → next.places ≡ now.places
    → IsTaking first next start (slice_set out i left) (i + 1)
taken_more first now next start out i row left up within item before goes is places =
    let within' : i < length start = subst (λ n. i < n) before.len within in
    let both : row ∷ drop (i + 1) out ≡ get_or start i row ∷ drop (i + 1) start =
    sym (drop-item out i row within item) ∙ before.rest ∙ drop_more start i row within' in
    let opened : row ∷ drop (i + 1) start ≡ drop i start =
    ap (λ z. z ∷ drop (i + 1) start) (heads both) ∙ sym (drop_more start i row within') in
    let below : T (below_all sub_id_cmp row.0 (drop (i + 1) start)) =
    first_holds _ _ (subst (λ (es : List (SubId × Live)). T (is_sorted sub_id_cmp es)) (sym opened)
    (drop_sorted start i up)) in
    let tied : list_any (eq_by_cmp sub_id_cmp row.0) (keys_of (drop i start)) ≡ true =
    ap (λ (es : List (SubId × Live)). list_any (eq_by_cmp sub_id_cmp row.0) (keys_of es)) (sym opened)
    ∙ ap (λ b. b || list_any (eq_by_cmp sub_id_cmp row.0) (keys_of (drop (i + 1) start)))
    (ties_itself sub_id_cmp sub_ids_total row.0) in
    let first_met = met (lives_seated first.seats) in
    record {
      len = length-set out i left ∙ before.len;
      rest = drop-set-lt (i + 1) out i left (omega arith) ∙ tails both;
      done = take_more_set out i left within
          ∙ (λ k. before.done k ++ (is ∙ met_same now.seats first.seats row (before.unread row.0 tied)
          ∙ ap first_met (heads both)) k ∷ [])
          ∙ sym (ap (map first_met) (take_more start i row within')
          ∙ map_last first_met (take i start) (get_or start i row));
      left = ap (λ (m : Seats). fold remove m (keys_of (drop (i + 1) start))) goes
          ∙ ap (λ (es : List (SubId × Live)). fold remove now.seats (keys_of es)) opened ∙ before.left;
      unread = λ x among. ap (λ (m : Seats). get m x) goes ∙ get-remove sub_ids_total now.seats row.0 x
          ∙ kept_by (eq_by_cmp sub_id_cmp x row.0) (get now.seats x)
          (other_key x row.0 (keys_of (drop (i + 1) start)) (not_below row.0 (drop (i + 1) start) below) among)
          ∙ before.unread x (ap (λ (es : List (SubId × Live)). list_any (eq_by_cmp sub_id_cmp x) (keys_of es))
          (sym opened)
          ∙ or_right (eq_by_cmp sub_id_cmp x row.0) (list_any (eq_by_cmp sub_id_cmp x) (keys_of (drop (i + 1) start)))
          among);
      same_places = places ∙ before.same_places;
    }

pub taken_none : (first : Seated) (start : List (SubId × Live)) → IsTaking first first start start 0
taken_none first start =
    record { len = refl; rest = refl; done = refl; left = refl; unread = λ x among. refl; same_places = refl }

pub taken_all : (first now : Seated) (start out : List (SubId × Live)) (i : ℕ) → length out ≤ i
    → IsTaking first now start out i
    → (now.seats ≡ fold remove first.seats (keys_of start)) × (out ≡ map (met (lives_seated first.seats)) start)
taken_all first now start out i past all =
    let past' : length start ≤ i = subst (λ n. n ≤ i) all.len past in (
      sym (ap (λ (es : List (SubId × Live)). fold remove now.seats (keys_of es)) (drop_of_length-le start past'))
          ∙ all.left,
      sym (take_all i out past) ∙ all.done ∙ ap (map (met (lives_seated first.seats))) (take_all i start past'),
    )
