-- A slot that is written: what it tells of each subchannel, and that places stay.
use Rattle.std.proofs.Common.{◌≡◌, ℕ, zero, suc, ◌+◌, ◌<◌, Bool, true, false, cond, ◌&&◌, List, [], ◌∷◌, ◌++◌, Option}
use Rattle.std.proofs.Common.{None, Some, is_some, option_map, slice_get, slice_set, option_and_then, nat_eq, refl, sym}
use Rattle.std.proofs.Common.{ap, ◌∙◌, arith, eqb-true, eq-eqb, ne_eqb}
use Rattle.std.proofs.lemmas.Bool.{and_parts}
use Rattle.std.specs.Option.{option_flatten, unwrap_or}
use Rattle.std.specs.Ordering.{eq_by_cmp, is_eq, nat_cmp, ordering_then, MatchOrdering}
use Rattle.std.specs.declared.cmp.Ordering.{Ordering}
use Rattle.std.specs.declared.cmp.Ordering.TheVariants.{Less, Equal, Greater}
use Rattle.std.specs.Cmp.{ranks}
use Rattle.std.specs.FinMap.{get, insert, remove, same_map, get-insert, get-remove}
use Rattle.iocm_types.specs.declared.sub_id.SubId.{SubId}
use Rattle.iocm_types.specs.SubId.{sub_id_cmp}
use Rattle.iocm_types.specs.KeyOrder.{sub_ids_total, sub_ids_exact}
use Rattle.iocm_grid.specs.Levels.{Slots, Sets, Levels, is_image, index_of, slot_among, slot_in, slot_at, changed_at}
use Rattle.iocm_grid.specs.Levels.{written}
use Rattle.iocm_grid.specs.Gridded.{IsInRange, each_from, subchannel, rows_in, places_in}
use Rattle.iocm_grid.proofs.Indices.{zero_other, other_zero, next_same}
use Rattle.iocm_grid.proofs.Looking.{row_at, equal_is, image_is, is_of_image}

-- a list is set where an item is changed
pub set_changed : {Y : Type 0} (f : Y → Y) (ys : List Y) (i : ℕ) (y w : Y) → slice_get ys i ≡ Some y → f y ≡ w
    → slice_set ys i w ≡ changed_at f i ys
set_changed f [] i y w at is = cc
set_changed f (z ∷ ys) zero y w at is = ap (λ v. v ∷ ys) (sym is ∙ ap f (ap (λ o. unwrap_or o y) (sym at)))
set_changed f (z ∷ ys) (suc i) y w at is = ap (λ vs. z ∷ vs) (set_changed f ys i y w at is)

same_twice : {A : Type 0} (b : Bool) (a : A) → a ≡ cond b a a
same_twice true a = refl
same_twice false a = refl

-- what is looked up below an item that is changed
module _ {X Y : Type 0} (w : Option X) (at_x at_q : Y → Option (Option X)) (f : Y → Y) (same : Bool)
    (below : (y : Y) → at_q (f y) ≡ cond same (option_map (λ old. w) (at_x y)) (at_q y)) where
  pub looked_up : (ys : List Y) (i j : ℕ) → option_and_then at_q (slice_get (changed_at f i ys) j)
      ≡ cond (nat_eq j i && same) (option_map (λ old. w) (option_and_then at_x (slice_get ys i)))
      (option_and_then at_q (slice_get ys j))
  looked_up [] i j = same_twice (nat_eq j i && same) None
  looked_up (y ∷ ys) zero zero = below y
  looked_up (y ∷ ys) zero (suc j) =
      sym (ap (λ b. cond (b && same) (option_map (λ old. w) (at_x y)) (option_and_then at_q (slice_get ys j)))
      (other_zero j))
  looked_up (y ∷ ys) (suc i) zero =
      sym (ap (λ b. cond (b && same) (option_map (λ old. w) (option_and_then at_x (slice_get ys i))) (at_q y))
      (zero_other i))
  looked_up (y ∷ ys) (suc i) (suc j) = looked_up ys i j
      ∙ sym (ap (λ b. cond (b && same) (option_map (λ old. w) (option_and_then at_x (slice_get ys i)))
      (option_and_then at_q (slice_get ys j))) (next_same j i))

module _ {X : Type 0} (w : Option X) (x q : SubId) (range : IsInRange x) where
  -- the slots of a set
  item_at : (ys : Slots X) (i j : ℕ) → slice_get (changed_at (λ old. w) i ys) j
      ≡ cond (nat_eq j i) (option_map (λ old. w) (slice_get ys i)) (slice_get ys j)
  item_at [] i j = same_twice (nat_eq j i) None
  item_at (y ∷ ys) zero zero = refl
  item_at (y ∷ ys) zero (suc j) = sym (ap (λ b. cond b (Some w) (slice_get ys j)) (other_zero j))
  item_at (y ∷ ys) (suc i) zero =
      sym (ap (λ b. cond b (option_map (λ old. w) (slice_get ys i)) (Some y)) (zero_other i))
  item_at (y ∷ ys) (suc i) (suc j) = item_at ys i j
      ∙ sym (ap (λ b. cond b (option_map (λ old. w) (slice_get ys i)) (slice_get ys j)) (next_same j i))

  abbrev same_slot : Bool
  same_slot = nat_eq q.image.mif x.image.mif && nat_eq q.number x.number

  abbrev same_set : Bool
  same_set = nat_eq q.set x.set && same_slot

  abbrev same : Bool
  same = nat_eq q.image.css x.image.css && same_set

  x_is : is_image x.image.mif ≡ true
  x_is = is_of_image x.image.mif range.no_zero range.mif

  -- indices are the same where the image and the number are
  index_same : 0 < q.image.mif → q.image.mif < 16 → (b : Bool) → nat_eq (index_of q) (index_of x) ≡ b → b ≡ same_slot
  index_same low high true e =
      let is : index_of q ≡ index_of x = eqb-true (index_of q) (index_of x) e in
      let x_low = range.no_zero in let x_high = range.mif in
      let mif : q.image.mif ≡ x.image.mif = omega arith in
      let number : q.number ≡ x.number = omega arith in
      sym (λ i. eq-eqb q.image.mif x.image.mif mif i && eq-eqb q.number x.number number i)
  index_same low high false e = by same_slot refl
    where
      by : (b : Bool) → same_slot ≡ b → false ≡ same_slot
      by true is =
          let parts = and_parts _ _ is in
          let mif : q.image.mif ≡ x.image.mif = eqb-true q.image.mif x.image.mif parts.0 in
          let number : q.number ≡ x.number = eqb-true q.number x.number parts.1 in
          let index : index_of q ≡ index_of x = omega arith in
          sym e ∙ eq-eqb (index_of q) (index_of x) index ∙ sym is
      by false is = sym is

  -- another image has another slot
  not_same : is_image q.image.mif ≡ false → (b : Bool) → same_slot ≡ b → b ≡ false
  not_same none true is =
      let parts = and_parts _ _ is in
      let bad : true ≡ false = sym x_is ∙ sym (ap is_image (eqb-true q.image.mif x.image.mif parts.0)) ∙ none in cc
  not_same none false is = refl

  in_slots : (slots : Slots X) → slot_among (changed_at (λ old. w) (index_of x) slots) q
      ≡ cond same_slot (option_map (λ old. w) (slot_among slots x)) (slot_among slots q)
  in_slots slots = by (is_image q.image.mif) refl
    where
      of_x : slice_get slots (index_of x) ≡ slot_among slots x
      of_x = ap (λ b. cond b (slice_get slots (index_of x)) None) (sym x_is)

      by : (b : Bool) → is_image q.image.mif ≡ b
          → cond (is_image q.image.mif) (slice_get (changed_at (λ old. w) (index_of x) slots) (index_of q)) None
          ≡ cond same_slot (option_map (λ old. w) (slot_among slots x))
          (cond (is_image q.image.mif) (slice_get slots (index_of q)) None)
      by true is =
          let low = image_is q.image.mif is in
          ap (λ b. cond b (slice_get (changed_at (λ old. w) (index_of x) slots) (index_of q)) None) is
          ∙ item_at slots (index_of x) (index_of q)
          ∙ (λ i. cond (index_same low.0 low.1 (nat_eq (index_of q) (index_of x)) refl i)
          (option_map (λ old. w) (of_x i)) (slice_get slots (index_of q)))
          ∙ ap (λ b. cond same_slot (option_map (λ old. w) (slot_among slots x))
          (cond b (slice_get slots (index_of q)) None)) (sym is)
      by false none = ap (λ b. cond b (slice_get (changed_at (λ old. w) (index_of x) slots) (index_of q)) None) none
          ∙ sym ((λ i. cond (not_same none same_slot refl i) (option_map (λ old. w) (slot_among slots x))
          (cond (none i) (slice_get slots (index_of q)) None)))

  in_sets : (sets : Sets X) → slot_in (changed_at (changed_at (λ old. w) (index_of x)) x.set sets) q
      ≡ cond same_set (option_map (λ old. w) (slot_in sets x)) (slot_in sets q)
  in_sets sets = looked_up w (λ slots. slot_among slots x) (λ slots. slot_among slots q) _ same_slot in_slots sets x.set
      q.set

  in_levels : (levels : Levels X)
      → slot_at (written levels x w) q ≡ cond same (option_map (λ old. w) (slot_at levels x)) (slot_at levels q)
  in_levels levels = looked_up w (λ sets. slot_in sets x) (λ sets. slot_in sets q) _ same_set in_sets levels x.image.css
      q.image.css

  -- two subchannels tie where their numbers are the same
  tie_by : (a b : ℕ) (r : Ordering) → MatchOrdering r (a < b) (a ≡ b) (b < a) → is_eq r ≡ nat_eq a b
  tie_by a b Less less = sym (ne_eqb a b (λ e. absurd (omega arith)))
  tie_by a b Equal e = sym (eq-eqb a b e)
  tie_by a b Greater more = sym (ne_eqb a b (λ e. absurd (omega arith)))

  tie : (a b : ℕ) → is_eq (nat_cmp a b) ≡ nat_eq a b
  tie a b = tie_by a b (nat_cmp a b) (ranks a b)

  tie_then : (r s : Ordering) → is_eq (ordering_then r s) ≡ (is_eq r && is_eq s)
  tie_then Less s = refl
  tie_then Equal s = refl
  tie_then Greater s = refl

  in_turn : (a b c d : Bool) → ((a && b) && (c && d)) ≡ (a && (c && (b && d)))
  in_turn true true c d = refl
  in_turn true false true d = refl
  in_turn true false false d = refl
  in_turn false b c d = refl

  ties : eq_by_cmp sub_id_cmp q x ≡ same
  ties = tie_then (ordering_then (nat_cmp q.image.css x.image.css) (nat_cmp q.image.mif x.image.mif))
      (ordering_then (nat_cmp q.set x.set) (nat_cmp q.number x.number))
      ∙ (λ i. tie_then (nat_cmp q.image.css x.image.css) (nat_cmp q.image.mif x.image.mif) i
      && tie_then (nat_cmp q.set x.set) (nat_cmp q.number x.number) i)
      ∙ (λ i. (tie q.image.css x.image.css i && tie q.image.mif x.image.mif i)
      && (tie q.set x.set i && tie q.number x.number i))
      ∙ in_turn (nat_eq q.image.css x.image.css) (nat_eq q.image.mif x.image.mif) (nat_eq q.set x.set)
      (nat_eq q.number x.number)

  some_now : (o : Option (Option X)) → is_some o ≡ true → option_map (λ old. w) o ≡ Some w
  some_now None is = cc
  some_now (Some old) is = refl

  -- the slot that is written tells what was written, and each other one what it told
  pub slot_after : (levels : Levels X) → is_some (slot_at levels x) ≡ true
      → slot_at (written levels x w) q ≡ cond (eq_by_cmp sub_id_cmp q x) (Some w) (slot_at levels q)
  slot_after levels there =
      in_levels levels ∙ (λ i. cond (sym ties i) (some_now (slot_at levels x) there i) (slot_at levels q))

-- what is made of items and indices alike before and after a change
same_each : {Y W : Type 0} (made : ℕ → Y → List W) (f : Y → Y) → ((m : ℕ) (y : Y) → made m (f y) ≡ made m y)
    → (n i : ℕ) (ys : List Y)
    → each_from made n (changed_at f i ys) ≡ each_from made n ys
same_each made f alike n i [] = refl
same_each made f alike n zero (y ∷ ys) = ap (λ ws. ws ++ each_from made (n + 1) ys) (alike n y)
same_each made f alike n (suc i) (y ∷ ys) = ap (λ ws. made n y ++ ws) (same_each made f alike (n + 1) i ys)

-- a slot that is written keeps its place, and no other comes
pub places_after : {X : Type 0} (levels : Levels X) (x : SubId) (w : Option X)
    → places_in (written levels x w) ≡ places_in levels
places_after {X} levels x w =
    same_each of_sets in_sets (λ css sets. same_each (of_slots css) in_slots
    (λ set slots. same_each (λ i slot. subchannel css set i ∷ []) (λ old. w) (λ i slot. refl) 0 (index_of x) slots) 0
    x.set sets)
    0 x.image.css levels
  where
    of_slots : ℕ → ℕ → Slots X → List SubId
    of_slots css set slots = each_from (λ i slot. subchannel css set i ∷ []) 0 slots

    of_sets : ℕ → Sets X → List SubId
    of_sets css sets = each_from (of_slots css) 0 sets

    in_slots : Slots X → Slots X
    in_slots slots = changed_at (λ old. w) (index_of x) slots

    in_sets : Sets X → Sets X
    in_sets sets = changed_at in_slots x.set sets

flat : {X : Type 0} (b : Bool) (w : Option X) (r : Option (Option X))
    → option_flatten (cond b (Some w) r) ≡ cond b w (option_flatten r)
flat true w r = refl
flat false w r = refl

module _ {X : Type 0} (levels : Levels X) (x : SubId) (range : IsInRange x)
    (there : is_some (slot_at levels x) ≡ true) where
  -- the row of a subchannel once a slot is written
  row_after : (w : Option X) (q : SubId)
      → get (rows_in (written levels x w)) q ≡ cond (eq_by_cmp sub_id_cmp q x) w (get (rows_in levels) q)
  row_after w q = row_at (written levels x w) q ∙ ap option_flatten (slot_after w x q range levels there)
      ∙ flat (eq_by_cmp sub_id_cmp q x) w (slot_at levels q)
      ∙ ap (cond (eq_by_cmp sub_id_cmp q x) w) (sym (row_at levels q))

  -- a row is put there, or taken out
  pub put_in : (row : X) → rows_in (written levels x (Some row)) ≡ insert (rows_in levels) x row
  put_in row = same_map sub_ids_total sub_ids_exact _ _
      (λ q. row_after (Some row) q ∙ sym (get-insert sub_ids_total (rows_in levels) x row q))

  pub taken_out : rows_in (written levels x None) ≡ remove (rows_in levels) x
  taken_out = same_map sub_ids_total sub_ids_exact _ _
      (λ q. row_after None q ∙ sym (get-remove sub_ids_total (rows_in levels) x q))

-- a subchannel without a row: to take it out changes nothing
pub untaken : {X : Type 0} (levels : Levels X) (x : SubId) → option_flatten (slot_at levels x) ≡ None
    → rows_in levels ≡ remove (rows_in levels) x
untaken levels x none = same_map sub_ids_total sub_ids_exact _ _
    (λ q. stays q ∙ sym (get-remove sub_ids_total (rows_in levels) x q))
  where
    at_tie : (q : SubId) (b : Bool) → eq_by_cmp sub_id_cmp q x ≡ b
        → get (rows_in levels) q ≡ cond b None (get (rows_in levels) q)
    at_tie q true is = ap (get (rows_in levels)) (sub_ids_exact q x (equal_is _ is)) ∙ row_at levels x ∙ none
    at_tie q false is = refl

    stays : (q : SubId) → get (rows_in levels) q ≡ cond (eq_by_cmp sub_id_cmp q x) None (get (rows_in levels) q)
    stays q = at_tie q (eq_by_cmp sub_id_cmp q x) refl
