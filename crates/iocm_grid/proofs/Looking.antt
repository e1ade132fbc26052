-- The rows and the places of a grid, as its slots tell them.
use Rattle.std.proofs.Common.{◌≡◌, ℕ, ◌+◌, ◌/◌, ◌%◌, ◌<◌, Bool, true, false, cond, ◌||◌, ◌&&◌, T, List, [], ◌∷◌, Option}
use Rattle.std.proofs.Common.{None, Some, is_some, slice_get, option_and_then, refl, sym, ap, subst, ◌∙◌, arith}
use Rattle.std.proofs.Common.{ltb-true, lt-ltb}
use Rattle.std.specs.List.{list_any}
use Rattle.std.specs.Option.{option_flatten}
use Rattle.std.specs.Ordering.{eq_by_cmp, is_eq}
use Rattle.std.specs.declared.cmp.Ordering.{Ordering}
use Rattle.std.specs.declared.cmp.Ordering.TheVariants.{Less, Equal, Greater}
use Rattle.std.specs.FinMap.{get, find, get-from_entries}
use Rattle.std.proofs.lemmas.Cmp.{eq_by_cmp_equiv}
use Rattle.std.proofs.lemmas.Bool.{and_parts}
use Rattle.iocm_types.specs.declared.sub_id.SubId.{SubId}
use Rattle.iocm_types.specs.SubId.{sub_id_cmp}
use Rattle.iocm_types.specs.KeyOrder.{sub_ids_total, sub_ids_exact}
use Rattle.iocm_grid.specs.Levels.{Slots, Sets, Levels, is_image, index_of, slot_among, slot_in, slot_at}
use Rattle.iocm_grid.specs.Gridded.{HasPlace, each_from, each_slot, subchannel, row_in, rows_in, places_in}
use Rattle.iocm_grid.proofs.Searching.{IsSearch, none_from, found_from, finding, asking, if_any}

pub equal_is : (r : Ordering) → is_eq r ≡ true → r ≡ Equal
equal_is Less h = cc
equal_is Equal h = refl
equal_is Greater h = cc

-- another subchannel doesn't tie
pub untied : (x c : SubId) → (c ≡ x → T false) → eq_by_cmp sub_id_cmp x c ≡ false
untied x c apart = by (eq_by_cmp sub_id_cmp x c) refl
  where
    by : (b : Bool) → eq_by_cmp sub_id_cmp x c ≡ b → eq_by_cmp sub_id_cmp x c ≡ false
    by true is = absurd (apart (sym (sub_ids_exact x c (equal_is _ is))))
    by false is = is

pub tied : (x : SubId) → eq_by_cmp sub_id_cmp x x ≡ true
tied x = (eq_by_cmp_equiv sub_ids_total).refl x

pub then_same : {A B : Type 0} (f g : A → Option B) → ((a : A) → f a ≡ g a) → (o : Option A)
    → option_and_then f o ≡ option_and_then g o
then_same f g same None = refl
then_same f g same (Some a) = same a

module _ {A B C : Type 0} where
  then_then : (k : B → Option C) (g : A → Option B) (o : Option A)
      → option_and_then (λ a. option_and_then k (g a)) o ≡ option_and_then k (option_and_then g o)
  then_then k g None = refl
  then_then k g (Some a) = refl

-- the index of a subchannel's slot, and the subchannel of an index
pub image_is : (mif : ℕ) → is_image mif ≡ true → (0 < mif) × (mif < 16)
image_is mif is = let parts = and_parts _ _ is in (ltb-true 0 mif parts.0, ltb-true mif 16 parts.1)

pub is_of_image : (mif : ℕ) → 0 < mif → mif < 16 → is_image mif ≡ true
is_of_image mif low high = (λ i. lt-ltb 0 mif low i && lt-ltb mif 16 high i)

index_back : (x : SubId) → 0 < x.image.mif → x.image.mif < 16 → subchannel x.image.css x.set (index_of x) ≡ x
index_back x low high =
    let mif : index_of x % 15 + 1 ≡ x.image.mif = omega arith in
    let number : index_of x / 15 ≡ x.number = omega arith in
    λ i. record { image = record { css = x.image.css; mif = mif i }; set = x.set; number = number i }

index_is : (css set i : ℕ) (x : SubId) → subchannel css set i ≡ x → i ≡ index_of x
index_is css set i x e =
    let mif : i % 15 + 1 ≡ x.image.mif = ap (λ c. c.image.mif) e in
    let number : i / 15 ≡ x.number = ap (λ c. c.number) e in omega arith

no_image : (css set i : ℕ) (x : SubId) → is_image x.image.mif ≡ false → subchannel css set i ≡ x → T false
no_image css set i x none e =
    let mif : i % 15 + 1 ≡ x.image.mif = ap (λ c. c.image.mif) e in
    let is : is_image x.image.mif ≡ true = is_of_image x.image.mif (omega arith) (omega arith) in
    let bad : false ≡ true = sym none ∙ is in cc

module _ {W U X : Type 0} {ask : List W → Option U} (s : IsSearch ask) (f : SubId → Option X → List W) (x : SubId)
    (apart : (c : SubId) (slot : Option X) → (c ≡ x → T false) → ask (f c slot) ≡ None) where
  -- what is made of the slots of a set, and of a channel subsystem
  abbrev of_slots : ℕ → ℕ → Slots X → List W
  of_slots css set slots = each_from (λ i slot. f (subchannel css set i) slot) 0 slots

  abbrev of_sets : ℕ → Sets X → List W
  of_sets css sets = each_from (λ set slots. of_slots css set slots) 0 sets

  abbrev told : Option X → Option U
  told slot = ask (f x slot)

  none_in_slots : (css set : ℕ) → ((i : ℕ) → subchannel css set i ≡ x → T false) → (slots : Slots X)
      → ask (of_slots css set slots) ≡ None
  none_in_slots css set other slots = none_from s _ 0 slots (λ i slot more. apart (subchannel css set i) slot (other i))

  none_in_sets : (css : ℕ) → ((set i : ℕ) → subchannel css set i ≡ x → T false) → (sets : Sets X)
      → ask (of_sets css sets) ≡ None
  none_in_sets css other sets = none_from s _ 0 sets (λ set slots more. none_in_slots css set (other set) slots)

  in_slots : (slots : Slots X) → ask (of_slots x.image.css x.set slots) ≡ option_and_then told (slot_among slots x)
  in_slots slots = by (is_image x.image.mif) refl
    where
      by : (b : Bool) → is_image x.image.mif ≡ b
          → ask (of_slots x.image.css x.set slots)
          ≡ option_and_then told (cond (is_image x.image.mif) (slice_get slots (index_of x)) None)
      by true is =
          let range = image_is x.image.mif is in
          found_from s _ (index_of x) (index_of x) 0 slots (omega arith)
          (λ i slot ne. apart (subchannel x.image.css x.set i) slot (λ e. ne (index_is x.image.css x.set i x e)))
          ∙ ap (λ c. option_and_then (λ slot. ask (f c slot)) (slice_get slots (index_of x)))
          (index_back x range.0 range.1)
          ∙ ap (λ b. option_and_then told (cond b (slice_get slots (index_of x)) None)) (sym is)
      by false none = none_in_slots x.image.css x.set (λ i e. no_image x.image.css x.set i x none e) slots
          ∙ ap (λ b. option_and_then told (cond b (slice_get slots (index_of x)) None)) (sym none)

  in_sets : (sets : Sets X) → ask (of_sets x.image.css sets) ≡ option_and_then told (slot_in sets x)
  in_sets sets = found_from s _ x.set x.set 0 sets (omega arith)
      (λ set slots ne. none_in_slots x.image.css set (λ i e. ne (ap (λ c. c.set) e)) slots)
      ∙ then_same _ _ in_slots (slice_get sets x.set)
      ∙ then_then told (λ slots. slot_among slots x) (slice_get sets x.set)

  -- a question of one subchannel is answered by its slot
  pub found : (levels : Levels X) → ask (each_slot f levels) ≡ option_and_then told (slot_at levels x)
  found levels = found_from s _ x.image.css x.image.css 0 levels (omega arith)
      (λ css sets ne. none_in_sets css (λ set i e. ne (ap (λ c. c.image.css) e)) sets)
      ∙ then_same _ _ in_sets (slice_get levels x.image.css)
      ∙ then_then told (λ sets. slot_in sets x) (slice_get levels x.image.css)

-- the row of a subchannel
module _ {X : Type 0} where
  row_apart : (x c : SubId) (slot : Option X) → (c ≡ x → T false) → find sub_id_cmp x (row_in c slot) ≡ None
  row_apart x c None other = refl
  row_apart x c (Some row) other = ap (λ b. cond b (Some row) None) (untied x c other)

  row_here : (x : SubId) (slot : Option X) → find sub_id_cmp x (row_in x slot) ≡ slot
  row_here x None = refl
  row_here x (Some row) = ap (λ b. cond b (Some row) None) (tied x)

  then_itself : (o : Option (Option X)) → option_and_then (λ slot. slot) o ≡ option_flatten o
  then_itself None = refl
  then_itself (Some slot) = refl

  pub row_at : (levels : Levels X) (x : SubId) → get (rows_in levels) x ≡ option_flatten (slot_at levels x)
  row_at levels x = get-from_entries sub_ids_total (each_slot row_in levels) x
      ∙ found (finding sub_id_cmp x) row_in x (row_apart x) levels
      ∙ then_same _ (λ slot. slot) (row_here x) (slot_at levels x) ∙ then_itself (slot_at levels x)

-- whether it has a place
abbrev at_place : {X : Type 0} → SubId → Option X → List SubId
at_place x slot = x ∷ []

or_false : (b : Bool) → (b || false) ≡ b
or_false true = refl
or_false false = refl

abbrev so : Option (Unit {0})
so = Some tt

so_or_none : (b : Bool) → is_some (cond b so None) ≡ b
so_or_none true = refl
so_or_none false = refl

some_kept : {A : Type 0} (b : Bool) → b ≡ true → (o : Option A)
    → is_some (option_and_then (λ a. cond b so None) o) ≡ is_some o
some_kept b is None = refl
some_kept b is (Some a) = so_or_none b ∙ is

truth : (b : Bool) → T b → b ≡ true
truth true h = refl
truth false h = absurd h

module _ {X : Type 0} where
  place_apart : (x c : SubId) (slot : Option X) → (c ≡ x → T false)
      → if_any (eq_by_cmp sub_id_cmp x) (at_place c slot) ≡ None
  place_apart x c slot other = ap (λ b. cond (b || false) (Some tt) None) (untied x c other)

  pub place_at : (levels : Levels X) (x : SubId)
      → list_any (eq_by_cmp sub_id_cmp x) (places_in levels) ≡ is_some (slot_at levels x)
  place_at levels x = sym (so_or_none _)
      ∙ ap is_some (found (asking (eq_by_cmp sub_id_cmp x)) at_place x (place_apart x) levels)
      ∙ some_kept (eq_by_cmp sub_id_cmp x x || false) (or_false _ ∙ tied x) (slot_at levels x)

  pub has_slot : (levels : Levels X) (x : SubId)
      → HasPlace (record { rows = rows_in levels; places = places_in levels }) x → is_some (slot_at levels x) ≡ true
  has_slot levels x has = sym (place_at levels x) ∙ truth _ has

  pub has_place : (levels : Levels X) (x : SubId) → is_some (slot_at levels x) ≡ true
      → HasPlace (record { rows = rows_in levels; places = places_in levels }) x
  has_place levels x is = subst T (sym (place_at levels x ∙ is)) tt

-- a slot with a row is a slot
pub inner_some : {X : Type 0} (r : Option (Option X)) → is_some (option_flatten r) ≡ true → is_some r ≡ true
inner_some None has = has
inner_some (Some o) has = refl
