-- In the middle of telling of a change: the edits of a log go over to the inverse tree, the last
-- one first.
use Rattle.std.proofs.Common.{◌≡◌, ◌<◌, ◌≤◌, ◌+◌, List, [], ◌∷◌, ◌++◌, length, map, reverse, refl, sym, ap, ◌∙◌}
use Rattle.std.proofs.Common.{arith, rules, Vec}
use Rattle.std.specs.Vec.{vec_capacity}
use Rattle.std.proofs.lemmas.List.{append_assoc, append-nil, map-append, reverse-append, length-append}
use Rattle.iocm_tree.specs.Carried.{Carried}
use Rattle.iocm_tree.specs.Trees.{leaf, row, part, parts_from, tree_of}
use Rattle.iocm_tree.specs.declared.tree.Tree.{Tree, Leaf, Row, the_lemmas}
use Rattle.iocm_tree.proofs.Trees.{tree-Row}
use Rattle.iocm_plant.specs.declared.touched.Applied.{Applied}
use Rattle.iocm_plant.specs.declared.touched.Touched.{Touched}
use Rattle.iocm_activate.specs.Done.{leaves_from, touched_in}
use Rattle.iocm_activate.specs.Told.{way_back}
use Rattle.iocm_activate.proofs.Back.{way_back_append}

-- what each did, the last first
abbrev touched : List Applied → List Touched
touched = touched_in

-- the parts that went over are those of the way back from what did, and there is room for what is left
pub record IsTurning {A : Type 0} (all : List Applied) (parts : Vec (Tree A) A) (left : List Applied) : Type 0 where
  inverse : map tree_of parts.items ++ map leaf (way_back left) ≡ map leaf (way_back all)
  room : length parts.items + length left ≤ vec_capacity parts

-- and so is what they did
pub record IsTelling {A : Type 0} (all : List Applied) (parts : Vec (Tree A) A) (performed : Vec Touched A)
    (left : List Applied) : Type 0 where
  pub turning : IsTurning all parts left
  told : touched left ++ reverse performed.items ≡ touched all
  more_room : length performed.items + length left ≤ vec_capacity performed

-- an edit is a leaf
tree-Leaf : (A : Type 0) (e : Carried) → tree_of {A = A} (Leaf e) ≡ leaf e
tree-Leaf A e = search (rules, the_lemmas)

-- ---- nothing went over yet

pub turns_first : {A : Type 0} (all : List Applied) (parts : Vec (Tree A) A) → parts.items ≡ []
    → length all ≤ vec_capacity parts → IsTurning all parts all
turns_first all parts none room = record {
  inverse = ap (λ ps. map tree_of ps ++ map leaf (way_back all)) none;
  room = let zero = ap length none in omega (arith, zero, room);
}

pub tells_first : {A : Type 0} (all : List Applied) (parts : Vec (Tree A) A) (performed : Vec Touched A)
    → parts.items ≡ [] → performed.items ≡ []
    → length all ≤ vec_capacity parts → length all ≤ vec_capacity performed → IsTelling all parts performed all
tells_first all parts performed none no_more room more_room = record {
  turning = turns_first all parts none room;
  told = ap (λ ds. touched all ++ reverse ds) no_more ∙ append-nil (touched all);
  more_room = let zero = ap length no_more in omega (arith, zero, more_room);
}

-- ---- the last of those that are left goes over

pub one_turned : {A : Type 0} (all : List Applied) (parts more : Vec (Tree A) A) (old new : List Applied) (a : Applied)
    → IsTurning all parts old → old ≡ new ++ a ∷ [] → more.items ≡ parts.items ++ Leaf a.inverse ∷ []
    → vec_capacity more ≡ vec_capacity parts
    → IsTurning all more new
one_turned {A = A} all parts more old new a turning is put capacity = record {
  inverse = ap (λ ps. map tree_of ps ++ map leaf (way_back new)) put
      ∙ ap (λ ts. ts ++ map leaf (way_back new))
      (map-append tree_of parts.items (Leaf a.inverse ∷ [])
      ∙ ap (λ t. map tree_of parts.items ++ t ∷ []) (tree-Leaf A a.inverse))
      ∙ append_assoc (map tree_of parts.items) (leaf a.inverse ∷ []) (map leaf (way_back new))
      ∙ ap (λ is. map tree_of parts.items ++ map leaf is) (sym (ap way_back is ∙ way_back_append new (a ∷ [])))
      ∙ turning.inverse;
  room = let l = ap length is ∙ length-append new (a ∷ []) in let p =
      ap length put ∙ length-append parts.items (Leaf a.inverse ∷ []) in
      let r = turning.room in omega (arith, l, p, r, capacity);
}

pub one_told : {A : Type 0} (all : List Applied) (parts more : Vec (Tree A) A) (performed after : Vec Touched A)
    (old new : List Applied) (a : Applied)
    → IsTelling all parts performed old → old ≡ new ++ a ∷ [] → more.items ≡ parts.items ++ Leaf a.inverse ∷ []
    → vec_capacity more ≡ vec_capacity parts
    → after.items ≡ performed.items ++ a.touched ∷ [] → vec_capacity after ≡ vec_capacity performed
    → IsTelling all more after new
one_told all parts more performed after old new a telling is put capacity told same = record {
  turning = one_turned all parts more old new a telling.turning is put capacity;
  told = ap (λ ds. touched new ++ reverse ds) told
      ∙ ap (λ ds. touched new ++ ds) (reverse-append performed.items (a.touched ∷ []))
      ∙ sym (append_assoc (touched new) (a.touched ∷ []) (reverse performed.items))
      ∙ ap (λ ds. ds ++ reverse performed.items)
      (sym (ap touched is ∙ map-append (λ (b : Applied). b.touched) new (a ∷ []))) ∙ telling.told;
  more_room = let l = ap length is ∙ length-append new (a ∷ []) in let p =
      ap length told ∙ length-append performed.items (a.touched ∷ []) in
      let r = telling.more_room in omega (arith, l, p, r, same);
}

-- there is room for one more
pub has_room : {A : Type 0} (all : List Applied) (parts : Vec (Tree A) A) (old new : List Applied) (a : Applied)
    → IsTurning all parts old → old ≡ new ++ a ∷ [] → length parts.items < vec_capacity parts
has_room all parts old new a turning is = let l = ap length is ∙ length-append new (a ∷ []) in let r = turning.room in
    omega (arith, l, r)

-- and for what it did
pub has_more_room : {A : Type 0} (all : List Applied) (parts : Vec (Tree A) A) (performed : Vec Touched A)
    (old new : List Applied) (a : Applied)
    → IsTelling all parts performed old → old ≡ new ++ a ∷ [] → length performed.items < vec_capacity performed
has_more_room all parts performed old new a telling is = let l = ap length is ∙ length-append new (a ∷ []) in let r =
    telling.more_room in omega (arith, l, r)

-- ---- all went over

leaves_are_parts : (is : List Carried) → parts_from (map leaf is) ≡ leaves_from is
leaves_are_parts [] = refl
leaves_are_parts (i ∷ is) = ap (part (leaf i)) (leaves_are_parts is)

-- once all are told, the parts are the way back
pub row_told : {A : Type 0} (all : List Applied) (parts : Vec (Tree A) A) (left : List Applied)
    → IsTurning all parts left → left ≡ []
    → tree_of (Row parts) ≡ row (leaves_from (way_back all))
row_told all parts left turning none = tree-Row parts
    ∙ ap (λ ts. row (parts_from ts))
    (sym (ap (λ ds. map tree_of parts.items ++ map leaf (way_back ds)) none ∙ append-nil (map tree_of parts.items))
    ∙ turning.inverse)
    ∙ ap row (leaves_are_parts (way_back all))

-- and what each did is told
pub touched_told : {A : Type 0} (all : List Applied) (parts : Vec (Tree A) A) (performed : Vec Touched A)
    (left : List Applied)
    → IsTelling all parts performed left → left ≡ []
    → reverse performed.items ≡ touched_in all
touched_told all parts performed left telling none =
    sym (ap (λ ds. touched ds ++ reverse performed.items) none) ∙ telling.told
