-- In the middle of taking the edits out of the parts of a Row, the last one first.
use Rattle.std.proofs.Common.{◌≡◌, ◌+◌, ◌≤◌, ℕ, List, [], ◌∷◌, ◌++◌, length, map, reverse, Some, None, refl, sym, ap}
use Rattle.std.proofs.Common.{append_assoc, ◌∙◌, arith}
use Rattle.std.proofs.lemmas.List.{length-append}
use Rattle.iocm_tree.specs.Carried.{Carried}
use Rattle.iocm_tree.specs.Trees.{CarriedTree, CarriedParts, leaf, row, group, choose, part, edit_in, parts_from}
use Rattle.iocm_activate.specs.Done.{leaves_from}
use Rattle.iocm_stage.proofs.Lists.{same_head, same_tail, reverse_last}

-- parts that are these edits
one_part : (t : CarriedTree) (ps : CarriedParts) (i : Carried) (qs : CarriedParts) → part t ps ≡ part (leaf i) qs
    → (t ≡ leaf i) × (ps ≡ qs)
one_part t ps i qs h = (cc, cc)

pub parts_are_leaves : (ts : List CarriedTree) (is : List Carried) → parts_from ts ≡ leaves_from is → ts ≡ map leaf is
parts_are_leaves [] [] h = refl
parts_are_leaves [] (i ∷ is) h = cc
parts_are_leaves (t ∷ ts) [] h = cc
parts_are_leaves (t ∷ ts) (i ∷ is) h =
    let both = one_part t (parts_from ts) i (leaves_from is) h in let more = parts_are_leaves ts is both.1 in
    λ k. both.0 k ∷ more k

same_edit : (i j : Carried) → leaf i ≡ leaf j → i ≡ j
same_edit i j h = cc

pub same_edits : (is js : List Carried) → map leaf is ≡ map leaf js → is ≡ js
same_edits [] [] h = refl
same_edits [] (j ∷ js) h = cc
same_edits (i ∷ is) [] h = cc
same_edits (i ∷ is) (j ∷ js) h =
    let first = same_edit i j (same_head _ _ _ _ h) in let more = same_edits is js (same_tail _ _ _ _ h) in
    λ k. first k ∷ more k

-- where all parts are edits, so is each
no_leaf : (new : List CarriedTree) (t : CarriedTree) (rest : List CarriedTree) (is : List Carried)
    → new ++ t ∷ rest ≡ map leaf is → edit_in t ≡ None → ⊥
no_leaf [] t rest [] h off = cc
no_leaf [] t rest (i ∷ is) h off = no i (ap edit_in (sym (same_head _ _ _ _ h)) ∙ off)
  where
    no : (j : Carried) → Some j ≡ None → ⊥
    no j e = cc
no_leaf (x ∷ xs) t rest [] h off = cc
no_leaf (x ∷ xs) t rest (i ∷ is) h off = no_leaf xs t rest is (same_tail _ _ _ _ h) off

is_leaf : (t : CarriedTree) (i : Carried) → edit_in t ≡ Some i → t ≡ leaf i
is_leaf (leaf c) i h = ap leaf (inner c i h)
  where
    inner : (a b : Carried) → Some a ≡ Some b → a ≡ b
    inner a b e = cc
is_leaf (row ps) i h = cc
is_leaf (group ps) i h = cc
is_leaf (choose ps) i h = cc

-- where all parts are edits, those that are left and those that were taken out are all of them, and
-- there is room for those that are left
pub record IsCopying (all left : List CarriedTree) (edits : List Carried) (room : ℕ) : Type 0 where
  pub whole : (is : List Carried) → all ≡ map leaf is → left ++ map leaf (reverse edits) ≡ all
  pub fits : length left + length edits ≤ room

-- one more is taken out
pub one_more : (all left new : List CarriedTree) (t : CarriedTree) (i : Carried) (edits more : List Carried)
    (room wide : ℕ) → IsCopying all left edits room
    → left ≡ new ++ t ∷ [] → edit_in t ≡ Some i → more ≡ edits ++ i ∷ [] → wide ≡ room → IsCopying all new more wide
one_more all left new t i edits more room wide copying is edit put same = record {
  whole = λ es h.
      ap (λ xs. new ++ map leaf xs) (ap reverse put ∙ reverse_last edits i)
      ∙ sym (append_assoc new (leaf i ∷ []) (map leaf (reverse edits)))
      ∙ ap (λ x. (new ++ x ∷ []) ++ map leaf (reverse edits)) (sym (is_leaf t i edit))
      ∙ ap (λ xs. xs ++ map leaf (reverse edits)) (sym is) ∙ copying.whole es h;
  fits = let l = ap length is ∙ length-append new (t ∷ []) in let m = ap length put ∙ length-append edits (i ∷ []) in
      let f = copying.fits in omega (arith, l, m, f, same);
}

-- a part that is no edit is left out
pub none_more : (all left new : List CarriedTree) (t : CarriedTree) (edits : List Carried) (room : ℕ)
    → IsCopying all left edits room
    → left ≡ new ++ t ∷ [] → edit_in t ≡ None → IsCopying all new edits room
none_more all left new t edits room copying is off = record {
  whole = λ es h. absurd (no_leaf new t (map leaf (reverse edits)) es
      (sym (append_assoc new (t ∷ []) (map leaf (reverse edits))) ∙ ap (λ xs. xs ++ map leaf (reverse edits)) (sym is)
      ∙ copying.whole es h ∙ h) off);
  fits = let l = ap length is ∙ length-append new (t ∷ []) in let f = copying.fits in omega (arith, l, f);
}

pub all_copied : (all left : List CarriedTree) (edits : List Carried) (room : ℕ) → IsCopying all left edits room
    → left ≡ []
    → (is : List Carried) → parts_from all ≡ leaves_from is → reverse edits ≡ is
all_copied all left edits room copying empty is h =
    let each = parts_are_leaves all is h in
    same_edits (reverse edits) is (ap (λ xs. xs ++ map leaf (reverse edits)) (sym empty) ∙ copying.whole is each ∙ each)
