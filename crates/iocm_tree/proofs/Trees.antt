-- Trees in memory: what a node is, one part among the parts of a node, and parts that were copied
-- so far.
use Rattle.std.proofs.Common.{◌≡◌, ℕ, ◌+◌, ◌<◌, ◌≤◌, List, [], ◌∷◌, ◌++◌, length, get_or, map, take, drop, zero, suc}
use Rattle.std.proofs.Common.{arith, sym, ap, subst, ◌∙◌, rules, Vec}
use Rattle.std.proofs.lemmas.List.{take_all, take_more, map-append, at_drop_all}
use Rattle.iocm_model.specs.Change.Tree.{nodes_of, nodes_in}
use Rattle.iocm_types.proofs.Lists.{drop-item}
use Rattle.iocm_tree.specs.Trees.{CarriedTree, row, group, choose, none, part, plain_tree, plain_parts, parts_from}
use Rattle.iocm_tree.specs.Trees.{tree_of, parts_of}
use Rattle.iocm_tree.specs.declared.tree.Tree.{Tree, Row, Group, Choose, the_lemmas}

-- how many nodes a tree has, and how many the parts of a node
abbrev pub nodes : CarriedTree → ℕ
nodes p = nodes_of (plain_tree p)

abbrev pub nodes_among : List CarriedTree → ℕ
nodes_among ps = nodes_in (plain_parts (parts_from ps))

-- a node is one of its parts
pub tree-Row : {A : Type 0} → (v : Vec (Tree A) A) → tree_of (Row v) ≡ row (parts_of v.items)
tree-Row v = search (rules, the_lemmas)

pub tree-Group : {A : Type 0} → (v : Vec (Tree A) A) → tree_of (Group v) ≡ group (parts_of v.items)
tree-Group v = search (rules, the_lemmas)

pub tree-Choose : {A : Type 0} → (v : Vec (Tree A) A) → tree_of (Choose v) ≡ choose (parts_of v.items)
tree-Choose v = search (rules, the_lemmas)

nodes_at : {A : Type 0} → (xs : List (Tree A)) (i : ℕ) (d : Tree A) → i < length xs
    → nodes (tree_of (get_or xs i d)) ≤ nodes_among (map tree_of xs)
nodes_at [] i d within = absurd (omega arith)
nodes_at (x ∷ xs) zero d within = omega arith
nodes_at (x ∷ xs) (suc i) d within = omega (arith, nodes_at xs i d (omega arith))

-- a part has no more nodes than all parts have
pub nodes_of_part : {A : Type 0} (shown xs : List (Tree A)) → shown ≡ xs → (i : ℕ) (x : Tree A) → i < length shown
    → x ≡ get_or shown i x
    → nodes (tree_of x) ≤ nodes_among (map tree_of xs)
nodes_of_part shown xs all i x within is =
    subst (λ ys. nodes (tree_of x) ≤ nodes_among (map tree_of ys)) all
    (subst (λ y. nodes (tree_of y) ≤ nodes_among (map tree_of shown)) (sym is) (nodes_at shown i x within))

-- the parts from a place on: the one there, and those from the next place on
pub rest_at : {A : Type 0} → (shown : List (Tree A)) (i : ℕ) (x : Tree A) → i < length shown → x ≡ get_or shown i x
    → parts_of (drop i shown) ≡ part (tree_of x) (parts_of (drop (i + 1) shown))
rest_at shown i x within is = ap parts_of (drop-item shown i x within is)

-- from the end on there are none
pub none_left : {A : Type 0} → (shown : List (Tree A)) (i : ℕ) → length shown ≤ i → parts_of (drop i shown) ≡ none
none_left shown i past = at_drop_all parts_of shown i past

-- one more copy
pub copied_more : {A B : Type 0} (shown xs : List (Tree A)) → shown ≡ xs → (i : ℕ) (x : Tree A) → i < length shown
    → x ≡ get_or shown i x
    → (ys zs : List (Tree B)) (y : Tree B) → zs ≡ ys ++ y ∷ [] → tree_of y ≡ tree_of x
    → map tree_of ys ≡ map tree_of (take i xs) → map tree_of zs ≡ map tree_of (take (i + 1) xs)
copied_more shown xs all i x within is ys zs y pushed same done =
    ap (map tree_of) pushed ∙ map-append tree_of ys (y ∷ []) ∙ ap (λ ps. ps ++ tree_of y ∷ []) done
    ∙ ap (λ p. map tree_of (take i xs) ++ p ∷ []) (same ∙ ap tree_of is)
    ∙ ap (λ vs. map tree_of (take i vs) ++ tree_of (get_or shown i x) ∷ []) (sym all)
    ∙ sym (map-append tree_of (take i shown) (get_or shown i x ∷ []))
    ∙ ap (map tree_of) (sym (take_more shown i x within)) ∙ ap (λ vs. map tree_of (take (i + 1) vs)) all

-- all are copied
pub copied_all : {A B : Type 0} (shown xs : List (Tree A)) → shown ≡ xs → (i : ℕ) → length shown ≤ i
    → (ys : List (Tree B))
    → map tree_of ys ≡ map tree_of (take i xs) → parts_of ys ≡ parts_of xs
copied_all shown xs all i past ys done =
    ap parts_from (done ∙ ap (map tree_of) (take_all i xs (subst (λ vs. length vs ≤ i) all past)))
