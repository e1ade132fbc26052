-- Trees that are reversed in place: each part of a node, and then the order of the parts.
use Rattle.std.proofs.Common.{◌≡◌, ℕ, ◌+◌, ◌<◌, ◌≤◌, ◌≢◌, List, [], ◌∷◌, ◌++◌, length, get_or, set, map, take, reverse}
use Rattle.std.proofs.Common.{arith, refl, sym, ap, ◌∙◌}
use Rattle.std.proofs.lemmas.List.{take_all, take_more, take_more_set, map-append, length-set, get_or-set_other}
use Rattle.std.proofs.lemmas.List.{reverse-append, append_assoc, append-nil}
use Rattle.iocm_tree.specs.Reversed.{reversed, reversed_before, each_reversed}
use Rattle.iocm_tree.specs.Trees.{CarriedTree, CarriedParts, none, part, parts_from, tree_of, parts_of}
use Rattle.iocm_tree.specs.declared.tree.Tree.{Tree}

-- trees, each reversed
abbrev pub turned : {A : Type 0} → List (Tree A) → List CarriedTree
turned trees = map (λ p. reversed (tree_of p)) trees

-- from a place on two lists are the same
abbrev pub AreSameFrom : {A : Type 0} → ℕ → List (Tree A) → List (Tree A) → Type 0
AreSameFrom {A} i xs ys = (length xs ≡ length ys) × ((k : ℕ) (d : Tree A) → i ≤ k → get_or xs k d ≡ get_or ys k d)

-- the trees after one that is written are the same as before
pub same_after : {A : Type 0} → (xs ys : List (Tree A)) (i : ℕ) (y : Tree A) → AreSameFrom i xs ys
    → AreSameFrom (i + 1) (set xs i y) ys
same_after xs ys i y same = (
  length-set xs i y ∙ same.0,
  λ k d past. get_or-set_other xs i k y d (apart k past)
      ∙ same.1 k d (omega (arith, past)),
)
  where
    apart : (k : ℕ) → i + 1 ≤ k → k ≢ i
    apart k past = omega (arith, past)

-- one more is reversed
pub turned_more : {A : Type 0} → (xs ys : List (Tree A)) (i : ℕ) (x y : Tree A) → AreSameFrom i xs ys → i < length ys
    → x ≡ get_or xs i x
    → tree_of y ≡ reversed (tree_of x) → map tree_of (take i xs) ≡ turned (take i ys)
    → map tree_of (take (i + 1) (set xs i y)) ≡ turned (take (i + 1) ys)
turned_more xs ys i x y same within is turn done =
    let inside : i < length xs = omega (arith, within, same.0) in
    let was : x ≡ get_or ys i x = is ∙ same.1 i x (omega arith) in
    ap (map tree_of) (take_more_set xs i y inside) ∙ map-append tree_of (take i xs) (y ∷ [])
    ∙ ap (λ ps. ps ++ tree_of y ∷ []) done
    ∙ ap (λ p. turned (take i ys) ++ p ∷ []) (turn ∙ ap (λ p. reversed (tree_of p)) was)
    ∙ sym (map-append (λ p. reversed (tree_of p)) (take i ys) (get_or ys i x ∷ []))
    ∙ ap turned (sym (take_more ys i x within))

turned_parts : {A : Type 0} → (xs : List (Tree A)) → parts_from (turned xs) ≡ each_reversed (parts_of xs)
turned_parts [] = refl
turned_parts (x ∷ xs) = ap (part (reversed (tree_of x))) (turned_parts xs)

-- all are reversed
pub turned_all : {A : Type 0} → (xs ys : List (Tree A)) (i : ℕ) → AreSameFrom i xs ys → length ys ≤ i
    → map tree_of (take i xs) ≡ turned (take i ys)
    → parts_of xs ≡ each_reversed (parts_of ys)
turned_all xs ys i same past done =
    let over : length xs ≤ i = omega (arith, past, same.0) in
    ap parts_of (sym (take_all i xs over)) ∙ ap parts_from done ∙ ap (λ zs. parts_from (turned zs)) (take_all i ys past)
    ∙ turned_parts ys

-- parts in reverse order, before others
abbrev onto : CarriedParts → CarriedParts → CarriedParts
onto none others = others
onto (part p ps) others = onto ps (part p others)

onto_reverse : {A : Type 0} → (xs ys : List (Tree A)) → parts_of (reverse xs ++ ys) ≡ onto (parts_of xs) (parts_of ys)
onto_reverse [] ys = refl
onto_reverse (x ∷ xs) ys =
    ap (λ zs. parts_of (zs ++ ys)) (reverse-append (x ∷ []) xs) ∙ ap parts_of (append_assoc (reverse xs) (x ∷ []) ys)
    ∙ onto_reverse xs (x ∷ ys)

onto_each : (ps others : CarriedParts) → onto (each_reversed ps) others ≡ reversed_before ps others
onto_each none others = refl
onto_each (part p ps) others = onto_each ps (part (reversed p) others)

-- parts that are each reversed, in reverse order
pub all_reversed : {A : Type 0} → (xs ys zs : List (Tree A)) → parts_of ys ≡ each_reversed (parts_of xs)
    → zs ≡ reverse ys → parts_of zs ≡ reversed_before (parts_of xs) none
all_reversed xs ys zs each turn =
    ap parts_of (turn ∙ sym (append-nil (reverse ys))) ∙ onto_reverse ys [] ∙ ap (λ ps. onto ps none) each
    ∙ onto_each (parts_of xs) none
