-- The lines of parts that are put behind a deck, part by part.
use Rattle.std.proofs.Common.{◌≡◌, ℕ, ◌+◌, ◌<◌, ◌≤◌, List, ◌++◌, length, get_or, drop, sym, ap, ◌∙◌, append_assoc}
use Rattle.std.proofs.Common.{append-nil}
use Rattle.std.proofs.lemmas.List.{map-append}
use Rattle.iocm_columns.specs.declared.joined.Joined.{Joined}
use Rattle.iocm_tree.specs.Trees.{parts_of, plain_parts, plain_tree, tree_of}
use Rattle.iocm_tree.specs.declared.tree.Tree.{Tree}
use Rattle.iocm_tree.proofs.Trees.{rest_at, none_left}
use Rattle.iocm_tree_writer.specs.Written.{lines_in, tree_lines, line_to_write, written, written_in}

-- one part more
pub one_more_put : {A : Type 0} (shown : List (Tree A)) (i : ℕ) (x : Tree A) → i < length shown → x ≡ get_or shown i x
    → (front more all : List Joined) → more ≡ front ++ written (plain_tree (tree_of x))
    → front ++ written_in (plain_parts (parts_of (drop i shown))) ≡ all
    → more ++ written_in (plain_parts (parts_of (drop (i + 1) shown))) ≡ all
one_more_put shown i x within is front more all put so_far =
    let rest = written_in (plain_parts (parts_of (drop (i + 1) shown))) in
    let here : written_in (plain_parts (parts_of (drop i shown))) ≡ written (plain_tree (tree_of x)) ++ rest =
    ap (λ ps. written_in (plain_parts ps)) (rest_at shown i x within is)
    ∙ map-append line_to_write (tree_lines (plain_tree (tree_of x)))
    (lines_in (plain_parts (parts_of (drop (i + 1) shown)))) in
    ap (λ ls. ls ++ rest) put ∙ append_assoc front (written (plain_tree (tree_of x))) rest
    ∙ ap (λ ls. front ++ ls) (sym here) ∙ so_far

-- all are put
pub all_put : {A : Type 0} (shown : List (Tree A)) (i : ℕ) → length shown ≤ i → (front all : List Joined)
    → front ++ written_in (plain_parts (parts_of (drop i shown))) ≡ all → front ≡ all
all_put shown i past front all so_far =
    sym (append-nil front) ∙ ap (λ ps. front ++ written_in (plain_parts ps)) (sym (none_left shown i past)) ∙ so_far
