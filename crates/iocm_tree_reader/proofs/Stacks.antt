-- What is open, as it lies in memory: the innermost node last.
use Rattle.std.proofs.Common.{◌≡◌, ℕ, ◌+◌, ◌<◌, List, [], ◌∷◌, ◌++◌, length, get_or, take, map, reverse, fold, sym, ap}
use Rattle.std.proofs.Common.{◌∙◌}
use Rattle.std.proofs.lemmas.List.{map-append, reverse-append, take_all, take_more}
use Rattle.iocm_tree_reader.specs.declared.reading.OpenNode as code
use Rattle.iocm_tree_reader.specs.declared.size.Size.{Size}
use Rattle.iocm_tree_reader.specs.Sizes.{around}
use Rattle.iocm_tree.specs.Trees.{CarriedTree}
use Rattle.iocm_tree_reader.specs.Reading.{opened, with_node}
use Rattle.iocm_tree_reader.specs.Views.{nodes_seen, open_seen, stack_seen}

-- one node more
pub stack-more : {A : Type 0} (xs ys : List (code.OpenNode A)) (o : code.OpenNode A) → ys ≡ xs ++ o ∷ []
    → stack_seen ys ≡ open_seen o ∷ stack_seen xs
stack-more xs ys o is =
    ap stack_seen is ∙ ap reverse (map-append open_seen xs (o ∷ []))
    ∙ reverse-append (map open_seen xs) (open_seen o ∷ [])

-- the innermost but those that were counted is the next
pub size_next : {A : Type 0} (xs : List (code.OpenNode A)) (i : ℕ) (o : code.OpenNode A) (size next : Size)
    → i < length xs → o ≡ get_or xs i o → next ≡ around size (open_seen o)
    → fold around size (stack_seen (take (i + 1) xs)) ≡ fold around next (stack_seen (take i xs))
size_next xs i o size next within item is =
    ap (fold around size) (stack-more (take i xs) (take (i + 1) xs) o
    (take_more xs i o within ∙ ap (λ x. take i xs ++ x ∷ []) (sym item)))
    ∙ ap (λ s. fold around s (stack_seen (take i xs))) (sym is)

-- a node that was opened
pub stack_opened : {A : Type 0} (xs ys : List (code.OpenNode A)) (o : code.OpenNode A) → ys ≡ xs ++ o ∷ []
    → nodes_seen o.parts ≡ []
    → stack_seen ys ≡ record { kind = o.kind; line = o.line; parts = [] } ∷ stack_seen xs
stack_opened xs ys o is none =
    stack-more xs ys o is ∙ ap (λ ps. record { kind = o.kind; line = o.line; parts = ps } ∷ stack_seen xs) none

-- a node that was put into the innermost
pub stack_put : {A : Type 0} (t : CarriedTree) (top : List CarriedTree) (xs old ys : List (code.OpenNode A))
    (o p : code.OpenNode A)
    → old ≡ xs ++ o ∷ [] → ys ≡ xs ++ p ∷ [] → p.kind ≡ o.kind → p.line ≡ o.line
    → nodes_seen p.parts ≡ nodes_seen o.parts ++ t ∷ []
    → record { top = top; open_nodes = stack_seen ys } ≡ with_node t top (stack_seen old)
stack_put t top xs old ys o p was is kind line parts =
    ap (λ os. record { top = top; open_nodes = os }) (stack-more xs ys p is)
    ∙ ap (λ k. record {
      top = top;
      open_nodes = record { kind = k; line = p.line; parts = nodes_seen p.parts } ∷ stack_seen xs;
    }) kind
    ∙ ap (λ l. record {
      top = top;
      open_nodes = record { kind = o.kind; line = l; parts = nodes_seen p.parts } ∷ stack_seen xs;
    }) line
    ∙ ap (λ ps. record { top = top; open_nodes = record { kind = o.kind; line = o.line; parts = ps } ∷ stack_seen xs })
    parts
    ∙ sym (ap (with_node t top) (stack-more xs old o was))

pub reading_opened : {A : Type 0} (top : List CarriedTree) (xs ys : List (code.OpenNode A)) (o : code.OpenNode A)
    → ys ≡ xs ++ o ∷ [] → nodes_seen o.parts ≡ []
    → record { top = top; open_nodes = stack_seen ys }
    ≡ opened o.kind o.line (record { top = top; open_nodes = stack_seen xs })
reading_opened top xs ys o is none = ap (λ os. record { top = top; open_nodes = os }) (stack_opened xs ys o is none)

pub ruleset stack_steps = (stack-more, stack_opened, stack_put)

pub ruleset size_steps = (size_next, take_all)
