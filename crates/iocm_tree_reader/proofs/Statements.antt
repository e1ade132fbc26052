-- The steps of the loop over the statements of a change deck.
use Rattle.std.proofs.Common.{◌≡◌, ℕ, ◌+◌, ◌<◌, ◌≤◌, List, length, get_or, drop, Result, Ok, Err, inl, inr, refl, sym}
use Rattle.std.proofs.Common.{◌∙◌}
use Rattle.std.proofs.Math.ListN.{drop_of_length-le}
use Rattle.iocm_types.specs.declared.fault.Fault.{Fault}
use Rattle.iocm_types.specs.Fault.{Fails}
use Rattle.iocm_types.proofs.Lists.{drop-item}
use Rattle.iocm_statements.specs.declared.statement.Statement.{Statement}
use Rattle.iocm_tree.specs.Trees.{CarriedTree}
use Rattle.iocm_tree_reader.specs.Reading.{Reading, finished, read_from, read_next}

-- a statement that was read
pub read_on : (r q : Reading) (ss : List Statement) (i : ℕ) (s : Statement) → i < length ss → s ≡ get_or ss i s
    → read_next r s ≡ Ok q → read_from r (drop i ss) ≡ read_from q (drop (i + 1) ss)
unfolding read_from
read_on r q ss i s within item is = rw (drop-item ss i s within item, is) refl

-- a statement that is refused
pub read_refused : (r : Reading) (ss : List Statement) (i : ℕ) (s : Statement) (f : Fault) → i < length ss
    → s ≡ get_or ss i s
    → read_next r s ≡ Err f → read_from r (drop i ss) ≡ Err f
unfolding read_from
read_refused r ss i s f within item is = rw (drop-item ss i s within item, is) refl

-- after the last statement
pub read_done : (r : Reading) (ss : List Statement) (i : ℕ) → length ss ≤ i
    → read_from r (drop i ss) ≡ finished r.top r.open_nodes
unfolding read_from
read_done r ss i past = rw (drop_of_length-le ss past) refl

-- a fault of a statement is that of the deck
pub read_fails : (r : Reading) (ss : List Statement) (i : ℕ) (s : Statement) (e : Fault)
    (all : Result CarriedTree Fault) → i < length ss → s ≡ get_or ss i s
    → Fails e (read_next r s) → read_from r (drop i ss) ≡ all → Fails e all
read_fails r ss i s e all within item (inl is) whole = inl is
read_fails r ss i s e all within item (inr is) whole = inr (sym whole ∙ read_refused r ss i s e within item is)

pub ruleset read_steps = (read_on, read_refused, read_done)
