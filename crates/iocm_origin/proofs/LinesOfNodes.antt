-- The nodes of a tree are those that its statements give, and the lines of these.
use Rattle.std.proofs.Common.{◌≡◌, ◌⊎◌, inl, inr, ⊎_elim, ℕ, zero, suc, ◌+◌, ◌-◌, ◌==◌, ◌<◌, ◌≤◌, cond}
use Rattle.std.proofs.Common.{Bool, true, false, List, [], ◌∷◌, ◌++◌, append_assoc, length, length-append, map, take}
use Rattle.std.proofs.Common.{drop, get_or, Option, None, Some, Result, Ok, Err, refl, sym, ap, subst, ◌∙◌, arith}
use Rattle.std.proofs.lemmas.Bool.Decides.{nat_tests}
use Rattle.std.proofs.lemmas.List.{append-nil, length-map, get_or-map, get_or_append_left, get_or-append-add}
use Rattle.std.proofs.lemmas.List.{get_or-append_right, get_or_past}
use Rattle.std.proofs.lemmas.List.Concat.{get_or-flat_map}
use Rattle.std.proofs.lemmas.Option.{get_or_from_slice_get, slice_get_within}
use Rattle.std.specs.List.{flat_map, slice_get}
use Rattle.std.specs.Result.{IfOk}
use Rattle.iocm_types.specs.declared.fault.Fault.{Fault}
use Rattle.iocm_types.specs.declared.rule.Rule.{Rule}
use Rattle.iocm_types.specs.Fault.{◌>>=◌}
use Rattle.iocm_types.proofs.Giving.{in_turn}
use Rattle.iocm_types.proofs.Lists.{drop-item}
use Rattle.iocm_model.specs.Change.Tree.{nodes_of, nodes_in}
use Rattle.iocm_statements.specs.declared.operation.Operation.{Operation}
use Rattle.iocm_statements.specs.declared.operation.Operation.TheVariants as operation
use Rattle.iocm_statements.specs.declared.statement.Statement.{Statement}
use Rattle.iocm_tree.specs.Carried.{Carried}
use Rattle.iocm_tree.specs.Trees.{CarriedTree, CarriedParts, parts_from, leaf, row, group, choose, none, part}
use Rattle.iocm_tree.specs.Trees.{plain_tree, plain_parts}
use Rattle.iocm_tree_reader.specs.declared.kind.NodeKind.{NodeKind}
use Rattle.iocm_tree_reader.specs.declared.kind.NodeKind.TheVariants.{Row, Group, Choose}
use Rattle.iocm_tree_reader.specs.Leaves.{edits_of, node_of_edits, whole, in_key_order}
use Rattle.iocm_tree_reader.specs.Reading.{OpenNode, Reading, node_of_kind, with_node, opened, ended, done_by}
use Rattle.iocm_tree_reader.specs.Reading.{unless_over, over_limit, within_limits, tree_so_far, read_next, read_from}
use Rattle.iocm_tree_reader.specs.Reading.{finished, nothing_read}
use Rattle.iocm_tree_reader.proofs.Limits.{length-ordered}
use Rattle.iocm_origin.specs.Nodes.{Head, a_node, heads_of, heads_in, heads_by, heads_given}
use Rattle.iocm_origin.specs.Nodes.{heads_if_given, heads_before, open_after, count_tops, row_unless_one, lines_by}
use Rattle.iocm_origin.specs.Nodes.{lines_of, line_among, Gives, NodeComesFrom, NodesAreGiven, NodesAreNumbered}
use Rattle.iocm_origin.specs.Nodes.{NodesComeFromTheirLines, NoneIsPastTheLast, GivenNodesHaveTheLine}

-- ---- the nodes so far

-- the nodes of trees beside each other
abbrev heads_among : List CarriedTree → List Head
heads_among ts = heads_in (parts_from ts)

-- the nodes that are open, with those in them, the outermost first
abbrev heads_open : List OpenNode → List Head
heads_open [] = []
heads_open (o ∷ os) = heads_open os ++ a_node o.kind ∷ heads_among o.parts

abbrev so_far : Reading → List Head
so_far r = heads_among r.top ++ heads_open r.open_nodes

heads-more : (ts : List CarriedTree) (t : CarriedTree) → heads_among (ts ++ t ∷ []) ≡ heads_among ts ++ heads_of t
heads-more [] t = append-nil (heads_of t)
heads-more (x ∷ ts) t =
    ap (λ hs. heads_of x ++ hs) (heads-more ts t) ∙ sym (append_assoc (heads_of x) (heads_among ts) (heads_of t))

of_kind : (kind : NodeKind) (parts : List CarriedTree)
    → heads_of (node_of_kind kind parts) ≡ a_node kind ∷ heads_among parts
of_kind Row parts = refl
of_kind Group parts = refl
of_kind Choose parts = refl

-- ---- what a statement does

-- a node more at the top if none is open
abbrev if_top : ℕ → ℕ
if_top depth = cond (depth == 0) 1 0

not_at_top : (n k : ℕ) → n ≡ n + if_top (suc k)
not_at_top n k = grind (arith, nat_tests)

-- what was read, once these nodes came behind those so far, with so many that are open now
pub record HasCome (r : Reading) (hs : List Head) (depth : ℕ) (q : Reading) : Type 0 where
  heads : so_far q ≡ so_far r ++ hs
  tops : length q.top ≡ length r.top + if_top (length q.open_nodes)
  open_nodes : length q.open_nodes ≡ depth

put : (node : CarriedTree) (top : List CarriedTree) (os : List OpenNode)
    → HasCome (record { top = top; open_nodes = os }) (heads_of node) (length os) (with_node node top os)
put node top [] =
    record { heads = simp (heads-more, append-nil); tops = length-append top (node ∷ []); open_nodes = refl }
put node top (o ∷ os) = record {
  heads = simp (heads-more, append_assoc);
  tops = not_at_top (length top) (length os);
  open_nodes = refl;
}

open_one : (kind : NodeKind) (line : ℕ) (r : Reading)
    → HasCome r (a_node kind ∷ []) (length r.open_nodes + 1) (opened kind line r)
open_one kind line r = record {
  heads = sym (append_assoc (heads_among r.top) (heads_open r.open_nodes) (a_node kind ∷ []));
  tops = not_at_top (length r.top) (length r.open_nodes);
  open_nodes = omega arith;
}

-- the innermost is closed: it and its parts were there
close_one : (line : ℕ) (top : List CarriedTree) (os : List OpenNode)
    → IfOk (ended line top os) (HasCome (record { top = top; open_nodes = os }) [] (length os - 1))
close_one line top [] = tt
close_one line top (o ∷ os) = let p = put (node_of_kind o.kind o.parts) top os in record {
  heads = p.heads ∙ ap (λ hs. (heads_among top ++ heads_open os) ++ hs) (of_kind o.kind o.parts)
      ∙ simp (append_assoc, append-nil);
  tops = p.tops;
  open_nodes = omega (arith, p.open_nodes);
}

-- what the statement gives comes behind what was read so far
abbrev Comes : Operation → Statement → Reading → Reading → Type 0
Comes op s r q = HasCome r (heads_by op s) (open_after op (length r.open_nodes)) q

come_by : (op : Operation) (s : Statement) (r : Reading) → IfOk (done_by op s r) (Comes op s r)
come_by operation.Row s r = open_one Row s.line r
come_by operation.Group s r = open_one Group s.line r
come_by operation.Choose s r = open_one Choose s.line r
come_by operation.End s r = close_one s.line r.top r.open_nodes
come_by _ s r = giving (edits_of s)
  where
    giving : (read : Result (List Carried) Fault)
        → IfOk (read >>= λ edits. Ok (with_node (node_of_edits edits) r.top r.open_nodes))
        (HasCome r (heads_if_given read) (length r.open_nodes))
    giving (Ok edits) = put (node_of_edits edits) r.top r.open_nodes
    giving (Err e) = tt

-- what is within the limits was read
within : (P : Reading → Type 0) (line : ℕ) (r : Reading) → P r → IfOk (within_limits line r) P
within P line r is = by (over_limit (tree_so_far r))
  where
    by : (rule : Option Rule) → IfOk (unless_over rule line r) P
    by None = is
    by (Some rule) = tt

-- ---- all statements

of_whole : (top : List CarriedTree) → heads_of (whole top) ≡ row_unless_one (length top) ++ heads_among top
of_whole [] = refl
of_whole (t ∷ []) = sym (append-nil (heads_of t))
of_whole (t ∷ u ∷ ts) = ap (λ hs. hs ++ heads_among (t ∷ u ∷ ts)) (several (length ts))
  where
    several : (n : ℕ) → a_node Row ∷ [] ≡ row_unless_one (suc (suc n))
    several n = grind (arith, nat_tests)

-- the nodes of the tree that is read, from some reading on
abbrev all_heads : Reading → List Statement → List Head
all_heads r ss =
    row_unless_one (count_tops (length r.top) (length r.open_nodes) ss) ++ (so_far r ++ flat_map heads_given ss)

at_end : (top : List CarriedTree) (os : List OpenNode)
    → IfOk (finished top os) (λ t. heads_of t ≡ all_heads (record { top = top; open_nodes = os }) [])
at_end top [] = of_whole top ∙ ap (λ hs. row_unless_one (length top) ++ hs) (nothing_more (heads_among top))
  where
    nothing_more : (hs : List Head) → hs ≡ (hs ++ []) ++ []
    nothing_more hs = simp append-nil
at_end top (o ∷ os) = tt

-- one statement more
more_heads : (s : Statement) (ss : List Statement) (r q : Reading) → Comes s.operation s r q
    → all_heads q ss ≡ all_heads r (s ∷ ss)
more_heads s ss r q come =
    (λ i. row_unless_one (count_tops ((come.tops ∙ ap (λ n. length r.top + if_top n) come.open_nodes) i)
    (come.open_nodes i) ss) ++ (come.heads i ++ flat_map heads_given ss))
    ∙ ap (λ hs. row_unless_one (count_tops (length r.top) (length r.open_nodes) (s ∷ ss)) ++ hs)
    (append_assoc (so_far r) (heads_given s) (flat_map heads_given ss))

from_reading : (ss : List Statement) (r : Reading) → IfOk (read_from r ss) (λ t. heads_of t ≡ all_heads r ss)
unfolding read_from
from_reading [] r = at_end r.top r.open_nodes
from_reading (s ∷ ss) r =
    in_turn (Comes s.operation s r) (λ t. heads_of t ≡ all_heads r (s ∷ ss)) (read_next r s) (λ q. read_from q ss)
    (in_turn (Comes s.operation s r) (Comes s.operation s r) (done_by s.operation s r) _ (come_by s.operation s r)
    (λ q. within (Comes s.operation s r) s.line q))
    (λ q come. subst (λ hs. IfOk (read_from q ss) (λ t. heads_of t ≡ hs)) (more_heads s ss r q come)
    (from_reading ss q))

pub nodes_are_given : NodesAreGiven
nodes_are_given ss t is =
    subst (λ read. IfOk read (λ u. heads_of u ≡ all_heads nothing_read ss)) is (from_reading ss nothing_read)

-- ---- how many nodes there are

mutual
  of_tree : (t : CarriedTree) → length (heads_of t) ≡ nodes_of (plain_tree t)
  of_tree (leaf e) = refl
  of_tree (row ps) = omega (arith, of_parts ps)
  of_tree (group ps) = omega (arith, of_parts ps)
  of_tree (choose ps) = omega (arith, of_parts ps)

  of_parts : (ps : CarriedParts) → length (heads_in ps) ≡ nodes_in (plain_parts ps)
  of_parts none = refl
  of_parts (part p ps) = length-append (heads_of p) (heads_in ps) ∙ (λ i. of_tree p i + of_parts ps i)

pub nodes_are_numbered : NodesAreNumbered
nodes_are_numbered t = of_tree t

-- so many edits give one node, or a Row of them
pub edits_counted : (edits : List Carried) (n : ℕ) → n ≡ length edits
    → length (row_unless_one n) + n ≡ length (heads_of (node_of_edits edits))
edits_counted edits n is =
    let es = in_key_order edits in
    let same : n ≡ length es = omega (arith, is, length-ordered [] edits) in
    (λ i. length (row_unless_one ((same ∙ sym (length-map es leaf)) i)) + (same ∙ sym (of_leaves es)) i)
    ∙ sym (ap length (of_whole (map leaf es)) ∙ length-append (row_unless_one (length (map leaf es))) _)
  where
    of_leaves : (es : List Carried) → length (heads_among (map leaf es)) ≡ length es
    of_leaves [] = refl
    of_leaves (e ∷ es) = ap suc (of_leaves es)

-- ---- the walk over the statements

-- the statement whose nodes are reached gives the line
pub walk_stops : (ss : List Statement) (i n : ℕ) (s : Statement) → i < length ss → s ≡ get_or ss i s
    → n < length (heads_given s) → line_among n (drop i ss) ≡ Some s.line
walk_stops ss i n s within item here =
    ap (line_among n) (drop-item ss i s within item)
    ∙ get_or_append_left (lines_by s) (flat_map lines_by (drop (i + 1) ss)) None n
    (omega (arith, length-map {B = Option ℕ} (heads_given s) (λ h. Some s.line)))
    ∙ get_or-map (λ h. Some s.line) (heads_given s) n (a_node Row) None here

-- those of another one are passed
pub walk_goes_on : (ss : List Statement) (i n count : ℕ) (s : Statement) → i < length ss → s ≡ get_or ss i s
    → count ≡ length (heads_given s) → count ≤ n → line_among n (drop i ss) ≡ line_among (n - count) (drop (i + 1) ss)
walk_goes_on ss i n count s within item counted past =
    ap (line_among n) (drop-item ss i s within item)
    ∙ get_or-append_right (lines_by s) (flat_map lines_by (drop (i + 1) ss)) count n None
    (length-map (heads_given s) (λ h. Some s.line) ∙ sym counted) past

pub ruleset walk_steps = (walk_stops, walk_goes_on)

-- ---- the statement that gives a node

as_many : (ss : List Statement) → length (flat_map lines_by ss) ≡ length (flat_map heads_given ss)
as_many [] = refl
as_many (s ∷ ss) = length-append (lines_by s) (flat_map lines_by ss)
    ∙ (λ i. length-map (heads_given s) (λ h. Some s.line) i + as_many ss i)
    ∙ sym (length-append (heads_given s) (flat_map heads_given ss))

pub none_is_past_the_last : NoneIsPastTheLast
none_is_past_the_last ss t is node past =
    let front : List (Option ℕ) = map (λ h. None) (heads_before ss) in
    get_or_past (lines_of ss) node None (omega (
      arith,
      past,
      of_tree t,
      ap length (nodes_are_given ss t is),
      length-append (heads_before ss) (flat_map heads_given ss),
      length-append front (flat_map lines_by ss),
      length-map {B = Option ℕ} (heads_before ss) (λ h. None),
      as_many ss,
    ))

-- it gives the line, behind any first nodes
has_line : (first : List Head) (ss : List Statement) (node : ℕ) (h : Head) (s : Statement) → Gives first ss node h s
    → get_or (map (λ h. None) first ++ flat_map lines_by ss) node None ≡ Some s.line
has_line first ss node h s g =
    let front : List (Option ℕ) = map (λ h. None) first in
    let there : get_or ss g.before s ≡ s = get_or_from_slice_get ss g.before s s g.statement in
    let place : g.place < length (heads_given s) = slice_get_within (heads_given s) g.place h g.own in
    let number : node ≡ length front + (length (flat_map lines_by (take g.before ss)) + g.place) = omega (
      arith,
      g.number,
      length-append first (flat_map heads_given (take g.before ss)),
      length-map {B = Option ℕ} first (λ h. None),
      as_many (take g.before ss),
    ) in
    ap (λ n. get_or (front ++ flat_map lines_by ss) n None) number
    ∙ get_or-append-add front (flat_map lines_by ss) (length (flat_map lines_by (take g.before ss)) + g.place) None
    ∙ get_or-flat_map lines_by ss g.before g.place s None (slice_get_within ss g.before s g.statement)
    (subst (λ (t : Statement). g.place < length (lines_by t)) (sym there)
    (omega (arith, place, length-map {B = Option ℕ} (heads_given s) (λ h. Some s.line))))
    ∙ ap (λ (t : Statement). get_or (lines_by t) g.place None) there
    ∙ get_or-map (λ h. Some s.line) (heads_given s) g.place h None place

pub given_nodes_have_the_line : GivenNodesHaveTheLine
given_nodes_have_the_line ss node h s g = has_line (heads_before ss) ss node h s g

-- a node of two lists is one of the first, or of the second
in_either : (xs ys : List Head) (n : ℕ) (h : Head) → slice_get (xs ++ ys) n ≡ Some h
    → (slice_get xs n ≡ Some h) ⊎ ((k : ℕ) × (n ≡ length xs + k) × (slice_get ys k ≡ Some h))
in_either [] ys n h at = inr (n, omega arith, at)
in_either (x ∷ xs) ys zero h at = inl at
in_either (x ∷ xs) ys (suc n) h at = ⊎_elim (λ here. inl here)
    (λ later. inr (later.0, omega (arith, later.1), later.2)) (in_either xs ys n h at)

-- each node that statements give behind the first ones is given by one of them
given_by : (first : List Head) (ss : List Statement) (node n : ℕ) (h : Head) → node ≡ length first + n
    → slice_get (flat_map heads_given ss) n ≡ Some h → (s : Statement) × Gives first ss node h s
given_by first [] node n h number at = cc
given_by first (s ∷ ss) node n h number at =
    let own = heads_given s in
    let rest = flat_map heads_given ss in
    ⊎_elim
    (λ (here : slice_get own n ≡ Some h).
    let count : node ≡ length (first ++ []) + n = omega (arith, number, length-append first []) in
    (s, record { before = 0; place = n; statement = refl; number = count; own = here }))
    (λ (later : (k : ℕ) × (n ≡ length own + k) × (slice_get rest k ≡ Some h)).
    let behind : node ≡ length (first ++ own) + later.0 = omega (arith, number, later.1, length-append first own) in
    let found = given_by (first ++ own) ss node later.0 h behind later.2 in
    let g = found.1 in
    let count : node ≡ length (first ++ (own ++ flat_map heads_given (take g.before ss))) + g.place = g.number
    ∙ ap (λ hs. length hs + g.place) (append_assoc first own (flat_map heads_given (take g.before ss))) in
    (found.0, record { before = suc g.before; place = g.place; statement = g.statement; number = count; own = g.own }))
    (in_either own rest n h at)

behind : (first : List Head) (ss : List Statement) (node n : ℕ) (h : Head) → node ≡ length first + n
    → slice_get (flat_map heads_given ss) n ≡ Some h
    → NodeComesFrom first ss node h (get_or (map (λ h. None) first ++ flat_map lines_by ss) node None)
behind first ss node n h number at = let f = given_by first ss node n h number at in
    subst (NodeComesFrom first ss node h) (sym (has_line first ss node h f.0 f.1)) (f.0, f.1, refl)

come_from : (alone : Bool) (ss : List Statement) (node : ℕ) (h : Head)
    → let first : List Head = cond alone [] (a_node Row ∷ []) in
    slice_get (first ++ flat_map heads_given ss) node ≡ Some h
    → NodeComesFrom first ss node h (get_or (map (λ h. None) first ++ flat_map lines_by ss) node None)
come_from true ss node h at = behind [] ss node node h (omega arith) at
come_from false ss zero h at = let same : h ≡ a_node Row = cc in record { alone = refl; number = refl; row = same }
come_from false ss (suc n) h at = behind (a_node Row ∷ []) ss (suc n) n h (omega arith) at

pub nodes_come_from_their_lines : NodesComeFromTheirLines
nodes_come_from_their_lines ss t is node h at =
    come_from (count_tops 0 0 ss == 1) ss node h (ap (λ hs. slice_get hs node) (sym (nodes_are_given ss t is)) ∙ at)

pub ruleset laws_of_nodes = (nodes_are_given, nodes_are_numbered, nodes_come_from_their_lines, none_is_past_the_last)
