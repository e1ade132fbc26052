-- Lines that are read as groups of actions, one behind the other.
use Rattle.std.proofs.Common.{◌≡◌, ◌∙◌, ℕ, ◌≤◌, None, List, [], ◌∷◌, ◌++◌, All, length, map, Ok, refl, sym, ap, subst}
use Rattle.std.proofs.Common.{append_assoc, append-nil, length-append, arith}
use Rattle.std.proofs.lemmas.List.{map-append}
use Rattle.std.proofs.lemmas.List.Elements.{All-nil, All-cons}
use Rattle.iocm_types.specs.Fault.{◌>>=◌}
use Rattle.iocm_model.specs.Change.Edit.{Action}
use Rattle.iocm_model.specs.Change.Tree.{most_leaves}
use Rattle.iocm_statements.specs.declared.operation.Operation.{Operation}
use Rattle.iocm_statements.specs.declared.operation.Operation.TheVariants as operation
use Rattle.iocm_statements.specs.declared.statement.Statement.{Statement}
use Rattle.iocm_tree.specs.Carried.{bare}
use Rattle.iocm_tree.specs.Trees.{CarriedTree}
use Rattle.iocm_tree_reader.specs.Leaves.{edits_of, node_of_edits, whole}
use Rattle.iocm_tree_reader.specs.Reading.{Reading, tree_so_far, over_limit, unless_over, limited, read_next}
use Rattle.iocm_tree_reader.specs.Reading.{with_edits, done_by}
use Rattle.iocm_tree_writer.specs.Again.{as_read}
use Rattle.iocm_tree_writer.specs.Written.{Line}
use Rattle.iocm_tree_writer.proofs.Behind.{Puts, puts_none, puts_both, puts_one}
use Rattle.iocm_tree_writer.proofs.Reread.{CanBeLine}
use Rattle.iocm_tree_writer.proofs.Stated.{IsOfRecords}
use Rattle.iocm_difference_writer.proofs.Chains.{joined}
use Rattle.iocm_difference_writer.proofs.Nodes.{IsGroup, AreGroups, node, nodes, whole_within}

-- a line that is read as these actions alone
pub record IsLineOf (l : Line) (actions : List Action) : Type 0 where
  pub can : CanBeLine l
  pub of_records : IsOfRecords l.statement.operation
  pub is_read : (line : ℕ) → edits_of (as_read line l) ≡ Ok (map bare actions)
  pub group : IsGroup actions

-- each line is read as its group
abbrev pub AreLinesOf : List Line → List (List Action) → Type 0
AreLinesOf [] [] = Unit {0}
AreLinesOf (l ∷ ls) (g ∷ gs) = IsLineOf l g × AreLinesOf ls gs
AreLinesOf _ _ = ⊥

-- lines that are read as these actions, group by group
pub record AreRead (ls : List Line) (actions : List Action) : Type 0 where
  pub groups : List (List Action)
  pub lines : AreLinesOf ls groups
  pub all : joined groups ≡ actions

-- ---- one behind the other

lines_both : (a b : List Line) (gs hs : List (List Action)) → AreLinesOf a gs → AreLinesOf b hs
    → AreLinesOf (a ++ b) (gs ++ hs)
lines_both [] b [] hs first second = second
lines_both [] b (g ∷ gs) hs first second = absurd first
lines_both (l ∷ a) b [] hs first second = absurd first
lines_both (l ∷ a) b (g ∷ gs) hs first second = (first.0, lines_both a b gs hs first.1 second)

pub joined_both : (gs hs : List (List Action)) → joined (gs ++ hs) ≡ joined gs ++ joined hs
joined_both [] hs = refl
joined_both (g ∷ gs) hs = ap (λ x. g ++ x) (joined_both gs hs) ∙ sym (append_assoc g (joined gs) (joined hs))

pub none_read : AreRead [] []
none_read = record { groups = []; lines = tt; all = refl }

pub both_read : (a b : List Line) (xs ys : List Action) → AreRead a xs → AreRead b ys → AreRead (a ++ b) (xs ++ ys)
both_read a b xs ys first second = record {
  groups = first.groups ++ second.groups;
  lines = lines_both a b first.groups second.groups first.lines second.lines;
  all = joined_both first.groups second.groups ∙ ap (λ x. x ++ joined second.groups) first.all
      ∙ ap (λ x. xs ++ x) second.all;
}

pub one_read : (l : Line) (actions : List Action) → IsLineOf l actions → AreRead (l ∷ []) actions
one_read l actions is = record { groups = actions ∷ []; lines = (is, tt); all = append-nil actions }

-- ---- what is known of them

pub lines_can : (ls : List Line) (gs : List (List Action)) → AreLinesOf ls gs → All CanBeLine ls
lines_can [] [] are = All-nil CanBeLine
lines_can [] (g ∷ gs) are = absurd are
lines_can (l ∷ ls) [] are = absurd are
lines_can (l ∷ ls) (g ∷ gs) are = All-cons CanBeLine l ls are.0.can (lines_can ls gs are.1)

pub lines_group : (ls : List Line) (gs : List (List Action)) → AreLinesOf ls gs → AreGroups gs
lines_group [] [] are = tt
lines_group [] (g ∷ gs) are = absurd are
lines_group (l ∷ ls) [] are = absurd are
lines_group (l ∷ ls) (g ∷ gs) are = (are.0.group, lines_group ls gs are.1)

-- ---- how they are read

abbrev pub reading : List CarriedTree → Reading
reading top = record { top = top; open_nodes = [] }

edits_done : (op : Operation) (s : Statement) (r : Reading) → IsOfRecords op
    → done_by op s r ≡ with_edits s r.top r.open_nodes
edits_done operation.Id s r is = refl
edits_done operation.Resource s r is = refl
edits_done operation.Chpid s r is = refl
edits_done operation.Cntlunit s r is = refl
edits_done operation.Iodevice s r is = refl
edits_done operation.Online s r is = refl
edits_done operation.Row s r is = absurd is
edits_done operation.Group s r is = absurd is
edits_done operation.Choose s r is = absurd is
edits_done operation.End s r is = absurd is

nodes_more : (done : List (List Action)) (g : List Action) → nodes done ++ node g ∷ [] ≡ nodes (done ++ g ∷ [])
nodes_more done g = sym (map-append node done (g ∷ []))

groups_more : (done : List (List Action)) (g : List Action) → AreGroups done → IsGroup g → AreGroups (done ++ g ∷ [])
groups_more [] g are is = (is, tt)
groups_more (d ∷ done) g are is = (are.0, groups_more done g are.1 is)

line_is_read : (l : Line) (g : List Action) (done : List (List Action)) → IsLineOf l g → AreGroups done
    → length (joined (done ++ g ∷ [])) ≤ most_leaves
    → (line : ℕ) → read_next (reading (nodes done)) (as_read line l) ≡ Ok (reading (nodes (done ++ g ∷ [])))
line_is_read l g done is are few line =
    let s = as_read line l in
    let next = reading (nodes (done ++ g ∷ [])) in
    let put : done_by s.operation s (reading (nodes done)) ≡ Ok next =
    edits_done s.operation s (reading (nodes done)) is.of_records
    ∙ ap (λ found. found >>= λ es. Ok (reading (nodes done ++ node_of_edits es ∷ []))) (is.is_read line)
    ∙ ap (λ top. Ok (reading top)) (nodes_more done g) in
    let within : over_limit (tree_so_far next) ≡ None =
    ap (λ top. over_limit (whole top)) (append-nil (nodes (done ++ g ∷ [])))
    ∙ whole_within (done ++ g ∷ []) (groups_more done g are is.group) few in
    ap (limited line) put ∙ ap (λ over. unless_over over line next) within

fewer : (xs ys zs : List (List Action)) → xs ++ ys ≡ zs → length (joined zs) ≤ most_leaves
    → length (joined xs) ≤ most_leaves
fewer xs ys zs is few =
    let same : length (joined xs ++ joined ys) ≡ length (joined zs) =
    ap length (sym (joined_both xs ys)) ∙ ap (λ x. length (joined x)) is in
    omega (arith, same, length-append (joined xs) (joined ys), few)

pub lines_are_put : (ls : List Line) (gs done : List (List Action)) → AreLinesOf ls gs → AreGroups done
    → length (joined (done ++ gs)) ≤ most_leaves
    → Puts ls (reading (nodes done)) (reading (nodes (done ++ gs)))
lines_are_put [] [] done are before few =
    subst (λ groups. Puts [] (reading (nodes done)) (reading (nodes groups))) (sym (append-nil done))
    (puts_none (reading (nodes done)))
lines_are_put [] (g ∷ gs) done are before few = absurd are
lines_are_put (l ∷ ls) [] done are before few = absurd are
lines_are_put (l ∷ ls) (g ∷ gs) done are before few =
    let more = done ++ g ∷ [] in
    let same : more ++ gs ≡ done ++ g ∷ gs = append_assoc done (g ∷ []) gs in
    let here : length (joined more) ≤ most_leaves = fewer more gs (done ++ g ∷ gs) same few in
    let all : length (joined (more ++ gs)) ≤ most_leaves =
    subst (λ groups. length (joined groups) ≤ most_leaves) (sym same) few in
    let rest = lines_are_put ls gs more are.1 (groups_more done g before are.0.group) all in
    puts_both (l ∷ []) ls (reading (nodes done)) (reading (nodes more)) (reading (nodes (done ++ g ∷ gs)))
    (puts_one l (reading (nodes done)) (reading (nodes more)) (line_is_read l g done are.0 before here))
    (subst (λ groups. Puts ls (reading (nodes more)) (reading (nodes groups))) same rest)
