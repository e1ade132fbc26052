-- The text of a difference is read again as its actions.
use Rattle.std.proofs.Common.{ℕ, ◌≡◌, ◌∙◌, ◌≤◌, Option, None, Some, List, [], ◌∷◌, ◌++◌, All, length, map, Ok, refl}
use Rattle.std.proofs.Common.{sym, ap, subst, append-nil}
use Rattle.std.proofs.lemmas.List.{map-append}
use Rattle.std.proofs.lemmas.List.Elements.{All-nil, All-cons, All-head, All-tail, All-map}
use Rattle.std.specs.List.{flat_map}
use Rattle.iocm_types.specs.Fault.{◌>>=◌}
use Rattle.iocm_columns.specs.Written.{IsWritable, deck_bytes}
use Rattle.iocm_model.specs.Change.Edit.{Action}
use Rattle.iocm_model.specs.Change.Tree.{most_leaves}
use Rattle.iocm_model.specs.Machine.Configuration.{Configuration}
use Rattle.iocm_tree.specs.Carried.{bare}
use Rattle.iocm_deck_writer.specs.Canonical.{canonical}
use Rattle.iocm_tree_reader.specs.Leaves.{whole}
use Rattle.iocm_tree_reader.specs.Reading.{read_from, read_tree}
use Rattle.iocm_tree_writer.specs.Given.{IsGivenAction}
use Rattle.iocm_tree_writer.specs.Written.{Line, line_to_write}
use Rattle.iocm_difference_writer.specs.Again.{DifferenceIsReadAgain, IsOldOfDecks, IsReadAsActions}
use Rattle.iocm_difference_writer.specs.Comments.{comments_of, was_there}
use Rattle.iocm_difference_writer.specs.Runs.{runs}
use Rattle.iocm_difference_writer.specs.Text.{difference_text, run_text}
use Rattle.iocm_difference_writer.specs.Written.{run_lines}
use Rattle.iocm_difference_writer.proofs.Chains.{AreRuns, IsRun, are_runs, are_all, joined}
use Rattle.iocm_difference_writer.proofs.CommentLines.{comment_in_stars}
use Rattle.iocm_difference_writer.proofs.Groups.{AreRead, none_read, both_read, lines_can, lines_group, lines_are_put}
use Rattle.iocm_difference_writer.proofs.Groups.{reading}
use Rattle.iocm_difference_writer.proofs.LinesAgain.{line_is_writable, told_lines_are_read}
use Rattle.iocm_difference_writer.proofs.Nodes.{nodes, whole_has, whole_in_rows}
use Rattle.iocm_difference_writer.proofs.OldCards.{run_can}
use Rattle.iocm_difference_writer.proofs.RunsAgain.{run_is_read}
use Rattle.iocm_difference_writer.proofs.Told.{IsTold, none_told, both_told, deck_told, stars_told}

-- ---- what holds of two lists, one behind the other

module _ {A : Type 0} (P : A → Type 0) where
  all_front : (xs ys : List A) → All P (xs ++ ys) → All P xs
  all_front [] ys all = All-nil P
  all_front (x ∷ xs) ys all =
      All-cons P x xs (All-head P x (xs ++ ys) all) (all_front xs ys (All-tail P x (xs ++ ys) all))

  all_behind : (xs ys : List A) → All P (xs ++ ys) → All P ys
  all_behind [] ys all = all
  all_behind (x ∷ xs) ys all = all_behind xs ys (All-tail P x (xs ++ ys) all)

-- ---- the lines of all runs

runs_are_read : (rs : List (List Action)) → AreRuns rs → All IsGivenAction (joined rs)
    → AreRead (flat_map run_lines rs) (joined rs)
runs_are_read [] are given = none_read
runs_are_read (r ∷ rs) are given =
    both_read (run_lines r) (flat_map run_lines rs) r (joined rs)
    (run_is_read r are.0 (all_front IsGivenAction r (joined rs) given))
    (runs_are_read rs are.1 (all_behind IsGivenAction r (joined rs) given))

actions_are_read : (actions : List Action) → All IsGivenAction actions
    → AreRead (flat_map run_lines (runs actions)) actions
actions_are_read actions given =
    subst (AreRead (flat_map run_lines (runs actions))) (are_all actions)
    (runs_are_read (runs actions) (are_runs actions) (subst (All IsGivenAction) (sym (are_all actions)) given))

-- ---- their text

comments_told : (old : Option Configuration) (run : List Action) → IsOldOfDecks old → IsRun run
    → IsTold (comments_of old run) []
comments_told None run of chain = none_told
comments_told (Some c) run of chain =
    let cards = comment_in_stars (canonical (flat_map (was_there c) run)) (run_can c of.0 of.1 run chain) in
    subst (λ text. IsTold text []) (sym cards.is) (stars_told cards.all cards.stars)

run_told : (old : Option Configuration) (run : List Action) → IsOldOfDecks old → IsRun run → All IsGivenAction run
    → IsTold (run_text old run) (map line_to_write (run_lines run))
run_told old run of chain given =
    let are = run_is_read run chain given in
    let can = lines_can (run_lines run) are.groups are.lines in
    both_told (comments_of old run) (deck_bytes (map line_to_write (run_lines run))) []
    (map line_to_write (run_lines run)) (comments_told old run of chain)
    (deck_told (map line_to_write (run_lines run))
    (All-map IsWritable line_to_write (run_lines run) (λ k d within. line_is_writable _ (can k d within))))

runs_told : (old : Option Configuration) (rs : List (List Action)) → IsOldOfDecks old → AreRuns rs
    → All IsGivenAction (joined rs)
    → IsTold (flat_map (run_text old) rs) (map line_to_write (flat_map run_lines rs))
runs_told old [] of are given = none_told
runs_told old (r ∷ rs) of are given =
    subst (IsTold (flat_map (run_text old) (r ∷ rs)))
    (sym (map-append line_to_write (run_lines r) (flat_map run_lines rs)))
    (both_told (run_text old r) (flat_map (run_text old) rs) (map line_to_write (run_lines r))
    (map line_to_write (flat_map run_lines rs))
    (run_told old r of are.0 (all_front IsGivenAction r (joined rs) given))
    (runs_told old rs of are.1 (all_behind IsGivenAction r (joined rs) given)))

-- ---- the tree

the_tree : (groups : List (List Action)) → read_from (reading (nodes groups)) [] ≡ Ok (whole (nodes groups))
unfolding read_from
the_tree groups = refl

told_is_tree : (text : List ℕ) (ls : List Line) (actions : List Action) → IsTold text (map line_to_write ls)
    → AreRead ls actions → length actions ≤ most_leaves
    → IsReadAsActions text actions
told_is_tree text ls actions told are few =
    let groups = are.groups in
    let own = lines_group ls groups are.lines in
    let again = told_lines_are_read text ls (lines_can ls groups are.lines) told in
    let all : length (joined groups) ≤ most_leaves = subst (λ x. length x ≤ most_leaves) (sym are.all) few in
    record {
      tree = whole (nodes groups);
      is_read = ap (λ found. found >>= read_tree) again.is_read
          ∙ ap read_tree (sym (append-nil again.read))
          ∙ lines_are_put ls groups [] are.lines tt all again.read [] again.same
          ∙ the_tree groups;
      in_rows = whole_in_rows groups own;
      edits = whole_has groups own ∙ ap (map bare) are.all;
    }

pub difference_is_read_again : DifferenceIsReadAgain
difference_is_read_again old actions of given few =
    told_is_tree (difference_text old actions) (flat_map run_lines (runs actions)) actions
    (runs_told old (runs actions) of (are_runs actions) (subst (All IsGivenAction) (sym (are_all actions)) given))
    (actions_are_read actions given) few
