-- The text of a difference is read again as the difference, and means what the difference means.
use Rattle.std.proofs.Common.{◌≡◌, sym, subst, ◌∙◌}
use Rattle.std.specs.Prelude.{Ok, Result}
use Rattle.iocm_types.specs.declared.fault.Fault.{Fault}
use Rattle.iocm_tree.specs.Trees.{CarriedTree}
use Rattle.iocm_tree_writer.proofs.Whole.{gives_trees}
use Rattle.iocm_difference.specs.Difference.{difference}
use Rattle.iocm_difference_writer.specs.Again.{IsReadAsActions, edits_in, IsOfRows}
use Rattle.iocm_difference_writer.specs.Text.{difference_text}
use Rattle.iocm_difference_writer.proofs.DifferenceAgain.{difference_is_read_again}
use Rattle.iocm_tree.specs.Carried.{bare}
use Rattle.std.specs.Prelude.{map}
use Rattle.iocm_difference_laws.specs.Again.{DifferenceIsReadAgainAsOne, TextMeansTheDifference}
use Rattle.iocm_difference_laws.proofs.Given.{differences_are_given}
use Rattle.iocm_difference_laws.proofs.Meaning.{difference_means}

pub difference_is_read_again_as_one : DifferenceIsReadAgainAsOne
difference_is_read_again_as_one old c d of first second few =
    difference_is_read_again old (difference c d) of (differences_are_given c d first second) few

same_tree : (x y : CarriedTree) → ◌≡◌ {A = Result CarriedTree Fault} (Ok x) (Ok y) → x ≡ y
same_tree x y h = cc

pub text_means_the_difference : TextMeansTheDifference
text_means_the_difference old c d t of first second few is =
    let again : IsReadAsActions (difference_text old (difference c d)) (difference c d) =
    difference_is_read_again_as_one old c d of first second few in
    let same : again.tree ≡ t = same_tree again.tree t (sym again.is_read ∙ is) in
    let within = gives_trees (difference_text old (difference c d)) t is in
    difference_means c d t second.keyed second.rules (record {
      in_rows = subst IsOfRows same again.in_rows;
      edits = subst (λ z. edits_in z ≡ map bare (difference c d)) same again.edits;
      depth = within.depth;
      leaves = λ given. within.leaves;
    })
