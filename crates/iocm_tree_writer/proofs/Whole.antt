-- What is written of a tree is read again: each leaf, and the whole.
use Rattle.std.proofs.Common.{◌≡◌, ℕ, [], ◌∷◌, map, Ok, refl, sym, ap, ◌∙◌, append-nil}
use Rattle.std.proofs.lemmas.Result.{IfOk-at_ok}
use Rattle.iocm_types.specs.declared.css_path.CssPath.{CssPath}
use Rattle.iocm_types.specs.Fault.{◌>>=◌}
use Rattle.iocm_model.specs.Change.Edit.{add, delete, modify}
use Rattle.iocm_model.specs.Machine.Record.{Rec, OnlineRecord, id, resource, image, limit, path, unit, device, online}
use Rattle.iocm_operands.specs.ChpidPath.{path_text}
use Rattle.iocm_operands.proofs.Operands.{path_again}
use Rattle.iocm_values.specs.NameSet.{names_text}
use Rattle.iocm_tree.specs.Carried.{bare}
use Rattle.iocm_tree.specs.Trees.{CarriedTree, plain_tree}
use Rattle.iocm_tree.specs.declared.verb.Verb.TheVariants.{Add, Modify}
use Rattle.iocm_tree_reader.specs.Reading.{with_node, read_from, read_tree}
use Rattle.iocm_deck_writer.specs.Again.{placed}
use Rattle.iocm_change_records.specs.Whole.{records_of}
use Rattle.iocm_round_trip.proofs.LeftOut.{names_one_css}
use Rattle.iocm_round_trip.proofs.OneSubsystem.{path_in_one, names_one_path}
use Rattle.iocm_tree_writer.specs.Again.{as_read, ReadsLeafAgain, GivesTrees, ReadsTreeAgain, ReadsReadTreeAgain}
use Rattle.iocm_tree_writer.specs.Given.{IsGivenRecord, IsModified, IsPair, IsTreeOfDecks}
use Rattle.iocm_tree_writer.specs.Leaves.{verb_name}
use Rattle.iocm_tree_writer.specs.Written.{action_line, tree_lines}
use Rattle.iocm_tree_writer.proofs.Deleted.{key_again, name_in_one, names_are_read}
use Rattle.iocm_tree_writer.proofs.Given.{record_given}
use Rattle.iocm_tree_writer.proofs.Limits.{tree_is_within}
use Rattle.iocm_tree_writer.proofs.Nesting.{tree_is_put}
use Rattle.iocm_tree_writer.proofs.ReadTrees.{trees_given}
use Rattle.iocm_tree_writer.proofs.Reread.{lines_are_read_again}
use Rattle.iocm_tree_writer.proofs.Writable.{lines_can}

-- ---- leaves

pair_added : (line : ℕ) (o : OnlineRecord) → IsPair o.css o.path o.name
    → records_of (as_read line (action_line (add (online o)))) ≡ Ok (online o ∷ [])
unfolding placed
pair_added line o is =
    let p : CssPath = record { css = o.css; path = o.path } in
    rw (
      names_one_css (path_text p) (path_in_one p is.path),
      names_one_path p is.path,
      names_one_css (names_text (o.name ∷ [])) (name_in_one o.name is.named),
      path_again p is.path,
      names_are_read o.name is.named,
    ) refl

added : (line : ℕ) (r : Rec) → IsGivenRecord r → records_of (as_read line (action_line (add r))) ≡ Ok (r ∷ [])
added line (id c) is = record_given Add (verb_name Add) line (id c) tt is
added line (resource c) is = record_given Add (verb_name Add) line (resource c) tt is
added line (image i) is = record_given Add (verb_name Add) line (image i) tt is
added line (limit l) is = record_given Add (verb_name Add) line (limit l) tt is
added line (path p) is = record_given Add (verb_name Add) line (path p) tt is
added line (unit u) is = record_given Add (verb_name Add) line (unit u) tt is
added line (device d) is = record_given Add (verb_name Add) line (device d) tt is
added line (online o) is = pair_added line o is

modified : (line : ℕ) (r : Rec) → IsModified r → records_of (as_read line (action_line (modify r))) ≡ Ok (r ∷ [])
modified line (id c) is = record_given Modify (verb_name Modify) line (id c) tt is
modified line (resource c) is = record_given Modify (verb_name Modify) line (resource c) tt is
modified line (image i) is = record_given Modify (verb_name Modify) line (image i) tt is
modified line (limit l) is = record_given Modify (verb_name Modify) line (limit l) tt is
modified line (path p) is = record_given Modify (verb_name Modify) line (path p) tt is
modified line (unit u) is = record_given Modify (verb_name Modify) line (unit u) tt is
modified line (device d) is = record_given Modify (verb_name Modify) line (device d) tt is
modified line (online o) is = absurd is

pub leaves_are_read_again : ReadsLeafAgain
leaves_are_read_again line (add r) is =
    ap (λ found. found >>= λ records. Ok (map (λ x. bare (add x)) records)) (added line r is)
leaves_are_read_again line (delete k) is =
    ap (λ found. found >>= λ keys. Ok (map (λ x. bare (delete x)) keys)) (key_again line k is)
leaves_are_read_again line (modify r) is =
    ap (λ found. found >>= λ records. Ok (map (λ x. bare (modify x)) records)) (modified line r is)

-- ---- the whole

one_is_the_tree : (t : CarriedTree) → read_from (with_node t [] []) [] ≡ Ok t
unfolding read_from
one_is_the_tree t = refl

pub trees_are_read_again : ReadsTreeAgain
trees_are_read_again t is =
    let again = lines_are_read_again (tree_lines (plain_tree t)) (lines_can t is.given) in
    ap (λ found. found >>= read_tree) again.is_read
    ∙ ap read_tree (sym (append-nil again.read))
    ∙ tree_is_put leaves_are_read_again t is.given [] [] (tree_is_within t is.depth is.leaves) again.read [] again.same
    ∙ one_is_the_tree t

pub gives_trees : GivesTrees
gives_trees bytes t is = IfOk-at_ok IsTreeOfDecks is (trees_given bytes)

pub read_trees_are_read_again : ReadsReadTreeAgain
read_trees_are_read_again bytes t is = trees_are_read_again t (gives_trees bytes t is)
