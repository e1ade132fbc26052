-- The text of a difference from a configuration whose records are listed, computed.
use Rattle.std.proofs.Common.{◌≡◌, ◌∙◌, ◌++◌, ℕ, Option, Some, List, map, refl}
use Rattle.std.specs.Fmt.{char_count, digits, padded_integral}
use Rattle.std.specs.FinMap.{find, get-from_entries}
use Rattle.std.specs.List.{flat_map}
use Rattle.iocm_types.specs.declared.key.Key.{Key}
use Rattle.iocm_types.specs.Key.{key_cmp}
use Rattle.iocm_types.specs.KeyOrder.{keys_total}
use Rattle.iocm_columns.specs.Written.{cut_from, deck_bytes}
use Rattle.iocm_model.specs.Change.Edit.{Action, action_key}
use Rattle.iocm_model.specs.Machine.Configuration.{configuration_of, with_keys}
use Rattle.iocm_model.specs.Machine.Record.{Rec}
use Rattle.iocm_tree.specs.Carried.{verb_of}
use Rattle.iocm_tree_writer.specs.Written.{line_to_write}
use Rattle.iocm_difference_writer.specs.Comments.{cards_of, starred, there_by}
use Rattle.iocm_difference_writer.specs.Examples.{TextWithOld, old_records, some_changes}
use Rattle.iocm_difference_writer.specs.Runs.{runs}
use Rattle.iocm_difference_writer.specs.Text.{difference_text}
use Rattle.iocm_difference_writer.specs.Written.{run_lines}

-- the text, by what is found under each key
abbrev text_by : (Key → Option Rec) → List Action → List ℕ
text_by found actions =
    flat_map (λ run. starred (cards_of (flat_map (λ a. there_by (verb_of a) (found (action_key a))) run))
    ++ deck_bytes (map line_to_write (run_lines run))) (runs actions)

text_listed : (rs : List Rec) (actions : List Action)
    → difference_text (Some (configuration_of rs)) actions ≡ text_by (λ q. find key_cmp q (with_keys rs)) actions
text_listed rs actions = λ i. text_by (λ q. get-from_entries keys_total (with_keys rs) q i) actions

pub text_with_old : TextWithOld
unfolding char_count digits padded_integral cut_from
text_with_old = text_listed old_records some_changes ∙ refl
