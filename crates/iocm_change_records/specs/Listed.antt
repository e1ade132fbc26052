-- Whether both lists of a path are written, judged by shape alone: a SHARED or REC path of a change
-- deck wants both.
use Rattle.std.specs.Prelude.{ℕ, ◌-◌, ◌&&◌, ◌||◌, nat_le, Bool, not, if◌then◌else◌}
use Rattle.std.specs.Prelude.{List, [], ◌∷◌, length, take, codes, unwrap_or}
use Rattle.std.specs.List.{list_any}
use Rattle.std.specs.Option.{option_and_then}
use Rattle.iocm_statements.specs.Operands.{Operand, text_under, has_bare}
use Rattle.iocm_operands.specs.ChpidPartition.{is_list_form, ends_with_rec}
use Rattle.iocm_values.specs.CssLists.{begins_with_css}
use Rattle.iocm_values.specs.Value.{Value, word, list, value, values, items}
use Rattle.iocm_change_records.specs.declared.listed.Shape.{Shape}

-- a last REC isn't of the lists
abbrev pub without_rec : List Value → List Value
without_rec vs = if ends_with_rec vs then take (length vs - 1) vs else vs

-- two items or more, one of which is a list, `0` or `=`
abbrev pub are_both_lists : List Value → Bool
are_both_lists vs = nat_le 2 (length vs) && list_any is_list_form vs

-- what items without a group round them show
abbrev pub shape_of : List Value → Shape
shape_of vs = record { is_reconfigurable = ends_with_rec vs; has_both_lists = are_both_lists (without_rec vs) }

-- the items behind CSS(..), whatever stands inside it
abbrev pub behind_css : List Value → List Value
behind_css (word text ∷ vs) = if begins_with_css (word text ∷ vs) then vs else word text ∷ vs
behind_css vs = vs

-- the values between the commas of a text; none where it can't be cut
abbrev pub values_or_none : List ℕ → List Value
values_or_none text = unwrap_or (values text) []

-- the items of a group, which may have parentheses of its own
abbrev pub ungrouped : List Value → List Value
ungrouped (list inner ∷ []) =
    if begins_with_css (values_or_none inner) then behind_css (values_or_none inner) else list inner ∷ []
ungrouped vs = behind_css vs

-- the items of PARTITION; a word has none
abbrev pub partition_items : List Operand → List Value
partition_items operands =
    unwrap_or (option_and_then (λ text. items (value text)) (text_under (codes "PARTITION") operands)) []

-- what PARTITION shows
abbrev pub written_shape : List Operand → Shape
written_shape operands = shape_of (ungrouped (partition_items operands))

-- a path is SHARED or REC by its words, or REC by the last item of PARTITION
abbrev pub wants_lists : List Operand → Shape → Bool
wants_lists operands shape =
    has_bare (codes "SHARED") operands || (has_bare (codes "REC") operands || shape.is_reconfigurable)

-- a SHARED or REC path whose two lists aren't both written
abbrev pub lacks_lists : List Operand → Bool
lacks_lists operands = wants_lists operands (written_shape operands) && not (written_shape operands).has_both_lists
