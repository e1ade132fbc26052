-- Which changes stand on a change, by what a journal keeps.
use Rattle.std.specs.Prelude.{◌≡◌, ℕ, ◌+◌, ◌-◌, ◌==◌, length, nat_lt, nat_le, Bool, true, false, not}
use Rattle.std.specs.Prelude.{◌&&◌, if◌then◌else◌, List, Option, None, Some, zero, suc}
use Rattle.std.specs.List.{slice_get}
use Rattle.std.specs.Option.{option_map_or}
use Rattle.iocm_model.specs.Change.Edit.{Edit}
use Rattle.iocm_model.specs.Change.InverseTree.{inverse_tree}
use Rattle.iocm_model.specs.Change.Tree.{ChangeTree, row, none}
use Rattle.iocm_model.specs.Operation.State.{State}
use Rattle.iocm_history.specs.Change.{share_a_cell}
use Rattle.iocm_history.specs.Fits.{fits}
use Rattle.iocm_tree.specs.Trees.{plain_tree, tree_of}
use Rattle.iocm_activate.specs.declared.effect.Effect.{Effect}
use Rattle.iocm_activate.specs.Done.{AreToldBy}
use Rattle.iocm_activate.specs.Effects.{effect_in}
use Rattle.iocm_activate.specs.Told.{told_of_all}
use Rattle.iocm_journal.specs.declared.kept.Kept.{Kept}
use Rattle.iocm_journal.specs.declared.kept.Undone.{Undone}

-- whether the change at a place stands, counted from 0; and whether it was undone since so many
-- changes were accepted
abbrev pub stands_at : List Kept → ℕ → Bool
stands_at ks at = option_map_or (λ (k : Kept). k.stands) (slice_get ks at) false

abbrev pub undone_since_at : List Kept → ℕ → ℕ → Bool
undone_since_at ks count at = option_map_or (λ (k : Kept). nat_le count k.undone_after) (slice_get ks at) false

-- whether the change that is kept, whatever it was, fits a state
abbrev pub IsWhetherItFits : Kept → State → Bool → Type 0
IsWhetherItFits k now is = (es : List Edit) (s : State) → plain_tree (tree_of k.inverse) ≡ inverse_tree es s
    → AreToldBy k.performed.items (told_of_all es s) → is ≡ fits (record { edits = es; from = s }) now

-- the tree that takes the change at a place back; a Row of nothing past the end
abbrev pub inverse_at : List Kept → ℕ → ChangeTree
inverse_at ks at = option_map_or (λ (k : Kept). plain_tree (tree_of k.inverse)) (slice_get ks at) (row none)

-- whether the changes at two places wrote a cell in common
abbrev pub share_with : Option Effect → Effect → Bool
share_with None g = false
share_with (Some f) g = share_a_cell (effect_in f) (effect_in g)

abbrev pub share_at : List Effect → ℕ → ℕ → Bool
share_at fs place at = option_map_or (share_with (slice_get fs place)) (slice_get fs at) false

-- whether a change stands on the one at a place. If that one fits: a later standing one does that
-- wrote a cell in common. If it doesn't: each later standing one, and each earlier one that was
-- undone since and doesn't stand
abbrev pub is_on : List Kept → List Effect → ℕ → Bool → ℕ → Bool
is_on ks fs place true at = nat_lt place at && (stands_at ks at && share_at fs place at)
is_on ks fs place false at =
    if nat_lt place at then stands_at ks at
    else nat_lt at place && (not (stands_at ks at) && undone_since_at ks (place + 1) at)

-- the last of the first so many places that passes a test
abbrev pub last_passing : (ℕ → Bool) → ℕ → Option ℕ
last_passing passes zero = None
last_passing passes (suc n) = if passes n then Some n else last_passing passes n

-- the place of the greatest change that stands on the one at a place, if one does, as the machine's
-- state is now: by whether that change, whatever it was, fits this state
abbrev pub IsGreatestOn : List Kept → List Effect → ℕ → State → Option ℕ → Type 0
IsGreatestOn ks fs place now on = (k : Kept) (es : List Edit) (s : State) → slice_get ks place ≡ Some k
    → plain_tree (tree_of k.inverse) ≡ inverse_tree es s → AreToldBy k.performed.items (told_of_all es s)
    → on ≡ last_passing (is_on ks fs place (fits (record { edits = es; from = s }) now)) (length ks)

-- whether the change of a number is the last one undone
abbrev pub is_last : List Undone → ℕ → Bool
is_last us number = option_map_or (λ (u : Undone). u.number == number) (slice_get us (length us - 1)) false

-- the tree that does the last one undone again; a Row of nothing where none is undone
abbrev pub redo_at_end : List Undone → ChangeTree
redo_at_end us = option_map_or (λ (u : Undone). plain_tree (tree_of u.redo)) (slice_get us (length us - 1)) (row none)
