-- What holds of the reports of a change.
use Rattle.std.specs.Prelude.{◌≡◌, ℕ, ◌+◌, List, [], length, map, filter, sum_by}
use Rattle.std.specs.FinMap.{keys, len}
use Rattle.iocm_model.specs.Change.Edit.{Edit}
use Rattle.iocm_model.specs.Change.Maps.{with_cells}
use Rattle.iocm_model.specs.Change.Runs.{effect_of, state_after_all}
use Rattle.iocm_model.specs.Machine.Configuration.{Configuration}
use Rattle.iocm_model.specs.Operation.State.{State, Views, views_in}
use Rattle.iocm_deck_writer.specs.Canonical.{canonical_deck}
use Rattle.iocm_seats.specs.declared.view_change.ViewChange.{ViewChange}
use Rattle.iocm_reports.specs.Altered.{altered_rows, AreInOrder}
use Rattle.iocm_reports.specs.Counts.{counts_of, images_among, is_of}
use Rattle.iocm_reports.specs.Deck.{deck_text, online_by_lists, online_in, pairs_untold}
use Rattle.iocm_types.specs.declared.image.Image.{Image}
use Rattle.iocm_lines.specs.declared.change.AlteredCounts.{AlteredCounts}

-- there are as many rows as subchannels that the effect has
abbrev pub RowsAreCounted : Type 0
RowsAreCounted = (es : List Edit) (s t : State) → length (altered_rows es s t) ≡ len (effect_of es s).lives

-- rows stand in order
abbrev pub RowsStandInOrder : Type 0
RowsStandInOrder = (es : List Edit) (s t : State) → AreInOrder (altered_rows es s t)

-- what is seen, but at the subchannels of some rows what the rows say that is seen now
abbrev pub with_rows : List ViewChange → Views → Views
with_rows rows v = with_cells (map (λ (r : ViewChange). (r.subchannel, r.after)) rows) v

-- what was seen, without what the rows say that was seen and with what they say that is seen, is
-- what is seen after the edits
abbrev pub RowsLeadToTheTable : Type 0
RowsLeadToTheTable = (es : List Edit) (s : State)
    → with_rows (altered_rows es s (state_after_all es s)) (views_in s) ≡ views_in (state_after_all es s)

-- what is seen, but at the subchannels of some rows what the rows say that was seen before
abbrev pub without_rows : List ViewChange → Views → Views
without_rows rows v = with_cells (map (λ (r : ViewChange). (r.subchannel, r.before)) rows) v

-- what is seen after the edits, without what the rows say that is seen and with what they say that
-- was seen, is what was seen
abbrev pub RowsLeadBack : Type 0
RowsLeadBack = (es : List Edit) (s : State)
    → without_rows (altered_rows es s (state_after_all es s)) (views_in (state_after_all es s)) ≡ views_in s

-- all of these counts
abbrev pub all_of : AlteredCounts → ℕ
all_of n = n.gone + n.came + n.changed + n.same

-- rows that are counted
abbrev pub RowsAreOfOneKind : Type 0
RowsAreOfOneKind = (i : Image) (rows : List ViewChange) → all_of (counts_of i rows) ≡ length rows

-- the counts of all images together are those of all rows
abbrev pub CountsSumUp : Type 0
CountsSumUp = (rows : List ViewChange) → AreInOrder rows
    → sum_by (λ i. all_of (counts_of i (filter (is_of i) rows))) (images_among rows) ≡ length rows

-- where exactly the pairs of the access lists are online, the deck says all
abbrev pub DeckSaysAll : Type 0
DeckSaysAll = (c : Configuration) → keys (online_by_lists c) ≡ keys (online_in c) → deck_text c ≡ canonical_deck c

-- and there alone no pair is left to be told of
abbrev pub OnlyADeckSaysAll : Type 0
OnlyADeckSaysAll = (c : Configuration) → pairs_untold c ≡ [] → keys (online_by_lists c) ≡ keys (online_in c)
