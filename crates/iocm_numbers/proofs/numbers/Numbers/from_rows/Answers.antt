-- No cell comes twice among the rows, and the tables that are made of them say the same.
use Rattle.std.proofs.Common.{◌<◌, List, ℕ, refl, sym, ap, subst, ◌∙◌}
use Rattle.std.proofs.lemmas.List.{take_at}
use Rattle.std.specs.List.{IsDistinct, AllByRecursion}
use Rattle.std.specs.Map.{keys_of}
use Rattle.std.specs.Ordering.{eq_by_cmp}
use Rattle.std.specs.FinMap.{from_entries}
use Rattle.iocm_types.specs.declared.place.Place.{Place}
use Rattle.iocm_types.specs.declared.place.NumberCell.{NumberCell}
use Rattle.iocm_types.specs.Place.{cell_cmp}
use Rattle.iocm_numbers.specs.TiedTables.{cells_in, AreTied, AreNotedToo}
use Rattle.iocm_numbers.proofs.Built.{cells_distinct, apart_in, tied_rows}
use Rattle.iocm_numbers.proofs.numbers.Numbers.from_rows.Goals as goal

pub from_rows-requires : goal.from_rows-requires
from_rows-requires g c =
    subst (λ (cs : List (NumberCell × ℕ)). IsDistinct (eq_by_cmp cell_cmp) (keys_of cs))
    (sym (c.in_ok-listed.ensures ∙ ap cells_in c.as_slice-2.ensures.value))
    (cells_distinct c.args.rows.items c.requires.places (apart_in c.args.rows.items c.requires.apart))

pub invariant_of-result : goal.invariant_of-result
invariant_of-result g c =
    subst (λ (ws : List ℕ). AreTied c.in_ok-places.places c.in_ok-cells.cells ws)
    (sym (take_at c.note_rows.new.words _ c.in_ok-words.words.len (c.note_rows.ensures.len ∙ c.deref_mut.ensures.len)))
    (tied_rows c.args.rows.items c.in_ok-places.places c.in_ok-cells.cells c.deref_mut.result.now c.note_rows.new.words
    24576 c.requires.places c.requires.apart
    c.in_ok-places.ensures.rows
    (c.in_ok-cells.ensures.rows
    ∙ ap (λ (cs : List (NumberCell × ℕ)). from_entries {R = cell_cmp} cs)
    (c.in_ok-listed.ensures ∙ ap cells_in c.as_slice-2.ensures.value))
    refl (c.deref_mut.ensures.value ∙ c.in_ok-words.ensures)
    (subst (λ (es : List (Place × ℕ)). AreNotedToo es c.deref_mut.result.now c.note_rows.new.words)
    c.as_slice.ensures.value c.note_rows.ensures.bits)
    (subst (AllByRecursion (λ (row : Place × ℕ). row.0.device < 65536)) c.as_slice.ensures.value
    c.note_rows.ensures.small)
    c.note_rows.ensures.len)
