use Rattle.std.proofs.Common.{ℕ, [], ◌∷◌, ◌++◌, arith, ap, sym, subst, ◌∙◌}
use Rattle.std.proofs.lemmas.List.{append-nil, append_assoc, map-append}
use Rattle.std.proofs.lemmas.List.Elements.{All-push}
use Rattle.std.specs.FinMap.{entries}
use Rattle.iocm_types.specs.declared.place.NumberCell.{NumberCell}
use Rattle.iocm_model.specs.Machine.Configuration.{Configuration, lookup_of}
use Rattle.iocm_model.specs.Machine.Numbering.{cells_of}
use Rattle.iocm_seats.specs.Taken.{cells_in, taken, taken_of, IsTaken}
use Rattle.iocm_seats.proofs.CellsTogether.{IsPast, all_cells, cells_together}
use Rattle.iocm_seats.proofs.Taken.{cells_in-more}
use Rattle.iocm_seats.proofs.Together.{StandTogether, none_left, still_together}
use Rattle.iocm_seats.proofs.subsystem_cells.subsystem_cells.Goals as goal

pub loop-cell-init : goal.loop-cell-init
loop-cell-init g c = record {
  cells = ap (λ xs. taken_of xs ++ cells_in c.args.css c.into_iter-cell-iterator.result) c.new-cells.ensures.items;
  together = subst (StandTogether (IsPast c.args.css) (cells_in c.args.css))
      (sym (c.into_iter-cell-iterator.ensures.into_iter_gives ∙ c.cells_from-cell-items.ensures))
      (cells_together c.args.css (cells_of c.args.numbers.now.numbers));
  devices = rw c.new-cells.ensures.items (λ k d within. absurd (omega (arith, within)));
  same = c.new-devices.ensures;
}

pub loop-cell-preserved : goal.loop-cell-preserved
loop-cell-preserved g c =
    let css = c.args.css in
    let old = c.loop-cell.cells.items in
    let more = c.in-Some-taken_in.taken in
    let e : NumberCell × ℕ = (c.in-Some.cell.now, c.in-Some.device.now) in record {
      cells = ap (λ xs. taken_of xs ++ cells_in css c.next.new.self) c.in_ok-push.ensures.items
          ∙ ap (λ xs. xs ++ cells_in css c.next.new.self) (map-append taken old (more ∷ []))
          ∙ append_assoc (taken_of old) (taken more ∷ []) (cells_in css c.next.new.self)
          ∙ ap (λ xs. taken_of old ++ xs)
          (ap (λ xs. xs ++ cells_in css c.next.new.self) (sym c.in-Some-taken_in.ensures.cell)
          ∙ sym (cells_in-more css e c.next.new.self) ∙ ap (cells_in css) (sym c.in-Some.ensures.steps))
          ∙ c.loop-cell.invariant.cells;
      together = still_together (IsPast css) (cells_in css) e c.next.new.self c.loop-cell.cell-iterator
          c.in-Some.ensures.steps c.loop-cell.invariant.together;
      devices = rw c.in_ok-push.ensures.items
          (All-push (IsTaken (lookup_of c.args.config.now.records)) old more c.loop-cell.invariant.devices
          (subst (λ (m : Configuration). IsTaken (lookup_of m) more) c.loop-cell.invariant.same
          c.in-Some-taken_in.ensures.device));
      same = c.taken_in.ensures.same ∙ c.loop-cell.invariant.same;
    }

-- at the first cell of another channel subsystem
pub returns-in_default : goal.returns-in_default
returns-in_default g c =
    let css = c.args.css in
    let e : NumberCell × ℕ = (c.in-Some.cell.now, c.in-Some.device.now) in record {
      cells = sym (append-nil (taken_of c.loop-cell.cells.items))
          ∙ ap (λ xs. taken_of c.loop-cell.cells.items ++ xs)
          (sym (none_left (IsPast css) (cells_in css) e c.next.new.self c.loop-cell.cell-iterator
          c.in-Some.ensures.steps c.loop-cell.invariant.together c.in_default.ensures.cell))
          ∙ c.loop-cell.invariant.cells
          ∙ ap (cells_in css) (c.into_iter-cell-iterator.ensures.into_iter_gives ∙ c.cells_from-cell-items.ensures)
          ∙ all_cells css (entries (cells_of c.args.numbers.now.numbers));
      devices = c.loop-cell.invariant.devices;
    }

-- behind the last cell of all
pub returns : goal.returns
returns g c = record {
  cells = sym (append-nil (taken_of c.loop-cell.cells.items))
      ∙ ap (λ xs. taken_of c.loop-cell.cells.items ++ cells_in c.args.css xs) (sym c.in-None.ensures.steps.0)
      ∙ c.loop-cell.invariant.cells
      ∙ ap (cells_in c.args.css) (c.into_iter-cell-iterator.ensures.into_iter_gives ∙ c.cells_from-cell-items.ensures)
      ∙ all_cells c.args.css (entries (cells_of c.args.numbers.now.numbers));
  devices = c.loop-cell.invariant.devices;
}
