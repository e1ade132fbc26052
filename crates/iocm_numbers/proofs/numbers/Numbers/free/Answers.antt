-- A number, its cell and its bit go together; where there is none nothing changes.
use Rattle.std.proofs.Common.{false, sym, subst, ◌∙◌, List, ℕ}
use Rattle.std.proofs.lemmas.List.{take_at}
use Rattle.iocm_numbers.specs.TiedTables.{AreTied}
use Rattle.iocm_numbers.proofs.Tied.{IsWritten, tied_same, tied_without, remove_none}
use Rattle.iocm_numbers.proofs.numbers.Numbers.free.Goals as goal

pub invariant_of-self : goal.invariant_of-self
invariant_of-self g c = tied_same c.self.inside.places c.take.new.self c.self.inside.cells c.self.inside.words.items
    (c.in_err-number.ensures.rows ∙ remove_none _ c.args.place (sym c.in_err-number.ensures.before)) c.self.invariant

pub invariant_of-self-2 : goal.invariant_of-self-2
invariant_of-self-2 g c =
    let written : IsWritten c.deref_mut.result.now c.clear_bit.new.words c.bit_of.result false =
    record { here = c.clear_bit.ensures.here; others = c.clear_bit.ensures.others; len = c.clear_bit.ensures.len } in
    subst (λ (ws : List ℕ). AreTied c.take.new.self c.take-2.new.self ws)
    (sym (take_at c.clear_bit.new.words _ c.self.inside.words.len (c.clear_bit.ensures.len ∙ c.deref_mut.ensures.len)))
    (tied_without c.self.inside.places c.take.new.self c.self.inside.cells c.take-2.new.self c.self.inside.words.items
    c.clear_bit.new.words
    c.args.place c.in_ok-number.number c.self.invariant c.cell_of-cell.result c.cell_of-cell.ensures
    c.bit_of.ensures.set c.bit_of.ensures.number
    c.bit_of.result c.bit_of.ensures.value (sym c.in_ok-number.ensures.before) c.take.ensures.rows c.take-2.ensures.rows
    (subst (λ (ws : List ℕ). IsWritten ws c.clear_bit.new.words c.bit_of.result false) c.deref_mut.ensures.value
    written))
