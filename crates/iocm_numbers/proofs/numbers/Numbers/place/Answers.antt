-- A number, its cell and its bit go together.
use Rattle.std.proofs.Common.{arith, true, sym, ap, subst, ◌∙◌, List, ℕ}
use Rattle.std.proofs.lemmas.List.{take_at}
use Rattle.std.specs.FinMap.{get}
use Rattle.iocm_model.specs.Machine.Numbering.{device_at}
use Rattle.iocm_numbers.specs.Numbered.{Numbered, cell_at}
use Rattle.iocm_numbers.specs.TiedTables.{AreTied}
use Rattle.iocm_numbers.proofs.Tied.{IsWritten, tied_with}
use Rattle.iocm_numbers.proofs.numbers.Numbers.place.Goals as goal

pub invariant_of-self : goal.invariant_of-self
invariant_of-self g c =
    let written : IsWritten c.deref_mut.result.now c.set_bit.new.words c.bit_of.result true =
    record { here = c.set_bit.ensures.here; others = c.set_bit.ensures.others; len = c.set_bit.ensures.len } in
    subst (λ (ws : List ℕ). AreTied c.put.new.self c.put-2.new.self ws)
    (sym (take_at c.set_bit.new.words _ c.self.inside.words.len (c.set_bit.ensures.len ∙ c.deref_mut.ensures.len)))
    (tied_with c.self.inside.places c.put.new.self c.self.inside.cells c.put-2.new.self c.self.inside.words.items
    c.set_bit.new.words
    c.args.place c.args.number c.self.invariant c.cell_of-cell.result c.cell_of-cell.ensures c.bit_of.ensures.set
    c.bit_of.ensures.number
    c.bit_of.result c.bit_of.ensures.value (omega (arith, c.number-device.ensures, c.number-device.type_inv))
    (ap (λ (s : Numbered). get s.numbers c.args.place) c.self.view_is ∙ c.requires.unnumbered)
    (ap (λ (s : Numbered). device_at s.numbers (cell_at c.args.place c.args.number)) c.self.view_is ∙ c.requires.free)
    c.put.ensures.rows c.put-2.ensures.rows
    (subst (λ (ws : List ℕ). IsWritten ws c.set_bit.new.words c.bit_of.result true) c.deref_mut.ensures.value written))
