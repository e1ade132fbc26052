-- The lowest bit that isn't set is the lowest free number.
use Rattle.std.proofs.Common.{ℕ, ◌+◌, ◌*◌, ◌<◌, ◌≤◌, ◌≡◌, arith, subst, List, IfSome}
use Rattle.iocm_model.specs.Change.Renumbering.{lowest_free}
use Rattle.iocm_numbers.specs.Bits.{AreAllSet, IsLowestClear}
use Rattle.iocm_numbers.specs.Numbered.{Numbered}
use Rattle.iocm_numbers.specs.TiedTables.{bit_of}
use Rattle.iocm_numbers.proofs.Lowest.{some_is_lowest, none_is_free, notes_of, found_by}
use Rattle.iocm_numbers.proofs.numbers.Numbers.lowest_free.Goals as goal

pub returns-clause-some : goal.returns-clause-some
returns-clause-some g c =
    let c6 : c.args.css < 6 = omega (arith, c.number.ensures.value, c.number.ensures.range) in
    let s4 : c.args.set < 4 = omega (arith, c.number-2.ensures.value, c.number-2.ensures.range) in
    let start : 64 * ((c.from.result * 4 + c.from-2.result) * 1024) ≡ bit_of c.args.css c.args.set 0 =
    omega (arith, c.from.ensures, c.from-2.ensures, c.number.ensures.value, c.number-2.ensures.value) in
    let noted = notes_of c.self.inside.places c.self.inside.cells c.self.inside.words.items c.self.invariant c.args.css
    c.args.set c6 s4 in
    subst (λ (s : Numbered). IfSome c.lowest_clear.result (λ k. k ≡ lowest_free s.numbers c.args.css c.args.set))
    c.self.view_is
    (some_is_lowest _ c.args.css c.args.set c.self.inside.words.items c6 s4 noted c.lowest_clear.result
    c.lowest_clear.ensures.small
    (subst (λ (ws : List ℕ). IfSome c.lowest_clear.result (IsLowestClear ws (bit_of c.args.css c.args.set 0)))
    c.as_slice.ensures.value
    (subst (λ at. IfSome c.lowest_clear.result (IsLowestClear c.as_slice.result.now at)) start
    c.lowest_clear.ensures.some)))

pub returns-clause-none : goal.returns-clause-none
returns-clause-none g c none =
    let c6 : c.args.css < 6 = omega (arith, c.number.ensures.value, c.number.ensures.range) in
    let s4 : c.args.set < 4 = omega (arith, c.number-2.ensures.value, c.number-2.ensures.range) in
    let start : 64 * ((c.from.result * 4 + c.from-2.result) * 1024) ≡ bit_of c.args.css c.args.set 0 =
    omega (arith, c.from.ensures, c.from-2.ensures, c.number.ensures.value, c.number-2.ensures.value) in
    let noted = notes_of c.self.inside.places c.self.inside.cells c.self.inside.words.items c.self.invariant c.args.css
    c.args.set c6 s4 in
    subst (λ (s : Numbered). 65536 ≤ lowest_free s.numbers c.args.css c.args.set) c.self.view_is
    (none_is_free _ c.args.css c.args.set c.self.inside.words.items c6 s4 noted
    (subst (λ (ws : List ℕ). AreAllSet ws (bit_of c.args.css c.args.set 0) 65536) c.as_slice.ensures.value
    (subst (λ at. AreAllSet c.as_slice.result.now at 65536) start (c.lowest_clear.ensures.none none))))

pub returns-clause-found : goal.returns-clause-found
returns-clause-found g c =
    found_by c.args.self.now.numbers c.args.css c.args.set c.lowest_clear.result (returns-clause-none g c)
