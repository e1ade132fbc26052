use Rattle.std.proofs.Common.{refl, sym, ap, subst, ◌∙◌}
use Rattle.iocm_types.specs.declared.image.Image.{Image}
use Rattle.iocm_derive.specs.Sighted.{Sighted}
use Rattle.iocm_console.specs.Lines.{image_of, line_at, subchannel_at}
use Rattle.iocm_console.specs.Alike.{HaveDigits}
use Rattle.iocm_console.proofs.Alike.{goes_on, last_line, seen_anew}
use Rattle.iocm_console.proofs.seen.Seen.go_to.Goals as goal

pub put_numbers-requires-clause-line : goal.put_numbers-requires-clause-line
put_numbers-requires-clause-line g c =
    last_line c.args.sight.now.records c.args.sight.now.image c.requires.keyed c.args.self.now c.args.last c.in-Some.cell
    c.args.place.now c.requires.last c.in-Some.is (sym c.are_like.ensures ∙ c.if-are_like.true) c.requires.alike
    (subst (λ x. HaveDigits x c.in-Some.cell.device)
    (c.subchannel.ensures ∙ ap (λ (im : Image). subchannel_at im c.in-Some.cell.cell) c.image.ensures)
    c.have_digits.ensures)

pub returns-in-Some-clause-seen : goal.returns-in-Some-clause-seen
returns-in-Some-clause-seen g c =
    goes_on c.args.sight.now.records c.args.sight.now.image c.requires.keyed c.args.self.now c.args.last c.in-Some.cell
    c.args.place.now c.requires.last c.in-Some.is (sym c.are_like.ensures ∙ c.if-are_like.true) c.requires.alike
    (subst (λ x. HaveDigits x c.in-Some.cell.device)
    (c.subchannel.ensures ∙ ap (λ (im : Image). subchannel_at im c.in-Some.cell.cell) c.image.ensures)
    c.have_digits.ensures) _ refl c.put_numbers.ensures.none c.put_numbers.ensures.numbers

pub returns-in_default-clause-seen : goal.returns-in_default-clause-seen
returns-in_default-clause-seen g c =
    seen_anew c.args.sight.now.records c.args.sight.now.image c.requires.keyed _ c.args.place.now c.requires.alike
    c.view_at-self.ensures.view
    (c.put_seen.ensures ∙ ap (λ id. line_at id c.view_at-self.result) (c.subchannel-in_default.ensures
    ∙ ap (λ (im : Image). subchannel_at im c.args.place.now.cell)
    (c.image-in_default.ensures ∙ ap (λ (s : Sighted). image_of s.image) c.view_at-self.ensures.same)))
