-- A comma ends the piece at hand; another byte goes to it.
use Rattle.std.proofs.Common.{◌+◌, refl, sym, ap, ◌∙◌, rules, map, Bor, List, ℕ}
use Rattle.std.proofs.lemmas.List.{map-append}
use Rattle.iocm_statements.proofs.Cutting.{cut_ends_piece, byte_joins_piece}
use Rattle.iocm_statements.proofs.split.pieces.Goals.{then-cuts+in_ok-push, else-cuts+in_ok-nesting}
use Rattle.iocm_statements.proofs.split.pieces.Goals as goal

pub loop-index-preserved : goal.loop-index-preserved
loop-index-preserved c = elim c.if-cuts.branch [
  | then-cuts+in_ok-push w ↦ record {
    cut = rw (w.pieces-is, w.from-is, w.nesting-is)
        (sym (cut_ends_piece (map (λ k. k.now) c.loop-index.pieces.items) (map (λ k. k.now) w.push.new.self.items)
        c.loop-index.nesting c.args.text.now c.loop-index.from
        (c.loop-index.index + 1) c.loop-index.index c.loop-index-test.true (search rules)
        (ap (map (λ k. k.now)) w.in_ok-push.ensures.items
        ∙ map-append (λ (k : Bor (List ℕ)). k.now) c.loop-index.pieces.items _) refl) ∙ c.loop-index.invariant.cut);
    begun = search rules;
    depth = search rules;
  }
  | else-cuts+in_ok-nesting w ↦ record {
    cut = rw (w.pieces-is, w.from-is, w.nesting-is)
        (sym (byte_joins_piece (map (λ k. k.now) c.loop-index.pieces.items) c.loop-index.nesting w.in_ok-nesting.nesting
        c.args.text.now c.loop-index.from
        c.loop-index.index c.loop-index.invariant.begun c.loop-index-test.true (search rules) (search rules))
        ∙ c.loop-index.invariant.cut);
    begun = search rules;
    depth = search rules;
  }
]
