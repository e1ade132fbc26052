use Rattle.std.proofs.Common.{◌∙◌, ◌++◌, ap, List, ℕ}
use Rattle.std.specs.Prelude.{Vec}
use Rattle.std.specs.declared.alloc.Global.{Global}
use Rattle.iocm_words.proofs.Joined.{first_put, more_put}
use Rattle.iocm_words.proofs.words.put_joined.Goals as goal
use Rattle.iocm_words.proofs.words.put_joined.Goals.{then-place-gt0+in_ok-push, else-place-gt0}

pub loop-place-preserved : goal.loop-place-preserved
loop-place-preserved c =
    let put = c.in_ok-extend_from_slice.ensures.items
    ∙ ap (λ (w : List ℕ). c.if-place-gt0.text.items ++ w) c.as_slice.ensures in
    elim c.if-place-gt0.branch [
      | then-place-gt0+in_ok-push w ↦
          more_put c.args.byte c.args.words.now c.loop-place.place c.index-words-place.result c.args.text.now.items
          c.loop-place.text.items c.if-place-gt0.text.items c.extend_from_slice.new.self.items
          c.loop-place-test.true c.index-words-place.is w.if-place-gt0.true c.loop-place.invariant
          (ap (λ (v : Vec ℕ Global). v.items) w.text-is ∙ w.in_ok-push.ensures.items) put
      | else-place-gt0 w ↦
          first_put c.args.byte c.args.words.now c.loop-place.place c.index-words-place.result c.args.text.now.items
          c.if-place-gt0.text.items c.extend_from_slice.new.self.items
          c.loop-place-test.true c.index-words-place.is w.if-place-gt0.false
          (ap (λ (v : Vec ℕ Global). v.items) w.text-is ∙ c.loop-place.invariant) put
    ]
