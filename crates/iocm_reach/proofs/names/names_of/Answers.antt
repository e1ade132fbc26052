-- One name more.
use Rattle.std.proofs.Common.{◌∙◌, ℕ, ◌<◌, List, Option, None, IfSome, IsTrue, arith, ap, subst}
use Rattle.iocm_types.specs.Name.{is_name}
use Rattle.iocm_model.specs.Machine.Configuration.{Configuration, lookup_of}
use Rattle.iocm_derive.specs.Derived.{name_at}
use Rattle.iocm_reach.specs.Reached.{image_in}
use Rattle.iocm_reach.proofs.Written.{right_more, valid_more}
use Rattle.iocm_reach.proofs.names.names_of.Goals as goal

pub loop-number-preserved : goal.loop-number-preserved
loop-number-preserved g c = record {
  same = c.name_of.ensures.same ∙ c.loop-number.invariant.same;
  so_far = right_more (λ m. 0 < m) (λ m. m)
      (λ mif. name_at (lookup_of c.args.config.now.records) (image_in c.args.css mif)) c.loop-number.names None
      c.name_of.result c.from.result c.loop-number.number c.from.ensures (omega arith)
      (λ m other. rw c.from.ensures other) c.loop-number.invariant.so_far
      (c.name_of.ensures.name ∙ ap
      (λ (m : Configuration). name_at (lookup_of m) (image_in c.args.css c.loop-number.number))
      c.loop-number.invariant.same);
  valid = valid_more (λ mif.
      IfSome (name_at (lookup_of c.args.config.now.records) (image_in c.args.css mif)) (λ name. IsTrue (is_name name)))
      c.loop-number.number c.loop-number.invariant.valid
      (subst (λ (o : Option (List ℕ)). IfSome o (λ name. IsTrue (is_name name)))
      (c.name_of.ensures.name ∙ ap
      (λ (m : Configuration). name_at (lookup_of m) (image_in c.args.css c.loop-number.number))
      c.loop-number.invariant.same) c.name_of.ensures.valid);
}

pub returns : goal.returns
returns g c = record {
  each = λ mif above below. c.loop-number.invariant.so_far mif above (omega arith);
  valid = λ mif above below. c.loop-number.invariant.valid mif above (omega arith);
}
