-- By the kind of the key.
use Rattle.std.proofs.Common.{subst, sym}
use Rattle.iocm_types.specs.declared.key.Key.{Key}
use Rattle.iocm_reach.specs.Tabled.{WasReach}
use Rattle.iocm_reach.proofs.Followed.{image_followed, row_followed, none_followed, row_apart}
use Rattle.iocm_reach.proofs.table.follow_key.Goals as goal

pub returns-in-Image-clause-reach : goal.returns-in-Image-clause-reach
returns-in-Image-clause-reach g c =
    image_followed c.args.config.now.records c.in-Image.css c.in-Image.mif c.args.table.now c.set_image.new.table
    (subst (λ (k : Key). WasReach k c.args.config.now.records c.args.table.now) c.in-Image.is c.requires.was)
    c.set_image.ensures

pub returns-in-Path-clause-reach : goal.returns-in-Path-clause-reach
returns-in-Path-clause-reach g c =
    row_followed c.args.key.now c.args.config.now.records c.in-Path.css c.in-Path.path c.args.table.now
    c.set_rows.new.table
    (row_apart c.args.key.now c.in-Path.css c.in-Path.path c.in-Path.is) c.requires.was c.set_rows.ensures

pub returns-in_default-clause-reach : goal.returns-in_default-clause-reach
returns-in_default-clause-reach g c =
    none_followed c.args.key.now c.args.config.now.records c.args.table.now (λ css path mif. record {
      image = λ same. c.in_default.not-Image css mif (sym same);
      route = λ same. c.in_default.not-Path css path (sym same);
      online = λ name same. c.in_default.not-Online css path name (sym same);
    }) c.requires.was
