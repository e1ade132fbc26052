-- By the mask over the first eight paths, whether any path is reached.
use Rattle.std.proofs.Common.{◌≡◌, arith, rules, ◌∙◌}
use Rattle.iocm_model.specs.Machine.Configuration.{lookup_of}
use Rattle.iocm_model.specs.Machine.Mask.{mask_from}
use Rattle.iocm_model.specs.Machine.PathList.{path_list}
use Rattle.iocm_model.specs.Machine.Sight.{reaches}
use Rattle.iocm_derive.proofs.Reached.{reached_by_mask, reached_by_none}
use Rattle.iocm_reach.proofs.reaching.is_reached.Goals as goal

pub returns-then-bits-ne0 : goal.returns-then-bits-ne0
returns-then-bits-ne0 g c =
    let test = reaches (lookup_of c.args.image.now.records) c.args.image.now.image.css c.args.image.now.image.name in
    let mask : c.bits.result ≡ mask_from 128 test c.args.paths.now = c.bits.ensures ∙ c.requires.pim in
    reached_by_mask test (path_list (lookup_of c.args.image.now.records) c.args.image.now.image.css c.args.units.now)
    c.args.paths.now c.requires.paths
    (let some = c.if-bits-ne0.true in omega arith)

pub returns-then-not-is_full : goal.returns-then-not-is_full
returns-then-not-is_full g c =
    let test = reaches (lookup_of c.args.image.now.records) c.args.image.now.image.css c.args.image.now.image.name in
    let mask : c.bits.result ≡ mask_from 128 test c.args.paths.now = c.bits.ensures ∙ c.requires.pim in
    reached_by_none test (path_list (lookup_of c.args.image.now.records) c.args.image.now.image.css c.args.units.now)
    c.args.paths.now c.requires.paths
    (search rules) (let none = c.if-bits-ne0.false in omega arith)
