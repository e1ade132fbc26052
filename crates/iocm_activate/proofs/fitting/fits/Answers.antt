use Rattle.std.proofs.Common.{◌≡◌, ◌∙◌, length, sym, ap}
use Rattle.iocm_tree.specs.Trees.{parts_of, tree_of}
use Rattle.iocm_tree.proofs.Trees.{tree-Row}
use Rattle.iocm_activate.proofs.Kept.{kept_now}
use Rattle.iocm_activate.proofs.Whole.{ok_then}
use Rattle.iocm_activate.proofs.Trying.{fits_by, nothing_to_take_back}
use Rattle.iocm_activate.proofs.fitting.fits.Goals as goal

pub try_back-answer-requires : goal.try_back-answer-requires
try_back-answer-requires g c =
    let none : c.new-log.result.kept ≡ length c.new-log.result.keys.items =
    c.new-log.ensures.kept ∙ sym (ap length c.new-log.ensures.keys) in
    record { kept = kept_now c.new-log.result c.args.plant.now.state c.is_sound.ensures c.requires.kept none }

pub take_all_back-requires : goal.take_all_back-requires
take_all_back-requires g c = record {
  back = record {
    state = c.args.plant.now.state;
    leads = c.try_back-answer.ensures.back c.args.plant.now.state
        (nothing_to_take_back c.args.plant.now c.new-log.result c.new-log.ensures.done);
  };
}

pub returns-in-Row-clause-fits : goal.returns-in-Row-clause-fits
returns-in-Row-clause-fits g c = ok_then c.try_back-answer.result c.try_back-answer.ensures.fits
    (λ is kept. fits_by (tree_of c.args.inverse.now) (parts_of c.in-Row.parts.items) c.args.performed.now
    c.args.plant.now.state is
    (ap tree_of c.in-Row.is ∙ tree-Row c.in-Row.parts) kept)

pub returns-in-Row-clause-same : goal.returns-in-Row-clause-same
returns-in-Row-clause-same g c = c.take_all_back.ensures.undone c.args.plant.now.state
    (c.try_back-answer.ensures.back c.args.plant.now.state
    (nothing_to_take_back c.args.plant.now c.new-log.result c.new-log.ensures.done))
