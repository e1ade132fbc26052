use Rattle.std.proofs.Common.{subst, ◌∙◌}
use Rattle.std.specs.Cmp.{IsTotalOrder}
use Rattle.std.specs.FinMap.{IsAntisymmetric}
use Rattle.iocm_activate.specs.Cells.{cells_in}
use Rattle.iocm_activate.proofs.InCommon.{common_both}
use Rattle.iocm_activate.proofs.written.Written.have_common.Goals as goal

pub returns : goal.returns
returns g c = c.has_one_of-2.ensures
    ∙ common_both (subst IsTotalOrder g.met.K.TableKey.is_cmp g.met.K.Ord.total)
    (subst IsAntisymmetric g.met.K.TableKey.is_cmp g.met.K.TableKey.exact)
    (cells_in g.K.TableKey.order c.args.self.now) (cells_in g.K.TableKey.order c.args.other.now)
