-- Rule by rule.
use Rattle.iocm_model.specs.Machine.Configuration.{records_of}
use Rattle.iocm_rules.specs.Check.{to_v8}
use Rattle.iocm_breaches.proofs.Appended.{AreBehind, none_behind, one_behind}
use Rattle.iocm_breaches.proofs.all.list_to_v8.Goals as goal

pub returns : goal.returns
returns g c =
    let k = c.args.config.now.records in
    let all : AreBehind (records_of k) (to_v8 k) c.args.breaches.now.items c.list_breaches-8.new.breaches.items =
    one_behind c.in_ok-list_breaches.ensures
    (one_behind c.in_ok-list_breaches-2.ensures
    (one_behind c.in_ok-list_breaches-3.ensures
    (one_behind c.in_ok-list_breaches-4.ensures
    (one_behind c.in_ok-list_breaches-5.ensures
    (one_behind c.in_ok-list_breaches-6.ensures
    (one_behind c.in_ok-list_breaches-7.ensures
    (one_behind c.in_ok-list_breaches-8.ensures
    (none_behind (records_of k) c.list_breaches-8.new.breaches.items)))))))) in
    all.is
