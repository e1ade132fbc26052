-- Where a search ends is what the map of the rows has.
use Rattle.std.proofs.Common.{rules}
use Rattle.std.proofs.lemmas.List.Sorted.{answers_always}
use Rattle.iocm_types.proofs.Searched.{get_found, get_in_gap}
use Rattle.iocm_types.proofs.searching.value_under.Goals as goal

pub returns-in-Ok : goal.returns-in-Ok
returns-in-Ok g c =
    let found = c.in-Ok.ensures.position (λ e. e.0) (answers_always _ _ _ (λ f a r h called. search rules)) in
    get_found g.met.K.TableKey.is_cmp g.met.K.Ord.total g.met.K.TableKey.exact c.args.rows.now c.requires
    c.args.key.now c.in-Ok.place c.index-rows-place.result c.in-Ok.ensures.bound (found c.index-rows-place.result)

pub returns-in-Err : goal.returns-in-Err
returns-in-Err g c =
    get_in_gap g.met.K.TableKey.is_cmp g.met.K.Ord.total g.met.K.TableKey.exact c.args.rows.now c.requires
    c.args.key.now c.in-Err._place
    (c.in-Err.ensures.position (λ e. e.0) (answers_always _ _ _ (λ f a r h called. search rules)))
