-- Where nothing is asked for, each row is wanted; and just what is wanted passes the sieve.
use Rattle.std.proofs.Common.{◌≡◌, ◌&&◌, ◌||◌, not, Bool, true, false, refl}
use Rattle.iocm_filter.specs.Wanted.{NothingIsAll, asks, wants}
use Rattle.iocm_filter.specs.Sieves.{PassesWanted}

by_parts : (a b d e f : Bool) → (not a && not b && not d && not e && not f) ≡ true → (x p y z u v : Bool)
    → (((not a || x) || p) && ((not b || y) && (not d || z)) && ((not e || u) && (not f || v))) ≡ true
by_parts false false false false false h x p y z u v = refl
by_parts true b d e f h x p y z u v = cc
by_parts false true d e f h x p y z u v = cc
by_parts false false true e f h x p y z u v = cc
by_parts false false false true f h x p y z u v = cc
by_parts false false false false true h x p y z u v = cc

pub nothing_is_all : NothingIsAll
nothing_is_all w none c row =
    by_parts (asks w.images) (asks w.devices) (asks w.units) (asks w.paths) (asks w.online) none _ _ _ _ _ _

pub passes_wanted : PassesWanted
passes_wanted w c s fits row = λ i. wants (fits.asked i) (λ key. fits.keys key i) row

pub ruleset laws = (nothing_is_all, passes_wanted)
