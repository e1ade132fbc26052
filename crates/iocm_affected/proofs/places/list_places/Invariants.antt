-- What is listed, with the places in the channel subsystems that are left, is the whole.
use Rattle.std.proofs.Common.{◌≡◌, ℕ, ◌++◌, drop, map}
use Rattle.iocm_types.specs.declared.place.Place.{Place}
use Rattle.iocm_affected.proofs.places.list_places.Given as goal

abbrev pub invariant-loop-css : goal.invariant-loop-css
invariant-loop-css g l = let at : ℕ → Place = λ css. record { css = css; set = l.set; device = l.device } in
    l.listed.items ++ map at (drop l.css-index l.within) ≡ l.initial.listed.items ++ map at l.within
