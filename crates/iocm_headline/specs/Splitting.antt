-- The names of a caller that was split and joined again.
use Rattle.std.specs.Prelude.{◌≡◌, ℕ, zero, suc, true, List, [], ◌++◌}
use Rattle.iocm_board.specs.Names.{fresh, lend, next_of, is_whole}
use Rattle.iocm_board.specs.declared.view.Borne.{Borne}

-- after so many times one was split off the caller split off last, and all were joined again
abbrev pub after_all : ℕ → List Borne → List Borne
after_all zero names = names
after_all (suc n) names = lend names ++ after_all n (fresh (next_of names))

-- the first caller then bears all names again, however many were split off
abbrev pub AllNamesComeHome : Type 0
AllNamesComeHome = (n : ℕ) → is_whole (after_all n (fresh [])) ≡ true
