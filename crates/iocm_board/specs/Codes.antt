-- How a seat is stored as data, by which a proof tells two of them apart. No contract speaks of
-- these.
use Rattle.std.specs.Prelude.{ℕ, refl}
use Rattle.std.specs.Coded.{Coded, code_by, coded×, coded_ℕ}
use Rattle.iocm_board.specs.declared.view.View.{View}
use Rattle.iocm_board.specs.Views.{Held}

abbrev pub held_code : Coded View → Coded Held
held_code views =
    code_by (ℕ × View) (coded× coded_ℕ views) (λ h. (h.tag, h.view)) (λ p. record { tag = p.0; view = p.1 })
    (λ _. refl)
