-- How a caller is stored as data, by which a proof tells two of them apart. No contract speaks of
-- these.
use Rattle.std.specs.Prelude.{ℕ, List, refl}
use Rattle.std.specs.Coded.{Coded, code_by, coded×, coded_list, coded_ℕ}
use Rattle.iocm_core.specs.Seen as seen
use Rattle.iocm_board.specs.declared.view.Borne.{Borne}
use Rattle.iocm_board.specs.declared.view.Made.{Made}
use Rattle.iocm_system.specs.Sights.{Sight}

abbrev pub sight_code : Coded seen.Core → Coded Borne → Coded Made → Coded Sight
sight_code cores names receipts =
    code_by (ℕ × (seen.Core × (List Borne × (List Made × ℕ))))
    (coded× coded_ℕ (coded× cores (coded× (coded_list names) (coded× (coded_list receipts) coded_ℕ))))
    (λ c. (c.tag, (c.origin, (c.names, (c.receipts, c.seen)))))
    (λ p. record { tag = p.0; origin = p.1.0; names = p.1.1.0; receipts = p.1.1.1.0; seen = p.1.1.1.1 })
    (λ _. refl)
