use Rattle.std.proofs.Common.{◌≡◌, ℕ, nat_eq, eqb-true, eq-eqb, ne_eqb, Bool, true, false, ◌||◌, List, [], ◌∷◌, refl}
use Rattle.std.proofs.Common.{sym, ◌∙◌}
use Rattle.std.specs.List.{list_any}
use Rattle.iocm_seats.proofs.image_subsystems.has_subsystem.Goals as goal

-- two numbers are the same whichever comes first
either_first : (m n : ℕ) → nat_eq m n ≡ nat_eq n m
either_first m n = by (nat_eq n m) refl
  where
    by : (b : Bool) → nat_eq n m ≡ b → nat_eq m n ≡ nat_eq n m
    by true is = eq-eqb m n (sym (eqb-true n m is)) ∙ sym is
    by false is = ne_eqb m n (λ e. let bad : false ≡ true = sym is ∙ eq-eqb n m (sym e) in cc) ∙ sym is

among : (n : ℕ) (ms : List ℕ) → list_any (λ m. nat_eq m n) ms ≡ list_any (nat_eq n) ms
among n [] = refl
among n (m ∷ ms) = λ i. either_first m n i || among n ms i

pub returns : goal.returns
returns c = c.contains.ensures.value ∙ among c.args.css c.args.subsystems.now
