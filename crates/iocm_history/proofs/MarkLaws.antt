-- What striking and restoring promise of marks in a legal history.
use Rattle.std.proofs.Common.{◌≡◌, ⊎_elim, ℕ, Bool, true, false, eqb, List, ◌∷◌, refl, sym, ap, ◌∙◌}
use Rattle.std.proofs.lemmas.Bool.{or_left, or_right, eq-eqb, false_from_ne_true}
use Rattle.iocm_history.specs.MarkedEntry.{MarkedEntry}
use Rattle.iocm_history.specs.Store.{store_of}
use Rattle.iocm_history.specs.Account.{marked_entries}
use Rattle.iocm_history.specs.StandsOn.{changes_in, numbers_of}
use Rattle.iocm_history.specs.Journal.{is_in, journal_of}
use Rattle.iocm_history.specs.MarkLaws.{StandingChangesMarkNothing, ChangesCountWhileTheyStand}
use Rattle.iocm_history.proofs.Striking.{made}
use Rattle.iocm_history.proofs.Passing.{changes_append, number_append}
use Rattle.iocm_history.proofs.Standing.{IsStanding}
use Rattle.iocm_history.proofs.Along.{settled}

pub standing_changes_mark_nothing : StandingChangesMarkNothing
standing_changes_mark_nothing opening h n used legal there =
    let i = settled opening h used legal in
    ⊎_elim (λ more. i.ahead.unmarked n more) (λ here. (i.level.standing n here).unmarked) there

-- a standing change counts
stands_among : (m : _) (n : ℕ) (ls : List MarkedEntry) → IsStanding m n ls → is_in n (numbers_of (changes_in ls)) ≡ true
stands_among m n ls s =
    ap (λ ms. is_in n (numbers_of (changes_in ms))) s.parts
    ∙ ap (λ ds. is_in n (numbers_of ds)) (changes_append s.newer (made n s.change ∷ s.older))
    ∙ number_append n (changes_in s.newer) (changes_in (made n s.change ∷ s.older))
    ∙ or_right _ _ (or_left (eqb n n) _ (eq-eqb n n refl))

pub changes_count_while_they_stand : ChangesCountWhileTheyStand
changes_count_while_they_stand opening h n used legal =
    let i = settled opening h used legal in
    by (is_in n (journal_of h).standing) refl
    (λ here. stands_among (store_of opening) n (marked_entries opening h) (i.level.standing n here))
    (i.level.only n)
  where
    counted : Bool
    counted = is_in n (numbers_of (changes_in (marked_entries opening h)))

    by : (b : Bool) → is_in n (journal_of h).standing ≡ b → (is_in n (journal_of h).standing ≡ true → counted ≡ true)
        → (counted ≡ true → is_in n (journal_of h).standing ≡ true) → counted ≡ b
    by true is forth back = forth is
    by false is forth back = false_from_ne_true counted (λ here. let no : true ≡ false = sym (back here) ∙ is in cc)
