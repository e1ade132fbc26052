-- Where each undo is of the latest standing change, only later standing changes stand on a standing
-- one.
use Rattle.std.proofs.Common.{◌≡◌, ⊎_elim, ℕ, ◌<◌, Bool, true, false, cond, not, ◌&&◌, nat_lt, eqb, List, [], ◌∷◌}
use Rattle.std.proofs.Common.{filter, sym, ap, ◌∙◌}
use Rattle.std.proofs.lemmas.Bool.{and_parts, or_left, or_right, or_cases, eq-eqb, eqb-true, ltb-true}
use Rattle.std.proofs.lemmas.List.Folds.{list_any-append}
use Rattle.std.proofs.lemmas.Map.Views.{any-filter_same}
use Rattle.iocm_history.specs.Store.{Store, store_of}
use Rattle.iocm_history.specs.Change.{Change, effect_of_change, share_a_cell}
use Rattle.iocm_history.specs.Fits.{fits}
use Rattle.iocm_history.specs.Account.{Account, account, state_at}
use Rattle.iocm_history.specs.StandsOn.{Numbered, since, changes_in, undos_in, counts, undone_since, numbers_of}
use Rattle.iocm_history.specs.StandsOn.{standing_on}
use Rattle.iocm_history.specs.Journal.{Journal, is_in, journal_of}
use Rattle.iocm_history.specs.LatestFirst.{OnlyLaterStandingChangesStandOn}
use Rattle.iocm_history.proofs.Numbers.{first_or_rest}
use Rattle.iocm_history.proofs.Standing.{standing_since}
use Rattle.iocm_history.proofs.Settled.{IsSettled}
use Rattle.iocm_history.proofs.Along.{settled}
use Rattle.iocm_history.proofs.Latest.{newer_is_later}
use Rattle.iocm_history.proofs.Unblocked.{IsOrdered, earlier_counts, history_ordered}

-- a number of some of the changes is one of all
number_of_some : (test : Numbered → Bool) (k : ℕ) (ds : List Numbered) → is_in k (numbers_of (filter test ds)) ≡ true
    → is_in k (numbers_of ds) ≡ true
number_of_some test k [] among = among
number_of_some test k (d ∷ ds) among = by (test d) among (number_of_some test k ds)
  where
    by : (b : Bool) → is_in k (numbers_of (cond b (d ∷ filter test ds) (filter test ds))) ≡ true
        → (is_in k (numbers_of (filter test ds)) ≡ true → is_in k (numbers_of ds) ≡ true)
        → is_in k (numbers_of (d ∷ ds)) ≡ true
    by true among more = ⊎_elim (λ same. or_left (eqb k d.0) _ (eq-eqb k d.0 same))
        (λ rest. or_right (eqb k d.0) _ (more rest))
        (first_or_rest k d.0 (numbers_of (filter test ds)) among)
    by false among more = or_right (eqb k d.0) _ (more among)

-- a number that passes a test is one of all
passes : (test : ℕ → Bool) (k : ℕ) (ns : List ℕ) → is_in k (filter test ns) ≡ true
    → (test k ≡ true) × (is_in k ns ≡ true)
passes test k ns among =
    and_parts (test k) (is_in k ns)
    (sym (any-filter_same (eqb k) test (test k) (λ j same. ap test (sym (eqb-true k j same))) ns) ∙ among)

module _ (m : Store) (b : Journal) (a : Account) (i : IsSettled m b a) (o : IsOrdered b a.entries) (n : ℕ)
    (here : is_in n b.standing ≡ true) where
  abbrev StandsLater : ℕ → Type 0
  StandsLater k = (is_in k b.standing ≡ true) × (n < k)

  counted_since : (k : ℕ) → is_in k (numbers_of (changes_in (since n a.entries))) ≡ true → StandsLater k
  counted_since k among =
      newer_is_later m a.entries b.standing i.level n here k
      (ap (λ ms. is_in k (numbers_of (changes_in ms))) (sym (standing_since m n a.entries (i.level.standing n here)))
      ∙ among)

  -- no earlier change is undone since it
  none_undone : (k : ℕ) → is_in k (undone_since n a.entries) ≡ true → StandsLater k
  none_undone k among =
      let both = passes (λ j. nat_lt j n && not (counts j a.entries)) k (undos_in (since n a.entries)) among in
      let low = and_parts (nat_lt k n) (not (counts k a.entries)) both.0 in
      let counted = earlier_counts m b a i o n k here both.1 (ltb-true k n low.0) in
      let no : false ≡ true = sym (ap not counted) ∙ low.1 in
      cc

  named : (c : Change) (fit : Bool) (k : ℕ) → is_in k (standing_on n c a.entries fit) ≡ true → StandsLater k
  named c true k among =
      counted_since k (number_of_some (λ (d : Numbered). share_a_cell (effect_of_change c) (effect_of_change d.1)) k
      (changes_in (since n a.entries)) among)
  named c false k among =
      ⊎_elim (counted_since k) (none_undone k)
      (or_cases _ _ (sym (list_any-append (eqb k) (numbers_of (changes_in (since n a.entries)))
      (undone_since n a.entries)) ∙ among))

pub only_later_standing_changes_stand_on : OnlyLaterStandingChangesStandOn
only_later_standing_changes_stand_on opening h n k c used legal latest here at among =
    named (store_of opening) (journal_of h) (account opening h) (settled opening h used legal)
    (history_ordered opening h used legal latest) n here c
    (fits c (state_at opening h)) k among
