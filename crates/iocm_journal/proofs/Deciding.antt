-- What the journal's places say of the changes that stand on a change.
use Rattle.std.proofs.Common.{◌≡◌, inl, ℕ, zero, suc, ◌+◌, ◌<◌, ◌≤◌, Bool, true, false, ◌&&◌, not, cond, Option, Some}
use Rattle.std.proofs.Common.{None, List, length, refl, sym, ap, subst, ◌∙◌, arith}
use Rattle.std.specs.Prelude.{nat_lt, nat_le}
use Rattle.std.specs.Option.{option_map, option_map_or}
use Rattle.std.proofs.lemmas.Bool.{lt-ltb, le-ltb, ltb-true, ltb-false, leb-true, and_parts}
use Rattle.std.proofs.lemmas.Option.{slice_get_within}
use Rattle.std.specs.List.{slice_get}
use Rattle.iocm_model.specs.Operation.State.{State}
use Rattle.iocm_history.specs.Entry.{History}
use Rattle.iocm_history.specs.Change.{Change, share_a_cell}
use Rattle.iocm_history.specs.MarkedEntry.{change_at}
use Rattle.iocm_history.specs.Account.{marked_entries}
use Rattle.iocm_history.specs.Journal.{is_in, journal_of}
use Rattle.iocm_history.specs.StandsOn.{greatest, standing_on}
use Rattle.iocm_activate.specs.declared.effect.Effect.{Effect}
use Rattle.iocm_history.specs.Reckoning.{last_undone, shares}
use Rattle.iocm_journal.specs.Kept.{IsKept}
use Rattle.iocm_journal.specs.Now.{IsJournalOf}
use Rattle.iocm_journal.specs.Standing.{stands_at, undone_since_at, share_with, share_at, is_on, last_passing}
use Rattle.iocm_journal.specs.declared.kept.Kept.{Kept}
use Rattle.iocm_journal.specs.Journaled.{Journaled}
use Rattle.iocm_history.proofs.Reckoned.{later_stand_on_it, others_stand_on_it}
use Rattle.iocm_history.proofs.TheGreatest.{greatest_is as the_greatest, greatest_of_none}
use Rattle.iocm_history.proofs.Facts.{standing_were_accepted}
use Rattle.iocm_journal.proofs.NeverUndone.{never_undone}
use Rattle.iocm_journal.proofs.Passing.{IsLastPassing, last_passing_is}
use Rattle.iocm_journal.proofs.Taken.{item_there}

one_more : (n : ℕ) → n + 1 ≡ suc n
one_more n = omega arith

over_zero : (a : ℕ) → nat_le (a + 1) 0 ≡ false
over_zero a = by (nat_le (a + 1) 0) refl
  where
    by : (b : Bool) → nat_le (a + 1) 0 ≡ b → nat_le (a + 1) 0 ≡ false
    by true is = let low = leb-true (a + 1) 0 is in absurd (omega (arith, low))
    by false is = is

lt_both : (a b : ℕ) → nat_lt (a + 1) (b + 1) ≡ nat_lt a b
lt_both a b = by (nat_lt a b) refl
  where
    by : (c : Bool) → nat_lt a b ≡ c → nat_lt (a + 1) (b + 1) ≡ c
    by true is = lt-ltb (a + 1) (b + 1) (let low = ltb-true a b is in omega arith)
    by false is = le-ltb (a + 1) (b + 1) (let high = ltb-false a b is in omega arith)

-- a test behind another counts only where that one passes
and_then : (a b c : Bool) → (a ≡ true → b ≡ c) → (a && b) ≡ (a && c)
and_then true b c same = same refl
and_then false b c same = refl

if_not : (a x y z : Bool) → (a ≡ false → y ≡ z) → cond a x y ≡ cond a x z
if_not true x y z same = refl
if_not false x y z same = same refl

module _ {opening : State} {h : History} {j : Journaled} {fs : List Effect} (i : IsJournalOf opening h j fs) where
  abbrev ks : List Kept
  ks = j.changes

  past_end : (at : ℕ) → length ks ≤ at → is_in (at + 1) (journal_of h).standing ≡ false
  past_end at past = by (is_in (at + 1) (journal_of h).standing) refl
    where
      by : (b : Bool) → is_in (at + 1) (journal_of h).standing ≡ b → b ≡ false
      by true is = let bound = (standing_were_accepted opening h (at + 1) i.used i.legal is).1 in let all = i.count in
          absurd (omega (arith, bound, all, past))
      by false is = refl

  -- whether the change at a place stands
  pub stands_is : (at : ℕ) → is_in (at + 1) (journal_of h).standing ≡ stands_at ks at
  stands_is at = by (slice_get ks at) (slice_get fs at) refl refl
    where
      by : (o : Option Kept) (g : Option Effect) → slice_get ks at ≡ o → slice_get fs at ≡ g
          → is_in (at + 1) (journal_of h).standing ≡ option_map_or (λ (k : Kept). k.stands) o false
      by (Some k) (Some f) at_k at_f = sym (i.kept at k f at_k at_f).stands
      by (Some k) None at_k at_f = let within = slice_get_within ks at k at_k in let same = i.effects in
          let there = item_there fs at (omega (arith, within, same)) in let no : Some there.0 ≡ None =
          sym there.1 ∙ at_f in cc
      by None g at_k at_f = past_end at (past at_k)
        where
          past : slice_get ks at ≡ None → length ks ≤ at
          past none = le (nat_lt at (length ks)) refl
            where
              le : (b : Bool) → nat_lt at (length ks) ≡ b → length ks ≤ at
              le true is = let there = item_there ks at (ltb-true at (length ks) is) in
                  let no : Some there.0 ≡ None = sym there.1 ∙ none in absurd (holds_not there.0 no)
                where
                  holds_not : (k : Kept) → Some k ≡ None → ⊥
                  holds_not k e = cc
              le false is = ltb-false at (length ks) is

  stands_within : (at : ℕ) → stands_at ks at ≡ true → (k : Kept) × (slice_get ks at ≡ Some k)
  stands_within at is = by (slice_get ks at) refl is
    where
      by : (o : Option Kept) → slice_get ks at ≡ o → option_map_or (λ (k : Kept). k.stands) o false ≡ true
          → (k : Kept) × (slice_get ks at ≡ Some k)
      by (Some k) at_k passed = (k, at_k)
      by None at_k passed = cc

  pub effect_there : (at : ℕ) (k : Kept) → slice_get ks at ≡ Some k → (f : Effect) × (slice_get fs at ≡ Some f)
  effect_there at k at_k = let within = slice_get_within ks at k at_k in let same = i.effects in
      item_there fs at (omega (arith, within, same))

  -- ---- what stands on the change at a place

  module _ (place : ℕ) (k : Kept) (f : Effect) (at_k : slice_get ks place ≡ Some k)
      (at_f : slice_get fs place ≡ Some f) where
    abbrev it : IsKept opening h (place + 1) k f
    it = i.kept place k f at_k at_f

    abbrev c : Change
    c = it.change

    shares_is : (at : ℕ) → stands_at ks at ≡ true
        → shares c (change_at (at + 1) (marked_entries opening h)) ≡ share_at fs place at
    shares_is at passed =
        let l = stands_within at passed in let g = effect_there at l.0 l.1 in let other = i.kept at l.0 g.0 l.1 g.1 in
        ap (shares c) other.there ∙ (λ z. share_a_cell (sym it.effect z) (sym other.effect z))
        ∙ sym (ap (λ o. option_map_or (share_with o) (slice_get fs at) false) at_f
        ∙ ap (λ o. option_map_or (share_with (Some f)) o false) g.1)

    undone_is : (at : ℕ) → at < place → nat_le (place + 1) (last_undone (at + 1) h) ≡ undone_since_at ks (place + 1) at
    undone_is at low =
        let within = slice_get_within ks place k at_k in let l = item_there ks at (omega (arith, low, within)) in
        let g = effect_there at l.0 l.1 in
        sym (ap (nat_le (place + 1)) (i.kept at l.0 g.0 l.1 g.1).undone)
        ∙ sym (ap (λ o. option_map_or (λ (z : Kept). nat_le (place + 1) z.undone_after) o false) l.1)

    pub member : (b : Bool) (at : ℕ)
        → is_in (at + 1) (standing_on (place + 1) c (marked_entries opening h) b) ≡ is_on ks fs place b at
    member true at =
        later_stand_on_it opening h (place + 1) (at + 1) c i.used i.legal it.there
        ∙ (λ z. lt_both place at z && (stands_is at z && shares c (change_at (at + 1) (marked_entries opening h))))
        ∙ ap (λ b. nat_lt place at && b) (and_then (stands_at ks at) _ _ (shares_is at))
    member false at =
        others_stand_on_it opening h (place + 1) (at + 1) c i.used i.legal it.there
        ∙ (λ z. cond (lt_both place at z) (stands_is at z)
        (lt_both at place z && (not (stands_is at z) && nat_le (place + 1) (last_undone (at + 1) h))))
        ∙ ap (λ b. cond (nat_lt place at) (stands_at ks at) b)
        (and_then (nat_lt at place) _ _
        (λ low. ap (λ b. not (stands_at ks at) && b) (undone_is at (ltb-true at place low))))

    none_at_zero : (b : Bool) → is_in 0 (standing_on (place + 1) c (marked_entries opening h) b) ≡ false
    none_at_zero true = later_stand_on_it opening h (place + 1) 0 c i.used i.legal it.there
        ∙ ap (λ b. b && (is_in 0 (journal_of h).standing && shares c (change_at 0 (marked_entries opening h))))
        (le-ltb (place + 1) 0 (omega arith))
    none_at_zero false =
        others_stand_on_it opening h (place + 1) 0 c i.used i.legal it.there
        ∙ ap (λ b. cond b (is_in 0 (journal_of h).standing)
        (nat_lt 0 (place + 1) && (not (is_in 0 (journal_of h).standing) && nat_le (place + 1) (last_undone 0 h))))
        (le-ltb (place + 1) 0 (omega arith))
        ∙ ap (λ m. nat_lt 0 (place + 1) && (not (is_in 0 (journal_of h).standing) && nat_le (place + 1) m))
        (never_undone opening h 0 i.used i.legal (inl refl))
        ∙ ap (λ b. nat_lt 0 (place + 1) && (not (is_in 0 (journal_of h).standing) && b)) (over_zero place)
        ∙ last_false (nat_lt 0 (place + 1)) (not (is_in 0 (journal_of h).standing))
      where
        last_false : (a b : Bool) → (a && (b && false)) ≡ false
        last_false true true = refl
        last_false true false = refl
        last_false false b = refl

    on_within : (b : Bool) (at : ℕ) → is_on ks fs place b at ≡ true → at < length ks
    on_within true at passed = let parts = and_parts (nat_lt place at) _ passed in let more =
        and_parts (stands_at ks at) _ parts.1 in
        let l = stands_within at more.0 in slice_get_within ks at l.0 l.1
    on_within false at passed = by (nat_lt place at) refl passed
      where
        by : (b : Bool) → nat_lt place at ≡ b
            → cond b (stands_at ks at)
            (nat_lt at place && (not (stands_at ks at) && undone_since_at ks (place + 1) at)) ≡ true → at < length ks
        by true is stands = let l = stands_within at stands in slice_get_within ks at l.0 l.1
        by false is rest = let low = ltb-true at place (and_parts (nat_lt at place) _ rest).0 in
            let within = slice_get_within ks place k at_k in omega (arith, low, within)

    -- the same, by a number that isn't 0
    member_suc : (b : Bool) (at : ℕ)
        → is_in (suc at) (standing_on (place + 1) c (marked_entries opening h) b) ≡ is_on ks fs place b at
    member_suc b at =
        subst (λ m. is_in m (standing_on (place + 1) c (marked_entries opening h) b) ≡ is_on ks fs place b at)
        (one_more at) (member b at)

    -- those that stand on it
    abbrev on_it : Bool → List ℕ
    on_it b = standing_on (place + 1) c (marked_entries opening h) b

    -- the greatest that stands on it
    pub greatest_is : (b : Bool)
        → greatest (standing_on (place + 1) c (marked_entries opening h) b) ≡ option_map (λ at. at + 1)
        (last_passing (is_on ks fs place b) (length ks))
    greatest_is b = by (last_passing (is_on ks fs place b) (length ks))
        (last_passing_is (is_on ks fs place b) (length ks))
      where
        bounded : (at : ℕ) → ((m : ℕ) → at < m → m < length ks → is_on ks fs place b m ≡ false) → (m : ℕ)
            → is_in m (on_it b) ≡ true → m ≤ at + 1
        bounded at none zero among = omega arith
        bounded at none (suc m) among = low (nat_lt at m) refl
          where
            low : (d : Bool) → nat_lt at m ≡ d → suc m ≤ at + 1
            low true is = let passed = sym (member_suc b m) ∙ among in
                let no : true ≡ false = sym passed ∙ none m (ltb-true at m is) (on_within b m passed) in
                absurd (differ no)
              where
                differ : true ≡ false → ⊥
                differ e = cc
            low false is = let high = ltb-false at m is in omega (arith, high)

        nobody : ((m : ℕ) → m < length ks → is_on ks fs place b m ≡ false) → (m : ℕ) → is_in m (on_it b) ≡ false
        nobody none zero = none_at_zero b
        nobody none (suc m) = member_suc b m ∙ off (is_on ks fs place b m) refl
          where
            off : (d : Bool) → is_on ks fs place b m ≡ d → d ≡ false
            off true is = sym is ∙ none m (on_within b m is)
            off false is = refl

        by : (o : Option ℕ) → IsLastPassing (is_on ks fs place b) (length ks) o
            → greatest (on_it b) ≡ option_map (λ at. at + 1) o
        by (Some at) last = the_greatest (on_it b) (at + 1)
            (record { among = member b at ∙ last.1; bounds = bounded at last.2 })
        by None none = greatest_of_none (on_it b) (nobody none)
