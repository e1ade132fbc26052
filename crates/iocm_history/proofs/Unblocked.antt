-- Where each undo is of the latest standing change, nothing stands on the latest.
use Rattle.std.proofs.Common.{◌≡◌, ◌⊎◌, inl, inr, ⊎_elim, ℕ, ◌+◌, ◌<◌, Bool, true, false, cond, ◌||◌, eqb, List, []}
use Rattle.std.proofs.Common.{◌∷◌, filter, Some, None, refl, sym, ap, subst, ◌∙◌, arith}
use Rattle.std.proofs.lemmas.Bool.{or_left, or_right, eq-eqb, cases_lt, false_from_ne_true}
use Rattle.iocm_types.specs.declared.answer.Answer.TheVariants.{Undone}
use Rattle.iocm_model.specs.Operation.State.{State}
use Rattle.iocm_history.specs.Entry.{Entry, History}
use Rattle.iocm_history.specs.Store.{Store, store_of}
use Rattle.iocm_history.specs.Change.{Change, effect_of_change, share_a_cell}
use Rattle.iocm_history.specs.Fits.{fits}
use Rattle.iocm_history.specs.MarkedEntry.{undoing, nothing, kept, MarkedEntry, is_change, altered_by_change}
use Rattle.iocm_history.specs.MarkedEntry.{without_change, with_change}
use Rattle.iocm_history.specs.Account.{Account, account, account_after, marked_entries, state_at}
use Rattle.iocm_history.specs.StandsOn.{Numbered, since, changes_in, undo_and, undos_in, counts, numbers_of}
use Rattle.iocm_history.specs.StandsOn.{standing_on, greatest, greatest_on, stands_on}
use Rattle.iocm_history.specs.Journal.{Journal, is_in, without, journal_after, journal_of}
use Rattle.iocm_history.specs.Legal.{IsLegal}
use Rattle.iocm_history.specs.InUse.{IsInUse}
use Rattle.iocm_history.specs.UndoLaws.{IsRefusedFor, staged, not_standing, stood_on, waits, lacks_memory}
use Rattle.iocm_history.specs.LatestFirst.{UndoesTheLatest, HasToWait, for_the_stage, for_quiet, for_memory}
use Rattle.iocm_history.specs.LatestFirst.{LatestIsNeverBlocked}
use Rattle.iocm_history.proofs.Remarked.{AreRemarked, AnyMarks, any_struck, any_restored}
use Rattle.iocm_history.proofs.Striking.{made, entry}
use Rattle.iocm_history.proofs.Numbers.{first_or_rest, in_without, among_without, in_front_again}
use Rattle.iocm_history.proofs.Standing.{IsStanding, standing_change, standing_since, standing_counts}
use Rattle.iocm_history.proofs.ItFits.{fits_alone, none_greatest}
use Rattle.iocm_history.proofs.Settled.{IsSettled, state_now, level_is, without_first}
use Rattle.iocm_history.proofs.Along.{IsEvent, idles, steps, changes, undoes, redoes, is_event, settled}
use Rattle.iocm_history.proofs.Latest.{greatest_bounds, no_newer}
use Rattle.iocm_history.proofs.Refusing.{greatest_among, undo_is_refused_only_for}

-- ---- those that are undone are later than those that stand

-- each change that is undone is later than all that stand, and then later than those that were
-- undone after it
abbrev pub AreLater : List ℕ → List ℕ → Type 0
AreLater ns [] = Unit {0}
AreLater ns (u ∷ us) = ((k : ℕ) → is_in k ns ≡ true → k < u) × AreLater (u ∷ ns) us

-- fewer may stand
later_than_fewer : (ns os us : List ℕ) → ((k : ℕ) → is_in k os ≡ true → is_in k ns ≡ true) → AreLater ns us
    → AreLater os us
later_than_fewer ns os [] fewer later = tt
later_than_fewer ns os (u ∷ us) fewer later =
    (λ k among. later.0 k (fewer k among), later_than_fewer (u ∷ ns) (u ∷ os) us more later.1)
  where
    more : (k : ℕ) → is_in k (u ∷ os) ≡ true → is_in k (u ∷ ns) ≡ true
    more k among = ⊎_elim (λ same. or_left (eqb k u) _ (eq-eqb k u same)) (λ rest. or_right (eqb k u) _ (fewer k rest))
        (first_or_rest k u os among)

later_by : (ns us : List ℕ) (n j : ℕ) → AreLater ns us → is_in n ns ≡ true → is_in j us ≡ true → n < j
later_by ns [] n j later here among = cc
later_by ns (u ∷ us) n j later here among =
    ⊎_elim (λ same. let low = later.0 n here in omega arith)
    (λ rest. later_by (u ∷ ns) us n j later.1 (or_right (eqb n u) _ here) rest) (first_or_rest j u us among)

-- ---- the undos since a change

undos_if : (b : Bool) (l : MarkedEntry) (ls : List MarkedEntry)
    → undos_in (cond b [] (l ∷ ls)) ≡ cond b [] (undo_and l.act (undos_in ls))
undos_if true l ls = refl
undos_if false l ls = refl

-- other marks are no other undos
same_undos : (n : ℕ) (ls ms : List MarkedEntry) → AreRemarked AnyMarks ls ms
    → undos_in (since n ms) ≡ undos_in (since n ls)
unfolding AreRemarked
same_undos n [] [] r = refl
same_undos n [] (m ∷ ms) r = absurd r
same_undos n (l ∷ ls) [] r = absurd r
same_undos n (l ∷ ls) (m ∷ ms) r =
    undos_if (is_change n m.act) m (since n ms)
    ∙ (λ i. cond (is_change n (r.0 i)) [] (undo_and (r.0 i) (same_undos n ls ms r.2 i)))
    ∙ sym (undos_if (is_change n l.act) l (since n ls))

-- ---- along a history

-- a change that isn't past: it stands, or is undone
abbrev pub IsOpen : Journal → ℕ → Type 0
IsOpen b k = (is_in k b.standing ≡ true) ⊎ (is_in k b.undone ≡ true)

-- those that are undone are later than those that stand; of the changes undone since one that isn't
-- past, no earlier one is past
pub record IsOrdered (b : Journal) (ls : List MarkedEntry) : Type 0 where
  pub later : AreLater b.standing b.undone
  pub earlier : (n j : ℕ) → IsOpen b n → is_in j (undos_in (since n ls)) ≡ true → j < n → IsOpen b j

-- a change more
change_ordered : (b : Journal) (ls : List MarkedEntry) (c : Change) → IsOrdered b ls
    → IsOrdered (record { count = b.count + 1; standing = (b.count + 1) ∷ b.standing; undone = [] })
    (made (b.count + 1) c ∷ ls)
change_ordered b ls c o = record { later = tt; earlier = earlier }
  where
    top : ℕ
    top = b.count + 1

    IsOpenThen : ℕ → Type 0
    IsOpenThen = IsOpen (record { count = top; standing = top ∷ b.standing; undone = [] })

    still : (n j : ℕ) → is_in n b.standing ≡ true → j < n → IsOpen b j → IsOpenThen j
    still n j here low (inl stands) = inl (or_right (eqb j top) _ stands)
    still n j here low (inr undone) = let more = later_by b.standing b.undone n j o.later here undone in
        absurd (omega arith)

    by : (n j : ℕ) (same : Bool) → eqb n top ≡ same → is_in n (top ∷ b.standing) ≡ true
        → is_in j (undos_in (cond same [] (made top c ∷ since n ls))) ≡ true
        → j < n → IsOpenThen j
    by n j true is here among low = cc
    by n j false is here among low =
        let stands : is_in n b.standing ≡ true = sym (ap (λ d. d || is_in n b.standing) is) ∙ here in
        still n j stands low (o.earlier n j (inl stands) among low)

    earlier : (n j : ℕ) → IsOpenThen n → is_in j (undos_in (since n (made top c ∷ ls))) ≡ true → j < n → IsOpenThen j
    earlier n j (inl here) among low = by n j (eqb n top) refl here among low
    earlier n j (inr none) among low = cc

-- the undo of the latest
undo_ordered : (b : Journal) (ls ms : List MarkedEntry) (u : ℕ) → AreRemarked AnyMarks ls ms → is_in u b.standing ≡ true
    → greatest b.standing ≡ Some u
    → IsOrdered b ls → IsOrdered (record { count = b.count; standing = without u b.standing; undone = u ∷ b.undone })
    (entry (undoing u) kept ∷ ms)
undo_ordered b ls ms u r here latest o = record {
  later = (
    below,
    later_than_fewer b.standing (u ∷ without u b.standing) b.undone
        (λ k among. sym (in_front_again u k b.standing here) ∙ among) o.later,
  );
  earlier = λ n j now among low. ⊎_elim (λ same. after j (inl (ap (λ k. is_in k b.standing) same ∙ here)))
      (λ rest. after j (o.earlier n j (before n now) (sym (ap (is_in j) (same_undos n ls ms r)) ∙ rest) low))
      (first_or_rest j u (undos_in (since n ms)) among);
}
  where
    IsOpenThen : ℕ → Type 0
    IsOpenThen = IsOpen (record { count = b.count; standing = without u b.standing; undone = u ∷ b.undone })

    below : (k : ℕ) → is_in k (without u b.standing) ≡ true → k < u
    below k among =
        let both = in_without u k b.standing among in
        let most = greatest_bounds b.standing u k latest both.0 in
        ⊎_elim (λ less. less) (λ least. let same : u ≡ k = omega arith in absurd (both.1 same)) (cases_lt k u)

    before : (k : ℕ) → IsOpenThen k → IsOpen b k
    before k (inl among) = inl (in_without u k b.standing among).0
    before k (inr among) = ⊎_elim (λ same. inl (ap (λ j. is_in j b.standing) same ∙ here)) (λ rest. inr rest)
        (first_or_rest k u b.undone among)

    stands_or : (k : ℕ) (same : Bool) → eqb k u ≡ same → is_in k b.standing ≡ true → IsOpenThen k
    stands_or k true is among = inr (or_left (eqb k u) _ is)
    stands_or k false is among =
        inl (among_without u k b.standing among
        (λ e. let here : eqb k u ≡ true = eq-eqb k u (sym e) in let no : true ≡ false = sym here ∙ is in cc))

    after : (k : ℕ) → IsOpen b k → IsOpenThen k
    after k (inl among) = stands_or k (eqb k u) refl among
    after k (inr among) = inr (or_right (eqb k u) _ among)

-- the redo of the last one undone
redo_ordered : (b : Journal) (ls ms : List MarkedEntry) (u : ℕ) (us : List ℕ) → AreRemarked AnyMarks ls ms
    → b.undone ≡ u ∷ us
    → IsOrdered b ls → IsOrdered (record { count = b.count; standing = u ∷ b.standing; undone = without u b.undone })
    (entry nothing kept ∷ ms)
redo_ordered b ls ms u us r undone o = record {
  later = subst (AreLater (u ∷ b.standing)) (sym rest_is) whole.1;
  earlier = λ n j now among low.
      after j (o.earlier n j (before n now) (sym (ap (is_in j) (same_undos n ls ms r)) ∙ among) low);
}
  where
    whole : AreLater b.standing (u ∷ us)
    whole = subst (AreLater b.standing) undone o.later

    itself : is_in u (u ∷ b.standing) ≡ true
    itself = or_left (eqb u u) _ (eq-eqb u u refl)

    gone : is_in u us ≡ false
    gone = false_from_ne_true _
        (λ among. let low = later_by (u ∷ b.standing) us u u whole.1 itself among in omega arith)

    rest_is : without u b.undone ≡ us
    rest_is = ap (without u) undone ∙ without_first u us gone

    IsOpenThen : ℕ → Type 0
    IsOpenThen = IsOpen (record { count = b.count; standing = u ∷ b.standing; undone = without u b.undone })

    first : is_in u b.undone ≡ true
    first = ap (is_in u) undone ∙ or_left (eqb u u) _ (eq-eqb u u refl)

    before : (k : ℕ) → IsOpenThen k → IsOpen b k
    before k (inl among) = ⊎_elim (λ same. inr (ap (λ j. is_in j b.undone) same ∙ first)) (λ rest. inl rest)
        (first_or_rest k u b.standing among)
    before k (inr among) = inr (in_without u k b.undone among).0

    undone_or : (k : ℕ) (same : Bool) → eqb k u ≡ same → is_in k b.undone ≡ true → IsOpenThen k
    undone_or k true is among = inl (or_left (eqb k u) _ is)
    undone_or k false is among =
        inr (among_without u k b.undone among
        (λ e. let here : eqb k u ≡ true = eq-eqb k u (sym e) in let no : true ≡ false = sym here ∙ is in cc))

    after : (k : ℕ) → IsOpen b k → IsOpenThen k
    after k (inl among) = inl (or_right (eqb k u) _ among)
    after k (inr among) = undone_or k (eqb k u) refl among

module _ (m : Store) (b : Journal) (a : Account) (i : IsSettled m b a) (o : IsOrdered b a.entries) where
  ordered_as : (b2 c : Journal) (a2 d : Account) → IsOrdered c d.entries → a2 ≡ d → b2 ≡ c → IsOrdered b2 a2.entries
  ordered_as b2 c a2 d ordered account_is journal_is =
      subst (λ z. IsOrdered z a2.entries) (sym journal_is)
      (subst (λ (z : Account). IsOrdered c z.entries) (sym account_is) ordered)

  next_ordered : (e : Entry) → IsEvent m b a e → ((n : ℕ) → e.answer ≡ Undone n → greatest b.standing ≡ Some n)
      → IsOrdered (journal_after e.answer b) (account_after e.call e.answer (state_now m a) a).entries
  next_ordered e (idles g kept_stage account_is journal_is) latest =
      ordered_as _ b _ _ (record { later = o.later; earlier = o.earlier }) account_is journal_is
  next_ordered e (steps x done off account_is journal_is) latest =
      ordered_as _ b _ _ (record { later = o.later; earlier = o.earlier }) account_is journal_is
  next_ordered e (changes c g ready idle account_is journal_is) latest =
      ordered_as _ _ _ _ (change_ordered b a.entries c o) account_is journal_is
  next_ordered e (undoes n here none idle answer account_is journal_is) latest =
      ordered_as _ _ _ _ (undo_ordered b a.entries (without_change n a.entries) n
      (any_struck (altered_by_change n a.entries) n a.entries) here (latest n answer) o)
      account_is journal_is
  next_ordered e (redoes n us undone idle answer account_is journal_is) latest =
      ordered_as _ _ _ _ (redo_ordered b a.entries (with_change n a.entries) n us
      (any_restored (altered_by_change n a.entries) n a.entries) undone o)
      account_is journal_is

  -- of the changes undone since one that stands, the earlier ones count
  pub earlier_counts : (n j : ℕ) → is_in n b.standing ≡ true → is_in j (undos_in (since n a.entries)) ≡ true → j < n
      → counts j a.entries ≡ true
  earlier_counts n j here among low = by (o.earlier n j (inl here) among low)
    where
      by : IsOpen b j → counts j a.entries ≡ true
      by (inl stands) = standing_counts m j a.entries (i.level.standing j stands)
      by (inr undone) = let more = later_by b.standing b.undone n j o.later here undone in absurd (omega arith)

  -- ---- nothing stands on the latest

  module _ (n : ℕ) (latest : greatest b.standing ≡ Some n) where
    abbrev here : is_in n b.standing ≡ true
    here = greatest_among b.standing n latest

    abbrev stood : IsStanding m n a.entries
    stood = i.level.standing n here

    none_later : changes_in (since n a.entries) ≡ []
    none_later = ap changes_in (standing_since m n a.entries stood)
        ∙ no_newer m a.entries b.standing i.level n here latest

    earlier_count : (j : ℕ) → is_in j (undos_in stood.newer) ≡ true → j < n → counts j a.entries ≡ true
    earlier_count j among low =
        earlier_counts n j here (ap (λ ms. is_in j (undos_in ms)) (standing_since m n a.entries stood) ∙ among) low

    it_fits : fits stood.change i.level.state ≡ true
    it_fits = fits_alone m n a.entries b.standing i.level stood (no_newer m a.entries b.standing i.level n here latest)
        earlier_count

    free_latest : stands_on n a.entries (state_now m a) ≡ None
    free_latest =
        ap (stands_on n a.entries) (level_is m b a i)
        ∙ ap (λ p. greatest_on n p a.entries i.level.state) (standing_change m n a.entries stood)
        ∙ ap (λ f. greatest (standing_on n stood.change a.entries f)) it_fits
        ∙ ap (λ ds. greatest (numbers_of
        (filter (λ (d : Numbered). share_a_cell (effect_of_change stood.change) (effect_of_change d.1)) ds)))
        none_later

pub history_ordered : (opening : State) (h : History) → IsInUse opening → IsLegal opening h → UndoesTheLatest h
    → IsOrdered (journal_of h) (account opening h).entries
unfolding account
history_ordered opening [] used legal latest = record { later = tt; earlier = λ n j now among low. cc }
history_ordered opening (e ∷ h) used legal latest =
    let m = store_of opening in let b = journal_of h in let a = account opening h in
    let i = settled opening h used legal.1 in
    next_ordered m b a i (history_ordered opening h used legal.1 latest.1) e (is_event m b a i e legal.0) latest.0

-- ---- the answer to its undo

module _ (opening : State) (h : History) (n : ℕ) (e : Entry) (here : is_in n (journal_of h).standing ≡ true)
    (none : stands_on n (marked_entries opening h) (state_at opening h) ≡ None) where
  only_waits : (e.answer ≡ Undone n) ⊎ IsRefusedFor opening h n e → (e.answer ≡ Undone n) ⊎ HasToWait opening h n e
  only_waits (inl undone) = inl undone
  only_waits (inr (staged stage answer)) = inr (for_the_stage stage answer)
  only_waits (inr (not_standing gone answer)) = let no : true ≡ false = sym here ∙ gone in cc
  only_waits (inr (stood_on k c at greatest_is answer)) =
      let ls = marked_entries opening h in let s = state_at opening h in
      let empty : standing_on n c ls (fits c s) ≡ [] =
      none_greatest (standing_on n c ls (fits c s)) (sym (ap (λ p. greatest_on n p ls s) at) ∙ none) in
      let no : false ≡ true = sym (ap (is_in k) empty) ∙ greatest_is.among in
      cc
  only_waits (inr (waits x why answer)) = inr (for_quiet x why answer)
  only_waits (inr (lacks_memory idle there answer)) = inr (for_memory idle answer)

pub latest_is_never_blocked : LatestIsNeverBlocked
latest_is_never_blocked opening h n used legal of_latest latest =
    let m = store_of opening in let b = journal_of h in let a = account opening h in
    let none = free_latest m b a (settled opening h used legal) (history_ordered opening h used legal of_latest) n
    latest in (
      none,
      λ e more call. only_waits opening h n e (greatest_among b.standing n latest) none
          (undo_is_refused_only_for opening h n e used more call),
    )
