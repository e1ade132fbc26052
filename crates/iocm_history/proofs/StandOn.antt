-- Which changes stand on a change, told by which stand, when each was last undone, and which cells
-- they share.
use Rattle.std.proofs.Common.{◌≡◌, ℕ, ◌+◌, ◌≤◌, ◌<◌, nat_lt, length, Bool, true, false, cond, ◌&&◌, ◌||◌, eqb, List, []}
use Rattle.std.proofs.Common.{◌∷◌, filter, Option, Some, refl, sym, ap, ◌∙◌, arith, ⊎_elim}
use Rattle.std.proofs.lemmas.Bool.{eqb-true, eqb-false, or_parts, or_from, lt-ltb, ltb-true, false_from_ne_true}
use Rattle.std.proofs.lemmas.Bool.{cases_lt}
use Rattle.iocm_history.specs.Change.{Change, effect_of_change, share_a_cell}
use Rattle.iocm_history.specs.Journal.{is_in}
use Rattle.iocm_history.specs.MarkedEntry.{Act, step, change, undoing, nothing, Mark, kept, undone_with, lost}
use Rattle.iocm_history.specs.MarkedEntry.{MarkedEntry, is_change, change_or, change_at}
use Rattle.iocm_history.specs.StandsOn.{Numbered, since, change_and, changes_in, is_kept, counts, numbers_of}
use Rattle.iocm_history.proofs.Passing.{not_there}
use Rattle.iocm_history.proofs.Striking.{has, entry}
use Rattle.iocm_history.specs.Reckoning.{shares}
use Rattle.iocm_history.proofs.Numbered.{number_and, numbers_in, GoDown, within}

-- ---- a change has a new number

-- a change is among entries exactly where its number is among theirs
pub has_number : (k : ℕ) (ls : List MarkedEntry) → has (is_change k) ls ≡ is_in k (numbers_in ls)
has_number k [] = refl
has_number k (l ∷ ls) = by l.act (has_number k ls)
  where
    by : (a : Act) → has (is_change k) ls ≡ is_in k (numbers_in ls)
        → (is_change k a || has (is_change k) ls) ≡ is_in k (number_and a (numbers_in ls))
    by (step x done live) same = same
    by (change n c) same = ap (λ b. eqb k n || b) same
    by (undoing n) same = same
    by nothing same = same

-- one that has no number there doesn't count there
not_counted : (k : ℕ) (ls : List MarkedEntry) → is_in k (numbers_in ls) ≡ false
    → is_in k (numbers_of (changes_in ls)) ≡ false
not_counted k ls none = not_there k ls (has_number k ls ∙ none)

-- a number that is greater than all is not among them
greater_is_new : (k : ℕ) (ns : List ℕ) → GoDown ns → k ≡ length ns + 1 → is_in k ns ≡ false
greater_is_new k ns down first =
    false_from_ne_true _ (λ here. let low = within k ns down here in let high = low.1 in omega arith)

new_number : (k m : ℕ) (ls : List MarkedEntry) → GoDown (numbers_in ls) → k ≡ length (numbers_in ls) + 1
    → eqb m k ≡ true
    → is_in m (numbers_of (changes_in ls)) ≡ false
new_number k m ls down first same =
    not_counted m ls (ap (λ j. is_in j (numbers_in ls)) (eqb-true m k same)
    ∙ greater_is_new k (numbers_in ls) down first)

-- the numbers of what is older go down too
rest_down : (a : Act) (ns : List ℕ) → GoDown (number_and a ns) → GoDown ns
rest_down (step x done live) ns down = down
rest_down (change n c) ns down = down.1
rest_down (undoing n) ns down = down
rest_down nothing ns down = down

-- the number of a change, where an act is one
abbrev IsNew : Act → List ℕ → Type 0
IsNew (change n c) ns = n ≡ length ns + 1
IsNew _ ns = Unit {0}

is_new : (a : Act) (ns : List ℕ) → GoDown (number_and a ns) → IsNew a ns
is_new (step x done live) ns down = tt
is_new (change n c) ns down = down.0
is_new (undoing n) ns down = tt
is_new nothing ns down = tt

-- ---- whether a change counts

module _ (m : ℕ) where
  pub counts_there : (ls : List MarkedEntry) → GoDown (numbers_in ls)
      → counts m ls ≡ is_in m (numbers_of (changes_in ls))
  counts_there [] down = refl
  counts_there (l ∷ ls) down =
      by l.mark l.act (is_new l.act (numbers_in ls) down) (counts_there ls (rest_down l.act (numbers_in ls) down))
    where
      here : (b : Bool) → counts m ls ≡ is_in m (numbers_of (changes_in ls))
          → cond b true (counts m ls) ≡ (b || is_in m (numbers_of (changes_in ls)))
      here true same = refl
      here false same = same

      gone : (b : Bool) → (b ≡ true → is_in m (numbers_of (changes_in ls)) ≡ false)
          → counts m ls ≡ is_in m (numbers_of (changes_in ls))
          → cond b false (counts m ls) ≡ is_in m (numbers_of (changes_in ls))
      gone true new same = sym (new refl)
      gone false new same = same

      by : (mark : Mark) (a : Act) → IsNew a (numbers_in ls) → counts m ls ≡ is_in m (numbers_of (changes_in ls))
          → cond (is_change m a) (is_kept mark) (counts m ls) ≡ is_in m (numbers_of (change_and mark a (changes_in ls)))
      by kept (step x done live) new same = same
      by kept (change k d) new same = here (eqb m k) same
      by kept (undoing k) new same = same
      by kept nothing new same = same
      by (undone_with j) (step x done live) new same = same
      by (undone_with j) (change k d) new same =
          gone (eqb m k) (new_number k m ls (rest_down l.act (numbers_in ls) down) new) same
      by (undone_with j) (undoing k) new same = same
      by (undone_with j) nothing new same = same
      by lost (step x done live) new same = same
      by lost (change k d) new same = gone (eqb m k) (new_number k m ls (rest_down l.act (numbers_in ls) down) new) same
      by lost (undoing k) new same = same
      by lost nothing new same = same

-- ---- those that share a cell with a change

abbrev pub shares_with : Change → Numbered → Bool
shares_with c d = share_a_cell (effect_of_change c) (effect_of_change d.1)

module _ (m : ℕ) (c : Change) where
  -- of those that count, one shares a cell with a change exactly where the one of its number does
  pub sharing : (ls : List MarkedEntry) → GoDown (numbers_in ls)
      → is_in m (numbers_of (filter (shares_with c) (changes_in ls)))
      ≡ (is_in m (numbers_of (changes_in ls)) && shares c (change_at m ls))
  sharing [] down = refl
  sharing (l ∷ ls) down = by l.mark l.act (is_new l.act (numbers_in ls) down)
      (sharing ls (rest_down l.act (numbers_in ls) down))
    where
      counted : Bool
      counted = is_in m (numbers_of (changes_in ls))

      picked : Bool
      picked = is_in m (numbers_of (filter (shares_with c) (changes_in ls)))

      further : Option Change
      further = change_at m ls

      one : (b t : Bool) (k : ℕ) (d : Change) → eqb m k ≡ b → shares_with c (k, d) ≡ t → (b ≡ true → counted ≡ false)
          → picked ≡ (counted && shares c further)
          → is_in m (numbers_of (cond t ((k, d) ∷ filter (shares_with c) (changes_in ls))
          (filter (shares_with c) (changes_in ls))))
          ≡ ((b || counted) && shares c (cond b (Some d) further))
      one true true k d is test new same = ap (λ b. b || picked) is ∙ sym test
      one true false k d is test new same = same ∙ ap (λ b. b && shares c further) (new refl) ∙ sym test
      one false true k d is test new same = ap (λ b. b || picked) is ∙ same
      one false false k d is test new same = same

      gone : (b : Bool) (d : Change) → (b ≡ true → counted ≡ false) → picked ≡ (counted && shares c further)
          → picked ≡ (counted && shares c (cond b (Some d) further))
      gone true d new same = same ∙ ap (λ b. b && shares c further) (new refl)
          ∙ sym (ap (λ b. b && shares c (Some d)) (new refl))
      gone false d new same = same

      by : (mark : Mark) (a : Act) → IsNew a (numbers_in ls) → picked ≡ (counted && shares c further)
          → is_in m (numbers_of (filter (shares_with c) (change_and mark a (changes_in ls))))
          ≡ (is_in m (numbers_of (change_and mark a (changes_in ls))) && shares c (change_or m a further))
      by kept (step x done live) new same = same
      by kept (change k d) new same =
          one (eqb m k) (shares_with c (k, d)) k d refl refl
          (new_number k m ls (rest_down l.act (numbers_in ls) down) new) same
      by kept (undoing k) new same = same
      by kept nothing new same = same
      by (undone_with j) (step x done live) new same = same
      by (undone_with j) (change k d) new same =
          gone (eqb m k) d (new_number k m ls (rest_down l.act (numbers_in ls) down) new) same
      by (undone_with j) (undoing k) new same = same
      by (undone_with j) nothing new same = same
      by lost (step x done live) new same = same
      by lost (change k d) new same =
          gone (eqb m k) d (new_number k m ls (rest_down l.act (numbers_in ls) down) new) same
      by lost (undoing k) new same = same
      by lost nothing new same = same

-- ---- those since a change

-- a number of some of the changes is one of all
number_of_some : (test : Numbered → Bool) (k : ℕ) (ds : List Numbered) → is_in k (numbers_of ds) ≡ false
    → is_in k (numbers_of (filter test ds)) ≡ false
number_of_some test k [] none = none
number_of_some test k (d ∷ ds) none = let both = or_parts _ _ none in
    by (test d) both.0 (number_of_some test k ds both.1)
  where
    by : (b : Bool) → eqb k d.0 ≡ false → is_in k (numbers_of (filter test ds)) ≡ false
        → is_in k (numbers_of (cond b (d ∷ filter test ds) (filter test ds))) ≡ false
    by true other rest = or_from (eqb k d.0) _ other rest
    by false other rest = rest

module _ (n m : ℕ) (test : Numbered → Bool) where
  abbrev pub picks : List Numbered → Bool
  picks ds = is_in m (numbers_of (filter test ds))

  -- a number that is greater than all counts nowhere
  none_greater : (ls : List MarkedEntry) → GoDown (numbers_in ls) → length (numbers_in ls) < m
      → picks (changes_in ls) ≡ false
  none_greater ls down more =
      number_of_some test m (changes_in ls)
      (not_counted m ls (false_from_ne_true _
      (λ here. let low = within m (numbers_in ls) down here in let high = low.1 in omega arith)))

  nothing_more : (ls : List MarkedEntry) → GoDown (numbers_in ls) → n ≡ length (numbers_in ls)
      → false ≡ (nat_lt n m && picks (changes_in ls))
  nothing_more ls down top = by (nat_lt n m) refl
    where
      by : (b : Bool) → nat_lt n m ≡ b → false ≡ (b && picks (changes_in ls))
      by true is = sym (none_greater ls down (let more = ltb-true n m is in omega arith))
      by false is = refl

  grow : (mark : Mark) (k : ℕ) (d : Change) (ds es : List Numbered) → n < k → picks ds ≡ (nat_lt n m && picks es)
      → picks (change_and mark (change k d) ds) ≡ (nat_lt n m && picks (change_and mark (change k d) es))
  grow (undone_with j) k d ds es low same = same
  grow lost k d ds es low same = same
  grow kept k d ds es low same = by (test (k, d)) (eqb m k) refl
    where
      by : (t b : Bool) → eqb m k ≡ b
          → is_in m (numbers_of (cond t ((k, d) ∷ filter test ds) (filter test ds)))
          ≡ (nat_lt n m && is_in m (numbers_of (cond t ((k, d) ∷ filter test es) (filter test es))))
      by true true is =
          let later : nat_lt n m ≡ true = lt-ltb n m (let same = eqb-true m k is in omega arith) in
          ap (λ b. b || picks ds) is ∙ sym ((λ i. later i && (is i || picks es)))
      by true false is = ap (λ b. b || picks ds) is ∙ same ∙ ap (λ b. nat_lt n m && (b || picks es)) (sym is)
      by false b is = same

  -- those that count since a change are later than it
  pub since_counts : (ls : List MarkedEntry) → GoDown (numbers_in ls) → n ≤ length (numbers_in ls) → 1 ≤ n
      → picks (changes_in (since n ls)) ≡ (nat_lt n m && picks (changes_in ls))
  since_counts [] down high low = absurd (omega arith)
  since_counts (l ∷ ls) down high low =
      by l.mark l.act down high (λ less. since_counts ls (rest_down l.act (numbers_in ls) down) less low)
    where
      at_change : (b : Bool) (mark : Mark) (k : ℕ) (d : Change) → eqb n k ≡ b → GoDown (k ∷ numbers_in ls)
          → n ≤ length (k ∷ numbers_in ls)
          → (n ≤ length (numbers_in ls) → picks (changes_in (since n ls)) ≡ (nat_lt n m && picks (changes_in ls)))
          → picks (changes_in (cond b [] (entry (change k d) mark ∷ since n ls)))
          ≡ (nat_lt n m && picks (changes_in (entry (change k d) mark ∷ ls)))
      at_change true mark k d is down high more =
          nothing_more (entry (change k d) mark ∷ ls) down
          (let same = eqb-true n k is in let first = down.0 in omega arith)
      at_change false mark k d is down high more =
          let first = down.0 in
          let other = eqb-false n k is in
          let less : n ≤ length (numbers_in ls) =
          ⊎_elim (λ more. absurd (other (omega arith))) (λ low. low) (cases_lt (length (numbers_in ls)) n) in
          grow mark k d (changes_in (since n ls)) (changes_in ls) (omega arith) (more less)

      by : (mark : Mark) (a : Act) → GoDown (number_and a (numbers_in ls)) → n ≤ length (number_and a (numbers_in ls))
          → (n ≤ length (numbers_in ls) → picks (changes_in (since n ls)) ≡ (nat_lt n m && picks (changes_in ls)))
          → picks (changes_in (cond (is_change n a) [] (entry a mark ∷ since n ls)))
          ≡ (nat_lt n m && picks (change_and mark a (changes_in ls)))
      by mark (change k d) down high more = at_change (eqb n k) mark k d refl down high more
      by kept (step x done live) down high more = more high
      by kept (undoing k) down high more = more high
      by kept nothing down high more = more high
      by (undone_with j) (step x done live) down high more = more high
      by (undone_with j) (undoing k) down high more = more high
      by (undone_with j) nothing down high more = more high
      by lost (step x done live) down high more = more high
      by lost (undoing k) down high more = more high
      by lost nothing down high more = more high
