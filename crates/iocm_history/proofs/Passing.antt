-- What walks past entries that aren't the change that they look for: striking, and what is read of
-- the entries before and since a change.
use Rattle.std.proofs.Common.{◌≡◌, ◌≢◌, ℕ, Bool, true, false, cond, eqb, ◌||◌, List, [], ◌∷◌, ◌++◌, Option, Some}
use Rattle.std.proofs.Common.{is_some, refl, sym, ap, ◌∙◌}
use Rattle.std.proofs.lemmas.Bool.{or_parts, or_from, or_right, eq-eqb, ne_eqb}
use Rattle.iocm_types.specs.declared.sub_id.SubId.{SubId}
use Rattle.iocm_history.specs.Change.{Change}
use Rattle.iocm_history.specs.MarkedEntry.{Act, step, change, undoing, nothing, Mark, kept, undone_with, lost}
use Rattle.iocm_history.specs.MarkedEntry.{MarkedEntry, is_change, is_step_on, change_or, change_at, struck_mark}
use Rattle.iocm_history.specs.MarkedEntry.{struck, struck_if, strike}
use Rattle.iocm_history.specs.StandsOn.{Numbered, since, change_and, changes_in, undo_and, undos_in, is_kept, counts}
use Rattle.iocm_history.specs.StandsOn.{numbers_of}
use Rattle.iocm_history.specs.Journal.{is_in}
use Rattle.iocm_history.proofs.Remarked.{AreRemarked, AnyMarks, any_struck}
use Rattle.iocm_history.proofs.Striking.{has, made, entry}

-- ---- acts that stay

-- other marks are no other acts
pub has_then : (R : Mark → Mark → Type 0) (test : Act → Bool) (ls ms : List MarkedEntry) → AreRemarked R ls ms
    → has test ms ≡ has test ls
unfolding AreRemarked
has_then R test [] [] r = refl
has_then R test [] (m ∷ ms) r = absurd r
has_then R test (l ∷ ls) [] r = absurd r
has_then R test (l ∷ ls) (m ∷ ms) r = λ j. test (r.0 j) || has_then R test ls ms r.2 j

pub undos_then : (R : Mark → Mark → Type 0) (ls ms : List MarkedEntry) → AreRemarked R ls ms → undos_in ms ≡ undos_in ls
unfolding AreRemarked
undos_then R [] [] r = refl
undos_then R [] (m ∷ ms) r = absurd r
undos_then R (l ∷ ls) [] r = absurd r
undos_then R (l ∷ ls) (m ∷ ms) r = λ j. undo_and (r.0 j) (undos_then R ls ms r.2 j)

pub has_struck : (test : Act → Bool) (xs : List SubId) (n : ℕ) (ls : List MarkedEntry)
    → has test (strike xs n ls) ≡ has test ls
has_struck test xs n ls = has_then AnyMarks test ls (strike xs n ls) (any_struck xs n ls)

pub undos_struck : (xs : List SubId) (n : ℕ) (ls : List MarkedEntry) → undos_in (strike xs n ls) ≡ undos_in ls
undos_struck xs n ls = undos_then AnyMarks ls (strike xs n ls) (any_struck xs n ls)

-- ---- parts

pub has_append : (test : Act → Bool) (ls ms : List MarkedEntry) → has test (ls ++ ms) ≡ (has test ls || has test ms)
has_append test [] ms = refl
has_append test (l ∷ ls) ms = ap (λ b. test l.act || b) (has_append test ls ms) ∙ by (test l.act)
  where
    by : (b : Bool) → (b || (has test ls || has test ms)) ≡ (b || has test ls || has test ms)
    by true = refl
    by false = refl

pub changes_append : (ls ms : List MarkedEntry) → changes_in (ls ++ ms) ≡ changes_in ls ++ changes_in ms
changes_append [] ms = refl
changes_append (l ∷ ls) ms = ap (change_and l.mark l.act) (changes_append ls ms) ∙ by l.mark l.act
  where
    by : (mark : Mark) (a : Act)
        → change_and mark a (changes_in ls ++ changes_in ms) ≡ change_and mark a (changes_in ls) ++ changes_in ms
    by kept (step x done l) = refl
    by kept (change n c) = refl
    by kept (undoing n) = refl
    by kept nothing = refl
    by (undone_with k) (step x done l) = refl
    by (undone_with k) (change n c) = refl
    by (undone_with k) (undoing n) = refl
    by (undone_with k) nothing = refl
    by lost (step x done l) = refl
    by lost (change n c) = refl
    by lost (undoing n) = refl
    by lost nothing = refl

-- ---- past other entries

cond_false : {A : Type 0} (b : Bool) (x y : A) → b ≡ false → cond b x y ≡ y
cond_false true x y is = cc
cond_false false x y is = refl

module _ (n : ℕ) (rest : List MarkedEntry) where
  pub since_past : (ls : List MarkedEntry) → has (is_change n) ls ≡ false → since n (ls ++ rest) ≡ ls ++ since n rest
  since_past [] none = refl
  since_past (l ∷ ls) none =
      let both = or_parts _ _ none in
      cond_false (is_change n l.act) [] (l ∷ since n (ls ++ rest)) both.0 ∙ ap (λ ms. l ∷ ms) (since_past ls both.1)

  pub counts_past : (ls : List MarkedEntry) → has (is_change n) ls ≡ false → counts n (ls ++ rest) ≡ counts n rest
  counts_past [] none = refl
  counts_past (l ∷ ls) none =
      let both = or_parts _ _ none in
      cond_false (is_change n l.act) (is_kept l.mark) (counts n (ls ++ rest)) both.0 ∙ counts_past ls both.1

  -- another act is passed
  pub or_past : (a : Act) (further : Option Change) → is_change n a ≡ false → change_or n a further ≡ further
  or_past (step x done l) further is = refl
  or_past (change k c) further is = cond_false (eqb n k) (Some c) further is
  or_past (undoing k) further is = refl
  or_past nothing further is = refl

  pub change_past : (ls : List MarkedEntry) → has (is_change n) ls ≡ false → change_at n (ls ++ rest) ≡ change_at n rest
  change_past [] none = refl
  change_past (l ∷ ls) none =
      let both = or_parts _ _ none in or_past l.act (change_at n (ls ++ rest)) both.0 ∙ change_past ls both.1

-- a change that is found is there
pub change_there : (n : ℕ) (ls : List MarkedEntry) → is_some (change_at n ls) ≡ true → has (is_change n) ls ≡ true
change_there n [] is = is
change_there n (l ∷ ls) is = by l.act (change_at n ls) (has (is_change n) ls) is (change_there n ls)
  where
    by_number : (b : Bool) (c : Change) (further : Option Change) (rest : Bool)
        → is_some (cond b (Some c) further) ≡ true
        → (is_some further ≡ true → rest ≡ true) → (b || rest) ≡ true
    by_number true c further rest is more = refl
    by_number false c further rest is more = more is

    by : (a : Act) (further : Option Change) (rest : Bool) → is_some (change_or n a further) ≡ true
        → (is_some further ≡ true → rest ≡ true)
        → (is_change n a || rest) ≡ true
    by (step x done live) further rest is more = more is
    by (change k c) further rest is more = by_number (eqb n k) c further rest is more
    by (undoing k) further rest is more = more is
    by nothing further rest is more = more is

-- at the change itself
pub since_here : (n : ℕ) (c : Change) (older : List MarkedEntry) → since n (made n c ∷ older) ≡ []
since_here n c older = let same : eqb n n ≡ true = eq-eqb n n refl in rw same refl

pub counts_here : (n : ℕ) (c : Change) (older : List MarkedEntry) → counts n (made n c ∷ older) ≡ true
counts_here n c older = let same : eqb n n ≡ true = eq-eqb n n refl in rw same refl

pub change_here : (n : ℕ) (c : Change) (older : List MarkedEntry) → change_at n (made n c ∷ older) ≡ Some c
change_here n c older = let same : eqb n n ≡ true = eq-eqb n n refl in rw same refl

-- ---- striking

module _ (xs : List SubId) (n : ℕ) where
  -- striking walks on over the rest where the change isn't among the first entries
  pub strike_append : (ls rest : List MarkedEntry)
      → strike xs n (ls ++ rest) ≡ strike xs n ls ++ cond (has (is_change n) ls) rest (strike xs n rest)
  unfolding strike
  strike_append [] rest = refl
  strike_append (l ∷ ls) rest = by (is_change n l.act) (strike_append ls rest)
    where
      by : (b : Bool) → strike xs n (ls ++ rest) ≡ strike xs n ls ++ cond (has (is_change n) ls) rest (strike xs n rest)
          → cond b (struck (undone_with n) l ∷ (ls ++ rest))
          (struck_if (is_step_on xs l.act) (undone_with n) l ∷ strike xs n (ls ++ rest))
          ≡ cond b (struck (undone_with n) l ∷ ls) (struck_if (is_step_on xs l.act) (undone_with n) l ∷ strike xs n ls)
          ++ cond (b || has (is_change n) ls) rest (strike xs n rest)
      by true more = refl
      by false more = ap (λ ms. struck_if (is_step_on xs l.act) (undone_with n) l ∷ ms) more

  -- it passes another change
  pub strike_other : (k : ℕ) (c : Change) (older : List MarkedEntry) → n ≢ k
      → strike xs n (made k c ∷ older) ≡ made k c ∷ strike xs n older
  unfolding strike
  strike_other k c older other =
      let apart : eqb n k ≡ false = ne_eqb n k other in
      cond_false (eqb n k) (struck (undone_with n) (made k c) ∷ older) (made k c ∷ strike xs n older) apart

  -- and strikes the change itself
  pub strike_here : (c : Change) (older : List MarkedEntry)
      → strike xs n (made n c ∷ older) ≡ entry (change n c) (undone_with n) ∷ older
  unfolding strike
  strike_here c older = let same : eqb n n ≡ true = eq-eqb n n refl in rw same refl

kept_struck : (by m : Mark) → is_kept by ≡ false → is_kept (struck_mark by m) ≡ true → is_kept m ≡ true
kept_struck by kept none is = refl
kept_struck by (undone_with k) none is = is
kept_struck by lost none is = is

not_kept : (n : ℕ) (m : Mark) → is_kept (struck_mark (undone_with n) m) ≡ false
not_kept n kept = refl
not_kept n (undone_with k) = refl
not_kept n lost = refl

struck_act : (b : Bool) (by : Mark) (l : MarkedEntry) → (struck_if b by l).act ≡ l.act
struck_act true by l = refl
struck_act false by l = refl

kept_if : (b : Bool) (n : ℕ) (l : MarkedEntry) → is_kept (struck_if b (undone_with n) l).mark ≡ true
    → is_kept l.mark ≡ true
kept_if true n l is = kept_struck (undone_with n) l.mark refl is
kept_if false n l is = is

cond_map : (b : Bool) (x y z w : Bool) → (x ≡ true → z ≡ true) → (y ≡ true → w ≡ true) → cond b x y ≡ true
    → cond b z w ≡ true
cond_map true x y z w f g h = f h
cond_map false x y z w f g h = g h

module _ (xs : List SubId) (n : ℕ) where
  -- what counts after striking counted before it
  pub counts_struck : (j : ℕ) (ls : List MarkedEntry) → counts j (strike xs n ls) ≡ true → counts j ls ≡ true
  unfolding strike
  counts_struck j [] is = is
  counts_struck j (l ∷ ls) is = by (is_change n l.act) is (counts_struck j ls)
    where
      by : (b : Bool) → counts j
          (cond b (struck (undone_with n) l ∷ ls) (struck_if (is_step_on xs l.act) (undone_with n) l ∷ strike xs n ls))
          ≡ true
          → (counts j (strike xs n ls) ≡ true → counts j ls ≡ true) → counts j (l ∷ ls) ≡ true
      by true is more =
          cond_map (is_change j l.act) (is_kept (struck_mark (undone_with n) l.mark)) (counts j ls) (is_kept l.mark)
          (counts j ls)
          (kept_struck (undone_with n) l.mark refl) (λ h. h) is
      by false is more =
          cond_map (is_change j l.act) (is_kept (struck_if (is_step_on xs l.act) (undone_with n) l).mark)
          (counts j (strike xs n ls)) (is_kept l.mark) (counts j ls)
          (kept_if (is_step_on xs l.act) n l) more
          (sym (ap (λ a. cond (is_change j a) (is_kept (struck_if (is_step_on xs l.act) (undone_with n) l).mark)
          (counts j (strike xs n ls)))
          (struck_act (is_step_on xs l.act) (undone_with n) l)) ∙ is)

  -- the change itself doesn't count after its undo
  pub not_counted : (ls : List MarkedEntry) → counts n (strike xs n ls) ≡ false
  unfolding strike
  not_counted [] = refl
  not_counted (l ∷ ls) = by (is_change n l.act) refl (not_counted ls)
    where
      by : (b : Bool) → is_change n l.act ≡ b → counts n (strike xs n ls) ≡ false
          → counts n (cond b (struck (undone_with n) l ∷ ls)
          (struck_if (is_step_on xs l.act) (undone_with n) l ∷ strike xs n ls)) ≡ false
      by true is more = ap (λ b. cond b (is_kept (struck_mark (undone_with n) l.mark)) (counts n ls)) is
          ∙ not_kept n l.mark
      by false is more =
          ap (λ a. cond (is_change n a) (is_kept (struck_if (is_step_on xs l.act) (undone_with n) l).mark)
          (counts n (strike xs n ls)))
          (struck_act (is_step_on xs l.act) (undone_with n) l)
          ∙ cond_false (is_change n l.act) (is_kept (struck_if (is_step_on xs l.act) (undone_with n) l).mark)
          (counts n (strike xs n ls)) is ∙ more

-- ---- the changes that count

-- a number of one list or of the other
pub number_append : (k : ℕ) (ds es : List Numbered)
    → is_in k (numbers_of (ds ++ es)) ≡ (is_in k (numbers_of ds) || is_in k (numbers_of es))
number_append k [] es = refl
number_append k (d ∷ ds) es = ap (λ b. eqb k d.0 || b) (number_append k ds es) ∙ by (eqb k d.0)
  where
    by : (b : Bool) → (b || (is_in k (numbers_of ds) || is_in k (numbers_of es)))
        ≡ (b || is_in k (numbers_of ds) || is_in k (numbers_of es))
    by true = refl
    by false = refl

-- a change that isn't there doesn't count
pub not_there : (k : ℕ) (ls : List MarkedEntry) → has (is_change k) ls ≡ false
    → is_in k (numbers_of (changes_in ls)) ≡ false
not_there k [] none = refl
not_there k (l ∷ ls) none = let both = or_parts _ _ none in by l.mark l.act both.0 (not_there k ls both.1)
  where
    by : (mark : Mark) (a : Act) → is_change k a ≡ false → is_in k (numbers_of (changes_in ls)) ≡ false
        → is_in k (numbers_of (change_and mark a (changes_in ls))) ≡ false
    by kept (step x done live) other rest = rest
    by kept (change n c) other rest = or_from (eqb k n) _ other rest
    by kept (undoing n) other rest = rest
    by kept nothing other rest = rest
    by (undone_with j) a other rest = rest
    by lost a other rest = rest

-- a change that was struck out doesn't count
pub struck_not_counted : (xs : List SubId) (n : ℕ) (c : Change) (newer older : List MarkedEntry)
    → has (is_change n) newer ≡ false → has (is_change n) older ≡ false
    → is_in n (numbers_of (changes_in (strike xs n (newer ++ made n c ∷ older)))) ≡ false
struck_not_counted xs n c newer older others first =
    ap (λ ms. is_in n (numbers_of (changes_in ms)))
    (strike_append xs n newer (made n c ∷ older)
    ∙ ap (λ b. strike xs n newer ++ cond b (made n c ∷ older) (strike xs n (made n c ∷ older))) others
    ∙ ap (λ ms. strike xs n newer ++ ms) (strike_here xs n c older))
    ∙ ap (λ ds. is_in n (numbers_of ds))
    (changes_append (strike xs n newer) (entry (change n c) (undone_with n) ∷ older))
    ∙ number_append n (changes_in (strike xs n newer)) (changes_in older)
    ∙ or_from _ _ (not_there n (strike xs n newer) (has_struck (is_change n) xs n newer ∙ others))
    (not_there n older first)

also_counts : (k : ℕ) (mark : Mark) (a : Act) (es : List Numbered) → is_in k (numbers_of es) ≡ true
    → is_in k (numbers_of (change_and mark a es)) ≡ true
also_counts k kept (step x done l) es is = is
also_counts k kept (change n c) es is = or_right (eqb k n) _ is
also_counts k kept (undoing n) es is = is
also_counts k kept nothing es is = is
also_counts k (undone_with j) a es is = is
also_counts k lost a es is = is

more_numbers : (k : ℕ) (mark other : Mark) (a : Act) (ds es : List Numbered)
    → (is_kept mark ≡ true → is_kept other ≡ true)
    → (is_in k (numbers_of ds) ≡ true → is_in k (numbers_of es) ≡ true)
    → is_in k (numbers_of (change_and mark a ds)) ≡ true → is_in k (numbers_of (change_and other a es)) ≡ true
more_numbers k kept kept (step x done l) ds es keeps more is = more is
more_numbers k kept kept (change n c) ds es keeps more is = by (eqb k n) is
  where
    by : (b : Bool) → (b || is_in k (numbers_of ds)) ≡ true → (b || is_in k (numbers_of es)) ≡ true
    by true is = refl
    by false is = more is
more_numbers k kept kept (undoing n) ds es keeps more is = more is
more_numbers k kept kept nothing ds es keeps more is = more is
more_numbers k kept (undone_with j) a ds es keeps more is = let no : false ≡ true = keeps refl in cc
more_numbers k kept lost a ds es keeps more is = let no : false ≡ true = keeps refl in cc
more_numbers k (undone_with i) other a ds es keeps more is = also_counts k other a es (more is)
more_numbers k lost other a ds es keeps more is = also_counts k other a es (more is)

-- what counts after striking counted before it
pub changes_struck : (xs : List SubId) (n k : ℕ) (ls : List MarkedEntry)
    → is_in k (numbers_of (changes_in (strike xs n ls))) ≡ true
    → is_in k (numbers_of (changes_in ls)) ≡ true
unfolding strike
changes_struck xs n k [] is = is
changes_struck xs n k (l ∷ ls) is = by (is_change n l.act) is (changes_struck xs n k ls)
  where
    by : (b : Bool) → is_in k
        (numbers_of (changes_in (cond b (struck (undone_with n) l ∷ ls)
        (struck_if (is_step_on xs l.act) (undone_with n) l ∷ strike xs n ls)))) ≡ true
        → (is_in k (numbers_of (changes_in (strike xs n ls))) ≡ true → is_in k (numbers_of (changes_in ls)) ≡ true)
        → is_in k (numbers_of (changes_in (l ∷ ls))) ≡ true
    by true is more =
        more_numbers k (struck_mark (undone_with n) l.mark) l.mark l.act (changes_in ls) (changes_in ls)
        (kept_struck (undone_with n) l.mark refl) (λ h. h) is
    by false is more =
        more_numbers k (struck_if (is_step_on xs l.act) (undone_with n) l).mark l.mark l.act
        (changes_in (strike xs n ls)) (changes_in ls)
        (kept_if (is_step_on xs l.act) n l) more
        (sym (ap (λ a. is_in k (numbers_of
        (change_and (struck_if (is_step_on xs l.act) (undone_with n) l).mark a (changes_in (strike xs n ls)))))
        (struck_act (is_step_on xs l.act) (undone_with n) l)) ∙ is)
