-- What came since the undo of a change that is still undone: once those undone since are redone in
-- turn, the entries before it are as it left them, and no change came.
use Rattle.std.proofs.Common.{◌≡◌, ◌≢◌, ℕ, ◌+◌, Bool, true, false, ◌||◌, eqb, List, [], ◌∷◌, ◌++◌, length, refl, sym}
use Rattle.std.proofs.Common.{ap, subst, ◌∙◌, arith}
use Rattle.std.proofs.lemmas.Bool.{or_parts, or_from, or_left, or_right, eq-eqb, ne_eqb}
use Rattle.iocm_history.specs.MarkedEntry.{undoing, kept, lost, MarkedEntry, is_change, is_undo, is_step_on, struck_if}
use Rattle.iocm_history.specs.MarkedEntry.{without_change, with_change, altered_by_change}
use Rattle.iocm_history.specs.Journal.{is_in}
use Rattle.iocm_history.proofs.Striking.{has, entry}
use Rattle.iocm_history.proofs.Undone.{front_restored, struck_acts}

-- entries of which no change counts, on the undo of a change, on entries that it struck
pub record IsSince (n i : ℕ) (early ls : List MarkedEntry) : Type 0 where
  pub front : List MarkedEntry
  pub is : ls ≡ front ++ entry (undoing n) kept ∷ without_change n early
  pub long : length front ≡ i
  pub no_change : (j : ℕ) → has (is_change j) front ≡ false
  pub no_undo : has (is_undo n) front ≡ false

-- the same once these changes are redone in turn
abbrev pub IsSinceWith : ℕ → ℕ → List MarkedEntry → List ℕ → List MarkedEntry → Type 0
IsSinceWith n i early [] ls = IsSince n i early ls
IsSinceWith n i early (v ∷ vs) ls = IsSinceWith n i early vs (with_change v ls)

-- one entry more, that is no change and no undo of those that are undone
pub since_more : (n i : ℕ) (early : List MarkedEntry) (vs : List ℕ) (l : MarkedEntry) (ls : List MarkedEntry)
    → ((j : ℕ) → is_change j l.act ≡ false)
    → ((v : ℕ) → is_in v vs ≡ true → is_undo v l.act ≡ false) → is_undo n l.act ≡ false → IsSinceWith n i early vs ls
    → IsSinceWith n (i + 1) early vs (l ∷ ls)
since_more n i early [] l ls other later last s = record {
  front = l ∷ s.front;
  is = ap (λ ms. l ∷ ms) s.is;
  long = let long = s.long in omega arith;
  no_change = λ j. or_from (is_change j l.act) _ (other j) (s.no_change j);
  no_undo = or_from (is_undo n l.act) _ last s.no_undo;
}
since_more n i early (v ∷ vs) l ls other later last s =
    let b : Bool = is_step_on (altered_by_change v ls) l.act in
    let here : is_undo v l.act ≡ false = later v (or_left (eqb v v) _ (eq-eqb v v refl)) in
    subst (IsSinceWith n (i + 1) early vs) (sym (front_restored v l ls (other v) here))
    (since_more n i early vs (struck_if b lost l) (with_change v ls) (λ j. ap (is_change j) (struck_acts b l) ∙ other j)
    (λ w among. ap (is_undo w) (struck_acts b l) ∙ later w (or_right (eqb w v) _ among))
    (ap (is_undo n) (struck_acts b l) ∙ last) s)

-- this change is undone, and these were undone after it
pub record IsUndoneAt (n i : ℕ) (early : List MarkedEntry) (us : List ℕ) (ls : List MarkedEntry) : Type 0 where
  pub later : List ℕ
  pub earlier : List ℕ
  pub undone : us ≡ later ++ n ∷ earlier
  pub others : is_in n later ≡ false
  pub since : IsSinceWith n i early later ls

among_first : (k : ℕ) (vs us : List ℕ) → is_in k vs ≡ true → is_in k (vs ++ us) ≡ true
among_first k [] us is = cc
among_first k (v ∷ vs) us is = by (eqb k v) is (among_first k vs us)
  where
    by : (b : Bool) → (b || is_in k vs) ≡ true → (is_in k vs ≡ true → is_in k (vs ++ us) ≡ true)
        → (b || is_in k (vs ++ us)) ≡ true
    by true is more = refl
    by false is more = more is

pub among_middle : (n : ℕ) (vs us : List ℕ) → is_in n (vs ++ n ∷ us) ≡ true
among_middle n [] us = or_left (eqb n n) _ (eq-eqb n n refl)
among_middle n (v ∷ vs) us = or_right (eqb n v) _ (among_middle n vs us)

-- an entry that is no change and no undo of one that is undone
pub undone_more : (n i : ℕ) (early : List MarkedEntry) (us : List ℕ) (l : MarkedEntry) (ls : List MarkedEntry)
    → ((j : ℕ) → is_change j l.act ≡ false)
    → ((v : ℕ) → is_in v us ≡ true → is_undo v l.act ≡ false) → IsUndoneAt n i early us ls
    → IsUndoneAt n (i + 1) early us (l ∷ ls)
undone_more n i early us l ls other none u = record {
  later = u.later;
  earlier = u.earlier;
  undone = u.undone;
  others = u.others;
  since = since_more n i early u.later l ls other
      (λ v among. none v (ap (is_in v) u.undone ∙ among_first v u.later (n ∷ u.earlier) among))
      (none n (ap (is_in n) u.undone ∙ among_middle n u.later u.earlier)) u.since;
}

not_both : (n k : ℕ) (us : List ℕ) → is_in n us ≡ true → is_in k us ≡ false → n ≡ k → ⊥
not_both n k us here none same = let there : is_in k us ≡ true = ap (λ j. is_in j us) (sym same) ∙ here in
    let no : true ≡ false = sym there ∙ none in cc

-- another change is undone: its redo gives the entries back, with its undo in front
pub undone_by_another : (n i k : ℕ) (early : List MarkedEntry) (us : List ℕ) (ls ms : List MarkedEntry)
    → with_change k ms ≡ entry (undoing k) kept ∷ ls
    → is_in k us ≡ false → IsUndoneAt n i early us ls → IsUndoneAt n (i + 1) early (k ∷ us) ms
undone_by_another n i k early us ls ms back none u =
    let more = undone_more n i early us (entry (undoing k) kept) ls (λ j. refl)
    (λ v among. ne_eqb v k (λ same. let here : is_in k us ≡ true = ap (λ j. is_in j us) (sym same)
    ∙ among in let no : true ≡ false = sym here ∙ none in cc)) u in
    let here : is_in n us ≡ true = ap (is_in n) u.undone ∙ among_middle n u.later u.earlier in
    let apart : eqb n k ≡ false = ne_eqb n k (λ same. not_both n k us here none same) in
    record {
      later = k ∷ more.later;
      earlier = more.earlier;
      undone = ap (λ vs. k ∷ vs) more.undone;
      others = or_from (eqb n k) _ apart more.others;
      since = subst (IsSinceWith n (i + 1) early more.later) (sym back) more.since;
    }

-- the last one undone is redone, and isn't this one
pub redone_another : (n i k : ℕ) (early : List MarkedEntry) (us : List ℕ) (ls : List MarkedEntry) → k ≢ n
    → IsUndoneAt n i early (k ∷ us) ls
    → IsUndoneAt n i early us (with_change k ls)
redone_another n i k early us ls other u = by u.later u.undone u.others u.since
  where
    head : (x y : ℕ) (xs ys : List ℕ) → x ∷ xs ≡ y ∷ ys → x ≡ y
    head x y xs ys e = cc

    tail : (x y : ℕ) (xs ys : List ℕ) → x ∷ xs ≡ y ∷ ys → xs ≡ ys
    tail x y xs ys e = cc

    by : (later : List ℕ) → k ∷ us ≡ later ++ n ∷ u.earlier → is_in n later ≡ false → IsSinceWith n i early later ls
        → IsUndoneAt n i early us (with_change k ls)
    by [] is others since = absurd (other (head k n us u.earlier is))
    by (v ∷ vs) is others since = record {
      later = vs;
      earlier = u.earlier;
      undone = tail k v us (vs ++ n ∷ u.earlier) is;
      others = (or_parts (eqb n v) _ others).1;
      since = subst (λ j. IsSinceWith n i early vs (with_change j ls)) (sym (head k v us (vs ++ n ∷ u.earlier) is))
          since;
    }

-- where it is the last one undone, no other is to be redone first
pub last_undone : (n i : ℕ) (early : List MarkedEntry) (us ls : _) → IsUndoneAt n i early (n ∷ us) ls
    → IsSince n i early ls
last_undone n i early us ls u = by u.later u.undone u.others u.since
  where
    head : (x y : ℕ) (xs ys : List ℕ) → x ∷ xs ≡ y ∷ ys → x ≡ y
    head x y xs ys e = cc

    by : (later : List ℕ) → n ∷ us ≡ later ++ n ∷ u.earlier → is_in n later ≡ false → IsSinceWith n i early later ls
        → IsSince n i early ls
    by [] is others since = since
    by (v ∷ vs) is others since =
        let apart = (or_parts (eqb n v) _ others).0 in
        let here : eqb n v ≡ true = eq-eqb n v (head n v us (vs ++ n ∷ u.earlier) is) in
        let no : true ≡ false = sym here ∙ apart in cc
