-- The first breach, along the rules and along the records.
use Rattle.std.proofs.Common.{◌≡◌, Bool, true, false, cond, Option, None, Some, List, [], ◌∷◌, ◌++◌, refl, sym, ap, ◌∙◌}
use Rattle.std.specs.List.{list_any}
use Rattle.iocm_model.specs.Machine.Record.{Rec, key_of}
use Rattle.iocm_model.specs.Rules.FirstBreach.{Breach, first_record, first_breach_of, breach_or}
use Rattle.iocm_model.specs.Laws.Breaches.{Law, AreKept, IsFirst, AnswersTheFirst, AnswersNone}

-- the first record that is so, with those in front of it
record IsFirstRecord (is_so : Rec → Bool) (records : List Rec) (r : Rec) : Type 0 where
  front : List Rec
  back : List Rec
  split : records ≡ front ++ r ∷ back
  so : is_so r ≡ true
  none_before : list_any is_so front ≡ false

same_some : {A : Type 0} (x y : A) → Some x ≡ Some y → x ≡ y
same_some x y e = cc

found_at : (b : Bool) (is_so : Rec → Bool) (x : Rec) (xs : List Rec) (r : Rec) → is_so x ≡ b
    → cond b (Some x) (first_record is_so xs) ≡ Some r → (first_record is_so xs ≡ Some r → IsFirstRecord is_so xs r)
    → IsFirstRecord is_so (x ∷ xs) r
found_at true is_so x xs r is e later = let same = same_some x r e in record {
  front = [];
  back = xs;
  split = ap (λ y. y ∷ xs) same;
  so = ap is_so (sym same) ∙ is;
  none_before = refl;
}
found_at false is_so x xs r is e later = let rest = later e in record {
  front = x ∷ rest.front;
  back = rest.back;
  split = ap (λ ys. x ∷ ys) rest.split;
  so = rest.so;
  none_before = rw is rest.none_before;
}

first_found : (is_so : Rec → Bool) (records : List Rec) (r : Rec) → first_record is_so records ≡ Some r
    → IsFirstRecord is_so records r
unfolding first_record
first_found is_so [] r e = cc
first_found is_so (x ∷ xs) r e = found_at (is_so x) is_so x xs r refl e (first_found is_so xs r)

none_at : (b : Bool) (is_so : Rec → Bool) (x : Rec) (xs : List Rec) → is_so x ≡ b
    → cond b (Some x) (first_record is_so xs) ≡ None
    → (first_record is_so xs ≡ None → list_any is_so xs ≡ false) → list_any is_so (x ∷ xs) ≡ false
none_at true is_so x xs is e later = cc
none_at false is_so x xs is e later = rw is (later e)

none_found : (is_so : Rec → Bool) (records : List Rec) → first_record is_so records ≡ None
    → list_any is_so records ≡ false
unfolding first_record
none_found is_so [] e = refl
none_found is_so (x ∷ xs) e = none_at (is_so x) is_so x xs refl e (none_found is_so xs)

kept_at : (b : Bool) (is_so : Rec → Bool) (x : Rec) (xs : List Rec) → is_so x ≡ b → list_any is_so (x ∷ xs) ≡ false
    → (list_any is_so xs ≡ false → first_record is_so xs ≡ None) → cond b (Some x) (first_record is_so xs) ≡ None
kept_at true is_so x xs is e later = let bad : true ≡ false = rw is at e in cc
kept_at false is_so x xs is e later = later (rw is at e)

none_there : (is_so : Rec → Bool) (records : List Rec) → list_any is_so records ≡ false
    → first_record is_so records ≡ None
unfolding first_record
none_there is_so [] e = refl
none_there is_so (x ∷ xs) e = kept_at (is_so x) is_so x xs refl e (none_there is_so xs)

-- the breach that a rule answers, or that a further rule does
answered_at : (o : Option Rec) (law : Law) (laws : List Law) (records : List Rec) (b : Breach)
    → first_record law.1 records ≡ o
    → breach_or law.0 o (first_breach_of laws records) ≡ Some b
    → (first_breach_of laws records ≡ Some b → IsFirst laws records b) → IsFirst (law ∷ laws) records b
answered_at (Some r) law laws records b is e later =
    let same = same_some (record { rule = law.0; key = key_of r }) b e in
    let found = first_found law.1 records r is in record {
      before = [];
      law = law;
      after = laws;
      front = found.front;
      culprit = r;
      back = found.back;
      of_laws = refl;
      of_records = found.split;
      rule = ap (λ (x : Breach). x.rule) (sym same);
      key = ap (λ (x : Breach). x.key) (sym same);
      broken = found.so;
      kept_before = tt;
      kept_in_front = found.none_before;
    }
answered_at None law laws records b is e later = let rest = later e in record {
  before = law ∷ rest.before;
  law = rest.law;
  after = rest.after;
  front = rest.front;
  culprit = rest.culprit;
  back = rest.back;
  of_laws = ap (λ xs. law ∷ xs) rest.of_laws;
  of_records = rest.of_records;
  rule = rest.rule;
  key = rest.key;
  broken = rest.broken;
  kept_before = (none_found law.1 records is, rest.kept_before);
  kept_in_front = rest.kept_in_front;
}

pub answered : (laws : List Law) (records : List Rec) (b : Breach) → first_breach_of laws records ≡ Some b
    → IsFirst laws records b
unfolding first_breach_of
answered [] records b e = cc
answered (law ∷ laws) records b e =
    answered_at (first_record law.1 records) law laws records b refl e (answered laws records b)

silent_at : (o : Option Rec) (law : Law) (laws : List Law) (records : List Rec) → first_record law.1 records ≡ o
    → breach_or law.0 o (first_breach_of laws records) ≡ None
    → (first_breach_of laws records ≡ None → AreKept laws records) → AreKept (law ∷ laws) records
silent_at (Some r) law laws records is e later = cc
silent_at None law laws records is e later = (none_found law.1 records is, later e)

pub silent : (laws : List Law) (records : List Rec) → first_breach_of laws records ≡ None → AreKept laws records
unfolding first_breach_of
silent [] records e = tt
silent (law ∷ laws) records e = silent_at (first_record law.1 records) law laws records refl e (silent laws records)

pub kept : (laws : List Law) (records : List Rec) → AreKept laws records → first_breach_of laws records ≡ None
unfolding first_breach_of
kept [] records k = refl
kept (law ∷ laws) records k = rw (none_there law.1 records k.0) (kept laws records k.1)

pub answers_the_first : AnswersTheFirst
answers_the_first c n b e = answered _ _ b e

pub answers_none : AnswersNone
answers_none c n = (silent _ _, kept _ _)
