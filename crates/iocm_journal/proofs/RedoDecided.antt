-- Why a redo is refused, by what the journal and the machine say.
use Rattle.std.proofs.Common.{◌≡◌, ℕ, zero, suc, ◌+◌, ◌-◌, ◌≤◌, Bool, true, false, ◌&&◌, not, cond, eqb, Option, Some}
use Rattle.std.proofs.Common.{None, List, [], ◌∷◌, ◌++◌, length, map, reverse, refl, sym, ap, ◌∙◌, arith}
use Rattle.std.specs.Prelude.{nat_le}
use Rattle.std.specs.Option.{option_map, option_map_or}
use Rattle.std.proofs.lemmas.Bool.{eqb-true, eq-eqb, ne_eqb, le-leb, leb-true}
use Rattle.std.proofs.lemmas.List.{reverse-append, length-append}
use Rattle.std.specs.List.{slice_get}
use Rattle.iocm_types.specs.declared.answer.Answer.{Answer}
use Rattle.iocm_types.specs.declared.answer.Answer.TheVariants as answers
use Rattle.iocm_types.specs.declared.refused.At.TheVariants.{Nothing}
use Rattle.iocm_types.specs.declared.rule.Rule.TheVariants.{J1, J3}
use Rattle.iocm_types.specs.declared.sub_id.SubId.{SubId}
use Rattle.iocm_model.specs.Operation.State.{State}
use Rattle.iocm_model.specs.Change.Refusal.{refusal_at}
use Rattle.iocm_history.specs.Entry.{History}
use Rattle.iocm_history.specs.Journal.{Journal, is_in, is_past, journal_of}
use Rattle.iocm_history.specs.Legal.{is_last_undone, unless_not_quiet, redo_answer, IsLegal}
use Rattle.iocm_history.specs.InUse.{IsInUse}
use Rattle.iocm_journal.specs.Standing.{is_last}
use Rattle.iocm_journal.specs.declared.kept.Undone.{Undone}
use Rattle.iocm_journal.proofs.Taken.{at_end}
use Rattle.iocm_history.proofs.Facts.{undone_were_accepted}

differ : true ≡ false → ⊥
differ e = cc

-- ---- the last one undone

eqb_turned : (m n : ℕ) → eqb m n ≡ eqb n m
eqb_turned m n = by (eqb n m) refl
  where
    by : (b : Bool) → eqb n m ≡ b → eqb m n ≡ b
    by true is = eq-eqb m n (sym (eqb-true n m is))
    by false is = ne_eqb m n (λ same. differ (sym (eq-eqb n m (sym same)) ∙ is))

get_mapped : {A : Type 0} (f : A → ℕ) (us : List A) (n : ℕ) → slice_get (map f us) n ≡ option_map f (slice_get us n)
get_mapped f [] n = refl
get_mapped f (u ∷ us) zero = refl
get_mapped f (u ∷ us) (suc n) = get_mapped f us n

length_mapped : {A : Type 0} (f : A → ℕ) (us : List A) → length (map f us) ≡ length us
length_mapped f [] = refl
length_mapped f (u ∷ us) = ap suc (length_mapped f us)

read_end : (o : Option Undone) (m n : ℕ) → option_map (λ (u : Undone). u.number) o ≡ Some m
    → option_map_or (λ (u : Undone). eqb u.number n) o false ≡ eqb n m
read_end (Some u) m n is = let same : u.number ≡ m = cc in ap (λ k. eqb k n) same ∙ eqb_turned m n
read_end None m n is = cc

pub last_is : (us : List Undone) (ns : List ℕ) (n : ℕ) → map (λ (u : Undone). u.number) us ≡ reverse ns
    → is_last us n ≡ is_last_undone n ns
last_is us [] n is = none us is
  where
    none : (vs : List Undone) → map (λ (u : Undone). u.number) vs ≡ [] → is_last vs n ≡ false
    none [] e = refl
    none (v ∷ vs) e = cc
last_is us (m ∷ ms) n is =
    let whole : map (λ (u : Undone). u.number) us ≡ reverse ms ++ m ∷ [] = is ∙ reverse-append (m ∷ []) ms in
    let long : length us ≡ length (reverse ms) + 1 = sym (length_mapped (λ (u : Undone). u.number) us)
    ∙ ap length whole ∙ length-append (reverse ms) (m ∷ []) in
    let end : length us - 1 ≡ length (reverse ms) = omega (arith, long) in
    read_end (slice_get us (length us - 1)) m n
    (sym (get_mapped (λ (u : Undone). u.number) us (length us - 1)) ∙ (λ z. slice_get (whole z) (end z))
    ∙ at_end (reverse ms) m)

last_among : (n : ℕ) (ns : List ℕ) → is_last_undone n ns ≡ true → is_in n ns ≡ true
last_among n [] is = cc
last_among n (m ∷ ms) is = rw is refl

not_among : (n : ℕ) (ns : List ℕ) → is_in n ns ≡ false → is_last_undone n ns ≡ false
not_among n ns off = by (is_last_undone n ns) refl
  where
    by : (b : Bool) → is_last_undone n ns ≡ b → b ≡ false
    by true is = sym (last_among n ns is) ∙ off
    by false is = refl

-- ---- the answers

module _ (opening : State) (h : History) (used : IsInUse opening) (legal : IsLegal opening h) (n : ℕ)
    (quiet : Option SubId) where
  abbrev b : Journal
  b = journal_of h

  abbrev answer_by : Bool → Bool → Bool → Answer
  answer_by last among past =
      cond last (unless_not_quiet quiet (answers.Redone n))
      (cond among (answers.Refused (refusal_at J3 Nothing))
      (cond past (answers.Refused (refusal_at J3 Nothing)) (answers.Refused (refusal_at J1 Nothing))))

  -- what is no change that was accepted isn't undone, nor past
  undone_off : is_in n b.undone ≡ false → is_past n b ≡ false
      → answers.Refused (refusal_at J1 Nothing) ≡ redo_answer n b quiet
  undone_off off never = sym (λ z. answer_by (not_among n b.undone off z) (off z) (never z))

  pub not_accepted : (1 ≤ n → n ≤ b.count → ⊥) → answers.Refused (refusal_at J1 Nothing) ≡ redo_answer n b quiet
  not_accepted none = undone_off (off (is_in n b.undone) refl) (past (nat_le 1 n) (nat_le n b.count) refl refl)
    where
      off : (c : Bool) → is_in n b.undone ≡ c → c ≡ false
      off true is = let bounds = undone_were_accepted opening h n used legal is in absurd (none bounds.0 bounds.1)
      off false is = refl

      past : (c d : Bool) → nat_le 1 n ≡ c → nat_le n b.count ≡ d
          → (c && d && not (is_in n b.standing) && not (is_in n b.undone)) ≡ false
      past true true low high = absurd (none (leb-true 1 n low) (leb-true n b.count high))
      past true false low high = refl
      past false d low high = refl

  pub it_stands : is_in n b.standing ≡ true → answers.Refused (refusal_at J1 Nothing) ≡ redo_answer n b quiet
  it_stands here =
      undone_off (off (is_in n b.undone) refl)
      (ap (λ c. nat_le 1 n && nat_le n b.count && not c && not (is_in n b.undone)) here
      ∙ third (nat_le 1 n) (nat_le n b.count) (not (is_in n b.undone)))
    where
      off : (c : Bool) → is_in n b.undone ≡ c → c ≡ false
      off true is = let bounds = undone_were_accepted opening h n used legal is in absurd (differ (sym here ∙ bounds.2))
      off false is = refl

      third : (c d e : Bool) → (c && d && false && e) ≡ false
      third true true e = refl
      third true false e = refl
      third false d e = refl

  pub not_last : 1 ≤ n → n ≤ b.count → is_in n b.standing ≡ false → is_last_undone n b.undone ≡ false
      → answers.Refused (refusal_at J3 Nothing) ≡ redo_answer n b quiet
  not_last low high off last =
      by (is_in n b.undone) refl ∙ sym (ap (λ c. answer_by c (is_in n b.undone) (is_past n b)) last)
    where
      all : (c d e f : Bool) → c ≡ true → d ≡ true → e ≡ false → f ≡ false → (c && d && not e && not f) ≡ true
      all c d e f p q r s = rw (p, q, r, s) refl

      by : (c : Bool) → is_in n b.undone ≡ c → answers.Refused (refusal_at J3 Nothing) ≡ answer_by false c (is_past n b)
      by true is = refl
      by false is =
          sym (ap (answer_by false false)
          (all (nat_le 1 n) (nat_le n b.count) (is_in n b.standing) (is_in n b.undone) (le-leb 1 n low)
          (le-leb n b.count high) off is))

  pub it_is_last : is_last_undone n b.undone ≡ true → unless_not_quiet quiet (answers.Redone n) ≡ redo_answer n b quiet
  it_is_last last = sym (ap (λ c. answer_by c (is_in n b.undone) (is_past n b)) last)
