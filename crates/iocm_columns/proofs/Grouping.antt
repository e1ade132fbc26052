-- The cards of one statement, one by one, and the first fault between cards.
use Rattle.std.proofs.Common.{◌≡◌, ℕ, ◌+◌, ◌<◌, ◌≤◌, Bool, true, false, None, Some, List, [], ◌∷◌, ◌++◌, length, get_or}
use Rattle.std.proofs.Common.{take, drop, map, refl, sym, ap, ◌∙◌, arith}
use Rattle.std.specs.List.{list_all}
use Rattle.std.proofs.lemmas.Bool.{and_parts}
use Rattle.std.proofs.lemmas.List.{take_more, append_assoc, append-nil, drop_all, drop-append-le, length-take}
use Rattle.std.proofs.lemmas.List.{take-append-drop}
use Rattle.std.proofs.lemmas.List.Folds.{list_all-append}
use Rattle.std.proofs.Math.ListN.{drop_of_length-le}
use Rattle.iocm_types.specs.declared.fault.Fault.{Fault}
use Rattle.iocm_types.specs.declared.rule.Rule.TheVariants.{L4}
use Rattle.iocm_types.specs.Fault.{at}
use Rattle.iocm_types.proofs.Lists.{drop-item}
use Rattle.iocm_columns.specs.declared.joined.Joined.{Joined}
use Rattle.iocm_columns.specs.declared.statement_card.StatementCard.{StatementCard}
use Rattle.iocm_columns.specs.Columns.{is_continued}
use Rattle.iocm_columns.specs.StatementCards.{continuation_fault, first_continuation_fault}
use Rattle.iocm_columns.specs.Statements.{groups, onto_group, statement_of}

-- a card that is not continued is a statement
pub group_alone : (r : StatementCard) (rs : List StatementCard) → is_continued r.columns ≡ false
    → groups (r ∷ rs) ≡ (r ∷ []) ∷ groups rs
unfolding groups
group_alone r rs is = rw is refl

-- a continued card goes before the group of the next one
pub group_begins : (r : StatementCard) (rs : List StatementCard) → is_continued r.columns ≡ true
    → groups (r ∷ rs) ≡ onto_group (r ∷ []) (groups rs)
unfolding groups
group_begins r rs is = rw is refl

-- each of some cards is continued
abbrev pub AreContinued : List StatementCard → Type 0
AreContinued rs = list_all (λ (r : StatementCard). is_continued r.columns) rs ≡ true

group_of : (rs : List StatementCard) (c : StatementCard) (cs : List StatementCard) → AreContinued rs
    → is_continued c.columns ≡ false
    → groups (rs ++ c ∷ cs) ≡ (rs ++ c ∷ []) ∷ groups cs
group_of [] c cs are is = group_alone c cs is
group_of (r ∷ rs) c cs are is =
    let both = and_parts (is_continued r.columns) (list_all (λ (r : StatementCard). is_continued r.columns) rs) are in
    group_begins r (rs ++ c ∷ cs) both.0 ∙ ap (onto_group (r ∷ [])) (group_of rs c cs both.1 is)

one_more : (rs : List StatementCard) (first i : ℕ) (c : StatementCard) → first ≤ i → i < length rs → c ≡ get_or rs i c
    → drop first (take (i + 1) rs) ≡ drop first (take i rs) ++ c ∷ []
one_more rs first i c begun within item =
    ap (drop first) (take_more rs i c within ∙ ap (λ x. take i rs ++ x ∷ []) (sym item))
    ∙ drop-append-le first (take i rs) (c ∷ []) (omega (arith, length-take i rs, begun, within))

-- a continued card goes to those of its statement
pub statement_goes_on : (rs : List StatementCard) (first i : ℕ) (c : StatementCard) → first ≤ i → i < length rs
    → c ≡ get_or rs i c → AreContinued (drop first (take i rs)) → is_continued c.columns ≡ true
    → AreContinued (drop first (take (i + 1) rs))
statement_goes_on rs first i c begun within item are is =
    let test : StatementCard → Bool = λ r. is_continued r.columns in
    ap (list_all test) (one_more rs first i c begun within item)
    ∙ list_all-append test (drop first (take i rs)) (c ∷ []) ∙ rw (are, is) refl

-- a card follows it
pub card_follows : (c : StatementCard) (more : List StatementCard) → is_continued c.columns ≡ true
    → continuation_fault c more ≡ None → 0 < length more
card_follows c [] is none = absurd (let same : Some (at L4 c.line) ≡ None = rw is at none in cc)
card_follows c (d ∷ more) is none = omega arith

-- a card that isn't continued ends its statement
pub statement_ends : (done : List Joined) (rs : List StatementCard) (first i : ℕ) (c : StatementCard) (joined : Joined)
    → first ≤ i → i < length rs → c ≡ get_or rs i c → AreContinued (drop first (take i rs))
    → is_continued c.columns ≡ false → joined ≡ statement_of (drop first (take (i + 1) rs))
    → done ++ map statement_of (groups (drop first rs))
    ≡ (done ++ joined ∷ []) ++ map statement_of (groups (drop (i + 1) rs))
statement_ends done rs first i c joined begun within item are is made =
    let cards = drop first (take i rs) in
    let rest = drop (i + 1) rs in
    let whole : drop first rs ≡ cards ++ c ∷ rest =
    ap (drop first) (sym (take-append-drop i rs))
    ∙ drop-append-le first (take i rs) (drop i rs) (omega (arith, length-take i rs, begun, within))
    ∙ ap (λ l. cards ++ l) (drop-item rs i c within item) in
    ap (λ l. done ++ map statement_of (groups l)) whole
    ∙ ap (λ gs. done ++ map statement_of gs) (group_of cards c rest are is)
    ∙ ap (λ j. done ++ j ∷ map statement_of (groups rest))
    (ap statement_of (sym (one_more rs first i c begun within item)) ∙ sym made)
    ∙ sym (append_assoc done (joined ∷ []) (map statement_of (groups rest)))

-- no card of the next statement was seen
pub statement_begins : (rs : List StatementCard) (i : ℕ) → AreContinued (drop i (take i rs))
statement_begins rs i =
    ap (list_all (λ (r : StatementCard). is_continued r.columns))
    (drop_all i (take i rs) (omega (arith, length-take i rs)))

-- no statement is left
pub no_statement_left : (done : List Joined) (rs : List StatementCard) (i : ℕ) → length rs ≤ i
    → done ++ map statement_of (groups (drop i rs)) ≡ done
unfolding groups
no_statement_left done rs i past = rw (drop_of_length-le rs past) (append-nil done)

-- the fault between a card and the next one is the first one
pub fault_here : (rs : List StatementCard) (i : ℕ) (c : StatementCard) (more : List StatementCard) (fault : Fault)
    → i < length rs → c ≡ get_or rs i c → more ≡ drop (i + 1) rs → Some fault ≡ continuation_fault c more
    → first_continuation_fault (drop i rs) ≡ first_continuation_fault rs
    → first_continuation_fault rs ≡ Some fault
unfolding first_continuation_fault
fault_here rs i c more fault within item behind is all =
    sym (rw (drop-item rs i c within item, ← behind, ← is) at all)

-- without one, the first fault is that of the cards behind it
pub fault_later : (rs : List StatementCard) (i : ℕ) (c : StatementCard) (more : List StatementCard)
    → i < length rs → c ≡ get_or rs i c → more ≡ drop (i + 1) rs → continuation_fault c more ≡ None
    → first_continuation_fault (drop i rs) ≡ first_continuation_fault (drop (i + 1) rs)
unfolding first_continuation_fault
fault_later rs i c more within item behind is =
    rw (drop-item rs i c within item, ← behind, is) refl

pub no_fault_left : (rs : List StatementCard) (i : ℕ) → length rs ≤ i
    → first_continuation_fault (drop i rs) ≡ None
unfolding first_continuation_fault
no_fault_left rs i past = rw (drop_of_length-le rs past) refl

pub statement_from_first : (rs : List StatementCard) (r : StatementCard) → 0 < length rs → r ≡ get_or rs 0 r
    → statement_of rs ≡ statement_of (r ∷ drop 1 rs)
statement_from_first [] r some item = absurd (omega (arith, some))
statement_from_first (c ∷ cs) r some item = ap (λ x. statement_of (x ∷ cs)) (sym item)

pub ruleset grouping = (
  statement_goes_on,
  card_follows,
  statement_ends,
  statement_begins,
  no_statement_left,
  fault_later,
  no_fault_left,
)
