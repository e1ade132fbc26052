-- The statements of a deck have the relation to its cards, and no others have it.
use Rattle.std.proofs.Common.{◌≡◌, ℕ, Bool, true, false, cond, Option, None, Some, Ok, List, [], ◌∷◌, ◌++◌, map, refl}
use Rattle.std.proofs.Common.{sym, ap, subst, ◌∙◌}
use Rattle.std.specs.Option.{option_or}
use Rattle.std.proofs.lemmas.Bool.{both_ways}
use Rattle.iocm_types.specs.declared.fault.Fault.{Fault}
use Rattle.iocm_types.specs.declared.rule.Rule.TheVariants.{L3, L4}
use Rattle.iocm_types.specs.Fault.{at}
use Rattle.iocm_columns.specs.declared.card.Card.{Card}
use Rattle.iocm_columns.specs.declared.joined.Joined.{Joined}
use Rattle.iocm_columns.specs.declared.statement_card.StatementCard.{StatementCard}
use Rattle.iocm_columns.specs.Columns.{is_continued, has_margin}
use Rattle.iocm_columns.specs.StatementCards.{continuation_fault, first_continuation_fault, margin_fault}
use Rattle.iocm_columns.specs.StatementCards.{statement_cards}
use Rattle.iocm_columns.specs.Slices.{AreStatementsOf, IsContinuedBy, IsStatementOf}
use Rattle.iocm_columns.specs.Statements.{groups, onto_group, statement_of, statements_of, unless_fault}
use Rattle.iocm_columns.proofs.Grouping.{group_alone, group_begins}
use Rattle.iocm_columns.proofs.Slicing.{text_found, text_only}

-- ---- the groups of cards

abbrev AreGroups : List StatementCard → List (List StatementCard) → Type 0
AreGroups rs [] = rs ≡ []
AreGroups rs (group ∷ groups) =
    (first : StatementCard) × (more : List StatementCard) × (rest : List StatementCard) × (rs ≡ first ∷ (more ++ rest))
    × IsContinuedBy first more
    × (group ≡ first ∷ more) × AreGroups rest groups

neither : (one other : Option Fault) → option_or one other ≡ None → (one ≡ None) × (other ≡ None)
neither None other is = (refl, is)
neither (Some fault) other is = cc

true_since : (e : Bool) (fault : Fault) → cond e None (Some fault) ≡ None → e ≡ true
true_since true fault is = refl
true_since false fault is = cc

false_since : (e : Bool) (fault : Fault) → cond e (Some fault) None ≡ None → e ≡ false
false_since true fault is = cc
false_since false fault is = refl

groups_nil : groups [] ≡ []
unfolding groups
groups_nil = refl

fault_of_none : first_continuation_fault [] ≡ None
unfolding first_continuation_fault
fault_of_none = refl

fault_of_first : (r : StatementCard) (rs : List StatementCard)
    → first_continuation_fault (r ∷ rs) ≡ option_or (continuation_fault r rs) (first_continuation_fault rs)
unfolding first_continuation_fault
fault_of_first r rs = refl

cons_nil : (r : StatementCard) (rs : List StatementCard) → r ∷ rs ≡ [] → ⊥
cons_nil r rs same = cc

group_joined : (r c : StatementCard) (cs : List StatementCard) → is_continued r.columns ≡ true
    → has_margin c.columns ≡ true
    → (gs : List (List StatementCard)) → AreGroups (c ∷ cs) gs → AreGroups (r ∷ c ∷ cs) (onto_group (r ∷ []) gs)
group_joined r c cs is margin [] are = absurd (cons_nil c cs are)
group_joined r c cs is margin (g ∷ gs) are =
    let first = are.0 in
    let whole : c ∷ cs ≡ first ∷ (are.1 ++ are.2) = are.3 in
    let head : c ≡ first = cc in (
      r,
      first ∷ are.1,
      are.2,
      ap (λ l. r ∷ l) whole,
      (is, subst (λ (x : StatementCard). has_margin x.columns ≡ true) head margin, are.4),
      ap (λ l. r ∷ l) are.5,
      are.6,
    )

group_at : (r : StatementCard) (rs : List StatementCard) → continuation_fault r rs ≡ None → AreGroups rs (groups rs)
    → (e : Bool) → is_continued r.columns ≡ e
    → AreGroups (r ∷ rs) (groups (r ∷ rs))
group_at r rs fine rest false is =
    subst (AreGroups (r ∷ rs)) (sym (group_alone r rs is)) (r, [], rs, refl, is, refl, rest)
group_at r [] fine rest true is =
    absurd (both_ways (is_continued r.columns) (false_since (is_continued r.columns) (at L4 r.line) fine) is)
group_at r (c ∷ cs) fine rest true is =
    let in_margin : margin_fault c ≡ None = ap (λ (b : Bool). cond b (margin_fault c) None) (sym is) ∙ fine in
    subst (AreGroups (r ∷ c ∷ cs)) (sym (group_begins r (c ∷ cs) is))
    (group_joined r c cs is (true_since (has_margin c.columns) (at L3 c.line) in_margin) (groups (c ∷ cs)) rest)

groups_found : (rs : List StatementCard) → first_continuation_fault rs ≡ None → AreGroups rs (groups rs)
groups_found [] none = subst (AreGroups []) (sym groups_nil) refl
groups_found (r ∷ rs) none =
    let both = neither (continuation_fault r rs) (first_continuation_fault rs) (sym (fault_of_first r rs) ∙ none) in
    group_at r rs both.0 (groups_found rs both.1) (is_continued r.columns) refl

-- ---- the statements

statement_found : (r : StatementCard) (rs : List StatementCard) → IsStatementOf r rs (statement_of (r ∷ rs))
statement_found r rs =
    let found = text_found r rs in
    record { line = refl; name = refl; operation = refl; slices = found.0; in_columns = found.1; text = found.2 }

statements_found : (rs : List StatementCard) (gs : List (List StatementCard)) → AreGroups rs gs
    → AreStatementsOf rs (map statement_of gs)
statements_found rs [] are = are
statements_found rs (g ∷ gs) are =
    let stands = subst (λ x. IsStatementOf are.0 are.1 (statement_of x)) (sym are.5) (statement_found are.0 are.1) in
    (are.0, are.1, are.2, are.3, are.4, stands, statements_found are.2 gs are.6)

accepted : (o : Option Fault) (rs : List StatementCard) (joined : List Joined) → unless_fault o rs ≡ Ok joined
    → (o ≡ None) × (map statement_of (groups rs) ≡ joined)
accepted None rs joined is = (refl, cc)
accepted (Some fault) rs joined is = cc

-- the statements of a deck have the relation to its cards
pub deck_found : (cards : List Card) (joined : List Joined) → statements_of cards ≡ Ok joined
    → AreStatementsOf (statement_cards cards) joined
deck_found cards joined is =
    let rs = statement_cards cards in
    let both = accepted (first_continuation_fault rs) rs joined is in
    subst (AreStatementsOf rs) both.1 (statements_found rs (groups rs) (groups_found rs both.0))

-- ---- no others

alone_is_fine : (r : StatementCard) (rs : List StatementCard) → is_continued r.columns ≡ false
    → continuation_fault r rs ≡ None
alone_is_fine r [] is = rw is refl
alone_is_fine r (c ∷ cs) is = rw is refl

joined_is_fine : (r c : StatementCard) (rs : List StatementCard) → is_continued r.columns ≡ true
    → has_margin c.columns ≡ true → continuation_fault r (c ∷ rs) ≡ None
joined_is_fine r c rs is margin = rw (is, margin) refl

no_fault : (first : StatementCard) (more rest : List StatementCard) → IsContinuedBy first more
    → first_continuation_fault rest ≡ None → first_continuation_fault (first ∷ (more ++ rest)) ≡ None
no_fault first [] rest is none =
    fault_of_first first rest ∙ ap (λ o. option_or o (first_continuation_fault rest)) (alone_is_fine first rest is)
    ∙ none
no_fault first (c ∷ cs) rest joined none =
    let behind = c ∷ (cs ++ rest) in
    fault_of_first first behind
    ∙ ap (λ o. option_or o (first_continuation_fault behind))
    (joined_is_fine first c (cs ++ rest) joined.0 joined.1)
    ∙ no_fault c cs rest joined.2 none

one_group : (first : StatementCard) (more rest : List StatementCard) → IsContinuedBy first more
    → groups (first ∷ (more ++ rest)) ≡ (first ∷ more) ∷ groups rest
one_group first [] rest is = group_alone first rest is
one_group first (c ∷ cs) rest joined =
    group_begins first (c ∷ (cs ++ rest)) joined.0 ∙ ap (onto_group (first ∷ [])) (one_group c cs rest joined.2)

same_fields : (a b : Joined) → a.line ≡ b.line → a.name ≡ b.name → a.operation ≡ b.operation → a.text ≡ b.text → a ≡ b
same_fields a b line name operation text =
    let made : ℕ → List ℕ → List ℕ → List ℕ → Joined =
    λ l n o t. record { line = l; name = n; operation = o; text = t } in
    ap (λ l. made l a.name a.operation a.text) line ∙ ap (λ n. made b.line n a.operation a.text) name
    ∙ ap (λ o. made b.line b.name o a.text) operation ∙ ap (λ t. made b.line b.name b.operation t) text

statement_only : (r : StatementCard) (rs : List StatementCard) (joined : Joined) → IsStatementOf r rs joined
    → joined ≡ statement_of (r ∷ rs)
statement_only r rs joined is =
    same_fields joined (statement_of (r ∷ rs)) is.line is.name is.operation
    (is.text ∙ sym (text_only r rs is.slices is.in_columns))

statements_only : (rs : List StatementCard) (joined : List Joined) → AreStatementsOf rs joined
    → (first_continuation_fault rs ≡ None) × (joined ≡ map statement_of (groups rs))
statements_only rs [] are = (
  ap first_continuation_fault are
      ∙ fault_of_none,
  sym (ap (λ l. map statement_of (groups l)) are ∙ ap (map statement_of) groups_nil),
)
statements_only rs (j ∷ js) are =
    let rest = statements_only are.2 js are.6 in
    let group = ap groups are.3 ∙ one_group are.0 are.1 are.2 are.4 in (
      ap first_continuation_fault are.3 ∙ no_fault are.0 are.1 are.2 are.4 rest.0,
      ap (λ x. x ∷ js) (statement_only are.0 are.1 j are.5) ∙ ap (λ l. statement_of (are.0 ∷ are.1) ∷ l) rest.1
          ∙ sym (ap (map statement_of) group),
    )

-- and what has the relation to a deck's cards is what is joined of it
pub deck_only : (cards : List Card) (joined : List Joined) → AreStatementsOf (statement_cards cards) joined
    → statements_of cards ≡ Ok joined
deck_only cards joined are =
    let rs = statement_cards cards in
    let both = statements_only rs joined are in
    ap (λ o. unless_fault o rs) both.0 ∙ ap Ok (sym both.1)
