-- Operands that come one by one into a map by their keys.
use Rattle.std.proofs.Common.{◌≡◌, ℕ, ◌+◌, ◌<◌, Bool, true, false, cond, ◌||◌, Some, is_some, List, [], ◌∷◌, ◌++◌, map}
use Rattle.std.proofs.Common.{length, get_or, take, drop, refl, sym, ap, ◌∙◌, subst, take-append-drop}
use Rattle.std.proofs.lemmas.List.{map-id}
use Rattle.std.proofs.lemmas.Bool.{false≢true, or_parts}
use Rattle.std.specs.List.{list_any}
use Rattle.std.specs.Map.{lookup}
use Rattle.std.proofs.lemmas.List.Folds.{list_any-append}
use Rattle.std.proofs.Math.Bool.{or-true}
use Rattle.iocm_types.proofs.Lists.{drop-item}
use Rattle.iocm_statements.specs.declared.operands.OperandKey.{OperandKey}
use Rattle.iocm_statements.specs.declared.operands.OperandKey.TheVariants.{Keyword, Bare}
use Rattle.iocm_statements.specs.contracts.operands.OperandKeyPartialEq.TheImpl as derived
use Rattle.iocm_statements.specs.Operands.{Operand, same_key, has_twins}

-- the derived equality of keys is that of the definitions
pub derived_eq : (a b : OperandKey) → derived.ghosts.eq a b ≡ same_key a b
derived_eq (Keyword a) (Keyword b) = refl
derived_eq (Keyword a) (Bare j) = refl
derived_eq (Bare i) (Keyword b) = refl
derived_eq (Bare i) (Bare j) = refl

-- an operand whose key is not there brings no twins
pub stays_distinct : (es : List Operand) (key : OperandKey) (text : List ℕ)
    → has_twins es ≡ false → is_some (lookup (derived.ghosts.eq key) es) ≡ false
    → has_twins (es ++ (key, text) ∷ []) ≡ false
stays_distinct [] key text distinct absent = refl
stays_distinct ((k, t) ∷ es) key text distinct absent =
    by (derived.ghosts.eq key k) refl absent (stays_distinct es key text (or_parts _ _ distinct).1)
  where
    by : (b : Bool) → derived.ghosts.eq key k ≡ b
        → is_some (cond b (Some t) (lookup (derived.ghosts.eq key) es)) ≡ false
        → (is_some (lookup (derived.ghosts.eq key) es) ≡ false → has_twins (es ++ (key, text) ∷ []) ≡ false)
        → (list_any (λ (other : Operand). same_key other.0 k) (es ++ (key, text) ∷ [])
        || has_twins (es ++ (key, text) ∷ [])) ≡ false
    by true same found rest = absurd (false≢true (sym found))
    by false other missing rest =
        let none : list_any (λ (other : Operand). same_key other.0 k) es ≡ false = (or_parts _ _ distinct).0 in
        let apart : same_key key k ≡ false = sym (derived_eq key k) ∙ other in
        rw (rest missing, list_any-append (λ (other : Operand). same_key other.0 k) es ((key, text) ∷ []), none, apart)
        refl

-- an operand whose key is there is a twin, whatever follows
pub becomes_twin : (es rest : List Operand) (key : OperandKey) (text : List ℕ)
    → is_some (lookup (derived.ghosts.eq key) es) ≡ true → has_twins (es ++ (key, text) ∷ rest) ≡ true
becomes_twin [] rest key text found = absurd (false≢true found)
becomes_twin ((k, t) ∷ es) rest key text found =
    by (derived.ghosts.eq key k) refl found (becomes_twin es rest key text)
  where
    by : (b : Bool) → derived.ghosts.eq key k ≡ b → is_some (cond b (Some t) (lookup (derived.ghosts.eq key) es)) ≡ true
        → (is_some (lookup (derived.ghosts.eq key) es) ≡ true → has_twins (es ++ (key, text) ∷ rest) ≡ true)
        → (list_any (λ (other : Operand). same_key other.0 k) (es ++ (key, text) ∷ rest)
        || has_twins (es ++ (key, text) ∷ rest)) ≡ true
    by true same there more =
        let twin : same_key key k ≡ true = sym (derived_eq key k) ∙ same in
        rw (
          list_any-append (λ (other : Operand). same_key other.0 k) es ((key, text) ∷ rest),
          twin,
          or-true (list_any (λ (other : Operand). same_key other.0 k) es),
        ) refl
    by false other there more = rw (more there) (or-true _)

-- the items that came first, the item at hand, and the rest are all
cut_at : (items yielded : List Operand) (e : Operand)
    → map (λ x. x) yielded ≡ take (length yielded) items
    → (length yielded < length items) × (e ≡ get_or items (length yielded) e)
    → yielded ++ e ∷ drop (length yielded + 1) items ≡ items
cut_at items yielded e front here =
    let opened : drop (length yielded) items ≡ e ∷ drop (length yielded + 1) items =
    drop-item items (length yielded) e here.0 here.1 in
    let same : yielded ≡ take (length yielded) items = sym (map-id yielded) ∙ front in
    ap (λ (xs : List Operand). xs ++ e ∷ drop (length yielded + 1) items) same
    ∙ ap (λ (xs : List Operand). take (length yielded) items ++ xs) (sym opened)
    ∙ take-append-drop (length yielded) items

-- an operand at hand whose key came before makes twins of all operands
pub twin_found : (items yielded : List Operand) (key : OperandKey) (text : List ℕ)
    → map (λ x. x) yielded ≡ take (length yielded) items
    → (length yielded < length items) × ((key, text) ≡ get_or items (length yielded) (key, text))
    → is_some (lookup (derived.ghosts.eq key) yielded) ≡ true → has_twins items ≡ true
twin_found items yielded key text front here found =
    subst (λ (es : List Operand). has_twins es ≡ true) (cut_at items yielded (key, text) front here)
    (becomes_twin yielded (drop (length yielded + 1) items) key text found)

-- the first of some operands has a twin behind it
pub first_has_twin : (es : List Operand) (e : Operand)
    → list_any (λ (other : Operand). same_key other.0 e.0) es ≡ true → has_twins (e ∷ es) ≡ true
first_has_twin es e found = rw found refl

-- the first has none: the others may have
pub first_has_none : (es : List Operand) (e : Operand)
    → list_any (λ (other : Operand). same_key other.0 e.0) es ≡ false → has_twins (e ∷ es) ≡ has_twins es
first_has_none es e none = rw none refl

pub ruleset pairs = (first_has_twin, first_has_none)
