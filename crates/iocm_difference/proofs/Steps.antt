-- One step of a walk over two lists of rows.
use Rattle.std.proofs.Common.{◌≡◌, true, false, cond, List, [], ◌∷◌, map, Option, Some, None, refl, sym, ap, ◌∙◌}
use Rattle.std.specs.Map.Iter.{TakesFirst, deref_pair}
use Rattle.std.specs.Ordering.{is_gt, is_eq, eq_by_cmp, ordering_reverse}
use Rattle.std.specs.declared.cmp.Ordering.{Ordering}
use Rattle.std.specs.declared.cmp.Ordering.TheVariants.{Less, Equal, Greater}
use Rattle.std.specs.FinMap.Entries.{by_order}
use denote.Ref.{Bor}
use Rattle.iocm_types.specs.declared.key.Key.{Key}
use Rattle.iocm_types.specs.Key.{key_cmp}
use Rattle.iocm_types.specs.KeyOrder.{keys_total}
use Rattle.iocm_types.proofs.Found.{ties_itself}
use Rattle.iocm_model.specs.Machine.Record.{Rec}
use Rattle.iocm_difference.specs.Ahead.{rows_left}
use Rattle.iocm_difference.specs.Walks.{Row, Pair, next_key, lesser_key, record_at, rows_after, old_row, new_row}
use Rattle.iocm_difference.specs.Walks.{pairs_of}

-- a row that is taken out ahead is still left
pub ahead : (rows rest : List Row) (r : Option (Bor Key × Bor Rec)) → TakesFirst deref_pair rows r rest
    → rows_left r rest ≡ rows
ahead rows rest None takes = sym takes.0
ahead rows rest (Some x) takes = sym takes

-- where no key is next no pair is left
pub none_left : (es fs : List Row) → lesser_key (next_key es) (next_key fs) ≡ None → pairs_of es fs ≡ []
none_left [] [] h = refl
none_left [] (f ∷ fs) h = cc
none_left (e ∷ es) [] h = cc
none_left (e ∷ es) (f ∷ fs) h = cc

none_after : (es fs : List Row) → lesser_key (next_key es) (next_key fs) ≡ None → (k : Key)
    → pairs_of (rows_after k es) (rows_after k fs) ≡ []
none_after [] [] h k = refl
none_after [] (f ∷ fs) h k = cc
none_after (e ∷ es) [] h k = cc
none_after (e ∷ es) (f ∷ fs) h k = cc

-- the pair at a key, and those after it
abbrev at_key : Key → List Row → List Row → List Pair
at_key k es fs = (k, (record_at k es, record_at k fs)) ∷ pairs_of (rows_after k es) (rows_after k fs)

-- of two rows, by the order of their keys
two_rows : (e f : Row) (es fs : List Row) (o : Ordering) → key_cmp e.0 f.0 ≡ o
    → pairs_of (e ∷ es) (f ∷ fs) ≡ at_key (cond (is_gt o) f.0 e.0) (e ∷ es) (f ∷ fs)
two_rows e f es fs Less is =
    ap (λ o. by_order o (old_row e ∷ pairs_of es (f ∷ fs)) ((e.0, (Some e.1, Some f.1)) ∷ pairs_of es fs)
    (new_row f ∷ pairs_of (e ∷ es) fs)) is
    ∙ sym ((λ i. (e.0, (cond (own i) (Some e.1) None, cond (other i) (Some f.1) None))
    ∷ pairs_of (cond (own i) es (e ∷ es)) (cond (other i) fs (f ∷ fs))))
  where
    own : eq_by_cmp key_cmp e.0 e.0 ≡ true
    own = ties_itself key_cmp keys_total e.0

    other : eq_by_cmp key_cmp e.0 f.0 ≡ false
    other = ap is_eq is
two_rows e f es fs Equal is =
    ap (λ o. by_order o (old_row e ∷ pairs_of es (f ∷ fs)) ((e.0, (Some e.1, Some f.1)) ∷ pairs_of es fs)
    (new_row f ∷ pairs_of (e ∷ es) fs)) is
    ∙ sym ((λ i. (e.0, (cond (own i) (Some e.1) None, cond (other i) (Some f.1) None))
    ∷ pairs_of (cond (own i) es (e ∷ es)) (cond (other i) fs (f ∷ fs))))
  where
    own : eq_by_cmp key_cmp e.0 e.0 ≡ true
    own = ties_itself key_cmp keys_total e.0

    other : eq_by_cmp key_cmp e.0 f.0 ≡ true
    other = ap is_eq is
two_rows e f es fs Greater is =
    ap (λ o. by_order o (old_row e ∷ pairs_of es (f ∷ fs)) ((e.0, (Some e.1, Some f.1)) ∷ pairs_of es fs)
    (new_row f ∷ pairs_of (e ∷ es) fs)) is
    ∙ sym ((λ i. (f.0, (cond (other i) (Some e.1) None, cond (own i) (Some f.1) None))
    ∷ pairs_of (cond (other i) es (e ∷ es)) (cond (own i) fs (f ∷ fs))))
  where
    own : eq_by_cmp key_cmp f.0 f.0 ≡ true
    own = ties_itself key_cmp keys_total f.0

    other : eq_by_cmp key_cmp f.0 e.0 ≡ false
    other = ap is_eq (keys_total.antisymm f.0 e.0 ∙ ap ordering_reverse is)

-- the lesser key is the next one, with what each list has there
pub next_pair : (es fs : List Row) (k : Key) → lesser_key (next_key es) (next_key fs) ≡ Some k
    → pairs_of es fs ≡ (k, (record_at k es, record_at k fs)) ∷ pairs_of (rows_after k es) (rows_after k fs)
next_pair [] [] k h = cc
next_pair [] (f ∷ fs) k h =
    let same : f.0 ≡ k = cc in let own = ties_itself key_cmp keys_total f.0 in
    sym (λ i. (f.0, (None, cond (own i) (Some f.1) None)) ∷ map new_row (cond (own i) fs (f ∷ fs)))
    ∙ ap (λ q. at_key q [] (f ∷ fs)) same
next_pair (e ∷ es) [] k h =
    let same : e.0 ≡ k = cc in let own = ties_itself key_cmp keys_total e.0 in
    sym (λ i. (e.0, (cond (own i) (Some e.1) None, None)) ∷ pairs_of (cond (own i) es (e ∷ es)) [])
    ∙ ap (λ q. at_key q (e ∷ es) []) same
next_pair (e ∷ es) (f ∷ fs) k h =
    let same : cond (is_gt (key_cmp e.0 f.0)) f.0 e.0 ≡ k = cc in
    two_rows e f es fs (key_cmp e.0 f.0) refl ∙ ap (λ q. at_key q (e ∷ es) (f ∷ fs)) same
