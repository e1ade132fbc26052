-- The first breach is at the least key that breaks its rule.
use Rattle.std.proofs.Common.{◌≡◌, Bool, true, false, cond, Some, List, [], ◌∷◌, ◌++◌, T, refl, sym, ap, subst, ◌∙◌}
use Rattle.std.proofs.lemmas.Bool.{or_parts}
use Rattle.std.specs.List.{list_any}
use Rattle.std.specs.Ordering.{eq_by_cmp, ordering_reverse}
use Rattle.std.specs.declared.cmp.Ordering.TheVariants.{Less, Equal, Greater}
use Rattle.std.specs.Cmp.{tied_itself}
use Rattle.std.specs.FinMap.{find, get, entries, entries_sorted, is_sorted, get-entries}
use Rattle.std.specs.FinMap.Entries.{below_all}
use Rattle.iocm_types.specs.declared.key.Key.{Key}
use Rattle.iocm_types.specs.Key.{key_cmp}
use Rattle.iocm_types.specs.KeyOrder.{keys_total, keys_exact}
use Rattle.iocm_types.proofs.Found.{same_key, found_first, found_later}
use Rattle.iocm_types.proofs.Orderings.{less_is}
use Rattle.iocm_types.proofs.Tests.{first_holds, second_holds}
use Rattle.iocm_model.specs.Machine.Record.{Rec, key_of}
use Rattle.iocm_model.specs.Machine.Configuration.{with_keys}
use Rattle.iocm_model.specs.Laws.Breaches.{AnswersTheLeast}
use Rattle.iocm_model.proofs.Rules.FirstBreach.{answers_the_first}

not_both_less : (k q : Key) → key_cmp k q ≡ Less → key_cmp q k ≡ Less → ⊥
not_both_less k q h g = let bad : Greater ≡ Less = sym (keys_total.antisymm k q ∙ ap ordering_reverse g) ∙ h in cc

not_less_itself : (k : Key) → key_cmp k k ≡ Less → ⊥
not_less_itself k h = let bad : Equal ≡ Less = sym (tied_itself keys_total k) ∙ h in cc

-- what is found in entries that are all above a key is above it
above : (k q : Key) (es : List (Key × Rec)) (r : Rec) → T (below_all key_cmp k es) → find key_cmp q es ≡ Some r
    → key_cmp k q ≡ Less
above k q [] r below h = cc
above k q (e ∷ es) r below h = by (eq_by_cmp key_cmp q e.0) refl (above k q es r (second_holds _ _ below)) h
  where
    by : (b : Bool) → eq_by_cmp key_cmp q e.0 ≡ b → (find key_cmp q es ≡ Some r → key_cmp k q ≡ Less)
        → cond b (Some e.1) (find key_cmp q es) ≡ Some r → key_cmp k q ≡ Less
    by true t more h = ap (key_cmp k) (same_key key_cmp keys_exact q e.0 t) ∙ less_is _ (first_holds _ _ below)
    by false t more h = more h

-- of records in order, one of a smaller key than that of the first that breaks a rule keeps it
smaller_keeps : (breaks : Rec → Bool) (front : List Rec) (culprit : Rec) (back : List Rec) (key : Key) (r : Rec)
    → T (is_sorted key_cmp (with_keys (front ++ culprit ∷ back))) → list_any breaks front ≡ false
    → find key_cmp key (with_keys (front ++ culprit ∷ back)) ≡ Some r → key_cmp key (key_of culprit) ≡ Less
    → breaks r ≡ false
smaller_keeps breaks [] culprit back key r up none h less = absurd (by (eq_by_cmp key_cmp key (key_of culprit)) refl h)
  where
    by : (b : Bool) → eq_by_cmp key_cmp key (key_of culprit) ≡ b
        → cond b (Some culprit) (find key_cmp key (with_keys back)) ≡ Some r → ⊥
    by true t h = not_less_itself key (ap (key_cmp key) (same_key key_cmp keys_exact key (key_of culprit) t) ∙ less)
    by false t h = not_both_less key (key_of culprit) less
        (above (key_of culprit) key (with_keys back) r (first_holds _ _ up) h)
smaller_keeps breaks (x ∷ front) culprit back key r up none h less =
    by (eq_by_cmp key_cmp key (key_of x)) h
    (λ found. smaller_keeps breaks front culprit back key r (second_holds _ _ up) (or_parts _ _ none).1 found less)
  where
    by : (b : Bool) → cond b (Some x) (find key_cmp key (with_keys (front ++ culprit ∷ back))) ≡ Some r
        → (find key_cmp key (with_keys (front ++ culprit ∷ back)) ≡ Some r → breaks r ≡ false) → breaks r ≡ false
    by true h more = let same : x ≡ r = cc in ap breaks (sym same) ∙ (or_parts _ _ none).0
    by false h more = more h

-- of records in order, each is found under its own key
found_there : (front : List Rec) (culprit : Rec) (back : List Rec)
    → T (is_sorted key_cmp (with_keys (front ++ culprit ∷ back)))
    → find key_cmp (key_of culprit) (with_keys (front ++ culprit ∷ back)) ≡ Some culprit
found_there [] culprit back up = found_first key_cmp keys_total keys_exact (key_of culprit, culprit) (with_keys back)
found_there (x ∷ front) culprit back up = found_later key_cmp keys_total keys_exact (key_of culprit) (key_of x, x)
    (with_keys (front ++ culprit ∷ back)) culprit
    (first_holds _ _ up) (found_there front culprit back (second_holds _ _ up))

pub answers_the_least : AnswersTheLeast
answers_the_least c n b keyed h =
    let first = answers_the_first c n b h in
    let listed : entries c ≡ with_keys (first.front ++ first.culprit ∷ first.back) =
    keyed ∙ ap with_keys first.of_records in
    let up = subst (λ (es : List (Key × Rec)). T (is_sorted key_cmp es)) listed (entries_sorted c) in record {
      before = first.before;
      breaks = first.law.1;
      after = first.after;
      culprit = first.culprit;
      of_laws = first.of_laws ∙ (λ i. first.before ++ (sym first.rule i, first.law.1) ∷ first.after);
      kept_before = first.kept_before;
      there = ap (get c) first.key ∙ get-entries c (key_of first.culprit)
          ∙ ap (find key_cmp (key_of first.culprit)) listed
          ∙ found_there first.front first.culprit first.back up;
      broken = first.broken;
      least = λ key r found less.
          smaller_keeps first.law.1 first.front first.culprit first.back key r up first.kept_in_front
          (sym (ap (find key_cmp key) listed) ∙ sym (get-entries c key) ∙ found)
          (sym (ap (key_cmp key) first.key) ∙ less);
    }
