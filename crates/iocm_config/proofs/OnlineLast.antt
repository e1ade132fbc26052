-- Records with the online ones last are the same configuration, and no two have one key.
use Rattle.std.proofs.Common.{◌≡◌, Bool, true, false, not, cond, List, [], ◌∷◌, ◌++◌, filter, Option, None, Some, refl}
use Rattle.std.proofs.Common.{sym, ap, ◌∙◌, subst, append-nil}
use Rattle.std.proofs.lemmas.List.{map-append}
use Rattle.std.proofs.lemmas.Bool.{false≢true}
use Rattle.std.proofs.lemmas.List.Elements.{filter-append}
use Rattle.std.proofs.lemmas.List.Sorted.{IsPermutation-filter_both}
use Rattle.std.proofs.lemmas.Map.Keys.{IsDistinct-IsPermutation}
use Rattle.std.proofs.lemmas.Cmp.{eq_by_cmp_equiv}
use Rattle.std.specs.List.{IsDistinct}
use Rattle.std.specs.Option.{option_or}
use Rattle.std.specs.Ordering.{is_eq, eq_by_cmp}
use Rattle.std.specs.declared.cmp.Ordering.{Ordering}
use Rattle.std.specs.declared.cmp.Ordering.TheVariants.{Less, Equal, Greater}
use Rattle.std.specs.Map.{keys_of}
use Rattle.std.specs.FinMap.{from_entries, get-from_entries, same_map, find}
use Rattle.iocm_types.specs.declared.key.Key.{Key}
use Rattle.iocm_types.specs.Key.{key_cmp}
use Rattle.iocm_types.specs.KeyOrder.{keys_total, keys_exact}
use Rattle.iocm_types.proofs.Parts.{find_append, or_none}
use Rattle.iocm_model.specs.Machine.Record.{Rec, key_of}
use Rattle.iocm_model.specs.Machine.Configuration.{with_keys}
use Rattle.iocm_config.specs.OnlineLast.{is_online, online_last}

abbrev pub Row : Type 0
Row = Key × Rec

tied : (q k : Key) → eq_by_cmp key_cmp q k ≡ true → q ≡ k
tied q k same = by (key_cmp q k) refl same
  where
    by : (o : Ordering) → key_cmp q k ≡ o → is_eq o ≡ true → q ≡ k
    by Less e same = absurd (false≢true same)
    by Equal e same = keys_exact q k e
    by Greater e same = absurd (false≢true same)

found_first : (p : Key → Bool) (q k : Key) (x : Rec) (es : List Row) (b c : Bool) → eq_by_cmp key_cmp q k ≡ b → p k ≡ c
    → find key_cmp q (filter (λ e. p e.0) es) ≡ cond (p q) (find key_cmp q es) None
    → find key_cmp q (cond c ((k, x) ∷ filter (λ e. p e.0) es) (filter (λ e. p e.0) es))
    ≡ cond (p q) (cond b (Some x) (find key_cmp q es)) None
found_first p q k x es true true same passes rest = rw (same, ap p (tied q k same) ∙ passes) refl
found_first p q k x es false true same passes rest = rw same rest
found_first p q k x es true false same passes rest = rest ∙ rw (ap p (tied q k same) ∙ passes) refl
found_first p q k x es false false same passes rest = rest

no_row : (b : Bool) → ◌≡◌ {A = Option Rec} None (cond b None None)
no_row true = refl
no_row false = refl

-- a key is found among the rows whose keys pass where it passes itself
found_kept : (p : Key → Bool) (q : Key) (es : List Row)
    → find key_cmp q (filter (λ e. p e.0) es) ≡ cond (p q) (find key_cmp q es) None
found_kept p q [] = no_row (p q)
found_kept p q (e ∷ es) = found_first p q e.0 e.1 es (eq_by_cmp key_cmp q e.0) (p e.0) refl refl (found_kept p q es)

both : (b : Bool) (o : Option Rec) → option_or (cond (not b) o None) (cond b o None) ≡ o
both true o = refl
both false o = or_none o

found_last : (q : Key) (es : List Row) → find key_cmp q (online_last es) ≡ find key_cmp q es
found_last q es = find_append key_cmp q (filter (λ e. not (is_online e.0)) es) (filter (λ e. is_online e.0) es)
    ∙ ap (λ o. option_or o (find key_cmp q (filter (λ e. is_online e.0) es))) (found_kept (λ k. not (is_online k)) q es)
    ∙ ap (option_or (cond (not (is_online q)) (find key_cmp q es) None)) (found_kept is_online q es)
    ∙ both (is_online q) (find key_cmp q es)

-- they are the same configuration
pub same_configuration : (es : List Row) → from_entries {R = key_cmp} (online_last es) ≡ from_entries es
same_configuration es = same_map keys_total keys_exact _ _
    (λ q. get-from_entries keys_total (online_last es) q ∙ found_last q es ∙ sym (get-from_entries keys_total es q))

key_kept : (k : Key) (c : Bool) (es : List Row) (ks : List Key) (x : Rec) → keys_of es ≡ ks
    → keys_of (cond c ((k, x) ∷ es) es) ≡ cond c (k ∷ ks) ks
key_kept k true es ks x same = ap (λ ks. k ∷ ks) same
key_kept k false es ks x same = same

keys_kept : (p : Key → Bool) (es : List Row) → keys_of (filter (λ e. p e.0) es) ≡ filter p (keys_of es)
keys_kept p [] = refl
keys_kept p (e ∷ es) = key_kept e.0 (p e.0) (filter (λ e. p e.0) es) (filter p (keys_of es)) e.1 (keys_kept p es)

keys_last : (es : List Row)
    → keys_of (online_last es) ≡ filter (λ k. not (is_online k)) (keys_of es) ++ filter is_online (keys_of es)
keys_last es = map-append (λ (e : Row). e.0) (filter (λ e. not (is_online e.0)) es) (filter (λ e. is_online e.0) es)
    ∙ ap (λ ks. ks ++ keys_of (filter (λ e. is_online e.0) es)) (keys_kept (λ k. not (is_online k)) es)
    ∙ ap (λ ks. filter (λ k. not (is_online k)) (keys_of es) ++ ks) (keys_kept is_online es)

flips : (x y : Key) → eq_by_cmp key_cmp x y ≡ eq_by_cmp key_cmp y x
flips x y = (eq_by_cmp_equiv keys_total).symm x y

not_not : (b : Bool) → b ≡ not (not b)
not_not true = refl
not_not false = refl

-- no two of them have one key, where no two had
pub keys_stay_apart : (es : List Row) → IsDistinct (eq_by_cmp key_cmp) (keys_of es)
    → IsDistinct (eq_by_cmp key_cmp) (keys_of (online_last es))
keys_stay_apart es apart = subst (IsDistinct (eq_by_cmp key_cmp)) (sym (keys_last es))
    (IsDistinct-IsPermutation (eq_by_cmp key_cmp) flips (keys_of es) _
    (IsPermutation-filter_both (λ k. not (is_online k)) is_online (λ k. not_not (is_online k)) (keys_of es)) apart)

more_by : (p : Row → Bool) (c : Bool) (es : List Row) (e : Row) → p e ≡ c
    → filter p (es ++ e ∷ []) ≡ filter p es ++ cond c (e ∷ []) []
more_by p c es e passes = filter-append p es (e ∷ []) ∙ ap (λ b. filter p es ++ cond b (e ∷ []) []) passes

one_more : (p : Row → Bool) (c : Bool) (rs : List Rec) (r : Rec) → p (key_of r, r) ≡ c
    → filter p (with_keys (rs ++ r ∷ [])) ≡ filter p (with_keys rs) ++ cond c ((key_of r, r) ∷ []) []
one_more p c rs r passes =
    ap (filter p) (map-append (λ (x : Rec). (key_of x, x)) rs (r ∷ []))
    ∙ more_by p c (with_keys rs) (key_of r, r) passes

-- one more record goes to the online ones
pub online_more : (rs : List Rec) (r : Rec) → is_online (key_of r) ≡ true
    → filter (λ e. is_online e.0) (with_keys (rs ++ r ∷ [])) ≡ filter (λ e. is_online e.0) (with_keys rs)
    ++ (key_of r, r) ∷ []
online_more rs r is = one_more (λ e. is_online e.0) true rs r is

pub others_same : (rs : List Rec) (r : Rec) → is_online (key_of r) ≡ true
    → filter (λ e. not (is_online e.0)) (with_keys (rs ++ r ∷ [])) ≡ filter (λ e. not (is_online e.0)) (with_keys rs)
others_same rs r is = one_more (λ e. not (is_online e.0)) false rs r (ap not is) ∙ append-nil _

-- or to the others
pub others_more : (rs : List Rec) (r : Rec) → is_online (key_of r) ≡ false
    → filter (λ e. not (is_online e.0)) (with_keys (rs ++ r ∷ [])) ≡ filter (λ e. not (is_online e.0)) (with_keys rs)
    ++ (key_of r, r) ∷ []
others_more rs r is = one_more (λ e. not (is_online e.0)) true rs r (ap not is)

pub online_same : (rs : List Rec) (r : Rec) → is_online (key_of r) ≡ false
    → filter (λ e. is_online e.0) (with_keys (rs ++ r ∷ [])) ≡ filter (λ e. is_online e.0) (with_keys rs)
online_same rs r is = one_more (λ e. is_online e.0) false rs r is ∙ append-nil _
