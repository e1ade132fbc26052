-- The keys of paths, and of paths that are online, in the order of keys.
use Rattle.std.proofs.Common.{◌≡◌, ◌∙◌, ℕ, zero, suc, Bool, true, false, ◌&&◌, cond, nat_eq, List, Option, None, Some}
use Rattle.std.proofs.Common.{refl, sym, ap, arith}
use Rattle.std.proofs.lemmas.Bool.{eq-eqb, eqb-true}
use Rattle.std.specs.Ordering.{nat_cmp, is_le, is_eq, eq_by_cmp, ordering_then}
use Rattle.std.specs.declared.cmp.Ordering.{Ordering}
use Rattle.std.specs.declared.cmp.Ordering.TheVariants.{Less, Equal, Greater}
use Rattle.std.specs.Cmp.{nat_cmp_total, nat_cmp_is, tied_itself, unsigned_tied}
use Rattle.std.specs.Cmp.Lexicographic.{slice_cmp, pointwise, texts_ties, nat_list_cmp_total}
use Rattle.std.specs.FinMap.{nat_cmp-IsAntisymmetric}
use Rattle.iocm_types.specs.declared.key.Key.{Key}
use Rattle.iocm_types.specs.declared.key.Key.TheVariants.{Id, Resource, Image, Limit, Path, Unit, Device, Online}
use Rattle.iocm_types.specs.Key.{key_cmp}
use Rattle.iocm_derive.specs.declared.path_tables.OnlinePath.{OnlinePath}
use Rattle.iocm_derive.specs.PathTables.{path_under, online_under}

-- ---- comparing one after the other

both_tie : (r s : Ordering) → is_eq (ordering_then r s) ≡ (is_eq r && is_eq s)
both_tie Less s = refl
both_tie Equal s = refl
both_tie Greater s = refl

pub ends : (b : Bool) → (b && true) ≡ b
ends true = refl
ends false = refl

-- what ties first is decided by what comes then
pub past_tie : (a : ℕ) (s : Ordering) → ordering_then (nat_cmp a a) s ≡ s
past_tie a s = ap (λ r. ordering_then r s) (tied_itself nat_cmp_total a)

-- nothing is before the first number
not_after : (n : ℕ) (s : Ordering) → is_le s ≡ true → is_le (ordering_then (nat_cmp 0 n) s) ≡ true
not_after zero s le = le
not_after (suc n) s le = ap (λ r. is_le (ordering_then r s)) (sym (nat_cmp_is 0 (suc n) Less (omega arith)))

-- a key of another channel subsystem that isn't before is after, whatever comes then
pub other_is_after : (css of : ℕ) (r s : Ordering) → nat_eq of css ≡ false
    → is_le (ordering_then (nat_cmp css of) r) ≡ true → ordering_then (nat_cmp css of) s ≡ Less
other_is_after css of r s other le = by (nat_cmp css of) refl le
  where
    by : (o : Ordering) → nat_cmp css of ≡ o → is_le (ordering_then o r) ≡ true → ordering_then o s ≡ Less
    by Less is le = refl
    by Equal is le = let same : nat_eq of css ≡ true = eq-eqb of css (sym (nat_cmp-IsAntisymmetric css of is)) in cc
    by Greater is le = cc

-- ---- paths

pub first_path : (css n : ℕ) → is_le (key_cmp (Path css 0) (Path css n)) ≡ true
first_path css n = ap is_le (past_tie css (ordering_then (nat_cmp 0 n) Equal)) ∙ not_after n Equal refl

-- a key that isn't of a path of a channel subsystem, and isn't before these, is after them
pub behind_paths : (css n : ℕ) (k : Key) → path_under css k ≡ None → is_le (key_cmp (Path css 0) k) ≡ true
    → key_cmp (Path css n) k ≡ Less
behind_paths css n Id none le = cc
behind_paths css n Resource none le = cc
behind_paths css n (Image a b) none le = cc
behind_paths css n (Limit a b) none le = cc
behind_paths css n (Unit a) none le = refl
behind_paths css n (Device a b) none le = refl
behind_paths css n (Online a b c) none le = refl
behind_paths css n (Path of path) none le = other_is_after css of _ _ (by (nat_eq of css) none) le
  where
    by : (b : Bool) → cond b (Some path) None ≡ None → b ≡ false
    by true is = cc
    by false is = refl

-- the key of a path ties with that of the path of this number, and with no other
pub ties_with_path : (css p : ℕ) (k : Key) → path_under css k ≡ Some p → (n : ℕ)
    → eq_by_cmp key_cmp (Path css n) k ≡ nat_eq n p
ties_with_path css p Id is n = cc
ties_with_path css p Resource is n = cc
ties_with_path css p (Image a b) is n = cc
ties_with_path css p (Limit a b) is n = cc
ties_with_path css p (Unit a) is n = cc
ties_with_path css p (Device a b) is n = cc
ties_with_path css p (Online a b c) is n = cc
ties_with_path css p (Path of path) is n = by (nat_eq of css) refl is
  where
    by : (b : Bool) → nat_eq of css ≡ b → cond b (Some path) None ≡ Some p
        → eq_by_cmp key_cmp (Path css n) (Path of path) ≡ nat_eq n p
    by true tie is =
        let here : of ≡ css = eqb-true of css tie in
        let there : path ≡ p = cc in
        ap (λ k. eq_by_cmp key_cmp (Path css n) k) (λ i. Path (here i) (there i))
        ∙ ap is_eq (past_tie css (ordering_then (nat_cmp n p) Equal)) ∙ both_tie (nat_cmp n p) Equal
        ∙ ends (is_eq (nat_cmp n p)) ∙ unsigned_tied n p
    by false tie is = cc

-- ---- paths that are online

pub first_online : (css : ℕ) (name : List ℕ) (n : ℕ) → is_le (key_cmp (Online css 0 name) (Online css n name)) ≡ true
first_online css name n = ap is_le (past_tie css (ordering_then (nat_cmp 0 n) (slice_cmp nat_cmp name name)))
    ∙ not_after n (slice_cmp nat_cmp name name) (ap is_le (tied_itself nat_list_cmp_total name))

-- a key that isn't of an online path of a channel subsystem, and isn't before these, is after them
pub behind_online : (css : ℕ) (name : List ℕ) (n : ℕ) (k : Key) → online_under css k ≡ None
    → is_le (key_cmp (Online css 0 name) k) ≡ true
    → key_cmp (Online css n name) k ≡ Less
behind_online css name n Id none le = cc
behind_online css name n Resource none le = cc
behind_online css name n (Image a b) none le = cc
behind_online css name n (Limit a b) none le = cc
behind_online css name n (Path a b) none le = cc
behind_online css name n (Unit a) none le = cc
behind_online css name n (Device a b) none le = cc
behind_online css name n (Online of path other) none le = other_is_after css of _ _ (by (nat_eq of css) none) le
  where
    by : (b : Bool) → cond {A = Option OnlinePath} b (Some (record { path = path; name = other })) None ≡ None
        → b ≡ false
    by true is = cc
    by false is = refl

-- the key of an online path ties with that of the path of this number that is online to this image,
-- and with no other
pub ties_with_online : (css : ℕ) (name : List ℕ) (row : OnlinePath) (k : Key) → online_under css k ≡ Some row → (n : ℕ)
    → eq_by_cmp key_cmp (Online css n name) k ≡ (nat_eq n row.path && pointwise nat_eq name row.name)
ties_with_online css name row Id is n = cc
ties_with_online css name row Resource is n = cc
ties_with_online css name row (Image a b) is n = cc
ties_with_online css name row (Limit a b) is n = cc
ties_with_online css name row (Path a b) is n = cc
ties_with_online css name row (Unit a) is n = cc
ties_with_online css name row (Device a b) is n = cc
ties_with_online css name row (Online of path other) is n = by (nat_eq of css) refl is
  where
    by : (b : Bool) → nat_eq of css ≡ b
        → cond {A = Option OnlinePath} b (Some (record { path = path; name = other })) None ≡ Some row
        → eq_by_cmp key_cmp (Online css n name) (Online of path other)
        ≡ (nat_eq n row.path && pointwise nat_eq name row.name)
    by true tie is =
        let here : of ≡ css = eqb-true of css tie in
        let found : OnlinePath = record { path = path; name = other } in
        let same : found ≡ row = cc in
        ap (λ k. eq_by_cmp key_cmp (Online css n name) k) (λ i. Online (here i) (same i).path (same i).name)
        ∙ ap is_eq (past_tie css (ordering_then (nat_cmp n row.path) (slice_cmp nat_cmp name row.name)))
        ∙ both_tie (nat_cmp n row.path) (slice_cmp nat_cmp name row.name)
        ∙ ap (λ b. b && eq_by_cmp (slice_cmp nat_cmp) name row.name) (unsigned_tied n row.path)
        ∙ ap (λ b. nat_eq n row.path && b) (sym (texts_ties name row.name))
    by false tie is = cc
