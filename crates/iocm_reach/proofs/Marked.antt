-- Marks of images for paths, when they are made by a walk over records in the order of keys, one row
-- after the other.
use Rattle.std.proofs.Common.{◌≡◌, ◌∙◌, ℕ, ◌+◌, ◌*◌, ◌<◌, ◌≤◌, Bool, true, false, ◌||◌, ◌&&◌, cond, nat_eq, IsTrue}
use Rattle.std.proofs.Common.{List, [], ◌∷◌, replicate, Option, None, Some, IfSome, T, refl, sym, ap, subst, arith}
use Rattle.std.proofs.lemmas.Bool.{eqb-true, eqb-false}
use Rattle.std.proofs.lemmas.List.{get_or-replicate}
use Rattle.std.specs.List.{AllByRecursion}
use Rattle.std.specs.Ordering.{is_le, eq_by_cmp}
use Rattle.std.specs.declared.cmp.Ordering.TheVariants.{Less}
use Rattle.std.specs.FinMap.{find, entries, is_sorted, entries_sorted}
use Rattle.std.specs.FinMap.Entries.{is_sorted-where_key, below_all}
use Rattle.iocm_types.specs.declared.key.Key.{Key}
use Rattle.iocm_types.specs.Key.{key_cmp}
use Rattle.iocm_types.specs.KeyOrder.{keys_exact}
use Rattle.iocm_types.specs.Name.{is_name}
use Rattle.iocm_types.proofs.Entries.{not_found}
use Rattle.iocm_types.proofs.Found.{same_key}
use Rattle.iocm_types.proofs.Tests.{first_holds, second_holds}
use Rattle.iocm_table.specs.Slots.{rows_from}
use Rattle.iocm_model.specs.Machine.Record.{Rec}
use Rattle.iocm_model.specs.Machine.Configuration.{Configuration, lookup_of}
use Rattle.iocm_derive.specs.Derived.{name_at}
use Rattle.iocm_derive.proofs.Tables.{all_after, found_after, none_before}
use Rattle.iocm_reach.specs.declared.range.PathRange.{PathRange}
use Rattle.iocm_reach.specs.Marking.{mark_at, AreMarksOf, IsRowMarked}
use Rattle.iocm_reach.specs.Reached.{image_in, is_named}
use Rattle.iocm_reach.specs.Writing.{AreNamesOf}

-- what a test says of the record of a path and an image's name, if there is an image
abbrev pub test_of : (ℕ → List ℕ → Key) → (List ℕ → Option Rec → Bool) → (Key → Option Rec) → ℕ → Option (List ℕ) → Bool
test_of key test found path image = is_named (λ n. test n (found (key path n))) image

-- each image that is marked, or of whose record among those to come a test says so, is one of which
-- it says so at all; the rows that are left stand in order, none before a first key
pub record IsMarking (m : Configuration) (r : PathRange) (from : Key) (key : ℕ → List ℕ → Key)
    (test : List ℕ → Option Rec → Bool) (marks : List Bool)
    (rest : List (Key × Rec)) : Type 0 where
  pub rise : T (is_sorted key_cmp rest)
  pub after : AllByRecursion (λ e. is_le (key_cmp from e.0) ≡ true) rest
  pub sum : (path mif : ℕ) → r.first ≤ path → path ≤ r.last → 0 < mif → mif < 16
      → (mark_at marks path mif
      || test_of key test (λ k. find key_cmp k rest) path (name_at (lookup_of m) (image_in r.css mif)))
      ≡ test_of key test (lookup_of m) path (name_at (lookup_of m) (image_in r.css mif))

module _ (m : Configuration) (r : PathRange) (names : List (Option (List ℕ)))
    (known : AreNamesOf (lookup_of m) r.css names)
    (from : Key) (key : ℕ → List ℕ → Key) (test : List ℕ → Option Rec → Bool)
    (none : (n : List ℕ) → test n None ≡ false) where
  -- among the rows from the first key on are all
  all_there : ((path : ℕ) (n : List ℕ) → r.first ≤ path → IsTrue (is_name n) → is_le (key_cmp from (key path n)) ≡ true)
      → (path : ℕ) → r.first ≤ path
      → (image : Option (List ℕ)) → IfSome image (λ n. IsTrue (is_name n))
      → test_of key test (λ k. find key_cmp k (rows_from key_cmp from (entries m))) path image
      ≡ test_of key test (lookup_of m) path image
  all_there le path low None named = refl
  all_there le path low (Some n) named = ap (test n) (found_after m from (key path n) (le path n low named))

  -- before the first row
  pub marks_begin : r.last < 256
      → ((path : ℕ) (n : List ℕ) → r.first ≤ path → IsTrue (is_name n) → is_le (key_cmp from (key path n)) ≡ true)
      → (rows : List (Key × Rec)) → rows ≡ rows_from key_cmp from (entries m)
      → IsMarking m r from key test (replicate 4096 false) rows
  marks_begin small le rows walked = subst (IsMarking m r from key test (replicate 4096 false)) (sym walked) (record {
    rise = is_sorted-where_key key_cmp (λ k. is_le (key_cmp from k)) (entries m) (entries_sorted m);
    after = all_after from (entries m);
    sum = λ path mif low high above below.
        let image = name_at (lookup_of m) (image_in r.css mif) in
        ap (λ b. b || test_of key test (λ k. find key_cmp k (rows_from key_cmp from (entries m))) path image)
        (get_or-replicate 4096 (path * 16 + mif) false false (omega arith))
        ∙ all_there le path low image (known.valid mif above below);
  })

  -- what a test says with a row in front
  opened_by : (q : Key) (n : List ℕ) (e : Key × Rec) (es : List (Key × Rec)) (b : Bool) → eq_by_cmp key_cmp q e.0 ≡ b
      → T (below_all key_cmp e.0 es)
      → test n (cond b (Some e.1) (find key_cmp q es)) ≡ ((b && test n (Some e.1)) || test n (find key_cmp q es))
  opened_by q n e es true tie below =
      let absent : find key_cmp q es ≡ None =
      ap (λ k. find key_cmp k es) (same_key key_cmp keys_exact q e.0 tie) ∙ not_found key_cmp e.0 es below in
      rw (absent, none n) (ends (test n (Some e.1)))
    where
      ends : (b : Bool) → b ≡ (b || false)
      ends true = refl
      ends false = refl
  opened_by q n e es false tie below = refl

  opened : (path at : ℕ) (told : List ℕ → Bool) (e : Key × Rec) (es : List (Key × Rec)) → T (is_sorted key_cmp (e ∷ es))
      → ((n : List ℕ) → (eq_by_cmp key_cmp (key path n) e.0 && test n (Some e.1)) ≡ (nat_eq path at && told n))
      → (image : Option (List ℕ))
      → test_of key test (λ k. find key_cmp k (e ∷ es)) path image
      ≡ ((nat_eq path at && is_named told image) || test_of key test (λ k. find key_cmp k es) path image)
  opened path at told e es up here None = nothing (nat_eq path at)
    where
      nothing : (b : Bool) → false ≡ ((b && false) || false)
      nothing true = refl
      nothing false = refl
  opened path at told e es up here (Some n) =
      opened_by (key path n) n e es (eq_by_cmp key_cmp (key path n) e.0) refl (first_holds _ _ up)
      ∙ ap (λ b. b || test n (find key_cmp (key path n) es)) (here n)

  shift : (x y z : Bool) → ((x || y) || z) ≡ (x || (y || z))
  shift true y z = refl
  shift false y z = refl

  -- one row more
  pub marks_more : (marks next : List Bool) (e : Key × Rec) (rows es : List (Key × Rec)) (at : ℕ) (told : List ℕ → Bool)
      → IsMarking m r from key test marks rows → rows ≡ e ∷ es → IsRowMarked at told names marks next
      → ((path : ℕ) (n : List ℕ)
      → (eq_by_cmp key_cmp (key path n) e.0 && test n (Some e.1)) ≡ (nat_eq path at && told n))
      → IsMarking m r from key test next es
  marks_more marks next e rows es at told marking walked marked here =
      let before = subst (IsMarking m r from key test marks) walked marking in record {
        rise = second_holds _ _ before.rise;
        after = before.after.1;
        sum = λ path mif low high above below.
            let image = name_at (lookup_of m) (image_in r.css mif) in
            step path mif above below (nat_eq path at) refl
            ∙ ap (λ b. mark_at marks path mif || b) (sym (opened path at told e es before.rise (here path) image))
            ∙ before.sum path mif low high above below;
      }
    where
      step : (path mif : ℕ) → 0 < mif → mif < 16 → (b : Bool) → nat_eq path at ≡ b
          → (mark_at next path mif
          || test_of key test (λ k. find key_cmp k es) path (name_at (lookup_of m) (image_in r.css mif)))
          ≡ (mark_at marks path mif || ((nat_eq path at && is_named told (name_at (lookup_of m) (image_in r.css mif)))
          || test_of key test (λ k. find key_cmp k es) path (name_at (lookup_of m) (image_in r.css mif))))
      step path mif above below true tie =
          let image = name_at (lookup_of m) (image_in r.css mif) in
          let rest = test_of key test (λ k. find key_cmp k es) path image in
          let same : path ≡ at = eqb-true path at tie in
          ap (λ b. b || rest) (subst (λ (p : ℕ). mark_at next p mif ≡ (mark_at marks p mif || is_named told image))
          (sym same)
          (marked.here mif above below
          ∙ ap (λ o. mark_at marks at mif || is_named told o) (known.each mif above below)))
          ∙ shift (mark_at marks path mif) (is_named told image) rest
          ∙ ap (λ b. mark_at marks path mif || ((b && is_named told image) || rest)) (sym tie)
      step path mif above below false tie =
          let image = name_at (lookup_of m) (image_in r.css mif) in
          let rest = test_of key test (λ k. find key_cmp k es) path image in
          ap (λ b. b || rest) (marked.others path mif (eqb-false path at tie) below)
          ∙ ap (λ b. mark_at marks path mif || ((b && is_named told image) || rest)) (sym tie)

  last : (b c d : Bool) → c ≡ false → (b || c) ≡ d → b ≡ d
  last true c d none sum = sum
  last false c d none sum = sym none ∙ sum

  nothing_told : (rows : List (Key × Rec)) (path : ℕ) → ((n : List ℕ) → find key_cmp (key path n) rows ≡ None)
      → (image : Option (List ℕ))
      → test_of key test (λ k. find key_cmp k rows) path image ≡ false
  nothing_told rows path absent None = refl
  nothing_told rows path absent (Some n) = ap (test n) (absent n) ∙ none n

  -- after the last row
  pub marks_end : (marks : List Bool) → IsMarking m r from key test marks []
      → AreMarksOf (λ path mif. test_of key test (lookup_of m) path (name_at (lookup_of m) (image_in r.css mif))) r
      marks
  marks_end marks marking path mif low high above below =
      last (mark_at marks path mif) _ _ (nothing_told [] path (λ n. refl) (name_at (lookup_of m) (image_in r.css mif)))
      (marking.sum path mif low high above below)

  -- at a row that is behind all of the range
  pub marks_stop : (marks : List Bool) (e : Key × Rec) (rows es : List (Key × Rec))
      → IsMarking m r from key test marks rows → rows ≡ e ∷ es
      → (is_le (key_cmp from e.0) ≡ true → (path : ℕ) (n : List ℕ) → path ≤ r.last → key_cmp (key path n) e.0 ≡ Less)
      → AreMarksOf (λ path mif. test_of key test (lookup_of m) path (name_at (lookup_of m) (image_in r.css mif))) r
      marks
  marks_stop marks e rows es marking walked behind path mif low high above below =
      let before = subst (IsMarking m r from key test marks) walked marking in
      last (mark_at marks path mif) _ _
      (nothing_told (e ∷ es) path (λ n. none_before e es before.rise (key path n) (behind before.after.0 path n high))
      (name_at (lookup_of m) (image_in r.css mif)))
      (before.sum path mif low high above below)
