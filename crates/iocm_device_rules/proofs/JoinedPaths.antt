-- Path lists, one path and one control unit after the other.
use Rattle.std.proofs.Common.{◌≡◌, ◌≢◌, ℕ, suc, zero, ◌+◌, ◌<◌, ◌≤◌, Bool, true, false, cond, ◌||◌, nat_eq, nat_lt}
use Rattle.std.proofs.Common.{List, [], ◌∷◌, ◌++◌, map, filter, length, get_or, drop, Option, Some, None, refl, sym, ap}
use Rattle.std.proofs.Common.{◌∙◌, append_assoc, arith, length-append}
use Rattle.std.proofs.lemmas.Bool.{ltb-true, lt-ltb}
use Rattle.std.proofs.lemmas.Bool.Decides.{nat_tests}
use Rattle.std.proofs.lemmas.List.Folds.{list_any-append}
use Rattle.std.proofs.Math.ListN.{drop_of_length-le}
use Rattle.std.specs.List.{list_any}
use Rattle.iocm_types.proofs.Lists.{drop-item}
use Rattle.iocm_types.specs.declared.css_path.CssPath.{CssPath}
use Rattle.iocm_types.specs.declared.key.Key.TheVariants as key
use Rattle.iocm_model.specs.Machine.Record.{Rec, id, resource, image, limit, path, unit, device, online}
use Rattle.iocm_model.specs.Machine.Configuration.{Lookup}
use Rattle.iocm_model.specs.Machine.Numbering.{subsystems}
use Rattle.iocm_model.specs.Machine.PathList.{paths_in, unit_record_paths, path_list}
use Rattle.iocm_model.specs.Rules.EachRule.{has_twice}
use Rattle.iocm_device_rules.specs.Joining.{is_wrong_list, all_paths, IsWrongWith}

-- ---- lists that are wrong

-- with more behind it a path that stood twice still does
still_twice : (xs ys : List ℕ) → has_twice xs ≡ true → has_twice (xs ++ ys) ≡ true
still_twice [] ys h = cc
still_twice (x ∷ xs) ys h = by (list_any (nat_eq x) xs) refl h (still_twice xs ys)
  where
    by : (b : Bool) → list_any (nat_eq x) xs ≡ b → (b || has_twice xs) ≡ true
        → (has_twice xs ≡ true → has_twice (xs ++ ys) ≡ true)
        → (list_any (nat_eq x) (xs ++ ys) || has_twice (xs ++ ys)) ≡ true
    by true is h more = ap (λ b. b || has_twice (xs ++ ys))
        (list_any-append (nat_eq x) xs ys ∙ ap (λ b. b || list_any (nat_eq x) ys) is)
    by false is h more = ap (λ b. list_any (nat_eq x) (xs ++ ys) || b) (more h)
        ∙ or_true (list_any (nat_eq x) (xs ++ ys))
      where
        or_true : (b : Bool) → (b || true) ≡ true
        or_true true = refl
        or_true false = refl

turned : (x y : ℕ) → nat_eq x y ≡ nat_eq y x
turned x y = grind (arith, nat_tests)

-- a path behind others: it stands twice where it is among them
twice_with : (xs : List ℕ) (x : ℕ) → has_twice (xs ++ x ∷ []) ≡ (list_any (nat_eq x) xs || has_twice xs)
twice_with [] x = refl
twice_with (y ∷ xs) x =
    (λ i. list_any-append (nat_eq y) xs (x ∷ []) i || twice_with xs x i)
    ∙ ap (λ b. (list_any (nat_eq y) xs || (b || false)) || (list_any (nat_eq x) xs || has_twice xs)) (turned y x)
    ∙ shuffled (list_any (nat_eq y) xs) (nat_eq x y) (list_any (nat_eq x) xs) (has_twice xs)
  where
    shuffled : (a b c d : Bool) → ((a || (b || false)) || (c || d)) ≡ ((b || c) || (a || d))
    shuffled true true c d = refl
    shuffled true false true d = refl
    shuffled true false false d = refl
    shuffled false true c d = refl
    shuffled false false true d = refl
    shuffled false false false d = refl

or_second : (a b : Bool) → b ≡ true → (a || b) ≡ true
or_second true b h = refl
or_second false b h = h

-- a list that is wrong is wrong with more behind it
pub still_wrong : (xs ys : List ℕ) → is_wrong_list xs ≡ true → is_wrong_list (xs ++ ys) ≡ true
still_wrong xs ys h = by (nat_lt 8 (length xs)) refl h
  where
    by : (b : Bool) → nat_lt 8 (length xs) ≡ b → (b || has_twice xs) ≡ true → is_wrong_list (xs ++ ys) ≡ true
    by true is h =
        let long = ltb-true 8 (length xs) is in
        let longer : 8 < length (xs ++ ys) = simp length-append (omega arith) in
        ap (λ b. b || has_twice (xs ++ ys)) (lt-ltb 8 (length (xs ++ ys)) longer)
    by false is h = or_second (nat_lt 8 (length (xs ++ ys))) _ (still_twice xs ys h)

-- a ninth path
pub wrong_full : (xs : List ℕ) (x : ℕ) → length xs ≡ 8 → is_wrong_list (xs ++ x ∷ []) ≡ true
wrong_full xs x full =
    let longer : 8 < length (xs ++ x ∷ []) = simp length-append (omega arith) in
    ap (λ b. b || has_twice (xs ++ x ∷ [])) (lt-ltb 8 (length (xs ++ x ∷ [])) longer)

-- a path that is among them
pub wrong_again : (xs : List ℕ) (x : ℕ) → list_any (nat_eq x) xs ≡ true → is_wrong_list (xs ++ x ∷ []) ≡ true
wrong_again xs x there =
    or_second (nat_lt 8 (length (xs ++ x ∷ []))) _ (twice_with xs x ∙ ap (λ b. b || has_twice xs) there)

short_not_over : (n : ℕ) → n ≤ 8 → nat_lt 8 n ≡ false
short_not_over n short = grind (arith, nat_tests)

-- any other path behind at most seven
pub right_longer : (xs : List ℕ) (x : ℕ) → length xs ≤ 8 → length xs ≢ 8 → list_any (nat_eq x) xs ≡ false
    → is_wrong_list (xs ++ x ∷ []) ≡ is_wrong_list xs
right_longer xs x most not_full apart =
    let longer : length (xs ++ x ∷ []) ≤ 8 = simp length-append (omega arith) in
    (λ i. (short_not_over (length (xs ++ x ∷ [])) longer ∙ sym (short_not_over (length xs) most)) i
    || (twice_with xs x ∙ ap (λ b. b || has_twice xs) apart) i)

-- ---- the paths of a channel subsystem

paths_in_cons : (css : ℕ) (p : CssPath) (rest : List CssPath)
    → paths_in css (p ∷ rest) ≡ paths_in css (p ∷ []) ++ paths_in css rest
paths_in_cons css p rest =
    elim (nat_eq p.css css) as
    (λ b. map (λ (q : CssPath). q.path)
    (cond b (p ∷ filter (λ (q : CssPath). nat_eq q.css css) rest)
    (filter (λ (q : CssPath). nat_eq q.css css) rest))
    ≡ map (λ (q : CssPath). q.path) (cond b (p ∷ []) []) ++ paths_in css rest) [ true ↦ refl | false ↦ refl ]

own_path : (p : CssPath) → paths_in p.css (p ∷ []) ≡ p.path ∷ []
own_path p = ap (λ b. map (λ (q : CssPath). q.path) (cond b (p ∷ []) [])) (same p.css)
  where
    same : (n : ℕ) → nat_eq n n ≡ true
    same n = grind (arith, nat_tests)

-- the paths from one on are it and those after it
pub paths_opened : (css : ℕ) (ps : List CssPath) (i : ℕ) (p : CssPath) → i < length ps → p ≡ get_or ps i p
    → paths_in css (drop i ps) ≡ paths_in css (p ∷ []) ++ paths_in css (drop (i + 1) ps)
paths_opened css ps i p within item =
    ap (paths_in css) (drop-item ps i p within item) ∙ paths_in_cons css p (drop (i + 1) ps)

pub paths_past : (css : ℕ) (ps : List CssPath) (i : ℕ) → length ps ≤ i → paths_in css (drop i ps) ≡ []
paths_past css ps i past = ap (paths_in css) (drop_of_length-le ps past)

-- the paths of a unit in a channel subsystem are those of all its paths that are there
of_unit : (css : ℕ) (r : Option Rec) → unit_record_paths css r ≡ paths_in css (all_paths r)
of_unit css None = refl
of_unit css (Some (id x)) = refl
of_unit css (Some (resource x)) = refl
of_unit css (Some (image x)) = refl
of_unit css (Some (limit x)) = refl
of_unit css (Some (path x)) = refl
of_unit css (Some (unit x)) = refl
of_unit css (Some (device x)) = refl
of_unit css (Some (online x)) = refl

-- the path list from one unit on is its paths and those of the units after it
pub units_opened : (c : Lookup) (css : ℕ) (us : List ℕ) (i u : ℕ) (shown : List CssPath) → i < length us
    → u ≡ get_or us i u → shown ≡ all_paths (c (key.Unit u))
    → path_list c css (drop i us) ≡ paths_in css shown ++ path_list c css (drop (i + 1) us)
units_opened c css us i u shown within item is =
    ap (path_list c css) (drop-item us i u within item)
    ∙ ap (λ ps. ps ++ path_list c css (drop (i + 1) us)) (of_unit css (c (key.Unit u)) ∙ ap (paths_in css) (sym is))

pub units_past : (c : Lookup) (css : ℕ) (us : List ℕ) (i : ℕ) → length us ≤ i → path_list c css (drop i us) ≡ []
units_past c css us i past = ap (path_list c css) (drop_of_length-le us past)

-- ---- six lists

-- a path with which its list is wrong
pub wrong_with_path : (lists : List (List ℕ)) (p : CssPath) → p.css < 6
    → is_wrong_list (get_or lists p.css [] ++ p.path ∷ []) ≡ true
    → IsWrongWith lists (λ css. paths_in css (p ∷ []))
wrong_with_path lists p within wrong = record {
  css = p.css;
  within = within;
  wrong = λ rest.
      ap (λ ps. is_wrong_list (get_or lists p.css [] ++ (ps ++ rest))) (own_path p)
      ∙ ap is_wrong_list (sym (append_assoc (get_or lists p.css []) (p.path ∷ []) rest))
      ∙ still_wrong (get_or lists p.css [] ++ p.path ∷ []) rest wrong;
}

-- lists that are wrong with the first of what is left are wrong with all
pub wrong_with_all : (old lists : List (List ℕ)) (all more rest : ℕ → List ℕ)
    → ((css : ℕ) → css < 6 → get_or lists css [] ++ (more css ++ rest css) ≡ get_or old css [] ++ all css)
    → IsWrongWith lists more → IsWrongWith old all
wrong_with_all old lists all more rest same w = record {
  css = w.css;
  within = w.within;
  wrong = λ behind.
      ap is_wrong_list (sym (append_assoc (get_or old w.css []) (all w.css) behind)
      ∙ ap (λ ps. ps ++ behind) (sym (same w.css w.within))
      ∙ append_assoc (get_or lists w.css []) (more w.css ++ rest w.css) behind
      ∙ ap (λ ps. get_or lists w.css [] ++ ps) (append_assoc (more w.css) (rest w.css) behind))
      ∙ w.wrong (rest w.css ++ behind);
}

-- ---- some channel subsystem

pub some_subsystem : (test : ℕ → Bool) (css : ℕ) → css < 6 → test css ≡ true → list_any test subsystems ≡ true
some_subsystem test zero low h = rw h refl
some_subsystem test (suc zero) low h = or_second (test 0) _ (rw h refl)
some_subsystem test (suc (suc zero)) low h = or_second (test 0) _ (or_second (test 1) _ (rw h refl))
some_subsystem test (suc (suc (suc zero))) low h =
    or_second (test 0) _ (or_second (test 1) _ (or_second (test 2) _ (rw h refl)))
some_subsystem test (suc (suc (suc (suc zero)))) low h =
    or_second (test 0) _ (or_second (test 1) _ (or_second (test 2) _ (or_second (test 3) _ (rw h refl))))
some_subsystem test (suc (suc (suc (suc (suc zero))))) low h =
    or_second (test 0) _ (or_second (test 1) _
    (or_second (test 2) _ (or_second (test 3) _ (or_second (test 4) _ (rw h refl)))))
some_subsystem test (suc (suc (suc (suc (suc (suc n)))))) low h = absurd (omega arith)
