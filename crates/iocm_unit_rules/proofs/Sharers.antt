-- The units that share an address are among those that name its paths.
use Rattle.std.proofs.Common.{◌≡◌, ℕ, Bool, true, false, cond, ◌&&◌, ◌||◌, ◌==◌, nat_eq, None, Some, List, [], ◌∷◌, map}
use Rattle.std.proofs.Common.{refl, sym, ap, ◌∙◌, arith}
use Rattle.std.proofs.lemmas.Bool.{false≢true}
use Rattle.std.proofs.lemmas.Bool.Decides.{nat_tests}
use Rattle.std.specs.List.{list_any, AllByRecursion}
use Rattle.std.specs.List.Sorted.{IsStrictlySortedBy}
use Rattle.std.specs.Ordering.{is_lt, eq_by_cmp}
use Rattle.std.specs.declared.cmp.Ordering.{Ordering}
use Rattle.std.specs.declared.cmp.Ordering.TheVariants.{Less, Equal, Greater}
use Rattle.iocm_types.specs.declared.css_path.CssPath.{CssPath}
use Rattle.iocm_types.specs.declared.key.Key.{Key}
use Rattle.iocm_types.specs.declared.key.Key.TheVariants as key
use Rattle.iocm_types.specs.declared.link.Link.{Link}
use Rattle.iocm_types.specs.declared.link.Link.TheVariants as link
use Rattle.iocm_types.specs.declared.named.Named.TheVariants as thing
use Rattle.iocm_types.specs.declared.naming.Naming.{Naming}
use Rattle.iocm_types.specs.Key.{key_cmp}
use Rattle.iocm_types.specs.KeyOrder.{keys_total}
use Rattle.iocm_types.specs.Naming.{named_cmp, naming_cmp}
use Rattle.iocm_table.specs.Slots.{Stored, rows}
use Rattle.iocm_types.proofs.Found.{ties_itself}
use Rattle.iocm_index.proofs.Front.{named_total}
use Rattle.iocm_index.proofs.Members.{users_name_it}
use Rattle.iocm_model.specs.Machine.Record.{UnitRecord, unit, key_of}
use Rattle.iocm_model.specs.Machine.Configuration.{Configuration, IsKeyed, lookup_of, Lookup}
use Rattle.iocm_model.specs.Machine.Naming.{path_named}
use Rattle.iocm_model.specs.Machine.Numbering.{subsystems}
use Rattle.iocm_model.specs.Machine.PathList.{paths_in}
use Rattle.iocm_model.specs.Rules.EachRule.{stands_before, some_before, answers_for, share_link, linked_paths, links_in}
use Rattle.iocm_model.specs.Rules.EachRule.{with_links, same_link}
use Rattle.iocm_lookup.specs.Indexed.{names, IsIndexOf}
use Rattle.iocm_lookup.proofs.Anys.{any_implies, any_weaker, or_later}
use Rattle.iocm_lookup.proofs.Members.{own_path, record_there, user_found}
use Rattle.iocm_unit_rules.specs.Links.{is_on_link, share_link_on}
use Rattle.iocm_unit_rules.specs.Sharing.{clashes, clashes_before, clashes_on, is_on_its_link, told_by}
use Rattle.iocm_unit_rules.proofs.PathNumbers.{is_path, path_among}

-- four tests in another order
pub all_four : (d a b c : Bool) → (b && c) ≡ true → (d && a) ≡ (d && ((a && b) && c))
all_four d true true true h = refl
all_four d true true false h = cc
all_four d true false c h = cc
all_four d false b c h = refl

pub not_all_four : (d a b c : Bool) → (b && c) ≡ false → false ≡ (d && ((a && b) && c))
not_all_four true true true c h = sym h
not_all_four true true false c h = refl
not_all_four true false b c h = refl
not_all_four false a b c h = refl

-- two of three tests, and the third
without_middle : (a b c : Bool) → (a && (b && c)) ≡ true → (a && c) ≡ true
without_middle true true c h = h
without_middle true false c h = cc
without_middle false b c h = h

pub with_middle : (a b c : Bool) → (a && c) ≡ true → b ≡ true → (a && (b && c)) ≡ true
with_middle a true c h m = h
with_middle a false c h m = cc

neither_first : (a b : Bool) → (a || b) ≡ false → a ≡ false
neither_first true b h = h
neither_first false b h = refl

neither_second : (a b : Bool) → (a || b) ≡ false → b ≡ false
neither_second true b h = cc
neither_second false b h = h

pub first_of : (a b : Bool) → (a && b) ≡ true → a ≡ true
first_of true b h = refl
first_of false b h = cc

pub second_of : (a b : Bool) → (a && b) ≡ true → b ≡ true
second_of true b h = h
second_of false b h = cc

pub same_number : (a b : ℕ) → nat_eq a b ≡ true → a ≡ b
same_number a b h = grind (arith, nat_tests)

turned : (a b : ℕ) → nat_eq a b ≡ nat_eq b a
turned a b = grind (arith, nat_tests)

-- ---- units that share a path

-- a path with its link that passes is a path that does
linked_any : (test : ℕ × Link → Bool) (other : ℕ → Bool) → ((x : ℕ × Link) → test x ≡ true → other x.0 ≡ true)
    → (ns : List ℕ) (ls : List Link)
    → list_any test (with_links ns ls) ≡ true → list_any other ns ≡ true
linked_any test other weaker [] ls any = any
linked_any test other weaker (n ∷ ns) [] any = by (test (n, link.None)) refl any (linked_any test other weaker ns [])
  where
    by : (b : Bool) → test (n, link.None) ≡ b → (b || list_any test (with_links ns [])) ≡ true
        → (list_any test (with_links ns []) ≡ true → list_any other ns ≡ true)
        → (other n || list_any other ns) ≡ true
    by true is h more = ap (λ b. b || list_any other ns) (weaker (n, link.None) is)
    by false is h more = or_later (other n) _ (more h)
linked_any test other weaker (n ∷ ns) (l ∷ ls) any = by (test (n, l)) refl any (linked_any test other weaker ns ls)
  where
    by : (b : Bool) → test (n, l) ≡ b → (b || list_any test (with_links ns ls)) ≡ true
        → (list_any test (with_links ns ls) ≡ true → list_any other ns ≡ true)
        → (other n || list_any other ns) ≡ true
    by true is h more = ap (λ b. b || list_any other ns) (weaker (n, l) is)
    by false is h more = or_later (other n) _ (more h)

-- a path with its link that passes, where one does
record IsLinkedAmong (test : ℕ × Link → Bool) (ns : List ℕ) (ls : List Link) : Type 0 where
  item : ℕ × Link
  passes : test item ≡ true
  there : list_any (nat_eq item.0) ns ≡ true
  alike : list_any (λ (x : ℕ × Link). nat_eq item.0 x.0 && test x) (with_links ns ls) ≡ true

itself : (n : ℕ) → nat_eq n n ≡ true
itself n = grind (arith, nat_tests)

linked_found : (test : ℕ × Link → Bool) (ns : List ℕ) (ls : List Link) → list_any test (with_links ns ls) ≡ true
    → IsLinkedAmong test ns ls
linked_found test [] ls any = cc
linked_found test (n ∷ ns) [] any = by (test (n, link.None)) refl any (linked_found test ns [])
  where
    by : (b : Bool) → test (n, link.None) ≡ b → (b || list_any test (with_links ns [])) ≡ true
        → (list_any test (with_links ns []) ≡ true → IsLinkedAmong test ns [])
        → IsLinkedAmong test (n ∷ ns) []
    by true is h more = record {
      item = (n, link.None);
      passes = is;
      there = ap (λ b. b || list_any (nat_eq n) ns) (itself n);
      alike = λ i. (itself n i && is i) || list_any (λ (x : ℕ × Link). nat_eq n x.0 && test x) (with_links ns []);
    }
    by false is h more = let m = more h in record {
      item = m.item;
      passes = m.passes;
      there = or_later (nat_eq m.item.0 n) _ m.there;
      alike = or_later (nat_eq m.item.0 n && test (n, link.None)) _ m.alike;
    }
linked_found test (n ∷ ns) (l ∷ ls) any = by (test (n, l)) refl any (linked_found test ns ls)
  where
    by : (b : Bool) → test (n, l) ≡ b → (b || list_any test (with_links ns ls)) ≡ true
        → (list_any test (with_links ns ls) ≡ true → IsLinkedAmong test ns ls)
        → IsLinkedAmong test (n ∷ ns) (l ∷ ls)
    by true is h more = record {
      item = (n, l);
      passes = is;
      there = ap (λ b. b || list_any (nat_eq n) ns) (itself n);
      alike = λ i. (itself n i && is i) || list_any (λ (x : ℕ × Link). nat_eq n x.0 && test x) (with_links ns ls);
    }
    by false is h more = let m = more h in record {
      item = m.item;
      passes = m.passes;
      there = or_later (nat_eq m.item.0 n) _ m.there;
      alike = or_later (nat_eq m.item.0 n && test (n, l)) _ m.alike;
    }

-- a path that is among a unit's is named by it
named_among : (css n : ℕ) (ps : List CssPath) → list_any (is_path css n) ps ≡ true
    → list_any (eq_by_cmp named_cmp (thing.Record (key.Path css n))) (map path_named ps) ≡ true
named_among css n [] any = any
named_among css n (p ∷ ps) any = by (is_path css n p) refl any (named_among css n ps)
  where
    by : (b : Bool) → is_path css n p ≡ b → (b || list_any (is_path css n) ps) ≡ true
        → (list_any (is_path css n) ps ≡ true
        → list_any (eq_by_cmp named_cmp (thing.Record (key.Path css n))) (map path_named ps) ≡ true)
        → (eq_by_cmp named_cmp (thing.Record (key.Path css n)) (path_named p)
        || list_any (eq_by_cmp named_cmp (thing.Record (key.Path css n))) (map path_named ps)) ≡ true
    by true is h more = ap (λ b.
        b || list_any (eq_by_cmp named_cmp (thing.Record (key.Path css n))) (map path_named ps))
        (own_path css n p.css p.path
        (λ i. first_of (nat_eq p.css css) (nat_eq n p.path) is i
        && (turned p.path n ∙ second_of (nat_eq p.css css) (nat_eq n p.path) is) i))
    by false is h more = or_later (eq_by_cmp named_cmp (thing.Record (key.Path css n)) (path_named p)) _ (more h)

-- units that share a link share a path, on which they do
pub shared_path : (a b : UnitRecord) → share_link a b ≡ true
    → list_any (λ (p : CssPath).
    names (thing.Record (key.Path p.css p.path)) (Some (unit b)) && share_link_on p.css p.path a b) a.paths ≡ true
shared_path a b shares =
    any_implies (λ css. list_any (is_on_link css b) (linked_paths css a)) subsystems in_subsystem shares
  where
    in_subsystem : (css : ℕ) → list_any (is_on_link css b) (linked_paths css a) ≡ true
        → list_any (λ (p : CssPath).
        names (thing.Record (key.Path p.css p.path)) (Some (unit b)) && share_link_on p.css p.path a b) a.paths ≡ true
    in_subsystem css h =
        let m = linked_found (is_on_link css b) (paths_in css a.paths) (links_in css a.links) h in
        let n = m.item.0 in
        let in_other = linked_any (λ (q : ℕ × Link). (n == q.0) && same_link m.item.1 q.1) (nat_eq n)
        (λ y both. first_of (nat_eq n y.0) (same_link m.item.1 y.1) both)
        (paths_in css b.paths) (links_in css b.links) m.passes in
        let named = named_among css n b.paths (sym (path_among css n b.paths) ∙ in_other) in
        any_weaker (is_path css n)
        (λ (p : CssPath). names (thing.Record (key.Path p.css p.path)) (Some (unit b))
        && share_link_on p.css p.path a b)
        (λ p both. at_path css n p (same_number p.css css (first_of (nat_eq p.css css) _ both))
        (same_number n p.path (second_of (nat_eq p.css css) _ both)) named m.alike)
        a.paths (sym (path_among css n a.paths) ∙ m.there)
      where
        at_path : (css n : ℕ) (p : CssPath) → p.css ≡ css → n ≡ p.path
            → names (thing.Record (key.Path css n)) (Some (unit b)) ≡ true → share_link_on css n a b ≡ true
            → (names (thing.Record (key.Path p.css p.path)) (Some (unit b)) && share_link_on p.css p.path a b) ≡ true
        at_path css n p here same named alike =
            (λ i. names (thing.Record (key.Path (here i) (sym same i))) (Some (unit b))
            && share_link_on (here i) (sym same i) a b)
            ∙ (λ i. named i && alike i)

-- a path of a list that passes one test and not another
pub record IsPathAmong (test fails : CssPath → Bool) (ps : List CssPath) : Type 0 where
  pub path : CssPath
  pub passes : test path ≡ true
  pub passes_not : fails path ≡ false
  pub named : list_any (eq_by_cmp named_cmp (path_named path)) (map path_named ps) ≡ true

pub path_found : (test fails : CssPath → Bool) (ps : List CssPath) → list_any test ps ≡ true → list_any fails ps ≡ false
    → IsPathAmong test fails ps
path_found test fails [] any none = cc
path_found test fails (p ∷ ps) any none = by (test p) refl any (path_found test fails ps)
  where
    by : (b : Bool) → test p ≡ b → (b || list_any test ps) ≡ true
        → (list_any test ps ≡ true → list_any fails ps ≡ false → IsPathAmong test fails ps)
        → IsPathAmong test fails (p ∷ ps)
    by true is h more = record {
      path = p;
      passes = is;
      passes_not = neither_first (fails p) _ none;
      named = ap (λ b. b || list_any (eq_by_cmp named_cmp (path_named p)) (map path_named ps))
          (ties_itself named_cmp named_total (path_named p));
    }
    by false is h more = let later = more h (neither_second (fails p) _ none) in record {
      path = later.path;
      passes = later.passes;
      passes_not = later.passes_not;
      named = or_later (eq_by_cmp named_cmp (path_named later.path) (path_named p)) _ later.named;
    }

-- a unit that shares an address with a user of a path breaks the rule
pub clash_breaks : (c : Configuration) (t : Stored Naming (Unit {0})) → IsKeyed c → IsIndexOf c t
    → (u : UnitRecord) (p : CssPath)
    → clashes_on (lookup_of c) (rows naming_cmp t) u p ≡ true → some_before c (unit u) (answers_for u) ≡ true
clash_breaks c t keyed of u p any =
    let r = user_found c t (thing.Record (key.Path p.css p.path)) _ (clashes_before (lookup_of c) u p) keyed of
    (users_name_it (thing.Record (key.Path p.css p.path)) (rows naming_cmp t)) any in
    record_there c (λ r. stands_before r (unit u) && answers_for u r) (key_of r.user) r.user r.there
    (without_middle (is_lt (key_cmp (key_of r.user) (key.Unit u.number))) (is_on_its_link p u r.user)
    (answers_for u r.user)
    (sym (ap (λ o. is_lt (key_cmp (key_of r.user) (key.Unit u.number)) && clashes p u o) r.there) ∙ r.passes))

-- ---- users in order

-- keys in order without the first are in order
pub later_order : (q : Key) (qs : List Key) → IsStrictlySortedBy key_cmp (q ∷ qs) → IsStrictlySortedBy key_cmp qs
unfolding IsStrictlySortedBy
later_order q qs up = up.1

-- what is behind a key that isn't before another isn't either
not_before : (q p k : Key) → is_lt (key_cmp q k) ≡ false → key_cmp q p ≡ Less → is_lt (key_cmp p k) ≡ false
not_before q p k not less = by (key_cmp p k) refl
  where
    by : (r : Ordering) → key_cmp p k ≡ r → is_lt (key_cmp p k) ≡ false
    by Less is = absurd (false≢true (sym not ∙ ap is_lt (keys_total.trans q p k less is)))
    by Equal is = ap is_lt is
    by Greater is = ap is_lt is

-- from a user on that isn't before a unit none clashes before it
none_behind_clashes : (c : Lookup) (u : UnitRecord) (p : CssPath) (q : Key) (qs : List Key)
    → is_lt (key_cmp q (key.Unit u.number)) ≡ false
    → IsStrictlySortedBy key_cmp (q ∷ qs) → list_any (clashes_before c u p) (q ∷ qs) ≡ false
unfolding IsStrictlySortedBy
none_behind_clashes c u p q qs not up =
    ap (λ b. (b && clashes p u (c q)) || list_any (clashes_before c u p) qs) not ∙ later qs up.0
  where
    later : (ks : List Key) → AllByRecursion (λ k. key_cmp q k ≡ Less) ks → list_any (clashes_before c u p) ks ≡ false
    later [] all = refl
    later (k ∷ ks) all = ap (λ b. (b && clashes p u (c k)) || list_any (clashes_before c u p) ks)
        (not_before q k (key.Unit u.number) not all.0) ∙ later ks all.1

-- what a user says is so of it and of those behind it
pub told_is : (c : Lookup) (u : UnitRecord) (p : CssPath) (q : Key) (qs : List Key) (a : Bool)
    → told_by c u p q ≡ Some a → IsStrictlySortedBy key_cmp (q ∷ qs)
    → list_any (clashes_before c u p) (q ∷ qs) ≡ a
told_is c u p q qs a told up = by (is_lt (key_cmp q (key.Unit u.number))) refl (clashes p u (c q)) refl told
  where
    by : (b : Bool) → is_lt (key_cmp q (key.Unit u.number)) ≡ b → (d : Bool) → clashes p u (c q) ≡ d
        → cond b (cond d (Some true) None) (Some false) ≡ Some a → list_any (clashes_before c u p) (q ∷ qs) ≡ a
    by true is true does told = let same : true ≡ a = cc in
        (λ i. (is i && does i) || list_any (clashes_before c u p) qs) ∙ same
    by true is false does told = cc
    by false is d does told = let same : false ≡ a = cc in none_behind_clashes c u p q qs is up ∙ same

-- one that says nothing is none
pub untold : (c : Lookup) (u : UnitRecord) (p : CssPath) (q : Key) → told_by c u p q ≡ None
    → clashes_before c u p q ≡ false
untold c u p q told = by (is_lt (key_cmp q (key.Unit u.number))) refl (clashes p u (c q)) refl told
  where
    by : (b : Bool) → is_lt (key_cmp q (key.Unit u.number)) ≡ b → (d : Bool) → clashes p u (c q) ≡ d
        → cond b (cond d (Some true) None) (Some false) ≡ None → clashes_before c u p q ≡ false
    by true is true does told = cc
    by true is false does told = λ i. is i && does i
    by false is d does told = cc
