-- The numbers after a change: who has one, who keeps its own, who gets the one that was carried.
use Rattle.std.proofs.Common.{◌≡◌, ℕ, Bool, true, false, cond, not, ◌&&◌, ◌||◌, List, [], ◌∷◌, Option, Some, None}
use Rattle.std.proofs.Common.{is_some, refl, sym, ap, ◌∙◌}
use Rattle.std.proofs.lemmas.Bool.{and_parts, not-true}
use Rattle.std.specs.List.{fold, list_any}
use Rattle.std.specs.Ordering.{eq_by_cmp}
use Rattle.std.specs.FinMap.{find, get, insert, contains_key, get-insert, get-retain_keys}
use Rattle.iocm_types.specs.declared.place.Place.{Place}
use Rattle.iocm_types.specs.Place.{place_cmp}
use Rattle.iocm_types.specs.KeyOrder.{places_total, places_exact}
use Rattle.iocm_types.proofs.Found.{same_key, ties_itself}
use Rattle.iocm_types.proofs.Parts.{untied}
use Rattle.iocm_model.specs.Machine.Configuration.{Configuration}
use Rattle.iocm_model.specs.Machine.Numbering.{Numbering, reached_places, is_reached_at}
use Rattle.iocm_model.specs.Change.Renumbering.{lowest_free, without_leavers, with_carried, with_lowest, numbers_after}
use Rattle.iocm_model.specs.Laws.Numbers.{NumbersAfterAreExact, StayersKeepTheirs, CarriedComeBack}

-- ---- one number more

-- a place has the number that it is given
pub given : (n : Numbering) (p : Place) (number : ℕ) → get (insert n p number) p ≡ Some number
given n p number = get-insert places_total n p number p
    ∙ ap (λ b. cond b (Some number) (get n p)) (ties_itself place_cmp places_total p)

-- another place has what it had
pub other_place : (n : Numbering) (p q : Place) (number : ℕ) → eq_by_cmp place_cmp q p ≡ false
    → get (insert n p number) q ≡ get n q
other_place n p q number apart = get-insert places_total n p number q ∙ ap (λ b. cond b (Some number) (get n q)) apart

-- a place that has a number is another than one that has none
new_is_other : (n : Numbering) (p q : Place) (k : ℕ) → contains_key n p ≡ false → get n q ≡ Some k
    → eq_by_cmp place_cmp q p ≡ false
new_is_other n p q k new has =
    untied place_cmp places_exact q p (λ same. let there = ap is_some (sym (ap (get n) same) ∙ has) in cc)

-- a place that has a number keeps it when another that has none is given one
pub keeps : (n : Numbering) (p q : Place) (number k : ℕ) → contains_key n p ≡ false → get n q ≡ Some k
    → get (insert n p number) q ≡ Some k
keeps n p q number k new has = other_place n p q number (new_is_other n p q k new has) ∙ has

-- ---- those that leave, and those that stay

-- a place has after the leavers went what it had, if it is reached
pub get_without : (c : Configuration) (n : Numbering) (p : Place)
    → get (without_leavers c n) p ≡ cond (is_reached_at c p) (get n p) None
get_without c n p = get-retain_keys n (is_reached_at c) p (λ x e. ap (is_reached_at c) (sym (places_exact p x e)))

-- one that stays has what it had
pub stays : (c : Configuration) (n : Numbering) (p : Place) → is_reached_at c p ≡ true
    → get (without_leavers c n) p ≡ get n p
stays c n p in_reach = get_without c n p ∙ ap (λ b. cond b (get n p) None) in_reach

-- one that leaves has none
pub leaves : (c : Configuration) (n : Numbering) (p : Place) → is_reached_at c p ≡ false
    → get (without_leavers c n) p ≡ None
leaves c n p out = get_without c n p ∙ ap (λ b. cond b (get n p) None) out

-- one that has none gets none
pub none_stays : (c : Configuration) (n : Numbering) (p : Place) → get n p ≡ None → get (without_leavers c n) p ≡ None
none_stays c n p none = get_without c n p ∙ ap (λ o. cond (is_reached_at c p) o None) none ∙ neither (is_reached_at c p)
  where
    neither : (b : Bool) → cond {A = Option ℕ} b None None ≡ None
    neither true = refl
    neither false = refl

-- ---- carried places

module _ (c : Configuration) where
  -- a place that comes in has none yet
  pub comes_new : (n : Numbering) (x : Place × ℕ) → (is_reached_at c x.0 && not (contains_key n x.0)) ≡ true
      → contains_key n x.0 ≡ false
  comes_new n x e = not-true _ (and_parts (is_reached_at c x.0) _ e).1

  -- and is reached
  pub comes_reached : (n : Numbering) (x : Place × ℕ) → (is_reached_at c x.0 && not (contains_key n x.0)) ≡ true
      → is_reached_at c x.0 ≡ true
  comes_reached n x e = (and_parts (is_reached_at c x.0) _ e).0

  -- one carried place keeps what is there, by whether it comes in
  carried_keeps_by : (n : Numbering) (x : Place × ℕ) (p : Place) (k : ℕ) (b : Bool)
      → (is_reached_at c x.0 && not (contains_key n x.0)) ≡ b → get n p ≡ Some k
      → get (cond b (insert n x.0 x.1) n) p ≡ Some k
  carried_keeps_by n x p k true e has = keeps n x.0 p x.1 k (comes_new n x e) has
  carried_keeps_by n x p k false e has = has

  -- a number that is there stays while the carried ones come
  pub carried_keep : (n : Numbering) (xs : List (Place × ℕ)) (p : Place) (k : ℕ) → get n p ≡ Some k
      → get (fold (with_carried c) n xs) p ≡ Some k
  carried_keep n [] p k has = has
  carried_keep n (x ∷ xs) p k has =
      carried_keep (with_carried c n x) xs p k
      (carried_keeps_by n x p k (is_reached_at c x.0 && not (contains_key n x.0)) refl has)

  -- a place that is reached is another than one that isn't
  reached_is_other : (p q : Place) → is_reached_at c p ≡ false → is_reached_at c q ≡ true
      → eq_by_cmp place_cmp p q ≡ false
  reached_is_other p q out in_reach =
      untied place_cmp places_exact p q (λ same. let state_reached = ap (is_reached_at c) same in cc)

  -- one carried place gives none to a place that isn't reached, by whether it comes in
  carried_not_by : (n : Numbering) (x : Place × ℕ) (p : Place) (b : Bool)
      → (is_reached_at c x.0 && not (contains_key n x.0)) ≡ b → is_reached_at c p ≡ false
      → get (cond b (insert n x.0 x.1) n) p ≡ get n p
  carried_not_by n x p true e out = other_place n x.0 p x.1 (reached_is_other p x.0 out (comes_reached n x e))
  carried_not_by n x p false e out = refl

  -- none comes to a place that isn't reached
  pub carried_not : (n : Numbering) (xs : List (Place × ℕ)) (p : Place) → is_reached_at c p ≡ false
      → get (fold (with_carried c) n xs) p ≡ get n p
  carried_not n [] p out = refl
  carried_not n (x ∷ xs) p out =
      carried_not (with_carried c n x) xs p out
      ∙ carried_not_by n x p (is_reached_at c x.0 && not (contains_key n x.0)) refl out

  -- one carried place changes no other, by whether it comes in
  pub other_carried_by : (n : Numbering) (x : Place × ℕ) (p : Place) (b : Bool) → eq_by_cmp place_cmp p x.0 ≡ false
      → get (cond b (insert n x.0 x.1) n) p ≡ get n p
  other_carried_by n x p true apart = other_place n x.0 p x.1 apart
  other_carried_by n x p false apart = refl

  -- a place that is reached and has none gets the number that is carried for it
  arrives : (n : Numbering) (p : Place) (number : ℕ) → is_reached_at c p ≡ true → get n p ≡ None
      → get (with_carried c n (p, number)) p ≡ Some number
  arrives n p number in_reach none =
      let comes : (is_reached_at c p && not (contains_key n p)) ≡ true = (λ i. in_reach i && not (is_some (none i))) in
      ap (λ b. get (cond b (insert n p number) n) p) comes ∙ given n p number

  -- the step of `carried_come`, by whether the first carried place is this one
  come_by : (n : Numbering) (x : Place × ℕ) (xs : List (Place × ℕ)) (p : Place) (k : ℕ) (b : Bool)
      → eq_by_cmp place_cmp p x.0 ≡ b
      → is_reached_at c p ≡ true → get n p ≡ None
      → (get (with_carried c n x) p ≡ None → find place_cmp p xs ≡ Some k
      → get (fold (with_carried c) (with_carried c n x) xs) p ≡ Some k)
      → cond b (Some x.1) (find place_cmp p xs) ≡ Some k
      → get (fold (with_carried c) (with_carried c n x) xs) p ≡ Some k
  come_by n x xs p k true t in_reach none more is =
      let same : p ≡ x.0 = same_key place_cmp places_exact p x.0 t in
      let here : get (with_carried c n x) x.0 ≡ Some x.1 =
      arrives n x.0 x.1 (ap (is_reached_at c) (sym same) ∙ in_reach) (ap (get n) (sym same) ∙ none) in
      carried_keep (with_carried c n x) xs p k (ap (get (with_carried c n x)) same ∙ here ∙ is)
  come_by n x xs p k false t in_reach none more is =
      more (other_carried_by n x p (is_reached_at c x.0 && not (contains_key n x.0)) t ∙ none) is

  -- a place that is reached and has none gets the first number that is carried for it
  pub carried_come : (n : Numbering) (xs : List (Place × ℕ)) (p : Place) (k : ℕ) → is_reached_at c p ≡ true
      → get n p ≡ None
      → find place_cmp p xs ≡ Some k → get (fold (with_carried c) n xs) p ≡ Some k
  carried_come n [] p k in_reach none is = cc
  carried_come n (x ∷ xs) p k in_reach none is =
      come_by n x xs p k (eq_by_cmp place_cmp p x.0) refl in_reach none
      (λ e f. carried_come (with_carried c n x) xs p k in_reach e f) is

-- ---- the lowest free numbers

-- one lowest free number keeps what is there, by whether its place had one
lowest_keeps_by : (n : Numbering) (q p : Place) (k : ℕ) (b : Bool) → contains_key n q ≡ b → get n p ≡ Some k
    → get (cond b n (insert n q (lowest_free n q.css q.set))) p ≡ Some k
lowest_keeps_by n q p k true e has = has
lowest_keeps_by n q p k false e has = keeps n q p (lowest_free n q.css q.set) k e has

-- a number that is there stays while the others come
pub lowest_keep : (n : Numbering) (ps : List Place) (p : Place) (k : ℕ) → get n p ≡ Some k
    → get (fold with_lowest n ps) p ≡ Some k
lowest_keep n [] p k has = has
lowest_keep n (q ∷ ps) p k has =
    lowest_keep (with_lowest n q) ps p k (lowest_keeps_by n q p k (contains_key n q) refl has)

-- one lowest free number changes no other place, by whether its place had one
pub other_lowest_by : (n : Numbering) (q p : Place) (b : Bool) → eq_by_cmp place_cmp p q ≡ false
    → get (cond b n (insert n q (lowest_free n q.css q.set))) p ≡ get n p
other_lowest_by n q p true apart = refl
other_lowest_by n q p false apart = other_place n q p (lowest_free n q.css q.set) apart

-- the step of `lowest_not`, by whether the first place is this one
lowest_not_by : (n : Numbering) (q : Place) (ps : List Place) (p : Place) (b : Bool) → eq_by_cmp place_cmp p q ≡ b
    → (list_any (eq_by_cmp place_cmp p) ps ≡ false
    → get (fold with_lowest (with_lowest n q) ps) p ≡ get (with_lowest n q) p)
    → (b || list_any (eq_by_cmp place_cmp p) ps) ≡ false → get (fold with_lowest (with_lowest n q) ps) p ≡ get n p
lowest_not_by n q ps p true t more out = cc
lowest_not_by n q ps p false t more out = more out ∙ other_lowest_by n q p (contains_key n q) t

-- none comes to a place that is not of the list
pub lowest_not : (n : Numbering) (ps : List Place) (p : Place) → list_any (eq_by_cmp place_cmp p) ps ≡ false
    → get (fold with_lowest n ps) p ≡ get n p
lowest_not n [] p out = refl
lowest_not n (q ∷ ps) p out =
    lowest_not_by n q ps p (eq_by_cmp place_cmp p q) refl (lowest_not (with_lowest n q) ps p) out

-- a place that has a number has one still
still_there : (n : Numbering) (ps : List Place) (p : Place) (o : Option ℕ) → get n p ≡ o → is_some o ≡ true
    → contains_key (fold with_lowest n ps) p ≡ true
still_there n ps p None is there = cc
still_there n ps p (Some k) is there = ap is_some (lowest_keep n ps p k is)

-- a place has a number after its turn, by whether it had one
has_now_by : (n : Numbering) (q : Place) (b : Bool) → contains_key n q ≡ b
    → contains_key (cond b n (insert n q (lowest_free n q.css q.set))) q ≡ true
has_now_by n q true e = e
has_now_by n q false e = ap is_some (given n q (lowest_free n q.css q.set))

-- the step of `lowest_come`, by whether the first place is this one
lowest_come_by : (n : Numbering) (q : Place) (ps : List Place) (p : Place) (b : Bool) → eq_by_cmp place_cmp p q ≡ b
    → (list_any (eq_by_cmp place_cmp p) ps ≡ true → contains_key (fold with_lowest (with_lowest n q) ps) p ≡ true)
    → (b || list_any (eq_by_cmp place_cmp p) ps) ≡ true → contains_key (fold with_lowest (with_lowest n q) ps) p ≡ true
lowest_come_by n q ps p true t more out =
    let same : p ≡ q = same_key place_cmp places_exact p q t in
    still_there (with_lowest n q) ps p (get (with_lowest n q) p) refl
    (ap (contains_key (with_lowest n q)) same ∙ has_now_by n q (contains_key n q) refl)
lowest_come_by n q ps p false t more out = more out

-- each place of the list has one then
pub lowest_come : (n : Numbering) (ps : List Place) (p : Place) → list_any (eq_by_cmp place_cmp p) ps ≡ true
    → contains_key (fold with_lowest n ps) p ≡ true
lowest_come n [] p out = cc
lowest_come n (q ∷ ps) p out =
    lowest_come_by n q ps p (eq_by_cmp place_cmp p q) refl (lowest_come (with_lowest n q) ps p) out

-- ---- the laws

-- the numbers once those that stay and the carried ones have theirs
abbrev pub before_lowest : Configuration → List (Place × ℕ) → Numbering → Numbering
before_lowest c carried n = fold (with_carried c) (without_leavers c n) carried

-- who has a number after a change, by whether the place is reached
exact_by : (c : Configuration) (carried : List (Place × ℕ)) (n : Numbering) (p : Place) (b : Bool)
    → is_reached_at c p ≡ b
    → contains_key (numbers_after c carried n) p ≡ b
exact_by c carried n p true e = lowest_come (before_lowest c carried n) (reached_places c) p e
exact_by c carried n p false e =
    ap is_some (lowest_not (before_lowest c carried n) (reached_places c) p e
    ∙ carried_not c (without_leavers c n) carried p e ∙ leaves c n p e)

-- exactly the devices that are reached have a number
pub numbers_after_are_exact : NumbersAfterAreExact
numbers_after_are_exact c carried n p = exact_by c carried n p (is_reached_at c p) refl

-- those that stay keep theirs
pub stayers_keep_theirs : StayersKeepTheirs
stayers_keep_theirs c carried n p number in_reach has =
    lowest_keep (before_lowest c carried n) (reached_places c) p number
    (carried_keep c (without_leavers c n) carried p number (stays c n p in_reach ∙ has))

-- those that come in get what is carried for them
pub carried_come_back : CarriedComeBack
carried_come_back c carried n p number in_reach none is =
    lowest_keep (before_lowest c carried n) (reached_places c) p number
    (carried_come c (without_leavers c n) carried p number in_reach (stays c n p in_reach ∙ none) is)
