-- A seat that was whole is whole again, once a name that it lent has come back.
use Rattle.std.proofs.Common.{◌≡◌, ℕ, zero, suc, Bool, true, false, ◌&&◌, ◌||◌, List, [], ◌∷◌, ◌++◌, refl, sym, ap, ◌∙◌}
use Rattle.std.proofs.Common.{subst}
use Rattle.std.proofs.lemmas.Bool.{eq-eqb, false≢true}
use Rattle.iocm_board.specs.declared.view.Borne.{Borne}
use Rattle.iocm_board.specs.Names.{Name, all_home, are_home, bears, BearsSome, child, fresh, is_whole, lend, next_of}
use Rattle.iocm_board.specs.Names.{same}

same_name : (n : Name) → same n n ≡ true
same_name [] = refl
same_name (x ∷ xs) = ap (λ b. b && same xs xs) (eq-eqb x x refl) ∙ same_name xs

both : (a b : Bool) → (a && b) ≡ true → (a ≡ true) × (b ≡ true)
both true b e = (refl, e)
both false b e = absurd (false≢true e)

all_two : (a b : Bool) → a ≡ true → b ≡ true → (a && b) ≡ true
all_two a b e f = ap (λ x. x && b) e ∙ f

or_right : (a b : Bool) → b ≡ true → (a || b) ≡ true
or_right true b e = refl
or_right false b e = e

-- what is home among some names is home among more
home_in_more : (bs cs : List Borne) (p : Name) (k : ℕ) → ((n : Name) → bears bs n ≡ true → bears cs n ≡ true)
    → are_home bs p k ≡ true → are_home cs p k ≡ true
home_in_more bs cs p zero more h = refl
home_in_more bs cs p (suc k) more h =
    let two = both (bears bs (child p k)) (are_home bs p k) h in
    all_two (bears cs (child p k)) (are_home cs p k) (more (child p k) two.0) (home_in_more bs cs p k more two.1)

all_in_more : (bs cs ds : List Borne) → ((n : Name) → bears bs n ≡ true → bears cs n ≡ true) → all_home bs ds ≡ true
    → all_home cs ds ≡ true
all_in_more bs cs [] more h = refl
all_in_more bs cs (d ∷ ds) more h =
    let two = both (are_home bs d.name d.lent) (all_home bs ds) h in
    all_two (are_home cs d.name d.lent) (all_home cs ds) (home_in_more bs cs d.name d.lent more two.0)
    (all_in_more bs cs ds more two.1)

bears_more : (bs cs : List Borne) (n : Name) → bears bs n ≡ true → bears (bs ++ cs) n ≡ true
bears_more [] cs n h = absurd (false≢true h)
bears_more (b ∷ bs) cs n h = by (same b.name n) (bears_more bs cs n) h
  where
    by : (s : Bool) → (bears bs n ≡ true → bears (bs ++ cs) n ≡ true) → (s || bears bs n) ≡ true
        → (s || bears (bs ++ cs) n) ≡ true
    by true rest e = refl
    by false rest e = rest e

bears_last : (bs : List Borne) (n : Name) → bears (bs ++ fresh n) n ≡ true
bears_last [] n = ap (λ s. s || false) (same_name n)
bears_last (b ∷ bs) n = or_right (same b.name n) (bears (bs ++ fresh n) n) (bears_last bs n)

all_append : (bs cs : List Borne) (n : Name) → all_home bs cs ≡ true → all_home bs (cs ++ fresh n) ≡ true
all_append bs [] n h = refl
all_append bs (c ∷ cs) n h =
    let two = both (are_home bs c.name c.lent) (all_home bs cs) h in
    all_two (are_home bs c.name c.lent) (all_home bs (cs ++ fresh n)) two.0 (all_append bs cs n two.1)

-- one name lent, and back
pub whole_again : (bs : List Borne) → BearsSome bs → is_whole bs ≡ true
    → is_whole (lend bs ++ fresh (next_of bs)) ≡ true
whole_again bs some whole =
    subst (λ (ds : List Borne). is_whole (lend ds ++ fresh (next_of ds)) ≡ true) (sym some.2)
    (first some.0 some.1 (subst (λ (ds : List Borne). is_whole ds ≡ true) some.2 whole))
  where
    first : (c : Borne) (cs : List Borne) → is_whole (c ∷ cs) ≡ true
        → is_whole (lend (c ∷ cs) ++ fresh (next_of (c ∷ cs))) ≡ true
    first c cs whole =
        let new = child c.name c.lent in
        let all = lend (c ∷ cs) ++ fresh new in
        let two = both (bears (c ∷ cs) []) (all_home (c ∷ cs) (c ∷ cs)) whole in
        let homes = both (are_home (c ∷ cs) c.name c.lent) (all_home (c ∷ cs) cs) two.1 in
        let more : (n : Name) → bears (c ∷ cs) n ≡ true → bears all n ≡ true =
        λ n. bears_more (lend (c ∷ cs)) (fresh new) n in
        all_two (bears all []) (all_home all all) (more [] two.0)
        (all_two (bears all new && are_home all c.name c.lent) (all_home all (cs ++ fresh new))
        (all_two (bears all new) (are_home all c.name c.lent) (bears_last (lend (c ∷ cs)) new)
        (home_in_more (c ∷ cs) all c.name c.lent more homes.0))
        (all_append all cs new (all_in_more (c ∷ cs) all cs more homes.1)))
