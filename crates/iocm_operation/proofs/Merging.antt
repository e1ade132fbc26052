-- Receipts of several that are put together by number keep their order, each one's.
use Rattle.std.proofs.Common.{◌≡◌, ◌≤◌, ◌<◌, ℕ, suc, ◌==◌, nat_lt, Bool, true, false, cond, not, List, [], ◌∷◌, ◌++◌}
use Rattle.std.proofs.Common.{refl, sym, ap, ◌∙◌, subst, arith}
use Rattle.std.specs.Prelude.{filter}
use Rattle.std.specs.List.{AllByRecursion}
use Rattle.std.proofs.lemmas.Bool.{eqb-true, false_from_ne_true, false≢true, ltb-false, le-ltb}
use Rattle.iocm_board.specs.declared.view.Made.{Made}
use Rattle.iocm_board.specs.Receipts.{merged, put_in}
use Rattle.iocm_operation.specs.Marks.{Marked, MadeRise, all_of, those_of}

-- the receipts whose marks are among some
abbrev pub kept : (ℕ → Bool) → Marked → Marked
kept mine ms = filter (λ (m : ℕ × Made). mine m.0) ms

-- marked receipts are put together of those with some marks and the rest
pub record IsMerge (mine : ℕ → Bool) (xs old : Marked) (all : List Made) : Type 0 where
  pub marked : Marked
  pub all_are : all_of marked ≡ all
  pub mine_are : kept mine marked ≡ xs
  pub others_are : kept (λ n. not (mine n)) marked ≡ kept (λ n. not (mine n)) old

kept_yes : (mine : ℕ → Bool) (m : ℕ × Made) (ms : Marked) → mine m.0 ≡ true → kept mine (m ∷ ms) ≡ m ∷ kept mine ms
kept_yes mine m ms e = ap (λ b. cond b (m ∷ kept mine ms) (kept mine ms)) e

kept_no : (mine : ℕ → Bool) (m : ℕ × Made) (ms : Marked) → mine m.0 ≡ false → kept mine (m ∷ ms) ≡ kept mine ms
kept_no mine m ms e = ap (λ b. cond b (m ∷ kept mine ms) (kept mine ms)) e

-- one more in front of both
kept_more : (mine : ℕ → Bool) (m : ℕ × Made) (ks ls : Marked) → kept mine ks ≡ kept mine ls
    → kept mine (m ∷ ks) ≡ kept mine (m ∷ ls)
kept_more mine m ks ls e = ap (λ ms. cond (mine m.0) (m ∷ ms) ms) e

in_front : (mine : ℕ → Bool) (x : ℕ × Made) (xs ms : Marked) → mine x.0 ≡ true → kept mine ms ≡ xs
    → IsMerge mine (x ∷ xs) ms (x.1 ∷ all_of ms)
in_front mine x xs ms is_mine is =
    record {
      marked = x ∷ ms;
      all_are = refl;
      mine_are = kept_yes mine x ms is_mine ∙ ap (λ ys. x ∷ ys) is;
      others_are = kept_no (λ n. not (mine n)) x ms (ap not is_mine);
    }

behind : (mine : ℕ → Bool) (m : ℕ × Made) (xs ms : Marked) (all : List Made) → mine m.0 ≡ false → IsMerge mine xs ms all
    → IsMerge mine xs (m ∷ ms) (m.1 ∷ all)
behind mine m xs ms all is_not r =
    record {
      marked = m ∷ r.marked;
      all_are = ap (λ ys. m.1 ∷ ys) r.all_are;
      mine_are = kept_no mine m r.marked is_not ∙ r.mine_are;
      others_are = kept_more (λ n. not (mine n)) m r.marked ms r.others_are;
    }

rise_head : (from below : ℕ) (m : ℕ × Made) (xs ys : Marked) → xs ≡ m ∷ ys → MadeRise from (all_of xs) below
    → from ≤ m.1.number
rise_head from below m xs ys e rise = (subst (λ (zs : Marked). MadeRise from (all_of zs) below) e rise).0

-- a receipt that comes before those that have such marks
put_marked : (mine : ℕ → Bool) (x : ℕ × Made) (xs : Marked) (below : ℕ) (ms : Marked) → mine x.0 ≡ true
    → kept mine ms ≡ xs → MadeRise (suc x.1.number) (all_of xs) below
    → IsMerge mine (x ∷ xs) ms (put_in x.1 (all_of ms))
put_marked mine x xs below [] is_mine is rise = in_front mine x xs [] is_mine is
put_marked mine x xs below (m ∷ ms) is_mine is rise =
    by (nat_lt x.1.number m.1.number) refl
    (λ is_not. put_marked mine x xs below ms is_mine (sym (kept_no mine m ms is_not) ∙ is) rise)
  where
    here : Bool → List Made
    here b = cond b (x.1 ∷ m.1 ∷ all_of ms) (m.1 ∷ put_in x.1 (all_of ms))

    at : (b : Bool) → mine m.0 ≡ b → nat_lt x.1.number m.1.number ≡ false
        → (mine m.0 ≡ false → IsMerge mine (x ∷ xs) ms (put_in x.1 (all_of ms)))
        → IsMerge mine (x ∷ xs) (m ∷ ms) (m.1 ∷ put_in x.1 (all_of ms))
    at true e late rest = absurd
        (omega (
          arith,
          rise_head (suc x.1.number) below m xs (kept mine ms) (sym is ∙ kept_yes mine m ms e) rise,
          ltb-false x.1.number m.1.number late,
        ))
    at false e late rest = behind mine m (x ∷ xs) ms (put_in x.1 (all_of ms)) e (rest e)

    by : (b : Bool) → nat_lt x.1.number m.1.number ≡ b
        → (mine m.0 ≡ false → IsMerge mine (x ∷ xs) ms (put_in x.1 (all_of ms)))
        → IsMerge mine (x ∷ xs) (m ∷ ms) (here (nat_lt x.1.number m.1.number))
    by true early rest = subst (λ b. IsMerge mine (x ∷ xs) (m ∷ ms) (here b)) (sym early)
        (in_front mine x xs (m ∷ ms) is_mine is)
    by false late rest = subst (λ b. IsMerge mine (x ∷ xs) (m ∷ ms) (here b)) (sym late) (at (mine m.0) refl late rest)

-- receipts with marks of their own are put together with others
pub merged_marked : (mine : ℕ → Bool) (xs : Marked) (from below : ℕ) (ms : Marked)
    → AllByRecursion (λ (m : ℕ × Made). mine m.0 ≡ true) xs → kept mine ms ≡ []
    → MadeRise from (all_of xs) below → IsMerge mine xs ms (merged (all_of xs) (all_of ms))
merged_marked mine [] from below ms is_mine none rise =
    record { marked = ms; all_are = refl; mine_are = none; others_are = refl }
merged_marked mine (x ∷ xs) from below ms is_mine none rise =
    let rest = merged_marked mine xs (suc x.1.number) below ms is_mine.1 none rise.1 in
    let more = put_marked mine x xs below rest.marked is_mine.0 rest.mine_are rise.1 in
    record {
      marked = more.marked;
      all_are = more.all_are ∙ ap (put_in x.1) rest.all_are;
      mine_are = more.mine_are;
      others_are = more.others_are ∙ rest.others_are;
    }

-- those with some marks stand among those with marks like them
pub kept_within : (like mine : ℕ → Bool) (ms : Marked) → ((k : ℕ) → mine k ≡ true → like k ≡ true)
    → kept mine (kept like ms) ≡ kept mine ms
kept_within like mine [] more = refl
kept_within like mine (m ∷ ms) more = step (like m.0) refl (kept_within like mine ms more)
  where
    step : (b : Bool) → like m.0 ≡ b → kept mine (kept like ms) ≡ kept mine ms
        → kept mine (kept like (m ∷ ms)) ≡ kept mine (m ∷ ms)
    step true e rest = ap (kept mine) (kept_yes like m ms e) ∙ kept_more mine m (kept like ms) ms rest
    step false e rest = ap (kept mine) (kept_no like m ms e) ∙ rest
        ∙ sym (kept_no mine m ms (false_from_ne_true (mine m.0) (λ same. false≢true (sym e ∙ more m.0 same))))

pub those_among : (like : ℕ → Bool) (n : ℕ) (ms : Marked) → like n ≡ true → those_of n (kept like ms) ≡ those_of n ms
those_among like n ms is = ap all_of (kept_within like (λ k. k == n) ms (λ k same. ap like (eqb-true k n same) ∙ is))

-- receipts that come behind all of some others are put together behind them
pub merged_behind : (xs old ys : List Made) (n below : ℕ) → AllByRecursion (λ (m : Made). m.number < n) old
    → MadeRise n xs below
    → merged xs (old ++ ys) ≡ old ++ merged xs ys
merged_behind [] old ys n below early rise = refl
merged_behind (x ∷ xs) old ys n below early rise =
    ap (put_in x) (merged_behind xs old ys n below early
    (later n (suc x.number) below xs (omega (arith, rise.0)) rise.1))
    ∙ put_behind x old (merged xs ys) n early rise.0
  where
    later : (from more below : ℕ) (xs : List Made) → from ≤ more → MadeRise more xs below → MadeRise from xs below
    later from more below [] le r = omega (arith, le, r)
    later from more below (y ∷ ys) le r = (omega (arith, le, r.0), r.1)

    put_behind : (x : Made) (old zs : List Made) (n : ℕ) → AllByRecursion (λ (m : Made). m.number < n) old
        → n ≤ x.number → put_in x (old ++ zs) ≡ old ++ put_in x zs
    put_behind x [] zs n early le = refl
    put_behind x (y ∷ ys) zs n early le =
        ap (λ b. cond b (x ∷ y ∷ (ys ++ zs)) (y ∷ put_in x (ys ++ zs)))
        (le-ltb x.number y.number (omega (arith, early.0, le)))
        ∙ ap (λ ws. y ∷ ws) (put_behind x ys zs n early.1 le)
