-- The steps of a loop that reads values item by item: what was gathered, with what the rest gives,
-- is what all gives.
use Rattle.std.proofs.Common.{◌≡◌, ℕ, ◌+◌, ◌<◌, ◌≤◌, Option, None, Some, List, [], ◌∷◌, ◌++◌, length, get_or, drop, map}
use Rattle.std.proofs.Common.{refl, sym, ap, ◌∙◌, append_assoc}
use Rattle.std.proofs.Math.ListN.{drop_of_length-le}
use Rattle.std.proofs.lemmas.List.{append-nil, drop_more}
use Rattle.iocm_statements.specs.declared.unread.Unread.{Unread}
use Rattle.iocm_statements.specs.declared.unread.Unread.TheVariants.{Memory, Malformed}
use Rattle.iocm_statements.specs.Unread.{Refuses}
use Rattle.iocm_values.specs.Reading.{◌>>=◌, every, every_at, gathered, after_front}

front_grows : {B : Type 0} (front ys : List B) (rest : Option (List B))
    → after_front front (rest >>= λ zs. Some (ys ++ zs)) ≡ after_front (front ++ ys) rest
front_grows front ys (Some zs) = ap Some (sym (append_assoc front ys zs))
front_grows front ys None = refl

-- an item that is read goes to what was gathered
pub every_goes_on : {X A B : Type 0} (look : X → A) (read : A → Option B) (front : List B) (xs : List X) (i : ℕ) (d : X)
    (y : B)
    → i < length xs → read (look (get_or xs i d)) ≡ Some y
    → after_front front (every read (map look (drop i xs)))
    ≡ after_front (front ++ y ∷ []) (every read (map look (drop (i + 1) xs)))
unfolding every
every_goes_on look read front xs i d y within is =
    rw (drop_more xs i d within, is) (front_grows front (y ∷ []) (every read (map look (drop (i + 1) xs))))

-- an item that is malformed leaves nothing
pub every_fails : {X A B : Type 0} (look : X → A) (read : A → Option B) (front : List B) (xs : List X) (i : ℕ) (d : X)
    → i < length xs → read (look (get_or xs i d)) ≡ None
    → after_front front (every read (map look (drop i xs))) ≡ None
unfolding every
every_fails look read front xs i d within is = rw (drop_more xs i d within, is) refl

-- at the end what was gathered is all
pub every_done : {X A B : Type 0} (look : X → A) (read : A → Option B) (front : List B) (xs : List X) (i : ℕ)
    → length xs ≤ i → after_front front (every read (map look (drop i xs))) ≡ Some front
unfolding every
every_done look read front xs i past = rw (drop_of_length-le xs past, append-nil front) refl

-- nothing was gathered yet
pub none_in_front : {B : Type 0} (rest : Option (List B)) → after_front [] rest ≡ rest
none_in_front (Some xs) = refl
none_in_front None = refl

pub ruleset every_steps = (every_goes_on, every_fails, every_done, none_in_front)

-- an item that is read at its place goes to what was gathered
pub at_goes_on : {A B : Type 0} (read : ℕ → A → Option B) (front : List B) (xs : List A) (i : ℕ) (d : A) (y : B)
    → i < length xs → read i (get_or xs i d) ≡ Some y
    → after_front front (every_at read i (drop i xs))
    ≡ after_front (front ++ y ∷ []) (every_at read (i + 1) (drop (i + 1) xs))
unfolding every_at
at_goes_on read front xs i d y within is =
    rw (drop_more xs i d within, is) (front_grows front (y ∷ []) (every_at read (i + 1) (drop (i + 1) xs)))

-- an item that is malformed at its place leaves nothing
pub at_fails : {A B : Type 0} (read : ℕ → A → Option B) (front : List B) (xs : List A) (i : ℕ) (d : A)
    → i < length xs → read i (get_or xs i d) ≡ None → after_front front (every_at read i (drop i xs)) ≡ None
unfolding every_at
at_fails read front xs i d within is = rw (drop_more xs i d within, is) refl

-- at the end what was gathered is all
pub at_done : {A B : Type 0} (read : ℕ → A → Option B) (front : List B) (xs : List A) (i : ℕ)
    → length xs ≤ i → after_front front (every_at read i (drop i xs)) ≡ Some front
unfolding every_at
at_done read front xs i past = rw (drop_of_length-le xs past, append-nil front) refl

pub ruleset place_steps = (at_goes_on, at_fails, at_done, none_in_front)

-- what an item gives goes behind what was gathered
pub gathered_goes_on : {X A B : Type 0} (look : X → A) (read : A → Option (List B)) (front : List B) (xs : List X)
    (i : ℕ) (d : X) (ys : List B)
    → i < length xs → read (look (get_or xs i d)) ≡ Some ys
    → after_front front (gathered read (map look (drop i xs)))
    ≡ after_front (front ++ ys) (gathered read (map look (drop (i + 1) xs)))
unfolding gathered
gathered_goes_on look read front xs i d ys within is =
    rw (drop_more xs i d within, is) (front_grows front ys (gathered read (map look (drop (i + 1) xs))))

-- an item that is malformed leaves nothing
pub gathered_fails : {X A B : Type 0} (look : X → A) (read : A → Option (List B)) (front : List B) (xs : List X) (i : ℕ)
    (d : X)
    → i < length xs → read (look (get_or xs i d)) ≡ None
    → after_front front (gathered read (map look (drop i xs))) ≡ None
unfolding gathered
gathered_fails look read front xs i d within is = rw (drop_more xs i d within, is) refl

-- at the end what was gathered is all
pub gathered_done : {X A B : Type 0} (look : X → A) (read : A → Option (List B)) (front : List B) (xs : List X) (i : ℕ)
    → length xs ≤ i → after_front front (gathered read (map look (drop i xs))) ≡ Some front
unfolding gathered
gathered_done look read front xs i past = rw (drop_of_length-le xs past, append-nil front) refl

-- an item that is refused refuses all
pub gathered_refused : {X A B : Type 0} (look : X → A) (read : A → Option (List B)) (front : List B) (xs : List X)
    (i : ℕ) (d : X) (e : Unread)
    (whole : Option (List B)) → i < length xs → Refuses e (read (look (get_or xs i d)))
    → after_front front (gathered read (map look (drop i xs))) ≡ whole → Refuses e whole
gathered_refused look read front xs i d Memory whole within fails is = tt
gathered_refused look read front xs i d Malformed whole within fails is =
    sym is ∙ gathered_fails look read front xs i d within fails

pub ruleset gathered_steps = (gathered_goes_on, gathered_fails, gathered_done, none_in_front)
