-- The loops over changes, rows, images and cells: what is left gives what all give.
use Rattle.std.proofs.Common.{◌≡◌, ◌==◌, ◌<◌, ◌≤◌, ◌+◌, ℕ, Bool, true, false, cond, List, [], ◌∷◌, ◌++◌, map, filter}
use Rattle.std.proofs.Common.{drop, drop_of_length-le, length, get_or, refl, sym, ap, subst, ◌∙◌}
use Rattle.std.specs.List.{fold, AllByRecursion}
use Rattle.std.proofs.lemmas.List.{append-nil, append_assoc}
use Rattle.iocm_types.proofs.Lists.{drop-item}
use Rattle.iocm_types.specs.declared.image.Image.{Image}
use Rattle.iocm_types.specs.declared.place.NumberCell.{NumberCell}
use Rattle.iocm_seats.specs.Changes.{subchannel_at, candidates}

-- the candidates at a cell and at others
pub candidates_cell : (i : Image) (c : NumberCell) (cells : List NumberCell)
    → candidates (i ∷ []) (c ∷ cells) ≡ candidates (i ∷ []) (c ∷ []) ++ candidates (i ∷ []) cells
candidates_cell i c cells = by (c.css == i.css)
  where
    rest : List NumberCell
    rest = filter (λ (d : NumberCell). d.css == i.css) cells

    by : (b : Bool) → map (subchannel_at i) (cond b (c ∷ rest) rest) ++ []
        ≡ (map (subchannel_at i) (cond b (c ∷ []) []) ++ []) ++ (map (subchannel_at i) rest ++ [])
    by true = refl
    by false = refl

-- the candidates of an image and of others
pub candidates_image : (i : Image) (images : List Image) (cells : List NumberCell)
    → candidates (i ∷ images) cells ≡ candidates (i ∷ []) cells ++ candidates images cells
candidates_image i images cells =
    ap (λ xs. xs ++ candidates images cells)
    (sym (append-nil (map (subchannel_at i) (filter (λ (d : NumberCell). d.css == i.css) cells))))

-- one step more
pub fold_open : {A B : Type 0} (f : B → A → B) (b : B) (xs : List A) (i : ℕ) (x : A) → i < length xs → x ≡ get_or xs i x
    → fold f (f b x) (drop (i + 1) xs) ≡ fold f b (drop i xs)
fold_open f b xs i x within item = ap (fold f b) (sym (drop-item xs i x within item))

-- of what holds of all that is left, what holds of the first and of the others
pub opened : {A : Type 0} (P : A → Type 0) (xs : List A) (i : ℕ) (x : A) → i < length xs → x ≡ get_or xs i x
    → AllByRecursion P (drop i xs)
    → P x × AllByRecursion P (drop (i + 1) xs)
opened P xs i x within item all = subst (AllByRecursion P) (drop-item xs i x within item) all

-- what is listed, and what is left to be listed
pub listed_more : {A B : Type 0} (f : List A → List B) (one : (x : A) (xs : List A) → f (x ∷ xs) ≡ f (x ∷ []) ++ f xs)
    (xs : List A) (i : ℕ) (x : A)
    → i < length xs → x ≡ get_or xs i x → (listed more all : List B) → more ≡ listed ++ f (x ∷ [])
    → listed ++ f (drop i xs) ≡ all → more ++ f (drop (i + 1) xs) ≡ all
listed_more f one xs i x within item listed more all is before =
    ap (λ ys. ys ++ f (drop (i + 1) xs)) is ∙ append_assoc listed (f (x ∷ [])) (f (drop (i + 1) xs))
    ∙ ap (λ ys. listed ++ ys) (sym (one x (drop (i + 1) xs)) ∙ ap f (sym (drop-item xs i x within item))) ∙ before

pub listed_all : {A B : Type 0} (f : List A → List B) → f [] ≡ [] → (xs : List A) (i : ℕ) → length xs ≤ i
    → (listed all : List B) → listed ++ f (drop i xs) ≡ all → listed ≡ all
listed_all f none xs i past listed all is =
    sym (append-nil listed) ∙ ap (λ ys. listed ++ ys) (sym (ap f (drop_of_length-le xs past) ∙ none)) ∙ is
