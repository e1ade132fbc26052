-- What was printed so far of a list, or of the parts of a tree, and one item more.
use Rattle.std.proofs.Common.{◌≡◌, ℕ, ◌+◌, ◌<◌, Bool, true, false, ◌&&◌, nat_eq, codes, Some, List, [], ◌∷◌, ◌++◌}
use Rattle.std.proofs.Common.{length, get_or, take, refl, sym, ap, ◌∙◌, ◌≤◌, drop, append_assoc, append-nil}
use Rattle.std.specs.Cmp.Lexicographic.{pointwise}
use Rattle.std.specs.List.{flat_map}
use Rattle.std.proofs.lemmas.List.{append-nil, take_more}
use Rattle.std.proofs.lemmas.Grind.{flat_map-append}
use Rattle.iocm_types.specs.declared.key.Key.{Key}
use Rattle.iocm_types.specs.declared.key.Key.TheVariants as key
use Rattle.iocm_types.specs.declared.sub_id.SubId.{SubId}
use Rattle.iocm_types.specs.declared.view.View.{View}
use Rattle.iocm_model.specs.Change.Edit.{same_view}
use Rattle.iocm_model.specs.Machine.Configuration.{Configuration}
use Rattle.iocm_reports.specs.Deck.{remark_line}
use Rattle.iocm_reports.specs.Lines.{lines_by, signed_line}
use Rattle.iocm_tree.specs.Trees.{parts_of, plain_parts, plain_tree, tree_of}
use Rattle.iocm_tree.specs.declared.tree.Tree.{Tree}
use Rattle.iocm_tree.proofs.Trees.{rest_at, none_left}
use Rattle.iocm_lines.specs.declared.form.Form.{Form}
use Rattle.iocm_reports.specs.WayBack.{edits_in, edits_among, told_in, told_among, told_of}

-- the texts of the items so far and that of the next, or other lists
pub text_more : {A B : Type 0} (text : A → List B) (xs : List A) (i : ℕ) (x : A) → i < length xs → x ≡ get_or xs i x
    → flat_map text (take i xs) ++ text x ≡ flat_map text (take (i + 1) xs)
text_more text xs i x within is =
    sym (ap (flat_map text) (take_more xs i x within ∙ ap (λ y. take i xs ++ y ∷ []) (sym is))
    ∙ flat_map-append text (take i xs) (x ∷ [])
    ∙ ap (λ t. flat_map text (take i xs) ++ t) (append-nil (text x)))

grouped : (a b c d : Bool) → (((a && b) && c) && d) ≡ (a && (b && (c && d)))
grouped true true c d = refl
grouped true false c d = refl
grouped false b c d = refl

-- the lines of a subchannel at which something else is seen
pub lines_changed : (x : SubId) (v w : View)
    → (nat_eq v.device w.device && (pointwise nat_eq v.paths w.paths && (nat_eq v.pim w.pim && nat_eq v.pam w.pam)))
    ≡ false
    → signed_line (codes "- ") x v ++ signed_line (codes "+ ") x w ≡ lines_by x (Some v) (Some w)
lines_changed x v w other =
    let apart : same_view v w ≡ false =
    grouped (nat_eq v.device w.device) (pointwise nat_eq v.paths w.paths) (nat_eq v.pim w.pim) (nat_eq v.pam w.pam)
    ∙ other in
    rw apart refl

-- a key that is none of a pair has no comment
pub no_remark : (c : Configuration) (k : Key) → ((css number : ℕ) (name : List ℕ) → k ≡ key.Online css number name → ⊥)
    → remark_line c k ≡ []
unfolding remark_line
no_remark c key.Id other = refl
no_remark c key.Resource other = refl
no_remark c (key.Image css mif) other = refl
no_remark c (key.Limit css set) other = refl
no_remark c (key.Path css number) other = refl
no_remark c (key.Unit number) other = refl
no_remark c (key.Device set number) other = refl
no_remark c (key.Online css number name) other = absurd (other css number name refl)

-- one part more
pub one_more_put : (form : Form) {A : Type 0} (shown : List (Tree A)) (i : ℕ) (x : Tree A) → i < length shown
    → x ≡ get_or shown i x
    → (front more all : List ℕ) → more ≡ front ++ told_in form (plain_tree (tree_of x))
    → front ++ told_among form (plain_parts (parts_of (drop i shown))) ≡ all
    → more ++ told_among form (plain_parts (parts_of (drop (i + 1) shown))) ≡ all
one_more_put form shown i x within is front more all put so_far =
    let rest = told_among form (plain_parts (parts_of (drop (i + 1) shown))) in
    let here : told_among form (plain_parts (parts_of (drop i shown))) ≡ told_in form (plain_tree (tree_of x)) ++ rest =
    ap (λ ps. told_among form (plain_parts ps)) (rest_at shown i x within is)
    ∙ flat_map-append (told_of form) (edits_in (plain_tree (tree_of x)))
    (edits_among (plain_parts (parts_of (drop (i + 1) shown)))) in
    ap (λ ls. ls ++ rest) put ∙ append_assoc front (told_in form (plain_tree (tree_of x))) rest
    ∙ ap (λ ls. front ++ ls) (sym here) ∙ so_far

-- all are put
pub all_put : (form : Form) {A : Type 0} (shown : List (Tree A)) (i : ℕ) → length shown ≤ i → (front all : List ℕ)
    → front ++ told_among form (plain_parts (parts_of (drop i shown))) ≡ all → front ≡ all
all_put form shown i past front all so_far =
    sym (append-nil front) ∙ ap (λ ps. front ++ told_among form (plain_parts ps)) (sym (none_left shown i past)) ∙ so_far
