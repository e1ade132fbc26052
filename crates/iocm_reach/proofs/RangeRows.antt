-- Tables in which the rows of a channel subsystem are written, or the places of an image.
use Rattle.std.proofs.Common.{◌≡◌, ◌≢◌, ◌⊎◌, inl, inr, ◌∙◌, ℕ, ◌+◌, ◌*◌, ◌<◌, Bool, true, false, nat_eq, List, Option}
use Rattle.std.proofs.Common.{set, refl, subst, sym, arith}
use Rattle.std.proofs.lemmas.Bool.{eqb-true, eqb-false}
use Rattle.iocm_model.specs.Machine.Configuration.{Configuration, Lookup, lookup_of}
use Rattle.iocm_derive.specs.Derived.{name_at}
use Rattle.iocm_reach.specs.declared.image_path.ImagePath.{ImagePath}
use Rattle.iocm_reach.specs.declared.range.PathRange.{PathRange}
use Rattle.iocm_reach.specs.Reached.{image_in, path_as, path_to}
use Rattle.iocm_reach.specs.Tabled.{row_of, IsRowOf}
use Rattle.iocm_reach.specs.Writing.{AreRowsSet}

-- the rows of one channel subsystem more
pub rows_more : (c : Lookup) (r : PathRange) (number : ℕ) (old new : List ImagePath) → r.css ≡ number → r.first ≡ 0
    → r.last ≡ 255 → AreRowsSet c r old new
    → ((css path : ℕ) → css < number → path < 256 → IsRowOf c css path old) → (css path : ℕ) → css < number + 1
    → path < 256 → IsRowOf c css path new
rows_more c r number old new own first last set before css path low small = by (nat_eq css number) refl
  where
    by : (b : Bool) → nat_eq css number ≡ b → IsRowOf c css path new
    by true tie =
        let same : r.css ≡ css = own ∙ sym (eqb-true css number tie) in
        subst (λ (of : ℕ). IsRowOf c of path new) same (set.rows path (omega arith) (omega arith))
    by false tie =
        let other : css ≢ number = eqb-false css number tie in
        λ mif above below. set.others css path mif small below (inl (λ same. other (same ∙ own)))
        ∙ before css path (omega arith) small mif above below

-- the places of different images differ
pub image_apart : (css path mif of other m : ℕ) → path < 256 → other < 256 → mif < 16 → m < 16 → (of ≢ css) ⊎ (m ≢ mif)
    → row_of of other * 16 + m ≢ row_of css path * 16 + mif
image_apart css path mif of other m low small below under (inl differ) same = differ (omega arith)
image_apart css path mif of other m low small below under (inr differ) same = differ (omega arith)

-- what is written at an image's place, by other names of the same numbers
pub place_written : (table new : List ImagePath) (css read number place mif : ℕ) (x y : ImagePath)
    → new ≡ set table (row_of css read * 16 + place) x
    → read ≡ number → place ≡ mif → x ≡ y → new ≡ set table (row_of css number * 16 + mif) y
place_written table new css read number place mif x y wrote path image same =
    wrote ∙ (λ i. set table (row_of css (path i) * 16 + image i) (same i))

-- what is read of an image by its name
pub read_by_name : (before now : Configuration) (css read number mif : ℕ) (name : Option (List ℕ)) → before ≡ now
    → read ≡ number
    → name ≡ name_at (lookup_of now) (image_in css mif)
    → path_as (lookup_of before) css read name ≡ path_to (lookup_of now) css number mif
read_by_name before now css read number mif name same path called =
    λ i. path_as (lookup_of (same i)) css (path i) (called i)
