-- A table that follows the change of a record.
use Rattle.std.proofs.Common.{◌≡◌, ◌≢◌, ◌⊎◌, inl, inr, ◌∙◌, ℕ, ◌<◌, ◌≤◌, Bool, true, false, nat_eq, nat_le, List}
use Rattle.std.proofs.Common.{Option, None, Some, is_some, refl, sym, ap, subst, arith}
use Rattle.std.proofs.lemmas.Bool.{eqb-true, eqb-false, leb-true, leb-false}
use Rattle.std.specs.Option.{option_map, option_and_then}
use Rattle.iocm_types.specs.declared.key.Key.{Key}
use Rattle.iocm_types.specs.declared.key.Key.TheVariants.{Image, Path, Online}
use Rattle.iocm_model.specs.Machine.Record.{Rec, ImageRecord}
use Rattle.iocm_model.specs.Machine.Configuration.{Configuration, Lookup, lookup_of, as_image}
use Rattle.iocm_model.specs.Machine.Sight.{record_lists}
use Rattle.iocm_reach.specs.declared.image_path.ImagePath.{ImagePath}
use Rattle.iocm_reach.specs.Reached.{path_to, path_as}
use Rattle.iocm_reach.specs.Tabled.{cell_of, row_of, IsReachOf, IsSameBut, WasReach}
use Rattle.iocm_reach.specs.Writing.{AreRowsSet, IsBeside, IsImageSet}

-- a key isn't one by which an image has a path
pub record IsApart (key : Key) (css path mif : ℕ) : Type 0 where
  pub image : Image css mif ≢ key
  pub route : Path css path ≢ key
  pub online : (name : List ℕ) → Online css path name ≢ key

-- what an image of a name has of a path stays
as_kept : (before now : Lookup) (css path : ℕ) → now (Path css path) ≡ before (Path css path)
    → ((name : List ℕ) → now (Online css path name) ≡ before (Online css path name))
    → (name : Option (List ℕ)) → path_as before css path name ≡ path_as now css path name
as_kept before now css path route online None = refl
as_kept before now css path route online (Some name) = λ i. record {
  reached = ap (record_lists name) (sym route) i;
  online = ap is_some (sym (online name)) i;
}

-- what an image has of a path stays, where another record changed
pub path_kept : (key : Key) (before now : Configuration) → IsSameBut key before now → (css path mif : ℕ)
    → IsApart key css path mif
    → path_to (lookup_of before) css path mif ≡ path_to (lookup_of now) css path mif
path_kept key before now same css path mif apart =
    ap (λ (found : Option Rec).
    path_as (lookup_of before) css path (option_map (λ (r : ImageRecord). r.name) (option_and_then as_image found)))
    (sym (same (Image css mif) apart.image))
    ∙ as_kept (lookup_of before) (lookup_of now) css path (same (Path css path) apart.route)
    (λ name. same (Online css path name) (apart.online name)) _

-- so does the table's place
pub cell_kept : (key : Key) (now : Configuration) (old : List ImagePath) → WasReach key now old → (css path mif : ℕ)
    → css < 6 → path < 256 → 0 < mif → mif < 16
    → IsApart key css path mif → cell_of old (row_of css path) mif ≡ path_to (lookup_of now) css path mif
cell_kept key now old was css path mif within low above below apart =
    was.reach css path within low mif above below ∙ path_kept key was.before now was.same css path mif apart

-- two numbers are those of another two, or not
module _ (css path of other : ℕ) where
  pub either : ((of ≡ css) × (other ≡ path)) ⊎ ((of ≢ css) ⊎ (other ≢ path))
  either = by (nat_eq of css) refl (nat_eq other path) refl
    where
      by : (b : Bool) → nat_eq of css ≡ b → (d : Bool) → nat_eq other path ≡ d
          → ((of ≡ css) × (other ≡ path)) ⊎ ((of ≢ css) ⊎ (other ≢ path))
      by true here true there = inl (eqb-true of css here, eqb-true other path there)
      by true here false there = inr (inr (eqb-false other path there))
      by false here d there = inr (inl (eqb-false of css here))

-- a path that isn't the one of a range is beside it
beside : (css path of other : ℕ) → (of ≢ css) ⊎ (other ≢ path)
    → IsBeside (record { css = css; first = path; last = path }) of other
beside css path of other (inl differ) = inl differ
beside css path of other (inr differ) = inr (by (nat_le path other) refl)
  where
    by : (b : Bool) → nat_le path other ≡ b → (other < path) ⊎ (path < other)
    by true from = inr (let more : path ≤ other = leb-true path other from in omega (arith, differ))
    by false less = inl (leb-false path other less)

-- the record of a path changed, or one by which a path is online, and its row was written
pub row_followed : (key : Key) (now : Configuration) (css path : ℕ) (old new : List ImagePath)
    → ((of other mif : ℕ) → (of ≢ css) ⊎ (other ≢ path) → IsApart key of other mif)
    → WasReach key now old → AreRowsSet (lookup_of now) (record { css = css; first = path; last = path }) old new
    → IsReachOf now new
row_followed key now css path old new apart was set of other within low mif above below = by (either css path of other)
  where
    by : ((of ≡ css) × (other ≡ path)) ⊎ ((of ≢ css) ⊎ (other ≢ path))
        → cell_of new (row_of of other) mif ≡ path_to (lookup_of now) of other mif
    by (inl same) = rw (same.0, same.1) (set.rows path (omega arith) (omega arith) mif above below)
    by (inr differ) = set.others of other mif low below (beside css path of other differ)
        ∙ cell_kept key now old was of other mif within low above below (apart of other mif differ)

-- the record of an image changed, and what it has of each path was written
pub image_followed : (now : Configuration) (css id : ℕ) (old new : List ImagePath) → WasReach (Image css id) now old
    → IsImageSet (lookup_of now) css id old new → IsReachOf now new
image_followed now css id old new was set of path within low mif above below = by (either css id of mif)
  where
    by : ((of ≡ css) × (mif ≡ id)) ⊎ ((of ≢ css) ⊎ (mif ≢ id))
        → cell_of new (row_of of path) mif ≡ path_to (lookup_of now) of path mif
    by (inl same) = rw (same.0, same.1) (set.paths path low)
    by (inr differ) = set.others of path mif low below differ
        ∙ cell_kept (Image css id) now old was of path mif within low above below (record {
          image = λ same. no differ same;
          route = λ same. cc;
          online = λ name same. cc;
        })
      where
        no : (of ≢ css) ⊎ (mif ≢ id) → Image of mif ≡ Image css id → ⊥
        no (inl other) same = other cc
        no (inr other) same = other cc

-- another record changed
pub none_followed : (key : Key) (now : Configuration) (old : List ImagePath)
    → ((css path mif : ℕ) → IsApart key css path mif) → WasReach key now old → IsReachOf now old
none_followed key now old apart was css path within low mif above below =
    cell_kept key now old was css path mif within low above below (apart css path mif)

-- by the keys of a path and of an online path
path_apart : (css path of other mif : ℕ) → (of ≢ css) ⊎ (other ≢ path) → IsApart (Path css path) of other mif
path_apart css path of other mif differ = record {
  image = λ same. cc;
  route = λ same. no differ same;
  online = λ name same. cc;
}
  where
    no : (of ≢ css) ⊎ (other ≢ path) → Path of other ≡ Path css path → ⊥
    no (inl apart) same = apart cc
    no (inr apart) same = apart cc

online_apart : (css path : ℕ) (name : List ℕ) (of other mif : ℕ) → (of ≢ css) ⊎ (other ≢ path)
    → IsApart (Online css path name) of other mif
online_apart css path name of other mif differ = record {
  image = λ same. cc;
  route = λ same. cc;
  online = λ n same. no differ n same;
}
  where
    no : (of ≢ css) ⊎ (other ≢ path) → (n : List ℕ) → Online of other n ≡ Online css path name → ⊥
    no (inl apart) n same = apart cc
    no (inr apart) n same = apart cc

pub row_apart : (key : Key) (css path : ℕ) → (key ≡ Path css path) ⊎ ((name : List ℕ) × (key ≡ Online css path name))
    → (of other mif : ℕ) → (of ≢ css) ⊎ (other ≢ path) → IsApart key of other mif
row_apart key css path (inl is) of other mif differ =
    subst (λ (k : Key). IsApart k of other mif) (sym is) (path_apart css path of other mif differ)
row_apart key css path (inr is) of other mif differ =
    subst (λ (k : Key). IsApart k of other mif) (sym is.1) (online_apart css path is.0 of other mif differ)
