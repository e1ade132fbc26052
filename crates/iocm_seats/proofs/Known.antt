-- Channel subsystems that are noted one after the other.
use Rattle.std.proofs.Common.{ℕ, nat_eq, Bool, true, false, ◌||◌, List, [], ◌∷◌, ◌++◌, T, sym, subst}
use Rattle.std.specs.List.{filter_map, list_any, AllByRecursion}
use Rattle.std.proofs.lemmas.List.Folds.{list_any-append}
use Rattle.std.proofs.lemmas.List.Elements.{filter_map-append}
use Rattle.iocm_model.specs.Machine.Record.{Rec, ImageRecord}
use Rattle.iocm_model.specs.Machine.Configuration.{as_image}
use Rattle.iocm_seats.specs.Listing.{AreSubsystemsOf}
use Rattle.iocm_seats.proofs.Everywhere.{of_both, weaker}

left : (a b : Bool) → T a → T (a || b)
left true b is = tt
left false b is = absurd is

right : (a b : Bool) → T b → T (a || b)
right true b is = tt
right false b is = is

among_first : (k : ℕ) (xs ys : List ℕ) → T (list_any (nat_eq k) xs) → T (list_any (nat_eq k) (xs ++ ys))
among_first k xs ys is =
    subst T (sym (list_any-append (nat_eq k) xs ys)) (left (list_any (nat_eq k) xs) (list_any (nat_eq k) ys) is)

among_last : (k : ℕ) (xs ys : List ℕ) → T (list_any (nat_eq k) ys) → T (list_any (nat_eq k) (xs ++ ys))
among_last k xs ys is = subst T (sym (list_any-append (nat_eq k) xs ys))
    (right (list_any (nat_eq k) xs) (list_any (nat_eq k) ys) is)

abbrev Is : List ℕ → ImageRecord → Type 0
Is subsystems i = T (list_any (nat_eq i.css) subsystems)

-- a record more
both_known : (r : Rec) (rs : List Rec) (subsystems : List ℕ) → AreSubsystemsOf (r ∷ []) subsystems
    → AreSubsystemsOf rs subsystems → AreSubsystemsOf (r ∷ rs) subsystems
both_known r rs subsystems first rest = subst (AllByRecursion (Is subsystems))
    (sym (filter_map-append as_image (r ∷ []) rs))
    (of_both (Is subsystems) (filter_map as_image (r ∷ [])) (filter_map as_image rs) first rest)

-- whose channel subsystem is noted already
pub noted : (r : Rec) (rs : List Rec) (subsystems more : List ℕ) → AreSubsystemsOf (r ∷ []) subsystems
    → AreSubsystemsOf rs (subsystems ++ more) → AreSubsystemsOf (r ∷ rs) (subsystems ++ more)
noted r rs subsystems more first rest = both_known r rs (subsystems ++ more)
    (weaker (Is subsystems) (Is (subsystems ++ more)) (λ (i : ImageRecord) is. among_first i.css subsystems more is)
    (filter_map as_image (r ∷ [])) first) rest

-- and one whose is the next
pub noted_next : (r : Rec) (rs : List Rec) (subsystems more : List ℕ) (css : ℕ) → AreSubsystemsOf (r ∷ []) (css ∷ [])
    → AreSubsystemsOf rs (subsystems ++ css ∷ more)
    → AreSubsystemsOf (r ∷ rs) (subsystems ++ css ∷ more)
noted_next r rs subsystems more css first rest = both_known r rs (subsystems ++ css ∷ more)
    (weaker (Is (css ∷ [])) (Is (subsystems ++ css ∷ more))
    (λ (i : ImageRecord) is. among_last i.css subsystems (css ∷ more) (among_first i.css (css ∷ []) more is))
    (filter_map as_image (r ∷ [])) first) rest
