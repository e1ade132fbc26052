-- The line of a plan that counts objects, and what stands in its place where nothing is told.
use Rattle.std.specs.Prelude.{ℕ, ◌==◌, Bool, if◌then◌else◌, List, [], ◌∷◌, ◌++◌, filter, length, codes}
use Rattle.iocm_objects.specs.Counts.{count_objects}
use Rattle.iocm_objects.specs.Runs.{same_change}
use Rattle.iocm_objects.specs.declared.counts.ObjectKind.{ObjectKind}
use Rattle.iocm_objects.specs.declared.counts.ObjectKind.TheVariants as kind
use Rattle.iocm_objects.specs.declared.object.Change.{Change}
use Rattle.iocm_objects.specs.declared.object.Change.TheVariants.{Added, Deleted, Changed}
use Rattle.iocm_objects.specs.declared.object.Object.{Object}
use Rattle.iocm_impact_text.specs.Listed.{listed}
use Rattle.iocm_plan_text.specs.Counted.{kind_text, number_text}

abbrev pub nothing : Bool → List ℕ
nothing is_filtered = (if is_filtered then codes "Plan, as filtered: nothing." else codes "Plan: nothing differs.")
    ++ 10 ∷ []

abbrev pub head : Bool → List ℕ
head is_filtered = if is_filtered then codes "Plan, as filtered: " else codes "Plan: "

-- ---- how many objects this becomes of, and how many of each kind

abbrev pub count_changes : Change → List Object → ℕ
count_changes c os = length (filter (λ (o : Object). same_change o.change c) os)

abbrev pub number : ℕ → List ℕ
number count = number_text count

-- a kind of which there are none isn't told
abbrev pub kind_if : Change → ObjectKind → List Object → List (List ℕ)
kind_if c k os = if count_objects c k os == 0 then [] else kind_text k (count_objects c k os) ∷ []

abbrev pub statements : Change → List Object → List (List ℕ)
statements c os =
    ((kind_if c kind.Id os ++ kind_if c kind.Resource os) ++ kind_if c kind.Image os) ++ kind_if c kind.Limit os

abbrev pub kinds : Change → List Object → List (List ℕ)
kinds c os =
    ((statements c os ++ kind_if c kind.Path os) ++ kind_if c kind.Unit os) ++ kind_if c kind.Device os

abbrev pub in_brackets : List (List ℕ) → List ℕ
in_brackets words =
    if length words == 0 then [] else (codes " (" ++ listed words) ++ codes ")"

-- ---- the line

unfoldable pub part : List ℕ → Change → List Object → List ℕ
part verb c os = (verb ++ number (count_changes c os)) ++ in_brackets (kinds c os)

unfoldable pub first_part : Bool → List Object → List ℕ
first_part is_filtered os = head is_filtered ++ part (codes "add ") Added os

unfoldable pub next_part : List ℕ → Change → List Object → List ℕ
next_part verb c os = part verb c os

abbrev pub summary : Bool → List Object → List ℕ
summary is_filtered os =
    ((first_part is_filtered os ++ next_part (codes ", delete ") Deleted os) ++ next_part (codes ", change ") Changed os)
    ++ codes ".\n"
