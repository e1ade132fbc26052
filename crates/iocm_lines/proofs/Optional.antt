-- Members that may be there, in an object that is read back.
use Rattle.std.proofs.Common.{◌≡◌, ℕ, ◌<◌, ◌≤◌, ◌^◌, List, true, false, Option, Some, None, IfSome, refl, arith, option_map}
use Rattle.std.proofs.lemmas.Bool.{and_parts}
use Rattle.std.specs.Ordering.{nat_cmp, match_ordering}
use Rattle.std.specs.Cmp.Lexicographic.{slice_cmp}
use Rattle.serde_json.specs.Data.{Data, null, string, no_members, member, depth, members_depth}
use Rattle.iocm_lines.specs.Again.{IsPlain, MembersArePlain, is_before}
use Rattle.iocm_lines.specs.Members.{members, if_there, count}

-- a member that may be there, before more members in order
pub before_optional : (name other : List ℕ) (value : Option Data) (more : List (List ℕ × Data))
    → is_before name (member other null no_members) ≡ true → is_before name (members more) ≡ true
    → is_before name (members (if_there other value more)) ≡ true
before_optional name other None more first rest = rest
before_optional name other (Some value) more first rest =
    rw ((and_parts (match_ordering (slice_cmp nat_cmp other name) false false true) true first).0, rest) refl

pub plain_optional : (name : List ℕ) (value : Option Data) (more : List (List ℕ × Data)) → IfSome value IsPlain
    → is_before name (members more) ≡ true → MembersArePlain (members more)
    → MembersArePlain (members (if_there name value more))
plain_optional name None more is first rest = rest
plain_optional name (Some value) more is first rest = (is, first, rest)

pub flat_optional : (name : List ℕ) (value : Option Data) (more : List (List ℕ × Data))
    → IfSome value (λ d. depth d ≡ 0) → members_depth (members more) ≤ 0
    → members_depth (members (if_there name value more)) ≤ 0
flat_optional name None more is rest = rest
flat_optional name (Some value) more is rest = omega (arith, is)

pub text_plain : {A : Type 0} (text : A → List ℕ) (a : Option A) → IfSome (option_map (λ b. string (text b)) a) IsPlain
text_plain text None = tt
text_plain text (Some a) = tt

pub text_flat : {A : Type 0} (text : A → List ℕ) (a : Option A)
    → IfSome (option_map (λ b. string (text b)) a) (λ d. depth d ≡ 0)
text_flat text None = tt
text_flat text (Some a) = refl

pub count_plain : (n : Option ℕ) → IfSome n (λ n. n < 2 ^ 64) → IfSome (option_map count n) IsPlain
count_plain None small = tt
count_plain (Some n) small = small

pub count_flat : (n : Option ℕ) → IfSome (option_map count n) (λ d. depth d ≡ 0)
count_flat None = tt
count_flat (Some n) = refl
