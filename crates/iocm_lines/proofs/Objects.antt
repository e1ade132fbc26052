-- An object whose members may be missing: those that are there, with a comma behind each, and then the others.
use Rattle.std.proofs.Common.{◌≡◌, ℕ, List, [], ◌∷◌, ◌++◌, true, false, Option, None, Some, refl, sym, ap, ◌∙◌}
use Rattle.std.proofs.Common.{append_assoc, append-nil}
use Rattle.std.specs.List.{flat_map}
use Rattle.json.specs.Print.{escape, quoted}
use Rattle.serde_json.specs.Data.{Data, string}
use Rattle.serde_json.specs.Written.{compact_text, members_text}
use Rattle.iocm_lines.specs.Lines.{with_comma, with_comma_if_there}
use Rattle.iocm_lines.specs.Members.{members, object_of, if_there}

-- members of which there is one at least
abbrev text_of : List ℕ × Data → List (List ℕ × Data) → List ℕ
text_of x more = members_text false (members (x ∷ more))

later : (q v f m : List ℕ) → ((q ++ 58 ∷ (v ++ 44 ∷ [])) ++ f) ++ m ≡ q ++ 58 ∷ (v ++ 44 ∷ (f ++ m))
later q v f m = simp append_assoc

comma_before : (xs : List (List ℕ × Data)) (x : List ℕ × Data) (more : List (List ℕ × Data))
    → members_text true (members (xs ++ x ∷ more)) ≡ 44 ∷ members_text false (members (xs ++ x ∷ more))
comma_before [] x more = refl
comma_before (y ∷ ys) x more = refl

commas_first : (ys : List (List ℕ × Data)) (x : List ℕ × Data) (more : List (List ℕ × Data))
    → flat_map with_comma ys ++ text_of x more ≡ members_text false (members (ys ++ x ∷ more))
commas_first [] x more = refl
commas_first ((name, value) ∷ ys) x more =
    later (quoted name) (compact_text value) (flat_map with_comma ys) (text_of x more)
    ∙ ap (λ l. quoted name ++ 58 ∷ (compact_text value ++ 44 ∷ l)) (commas_first ys x more)
    ∙ ap (λ l. quoted name ++ 58 ∷ (compact_text value ++ l)) (sym (comma_before ys x more))

-- a member that may be there, before others
abbrev pub Follows : List ℕ → List (List ℕ × Data) → Type 0
Follows text more = (x : List ℕ × Data) × (rest : List (List ℕ × Data)) × (more ≡ x ∷ rest)
    × (text ≡ members_text false (members more))

pub optional_first : (name : List ℕ) (value : Option Data) (text : List ℕ) (more : List (List ℕ × Data))
    → Follows text more → Follows (with_comma_if_there name value ++ text) (if_there name value more)
optional_first name None text more h = h
optional_first name (Some value) text more h = (
  (name, value),
  more,
  refl,
  ap (λ t. with_comma_if_there name (Some value) ++ t) (h.3 ∙ ap (λ l. members_text false (members l)) h.2)
      ∙ commas_first ((name, value) ∷ []) h.0 h.1
      ∙ ap (λ l. members_text false (members ((name, value) ∷ l))) (sym h.2),
)

-- the object of members with these texts
pub object_is : (text : List ℕ) (more : List (List ℕ × Data)) → Follows text more
    → 123 ∷ text ≡ compact_text (object_of more)
object_is text more h = ap (λ (t : List ℕ). 123 ∷ t) h.3

member_parts : (q t : List ℕ)
    → q ++ 58 ∷ 34 ∷ (t ++ 34 ∷ 44 ∷ []) ≡ (q ++ 58 ∷ ((34 ∷ (t ++ 34 ∷ [])) ++ 44 ∷ [])) ++ []
member_parts q t = simp (append_assoc, append-nil)

-- the member of a text that needs no escapes
pub text_member : (name text : List ℕ) → escape text ≡ text
    → quoted name ++ 58 ∷ 34 ∷ (text ++ 34 ∷ 44 ∷ []) ≡ with_comma_if_there name (Some (string text))
text_member name text stays =
    member_parts (quoted name) text
    ∙ ap (λ e. (quoted name ++ 58 ∷ ((34 ∷ (e ++ 34 ∷ [])) ++ 44 ∷ [])) ++ []) (sym stays)

pub follows_same : (text other : List ℕ) (more : List (List ℕ × Data)) → text ≡ other → Follows text more
    → Follows other more
follows_same text other more same h = (h.0, h.1, h.2, sym same ∙ h.3)
