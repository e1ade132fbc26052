-- The text of a plain value is read back as that value.
use Rattle.std.proofs.Common.{◌≡◌, ℕ, suc, max, List, [], Bool, true, false, ◌&&◌, Some, option_map}
use Rattle.std.proofs.Common.{refl, sym, ap, ap₂, ◌∙◌, arith, append-nil, option_and_then}
use Rattle.std.proofs.lemmas.Bool.{and_parts}
use Rattle.std.specs.Ordering.{nat_cmp, match_ordering}
use Rattle.std.specs.Cmp.Lexicographic.{slice_cmp}
use Rattle.std.specs.declared.cmp.Ordering.{Ordering}
use Rattle.std.specs.declared.cmp.Ordering.TheVariants.{Less, Equal, Greater}
use Rattle.json.specs.Lex.{tokens}
use Rattle.json.specs.Json as json
use Rattle.json.specs.Tree as tree
use Rattle.json.specs.Tree.{json_tokens, HasNumbers, ItemsHaveNumbers, MembersHaveNumbers}
use Rattle.json.proofs.Printed.Decimals.{IsNumber-decimal}
use Rattle.json.proofs.Printed.Tokens.{tokens-print}
use Rattle.json.proofs.Printed.Trees.{value-json_tokens, ArePrintable-json_tokens}
use Rattle.serde_json.specs.Data.{unsigned, negative, float, Data, null, boolean, number, string, array, object}
use Rattle.serde_json.specs.Data.{Items, no_items, item, Members, no_members, member, put}
use Rattle.serde_json.specs.Data.{depth, items_depth, members_depth}
use Rattle.serde_json.specs.Read.{max_depth, of_json, of_items, of_members}
use Rattle.serde_json.specs.Written.{compact_text, outline, items_outline, members_outline}
use Rattle.serde_json.proofs.Numbers.{number_of-decimal}
use Rattle.serde_json.proofs.Texts.{print-outline}
use Rattle.iocm_lines.specs.Again.{IsPlain, ItemsArePlain, MembersArePlain, is_before, PlainIsReadBack}

-- ---- an outline has numbers, and nests as its value

mutual
  has_numbers : (d : Data) → IsPlain d → HasNumbers (outline d)
  has_numbers null h = tt
  has_numbers (boolean b) h = tt
  has_numbers (number (unsigned n)) h = IsNumber-decimal n h
  has_numbers (number (negative z)) h = absurd h
  has_numbers (number (float x)) h = absurd h
  has_numbers (string s) h = tt
  has_numbers (array ds) h = items_have_numbers ds h
  has_numbers (object ms) h = members_have_numbers ms h

  items_have_numbers : (ds : Items) → ItemsArePlain ds → ItemsHaveNumbers (items_outline ds)
  items_have_numbers no_items h = tt
  items_have_numbers (item d ds) h = (has_numbers d h.0, items_have_numbers ds h.1)

  members_have_numbers : (ms : Members) → MembersArePlain ms → MembersHaveNumbers (members_outline ms)
  members_have_numbers no_members h = tt
  members_have_numbers (member k d ms) h = (has_numbers d h.0, members_have_numbers ms h.2)

mutual
  same_depth : (d : Data) → tree.depth (outline d) ≡ depth d
  same_depth null = refl
  same_depth (boolean b) = refl
  same_depth (number n) = refl
  same_depth (string s) = refl
  same_depth (array ds) = ap suc (same_items_depth ds)
  same_depth (object ms) = ap suc (same_members_depth ms)

  same_items_depth : (ds : Items) → tree.items_depth (items_outline ds) ≡ items_depth ds
  same_items_depth no_items = refl
  same_items_depth (item d ds) = ap₂ max (same_depth d) (same_items_depth ds)

  same_members_depth : (ms : Members) → tree.members_depth (members_outline ms) ≡ members_depth ms
  same_members_depth no_members = refl
  same_members_depth (member k d ms) = ap₂ max (same_depth d) (same_members_depth ms)

-- ---- members that come in order stay in order

-- the members found, and then more
abbrev followed : Members → Members → Members
followed no_members more = more
followed (member k d ms) more = member k d (followed ms more)

-- each name that was found comes before a further one
abbrev ends_before : Members → List ℕ → Bool
ends_before no_members k = true
ends_before (member l e ms) k = match_ordering (slice_cmp nat_cmp k l) false false true && ends_before ms k

-- and before each of more
abbrev AllBefore : Members → Members → Type 0
AllBefore found no_members = Unit {0}
AllBefore found (member k d ms) = (ends_before found k ≡ true) × AllBefore found ms

at_end : (found : Members) (k : List ℕ) (d : Data) → ends_before found k ≡ true
    → put k d found ≡ followed found (member k d no_members)
at_end no_members k d h = refl
at_end (member l e ms) k d h =
    let parts = and_parts (match_ordering (slice_cmp nat_cmp k l) false false true) (ends_before ms k) h in
    by (slice_cmp nat_cmp k l) parts.0 ∙ ap (member l e) (at_end ms k d parts.1)
  where
    by : (o : Ordering) → match_ordering o false false true ≡ true
        → match_ordering o (member k d (member l e ms)) (member l d ms) (member l e (put k d ms))
        ≡ member l e (put k d ms)
    by Less is = cc
    by Equal is = cc
    by Greater is = refl

one_by_one : (found : Members) (k : List ℕ) (d : Data) (more : Members)
    → followed (followed found (member k d no_members)) more ≡ followed found (member k d more)
one_by_one no_members k d more = refl
one_by_one (member l e ms) k d more = ap (member l e) (one_by_one ms k d more)

last_before : (found : Members) (k l : List ℕ) (d : Data) → ends_before found l ≡ true
    → match_ordering (slice_cmp nat_cmp l k) false false true ≡ true
    → ends_before (followed found (member k d no_members)) l ≡ true
last_before no_members k l d h is = rw is refl
last_before (member m e ms) k l d h is =
    let parts = and_parts (match_ordering (slice_cmp nat_cmp l m) false false true) (ends_before ms l) h in
    rw (parts.0, last_before ms k l d parts.1 is) refl

still_before : (found : Members) (k : List ℕ) (d : Data) (more : Members) → AllBefore found more
    → is_before k more ≡ true → AllBefore (followed found (member k d no_members)) more
still_before found k d no_members h is = tt
still_before found k d (member l e ms) h is =
    let parts = and_parts (match_ordering (slice_cmp nat_cmp l k) false false true) (is_before k ms) is in
    (last_before found k l d h.0 parts.0, still_before found k d ms h.1 parts.1)

none_before : (ms : Members) → AllBefore no_members ms
none_before no_members = tt
none_before (member k d ms) = (refl, none_before ms)

-- ---- an outline is read as its value

none_after : (found : Members) → followed found no_members ≡ found
none_after no_members = refl
none_after (member k d ms) = ap (member k d) (none_after ms)

mutual
  as_json : (d : Data) → IsPlain d → of_json (outline d) ≡ Some d
  as_json null h = refl
  as_json (boolean b) h = refl
  as_json (number (unsigned n)) h = ap (option_map number) (number_of-decimal n h)
  as_json (number (negative z)) h = absurd h
  as_json (number (float x)) h = absurd h
  as_json (string s) h = refl
  as_json (array ds) h = ap (option_map array) (as_items ds h)
  as_json (object ms) h = ap (option_map object) (as_members no_members ms (none_before ms) h)

  as_items : (ds : Items) → ItemsArePlain ds → of_items (items_outline ds) ≡ Some ds
  as_items no_items h = refl
  as_items (item d ds) h = rw (as_json d h.0, as_items ds h.1) refl

  as_members : (found ms : Members) → AllBefore found ms → MembersArePlain ms
      → of_members (members_outline ms) found ≡ Some (followed found ms)
  as_members found no_members before h = ap Some (sym (none_after found))
  as_members found (member k d ms) before h =
      ap (option_and_then (λ e. of_members (members_outline ms) (put k e found))) (as_json d h.0)
      ∙ ap (of_members (members_outline ms)) (at_end found k d before.0)
      ∙ as_members (followed found (member k d no_members)) ms (still_before found k d ms before.1 h.1) h.2
      ∙ ap Some (one_by_one found k d ms)

-- ---- the text is read as the outline

its_tokens : (d : Data) → IsPlain d → tokens (compact_text d) ≡ json_tokens (outline d)
its_tokens d h =
    ap tokens (sym (print-outline d))
    ∙ tokens-print (json_tokens (outline d)) (ArePrintable-json_tokens (outline d) (has_numbers d h))

pub plain_is_read_back : PlainIsReadBack
plain_is_read_back d h shallow =
    ap (λ o. option_and_then of_json (option_and_then (λ p. json.if_last p.0 p.1) o))
    (ap (json.value max_depth) (its_tokens d h ∙ sym (append-nil (json_tokens (outline d))))
    ∙ value-json_tokens (outline d) max_depth [] (omega (arith, same_depth d)))
    ∙ as_json d h
