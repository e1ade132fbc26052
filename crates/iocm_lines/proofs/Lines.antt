-- Each line is read back.
use Rattle.std.proofs.Common.{◌≡◌, ℕ, ◌<◌, ◌≤◌, ◌^◌, List, [], ◌∷◌, Option, Some, None, IfSome}
use Rattle.std.proofs.Common.{refl, arith, map, codes, option_map}
use Rattle.iocm_types.specs.declared.sub_id.SubId.{SubId}
use Rattle.iocm_types.specs.declared.view.View.{View}
use Rattle.iocm_types.specs.Print.{hex2}
use Rattle.iocm_types.specs.Rule.{rule_text}
use Rattle.serde_json.specs.Data.{Data, string}
use Rattle.serde_json.specs.Data.{depth, items_depth, members_depth}
use Rattle.iocm_lines.specs.Members.{texts, members, if_there, count}
use Rattle.iocm_lines.specs.Subchannel.{subchannel_value, paths_in}
use Rattle.iocm_lines.specs.Accepted.{accepted_value}
use Rattle.iocm_lines.specs.Altered.{altered_value, seen_value}
use Rattle.iocm_lines.specs.Change.{change_value, count_value}
use Rattle.iocm_lines.specs.Refused.{Told, refused_value, about_text, input_text}
use Rattle.iocm_lines.specs.Again.{IsPlain, ItemsArePlain, MembersArePlain, IsSubchannel, IsReadBack}
use Rattle.iocm_lines.specs.Again.{LinesAreReadBack}
use Rattle.iocm_lines.specs.Trace.{trace_value}
use Rattle.iocm_lines.proofs.Optional.{before_optional, plain_optional, flat_optional, text_plain, text_flat}
use Rattle.iocm_lines.proofs.Optional.{count_plain, count_flat}
use Rattle.iocm_lines.proofs.ReadBack.{plain_is_read_back}
use Rattle.iocm_lines.proofs.AnswerLines.{answer_is_read_back}

texts_are_plain : (xs : List (List ℕ)) → ItemsArePlain (texts xs)
texts_are_plain [] = tt
texts_are_plain (x ∷ xs) = (tt, texts_are_plain xs)

texts_are_flat : (xs : List (List ℕ)) → items_depth (texts xs) ≡ 0
texts_are_flat [] = refl
texts_are_flat (x ∷ xs) = omega (arith, texts_are_flat xs)

pub subchannel_is_read_back : (s : SubId) (v : View) (name : List ℕ) → IsSubchannel s
    → IsReadBack (subchannel_value (s, v) name)
subchannel_is_read_back s v name is =
    let css : s.image.css < 2 ^ 64 = let small = is.css in omega arith in
    let set : s.set < 2 ^ 64 = let small = is.set in omega arith in
    plain_is_read_back (subchannel_value (s, v) name) (
      texts_are_plain (map hex2 (paths_in v.pam v.paths)),
      refl,
      (
        css,
        refl,
        (
          tt,
          refl,
          (
            tt,
            refl,
            (
              texts_are_plain (map hex2 (paths_in v.pim v.paths)),
              refl,
              (
                tt,
                refl,
                (
                  tt,
                  refl,
                  (
                    tt,
                    refl,
                    (texts_are_plain (map hex2 v.paths), refl, (tt, refl, (set, refl, (tt, refl, (tt, refl, tt))))),
                  ),
                ),
              ),
            ),
          ),
        ),
      ),
    )
    (rw (
      texts_are_flat (map hex2 (paths_in v.pam v.paths)),
      texts_are_flat (map hex2 (paths_in v.pim v.paths)),
      texts_are_flat (map hex2 v.paths),
    ) (omega arith))

-- ---- an altered subchannel

seen_is_plain : (seen : Option View) → IsPlain (seen_value seen)
seen_is_plain None = tt
seen_is_plain (Some v) = (
  texts_are_plain (map hex2 (paths_in v.pam v.paths)),
  refl,
  (
    tt,
    refl,
    (
      texts_are_plain (map hex2 (paths_in v.pim v.paths)),
      refl,
      (
        tt,
        refl,
        (texts_are_plain (map hex2 v.paths), refl, (tt, refl, tt)),
      ),
    ),
  ),
)

seen_is_flat : (seen : Option View) → depth (seen_value seen) ≤ 2
seen_is_flat None = omega arith
seen_is_flat (Some v) =
    rw (
      texts_are_flat (map hex2 (paths_in v.pam v.paths)),
      texts_are_flat (map hex2 (paths_in v.pim v.paths)),
      texts_are_flat (map hex2 v.paths),
    ) (omega arith)

pub altered_is_read_back : (s : SubId) (before after : Option View) → IsSubchannel s
    → IsReadBack (altered_value s before after)
altered_is_read_back s before after is =
    let css : s.image.css < 2 ^ 64 = let small = is.css in omega arith in
    let set : s.set < 2 ^ 64 = let small = is.set in omega arith in
    plain_is_read_back (altered_value s before after) (
      seen_is_plain after,
      refl,
      (
        seen_is_plain before,
        refl,
        (
          css,
          refl,
          (
            tt,
            refl,
            (
              tt,
              refl,
              (
                set,
                refl,
                (tt, refl, (tt, refl, tt)),
              ),
            ),
          ),
        ),
      ),
    )
    (omega (arith, seen_is_flat before, seen_is_flat after))

-- ---- a refusal

-- the members that each line has, and then those that are put before them
abbrev required : Told → List (List ℕ × Data)
required why =
    (codes "rule", string (rule_text why.number)) ∷ (codes "title", string why.title)
    ∷ (codes "type", string (codes "refused")) ∷ []

abbrev with_node : Told → List (List ℕ × Data)
with_node why = if_there (codes "node") (option_map count why.node) (required why)

abbrev with_line : Told → List (List ℕ × Data)
with_line why = if_there (codes "line") (option_map count why.line) (with_node why)

abbrev with_input : Told → List (List ℕ × Data)
with_input why =
    if_there (codes "input") (option_map (λ i. string (input_text i)) why.input) (with_line why)

abbrev with_about : Told → List (List ℕ × Data)
with_about why = if_there (codes "about") (option_map string (about_text why.about)) (with_input why)

refused_is_plain : (why : Told) → IfSome why.line (λ n. n < 2 ^ 64)
    → IfSome why.node (λ n. n < 2 ^ 64) → MembersArePlain (members (with_about why))
refused_is_plain why line_small node_small =
    let about = option_map string (about_text why.about) in
    let read = option_map (λ i. string (input_text i)) why.input in
    let at = option_map count why.line in
    let node = option_map count why.node in
    let rest = required why in
    let after_line = before_optional (codes "line") (codes "node") node rest refl refl in
    let after_input = before_optional (codes "input") (codes "line") at (with_node why) refl
    (before_optional (codes "input") (codes "node") node rest refl refl) in
    let after_about = before_optional (codes "about") (codes "input") read (with_line why) refl
    (before_optional (codes "about") (codes "line") at (with_node why) refl
    (before_optional (codes "about") (codes "node") node rest refl refl)) in
    plain_optional (codes "about") about (with_input why) (text_plain (λ t. t) (about_text why.about)) after_about
    (plain_optional (codes "input") read (with_line why) (text_plain input_text why.input) after_input
    (plain_optional (codes "line") at (with_node why) (count_plain why.line line_small) after_line
    (plain_optional (codes "node") node rest (count_plain why.node node_small) refl
    (tt, refl, (tt, refl, (tt, refl, tt))))))

refused_is_flat : (why : Told) → members_depth (members (with_about why)) ≤ 0
refused_is_flat why =
    flat_optional (codes "about") (option_map string (about_text why.about)) (with_input why)
    (text_flat (λ t. t) (about_text why.about))
    (flat_optional (codes "input") (option_map (λ i. string (input_text i)) why.input) (with_line why)
    (text_flat input_text why.input)
    (flat_optional (codes "line") (option_map count why.line) (with_node why) (count_flat why.line)
    (flat_optional (codes "node") (option_map count why.node) (required why) (count_flat why.node)
    (omega arith))))

refused_is_read_back : (why : Told) → IfSome why.line (λ n. n < 2 ^ 64)
    → IfSome why.node (λ n. n < 2 ^ 64) → IsReadBack (refused_value why)
refused_is_read_back why line_small node_small =
    plain_is_read_back (refused_value why) (refused_is_plain why line_small node_small)
    (omega (arith, refused_is_flat why))

pub lines_are_read_back : LinesAreReadBack
lines_are_read_back = record {
  subchannel = subchannel_is_read_back;
  accepted = λ records small. plain_is_read_back (accepted_value records) (small, refl, (tt, refl, tt)) (omega arith);
  change = λ altered number small less. plain_is_read_back (change_value altered number)
      (small, refl, (less, refl, (tt, refl, tt))) (omega arith);
  trace = λ calls small. plain_is_read_back (trace_value calls) (small, refl, (tt, refl, tt)) (omega arith);
  counts = λ n came changed gone same. plain_is_read_back (count_value n)
      (came, refl, (changed, refl, (gone, refl, (tt, refl, (same, refl, (tt, refl, tt)))))) (omega arith);
  refused = refused_is_read_back;
  altered = altered_is_read_back;
  answer = answer_is_read_back;
}
