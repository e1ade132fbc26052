-- The line of each answer is read back.
use Rattle.std.proofs.Common.{ℕ, ◌<◌, ◌^◌, List, [], ◌∷◌, true, false, IfSome, Some, refl, arith, codes, option_map}
use Rattle.iocm_types.specs.Rule.{rule_text}
use Rattle.iocm_types.specs.declared.answer.Answer.{Answer}
use Rattle.iocm_types.specs.declared.answer.Answer.TheVariants as answer
use Rattle.iocm_types.specs.declared.order.Io.TheVariants as io
use Rattle.iocm_types.specs.declared.refused.Refused.{Refused}
use Rattle.serde_json.specs.Data.{Data, string}
use Rattle.iocm_lines.specs.Again.{IsAnswer, IsReadBack}
use Rattle.iocm_lines.specs.Answer.{answer_value, word_answer, change_answer, edits_answer, refusal_answer}
use Rattle.iocm_lines.specs.Members.{if_there, count}
use Rattle.iocm_lines.specs.Refused.{about_text}
use Rattle.iocm_lines.proofs.Optional.{before_optional, plain_optional, flat_optional, text_plain, text_flat}
use Rattle.iocm_lines.proofs.Optional.{count_plain, count_flat}
use Rattle.iocm_lines.proofs.ReadBack.{plain_is_read_back}

word_is_read_back : (line : ℕ) (word : List ℕ) → line < 2 ^ 64 → IsReadBack (word_answer line word)
word_is_read_back line word small =
    plain_is_read_back (word_answer line word) (tt, refl, (small, refl, (tt, refl, tt))) (omega arith)

change_is_read_back : (line : ℕ) (word : List ℕ) (n : ℕ) → line < 2 ^ 64 → n < 2 ^ 64
    → IsReadBack (change_answer line word n)
change_is_read_back line word n small less =
    plain_is_read_back (change_answer line word n) (tt, refl, (less, refl, (small, refl, (tt, refl, tt)))) (omega arith)

edits_is_read_back : (line : ℕ) (word : List ℕ) (n : ℕ) → line < 2 ^ 64 → n < 2 ^ 64
    → IsReadBack (edits_answer line word n)
edits_is_read_back line word n small less =
    plain_is_read_back (edits_answer line word n) (tt, refl, (less, refl, (small, refl, (tt, refl, tt)))) (omega arith)

-- ---- a refusal

abbrev required : Refused → List ℕ → List (List ℕ × Data)
required why title =
    (codes "rule", string (rule_text why.rule)) ∷ (codes "title", string title)
    ∷ (codes "type", string (codes "answer")) ∷ []

abbrev from_answer : ℕ → Refused → List ℕ → List (List ℕ × Data)
from_answer line why title =
    (codes "answer", string (codes "refused")) ∷ (codes "line", count line)
    ∷ if_there (codes "node") (option_map count why.node) (required why title)

refusal_is_read_back : (line : ℕ) (why : Refused) (title : List ℕ) → line < 2 ^ 64 → IfSome why.node (λ n. n < 2 ^ 64)
    → IsReadBack (refusal_answer line why title)
refusal_is_read_back line why title small node_small =
    let node = option_map count why.node in
    let rest = required why title in
    plain_is_read_back (refusal_answer line why title)
    (plain_optional (codes "about") (option_map string (about_text why.at)) (from_answer line why title)
    (text_plain (λ t. t) (about_text why.at)) (before_optional (codes "about") (codes "node") node rest refl refl) (
      tt,
      before_optional (codes "answer") (codes "node") node rest refl refl,
      (
        small,
        before_optional (codes "line") (codes "node") node rest refl refl,
        plain_optional (codes "node") node rest (count_plain why.node node_small) refl
            (tt, refl, (tt, refl, (tt, refl, tt))),
      ),
    ))
    (omega (
      arith,
      flat_optional (codes "about") (option_map string (about_text why.at)) (from_answer line why title)
          (text_flat (λ t. t) (about_text why.at))
          (flat_optional (codes "answer") (Some (string (codes "refused")))
          (if_there (codes "line") (Some (count line)) (if_there (codes "node") node rest)) refl
          (flat_optional (codes "line") (Some (count line)) (if_there (codes "node") node rest) refl
          (flat_optional (codes "node") node rest (count_flat why.node) (omega arith)))),
    ))

-- ---- any answer

pub answer_is_read_back : (line : ℕ) (a : Answer) (title : List ℕ) → line < 2 ^ 64 → IsAnswer a
    → IsReadBack (answer_value line a title)
answer_is_read_back line (answer.Io (io.Code code)) title small h =
    plain_is_read_back _ (tt, refl, (h, refl, (small, refl, (tt, refl, tt)))) (omega arith)
answer_is_read_back line (answer.Io (io.Status bits)) title small h =
    plain_is_read_back _ (tt, refl, (omega arith, refl, (small, refl, (tt, refl, (tt, refl, tt))))) (omega arith)
answer_is_read_back line (answer.Io (io.Stored s)) title small h =
    plain_is_read_back _ (
      tt,
      refl,
      (
        omega arith,
        refl,
        (
          tt,
          refl,
          (
            tt,
            refl,
            (
              small,
              refl,
              (
                tt,
                refl,
                (
                  tt,
                  refl,
                  (
                    tt,
                    refl,
                    (
                      tt,
                      refl,
                      (tt, refl, (tt, refl, tt)),
                    ),
                  ),
                ),
              ),
            ),
          ),
        ),
      ),
    ) (omega arith)
answer_is_read_back line (answer.Begun true) title small h = word_is_read_back line (codes "active") small
answer_is_read_back line (answer.Begun false) title small h = word_is_read_back line (codes "nothing") small
answer_is_read_back line (answer.Ended true) title small h = word_is_read_back line (codes "ended") small
answer_is_read_back line (answer.Ended false) title small h = word_is_read_back line (codes "nothing") small
answer_is_read_back line answer.Held title small h = word_is_read_back line (codes "held") small
answer_is_read_back line (answer.Changed n) title small h = change_is_read_back line (codes "change") n small h
answer_is_read_back line (answer.Staged n) title small h = edits_is_read_back line (codes "staged") n small h
answer_is_read_back line (answer.Left n) title small h = edits_is_read_back line (codes "left") n small h
answer_is_read_back line answer.Aborted title small h = word_is_read_back line (codes "aborted") small
answer_is_read_back line (answer.Undone n) title small h = change_is_read_back line (codes "undone") n small h
answer_is_read_back line (answer.Redone n) title small h = change_is_read_back line (codes "redone") n small h
answer_is_read_back line (answer.Shown c) title small h =
    plain_is_read_back _ (
      tt,
      refl,
      (small, refl, (h.records, refl, (h.standing, refl, (h.subchannels, refl, (tt, refl, (h.undone, refl, tt)))))),
    ) (omega arith)
answer_is_read_back line (answer.Refused why) title small h = refusal_is_read_back line why title small h
