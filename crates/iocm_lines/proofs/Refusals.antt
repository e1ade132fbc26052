-- The text of a refusal, member by member.
use Rattle.std.proofs.Common.{◌≡◌, ℕ, List, [], ◌∷◌, ◌++◌, codes, Some, refl, sym, ap, ◌∙◌}
use Rattle.std.proofs.Common.{option_map, decimal}
use Rattle.json.specs.Print.{escape, escape_byte, quoted}
use Rattle.iocm_types.specs.Rule.{rule_text}
use Rattle.serde_json.specs.Data.{Data, string}
use Rattle.serde_json.specs.Written.{compact_text}
use Rattle.iocm_lines.specs.Lines.{with_comma_if_there}
use Rattle.iocm_lines.specs.Members.{count}
use Rattle.iocm_lines.specs.Answer.{refusal_answer}
use Rattle.iocm_types.specs.declared.refused.Refused.{Refused}
use Rattle.iocm_lines.specs.Refused.{Told, refused_value, about_text, input_text}
use Rattle.iocm_lines.proofs.Objects.{Follows, optional_first, object_is, text_member, follows_same}
use Rattle.iocm_lines.proofs.Texts.{closed, commad, rule_stays}

abbrev pub form_end : List ℕ → List ℕ → List ℕ
form_end title form = codes "\",\"title\":" ++ (quoted title ++ (codes ",\"type\":\"" ++ (form ++ codes "\"}")))

abbrev pub required : List ℕ → List ℕ → List ℕ → List (List ℕ × Data)
required rule title form =
    (codes "rule", string rule) ∷ (codes "title", string title) ∷ (codes "type", string form) ∷ []

abbrev required_text : List ℕ → List ℕ → List ℕ → List ℕ
required_text rule title form =
    codes "\"rule\":\"" ++ ((rule ++ 34 ∷ []) ++ (codes ",\"title\":" ++ (quoted title
    ++ (codes ",\"type\":\"" ++ ((form ++ 34 ∷ []) ++ 125 ∷ [])))))

pub required_follow : (rule title form : List ℕ) → escape rule ≡ rule → escape form ≡ form
    → Follows (codes "\"rule\":\"" ++ (rule ++ form_end title form)) (required rule title form)
unfolding escape_byte
required_follow rule title form rule_stay form_stay =
    let rest : List ℕ → List ℕ = λ l. codes ",\"title\":" ++ (quoted title ++ (codes ",\"type\":\"" ++ l)) in (
      (codes "rule", string rule),
      (codes "title", string title) ∷ (codes "type", string form) ∷ [],
      refl,
      ap (λ l. codes "\"rule\":\"" ++ l) (closed rule (rest (form ++ codes "\"}"))
          ∙ ap (λ l. (rule ++ 34 ∷ []) ++ rest l) (closed form (125 ∷ [])))
          ∙ (λ i. required_text (sym rule_stay i) title (sym form_stay i)),
    )

refused_stays : escape (codes "refused") ≡ codes "refused"
unfolding escape_byte
refused_stays = refl

pub refused_text : (why : Told)
    → 123 ∷ (with_comma_if_there (codes "about") (option_map string (about_text why.about))
    ++ (with_comma_if_there (codes "input") (option_map (λ i. string (input_text i)) why.input)
    ++ (with_comma_if_there (codes "line") (option_map count why.line)
    ++ (with_comma_if_there (codes "node") (option_map count why.node)
    ++ (codes "\"rule\":\"" ++ (rule_text why.number ++ form_end why.title (codes "refused")))))))
    ≡ compact_text (refused_value why)
refused_text why =
    let rest = required (rule_text why.number) why.title (codes "refused") in
    let node = option_map count why.node in
    let line = option_map count why.line in
    let input = option_map (λ i. string (input_text i)) why.input in
    let about = option_map string (about_text why.about) in
    object_is _ _
    (optional_first (codes "about") about _ _
    (optional_first (codes "input") input _ _
    (optional_first (codes "line") line _ _
    (optional_first (codes "node") node _ rest
    (required_follow (rule_text why.number) why.title (codes "refused") (rule_stays why.number) refused_stays)))))

pub about_member : (text : List ℕ) → escape text ≡ text
    → codes "\"about\":\"" ++ (text ++ codes "\",") ≡ with_comma_if_there (codes "about") (Some (string text))
unfolding escape_byte
about_member text stays = text_member (codes "about") text stays

pub input_member : (text : List ℕ) → escape text ≡ text
    → codes "\"input\":\"" ++ (text ++ codes "\",") ≡ with_comma_if_there (codes "input") (Some (string text))
unfolding escape_byte
input_member text stays = text_member (codes "input") text stays

-- ---- a refusal as an answer

answer_stays : escape (codes "answer") ≡ codes "answer"
unfolding escape_byte
answer_stays = refl

module _ (line : ℕ) (why : Refused) (title : List ℕ) where
  abbrev from_node : List ℕ
  from_node = with_comma_if_there (codes "node") (option_map count why.node)
      ++ (codes "\"rule\":\"" ++ (rule_text why.rule ++ form_end title (codes "answer")))

  both_first : with_comma_if_there (codes "answer") (Some (string (codes "refused")))
      ++ (with_comma_if_there (codes "line") (Some (count line)) ++ from_node)
      ≡ codes "\"answer\":\"refused\",\"line\":" ++ (decimal line ++ (codes "," ++ from_node))
  unfolding escape_byte
  both_first = ap (λ l. codes "\"answer\":\"refused\",\"line\":" ++ l) (commad (decimal line) from_node)

  pub refusal_text :
      123 ∷ (with_comma_if_there (codes "about") (option_map string (about_text why.at))
      ++ (codes "\"answer\":\"refused\",\"line\":" ++ (decimal line ++ (codes "," ++ from_node))))
      ≡ compact_text (refusal_answer line why title)
  refusal_text =
      let rest = required (rule_text why.rule) title (codes "answer") in
      let node = option_map count why.node in
      object_is _ _
      (optional_first (codes "about") (option_map string (about_text why.at)) _ _
      (follows_same _ _ _ both_first
      (optional_first (codes "answer") (Some (string (codes "refused"))) _ _
      (optional_first (codes "line") (Some (count line)) _ _
      (optional_first (codes "node") node _ rest
      (required_follow (rule_text why.rule) title (codes "answer") (rule_stays why.rule) answer_stays))))))
