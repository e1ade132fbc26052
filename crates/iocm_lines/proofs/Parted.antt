-- Lines that are written part by part, with parts between quotes that need no escapes.
use Rattle.std.proofs.Common.{◌≡◌, ℕ, ◌∷◌, [], ◌++◌, List, Bool, codes, append_assoc, decimal, if◌then◌else◌, refl, sym}
use Rattle.std.proofs.Common.{ap, ◌∙◌, true, false}
use Rattle.std.specs.Fmt.{digits}
use Rattle.serde_json.specs.Data.{boolean}
use Rattle.json.specs.Print.{escape_byte}
use Rattle.serde_json.specs.Written.{compact_text}
use Rattle.iocm_types.specs.Print.{hex1, hex2, hex4}
use Rattle.iocm_types.specs.declared.order.Stored.{Stored}
use Rattle.iocm_types.specs.declared.scsw.ScswBits.{ScswBits}
use Rattle.iocm_lines.specs.declared.change.AlteredCounts.{AlteredCounts}
use Rattle.iocm_lines.specs.Answer.{status_answer, stored_answer}
use Rattle.iocm_lines.specs.Change.{count_value}
use Rattle.iocm_lines.specs.Members.{image_name, hex8}
use Rattle.iocm_lines.proofs.Texts.{closed, image_stays, hex1_stays, hex2_stays, hex4_stays, hex8_stays}

pub count_text : (n : AlteredCounts)
    → codes "{\"came\":" ++ (decimal n.came ++ (codes ",\"changed\":" ++ (decimal n.changed ++ (codes ",\"gone\":"
    ++ (decimal n.gone ++ (codes ",\"image\":\"" ++ (image_name n.image
    ++ (codes "\",\"same\":" ++ (decimal n.same ++ codes ",\"type\":\"count\"}")))))))))
    ≡ compact_text (count_value n)
unfolding escape_byte
count_text n = rw (image_stays n.image) (simp append_assoc)

pub status_text : (line : ℕ) (bits : ScswBits)
    → codes "{\"answer\":\"cc\",\"cc\":0,\"line\":" ++ (decimal line ++ (codes ",\"scsw\":\"" ++ (hex1 bits.0
    ++ codes "\",\"type\":\"answer\"}")))
    ≡ compact_text (status_answer line bits)
unfolding escape_byte digits
status_text line bits =
    let whole : List ℕ → List ℕ = λ l. codes "{\"answer\":\"cc\",\"cc\":0,\"line\":" ++ (decimal line ++ (codes ",\"scsw\":\"" ++ l)) in
    ap whole (closed (hex1 bits.0) (codes ",\"type\":\"answer\"}"))
    ∙ ap (λ e. whole ((e ++ 34 ∷ []) ++ codes ",\"type\":\"answer\"}")) (sym (hex1_stays bits.0))

word : (b : Bool) → (if b then codes "true" else codes "false") ≡ compact_text (boolean b)
word true = refl
word false = refl

abbrev stored_parts : List ℕ → List ℕ → List ℕ → List ℕ → List ℕ → List ℕ → List ℕ → List ℕ → List ℕ
stored_parts device enabled line lpm pam parm pim bits =
    codes "{\"answer\":\"cc\",\"cc\":0,\"device\":\"" ++ ((device ++ 34 ∷ []) ++ (codes ",\"enabled\":"
    ++ (enabled ++ (codes ",\"line\":" ++ (line ++ (codes ",\"lpm\":\"" ++ ((lpm ++ 34 ∷ []) ++ (codes ",\"pam\":\""
    ++ ((pam ++ 34 ∷ []) ++ (codes ",\"parm\":\"" ++ ((parm ++ 34 ∷ []) ++ (codes ",\"pim\":\""
    ++ ((pim ++ 34 ∷ []) ++ (codes ",\"scsw\":\"" ++ ((bits ++ 34 ∷ []) ++ codes ",\"type\":\"answer\"}")))))))))))))))

stored_together : (device enabled line lpm pam parm pim bits : List ℕ)
    → (codes "{\"answer\":\"cc\",\"cc\":0,\"device\":\"" ++ (device ++ (codes "\",\"enabled\":"
    ++ (enabled ++ (codes ",\"line\":" ++ (line ++ (codes ",\"lpm\":\"" ++ (lpm ++ (codes "\",\"pam\":\"" ++ (pam
    ++ (codes "\",\"parm\":\"" ++ parm)))))))))))
    ++ (codes "\",\"pim\":\"" ++ (pim ++ (codes "\",\"scsw\":\"" ++ (bits ++ codes "\",\"type\":\"answer\"}"))))
    ≡ stored_parts device enabled line lpm pam parm pim bits
stored_together device enabled line lpm pam parm pim bits = simp append_assoc

pub stored_text : (line : ℕ) (s : Stored)
    → (codes "{\"answer\":\"cc\",\"cc\":0,\"device\":\"" ++ (hex4 s.device ++ (codes "\",\"enabled\":"
    ++ ((if s.enabled then codes "true" else codes "false") ++ (codes ",\"line\":" ++ (decimal line
    ++ (codes ",\"lpm\":\"" ++ (hex2 s.lpm ++ (codes "\",\"pam\":\"" ++ (hex2 s.pam ++ (codes "\",\"parm\":\""
    ++ hex8 s.parm)))))))))))
    ++ (codes "\",\"pim\":\"" ++ (hex2 s.pim ++ (codes "\",\"scsw\":\"" ++ (hex1 s.bits.0
    ++ codes "\",\"type\":\"answer\"}"))))
    ≡ compact_text (stored_answer line s)
unfolding escape_byte digits
stored_text line s =
    stored_together (hex4 s.device) (if s.enabled then codes "true" else codes "false") (decimal line) (hex2 s.lpm)
    (hex2 s.pam) (hex8 s.parm) (hex2 s.pim) (hex1 s.bits.0)
    ∙ (λ i. stored_parts (sym (hex4_stays s.device) i) (word s.enabled i) (decimal line)
    (sym (hex2_stays s.lpm) i) (sym (hex2_stays s.pam) i) (sym (hex8_stays s.parm) i) (sym (hex2_stays s.pim) i)
    (sym (hex1_stays s.bits.0) i))
