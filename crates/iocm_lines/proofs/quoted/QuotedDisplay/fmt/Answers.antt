use Rattle.std.proofs.Common.{◌≡◌, ◌++◌, ◌∷◌, [], ℕ, List, refl, sym, ap, ◌∙◌, rules, append_assoc, append-nil}
use Rattle.std.proofs.Output.{has_written_append, has_written_of_eq}
use Rattle.std.proofs.lemmas.List.{nil_from_length}
use Rattle.std.proofs.lemmas.List.Concat.{flat_map-append}
use Rattle.std.specs.Char.{encode_utf8}
use Rattle.std.specs.Str.Iter.{chars_rest}
use Rattle.json.specs.Print.{escape, escape_byte}
use Rattle.iocm_lines.proofs.quoted.QuotedDisplay.fmt.Goals as goal

pub loop-character-init : goal.loop-character-init
loop-character-init g c = λ plain.
    let whole : chars_rest c.into_iter-character-iterator.result ≡ c.args.self.now.0.now = search rules in
    (34 ∷ [], ap (λ l. 34 ∷ escape l) whole, c.in_ok-write_str.ensures.writes plain refl)

-- a character more
turn : (front text rest whole : List ℕ) (ch : ℕ) → text ≡ encode_utf8 ch ++ rest → front ++ escape text ≡ whole
    → (front ++ escape (encode_utf8 ch)) ++ escape rest ≡ whole
turn front text rest whole ch is known =
    append_assoc front (escape (encode_utf8 ch)) (escape rest)
    ∙ ap (λ (l : List ℕ). front ++ l) (sym (flat_map-append escape_byte (encode_utf8 ch) rest) ∙ ap escape (sym is))
    ∙ known

pub loop-character-preserved : goal.loop-character-preserved
loop-character-preserved g c = λ plain.
    let h = c.loop-character.invariant plain in (
      h.0 ++ escape (encode_utf8 c.in-Some.character),
      turn h.0 _ _ _ c.in-Some.character c.in-Some.ensures.steps.0 h.1,
      has_written_append _ _ _ _ _ _ h.2 (c.in_ok-write.ensures.writes h.2.plain refl),
    )

pub returns-clause-writes : goal.returns-clause-writes
returns-clause-writes g c = λ plain ok.
    let h = c.loop-character.invariant plain in
    let none : chars_rest c.loop-character.character-iterator ≡ [] = nil_from_length _ c.in-None.ensures.steps.0.0 in
    let front = sym (append-nil h.0) ∙ ap (λ r. h.0 ++ escape r) (sym none) ∙ h.1 in
    has_written_of_eq _ _ _ _ _ (ap (λ (l : List ℕ). l ++ 34 ∷ []) front)
    (has_written_append _ _ _ _ _ _ h.2 (c.write_str-2.ensures.writes h.2.plain ok))
