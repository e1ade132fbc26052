-- A deleted limit is read again: its place has 0, those of the sets before it are empty. Each place
-- is computed.
use Rattle.std.proofs.Common.{◌≡◌, ℕ, zero, suc, ◌<◌, List, [], ◌∷◌, ◌++◌, Some, replicate, codes, refl, sym, ap, ◌∙◌}
use Rattle.std.proofs.Common.{arith}
use Rattle.std.specs.Fmt.{decimal}
use Rattle.iocm_types.specs.declared.key.Key.TheVariants.{Limit}
use Rattle.iocm_model.specs.Machine.Record.{LimitRecord}
use Rattle.iocm_statements.specs.Nesting.{step, cuts, is_outside}
use Rattle.iocm_statements.specs.Pieces.{pieces_from}
use Rattle.iocm_values.specs.Reading.{every, every_at, gathered}
use Rattle.iocm_values.specs.Value.{value}
use Rattle.iocm_values.proofs.Numerals.{glyph, hex1_text, hex1_decimal}
use Rattle.iocm_operands.specs.Limits.{limits_text}
use Rattle.iocm_change_records.specs.ResourceKeys.{limit_keys}

-- the limit 0 of a set
abbrev pub no_limit : ℕ → ℕ → LimitRecord
no_limit css set = record { css = css; set = set; limit = 0 }

-- as it is written: ((CSS(0),,0))
abbrev plain_text : ℕ → ℕ → List ℕ
plain_text css set = codes "((CSS(" ++ (glyph css ∷ (codes ")," ++ (replicate set 44 ++ codes "0))")))

abbrev IsWritten : ℕ → ℕ → Type 0
IsWritten css set = limits_text (no_limit css set ∷ []) ≡ plain_text css set

abbrev IsRead : ℕ → ℕ → Type 0
IsRead css set = limit_keys (value (plain_text css set)) ≡ Some (Limit css set ∷ [])

abbrev IsAgain : ℕ → ℕ → Type 0
IsAgain css set = limit_keys (value (limits_text (no_limit css set ∷ []))) ≡ Some (Limit css set ∷ [])

zero_text : decimal 0 ≡ codes "0"
zero_text = sym (hex1_decimal 0 (omega arith)) ∙ hex1_text 0 (omega arith)

-- each set of a channel subsystem
record AreSets (P : ℕ → ℕ → Type 0) (css : ℕ) : Type 0 where
  pub first : P css 0
  pub second : P css 1
  pub third : P css 2
  pub fourth : P css 3

of_set : (P : ℕ → ℕ → Type 0) (css : ℕ) → AreSets P css → (set : ℕ) → set < 4 → P css set
of_set P css all zero small = all.first
of_set P css all (suc zero) small = all.second
of_set P css all (suc (suc zero)) small = all.third
of_set P css all (suc (suc (suc zero))) small = all.fourth
of_set P css all (suc (suc (suc (suc n)))) small = absurd (omega arith)

all_written : (css : ℕ) → css < 6 → AreSets IsWritten css
all_written zero small =
    record {
      first = rw (hex1_text 0 (omega arith), zero_text) refl;
      second = rw (hex1_text 0 (omega arith), zero_text) refl;
      third =
          rw (hex1_text 0 (omega arith), zero_text) refl;
      fourth = rw (hex1_text 0 (omega arith), zero_text) refl;
    }
all_written (suc zero) small =
    record {
      first = rw (hex1_text 1 (omega arith), zero_text) refl;
      second = rw (hex1_text 1 (omega arith), zero_text) refl;
      third =
          rw (hex1_text 1 (omega arith), zero_text) refl;
      fourth = rw (hex1_text 1 (omega arith), zero_text) refl;
    }
all_written (suc (suc zero)) small =
    record {
      first = rw (hex1_text 2 (omega arith), zero_text) refl;
      second = rw (hex1_text 2 (omega arith), zero_text) refl;
      third =
          rw (hex1_text 2 (omega arith), zero_text) refl;
      fourth = rw (hex1_text 2 (omega arith), zero_text) refl;
    }
all_written (suc (suc (suc zero))) small =
    record {
      first = rw (hex1_text 3 (omega arith), zero_text) refl;
      second = rw (hex1_text 3 (omega arith), zero_text) refl;
      third =
          rw (hex1_text 3 (omega arith), zero_text) refl;
      fourth = rw (hex1_text 3 (omega arith), zero_text) refl;
    }
all_written (suc (suc (suc (suc zero)))) small =
    record {
      first = rw (hex1_text 4 (omega arith), zero_text) refl;
      second = rw (hex1_text 4 (omega arith), zero_text) refl;
      third =
          rw (hex1_text 4 (omega arith), zero_text) refl;
      fourth = rw (hex1_text 4 (omega arith), zero_text) refl;
    }
all_written (suc (suc (suc (suc (suc zero))))) small =
    record {
      first = rw (hex1_text 5 (omega arith), zero_text) refl;
      second = rw (hex1_text 5 (omega arith), zero_text) refl;
      third =
          rw (hex1_text 5 (omega arith), zero_text) refl;
      fourth = rw (hex1_text 5 (omega arith), zero_text) refl;
    }
all_written (suc (suc (suc (suc (suc (suc n)))))) small = absurd (omega arith)

all_read : (css : ℕ) → css < 6 → AreSets IsRead css
unfolding every every_at gathered pieces_from step cuts is_outside
all_read zero small = record { first = refl; second = refl; third = refl; fourth = refl }
all_read (suc zero) small = record { first = refl; second = refl; third = refl; fourth = refl }
all_read (suc (suc zero)) small = record { first = refl; second = refl; third = refl; fourth = refl }
all_read (suc (suc (suc zero))) small = record { first = refl; second = refl; third = refl; fourth = refl }
all_read (suc (suc (suc (suc zero)))) small = record { first = refl; second = refl; third = refl; fourth = refl }
all_read (suc (suc (suc (suc (suc zero))))) small = record { first = refl; second = refl; third = refl; fourth = refl }
all_read (suc (suc (suc (suc (suc (suc n)))))) small = absurd (omega arith)

pub limit_keys_again : (css set : ℕ) → css < 6 → set < 4 → IsAgain css set
limit_keys_again css set small_css small_set =
    ap (λ text. limit_keys (value text)) (of_set IsWritten css (all_written css small_css) set small_set)
    ∙ of_set IsRead css (all_read css small_css) set small_set
