-- The operand part of a statement, and how it goes on in continuations.
use Rattle.std.specs.Prelude.{ℕ, ◌-◌, ◌==◌, Bool, false, not, ◌&&◌, ◌||◌, List, []}
use Rattle.std.specs.Prelude.{◌∷◌, ◌++◌, length, slice_index, if◌then◌else◌}
use Rattle.std.specs.List.{fold}
use Rattle.iocm_columns.specs.declared.going.Going.{Going}
use Rattle.iocm_columns.specs.declared.going.Going.TheVariants.{Exactly, AtNext, Ended}
use Rattle.iocm_columns.specs.Columns.{is_blank, after_blanks}

-- a quote switches between inside and outside
unfoldable pub switched : Bool → ℕ → Bool
switched inside b = if b == 39 then not inside else inside

-- whether a text ends inside quotes
abbrev pub is_quoting : List ℕ → Bool
is_quoting text = fold switched false text

-- a part ends before a blank outside quotes
unfoldable pub ends : Bool → ℕ → Bool
ends inside b = is_blank b && not inside

-- the columns that belong to a part, up to where it ends; inside says whether they begin inside
-- quotes
unfoldable pub front : Bool → List ℕ → List ℕ
front inside [] = []
front inside (b ∷ bs) = if ends inside b then [] else b ∷ front (switched inside b) bs

-- a text that ends in a comma outside quotes
abbrev pub ends_in_comma : List ℕ → Bool
ends_in_comma text = (slice_index text (length text - 1) == 44) && not (is_quoting text)

-- how a part goes on in a continuation: at the next nonblank, where it is empty or ends in a comma
-- outside quotes; else exactly at column 16, where it ran through column 71; else not at all, and
-- what follows is remark
abbrev pub going_of : List ℕ → Bool → Going
going_of text through =
    if (length text == 0) || ends_in_comma text then AtNext else (if through then Exactly else Ended)

-- a part so far, and how it goes on
pub record Part : Type 0 where
  pub text : List ℕ
  pub going : Going

-- a text with the columns that were taken behind it; it ran through where all were taken
abbrev pub part_with : List ℕ → List ℕ → List ℕ → Part
part_with text columns taken = record {
  text = text ++ taken;
  going = going_of (text ++ taken) (length taken == length columns);
}

-- a text that goes on in these columns
abbrev pub part_after : List ℕ → List ℕ → Part
part_after text columns = part_with text columns (front (is_quoting text) columns)

-- a part with columns 16 to 71 of a continuation
abbrev pub continued : Going → List ℕ → List ℕ → Part
continued Exactly text area = part_after text area
continued AtNext text area = part_after text (after_blanks area)
continued Ended text area = record { text = text; going = Ended }
