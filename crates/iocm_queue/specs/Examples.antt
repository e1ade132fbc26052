-- What was taken of two operators, worked by hand: operator 0 sent 7 and 9 and its end mark,
-- operator 1 sent 8 and 7.
use Rattle.std.specs.Prelude.{◌≡◌, ℕ, true, false, List, [], ◌∷◌, refl}
use Rattle.iocm_queue.specs.declared.message.Item.TheVariants as items
use Rattle.iocm_queue.specs.declared.message.Message.{Message}
use Rattle.iocm_queue.specs.declared.message.Message.TheVariants.{Line, End}
use Rattle.iocm_queue.specs.Taken.{is_over, lines_of, message_of, of, IsNumbered, IsWaiting}

abbrev pub taken : List (Message ℕ)
taken = Line 0 7 ∷ Line 1 8 ∷ Line 0 9 ∷ End 0 ∷ Line 1 7 ∷ []

pub messages_of_the_first : of 0 taken ≡ Line 0 7 ∷ Line 0 9 ∷ End 0 ∷ []
messages_of_the_first = refl

pub lines_of_the_first : lines_of 0 taken ≡ 7 ∷ 9 ∷ []
lines_of_the_first = refl

pub lines_of_the_second : lines_of 1 taken ≡ 8 ∷ 7 ∷ []
lines_of_the_second = refl

pub the_first_is_over : is_over 0 taken ≡ true
the_first_is_over = refl

pub the_second_is_not : is_over 1 taken ≡ false
the_second_is_not = refl

-- the next line of operator 1 is its third, whatever the line is
pub the_next_line : IsNumbered taken (items.Line 1 2 5)
the_next_line = refl

pub its_message : message_of {T = ℕ} (items.Line 1 2 5) ≡ Line 1 5
its_message = refl

-- of what operator 0 sent, 9 and the end mark wait in a channel that holds 8, 9, this mark and 7
abbrev pub held : List (Message ℕ)
held = Line 1 8 ∷ Line 0 9 ∷ End 0 ∷ Line 1 7 ∷ []

pub waiting : IsWaiting {T = ℕ} 0 (of 0 taken) held
waiting = (Line 0 7 ∷ [], refl)
