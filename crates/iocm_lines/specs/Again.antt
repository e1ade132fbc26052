-- A line is read again: which values keep their text, and which rows have lines of their own.
use Rattle.std.specs.Prelude.{◌≡◌, ℕ, ◌<◌, ◌≤◌, ◌^◌, ◌&&◌, Bool, true, IsTrue, nat_lt, List, Option, Some, IfSome, ⊤}
use Rattle.std.specs.List.{list_all}
use Rattle.std.specs.Ordering.{nat_cmp, match_ordering}
use Rattle.std.specs.Cmp.Lexicographic.{slice_cmp}
use Rattle.std.specs.Prelude.{false}
use Rattle.iocm_types.specs.declared.answer.Answer.{Answer}
use Rattle.iocm_types.specs.declared.answer.Answer.TheVariants as answer
use Rattle.iocm_types.specs.declared.answer.Counts.{Counts}
use Rattle.iocm_types.specs.declared.order.Io.TheVariants as io
use Rattle.iocm_types.specs.declared.sub_id.SubId.{SubId}
use Rattle.iocm_types.specs.declared.view.View.{View}
use Rattle.serde_json.specs.Data.{unsigned, negative, float, Data, null, boolean, number, string, array, object}
use Rattle.serde_json.specs.Data.{Items, no_items, item, Members, no_members, member, depth}
use Rattle.serde_json.specs.Read.{read, max_depth}
use Rattle.serde_json.specs.Written.{compact_text}
use Rattle.iocm_lines.specs.declared.change.AlteredCounts.{AlteredCounts}
use Rattle.iocm_lines.specs.Accepted.{accepted_value}
use Rattle.iocm_lines.specs.Altered.{altered_value}
use Rattle.iocm_lines.specs.Answer.{answer_value}
use Rattle.iocm_lines.specs.Change.{change_value, count_value}
use Rattle.iocm_lines.specs.Lines.{line}
use Rattle.iocm_lines.specs.Refused.{Told, refused_value}
use Rattle.iocm_lines.specs.Subchannel.{subchannel_value}
use Rattle.iocm_lines.specs.Trace.{trace_value}

-- a name comes before each of some members
abbrev pub is_before : List ℕ → Members → Bool
is_before name no_members = true
is_before name (member other value more) =
    match_ordering (slice_cmp nat_cmp other name) false false true && is_before name more

-- numbers are integers of 64 bits, and each object has its members in the order of their names
abbrev mutual
  pub IsPlain : Data → Type 0
  IsPlain null = ⊤
  IsPlain (boolean b) = ⊤
  IsPlain (number (unsigned n)) = n < 2 ^ 64
  IsPlain (number (negative z)) = ⊥
  IsPlain (number (float x)) = ⊥
  IsPlain (string s) = ⊤
  IsPlain (array items) = ItemsArePlain items
  IsPlain (object members) = MembersArePlain members

  pub ItemsArePlain : Items → Type 0
  ItemsArePlain no_items = ⊤
  ItemsArePlain (item value more) = IsPlain value × ItemsArePlain more

  pub MembersArePlain : Members → Type 0
  MembersArePlain no_members = ⊤
  MembersArePlain (member name value more) = IsPlain value × IsTrue (is_before name more) × MembersArePlain more

-- the text of a value is read back as the value
abbrev pub IsReadBack : Data → Type 0
IsReadBack value = read (compact_text value) ≡ Some value

-- so is each plain value that doesn't nest deeper than is read
abbrev pub PlainIsReadBack : Type 0
PlainIsReadBack = (value : Data) → IsPlain value → depth value ≤ max_depth → IsReadBack value

-- ---- each line is read back

-- the ranges of the numbers of a subchannel
pub record IsSubchannel (s : SubId) : Type 0 where
  pub css : s.image.css < 16
  pub mif : s.image.mif < 16
  pub set : s.set < 16
  pub number : s.number < 65536

-- the numbers that a machine counts
pub record AreCounts (c : Counts) : Type 0 where
  pub records : c.records < 2 ^ 64
  pub subchannels : c.subchannels < 2 ^ 64
  pub standing : c.standing < 2 ^ 64
  pub undone : c.undone < 2 ^ 64

-- the numbers of an answer have 64 bits
abbrev pub IsAnswer : Answer → Type 0
IsAnswer (answer.Io (io.Code code)) = code < 2 ^ 64
IsAnswer (answer.Io (io.Status bits)) = ⊤
IsAnswer (answer.Io (io.Stored s)) = ⊤
IsAnswer (answer.Begun b) = ⊤
IsAnswer (answer.Ended b) = ⊤
IsAnswer answer.Held = ⊤
IsAnswer (answer.Changed n) = n < 2 ^ 64
IsAnswer (answer.Staged n) = n < 2 ^ 64
IsAnswer (answer.Left n) = n < 2 ^ 64
IsAnswer answer.Aborted = ⊤
IsAnswer (answer.Undone n) = n < 2 ^ 64
IsAnswer (answer.Redone n) = n < 2 ^ 64
IsAnswer (answer.Shown c) = AreCounts c
IsAnswer (answer.Refused why) = IfSome why.node (λ n. n < 2 ^ 64)

-- what is read back: the lines of subchannels, of what is accepted, changed, refused, altered and answered, and of a trace
pub record LinesAreReadBack : Type 0 where
  pub subchannel : (s : SubId) (v : View) (name : List ℕ) → IsSubchannel s → IsReadBack (subchannel_value (s, v) name)
  pub accepted : (records : ℕ) → records < 2 ^ 64 → IsReadBack (accepted_value records)
  pub change : (altered number : ℕ) → altered < 2 ^ 64 → number < 2 ^ 64 → IsReadBack (change_value altered number)
  pub counts : (n : AlteredCounts) → n.came < 2 ^ 64 → n.changed < 2 ^ 64 → n.gone < 2 ^ 64 → n.same < 2 ^ 64
      → IsReadBack (count_value n)
  pub trace : (calls : ℕ) → calls < 2 ^ 64 → IsReadBack (trace_value calls)
  pub refused : (why : Told) → IfSome why.line (λ n. n < 2 ^ 64) → IfSome why.node (λ n. n < 2 ^ 64)
      → IsReadBack (refused_value why)
  pub altered : (s : SubId) (before after : Option View) → IsSubchannel s → IsReadBack (altered_value s before after)
  pub answer : (line : ℕ) (a : Answer) (title : List ℕ) → line < 2 ^ 64 → IsAnswer a
      → IsReadBack (answer_value line a title)

-- ---- a line tells its row

-- the ranges of the numbers of a view
pub record IsView (v : View) : Type 0 where
  pub device : v.device < 65536
  pub paths : IsTrue (list_all (λ path. nat_lt path 256) v.paths)
  pub pim : v.pim < 256
  pub pam : v.pam < 256

-- subchannels with the same line are the same, with the same view and the same name of the image
abbrev pub LineTellsTheRow : Type 0
LineTellsTheRow = (s t : SubId) (v w : View) (name other : List ℕ) → IsSubchannel s → IsSubchannel t → IsView v
    → IsView w → line (subchannel_value (s, v) name) ≡ line (subchannel_value (t, w) other)
    → (s ≡ t) × (v ≡ w) × (name ≡ other)

-- so are altered subchannels, with the same views before and afterwards
abbrev pub LineTellsTheAltered : Type 0
LineTellsTheAltered = (s t : SubId) (before after before_t after_t : Option View) → IsSubchannel s → IsSubchannel t
    → IfSome before IsView → IfSome after IsView → IfSome before_t IsView → IfSome after_t IsView
    → line (altered_value s before after) ≡ line (altered_value t before_t after_t)
    → (s ≡ t) × (before ≡ before_t) × (after ≡ after_t)
