-- The lines of a list are those of its parts, one after the other, and all lines are the table, in each form.
use Rattle.std.proofs.Common.{◌≡◌, ℕ, ◌==◌, ◌+◌, ◌<◌, ◌&&◌, List, [], ◌∷◌, ◌++◌, length, take, map, filter, get_or}
use Rattle.std.proofs.Common.{Bool, true, false, cond, not, Option, Some, None, refl, ◌∙◌, sym, ap, ap₂, subst}
use Rattle.std.specs.List.{flat_map, filter_map, cons_option}
use Rattle.std.specs.Option.{option_map}
use Rattle.std.specs.Prelude.{All, IfSome}
use Rattle.iocm_types.specs.declared.image.Image.{Image}
use Rattle.std.specs.FinMap.{entries}
use Rattle.std.proofs.lemmas.List.{take_more, map-append, append-nil}
use Rattle.std.proofs.lemmas.List.Elements.{All-head, All-tail, All-pop, All-rest, filter-append, filter_agree, filter_map-append}
use Rattle.std.proofs.lemmas.Grind.{flat_map-append}
use Rattle.iocm_types.specs.declared.key.Key.{Key}
use Rattle.iocm_types.specs.declared.place.NumberCell.{NumberCell}
use Rattle.iocm_types.specs.declared.sub_id.SubId.{SubId}
use Rattle.iocm_types.specs.declared.view.View.{View}
use Rattle.iocm_record.specs.declared.record.RecordBody.{RecordBody}
use Rattle.iocm_record.specs.declared.record.RecordBody.TheVariants as body
use Rattle.iocm_record.specs.Meaning.{record_of}
use Rattle.iocm_model.specs.Machine.Record.{Rec, ImageRecord, image}
use Rattle.iocm_model.specs.Machine.Configuration.{Configuration, IsKeyed, Lookup, lookup_of, as_image, images_of}
use Rattle.iocm_model.specs.Machine.Numbering.{Numbering, cells_of}
use Rattle.iocm_model.specs.Machine.Table.{line_of}
use Rattle.iocm_model.specs.Machine.View.{row_at, image_view, views}
use Rattle.iocm_derive.specs.Sighted.{Sighted}
use Rattle.iocm_filter.specs.Wanted.{Wanted, wanted, wants_view, asks_nothing}
use Rattle.iocm_filter.specs.Sieves.{Sieve, passes_device, IsSieveFor}
use Rattle.iocm_filter.proofs.WantedLaws.{nothing_is_all, passes_wanted}
use Rattle.iocm_console.specs.declared.cells.CellDevice.{CellDevice}
use Rattle.iocm_console.specs.declared.seen.Seen.{Seen}
use Rattle.iocm_console.specs.Alike.{IsAlike, ServeFor, is_of, view_of, IsSeenAt}
use Rattle.iocm_console.specs.Lines.{CellDevices, Gathered, celled, image_of, subchannel_at, seen_at, is_image_kept}
use Rattle.iocm_console.specs.Lines.{is_kept, is_view_kept, kept_line, line_at, image_lines, record_lines}
use Rattle.iocm_console.specs.Lines.{row_text, text_at}
use Rattle.iocm_lines.specs.declared.form.Form.{Form}
use Rattle.iocm_lines.specs.declared.form.Form.TheVariants.{Text}
use Rattle.iocm_console.proofs.Names.{images_named}
use Rattle.iocm_console.specs.Table.{name_in, opening_text, rows_in, table_in, text_by, whole_table_in}

-- ---- one more

-- the line at one more cell
pub image_lines_more : (form : Form) (s : Option Sieve) (start now : Sighted) → now ≡ start → (xs : List CellDevice) (k : ℕ)
    (x : CellDevice) → k < length xs → x ≡ get_or xs k x
    → (id : SubId) (name : List ℕ) (seen : Seen) → id ≡ subchannel_at (image_of start.image) x.cell
    → name ≡ start.image.name → IsSeenAt (lookup_of now.records) now.image seen x
    → image_lines form s (lookup_of start.records) start.image (celled (take k xs))
    ++ kept_line form s name id (view_of seen x.device)
    ≡ image_lines form s (lookup_of start.records) start.image (celled (take (k + 1) xs))
unfolding image_lines
image_lines_more form s start now same xs k x h is id name seen here named at =
    let lines = λ (e : NumberCell × ℕ). kept_line form s start.image.name (subchannel_at (image_of start.image) e.0)
    (seen_at (lookup_of start.records) start.image e) in
    let view = at.view ∙ ap (λ (z : Sighted). seen_at (lookup_of z.records) z.image (x.cell, x.device)) same in
    ap (λ ls. flat_map lines (celled (take k xs)) ++ ls) ((λ i. kept_line form s (named i) (here i) (view i)) ∙ sym (append-nil _))
    ∙ sym (ap (flat_map lines)
    (ap celled (take_more xs k x h ∙ ap (λ y. take k xs ++ y ∷ []) (sym is)) ∙ map-append _ (take k xs) (x ∷ []))
    ∙ flat_map-append lines (celled (take k xs)) ((x.cell, x.device) ∷ []))

-- a line has its end
never_none : {P : Type 0} (xs : List ℕ) → xs ++ 10 ∷ [] ≡ [] → P
never_none [] is = cc
never_none (x ∷ xs) is = cc

-- the line that is kept: none, if there is none or it doesn't pass, else that of what is seen
pub kept_of_none : (form : Form) (s : Option Sieve) (name : List ℕ) (id : SubId) (o : Option View) → line_at id o ≡ []
    → kept_line form s name id o ≡ []
kept_of_none form s name id None none = refl
kept_of_none form s name id (Some v) none = never_none (line_of (id, v)) none

pub kept_out : (form : Form) (s : Option Sieve) (name : List ℕ) (id : SubId) (o : Option View)
    → is_view_kept s id o ≡ false → kept_line form s name id o ≡ []
kept_out form s name id None out = refl
kept_out form s name id (Some v) out = ap (λ b. cond b (row_text form name (id, v)) []) out

pub kept_in : (form : Form) (s : Option Sieve) (name : List ℕ) (id : SubId) (o : Option View)
    → is_view_kept s id o ≡ true → text_at form name id o ≡ kept_line form s name id o
kept_in form s name id None kept = refl
kept_in form s name id (Some v) kept = sym (ap (λ b. cond b (row_text form name (id, v)) []) kept)

-- the line of the table is the text of what is seen
pub line_is_text : (name : List ℕ) (id : SubId) (o : Option View) → line_at id o ≡ text_at Text name id o
line_is_text name id None = refl
line_is_text name id (Some v) = refl

-- the records of rows, as they are shown
abbrev pub records_in : {A : Type 0} → (A → Key × Rec) → List A → List Rec
records_in shows rows = map (λ (e : Key × Rec). e.1) (map shows rows)

-- the lines of one more row
pub record_lines_more : {A : Type 0} (form : Form) (s : Option Sieve) (c : Lookup) (cells : CellDevices)
    (shows : A → Key × Rec) (rows : List A) (x : A)
    → record_lines form s c cells (records_in shows rows) ++ record_lines form s c cells ((shows x).1 ∷ [])
    ≡ record_lines form s c cells (records_in shows (rows ++ x ∷ []))
unfolding record_lines
record_lines_more form s c cells shows rows x = simp (map-append, filter_map-append, flat_map-append)

-- ---- none

-- no cells give no lines, nor do no records
pub image_lines-nil : (form : Form) (s : Option Sieve) (c : Lookup) (i : ImageRecord) → [] ≡ image_lines form s c i []
unfolding image_lines
image_lines-nil form s c i = refl

pub record_lines-nil : (form : Form) (s : Option Sieve) (c : Lookup) (cells : CellDevices)
    → [] ≡ record_lines form s c cells []
unfolding record_lines
record_lines-nil form s c cells = refl

-- the lines of a record that is an image's
pub record_lines-image : (form : Form) (s : Option Sieve) (c : Lookup) (cells : CellDevices) (r : Rec) (i : ImageRecord)
    → r ≡ image i → image_lines form s c i cells ≡ record_lines form s c cells (r ∷ [])
unfolding record_lines
record_lines-image form s c cells r i same = rw same (sym (append-nil _))

-- a record that is no image's has none
pub record_lines-other : {A : Type 0} (form : Form) (s : Option Sieve) (c : Lookup) (cells : CellDevices) (r : Rec)
    (b : RecordBody A)
    → record_of b ≡ r → ((css mif : ℕ) (name : List ℕ) → b ≡ body.Image css mif name → ⊥)
    → [] ≡ record_lines form s c cells (r ∷ [])
unfolding record_lines
record_lines-other form s c cells r b is other = rw (← is) (by b other)
  where
    by : {A : Type 0} (b : RecordBody A) → ((css mif : ℕ) (name : List ℕ) → b ≡ body.Image css mif name → ⊥)
        → [] ≡ flat_map (λ i. image_lines form s c i cells) (filter_map as_image (record_of b ∷ []))
    by (body.Id x) h = refl
    by (body.Resource x) h = refl
    by (body.Image css mif name) h = absurd (h css mif name refl)
    by (body.Limit css set limit) h = refl
    by (body.Path x) h = refl
    by (body.Unit x) h = refl
    by (body.Device x) h = refl
    by (body.Online css path name) h = refl

-- nor has an image that doesn't pass
pub image_lines-not_kept : (form : Form) (s : Option Sieve) (c : Lookup) (i : ImageRecord)
    → is_image_kept s (image_of i) ≡ false → (cells : CellDevices) → [] ≡ image_lines form s c i cells
unfolding image_lines
image_lines-not_kept form None c i not cells = cc
image_lines-not_kept form (Some s) c i not [] = refl
image_lines-not_kept form (Some s) c i not (e ∷ es) =
    image_lines-not_kept form (Some s) c i not es ∙ by (seen_at c i e)
  where
    by : (o : Option View) → image_lines form (Some s) c i es
        ≡ kept_line form (Some s) i.name (subchannel_at (image_of i) e.0) o ++ image_lines form (Some s) c i es
    by None = refl
    by (Some v) = ap (λ b. cond (b && passes_device s e.0.set v.device && wants_view s.asked i.css v)
        (row_text form i.name (subchannel_at (image_of i) e.0, v)) [] ++ image_lines form (Some s) c i es) (sym not)

-- ---- the cells of a channel subsystem serve for its images

-- cells without a first or a last one of another channel subsystem
pub without_first : (css : ℕ) (first : CellDevice) (rest more all : List CellDevice) → rest ≡ first ∷ more
    → is_of css first ≡ false → ServeFor css rest all → ServeFor css more all
without_first css first rest more all is other serve = record {
  own = ap (λ b. cond b (first ∷ filter (is_of css) more) (filter (is_of css) more)) (sym other)
      ∙ ap (filter (is_of css)) (sym is) ∙ serve.own;
  alike = λ c h. All-rest (IsAlike c) first more rest is (serve.alike c h);
}

pub without_last : (css : ℕ) (last : CellDevice) (rest more all : List CellDevice) → rest ≡ more ++ last ∷ []
    → is_of css last ≡ false → ServeFor css rest all → ServeFor css more all
without_last css last rest more all is other serve = record {
  own = sym (append-nil _) ∙ ap (λ b. filter (is_of css) more ++ cond b (last ∷ []) []) (sym other)
      ∙ sym (filter-append (is_of css) more (last ∷ [])) ∙ ap (filter (is_of css)) (sym is) ∙ serve.own;
  alike = λ c h. (All-pop (IsAlike c) rest more (Some last) is (serve.alike c h)).0;
}

-- an image has its lines at the cells of its channel subsystem
own_lines : (form : Form) (s : Option Sieve) (c : Lookup) (i : ImageRecord) (xs : List CellDevice)
    → image_lines form s c i (celled xs) ≡ image_lines form s c i (celled (filter (is_of i.css) xs))
unfolding image_lines
own_lines form s c i [] = refl
own_lines form s c i (x ∷ xs) = by (is_of i.css x) refl (own_lines form s c i xs)
  where
    line : Bool → List ℕ
    line t = kept_line form s i.name (subchannel_at (image_of i) x.cell)
        (cond t (image_view c i x.cell.set x.device) None)

    by : (t : Bool) → is_of i.css x ≡ t
        → image_lines form s c i (celled xs) ≡ image_lines form s c i (celled (filter (is_of i.css) xs))
        → line (is_of i.css x) ++ image_lines form s c i (celled xs)
        ≡ image_lines form s c i (celled (cond t (x ∷ filter (is_of i.css) xs) (filter (is_of i.css) xs)))
    by true is more = ap (λ ls. line (is_of i.css x) ++ ls) more
    by false is more = ap (λ t. line t ++ image_lines form s c i (celled xs)) is ∙ more

-- so a record has the same lines by them
pub near_lines : (form : Form) (s : Option Sieve) (c : Lookup) (css : ℕ) (near all : List CellDevice) (r : Rec) → ServeFor css near all
    → ((i : ImageRecord) → as_image r ≡ Some i → i.css ≡ css)
    → record_lines form s c (celled near) (r ∷ []) ≡ record_lines form s c (celled all) (r ∷ [])
unfolding record_lines
near_lines form s c css near all r serve here = by (as_image r) refl
  where
    by : (o : Option ImageRecord) → as_image r ≡ o
        → record_lines form s c (celled near) (r ∷ []) ≡ record_lines form s c (celled all) (r ∷ [])
    by None is = rw is refl
    by (Some i) is = rw is (ap (λ ls. ls ++ []) (own_lines form s c i near
        ∙ subst (λ n. image_lines form s c i (celled (filter (is_of n) near)) ≡ image_lines form s c i (celled (filter (is_of n) all)))
        (sym (here i is)) (ap (λ xs. image_lines form s c i (celled xs)) serve.own)
        ∙ sym (own_lines form s c i all)))

-- ---- the table

-- the lines of rows, each with the name of its image, and the rows of an image
abbrev lines_of : Form → (Image → List ℕ) → List (SubId × View) → List ℕ
lines_of form named rows = flat_map (λ row. row_text form (named row.0.image) row) rows

abbrev rows_of : Lookup → CellDevices → ImageRecord → List (SubId × View)
rows_of c cells i = filter_map (row_at c i) (filter (λ (e : NumberCell × ℕ). e.0.css == i.css) cells)

module _ (form : Form) (s : Option Sieve) (c : Lookup) (named : Image → List ℕ) where
  -- the lines of an image are those of its rows that pass
  kept_rows : (i : ImageRecord) → named (image_of i) ≡ i.name → (cells : CellDevices)
      → lines_of form named (filter (is_kept s) (rows_of c cells i)) ≡ image_lines form s c i cells
  unfolding image_lines
  kept_rows i own [] = refl
  kept_rows i own (e ∷ es) = by (e.0.css == i.css) (kept_rows i own es)
    where
      x : SubId
      x = subchannel_at (image_of i) e.0

      own_cells : List (NumberCell × ℕ)
      own_cells = filter (λ (e : NumberCell × ℕ). e.0.css == i.css) es

      MoreAre : Type 0
      MoreAre = lines_of form named (filter (is_kept s) (rows_of c es i)) ≡ image_lines form s c i es

      passing : (v : View) (b : Bool) → MoreAre
          → lines_of form named
          (cond b ((x, v) ∷ filter (is_kept s) (rows_of c es i)) (filter (is_kept s) (rows_of c es i)))
          ≡ cond b (row_text form i.name (x, v)) [] ++ image_lines form s c i es
      passing v true more = λ j. row_text form (own j) (x, v) ++ more j
      passing v false more = more

      seen : (o : Option View) → MoreAre
          → lines_of form named
          (filter (is_kept s) (cons_option (option_map (λ (v : View). (x, v)) o) (rows_of c es i)))
          ≡ kept_line form s i.name x o ++ image_lines form s c i es
      seen None more = more
      seen (Some v) more = passing v (is_kept s (x, v)) more

      by : (t : Bool) → MoreAre
          → lines_of form named (filter (is_kept s) (filter_map (row_at c i) (cond t (e ∷ own_cells) own_cells)))
          ≡ kept_line form s i.name x (cond t (image_view c i e.0.set e.1) None) ++ image_lines form s c i es
      by true more = seen (image_view c i e.0.set e.1) more
      by false more = more

  all_rows : (cells : CellDevices) (is : List ImageRecord) → All (λ i. named (image_of i) ≡ i.name) is
      → lines_of form named (filter (is_kept s) (flat_map (rows_of c cells) is))
      ≡ flat_map (λ i. image_lines form s c i cells) is
  all_rows cells [] own = refl
  all_rows cells (i ∷ is) own =
      ap (lines_of form named) (filter-append (is_kept s) (rows_of c cells i) (flat_map (rows_of c cells) is))
      ∙ flat_map-append _ (filter (is_kept s) (rows_of c cells i)) _
      ∙ ap₂ ◌++◌ (kept_rows i (All-head (λ i. named (image_of i) ≡ i.name) i is own) cells)
      (all_rows cells is (All-tail (λ i. named (image_of i) ≡ i.name) i is own))

-- what passes is what is asked for
is_wanted : (s : Option Sieve) (c : Configuration) (w : Wanted) → (s ≡ None → asks_nothing w ≡ true)
    → IfSome s (IsSieveFor w c) → (row : SubId × View) → is_kept s row ≡ wanted w c row
is_wanted None c w none some row = sym (nothing_is_all w (none refl) c row)
is_wanted (Some s) c w none some row = passes_wanted w c s some row

-- the text of a table is what comes before the rows, and the rows that pass
text_is : (form : Form) (s : Option Sieve) (t : Gathered) (c : Configuration) (n : Numbering) → IsKeyed t.records
    → t.records ≡ c → t.cells ≡ entries (cells_of n)
    → text_by form s t ≡ rows_in form c (filter (is_kept s) (views c n))
unfolding record_lines
text_is form s t c n keyed same places =
    ap (λ ls. opening_text form ++ ls) (sym (all_rows form s (lookup_of t.records) (name_in t.records) t.cells
    (images_of t.records) (images_named t.records keyed)))
    ∙ (λ j. rows_in form (same j) (filter (is_kept s)
    (flat_map (rows_of (lookup_of (same j)) (places j)) (images_of (same j)))))

-- it is the table of what is asked for
pub table_is : (form : Form) (s : Option Sieve) (t : Gathered) (c : Configuration) (n : Numbering) (w : Wanted)
    → IsKeyed t.records → t.records ≡ c → t.cells ≡ entries (cells_of n)
    → (s ≡ None → asks_nothing w ≡ true) → IfSome s (IsSieveFor w c) → text_by form s t ≡ table_in form w c n
table_is form s t c n w keyed same places none some = text_is form s t c n keyed same places
    ∙ ap (rows_in form c) (filter_agree _ _ (is_wanted s c w none some) (views c n))

all_kept : (rows : List (SubId × View)) → filter (is_kept None) rows ≡ rows
all_kept [] = refl
all_kept (row ∷ rows) = ap (λ more. row ∷ more) (all_kept rows)

-- and without a sieve it is that of all subchannels
pub whole_table : (form : Form) (t : Gathered) (c : Configuration) (n : Numbering) → IsKeyed t.records → t.records ≡ c
    → t.cells ≡ entries (cells_of n) → text_by form None t ≡ whole_table_in form c n
whole_table form t c n keyed same places =
    text_is form None t c n keyed same places ∙ ap (rows_in form c) (all_kept (views c n))
