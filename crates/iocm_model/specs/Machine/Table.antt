-- The table of subchannels as it is printed.
use Rattle.std.specs.Prelude.{ℕ, ◌-◌, ◌^◌, List, [], ◌∷◌, ◌++◌, codes, true, false}
use Rattle.std.specs.List.{flat_map}
use Rattle.std.specs.Fmt.{padded_integral, format_spec, digits}
use Rattle.iocm_types.specs.declared.view.View.{View}
use Rattle.iocm_types.specs.declared.sub_id.SubId.{SubId}
use Rattle.iocm_types.specs.Print.{hex2, hex4}
use Rattle.iocm_model.specs.Machine.Configuration.{Configuration}
use Rattle.iocm_model.specs.Machine.Numbering.{Numbering}
use Rattle.iocm_model.specs.Machine.View.{views}

-- a digit, left aligned in three places, or in two
abbrev pub left3 : ℕ → List ℕ
left3 n = padded_integral (format_spec 32 1 0 3 (2 ^ 64 - 1)) false [] (digits 16 true n)

abbrev pub left2 : ℕ → List ℕ
left2 n = padded_integral (format_spec 32 1 0 2 (2 ^ 64 - 1)) false [] (digits 16 true n)

-- the path numbers, a blank before each
abbrev pub chpids : List ℕ → List ℕ
chpids paths = flat_map (λ p. 32 ∷ hex2 p) paths

-- a line: channel subsystem in three places, image in two, set in three, number and device in four,
-- the masks in two, then the paths, with blanks between
abbrev pub line_of : SubId × View → List ℕ
line_of row = let s = row.0 in let v = row.1 in
    left3 s.image.css ++ (codes " " ++ (left2 s.image.mif ++ (codes " " ++ (left3 s.set ++ (codes " "
    ++ (hex4 s.number ++ (codes " " ++ (hex4 v.device ++ (codes " "
    ++ (hex2 v.pim ++ (codes "  " ++ (hex2 v.pam ++ (codes " "
    ++ chpids v.paths)))))))))))))

-- the heading
abbrev pub heading : List ℕ
heading = codes "CSS IM SET SUBC DEVN PIM PAM CHPIDS"

-- the table: the heading, then a line for each subchannel that has a view, in the order of
-- subchannels
abbrev pub table_of : Configuration → Numbering → List ℕ
table_of c n = heading ++ (10 ∷ flat_map (λ row. line_of row ++ 10 ∷ []) (views c n))
