-- Lines, faults, origins and remarks of small texts, as they are stated by hand.
use Rattle.std.specs.Prelude.{◌≡◌, ℕ, List, [], ◌∷◌, ◌++◌, map, None, Some, codes}
use Rattle.iocm_types.specs.declared.key.Key.TheVariants as key
use Rattle.iocm_types.specs.declared.refused.At.TheVariants as at
use Rattle.iocm_types.specs.declared.rule.Rule.TheVariants.{B1, C2, E2, S1, S2, S3, S4, S6, S7, S8, V9, V14}
use Rattle.iocm_types.specs.Fault as fault
use Rattle.iocm_console.specs.declared.refusal.Refusal.{Refusal}
use Rattle.iocm_console.specs.Refusal.{no_memory, of_breach, of_change, of_fault}
use Rattle.iocm_origin.specs.declared.origin.Origin.TheVariants.{Line, End, Whole}
use Rattle.iocm_origin.specs.Faults.{all_faults}
use Rattle.iocm_origin.specs.Keys.{line_of_key}
use Rattle.iocm_origin.specs.Nodes.{line_of_node}
use Rattle.iocm_origin.specs.Origin.{line_of, place_in_change, place_in_deck, statements_of}
use Rattle.iocm_origin.specs.Remark.{remark_text}

-- ---- lines

-- a SHARED path of two images, a unit, two devices of one statement, then a further statement of the
-- second one, an ADDRESS that is malformed, and one device of set 1; line 3 ends at CR LF
abbrev pub deck : List ℕ
deck = codes " RESOURCE PARTITION=((CSS(0),(LPA,1),(LPB,2)))\n CHPID PATH=(CSS(0),50),SHARED\n"
    ++ codes " CNTLUNIT CUNUMBR=1000\r\n* devices\n IODEVICE ADDRESS=(1000,2)\n IODEVICE ADDRESS=1001\n"
    ++ codes " IODEVICE ADDRESS=10G2\n IODEVICE ADDRESS=1002,SCHSET=1\n"

-- one statement of two devices; with a further statement; a GROUP alone at the top with a CHOOSE in
-- it; an empty ROW and a statement behind it
abbrev pub one_of_two : List ℕ
one_of_two = codes "* delete\nDELETE IODEVICE ADDRESS=(1000,2)\n"

abbrev pub two : List ℕ
two = codes "DELETE IODEVICE ADDRESS=(1000,2)\nDELETE ID\n"

abbrev pub nested : List ℕ
nested = codes " GROUP\nDELETE ID\n CHOOSE\nDELETE IODEVICE ADDRESS=(1000,2)\n END\nDELETE ID\n END\n"

abbrev pub behind_row : List ℕ
behind_row = codes " ROW\n END\nDELETE ID\n"

pub record LinesAsWorked : Type 0 where
  -- records of each kind; a device that comes second of a statement, or twice, and one of set 1
  pub keys : map (line_of_key (statements_of deck)) (key.Image 0 2 ∷ key.Path 0 0x50 ∷ key.Unit 0x1000
      ∷ key.Device 0 0x1000 ∷ key.Device 0 0x1001 ∷ key.Device 1 0x1002 ∷ key.Device 0 0x1002 ∷ key.Id ∷ [])
      ≡ Some 1 ∷ Some 2 ∷ Some 3 ∷ Some 5 ∷ Some 5 ∷ Some 8 ∷ None ∷ None ∷ []
  -- an image that has the path online by default, and one that no statement names, come with the path
  pub online : map (line_of_key (statements_of deck)) (key.Online 0 0x50 (codes "LPA")
      ∷ key.Online 0 0x50 (codes "LPX") ∷ key.Online 0 0x51 (codes "LPA") ∷ []) ≡ Some 2 ∷ Some 2 ∷ None ∷ []
  -- the Row of two edits and each of these
  pub no_node : line_of_node [] 0 ≡ None
  pub row_of_two : map (line_of_node (statements_of one_of_two)) (0 ∷ 2 ∷ 3 ∷ []) ≡ Some 2 ∷ Some 2 ∷ None ∷ []
  -- the Row round all, the Row of two edits, the second of these, and the one behind
  pub round_all : map (line_of_node (statements_of two)) (0 ∷ 1 ∷ 3 ∷ 4 ∷ 5 ∷ [])
      ≡ None ∷ Some 1 ∷ Some 1 ∷ Some 2 ∷ None ∷ []
  -- the GROUP, what is in it, and what is in the CHOOSE; END gives none
  pub in_group : map (line_of_node (statements_of nested)) (0 ∷ 1 ∷ 2 ∷ 5 ∷ 6 ∷ 7 ∷ [])
      ≡ Some 1 ∷ Some 2 ∷ Some 3 ∷ Some 4 ∷ Some 6 ∷ None ∷ []
  pub empty_row : map (line_of_node (statements_of behind_row)) (0 ∷ 1 ∷ 2 ∷ []) ≡ None ∷ Some 1 ∷ Some 3 ∷ []
  -- the line of a number, without its end
  pub of_number : map (line_of deck) (0 ∷ 3 ∷ 4 ∷ 9 ∷ [])
      ≡ None ∷ Some (codes " CNTLUNIT CUNUMBR=1000") ∷ Some (codes "* devices") ∷ None ∷ []

-- ---- faults

pub record FaultsAsWorked : Type 0 where
  pub none : all_faults (codes " RESOURCE PARTITION=((LPA,1))\n CHPID PATH=50,SHARED\n") ≡ []
  -- a fault of a line, here a tab, hides all others
  pub of_line : all_faults (codes " CHPID SHARED\n\t\n") ≡ []
  -- each statement whose text can't be read, and nothing of those that are read
  pub texts : all_faults (codes " ID\n CHPID PATH=(50\n CHPID PATH=50\n CHPIDS PATH=50\n CHPID PATH=50,PATH=51\n")
      ≡ fault.at S6 2 ∷ fault.at S1 4 ∷ fault.at S2 5 ∷ []
  -- a fault of a text hides those of the records
  pub hidden : all_faults (codes " CHPID SHARED\n IODEVICE ADDRESS=10G2\n CHPID PATH=50,PATH=51\n") ≡ fault.at S2 3 ∷ []
  -- then each statement without its records
  pub records : all_faults (codes " CHPID SHARED\n ID\n IODEVICE ADDRESS=10G2\n") ≡ fault.at S3 1 ∷ fault.at S4 3 ∷ []
  -- a second ID statement comes first; a third one isn't told, and neither is a path that comes again
  pub together : all_faults (codes " ID\n ID\n CHPID PATH=50\n CHPID PATH=50\n ID\n IODEVICE ADDRESS=10G2\n")
      ≡ fault.at S7 2 ∷ fault.at S4 6 ∷ []
  -- of two paths of one number the second is the first fault
  pub again : all_faults (codes " CHPID PATH=50\n CHPID PATH=50\n CHPID SHARED\n") ≡ fault.at S8 2 ∷ fault.at S3 3 ∷ []

-- ---- origins and remarks

-- a value that is malformed at line 4
abbrev pub malformed : Refusal
malformed = of_fault (fault.at S4 4)

-- unit 1000 breaks V14
abbrev pub clash : Refusal
clash = of_breach (record { rule = V14; key = key.Unit 0x1000 })

-- node 3 of a change, about device 0.2000; the whole of a change; the Row round all, about a subchannel
abbrev pub missing : Refusal
missing = of_change (record { rule = E2; node = Some 3; at = at.Key (key.Device 0 0x2000) })

abbrev pub too_many : Refusal
too_many = of_change (record { rule = C2; node = None; at = at.Nothing })

abbrev pub busy : Refusal
busy = of_change (record {
  rule = B1;
  node = Some 0;
  at = at.Subchannel (record { image = record { css = 0; mif = 2 }; set = 0; number = 0x1F });
})

pub record OriginsAsWorked : Type 0 where
  -- a machine that isn't opened tells the breach of its deck
  pub of_opening : of_change (record { rule = V9; node = None; at = at.Key (key.Path 0 0x50) })
      ≡ of_breach (record { rule = V9; key = key.Path 0 0x50 })
  -- a fault comes from its own line, a breach from the statement that brings the key
  pub own_line : place_in_deck deck malformed.about ≡ Line 4
  pub statement : place_in_deck deck clash.about ≡ Line 3
  pub no_statement : place_in_deck [] clash.about ≡ End
  -- a node comes from its statement, the Row round all from the end
  pub in_statement : place_in_change two missing.node missing.about ≡ Line 1
  pub round_all : place_in_change two busy.node busy.about ≡ End
  pub no_node : place_in_change two too_many.node too_many.about ≡ Whole
  pub own_fault : place_in_change two malformed.node malformed.about ≡ Line 4

pub record RemarksAsWorked : Type 0 where
  pub of_breach : remark_text (Some (codes "grown.deck")) (Line 7) clash (Some (codes "         CNTLUNIT CUNUMBR=1000"))
      ≡ codes "grown.deck, line 7: unit 1000: two control units have the same address (V14)\n  7 |          CNTLUNIT CUNUMBR=1000\n  see: iocm explain V14"
  pub of_node : remark_text (Some (codes "a.change")) (Line 12) missing None
      ≡ codes "a.change, line 12: device 0.2000: what is to be deleted or modified isn't there (E2)\n  see: iocm explain E2"
  pub at_the_end : remark_text (Some (codes "a.change")) End busy None
      ≡ codes "a.change, at the end: subchannel 0.2.0.001F: a subchannel is busy or has status pending (B1)\n  see: iocm explain B1"
  pub of_whole : remark_text (Some (codes "a.change")) Whole too_many None
      ≡ codes "a.change: the change has too many edits (C2)\n  see: iocm explain C2"
  -- of a fault nothing stands before the title
  pub of_line : remark_text (Some (codes "a.deck")) (Line 4) malformed None
      ≡ codes "a.deck, line 4: a value is malformed (S4)\n  see: iocm explain S4"
  -- no file: not even its line is named
  pub of_memory : remark_text None (Line 0) no_memory None ≡ codes "not enough storage (M1)\n  see: iocm explain M1"
