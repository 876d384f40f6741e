-- The texts that commands read, with their limits.
-- The rules are told in docs/FORMATS.md, "Commands" and "Limits".
use Rattle.std.specs.Prelude.{ℕ, ◌==◌, if◌then◌else◌, List, codes}
use Rattle.case_texts.specs.declared.what.What.{What}
use Rattle.case_texts.specs.declared.what.What.TheVariants.{Design, Cells, Groups, Board, Netlist, Schedule, Map, Opening, Events}

-- the word for a text in a printed refusal
abbrev pub label : What → List ℕ
label Design = codes "design"
label Cells = codes "cells"
label Groups = codes "groups"
label Board = codes "board"
label Netlist = codes "netlist"
label Schedule = codes "schedule"
label Map = codes "map"
label Opening = codes "opening"
label Events = codes "events"

-- the most bytes that a text may have
abbrev pub limit : What → ℕ
limit Design = 67108864
limit Cells = 67108864
limit Groups = 67108864
limit Board = 67108864
limit Netlist = 4294967295
limit Schedule = 4294967295
limit Map = 4294967295
limit Opening = 67108864
limit Events = 67108864

-- the place of a text in the order in which texts are fetched, and then read
abbrev pub order : What → ℕ
order Design = 0
order Cells = 1
order Groups = 2
order Board = 3
order Netlist = 4
order Schedule = 5
order Map = 6
order Opening = 7
order Events = 8

-- the text at a place of that order
abbrev pub what_at : ℕ → What
what_at place =
    if place == 0 then Design
    else if place == 1 then Cells
    else if place == 2 then Groups
    else if place == 3 then Board
    else if place == 4 then Netlist
    else if place == 5 then Schedule
    else if place == 6 then Map
    else if place == 7 then Opening
    else Events

-- the bytes of each text
abbrev pub Texts : Type 0
Texts = What → List ℕ
