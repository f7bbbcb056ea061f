-- The places of what carries rules: code lines, and declarations of each kind by their numbers.
use Rattle.std.specs.Prelude.{List, map, Vec}
use Rattle.std.specs.Borrow.{Bor}
use Rattle.std.proofs.Common.{Global}
use Rattle.up_base.specs.declared.place.Place.{Place}
use Rattle.bound_tree.specs.declared.declared.EnumDecl.{EnumDecl}
use Rattle.bound_tree.specs.declared.declared.TypeDecl.{TypeDecl}
use Rattle.bound_tree.specs.declared.marks.Marks.{Marks}
use Rattle.bound_tree.specs.Tree.{Line, Variable, Constant, Procedure, Program}
use Rattle.issue_sets.specs.declared.places.PlaceLists.{PlaceLists}

pub record Places : Type 0 where
  -- for each procedure those of its code lines
  pub lines : List (List Place)
  pub heads : List Place
  pub vars : List Place
  pub consts : List Place
  pub types : List Place
  pub enums : List Place

abbrev pub line_place : Line → Place
line_place l = l.source.place

abbrev pub places_of : Program → Places
places_of P = record {
  lines = map (map line_place) P.bodies;
  heads = map (λ (p : Procedure). p.place) P.declarations.procs;
  vars = map (λ (v : Variable). v.place) P.declarations.vars;
  consts = map (λ (c : Constant). c.place) P.declarations.consts;
  types = map (λ (t : TypeDecl). t.place) P.declarations.types;
  enums = map (λ (e : EnumDecl). e.place) P.declarations.enums;
}

-- ---- what the code's lists show

abbrev pub items_of : Vec Place Global → List Place
items_of v = v.items

abbrev pub shown_places : PlaceLists → Places
shown_places p = record {
  lines = map items_of p.lines.items;
  heads = p.heads.items;
  vars = p.vars.items;
  consts = p.consts.items;
  types = p.types.items;
  enums = p.enums.items;
}

abbrev pub shown_marks : Bor Marks → Marks
shown_marks b = b.now
