-- What carries rules in a program stands where the lines of its modules do.
use Rattle.std.proofs.Common.{List, map, Option, Some, None, IfSome, slice_get, subst}
use Rattle.std.specs.List.{AllByRecursion as Each}
use Rattle.up_base.specs.declared.issue.Issue.{Issue}
use Rattle.up_base.specs.declared.place.Place.{Place}
use Rattle.bound_tree.specs.declared.declared.EnumDecl.{EnumDecl}
use Rattle.bound_tree.specs.declared.declared.TypeDecl.{TypeDecl}
use Rattle.bound_tree.specs.declared.marks.Marks.{Marks}
use Rattle.bound_tree.specs.Tree.{Constant, Declarations, Line, Procedure, Variable}
use Rattle.binder.specs.Programs.{all_bodies, all_declarations, bound_program}
use Rattle.issue_sets.specs.Marked.{Carrier, code_line, head, variable, constant, user_type, enum_head, IsMarked, or_empty, place_of}
use Rattle.issue_sets.specs.Places.{Places, line_place, places_of}
use Rattle.issue_places.proofs.Each.{each_got, each_map}
use Rattle.issue_places.proofs.Settled.{DeclarationsStand}
use Rattle.issue_places.proofs.Bound.{CodeStands, all_stand, bodies_stand}

pub record PlacesStand (F : Place → Type 0) (p : Places) : Type 0 where
  pub lines : Each (Each F) p.lines
  pub heads : Each F p.heads
  pub vars : Each F p.vars
  pub consts : Each F p.consts
  pub types : Each F p.types
  pub enums : Each F p.enums

line_places : (F : Place → Type 0) (ls : List Line) → CodeStands F ls → Each F (map line_place ls)
line_places F ls h = each_map F (λ (l : Line). F l.source.place) line_place (λ l s. s) ls h

pub program_places : (F : Place → Type 0) (D : Declarations) → DeclarationsStand F D → PlacesStand F (places_of (bound_program D))
program_places F D h =
    let all = all_stand F D h in
    record {
      lines = each_map (Each F) (CodeStands F) (map line_place) (line_places F) (all_bodies D) (bodies_stand F D h.modules);
      heads = each_map F (λ (p : Procedure). F p.place) (λ (p : Procedure). p.place) (λ p s. s) (all_declarations D).procs all.procs;
      vars = each_map F (λ (v : Variable). F v.place) (λ (v : Variable). v.place) (λ v s. s) (all_declarations D).vars all.vars;
      consts = each_map F (λ (c : Constant). F c.place) (λ (c : Constant). c.place) (λ c s. s) (all_declarations D).consts all.consts;
      types = each_map F (λ (t : TypeDecl). F t.place) (λ (t : TypeDecl). t.place) (λ t s. s) (all_declarations D).types all.types;
      enums = each_map F (λ (e : EnumDecl). F e.place) (λ (e : EnumDecl). e.place) (λ e s. s) (all_declarations D).enums all.enums;
    }

or_empty_stands : (F : Place → Type 0) (o : Option (List Place)) → IfSome o (Each F) → Each F (or_empty o)
or_empty_stands F None h = tt
or_empty_stands F (Some ps) h = h

carrier_stands : (F : Place → Type 0) (p : Places) → PlacesStand F p → (c : Carrier) → IfSome (place_of p c) F
carrier_stands F p h (code_line i k) = each_got F (or_empty (slice_get p.lines i)) k (or_empty_stands F (slice_get p.lines i) (each_got (Each F) p.lines i h.lines))
carrier_stands F p h (head k) = each_got F p.heads k h.heads
carrier_stands F p h (variable k) = each_got F p.vars k h.vars
carrier_stands F p h (constant k) = each_got F p.consts k h.consts
carrier_stands F p h (user_type k) = each_got F p.types k h.types
carrier_stands F p h (enum_head k) = each_got F p.enums k h.enums

pub marked_stands : (F : Place → Type 0) (p : Places) → PlacesStand F p → (m : Marks) (x : Issue) → IsMarked p m x → F x.place
marked_stands F p h m x is = subst (λ (o : Option Place). IfSome o F) is.placed (carrier_stands F p h is.carrier)
