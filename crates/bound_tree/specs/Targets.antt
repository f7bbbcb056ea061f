-- Where control goes from the code lines of a procedure, by what each of them opens, parts or closes: one definition for both
-- languages, whose code lines are numbered from 1. The number behind the last one is the end of the procedure.
use Rattle.std.specs.Prelude.{ℕ, zero, suc, ◌-◌, Bool, true, false, cond, Option, Some, None, List, [], ◌∷◌, length, map, filter, option_map, take, drop}
use Rattle.vb_tree.specs.declared.block.BlockKind.{BlockKind}
use Rattle.vb_tree.specs.declared.block.BlockKind.TheVariants.{If, Select, For, Do, While, With}
use Rattle.vb_tree.specs.declared.form_parts.ExitKind.{ExitKind}
use Rattle.vb_tree.specs.declared.form_parts.ExitKind.TheVariants as leaving
use Rattle.vb_tree.specs.Tree.{Form, Line}
use Rattle.vb_tree.specs.Tree as vb

-- What a code line is to the blocks round it. A head or a line that parts a block tests where control may pass the lines
-- behind it by.
pub data Step : Type 0 where
  plain : Step
  opens : BlockKind → (tests : Bool) → Step
  parts : BlockKind → (tests : Bool) → Step
  closes : BlockKind → Step

-- the step of a code line of the source
abbrev pub step_of : Form → Step
step_of (vb.if_head condition) = opens If true
step_of (vb.line_if condition) = opens If true
step_of (vb.else_if condition) = parts If true
step_of vb.else_line = parts If false
step_of vb.end_if = closes If
step_of (vb.select value) = opens Select false
step_of (vb.case_line items) = parts Select true
step_of vb.case_else = parts Select false
step_of vb.end_select = closes Select
step_of (vb.for_head counter start limit step) = opens For true
step_of (vb.for_each name suffix items) = opens For true
step_of (vb.next name) = closes For
step_of vb.do_head = opens Do false
step_of (vb.do_while condition) = opens Do true
step_of (vb.do_until condition) = opens Do true
step_of vb.loop = closes Do
step_of (vb.loop_while condition) = closes Do
step_of (vb.loop_until condition) = closes Do
step_of (vb.while_head condition) = opens While true
step_of vb.wend = closes While
step_of (vb.with_head object) = opens With false
step_of vb.end_with = closes With
step_of _ = plain

abbrev pub steps : List Line → List Step
steps lines = map (λ l. step_of l.form) lines

-- ---- which blocks are open

-- how many blocks are open behind a line
abbrev pub depth_behind : Step → ℕ → ℕ
depth_behind (opens kind tests) depth = suc depth
depth_behind (closes kind) depth = depth - 1
depth_behind _ depth = depth

-- the numbers of the heads whose blocks are open behind a line n, with their kinds, from the innermost
abbrev pub heads_behind : Step → ℕ → List (BlockKind × ℕ) → List (BlockKind × ℕ)
heads_behind (opens kind tests) n heads = (kind, n) ∷ heads
heads_behind (closes kind) n heads = drop 1 heads
heads_behind _ n heads = heads

abbrev pub heads_through : List Step → ℕ → List (BlockKind × ℕ) → List (BlockKind × ℕ)
heads_through [] n heads = heads
heads_through (s ∷ steps) n heads = heads_through steps (suc n) (heads_behind s n heads)

-- those of the blocks round line n
abbrev pub heads_round : List Step → ℕ → List (BlockKind × ℕ)
heads_round all n = heads_through (take (n - 1) all) 1 []

abbrev pub innermost : List (BlockKind × ℕ) → Option ℕ
innermost [] = None
innermost (h ∷ heads) = Some h.1

-- the same kind of a block in a procedure
abbrev pub is_same_kind : BlockKind → BlockKind → Bool
is_same_kind If If = true
is_same_kind Select Select = true
is_same_kind For For = true
is_same_kind Do Do = true
is_same_kind While While = true
is_same_kind With With = true
is_same_kind _ _ = false

abbrev pub innermost_of : BlockKind → List (BlockKind × ℕ) → Option ℕ
innermost_of kind heads = innermost (filter (λ h. is_same_kind kind h.0) heads)

-- ---- the lines that control may go to

-- whether a line closes the block round it, or parts or closes it, where it stands in no other block
abbrev pub closes_outer : Step → ℕ → Bool
closes_outer (closes kind) zero = true
closes_outer _ depth = false

abbrev pub parts_outer : Step → ℕ → Bool
parts_outer (parts kind tests) zero = true
parts_outer (closes kind) zero = true
parts_outer _ depth = false

-- the first such line, of lines that are numbered from n, so many blocks being open before them
abbrev pub seek : (Step → ℕ → Bool) → (depth : ℕ) → List Step → ℕ → ℕ
seek stop depth [] n = n
seek stop depth (s ∷ steps) n = cond (stop s depth) n (seek stop (depth_behind s depth) steps (suc n))

-- the line that closes the block whose head, or a part of which, is line n, and the next that parts or closes it
abbrev pub closing_of : List Step → ℕ → ℕ
closing_of all n = seek closes_outer 0 (drop n all) (suc n)

abbrev pub parting_of : List Step → ℕ → ℕ
parting_of all n = seek parts_outer 0 (drop n all) (suc n)

abbrev pub is_part : Step → Bool
is_part (parts kind tests) = true
is_part _ = false

abbrev pub first_parts : List Step → Bool
first_parts [] = false
first_parts (s ∷ steps) = is_part s

-- where control goes on that comes to line n from the line before it: there, or where n parts a block, at the line that
-- closes the block
abbrev pub onward : List Step → ℕ → ℕ
onward all n = cond (first_parts (drop (n - 1) all)) (seek closes_outer 0 (drop (n - 1) all) n) n

-- where control goes on behind the block whose head is line n
abbrev pub behind : List Step → ℕ → ℕ
behind all n = onward all (suc (closing_of all n))

-- ---- where control goes from a line

pub record Aims : Type 0 where
  -- the line that comes after it: at the end of a branch the closing line of its block, at Select Case the first Case or
  -- the closing line, else the next line
  pub after : ℕ
  -- where a head or a Case goes that doesn't hold, and a loop that is over before it began
  pub otherwise : Option ℕ
  -- where the closing line of a loop goes back to
  pub back : Option ℕ
  -- where an Exit For, an Exit Do and any other Exit go from there
  pub for_end : Option ℕ
  pub do_end : Option ℕ
  pub procedure_end : ℕ
  -- the head of the block that it parts or closes
  pub own : Option ℕ
  -- the heads round it with their kinds, from the innermost; a line that parts or closes a block stands in it
  pub around : List (BlockKind × ℕ)

abbrev pub after_of : List Step → ℕ → Step → ℕ
after_of all n (opens Select tests) = parting_of all n
after_of all n _ = onward all (suc n)

abbrev pub otherwise_of : List Step → ℕ → Step → Option ℕ
otherwise_of all n (opens If true) = Some (parting_of all n)
otherwise_of all n (opens For true) = Some (behind all n)
otherwise_of all n (opens Do true) = Some (behind all n)
otherwise_of all n (opens While true) = Some (behind all n)
otherwise_of all n (parts kind true) = Some (parting_of all n)
otherwise_of all n _ = None

abbrev pub back_of : List Step → ℕ → Step → Option ℕ
back_of all n (closes For) = option_map (λ head. onward all (suc head)) (innermost (heads_round all n))
back_of all n (closes Do) = innermost (heads_round all n)
back_of all n (closes While) = innermost (heads_round all n)
back_of all n _ = None

abbrev pub own_of : List Step → ℕ → Step → Option ℕ
own_of all n (parts kind tests) = innermost (heads_round all n)
own_of all n (closes kind) = innermost (heads_round all n)
own_of all n _ = None

abbrev pub aims_at : List Step → ℕ → Step → Aims
aims_at all n s = record {
  after = after_of all n s;
  otherwise = otherwise_of all n s;
  back = back_of all n s;
  for_end = option_map (behind all) (innermost_of For (heads_round all n));
  do_end = option_map (behind all) (innermost_of Do (heads_round all n));
  procedure_end = suc (length all);
  own = own_of all n s;
  around = heads_round all n;
}

abbrev pub aims_from : (all : List Step) → (n : ℕ) → List Step → List Aims
aims_from all n [] = []
aims_from all n (s ∷ steps) = aims_at all n s ∷ aims_from all (suc n) steps

-- the targets of code lines, which are numbered from 1
abbrev pub aims_of : List Step → List Aims
aims_of all = aims_from all 1 all

-- where an Exit goes
abbrev pub exit_to : Aims → ExitKind → Option ℕ
exit_to a leaving.For = a.for_end
exit_to a leaving.Do = a.do_end
exit_to a _ = Some a.procedure_end

-- the head of the innermost With round a line
abbrev pub with_round : Aims → Option ℕ
with_round a = innermost_of With a.around
