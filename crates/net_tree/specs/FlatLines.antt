-- The code lines of a procedure in order, and where control goes from each.
use Rattle.std.specs.Prelude.{ℕ, zero, suc, ◌-◌, Bool, true, false, cond, Option, Some, None, List, [], ◌∷◌, ◌++◌, length, filter, option_map, option_to_list, take, drop}
use Rattle.std.specs.List.{flat_map}
use Rattle.net_tree.specs.declared.block.NetBlock.{NetBlock}
use Rattle.net_tree.specs.declared.block.NetBlock.TheVariants as kind
use Rattle.net_tree.specs.declared.block.NetRole.{NetRole}
use Rattle.net_tree.specs.declared.block.NetRole.TheVariants.{Plain, Opens, Parts, Closes}
use Rattle.net_tree.specs.declared.line.NetExit.{NetExit}
use Rattle.net_tree.specs.declared.line.NetExit.TheVariants as leaving
use Rattle.net_tree.specs.Tree.{Line, if_head, else_if, select, case_line, for_head, next, do_while, do_until, loop, loop_while, loop_until, while_head, end_while, exit, Procedure, Member, member_comment, variable, const_member, structure, property, proc, Module, Project}
use Rattle.net_tree.specs.Blocks.{role_of, is_code, is_same_block, depth_behind}

-- The code lines of a procedure: those that are no comments. They are numbered from 1; the number behind the last one is
-- the end of the procedure.
abbrev pub code_lines : Procedure → List Line
code_lines p = filter is_code p.lines

abbrev pub parts : NetRole → Bool
parts (Parts kind) = true
parts _ = false

-- whether a line closes the block round it, where it stands in no other block
abbrev pub closes_outer : NetRole → ℕ → Bool
closes_outer (Closes kind) zero = true
closes_outer _ _ = false

-- whether a line parts or closes the block round it, where it stands in no other block
abbrev pub parts_outer : NetRole → ℕ → Bool
parts_outer (Parts kind) zero = true
parts_outer (Closes kind) zero = true
parts_outer _ _ = false

-- the first line that closes the block round lines that are numbered from n, so many other blocks being open before them
abbrev pub closing_in : (inner : ℕ) → List Line → ℕ → ℕ
closing_in inner [] n = n
closing_in inner (l ∷ lines) n = cond (closes_outer (role_of l) inner) n (closing_in (depth_behind (role_of l) inner) lines (suc n))

-- the first line that parts or closes it
abbrev pub parting_in : (inner : ℕ) → List Line → ℕ → ℕ
parting_in inner [] n = n
parting_in inner (l ∷ lines) n = cond (parts_outer (role_of l) inner) n (parting_in (depth_behind (role_of l) inner) lines (suc n))

-- the line that closes the block whose head, or a part of which, is line n
abbrev pub closing_of : List Line → ℕ → ℕ
closing_of lines n = closing_in 0 (drop n lines) (suc n)

-- the first line behind line n that parts or closes the same block
abbrev pub parting_of : List Line → ℕ → ℕ
parting_of lines n = parting_in 0 (drop n lines) (suc n)

abbrev pub first_parts : List Line → Bool
first_parts [] = false
first_parts (l ∷ lines) = parts (role_of l)

-- where control goes on that comes to line n from the line before it: there, or where n parts a block, at the line that
-- closes the block
abbrev pub onward : List Line → ℕ → ℕ
onward lines n = cond (first_parts (drop (n - 1) lines)) (closing_in 0 (drop (n - 1) lines) n) n

-- where control goes on behind the block whose head is line n
abbrev pub behind : List Line → ℕ → ℕ
behind lines n = onward lines (suc (closing_of lines n))

-- the numbers of the heads whose blocks are open behind a line n, with their kinds, from the innermost
abbrev pub heads_behind : NetRole → ℕ → List (NetBlock × ℕ) → List (NetBlock × ℕ)
heads_behind Plain n heads = heads
heads_behind (Opens kind) n heads = (kind, n) ∷ heads
heads_behind (Parts kind) n heads = heads
heads_behind (Closes kind) n heads = drop 1 heads

-- those that are open behind lines from the number n on
abbrev pub heads_through : List Line → ℕ → List (NetBlock × ℕ) → List (NetBlock × ℕ)
heads_through [] n heads = heads
heads_through (l ∷ lines) n heads = heads_through lines (suc n) (heads_behind (role_of l) n heads)

-- those of the blocks round line n
abbrev pub heads_round : List Line → ℕ → List (NetBlock × ℕ)
heads_round lines n = heads_through (take (n - 1) lines) 1 []

abbrev pub innermost : List (NetBlock × ℕ) → Option ℕ
innermost [] = None
innermost (h ∷ heads) = Some h.1

-- the innermost head of a kind
abbrev pub innermost_of : NetBlock → List (NetBlock × ℕ) → Option ℕ
innermost_of kind heads = innermost (filter (λ h. is_same_block kind h.0) heads)

-- where an Exit at line n goes: behind the innermost For or Do round it, or to the procedure's end
abbrev pub exit_from : List Line → ℕ → NetExit → Option ℕ
exit_from lines n leaving.For = option_map (behind lines) (innermost_of kind.For (heads_round lines n))
exit_from lines n leaving.Do = option_map (behind lines) (innermost_of kind.Do (heads_round lines n))
exit_from lines n leaving.Sub = Some (suc (length lines))
exit_from lines n leaving.Function = Some (suc (length lines))
exit_from lines n leaving.Property = Some (suc (length lines))

-- A code line and where control goes from it.
pub record Flat : Type 0 where
  pub line : Line
  -- the line that comes after it: at the end of a branch the closing line of its block, at Select Case the first Case or
  -- the closing line, else the next line
  pub after : ℕ
  -- where a head or a Case goes that doesn't hold, and a loop that is over before it began
  pub otherwise : Option ℕ
  -- where the closing line of a loop goes back to
  pub back : Option ℕ
  -- where an Exit goes
  pub leave : Option ℕ

abbrev pub after_of : List Line → ℕ → Line → ℕ
after_of lines n (select value) = parting_of lines n
after_of lines n _ = onward lines (suc n)

abbrev pub otherwise_of : List Line → ℕ → Line → Option ℕ
otherwise_of lines n (if_head condition) = Some (parting_of lines n)
otherwise_of lines n (else_if condition) = Some (parting_of lines n)
otherwise_of lines n (case_line items) = Some (parting_of lines n)
otherwise_of lines n (for_head counter from to step) = Some (behind lines n)
otherwise_of lines n (do_while condition) = Some (behind lines n)
otherwise_of lines n (do_until condition) = Some (behind lines n)
otherwise_of lines n (while_head condition) = Some (behind lines n)
otherwise_of lines n _ = None

-- where the closing line of a loop goes back to: behind the head of a For, else to the head
abbrev pub back_of : List Line → ℕ → Line → Option ℕ
back_of lines n next = option_map (λ head. onward lines (suc head)) (innermost (heads_round lines n))
back_of lines n loop = innermost (heads_round lines n)
back_of lines n (loop_while condition) = innermost (heads_round lines n)
back_of lines n (loop_until condition) = innermost (heads_round lines n)
back_of lines n end_while = innermost (heads_round lines n)
back_of lines n _ = None

abbrev pub leave_of : List Line → ℕ → Line → Option ℕ
leave_of lines n (exit what) = exit_from lines n what
leave_of lines n _ = None

abbrev pub flat_line : List Line → ℕ → Line → Flat
flat_line lines n l = record {
  line = l;
  after = after_of lines n l;
  otherwise = otherwise_of lines n l;
  back = back_of lines n l;
  leave = leave_of lines n l;
}

-- of all lines, those from the number n on
abbrev pub flat_from : (all : List Line) → (n : ℕ) → List Line → List Flat
flat_from all n [] = []
flat_from all n (l ∷ lines) = flat_line all n l ∷ flat_from all (suc n) lines

-- the code lines of a procedure with their targets
abbrev pub flat_lines : Procedure → List Flat
flat_lines p = flat_from (code_lines p) 1 (code_lines p)

-- the procedures that a member has: those of a property are its parts
abbrev pub procedures_in : Member → List Procedure
procedures_in (member_comment units) = []
procedures_in (variable visibility v) = []
procedures_in (const_member visibility c) = []
procedures_in (structure s) = []
procedures_in (property p) = option_to_list p.get ++ option_to_list p.set
procedures_in (proc p) = p ∷ []

abbrev pub procedures_of_module : Module → List Procedure
procedures_of_module m = flat_map procedures_in m.members

-- the procedures in project order, numbered from 0, those of the support module left out
abbrev pub procedures_of : Project → List Procedure
procedures_of p = flat_map procedures_of_module p.modules
