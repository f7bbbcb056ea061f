-- A walk over trees, which meets the paths in expressions and calls from the left and from the first line on. A function
-- tells what each path makes of what the walk has found so far.
use Rattle.std.specs.Prelude.{ℕ, List, Option, Some, None}
use Rattle.std.specs.List.{fold}
use Rattle.net_tree.specs.Tree.{CaseItem, Dim, Exp, Exps, Line, Member, Module, Procedure, ReDimItem, assign, binary, call, call_of, case_is, case_line, case_range, case_value, cast, const_member, constant, ctype, do_until, do_while, dot, else_if, for_head, if_head, lit, local, loop_until, loop_while, me, new_array, new_object, next_exp, no_exps, nothing, paren, path, proc, property, redim, select, static_local, type_of, unary, variable, while_head, with_dot, with_head}

abbrev mutual
  pub walk_exp : {S : Type 0} → (S → List (List ℕ) → S) → S → Exp → S
  walk_exp meet s (lit l) = s
  walk_exp meet s nothing = s
  walk_exp meet s me = s
  walk_exp meet s (path names) = meet s names
  walk_exp meet s (with_dot name) = s
  walk_exp meet s (dot e name) = walk_exp meet s e
  walk_exp meet s (call_of e args) = walk_exps meet (walk_exp meet s e) args
  walk_exp meet s (cast w e) = walk_exp meet s e
  walk_exp meet s (ctype e t) = walk_exp meet s e
  walk_exp meet s (unary o e) = walk_exp meet s e
  walk_exp meet s (binary o a b) = walk_exp meet (walk_exp meet s a) b
  walk_exp meet s (paren e) = walk_exp meet s e
  walk_exp meet s (new_object t args) = walk_exps meet s args
  walk_exp meet s (new_array t bounds) = walk_exps meet s bounds
  walk_exp meet s (type_of e t) = walk_exp meet s e

  pub walk_exps : {S : Type 0} → (S → List (List ℕ) → S) → S → Exps → S
  walk_exps meet s no_exps = s
  walk_exps meet s (next_exp e more) = walk_exps meet (walk_exp meet s e) more

abbrev pub walk_option : {S : Type 0} → (S → List (List ℕ) → S) → S → Option Exp → S
walk_option meet s None = s
walk_option meet s (Some e) = walk_exp meet s e

abbrev pub walk_case : {S : Type 0} → (S → List (List ℕ) → S) → S → CaseItem → S
walk_case meet s (case_value e) = walk_exp meet s e
walk_case meet s (case_range a b) = walk_exp meet (walk_exp meet s a) b
walk_case meet s (case_is o e) = walk_exp meet s e

abbrev pub walk_redim : {S : Type 0} → (S → List (List ℕ) → S) → S → ReDimItem → S
walk_redim meet s r = walk_exps meet (walk_exp meet s r.array) r.bounds

-- lines that hold no expression have no path
abbrev pub walk_line : {S : Type 0} → (S → List (List ℕ) → S) → S → Line → S
walk_line meet s (assign target value) = walk_exp meet (walk_exp meet s target) value
walk_line meet s (call callee arguments) = walk_exps meet (walk_exp meet s callee) arguments
walk_line meet s (if_head condition) = walk_exp meet s condition
walk_line meet s (else_if condition) = walk_exp meet s condition
walk_line meet s (select value) = walk_exp meet s value
walk_line meet s (case_line items) = fold (walk_case meet) s items
walk_line meet s (for_head counter from to step) = walk_option meet (walk_exp meet (walk_exp meet (walk_exp meet s counter) from) to) step
walk_line meet s (do_while condition) = walk_exp meet s condition
walk_line meet s (do_until condition) = walk_exp meet s condition
walk_line meet s (loop_while condition) = walk_exp meet s condition
walk_line meet s (loop_until condition) = walk_exp meet s condition
walk_line meet s (while_head condition) = walk_exp meet s condition
walk_line meet s (with_head object) = walk_exp meet s object
walk_line meet s (redim preserve items) = fold (walk_redim meet) s items
walk_line meet s _ = s

abbrev pub walk_dim : {S : Type 0} → (S → List (List ℕ) → S) → S → Dim → S
walk_dim meet s (local v) = walk_option meet s v.value
walk_dim meet s (static_local v) = walk_option meet s v.value
walk_dim meet s (constant c) = walk_exp meet s c.value

abbrev pub walk_procedure : {S : Type 0} → (S → List (List ℕ) → S) → S → Procedure → S
walk_procedure meet s p = fold (walk_line meet) (fold (walk_dim meet) s p.prologue) p.lines

-- a part of a property, where it has it
abbrev pub walk_part : {S : Type 0} → (S → List (List ℕ) → S) → S → Option Procedure → S
walk_part meet s None = s
walk_part meet s (Some p) = walk_procedure meet s p

abbrev pub walk_member : {S : Type 0} → (S → List (List ℕ) → S) → S → Member → S
walk_member meet s (variable visibility v) = walk_option meet s v.value
walk_member meet s (const_member visibility c) = walk_exp meet s c.value
walk_member meet s (property p) = walk_part meet (walk_part meet s p.get) p.set
walk_member meet s (proc p) = walk_procedure meet s p
walk_member meet s _ = s

abbrev pub walk_module : {S : Type 0} → (S → List (List ℕ) → S) → S → Module → S
walk_module meet s m = fold (walk_member meet) s m.members
