use Rattle.std.proofs.Common.{◌≡◌, ℕ, nat_eq, take}
use Rattle.std.specs.Prelude.{position}
use Rattle.bound_tree.specs.declared.declared.ProcDecl.{ProcDecl}
use Rattle.bound_tree.specs.View.{procedure_of}
use Rattle.indexmap.specs.IndexMap.{get}
use Rattle.expression_words.specs.Members.{is_part}
use Rattle.expression_words.proofs.member_tables.parts_of.Given as goal

abbrev pub invariant-loop-i : goal.invariant-loop-i
invariant-loop-i l = (first : ℕ) → get nat_eq l.all first ≡ position (λ (q : ProcDecl). is_part first l.kind (procedure_of q)) (take l.i l.procs)
