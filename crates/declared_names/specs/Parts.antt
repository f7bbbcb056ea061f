-- The first part of a property.
use Rattle.std.specs.Prelude.{ℕ, ◌+◌, Bool, true, false, ◌&&◌, cond, nat_eq, List, [], ◌∷◌}
use Rattle.up_base.specs.Names.{is_same_name}
use Rattle.vb_tree.specs.declared.declared.ProcId.{ProcId}
use Rattle.vb_tree.specs.declared.declared.ProcKind.{ProcKind}
use Rattle.vb_tree.specs.declared.declared.ProcKind.TheVariants as kind
use Rattle.declared_names.specs.Declaring.{NamedProcedure, Lists}

abbrev pub is_property : ProcKind → Bool
is_property kind.Get = true
is_property kind.Let = true
is_property kind.Set = true
is_property _ = false

-- whether two procedures are parts of one property
abbrev pub are_parts : NamedProcedure → NamedProcedure → Bool
are_parts p q = is_property p.kind && is_property q.kind && nat_eq p.module_number q.module_number && is_same_name p.name q.name

-- the first part of the property that the procedure k is a part of, among procedures that are numbered from i; and k itself where it is none
abbrev pub first_part : (k : ℕ) → NamedProcedure → (i : ℕ) → List NamedProcedure → ℕ
first_part k p i [] = k
first_part k p i (q ∷ qs) = cond (are_parts p q) i (first_part k p (i + 1) qs)

-- that of each procedure among all, of those that are numbered from k
abbrev pub firsts_from : List NamedProcedure → (k : ℕ) → List NamedProcedure → List ProcId
firsts_from all k [] = []
firsts_from all k (p ∷ ps) = record { 0 = first_part k p 0 all } ∷ firsts_from all (k + 1) ps

-- for each procedure the first part of its property in its module, and itself where it is no part of one
abbrev pub first_parts : Lists → List ProcId
first_parts d = firsts_from d.procs 0 d.procs
