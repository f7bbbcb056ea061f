-- What is written for properties: the parts stand in one, at the place of the first, unless they don't fit together.
use Rattle.std.specs.Prelude.{ℕ, suc, nat_eq, Bool, true, false, not, cond, ◌&&◌, ◌||◌, position, List, [], ◌∷◌, ◌++◌, codes, Option, Some, None, slice_get}
use Rattle.vb_tree.specs.declared.declared.ProcKind.{ProcKind}
use Rattle.vb_tree.specs.declared.declared.ProcKind.TheVariants as kind
use Rattle.vb_tree.specs.Tree.{Nodes, Member, alone, group, proc}
use Rattle.vb_tree.specs.Tree as source
use Rattle.bound_tree.specs.declared.rule_set.RuleSet.{RuleSet}
use Rattle.bound_tree.specs.RuleSets.{has, both}
use Rattle.bound_tree.specs.Tree.{Procedure, Declarations, Program}
use Rattle.net_tree.specs.declared.declaration.NetClose.TheVariants.{EndGet, EndSet}
use Rattle.net_tree.specs.Tree as net
use Rattle.written_trees.specs.Facts.{Facts, head_set}
use Rattle.written_trees.specs.Names.{Scope, procedure_name}
use Rattle.written_trees.specs.Comments.{texts, upgrade_texts}
use Rattle.written_trees.specs.Placing.{Placed}
use Rattle.written_trees.specs.Heads.{written_visibility, params_of, is_function, index_params, property_type, set_head}
use Rattle.written_trees.specs.Bodies.{procedure_with}
use Rattle.written_trees.specs.Prologues.{statement_set}

-- ---- properties

abbrev pub is_kind : ProcKind → ProcKind → Bool
is_kind kind.Sub kind.Sub = true
is_kind kind.Function kind.Function = true
is_kind kind.Get kind.Get = true
is_kind kind.Let kind.Let = true
is_kind kind.Set kind.Set = true
is_kind _ _ = false

abbrev pub is_part : (first : ℕ) → ProcKind → Procedure → Bool
is_part first k q = nat_eq q.first.0 first && is_kind k q.kind

-- the part of a kind of the property with this first part; of two the first
abbrev pub part_number : Declarations → ProcKind → (first : ℕ) → Option ℕ
part_number D k first = position (is_part first k) D.procs

abbrev pub is_number : ℕ → Option ℕ → Bool
is_number p None = false
is_number p (Some q) = nat_eq p q

-- whether a procedure is the part of its kind of its property
abbrev pub is_counted : Declarations → (procedure : ℕ) → Procedure → Bool
is_counted D p q = is_number p (part_number D q.kind q.first.0)

-- the rules of a head, and of what it declares
abbrev pub head_rules : Scope → Placed → RuleSet
head_rules S p = both (head_set S.facts p.at.procedure) (statement_set S.declarations S.facts S.file p.at.statement)

-- a property whose parts don't fit together, by any of its heads
abbrev pub carries_shape : Facts → (first k : ℕ) → List Procedure → Bool
carries_shape F first k [] = false
carries_shape F first k (q ∷ qs) = (nat_eq q.first.0 first && has (head_set F k) 7) || carries_shape F first (suc k) qs

abbrev pub is_separate : Scope → Procedure → Bool
is_separate S q = carries_shape S.facts q.first.0 0 S.declarations.procs

abbrev pub separate_name : ProcKind → List ℕ → List ℕ
separate_name kind.Get name = codes "_Get_" ++ name
separate_name kind.Let name = codes "_Let_" ++ name
separate_name kind.Set name = codes "_Set_" ++ name
separate_name _ name = name

-- a part as it stands in its property
abbrev pub part_procedure : Program → Scope → Placed → Nodes → Procedure → net.Procedure
part_procedure P S p body q =
    cond (is_function q.kind) (procedure_with P S p body net.get_part EndGet) (procedure_with P S p body (set_head S q) EndSet)

-- a part with the comments right before it: those of the head of a later part
pub record Part : Type 0 where
  pub comments : List (List ℕ)
  pub procedure : Option net.Procedure

abbrev pub no_part : Part
no_part = record { comments = []; procedure = None }

abbrev pub head_comments : Scope → Placed → (head : source.Line) → List (List ℕ)
head_comments S p head = texts p.own ++ upgrade_texts (head_rules S p) head.text

abbrev pub part_by : Program → Scope → (later : Bool) → Placed → Member → Option Procedure → Part
part_by P S later p (alone l) q = no_part
part_by P S later p (group head lines close) q = no_part
part_by P S later p (proc head body close) None = no_part
part_by P S later p (proc head body close) (Some q) =
    record { comments = cond later (head_comments S p head) []; procedure = Some (part_procedure P S p body q) }

abbrev pub is_procedure_member : Member → Bool
is_procedure_member (proc head body close) = true
is_procedure_member _ = false

-- the part that is the procedure of a number, among the members of a module; all parts but the first are later ones
abbrev pub part_among : Program → Scope → (first procedure : ℕ) → List Placed → Part
part_among P S first n [] = no_part
part_among P S first n (p ∷ ps) =
    cond (is_procedure_member p.member && nat_eq p.at.procedure n)
    (part_by P S (not (nat_eq n first)) p p.member (slice_get S.declarations.procs n))
    (part_among P S first n ps)

abbrev pub part_at : Program → Scope → (first : ℕ) → List Placed → Option ℕ → Part
part_at P S first ps None = no_part
part_at P S first ps (Some n) = part_among P S first n ps

abbrev pub or_part : Option ℕ → Option ℕ → Option ℕ
or_part (Some n) other = Some n
or_part None other = other

abbrev pub joined_property : Scope → Procedure → List ℕ → (get set : Part) → net.Member
joined_property S q name get set = net.property (record {
  visibility = written_visibility q.visibility;
  name = name;
  params = params_of S true (index_params q);
  ty = property_type S q;
  get_comments = get.comments;
  get = get.procedure;
  set_comments = set.comments;
  set = set.procedure;
})

-- the property whose first part is `q`, at the place of that
abbrev pub property_of : Program → Scope → List Placed → (first : ℕ) → Procedure → net.Member
property_of P S ps first q =
    joined_property S q (procedure_name S.declarations first)
    (part_at P S first ps (part_number S.declarations kind.Get first))
    (part_at P S first ps (or_part (part_number S.declarations kind.Let first) (part_number S.declarations kind.Set first)))

abbrev pub own_part : Program → Scope → Placed → Nodes → Procedure → Part
own_part P S p body q = record { comments = []; procedure = Some (part_procedure P S p body q) }

-- a second part of one kind is a property by itself
abbrev pub only_part : Program → Scope → Placed → Nodes → Procedure → net.Member
only_part P S p body q =
    cond (is_function q.kind)
    (joined_property S q (procedure_name S.declarations p.at.procedure) (own_part P S p body q) no_part)
    (joined_property S q (procedure_name S.declarations p.at.procedure) no_part (own_part P S p body q))
