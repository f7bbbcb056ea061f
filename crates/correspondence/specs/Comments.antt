-- Which comments stand with which member, and how a member stands in the written module.
use Rattle.std.specs.Prelude.{◌≡◌, ℕ, suc, ◌+◌, Bool, true, false, not, ◌&&◌, nat_eq, cond, Option, Some, None, List, [], ◌∷◌, ◌++◌, slice_get}
use Rattle.std.specs.List.{flat_map}
use Rattle.vb_tree.specs.declared.declared.ProcKind.TheVariants as kind
use Rattle.vb_tree.specs.Blocks.{is_code}
use Rattle.vb_tree.specs.FlatLines.{flat_lines}
use Rattle.vb_tree.specs.Tree.{Member, alone, group, proc, Nodes}
use Rattle.vb_tree.specs.Tree as source
use Rattle.bound_tree.specs.declared.rule_set.RuleSet.{RuleSet}
use Rattle.bound_tree.specs.RuleSets.{both}
use Rattle.bound_tree.specs.Tree.{Procedure}
use Rattle.net_tree.specs.declared.declaration.NetClose.TheVariants.{EndSub, EndFunction}
use Rattle.net_tree.specs.FlatLines.{procedures_in}
use Rattle.net_tree.specs.Tree as net
use Rattle.written_trees.specs.Arguments.{is_property_kind}
use Rattle.written_trees.specs.Comments.{Comment, texts, upgrade_texts}
use Rattle.written_trees.specs.DeclaredMembers.{member_comments, group_rules}
use Rattle.written_trees.specs.Facts.{line_set}
use Rattle.written_trees.specs.Heads.{is_function}
use Rattle.written_trees.specs.Members.{stays_inside}
use Rattle.written_trees.specs.Names.{Scope}
use Rattle.written_trees.specs.Placing.{Placed}
use Rattle.written_trees.specs.Prologues.{one_if, statement_set}
use Rattle.written_trees.specs.Properties.{head_rules, is_counted, is_procedure_member, is_separate, or_part, part_number}
use Rattle.correspondence.specs.Heads.{HeadCorresponds}
use Rattle.correspondence.specs.Lists.{Merges}

-- ---- the comments in what is written

abbrev pub line_comment : net.Line → List (List ℕ)
line_comment (net.comment text) = text ∷ []
line_comment _ = []

abbrev pub comments_of_lines : List net.Line → List (List ℕ)
comments_of_lines ls = flat_map line_comment ls

abbrev pub comment_of_field : net.Field → List (List ℕ)
comment_of_field (net.field_comment text) = text ∷ []
comment_of_field (net.field name ty) = []

abbrev pub comments_of_part : Option net.Procedure → List (List ℕ)
comments_of_part None = []
comments_of_part (Some p) = comments_of_lines p.lines

abbrev pub comments_in : net.Member → List (List ℕ)
comments_in (net.member_comment text) = text ∷ []
comments_in (net.variable visibility v) = []
comments_in (net.const_member visibility c) = []
comments_in (net.structure s) = flat_map comment_of_field s.fields
comments_in (net.property p) = (p.get_comments ++ comments_of_part p.get) ++ (p.set_comments ++ comments_of_part p.set)
comments_in (net.proc p) = comments_of_lines p.lines

-- ---- the UPGRADE comments of lines

-- that of a declaration, which is a statement of its module
abbrev pub statement_upgrade : Scope → (statement : ℕ) → source.Line → List (List ℕ)
statement_upgrade S n l = upgrade_texts (statement_set S.declarations S.facts S.file n) l.text

-- those of lines from the statement n on
abbrev pub group_upgrades : Scope → (statement : ℕ) → List source.Line → List (List ℕ)
group_upgrades S n [] = []
group_upgrades S n (l ∷ ls) = statement_upgrade S n l ++ group_upgrades S (suc n) ls

-- the rules of a line of a procedure, i code lines being before it
abbrev pub line_rules : Scope → (procedure : ℕ) → (statement code : ℕ) → (is_code : Bool) → RuleSet
line_rules S p n i test =
    cond test (both (line_set S.facts p i) (statement_set S.declarations S.facts S.file n)) (statement_set S.declarations S.facts S.file n)

abbrev pub body_upgrades : Scope → (procedure : ℕ) → (statement code : ℕ) → List source.Line → List (List ℕ)
body_upgrades S p n i [] = []
body_upgrades S p n i (l ∷ ls) =
    upgrade_texts (line_rules S p n i (is_code l.form)) l.text ++ body_upgrades S p (suc n) (i + one_if (is_code l.form)) ls

-- ---- members

-- the comments before a member, those of its first line and those inside
abbrev pub comments_of : Placed → List Comment
comments_of p = p.earlier ++ (p.own ++ p.inside)

-- their texts
abbrev pub own_texts : Placed → List (List ℕ)
own_texts p = texts p.earlier ++ (texts p.own ++ texts p.inside)

-- A procedure stands as one. Before it stand the comments before its head and those of the head; those inside stand behind its head.
pub record StandsAsProcedure (S : Scope) (p : Placed) (head : source.Line) (body : Nodes) (ws : List net.Member) : Type 0 where
  pub front : List (List ℕ)
  pub written : net.Procedure
  pub is_member : ws ≡ member_comments front ++ net.proc written ∷ []
  pub before : Merges (texts p.earlier ++ texts p.own) (upgrade_texts (head_rules S p) head.text) front
  pub inside : Merges (texts p.inside) (body_upgrades S p.at.procedure (suc p.at.statement) 0 (flat_lines body)) (comments_of_lines written.lines)

-- ---- properties

-- the procedure of a number among members
abbrev pub placed_at : (procedure : ℕ) → List Placed → Option Placed
placed_at n [] = None
placed_at n (p ∷ ps) = cond (is_procedure_member p.member && nat_eq p.at.procedure n) (Some p) (placed_at n ps)

-- a later part leaves the comments of its head right before it; those of the head of the first part stand before the property
abbrev pub PartComments : Scope → (later : Bool) → Placed → (head : source.Line) → List (List ℕ) → Type 0
PartComments S false p head comments = comments ≡ []
PartComments S true p head comments = Merges (texts p.own) (upgrade_texts (head_rules S p) head.text) comments

abbrev pub PartStands : Scope → (later : Bool) → Placed → Member → Option Procedure → List (List ℕ) → Option net.Procedure → Type 0
PartStands S later p (proc head body close) (Some q) comments w =
    (d : net.Procedure) × (w ≡ Some d) × PartComments S later p head comments
    × Merges (texts p.inside) (body_upgrades S p.at.procedure (suc p.at.statement) 0 (flat_lines body)) (comments_of_lines d.lines)
PartStands S later p _ _ comments w = (comments ≡ []) × (w ≡ None)

abbrev pub PartOf : Scope → (first number : ℕ) → Option Placed → List (List ℕ) → Option net.Procedure → Type 0
PartOf S first n None comments w = (comments ≡ []) × (w ≡ None)
PartOf S first n (Some p) comments w = PartStands S (not (nat_eq n first)) p p.member (slice_get S.declarations.procs n) comments w

-- the part of a number, of a property with this first part, with the comments right before it
abbrev pub PartAt : Scope → List Placed → (first : ℕ) → Option ℕ → List (List ℕ) → Option net.Procedure → Type 0
PartAt S ps first None comments w = (comments ≡ []) × (w ≡ None)
PartAt S ps first (Some n) comments w = PartOf S first n (placed_at n ps) comments w

-- A property stands as one, where its first part stands, with its Get and its Let or Set.
pub record StandsAsProperty (S : Scope) (ps : List Placed) (p : Placed) (head : source.Line) (ws : List net.Member) : Type 0 where
  pub front : List (List ℕ)
  pub written : net.Property
  pub is_member : ws ≡ member_comments front ++ net.property written ∷ []
  pub before : Merges (texts p.earlier ++ texts p.own) (upgrade_texts (head_rules S p) head.text) front
  pub get : PartAt S ps p.at.procedure (part_number S.declarations kind.Get p.at.procedure) written.get_comments written.get
  pub set :
      PartAt S ps p.at.procedure (or_part (part_number S.declarations kind.Let p.at.procedure) (part_number S.declarations kind.Set p.at.procedure))
      written.set_comments written.set

-- A second part of one kind is a property by itself.
pub record StandsByItself (S : Scope) (p : Placed) (head : source.Line) (body : Nodes) (gets : Bool) (ws : List net.Member) : Type 0 where
  pub front : List (List ℕ)
  pub written : net.Property
  pub is_member : ws ≡ member_comments front ++ net.property written ∷ []
  pub before : Merges (texts p.earlier ++ texts p.own) (upgrade_texts (head_rules S p) head.text) front
  pub part : net.Procedure
  pub is_part : (written.get ≡ cond gets (Some part) None) × (written.set ≡ cond gets None (Some part))
  pub no_comments : (written.get_comments ≡ []) × (written.set_comments ≡ [])
  pub inside : Merges (texts p.inside) (body_upgrades S p.at.procedure (suc p.at.statement) 0 (flat_lines body)) (comments_of_lines part.lines)

-- ---- procedures

-- how a procedure stands; a later part of a property stands in that, and leaves the comments before its head
pub record ProcedureStands (S : Scope) (ps : List Placed) (p : Placed) (head : source.Line) (body : Nodes) (q : Procedure) (ws : List net.Member) : Type 0 where
  pub plain :
      is_property_kind q.kind ≡ false
      → (w : StandsAsProcedure S p head body ws) × HeadCorresponds S q q.kind w.written.head × (w.written.close ≡ cond (is_function q.kind) EndFunction EndSub)
  pub separate : is_property_kind q.kind ≡ true → is_separate S q ≡ true → StandsAsProcedure S p head body ws
  pub property :
      is_property_kind q.kind ≡ true → is_separate S q ≡ false → stays_inside S p.at.procedure q ≡ false → is_counted S.declarations p.at.procedure q ≡ true
      → StandsAsProperty S ps p head ws
  pub by_itself :
      is_property_kind q.kind ≡ true → is_separate S q ≡ false → stays_inside S p.at.procedure q ≡ false → is_counted S.declarations p.at.procedure q ≡ false
      → StandsByItself S p head body (is_function q.kind) ws
  pub later : stays_inside S p.at.procedure q ≡ true → ws ≡ member_comments (texts p.earlier)

abbrev pub SomeStands : Scope → List Placed → Placed → (head : source.Line) → Nodes → Option Procedure → List net.Member → Type 0
SomeStands S ps p head body None ws = ws ≡ member_comments (texts p.earlier)
SomeStands S ps p head body (Some q) ws = ProcedureStands S ps p head body q ws

-- The comments in what is written for one of these members are its own, in order, and beside them only the UPGRADE comments of its lines. A
-- declaration has no procedure.
abbrev pub MemberStands : Scope → List Placed → Placed → Member → List net.Member → Type 0
MemberStands S ps p (alone l) ws = (flat_map procedures_in ws ≡ []) × Merges (own_texts p) (statement_upgrade S p.at.statement l) (flat_map comments_in ws)
MemberStands S ps p (group head lines close) ws =
    (flat_map procedures_in ws ≡ [])
    × Merges (own_texts p) (upgrade_texts (group_rules S p head.form) head.text ++ group_upgrades S (suc p.at.statement) lines) (flat_map comments_in ws)
MemberStands S ps p (proc head body close) ws = SomeStands S ps p head body (slice_get S.declarations.procs p.at.procedure) ws

abbrev pub MemberCorresponds : Scope → List Placed → Placed → List net.Member → Type 0
MemberCorresponds S ps p ws = MemberStands S ps p p.member ws
