-- Which written members have procedures: declarations and comments have none.
use Rattle.std.proofs.Common.{◌≡◌, ℕ, suc, Bool, true, false, cond, List, [], ◌∷◌, ◌++◌, map, length, Option, Some, None, refl, sym, ap, ◌∙◌, append_assoc, append-nil}
use Rattle.std.specs.List.{list_all}
use Rattle.up_base.proofs.Lists.{all_append, all_first, all_map, all_rest}
use Rattle.vb_tree.specs.declared.value.Value6.{Value6}
use Rattle.vb_tree.specs.Tree.{Form}
use Rattle.vb_tree.specs.Tree as source
use Rattle.bound_tree.specs.Tree.{Constant}
use Rattle.net_tree.specs.declared.declaration.NetVisibility.{NetVisibility}
use Rattle.net_tree.specs.declared.declaration.NetVisibility.TheVariants as net_seen
use Rattle.net_tree.specs.Tree as net
use Rattle.written_trees.specs.Comments.{Comment, past, texts, up_to, upgrade_texts}
use Rattle.written_trees.specs.DeclaredMembers.{constant_by, constant_visibility, declared_members, enum_constants, enum_from, group_members, group_rules, is_standard, line_members, member_comments, module_constant, module_variable, statement_comments, structure_of, word_visibility}
use Rattle.written_trees.specs.Names.{Scope}
use Rattle.written_trees.specs.Placing.{Placed, is_type_head}
use Rattle.written_trees.specs.Prologues.{constants_of, sound_value, variables_of}
use Rattle.net_run.specs.Members.{codes_of_member, codes_of_members}

-- ---- members without procedures

abbrev pub is_codeless : net.Member → Bool
is_codeless (net.member_comment units) = true
is_codeless (net.variable visibility v) = true
is_codeless (net.const_member visibility c) = true
is_codeless (net.structure s) = true
is_codeless (net.property p) = false
is_codeless (net.proc p) = false

codeless_member : (home k : ℕ) (m : net.Member) → is_codeless m ≡ true → codes_of_member home k m ≡ []
codeless_member home k (net.member_comment units) h = refl
codeless_member home k (net.variable visibility v) h = refl
codeless_member home k (net.const_member visibility c) h = refl
codeless_member home k (net.structure s) h = refl
codeless_member home k (net.property p) h = absurd (cc h)
codeless_member home k (net.proc p) h = absurd (cc h)

pub behind_codeless : (home k : ℕ) (ms ns : List net.Member) → list_all is_codeless ms ≡ true
    → (j : ℕ) × (codes_of_members home k (ms ++ ns) ≡ codes_of_members home j ns)
behind_codeless home k [] ns h = (k, refl)
behind_codeless home k (m ∷ ms) ns h =
    let more = behind_codeless home (suc k) ms ns (all_rest is_codeless m ms h) in
    (more.0, ap (λ cs. cs ++ codes_of_members home (suc k) (ms ++ ns)) (codeless_member home k m (all_first is_codeless m ms h)) ∙ more.1)

pub no_codes : (home k : ℕ) (ms : List net.Member) → list_all is_codeless ms ≡ true → codes_of_members home k ms ≡ []
no_codes home k [] h = refl
no_codes home k (m ∷ ms) h =
    ap (λ cs. cs ++ codes_of_members home (suc k) ms) (codeless_member home k m (all_first is_codeless m ms h))
    ∙ no_codes home (suc k) ms (all_rest is_codeless m ms h)

pub codes_append : (home k : ℕ) (ms ns : List net.Member)
    → (j : ℕ) × (codes_of_members home k (ms ++ ns) ≡ codes_of_members home k ms ++ codes_of_members home j ns)
codes_append home k [] ns = (k, refl)
codes_append home k (m ∷ ms) ns =
    let more = codes_append home (suc k) ms ns in (
      more.0,
      ap (λ cs. codes_of_member home k m ++ cs) more.1
          ∙ sym (append_assoc (codes_of_member home k m) (codes_of_members home (suc k) ms) (codes_of_members home more.0 ns)),
    )

-- a member behind such members
pub one_behind : (home k n : ℕ) (notes : List net.Member) (m : net.Member) → list_all is_codeless notes ≡ true
    → ((j : ℕ) → length (codes_of_member home j m) ≡ n) → length (codes_of_members home k (notes ++ m ∷ [])) ≡ n
one_behind home k n notes m h is =
    let r = behind_codeless home k notes (m ∷ []) h in
    ap length r.1 ∙ ap length (append-nil (codes_of_member home r.0 m)) ∙ is r.0

-- ---- comments and declarations

pub comments_codeless : (units : List (List ℕ)) → list_all is_codeless (member_comments units) ≡ true
comments_codeless units = all_map is_codeless net.member_comment units (λ u. refl)

value_codeless : (S : Scope) (visibility : NetVisibility) (c : Constant) (o : Option Value6) → is_codeless (constant_by S visibility c o) ≡ true
value_codeless S visibility c None = refl
value_codeless S visibility c (Some x) = refl

constants_codeless : (S : Scope) (visibility : NetVisibility) (n : ℕ)
    → list_all is_codeless (map (module_constant S visibility) (constants_of S.declarations S.file n)) ≡ true
constants_codeless S visibility n =
    all_map is_codeless (module_constant S visibility) (constants_of S.declarations S.file n) (λ c. value_codeless S visibility c.1 (sound_value S.facts c))

declared_codeless : (S : Scope) (n : ℕ) (f : Form) → list_all is_codeless (declared_members S n f) ≡ true
declared_codeless S n (source.variables w declarators) =
    all_map is_codeless (module_variable S (word_visibility w)) (variables_of S.declarations S.file n) (λ v. refl)
declared_codeless S n (source.constants visibility items) = constants_codeless S (constant_visibility visibility) n
declared_codeless S n _ = refl

line_codeless : (S : Scope) (n : ℕ) (l : source.Line) → list_all is_codeless (line_members S n l) ≡ true
line_codeless S n l =
    all_append is_codeless (member_comments (statement_comments S n l)) (declared_members S n l.form)
    (comments_codeless (statement_comments S n l)) (declared_codeless S n l.form)

if_codeless : (b : Bool) (ms ns : List net.Member) → list_all is_codeless ms ≡ true → list_all is_codeless ns ≡ true → list_all is_codeless (cond b ms ns) ≡ true
if_codeless true ms ns h k = h
if_codeless false ms ns h k = k

enum_codeless : (S : Scope) (cs : List Comment) (n : ℕ) (ls : List source.Line) → list_all is_codeless (enum_from S cs n ls) ≡ true
enum_codeless S cs n [] = comments_codeless (texts cs)
enum_codeless S cs n (l ∷ ls) =
    let before = member_comments (texts (up_to l.place.line cs)) in
    let own = member_comments (statement_comments S n l) in
    let here = enum_constants S n in
    let more = enum_from S (past l.place.line cs) (suc n) ls in
    all_append is_codeless before (own ++ (here ++ more)) (comments_codeless (texts (up_to l.place.line cs)))
    (all_append is_codeless own (here ++ more) (comments_codeless (statement_comments S n l))
    (all_append is_codeless here more
    (if_codeless (is_standard S) (map (module_constant S net_seen.Public) (constants_of S.declarations S.file n)) [] (constants_codeless S net_seen.Public n) refl)
    (enum_codeless S (past l.place.line cs) (suc n) ls)))

group_codeless : (S : Scope) (p : Placed) (head : source.Line) (lines : List source.Line) → list_all is_codeless (group_members S p head lines) ≡ true
group_codeless S p head lines =
    let own = upgrade_texts (group_rules S p head.form) head.text in
    let parts = structure_of S p lines ∷ [] in
    let others = enum_from S p.inside (suc p.at.statement) lines in
    all_append is_codeless (member_comments own) (cond (is_type_head head.form) parts others) (comments_codeless own)
    (if_codeless (is_type_head head.form) parts others refl (enum_codeless S p.inside (suc p.at.statement) lines))

-- ---- what is written for a line and for a Type or Enum, with its comments

pub alone_codeless : (S : Scope) (earlier own : List (List ℕ)) (n : ℕ) (l : source.Line)
    → list_all is_codeless (member_comments earlier ++ (member_comments own ++ line_members S n l)) ≡ true
alone_codeless S earlier own n l =
    all_append is_codeless (member_comments earlier) (member_comments own ++ line_members S n l) (comments_codeless earlier)
    (all_append is_codeless (member_comments own) (line_members S n l) (comments_codeless own) (line_codeless S n l))

pub lines_codeless : (S : Scope) (earlier own : List (List ℕ)) (p : Placed) (head : source.Line) (lines : List source.Line)
    → list_all is_codeless (member_comments earlier ++ (member_comments own ++ group_members S p head lines)) ≡ true
lines_codeless S earlier own p head lines =
    all_append is_codeless (member_comments earlier) (member_comments own ++ group_members S p head lines) (comments_codeless earlier)
    (all_append is_codeless (member_comments own) (group_members S p head lines) (comments_codeless own) (group_codeless S p head lines))
