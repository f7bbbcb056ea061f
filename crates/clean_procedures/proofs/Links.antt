-- The arrows as links, between points that have numbers, and as arrows to Option and Def lines.
use Rattle.std.proofs.Common.{◌≡◌, ℕ, ◌+◌, suc, List, [], ◌∷◌, ◌++◌, map, Option, Some, None, refl, ap, sym, ◌∙◌}
use Rattle.std.specs.Prelude.{option_to_list}
use Rattle.std.specs.List.{flat_map}
use Rattle.std.proofs.lemmas.List.{map-append}
use Rattle.vb_tree.specs.declared.declared.Owner.{Owner}
use Rattle.vb_tree.specs.declared.declared.Owner.TheVariants as owner
use Rattle.vb_tree.specs.declared.declared.VarId.{VarId}
use Rattle.bound_tree.specs.declared.body.Mention.{Mention}
use Rattle.bound_tree.specs.declared.body.Mention.TheVariants as mention
use Rattle.bound_tree.specs.declared.declared.TypeDecl.{TypeDecl}
use Rattle.bound_tree.specs.Tree.{Expr, Line, Variable, Constant, Declarations, Program}
use Rattle.bound_facts.specs.Calls.{initialized, line_calls, node_calls, pair_to}
use Rattle.bound_facts.specs.Clean.{Arrow, Point, procedure, variable, constant, user_type, call_arrow, captured_arrows, class_points, constant_arrows, created_points, mentioned, owner_point, to_all, type_arrows}
use Rattle.bound_facts.specs.Items.{items_from, project_items}
use Rattle.bound_facts.specs.Locks.{user_in}
use Rattle.bound_facts.specs.Members.{initializer, terminator}
use Rattle.bound_facts.specs.Node.{called, created}
use Rattle.bound_facts.specs.Parts.{line_uses}
use Rattle.clean_procedures.specs.Numbers.{number, number_arrow}
use Rattle.clean_procedures.specs.Pairs.{Pair, all_pairs, body_pairs, call_pairs, captured_pairs, class_pairs, constants_pairs, created_pairs, declared_pairs, field_pairs, line_pairs, made_pairs, mention_pairs, owned_by, owner_of, pair, procedure_pairs, type_pairs, types_pairs, uses_pairs, variable_pairs, variables_pairs}
use Rattle.clean_procedures.proofs.Firsts.{captured_are}

-- ---- links

abbrev pub line_links : Declarations → ℕ → Line → List Arrow
line_links D i l =
    (map call_arrow (line_calls D i l) ++ to_all (procedure i) (flat_map (created_points D) (line_uses l))) ++ to_all (procedure i) (flat_map (mentioned D) l.bindings.mentions)

abbrev pub variable_link : ℕ → Variable → List Arrow
variable_link k v = map (λ p. (p, variable k)) (owner_point v.owner) ++ to_all (variable k) (map user_type (option_to_list (user_in v.named)))

abbrev pub variable_links : ℕ → List Variable → List Arrow
variable_links k [] = []
variable_links k (v ∷ vs) = variable_link k v ++ variable_links (suc k) vs

abbrev pub body_links : Program → List Arrow
body_links P = project_items (line_links P.declarations) P.bodies

abbrev pub declared_links : Declarations → List Arrow
declared_links D = variable_links 0 D.vars ++ (constant_arrows 0 D.consts ++ type_arrows 0 D.types)

-- what lines and declarations mention
abbrev pub mention_links : Program → List Arrow
mention_links P = body_links P ++ declared_links P.declarations

abbrev pub captured_links : Declarations → List Arrow
captured_links D = captured_arrows D 0 D.procs

abbrev pub links : Program → List Arrow
links P = mention_links P ++ captured_links P.declarations

-- ---- the pairs are their numbers

pub items_map : {X Y : Type 0} (g : X → Y) (f : ℕ → Line → List X) (i : ℕ) (bodies : List (List Line)) → items_from (λ k l. map g (f k l)) i bodies ≡ map g (items_from f i bodies)
items_map g f i [] = refl
items_map g f i (lines ∷ rest) =
    ap (λ xs. flat_map (λ l. map g (f i l)) lines ++ xs) (items_map g f (i + 1) rest)
    ∙ ap (λ xs. xs ++ map g (items_from f (i + 1) rest)) (flat_mapped lines)
    ∙ sym (map-append g (flat_map (f i) lines) (items_from f (i + 1) rest))
  where
    flat_mapped : (ls : List Line) → flat_map (λ l. map g (f i l)) ls ≡ map g (flat_map (f i) ls)
    flat_mapped [] = refl
    flat_mapped (l ∷ ls) = ap (λ xs. map g (f i l) ++ xs) (flat_mapped ls) ∙ sym (map-append g (f i l) (flat_map (f i) ls))

flat_same : {X Y : Type 0} (f g : X → List Y) (xs : List X) → ((x : X) → f x ≡ g x) → flat_map f xs ≡ flat_map g xs
flat_same f g [] h = refl
flat_same f g (x ∷ xs) h = ap (λ ys. f x ++ ys) (flat_same f g xs h) ∙ ap (λ ys. ys ++ flat_map g xs) (h x)

items_same : {X : Type 0} (f g : ℕ → Line → List X) (i : ℕ) (bodies : List (List Line)) → ((k : ℕ) (l : Line) → f k l ≡ g k l) → items_from f i bodies ≡ items_from g i bodies
items_same f g i [] h = refl
items_same f g i (lines ∷ rest) h =
    ap (λ xs. flat_map (f i) lines ++ xs) (items_same f g (i + 1) rest h) ∙ ap (λ xs. xs ++ items_from g (i + 1) rest) (flat_same (f i) (g i) lines (h i))

calls_one : (i : ℕ) (p q : Option ℕ) → procedure_pairs i p ++ procedure_pairs i q ≡ map number_arrow (map call_arrow (pair_to i p (pair_to i q [])))
calls_one i None None = refl
calls_one i None (Some q) = refl
calls_one i (Some p) None = refl
calls_one i (Some p) (Some q) = refl

calls_are : (D : Declarations) (i : ℕ) (uses : List Expr) → flat_map (call_pairs D i) uses ≡ map number_arrow (map call_arrow (flat_map (node_calls D i) uses))
calls_are D i [] = refl
calls_are D i (e ∷ uses) =
    ap (λ (ps : List Pair). call_pairs D i e ++ ps) (calls_are D i uses)
    ∙ ap (λ (ps : List Pair). ps ++ map number_arrow (map call_arrow (flat_map (node_calls D i) uses))) (calls_one i (called e) (initialized D e))
    ∙ sym (map-append number_arrow (map call_arrow (node_calls D i e)) (map call_arrow (flat_map (node_calls D i) uses)))
    ∙ ap (map number_arrow) (sym (map-append call_arrow (node_calls D i e) (flat_map (node_calls D i) uses)))

abbrev numbers_to : ℕ → List Point → List Pair
numbers_to i qs = map number_arrow (to_all (procedure i) qs)

to_both : (i : ℕ) (qs rs : List Point) → numbers_to i (qs ++ rs) ≡ numbers_to i qs ++ numbers_to i rs
to_both i qs rs = ap (map number_arrow) (map-append (λ q. (procedure i, q)) qs rs) ∙ map-append number_arrow (to_all (procedure i) qs) (to_all (procedure i) rs)

class_one : (i : ℕ) (p q : Option ℕ) → procedure_pairs i p ++ procedure_pairs i q ≡ numbers_to i (map procedure (option_to_list p ++ option_to_list q))
class_one i None None = refl
class_one i None (Some q) = refl
class_one i (Some p) None = refl
class_one i (Some p) (Some q) = refl

classes_are : (D : Declarations) (i c : ℕ) → class_pairs D i c ≡ numbers_to i (class_points D c)
classes_are D i c = class_one i (initializer D c) (terminator D c)

nothing_more : {X : Type 0} (xs : List X) → xs ++ [] ≡ xs
nothing_more [] = refl
nothing_more (x ∷ xs) = ap (λ ys. x ∷ ys) (nothing_more xs)

made_are : (D : Declarations) (i : ℕ) (c : Option ℕ) → made_pairs D i c ≡ numbers_to i (flat_map (class_points D) (option_to_list c))
made_are D i None = refl
made_are D i (Some c) = classes_are D i c ∙ ap (numbers_to i) (sym (nothing_more (class_points D c)))

created_are : (D : Declarations) (i : ℕ) (uses : List Expr) → flat_map (created_pairs D i) uses ≡ numbers_to i (flat_map (created_points D) uses)
created_are D i [] = refl
created_are D i (e ∷ uses) =
    ap (λ (ps : List Pair). created_pairs D i e ++ ps) (created_are D i uses)
    ∙ ap (λ (ps : List Pair). ps ++ numbers_to i (flat_map (created_points D) uses)) (made_are D i (created D e))
    ∙ sym (to_both i (created_points D e) (flat_map (created_points D) uses))

mention_is : (D : Declarations) (i : ℕ) (m : Mention) → mention_pairs D i m ≡ numbers_to i (mentioned D m)
mention_is D i (mention.Var v) = refl
mention_is D i (mention.Const c) = refl
mention_is D i (mention.Type t) = refl
mention_is D i (mention.Proc p) = refl
mention_is D i (mention.Class c) = classes_are D i c.0

mentions_are : (D : Declarations) (i : ℕ) (ms : List Mention) → flat_map (mention_pairs D i) ms ≡ numbers_to i (flat_map (mentioned D) ms)
mentions_are D i [] = refl
mentions_are D i (m ∷ ms) =
    ap (λ (ps : List Pair). mention_pairs D i m ++ ps) (mentions_are D i ms)
    ∙ ap (λ (ps : List Pair). ps ++ numbers_to i (flat_map (mentioned D) ms)) (mention_is D i m)
    ∙ sym (to_both i (mentioned D m) (flat_map (mentioned D) ms))

line_is : (D : Declarations) (i : ℕ) (l : Line) → line_pairs D i l ≡ map number_arrow (line_links D i l)
line_is D i l =
    let calls = map call_arrow (line_calls D i l) in
    let makes = to_all (procedure i) (flat_map (created_points D) (line_uses l)) in
    let names = to_all (procedure i) (flat_map (mentioned D) l.bindings.mentions) in
    ap (λ (ps : List Pair). uses_pairs D i (line_uses l) ++ ps) (mentions_are D i l.bindings.mentions)
    ∙ ap (λ (ps : List Pair). (flat_map (call_pairs D i) (line_uses l) ++ ps) ++ map number_arrow names) (created_are D i (line_uses l))
    ∙ ap (λ (ps : List Pair). (ps ++ map number_arrow makes) ++ map number_arrow names) (calls_are D i (line_uses l))
    ∙ ap (λ (ps : List Pair). ps ++ map number_arrow names) (sym (map-append number_arrow calls makes)) ∙ sym (map-append number_arrow (calls ++ makes) names)

bodies_are : (P : Program) → body_pairs P ≡ map number_arrow (body_links P)
bodies_are P =
    items_same (line_pairs P.declarations) (λ k l. map number_arrow (line_links P.declarations k l)) 0 P.bodies (line_is P.declarations)
    ∙ items_map number_arrow (line_links P.declarations) 0 P.bodies

owned_is : (o : Owner) (q : Point) → owned_by (owner_of o) (number q) ≡ map number_arrow (map (λ p. (p, q)) (owner_point o))
owned_is (owner.Module m) q = refl
owned_is (owner.Local p) q = refl
owned_is (owner.Static p) q = refl
owned_is (owner.Value p) q = refl
owned_is (owner.Reference p) q = refl
owned_is (owner.Answer p) q = refl
owned_is (owner.Field t) q = refl

named_is : (k : ℕ) (t : Option ℕ) → type_pairs k t ≡ map number_arrow (to_all (variable k) (map user_type (option_to_list t)))
named_is k None = refl
named_is k (Some t) = refl

variable_is : (k : ℕ) (v : Variable) → variable_pairs k v ≡ map number_arrow (variable_link k v)
variable_is k v =
    let owners = map (λ p. (p, variable k)) (owner_point v.owner) in
    let types = to_all (variable k) (map user_type (option_to_list (user_in v.named))) in
    ap (λ (ps : List Pair). owned_by (owner_of v.owner) (number (variable k)) ++ ps) (named_is k (user_in v.named))
    ∙ ap (λ (ps : List Pair). ps ++ map number_arrow types) (owned_is v.owner (variable k)) ∙ sym (map-append number_arrow owners types)

variables_are : (k : ℕ) (vs : List Variable) → variables_pairs k vs ≡ map number_arrow (variable_links k vs)
variables_are k [] = refl
variables_are k (v ∷ vs) =
    ap (λ (ps : List Pair). variable_pairs k v ++ ps) (variables_are (suc k) vs)
    ∙ ap (λ (ps : List Pair). ps ++ map number_arrow (variable_links (suc k) vs)) (variable_is k v) ∙ sym (map-append number_arrow (variable_link k v) (variable_links (suc k) vs))

constants_are : (k : ℕ) (cs : List Constant) → constants_pairs k cs ≡ map number_arrow (constant_arrows k cs)
constants_are k [] = refl
constants_are k (c ∷ cs) =
    let owners = map (λ p. (p, constant k)) (owner_point c.owner) in
    ap (λ (ps : List Pair). owned_by (owner_of c.owner) (number (constant k)) ++ ps) (constants_are (suc k) cs)
    ∙ ap (λ (ps : List Pair). ps ++ map number_arrow (constant_arrows (suc k) cs)) (owned_is c.owner (constant k)) ∙ sym (map-append number_arrow owners (constant_arrows (suc k) cs))

fields_are : (k : ℕ) (fields : List VarId) → field_pairs k fields ≡ map number_arrow (to_all (user_type k) (map (λ f. variable f.0) fields))
fields_are k [] = refl
fields_are k (f ∷ fields) = ap (λ (ps : List Pair). pair (user_type k) (variable f.0) ∷ ps) (fields_are k fields)

types_are : (k : ℕ) (ts : List TypeDecl) → types_pairs k ts ≡ map number_arrow (type_arrows k ts)
types_are k [] = refl
types_are k (t ∷ ts) =
    let fields = to_all (user_type k) (map (λ f. variable f.0) t.fields) in
    ap (λ (ps : List Pair). field_pairs k t.fields ++ ps) (types_are (suc k) ts)
    ∙ ap (λ (ps : List Pair). ps ++ map number_arrow (type_arrows (suc k) ts)) (fields_are k t.fields) ∙ sym (map-append number_arrow fields (type_arrows (suc k) ts))

declared_are : (D : Declarations) → declared_pairs D ≡ map number_arrow (declared_links D)
declared_are D =
    let consts = constant_arrows 0 D.consts in
    let types = type_arrows 0 D.types in
    ap (λ (ps : List Pair). variables_pairs 0 D.vars ++ (constants_pairs 0 D.consts ++ ps)) (types_are 0 D.types)
    ∙ ap (λ (ps : List Pair). variables_pairs 0 D.vars ++ (ps ++ map number_arrow types)) (constants_are 0 D.consts)
    ∙ ap (λ (ps : List Pair). ps ++ (map number_arrow consts ++ map number_arrow types)) (variables_are 0 D.vars)
    ∙ ap (λ (ps : List Pair). map number_arrow (variable_links 0 D.vars) ++ ps) (sym (map-append number_arrow consts types))
    ∙ sym (map-append number_arrow (variable_links 0 D.vars) (consts ++ types))

mentions_pair : (P : Program) → body_pairs P ++ declared_pairs P.declarations ≡ map number_arrow (mention_links P)
mentions_pair P =
    ap (λ (ps : List Pair). body_pairs P ++ ps) (declared_are P.declarations)
    ∙ ap (λ (ps : List Pair). ps ++ map number_arrow (declared_links P.declarations)) (bodies_are P) ∙ sym (map-append number_arrow (body_links P) (declared_links P.declarations))

pub pairs_are : (P : Program) → all_pairs P ≡ map number_arrow (links P)
pairs_are P =
    ap (λ (ps : List Pair). ps ++ captured_pairs P.declarations) (mentions_pair P)
    ∙ ap (λ (ps : List Pair). map number_arrow (mention_links P) ++ ps) (captured_are P.declarations)
    ∙ sym (map-append number_arrow (mention_links P) (captured_links P.declarations))
