-- Which points arrows lead from and to.
use Rattle.std.proofs.Common.{◌≡◌, ℕ, ◌+◌, suc, zero, Bool, true, false, List, [], ◌∷◌, ◌++◌, map, Option, Some, None, refl, ap, sym, subst, ◌∙◌, arith, inl, inr, ⊎_elim, cond, nat_eq, take}
use Rattle.std.specs.Prelude.{◌&&◌, option_to_list, slice_get}
use Rattle.std.specs.List.{flat_map}
use Rattle.up_base.specs.declared.place.Place.{Place}
use Rattle.vb_tree.specs.declared.declared.Owner.{Owner}
use Rattle.vb_tree.specs.declared.declared.Owner.TheVariants as owner
use Rattle.vb_tree.specs.declared.declared.VarId.{VarId}
use Rattle.vb_tree.specs.FlatLines.{module_lines}
use Rattle.vb_tree.specs.Tree.{Module}
use Rattle.vb_tree.specs.Tree as vb
use Rattle.bound_tree.specs.declared.body.Mention.{Mention}
use Rattle.bound_tree.specs.declared.body.Mention.TheVariants as mention
use Rattle.bound_tree.specs.declared.declared.TypeDecl.{TypeDecl}
use Rattle.bound_tree.specs.declared.declared.Named.{Named}
use Rattle.bound_tree.specs.declared.declared.Named.TheVariants as named
use Rattle.bound_tree.specs.Tree.{Expr, Line, Variable, Constant, Procedure, Declarations, Program}
use Rattle.bound_facts.specs.Calls.{line_calls}
use Rattle.bound_facts.specs.Clean.{Arrow, Point, procedure, variable, constant, user_type, option_line, call_arrow, captured_arrows, captures, capturing, capturing_in, class_points, constant_arrows, created_points, is_member_of, is_option, lettered_point, mentioned, named_point, options_from, options_of, owner_point, to_all, type_arrows}
use Rattle.bound_facts.specs.Items.{items_from}
use Rattle.bound_facts.specs.Locks.{user_in}
use Rattle.bound_facts.specs.Members.{initializer, terminator}
use Rattle.bound_facts.specs.Node.{created}
use Rattle.bound_facts.specs.Parts.{line_uses}
use Rattle.clean_procedures.proofs.Among.{Among, among_append, among_left, among_right, among_map, map_among, among_flat}
use Rattle.clean_procedures.proofs.Links.{body_links, captured_links, declared_links, line_links, links, mention_links, variable_link, variable_links}
use Rattle.clean_procedures.proofs.Numbering.{is_numbered}
use Rattle.clean_procedures.proofs.Split.{arrows_from, lettered_of, option_arrows, options_under}

abbrev pub Joins : Arrow → Type 0
Joins a = (is_numbered a.0 ≡ true) × (is_numbered a.1 ≡ true)

abbrev AllNumbered : List Point → Type 0
AllNumbered qs = (q : Point) → Among qs q → is_numbered q ≡ true

-- ---- links

joins : (p q : Point) (a : Arrow) → (p, q) ≡ a → is_numbered p ≡ true → is_numbered q ≡ true → Joins a
joins p q a e h k = subst Joins e (h, k)

to_all_joins : (p : Point) (qs : List Point) (a : Arrow) → is_numbered p ≡ true → AllNumbered qs → Among (to_all p qs) a → Joins a
to_all_joins p qs a h each m = let o = among_map (λ q. (p, q)) qs a m in joins p o.0 a o.2 h (each o.0 o.1)

procedures_numbered : (ns : List ℕ) → AllNumbered (map procedure ns)
procedures_numbered ns q h = let o = among_map procedure ns q h in subst (λ (p : Point). is_numbered p ≡ true) o.2 refl

types_numbered : (ns : List ℕ) → AllNumbered (map user_type ns)
types_numbered ns q h = let o = among_map user_type ns q h in subst (λ (p : Point). is_numbered p ≡ true) o.2 refl

fields_numbered : (fields : List VarId) → AllNumbered (map (λ f. variable f.0) fields)
fields_numbered fields q h = let o = among_map (λ (f : VarId). variable f.0) fields q h in subst (λ (p : Point). is_numbered p ≡ true) o.2 refl

mentioned_numbered : (D : Declarations) (m : Mention) → AllNumbered (mentioned D m)
mentioned_numbered D (mention.Var v) q (inl e) = subst (λ (p : Point). is_numbered p ≡ true) e refl
mentioned_numbered D (mention.Var v) q (inr h) = absurd h
mentioned_numbered D (mention.Const c) q (inl e) = subst (λ (p : Point). is_numbered p ≡ true) e refl
mentioned_numbered D (mention.Const c) q (inr h) = absurd h
mentioned_numbered D (mention.Type t) q (inl e) = subst (λ (p : Point). is_numbered p ≡ true) e refl
mentioned_numbered D (mention.Type t) q (inr h) = absurd h
mentioned_numbered D (mention.Proc p) q (inl e) = subst (λ (r : Point). is_numbered r ≡ true) e refl
mentioned_numbered D (mention.Proc p) q (inr h) = absurd h
mentioned_numbered D (mention.Class c) q h = procedures_numbered (option_to_list (initializer D c.0) ++ option_to_list (terminator D c.0)) q h

all_mentioned_numbered : (D : Declarations) (ms : List Mention) → AllNumbered (flat_map (mentioned D) ms)
all_mentioned_numbered D ms q h = let o = among_flat (mentioned D) ms q h in mentioned_numbered D o.0 q o.2

created_numbered : (D : Declarations) (uses : List Expr) → AllNumbered (flat_map (created_points D) uses)
created_numbered D uses q h =
    let o = among_flat (created_points D) uses q h in
    let c = among_flat (class_points D) (option_to_list (created D o.0)) q o.2 in
    procedures_numbered (option_to_list (initializer D c.0) ++ option_to_list (terminator D c.0)) q c.2

line_joins : (D : Declarations) (i : ℕ) (l : Line) (a : Arrow) → Among (line_links D i l) a → Joins a
line_joins D i l a h =
    let calls = map call_arrow (line_calls D i l) in
    let makes = to_all (procedure i) (flat_map (created_points D) (line_uses l)) in
    let names = to_all (procedure i) (flat_map (mentioned D) l.bindings.mentions) in
    ⊎_elim
    (λ p. ⊎_elim
    (λ c. let o = among_map call_arrow (line_calls D i l) a c in joins (procedure o.0.0) (procedure o.0.1) a o.2 refl refl)
    (λ m. to_all_joins (procedure i) (flat_map (created_points D) (line_uses l)) a refl (created_numbered D (line_uses l)) m) (among_append calls makes a p))
    (λ n. to_all_joins (procedure i) (flat_map (mentioned D) l.bindings.mentions) a refl (all_mentioned_numbered D l.bindings.mentions) n) (among_append (calls ++ makes) names a h)

items_join : (f : ℕ → Line → List Arrow) (i : ℕ) (bodies : List (List Line)) (a : Arrow) → ((k : ℕ) (l : Line) → Among (f k l) a → Joins a) → Among (items_from f i bodies) a → Joins a
items_join f i [] a each h = absurd h
items_join f i (lines ∷ rest) a each h = ⊎_elim
    (λ p. let m = among_flat (f i) lines a p in each i m.0 m.2)
    (λ q. items_join f (i + 1) rest a each q)
    (among_append (flat_map (f i) lines) (items_from f (i + 1) rest) a h)

owner_numbered : (o : Owner) → AllNumbered (owner_point o)
owner_numbered (owner.Module m) q h = absurd h
owner_numbered (owner.Local p) q (inl e) = subst (λ (r : Point). is_numbered r ≡ true) e refl
owner_numbered (owner.Local p) q (inr h) = absurd h
owner_numbered (owner.Static p) q (inl e) = subst (λ (r : Point). is_numbered r ≡ true) e refl
owner_numbered (owner.Static p) q (inr h) = absurd h
owner_numbered (owner.Value p) q (inl e) = subst (λ (r : Point). is_numbered r ≡ true) e refl
owner_numbered (owner.Value p) q (inr h) = absurd h
owner_numbered (owner.Reference p) q (inl e) = subst (λ (r : Point). is_numbered r ≡ true) e refl
owner_numbered (owner.Reference p) q (inr h) = absurd h
owner_numbered (owner.Answer p) q (inl e) = subst (λ (r : Point). is_numbered r ≡ true) e refl
owner_numbered (owner.Answer p) q (inr h) = absurd h
owner_numbered (owner.Field t) q h = absurd h

owned_joins : (o : Owner) (q : Point) (a : Arrow) → is_numbered q ≡ true → Among (map (λ p. (p, q)) (owner_point o)) a → Joins a
owned_joins o q a h m = let s = among_map (λ p. (p, q)) (owner_point o) a m in joins s.0 q a s.2 (owner_numbered o s.0 s.1) h

variables_join : (k : ℕ) (vs : List Variable) (a : Arrow) → Among (variable_links k vs) a → Joins a
variables_join k [] a h = absurd h
variables_join k (v ∷ vs) a h = ⊎_elim
    (λ p. ⊎_elim
    (λ o. owned_joins v.owner (variable k) a refl o)
    (λ t. to_all_joins (variable k) (map user_type (option_to_list (user_in v.named))) a refl (types_numbered (option_to_list (user_in v.named))) t)
    (among_append (map (λ r. (r, variable k)) (owner_point v.owner)) (to_all (variable k) (map user_type (option_to_list (user_in v.named)))) a p))
    (λ r. variables_join (suc k) vs a r)
    (among_append (variable_link k v) (variable_links (suc k) vs) a h)

constants_join : (k : ℕ) (cs : List Constant) (a : Arrow) → Among (constant_arrows k cs) a → Joins a
constants_join k [] a h = absurd h
constants_join k (c ∷ cs) a h = ⊎_elim
    (λ p. owned_joins c.owner (constant k) a refl p) (λ r. constants_join (suc k) cs a r)
    (among_append (map (λ r. (r, constant k)) (owner_point c.owner)) (constant_arrows (suc k) cs) a h)

types_join : (k : ℕ) (ts : List TypeDecl) (a : Arrow) → Among (type_arrows k ts) a → Joins a
types_join k [] a h = absurd h
types_join k (t ∷ ts) a h = ⊎_elim
    (λ p. to_all_joins (user_type k) (map (λ f. variable f.0) t.fields) a refl (fields_numbered t.fields) p) (λ r. types_join (suc k) ts a r)
    (among_append (to_all (user_type k) (map (λ f. variable f.0) t.fields)) (type_arrows (suc k) ts) a h)

mention_joins : (P : Program) (a : Arrow) → Among (mention_links P) a → Joins a
mention_joins P a h =
    let D = P.declarations in
    ⊎_elim
    (λ b. items_join (line_links D) 0 P.bodies a (λ k l. line_joins D k l a) b)
    (λ d. ⊎_elim
    (λ v. variables_join 0 D.vars a v)
    (λ t. ⊎_elim (λ c. constants_join 0 D.consts a c) (λ u. types_join 0 D.types a u) (among_append (constant_arrows 0 D.consts) (type_arrows 0 D.types) a t))
    (among_append (variable_links 0 D.vars) (constant_arrows 0 D.consts ++ type_arrows 0 D.types) a d))
    (among_append (body_links P) (declared_links D) a h)

named_numbered : (what : Named) → AllNumbered (named_point what)
named_numbered (named.Var v) q (inl e) = subst (λ (p : Point). is_numbered p ≡ true) e refl
named_numbered (named.Var v) q (inr h) = absurd h
named_numbered (named.Const c) q (inl e) = subst (λ (p : Point). is_numbered p ≡ true) e refl
named_numbered (named.Const c) q (inr h) = absurd h
named_numbered (named.Proc p) q (inl e) = subst (λ (r : Point). is_numbered r ≡ true) e refl
named_numbered (named.Proc p) q (inr h) = absurd h
named_numbered (named.Type t) q (inl e) = subst (λ (p : Point). is_numbered p ≡ true) e refl
named_numbered (named.Type t) q (inr h) = absurd h
named_numbered (named.Enum e) q h = absurd h

if_numbered : (b : Bool) (qs : List Point) → AllNumbered qs → AllNumbered (cond b qs [])
if_numbered true qs each q h = each q h
if_numbered false qs each q h = absurd h

first_numbered : (qs : List Point) → AllNumbered qs → AllNumbered (take 1 qs)
first_numbered [] each q h = absurd h
first_numbered (p ∷ qs) each q (inl e) = each q (inl e)
first_numbered (p ∷ qs) each q (inr h) = absurd h

capturing_numbered : (D : Declarations) (file : ℕ) → AllNumbered (capturing D file)
capturing_numbered D file q h =
    let ms = D.project.modules in
    first_numbered (flat_map (capturing_in ms file) D.names)
    (λ r m. let o = among_flat (capturing_in ms file) D.names r m in
    if_numbered (is_member_of file o.0.scope && captures ms o.0.name o.0.named) (named_point o.0.named) (named_numbered o.0.named) r o.2) q h

captured_join : (D : Declarations) (k : ℕ) (ps : List Procedure) (a : Arrow) → Among (captured_arrows D k ps) a → Joins a
captured_join D k [] a h = absurd h
captured_join D k (p ∷ ps) a h = ⊎_elim
    (λ c. to_all_joins (procedure k) (capturing D p.module_number) a refl (capturing_numbered D p.module_number) c) (λ r. captured_join D (suc k) ps a r)
    (among_append (to_all (procedure k) (capturing D p.module_number)) (captured_arrows D (suc k) ps) a h)

pub link_joins : (P : Program) (a : Arrow) → Among (links P) a → Joins a
link_joins P a h =
    let D = P.declarations in
    ⊎_elim (mention_joins P a) (captured_join D 0 D.procs a) (among_append (mention_links P) (captured_links D) a h)

-- ---- arrows to Option and Def lines

-- an arrow from the one of these with a number, and where it leads
abbrev pub From : {X : Type 0} → (X → List Point) → (ℕ → Point) → ℕ → List X → Arrow → Type 0
From {X} f source k xs a = (j : ℕ) × (x : X) × (slice_get xs j ≡ Some x) × (source (k + j) ≡ a.0) × Among (f x) a.1

at_source : {X : Type 0} (f : X → List Point) (p : Point) (x : X) (a : Arrow) → Among (to_all p (f x)) a → (p ≡ a.0) × Among (f x) a.1
at_source f p x a h = let o = among_map (λ q. (p, q)) (f x) a h in (ap (λ (b : Arrow). b.0) o.2, subst (λ (b : Arrow). Among (f x) b.1) o.2 o.1)

pub arrows_have : {X : Type 0} (f : X → List Point) (source : ℕ → Point) (k : ℕ) (xs : List X) (a : Arrow) → Among (arrows_from f source k xs) a → From f source k xs a
arrows_have f source k [] a h = absurd h
arrows_have f source k (x ∷ xs) a h = ⊎_elim
    (λ l. let s = at_source f (source k) x a l in (0, x, refl, ap source (let e : k + 0 ≡ k = omega arith in e) ∙ s.0, s.1))
    (λ r. let s = arrows_have f source (suc k) xs a r in (suc s.0, s.1, s.2, ap source (let e : k + suc s.0 ≡ suc k + s.0 = omega arith in e) ∙ s.3, s.4))
    (among_append (to_all (source k) (f x)) (arrows_from f source (suc k) xs) a h)

some_same : {X : Type 0} (x y : X) → Some x ≡ Some y → x ≡ y
some_same x y e = cc e

pub have_arrows : {X : Type 0} (f : X → List Point) (source : ℕ → Point) (k j : ℕ) (xs : List X) (x : X) (q : Point) → slice_get xs j ≡ Some x → Among (f x) q
    → Among (arrows_from f source k xs) (source (k + j), q)
have_arrows f source k j [] x q e h = absurd (cc e)
have_arrows f source k zero (y ∷ ys) x q e h =
    among_left (to_all (source k) (f y)) (arrows_from f source (suc k) ys) (source (k + 0), q)
    (subst (λ n. Among (to_all (source k) (f y)) (source n, q)) (let i : k ≡ k + 0 = omega arith in i)
    (map_among (λ p. (source k, p)) (f y) q (subst (λ z. Among (f z) q) (sym (some_same y x e)) h)))
have_arrows f source k (suc j) (y ∷ ys) x q e h =
    among_right (to_all (source k) (f y)) (arrows_from f source (suc k) ys) (source (k + suc j), q)
    (subst (λ n. Among (arrows_from f source (suc k) ys) (source n, q)) (let i : suc k + j ≡ k + suc j = omega arith in i) (have_arrows f source (suc k) j ys x q e h))

lettered_is : (place : Place) (o : Option ℕ) (q : Point) → Among (lettered_point place o) q → is_numbered q ≡ false
lettered_is place None q h = absurd h
lettered_is place (Some n) q (inl e) = subst (λ (p : Point). is_numbered p ≡ false) e refl
lettered_is place (Some n) q (inr h) = absurd h

options_one : (file n : ℕ) (b : Bool) (rest : List Point) (q : Point) → Among (cond b (option_line file n ∷ rest) rest) q → (Among rest q → is_numbered q ≡ false) → is_numbered q ≡ false
options_one file n true rest q (inl e) more = subst (λ (p : Point). is_numbered p ≡ false) e refl
options_one file n true rest q (inr h) more = more h
options_one file n false rest q h more = more h

options_from_are : (file n : ℕ) (ls : List vb.Line) (q : Point) → Among (options_from file n ls) q → is_numbered q ≡ false
options_from_are file n [] q h = absurd h
options_from_are file n (l ∷ ls) q h = options_one file n (is_option l.form) (options_from file (suc n) ls) q h (options_from_are file (suc n) ls q)

first_options : (file : ℕ) (b : Bool) (m : Module) (ms : List Module) (q : Point) → Among (cond b (options_from file 0 (module_lines m)) (options_of file ms)) q
    → (Among (options_of file ms) q → is_numbered q ≡ false) → is_numbered q ≡ false
first_options file true m ms q h more = options_from_are file 0 (module_lines m) q h
first_options file false m ms q h more = more h

options_are : (file : ℕ) (ms : List Module) (q : Point) → Among (options_of file ms) q → is_numbered q ≡ false
options_are file [] q h = absurd h
options_are file (m ∷ ms) q h = first_options file (nat_eq m.file file) m ms q h (options_are file ms q)

pub option_ends : (D : Declarations) (a : Arrow) → Among (option_arrows D) a → (is_numbered a.0 ≡ true) × (is_numbered a.1 ≡ false)
option_ends D a h = ⊎_elim
    (λ l. let s = arrows_have lettered_of variable 0 D.vars a l in (subst (λ (p : Point). is_numbered p ≡ true) s.3 refl, lettered_is s.1.place s.1.lettered a.1 s.4))
    (λ o. let s = arrows_have (options_under D.project.modules) procedure 0 D.procs a o in (subst (λ (p : Point). is_numbered p ≡ true) s.3 refl, options_are s.1.module_number D.project.modules a.1 s.4))
    (among_append (arrows_from lettered_of variable 0 D.vars) (arrows_from (options_under D.project.modules) procedure 0 D.procs) a h)
