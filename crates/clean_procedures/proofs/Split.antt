-- Each arrow is a link between points that have numbers or leads to an Option or a Def line.
use Rattle.std.proofs.Common.{◌≡◌, ℕ, ◌+◌, suc, List, [], ◌∷◌, ◌++◌, map, refl, ap, sym, subst, inl, inr, ⊎_elim}
use Rattle.std.specs.Prelude.{◌⊎◌, option_to_list}
use Rattle.std.specs.List.{flat_map}
use Rattle.std.proofs.lemmas.List.{map-append}
use Rattle.vb_tree.specs.Tree.{Module}
use Rattle.bound_tree.specs.Tree.{Line, Variable, Procedure, Declarations, Program}
use Rattle.bound_facts.specs.Calls.{calls, line_calls}
use Rattle.bound_facts.specs.Clean.{Arrow, Point, procedure, variable, user_type, arrows, call_arrow, constant_arrows, created_points, lettered_point, line_arrows, mentioned, options_of, owner_point, procedure_arrows, to_all, type_arrows, variable_arrows}
use Rattle.bound_facts.specs.Items.{items_from, project_items}
use Rattle.bound_facts.specs.Locks.{user_in}
use Rattle.bound_facts.specs.Parts.{line_uses}
use Rattle.clean_procedures.proofs.Among.{Among, among_append, among_left, among_right, among_flat, flat_among}
use Rattle.clean_procedures.proofs.Links.{body_links, captured_links, declared_links, items_map, line_links, links, mention_links, variable_link, variable_links}

-- ---- arrows to Option and Def lines, from those that are numbered from k

abbrev pub arrows_from : {X : Type 0} → (X → List Point) → (ℕ → Point) → ℕ → List X → List Arrow
arrows_from f source k [] = []
arrows_from f source k (x ∷ xs) = to_all (source k) (f x) ++ arrows_from f source (suc k) xs

abbrev pub lettered_of : Variable → List Point
lettered_of v = lettered_point v.place v.lettered

abbrev pub options_under : List Module → Procedure → List Point
options_under ms p = options_of p.module_number ms

abbrev pub option_arrows : Declarations → List Arrow
option_arrows D = arrows_from lettered_of variable 0 D.vars ++ arrows_from (options_under D.project.modules) procedure 0 D.procs

-- ---- lists of two parts

map_split : {X Y : Type 0} (f : X → Y) (xs ys : List X) (y : Y) → Among (map f (xs ++ ys)) y → Among (map f xs) y ⊎ Among (map f ys) y
map_split f xs ys y h = among_append (map f xs) (map f ys) y (subst (λ zs. Among zs y) (map-append f xs ys) h)

map_left : {X Y : Type 0} (f : X → Y) (xs ys : List X) (y : Y) → Among (map f xs) y → Among (map f (xs ++ ys)) y
map_left f xs ys y h = subst (λ zs. Among zs y) (sym (map-append f xs ys)) (among_left (map f xs) (map f ys) y h)

map_right : {X Y : Type 0} (f : X → Y) (xs ys : List X) (y : Y) → Among (map f ys) y → Among (map f (xs ++ ys)) y
map_right f xs ys y h = subst (λ zs. Among zs y) (sym (map-append f xs ys)) (among_right (map f xs) (map f ys) y h)

-- ---- lines

items_mono : {X : Type 0} (f g : ℕ → Line → List X) (i : ℕ) (bodies : List (List Line)) (x : X) → ((k : ℕ) (l : Line) → Among (f k l) x → Among (g k l) x)
    → Among (items_from f i bodies) x → Among (items_from g i bodies) x
items_mono f g i [] x more h = absurd h
items_mono f g i (lines ∷ rest) x more h = ⊎_elim
    (λ p. let m = among_flat (f i) lines x p in among_left (flat_map (g i) lines) (items_from g (i + 1) rest) x (flat_among (g i) lines m.0 x m.1 (more i m.0 m.2)))
    (λ q. among_right (flat_map (g i) lines) (items_from g (i + 1) rest) x (items_mono f g (i + 1) rest x more q))
    (among_append (flat_map (f i) lines) (items_from f (i + 1) rest) x h)

items_split : {X : Type 0} (f g h : ℕ → Line → List X) (i : ℕ) (bodies : List (List Line)) (x : X) → ((k : ℕ) (l : Line) → Among (f k l) x → Among (g k l) x ⊎ Among (h k l) x)
    → Among (items_from f i bodies) x → Among (items_from g i bodies) x ⊎ Among (items_from h i bodies) x
items_split f g h i [] x each a = absurd a
items_split f g h i (lines ∷ rest) x each a = ⊎_elim
    (λ p. let m = among_flat (f i) lines x p in ⊎_elim
    (λ l. inl (among_left (flat_map (g i) lines) (items_from g (i + 1) rest) x (flat_among (g i) lines m.0 x m.1 l)))
    (λ r. inr (among_left (flat_map (h i) lines) (items_from h (i + 1) rest) x (flat_among (h i) lines m.0 x m.1 r)))
    (each i m.0 m.2))
    (λ q. ⊎_elim
    (λ l. inl (among_right (flat_map (g i) lines) (items_from g (i + 1) rest) x l))
    (λ r. inr (among_right (flat_map (h i) lines) (items_from h (i + 1) rest) x r))
    (items_split f g h (i + 1) rest x each q))
    (among_append (flat_map (f i) lines) (items_from f (i + 1) rest) x a)

-- the calls of a line, the objects that it makes and what it names
abbrev line_called : Declarations → ℕ → Line → List Arrow
line_called D i l = map call_arrow (line_calls D i l)

abbrev line_made : Declarations → Line → List Point
line_made D l = flat_map (created_points D) (line_uses l)

abbrev line_named : Declarations → Line → List Point
line_named D l = flat_map (mentioned D) l.bindings.mentions

called_link : (D : Declarations) (i : ℕ) (l : Line) (a : Arrow) → Among (line_called D i l) a → Among (line_links D i l) a
called_link D i l a h =
    among_left (line_called D i l ++ to_all (procedure i) (line_made D l)) (to_all (procedure i) (line_named D l)) a
    (among_left (line_called D i l) (to_all (procedure i) (line_made D l)) a h)

line_link : (D : Declarations) (i : ℕ) (l : Line) (a : Arrow) → Among (line_arrows D i l) a → Among (line_links D i l) a
line_link D i l a h =
    let calls = line_called D i l in
    let makes = to_all (procedure i) (line_made D l) in
    let names = to_all (procedure i) (line_named D l) in
    ⊎_elim (λ n. among_right (calls ++ makes) names a n) (λ m. among_left (calls ++ makes) names a (among_right calls makes a m))
    (map_split (λ q. (procedure i, q)) (line_named D l) (line_made D l) a h)

link_of_line : (D : Declarations) (i : ℕ) (l : Line) (a : Arrow) → Among (line_links D i l) a → Among (line_called D i l) a ⊎ Among (line_arrows D i l) a
link_of_line D i l a h =
    let calls = line_called D i l in
    let makes = to_all (procedure i) (line_made D l) in
    let names = to_all (procedure i) (line_named D l) in
    ⊎_elim
    (λ p. ⊎_elim (λ c. inl c) (λ m. inr (map_right (λ q. (procedure i, q)) (line_named D l) (line_made D l) a m)) (among_append calls makes a p))
    (λ n. inr (map_left (λ q. (procedure i, q)) (line_named D l) (line_made D l) a n)) (among_append (calls ++ makes) names a h)

all_called : (P : Program) (a : Arrow) → Among (map call_arrow (calls P)) a → Among (project_items (line_called P.declarations) P.bodies) a
all_called P a h = subst (λ (xs : List Arrow). Among xs a) (sym (items_map call_arrow (line_calls P.declarations) 0 P.bodies)) h

called_all : (P : Program) (a : Arrow) → Among (project_items (line_called P.declarations) P.bodies) a → Among (map call_arrow (calls P)) a
called_all P a h = subst (λ (xs : List Arrow). Among xs a) (items_map call_arrow (line_calls P.declarations) 0 P.bodies) h

-- ---- variables

abbrev variable_owners : ℕ → Variable → List Arrow
variable_owners k v = map (λ p. (p, variable k)) (owner_point v.owner)

abbrev variable_types : Variable → List Point
variable_types v = map user_type (option_to_list (user_in v.named))

abbrev variable_all : ℕ → Variable → List Arrow
variable_all k v = variable_owners k v ++ to_all (variable k) (variable_types v ++ lettered_of v)

variable_arrow : (k : ℕ) (vs : List Variable) (a : Arrow) → Among (variable_arrows k vs) a → Among (variable_links k vs) a ⊎ Among (arrows_from lettered_of variable k vs) a
variable_arrow k [] a h = absurd h
variable_arrow k (v ∷ vs) a h = ⊎_elim
    (λ p. ⊎_elim
    (λ o. inl (among_left (variable_link k v) (variable_links (suc k) vs) a (among_left (variable_owners k v) (to_all (variable k) (variable_types v)) a o)))
    (λ t. ⊎_elim
    (λ u. inl (among_left (variable_link k v) (variable_links (suc k) vs) a (among_right (variable_owners k v) (to_all (variable k) (variable_types v)) a u)))
    (λ l. inr (among_left (to_all (variable k) (lettered_of v)) (arrows_from lettered_of variable (suc k) vs) a l))
    (map_split (λ q. (variable k, q)) (variable_types v) (lettered_of v) a t))
    (among_append (variable_owners k v) (to_all (variable k) (variable_types v ++ lettered_of v)) a p))
    (λ r. ⊎_elim
    (λ l. inl (among_right (variable_link k v) (variable_links (suc k) vs) a l))
    (λ o. inr (among_right (to_all (variable k) (lettered_of v)) (arrows_from lettered_of variable (suc k) vs) a o))
    (variable_arrow (suc k) vs a r))
    (among_append (variable_all k v) (variable_arrows (suc k) vs) a h)

variable_of_link : (k : ℕ) (vs : List Variable) (a : Arrow) → Among (variable_links k vs) a → Among (variable_arrows k vs) a
variable_of_link k [] a h = absurd h
variable_of_link k (v ∷ vs) a h = ⊎_elim
    (λ p. among_left (variable_all k v) (variable_arrows (suc k) vs) a (⊎_elim
    (λ o. among_left (variable_owners k v) (to_all (variable k) (variable_types v ++ lettered_of v)) a o)
    (λ t. among_right (variable_owners k v) (to_all (variable k) (variable_types v ++ lettered_of v)) a (map_left (λ q. (variable k, q)) (variable_types v) (lettered_of v) a t))
    (among_append (variable_owners k v) (to_all (variable k) (variable_types v)) a p)))
    (λ r. among_right (variable_all k v) (variable_arrows (suc k) vs) a (variable_of_link (suc k) vs a r))
    (among_append (variable_link k v) (variable_links (suc k) vs) a h)

variable_of_letter : (k : ℕ) (vs : List Variable) (a : Arrow) → Among (arrows_from lettered_of variable k vs) a → Among (variable_arrows k vs) a
variable_of_letter k [] a h = absurd h
variable_of_letter k (v ∷ vs) a h = ⊎_elim
    (λ l. among_left (variable_all k v) (variable_arrows (suc k) vs) a
    (among_right (variable_owners k v) (to_all (variable k) (variable_types v ++ lettered_of v)) a (map_right (λ q. (variable k, q)) (variable_types v) (lettered_of v) a l)))
    (λ r. among_right (variable_all k v) (variable_arrows (suc k) vs) a (variable_of_letter (suc k) vs a r))
    (among_append (to_all (variable k) (lettered_of v)) (arrows_from lettered_of variable (suc k) vs) a h)

procedures_are : (ms : List Module) (k : ℕ) (ps : List Procedure) → procedure_arrows ms k ps ≡ arrows_from (options_under ms) procedure k ps
procedures_are ms k [] = refl
procedures_are ms k (p ∷ ps) = ap (λ (xs : List Arrow). to_all (procedure k) (options_of p.module_number ms) ++ xs) (procedures_are ms (suc k) ps)

-- ---- all arrows, from the first parts on

abbrev lines_of : Program → List Arrow
lines_of P = map call_arrow (calls P) ++ project_items (line_arrows P.declarations) P.bodies

abbrev with_variables : Program → List Arrow
with_variables P = lines_of P ++ variable_arrows 0 P.declarations.vars

abbrev with_constants : Program → List Arrow
with_constants P = with_variables P ++ constant_arrows 0 P.declarations.consts

abbrev with_types : Program → List Arrow
with_types P = with_constants P ++ type_arrows 0 P.declarations.types

abbrev option_procedures : Program → List Arrow
option_procedures P = procedure_arrows P.declarations.project.modules 0 P.declarations.procs

abbrev with_options : Program → List Arrow
with_options P = with_types P ++ option_procedures P

-- the links from the last parts on
abbrev type_links : Declarations → List Arrow
type_links D = constant_arrows 0 D.consts ++ type_arrows 0 D.types

of_lines : (P : Program) (a : Arrow) → Among (lines_of P) a → Among (body_links P) a
of_lines P a h =
    let D = P.declarations in
    ⊎_elim (λ c. items_mono (line_called D) (line_links D) 0 P.bodies a (λ k l. called_link D k l a) (all_called P a c)) (λ l. items_mono (line_arrows D) (line_links D) 0 P.bodies a (λ k m. line_link D k m a) l)
    (among_append (map call_arrow (calls P)) (project_items (line_arrows D) P.bodies) a h)

lines_have : (P : Program) (a : Arrow) → Among (body_links P) a → Among (lines_of P) a
lines_have P a h =
    let D = P.declarations in
    ⊎_elim (λ c. among_left (map call_arrow (calls P)) (project_items (line_arrows D) P.bodies) a (called_all P a c)) (λ l. among_right (map call_arrow (calls P)) (project_items (line_arrows D) P.bodies) a l)
    (items_split (line_links D) (line_called D) (line_arrows D) 0 P.bodies a (λ k l. link_of_line D k l a) h)

in_types : (P : Program) (a : Arrow) → Among (type_links P.declarations) a → Among (mention_links P) a
in_types P a h = among_right (body_links P) (declared_links P.declarations) a (among_right (variable_links 0 P.declarations.vars) (type_links P.declarations) a h)

of_variables : (P : Program) (a : Arrow) → Among (variable_arrows 0 P.declarations.vars) a → Among (mention_links P) a ⊎ Among (option_arrows P.declarations) a
of_variables P a h =
    let D = P.declarations in
    ⊎_elim
    (λ l. inl (among_right (body_links P) (declared_links D) a (among_left (variable_links 0 D.vars) (type_links D) a l)))
    (λ o. inr (among_left (arrows_from lettered_of variable 0 D.vars) (arrows_from (options_under D.project.modules) procedure 0 D.procs) a o)) (variable_arrow 0 D.vars a h)

of_procedures : (P : Program) (a : Arrow) → Among (option_procedures P) a → Among (option_arrows P.declarations) a
of_procedures P a h =
    let D = P.declarations in
    among_right (arrows_from lettered_of variable 0 D.vars) (arrows_from (options_under D.project.modules) procedure 0 D.procs) a
    (subst (λ (xs : List Arrow). Among xs a) (procedures_are D.project.modules 0 D.procs) h)

of_mentions : (P : Program) (a : Arrow) → Among (with_options P) a → Among (mention_links P) a ⊎ Among (option_arrows P.declarations) a
of_mentions P a h =
    let D = P.declarations in
    ⊎_elim
    (λ t. ⊎_elim
    (λ c. ⊎_elim
    (λ v. ⊎_elim
    (λ b. inl (among_left (body_links P) (declared_links D) a (of_lines P a b))) (of_variables P a) (among_append (lines_of P) (variable_arrows 0 D.vars) a v))
    (λ k. inl (in_types P a (among_left (constant_arrows 0 D.consts) (type_arrows 0 D.types) a k)))
    (among_append (with_variables P) (constant_arrows 0 D.consts) a c))
    (λ u. inl (in_types P a (among_right (constant_arrows 0 D.consts) (type_arrows 0 D.types) a u)))
    (among_append (with_constants P) (type_arrows 0 D.types) a t))
    (λ o. inr (of_procedures P a o)) (among_append (with_types P) (option_procedures P) a h)

pub arrow_is : (P : Program) (a : Arrow) → Among (arrows P) a → Among (links P) a ⊎ Among (option_arrows P.declarations) a
arrow_is P a h =
    let captured = captured_links P.declarations in
    ⊎_elim
    (λ m. ⊎_elim (λ l. inl (among_left (mention_links P) captured a l)) (λ o. inr o) (of_mentions P a m)) (λ c. inl (among_right (mention_links P) captured a c))
    (among_append (with_options P) captured a h)

of_with_options : (P : Program) (a : Arrow) → Among (with_options P) a → Among (arrows P) a
of_with_options P a h = among_left (with_options P) (captured_links P.declarations) a h

of_with_types : (P : Program) (a : Arrow) → Among (with_types P) a → Among (arrows P) a
of_with_types P a h = of_with_options P a (among_left (with_types P) (option_procedures P) a h)

of_with_constants : (P : Program) (a : Arrow) → Among (with_constants P) a → Among (arrows P) a
of_with_constants P a h = of_with_types P a (among_left (with_constants P) (type_arrows 0 P.declarations.types) a h)

of_with_variables : (P : Program) (a : Arrow) → Among (with_variables P) a → Among (arrows P) a
of_with_variables P a h = of_with_constants P a (among_left (with_variables P) (constant_arrows 0 P.declarations.consts) a h)

mention_is : (P : Program) (a : Arrow) → Among (mention_links P) a → Among (arrows P) a
mention_is P a h =
    let D = P.declarations in
    ⊎_elim
    (λ b. of_with_variables P a (among_left (lines_of P) (variable_arrows 0 D.vars) a (lines_have P a b)))
    (λ d. ⊎_elim
    (λ v. of_with_variables P a (among_right (lines_of P) (variable_arrows 0 D.vars) a (variable_of_link 0 D.vars a v)))
    (λ t. ⊎_elim
    (λ c. of_with_constants P a (among_right (with_variables P) (constant_arrows 0 D.consts) a c))
    (λ u. of_with_types P a (among_right (with_constants P) (type_arrows 0 D.types) a u))
    (among_append (constant_arrows 0 D.consts) (type_arrows 0 D.types) a t))
    (among_append (variable_links 0 D.vars) (type_links D) a d))
    (among_append (body_links P) (declared_links D) a h)

pub link_is : (P : Program) (a : Arrow) → Among (links P) a → Among (arrows P) a
link_is P a h =
    let captured = captured_links P.declarations in
    ⊎_elim (mention_is P a) (λ c. among_right (with_options P) captured a c) (among_append (mention_links P) captured a h)

pub option_is : (P : Program) (a : Arrow) → Among (option_arrows P.declarations) a → Among (arrows P) a
option_is P a h =
    let D = P.declarations in
    ⊎_elim
    (λ l. of_with_variables P a (among_right (lines_of P) (variable_arrows 0 D.vars) a (variable_of_letter 0 D.vars a l)))
    (λ o. of_with_options P a (among_right (with_types P) (option_procedures P) a (subst (λ (xs : List Arrow). Among xs a) (sym (procedures_are D.project.modules 0 D.procs)) o)))
    (among_append (arrows_from lettered_of variable 0 D.vars) (arrows_from (options_under D.project.modules) procedure 0 D.procs) a h)
