-- What is found among the modules that have a public name is what is found among all modules.
use Rattle.std.proofs.Common.{◌≡◌, ℕ, ◌+◌, ◌<◌, Bool, true, false, cond, List, [], ◌∷◌, ◌++◌, length, take, get_or, map, refl, ap, sym, ◌∙◌, ◌≤◌, nat_eq, ◌==◌, ◌&&◌, ◌||◌, not, is_some, Global}
use Rattle.std.specs.Prelude.{Vec, Option, Some, None, find, filter_map, option_map, if◌then◌else◌}
use Rattle.std.specs.List.{cons_option, list_any}
use Rattle.std.specs.Cmp.Lexicographic.{pointwise, bytes_decides}
use Rattle.std.proofs.lemmas.Bool.{and_parts, or_parts, not-true}
use Rattle.std.proofs.lemmas.List.{map-append, take_all, take_more}
use Rattle.std.proofs.lemmas.List.Elements.{filter_map-append}
use Rattle.vb_tree.specs.Tree.{Module}
use Rattle.bound_tree.specs.declared.declared.Named.{Named}
use Rattle.bound_tree.specs.declared.declared.NamedEntry.{NamedEntry}
use Rattle.bound_tree.specs.declared.declared.Scope.{Scope}
use Rattle.bound_tree.specs.declared.declared.Scope.TheVariants as scope
use Rattle.bound_tree.specs.Tree.{Declarations}
use Rattle.indexmap.specs.IndexMap.{IndexMap}
use Rattle.name_tables.specs.declared.homes.Home.{Home}
use Rattle.name_tables.specs.declared.uses.Kinds.{Kinds}
use Rattle.name_tables.specs.declared.uses.Use6.{Use6}
use Rattle.name_tables.specs.declared.uses.Use6.TheVariants as use6
use Rattle.name_tables.specs.Homes.{foreign_at, home_in, home_of, homes_of, is_class_constant, is_public_at, is_public_name, list_in, lists_noted}
use Rattle.name_tables.specs.Places.{noted}
use Rattle.name_tables.specs.Rows.{public_file_of}
use Rattle.name_tables.specs.Scopes.{first_named, first_of, foreign_in, has_constant_in, has_key, if_fits, in_module, is_public_in, joined, member_named, some_enum_member, the_only}
use Rattle.name_tables.proofs.WordMaps.{eq_symm}

-- ---- lists of what there is

abbrev behind : {Y Z : Type 0} → Option Y → (Y → Option Z) → Option Z
behind None g = None
behind (Some y) g = g y

through_one : {X Y Z : Type 0} (f : X → Option Y) (g : Y → Option Z) (h : X → Option Z) (x : X) (xs : List X) (o : Option Y) → behind o g ≡ h x
    → filter_map g (filter_map f xs) ≡ filter_map h xs → filter_map g (cons_option o (filter_map f xs)) ≡ cons_option (h x) (filter_map h xs)
through_one f g h x xs None e rest = rest ∙ ap (λ r. cons_option r (filter_map h xs)) e
through_one f g h x xs (Some y) e rest = ap (cons_option (g y)) rest ∙ ap (λ r. cons_option r (filter_map h xs)) e

through : {X Y Z : Type 0} (f : X → Option Y) (g : Y → Option Z) (h : X → Option Z) → ((x : X) → behind (f x) g ≡ h x) → (xs : List X) → filter_map g (filter_map f xs) ≡ filter_map h xs
through f g h same [] = refl
through f g h same (x ∷ xs) = through_one f g h x xs (f x) (same x) (through f g h same xs)

abbrev holds : {Y : Type 0} → Option Y → (Y → Bool) → Bool
holds None p = false
holds (Some y) p = p y

any_through_one : {X Y : Type 0} (f : X → Option Y) (p : Y → Bool) (q : X → Bool) (x : X) (xs : List X) (o : Option Y) → holds o p ≡ q x
    → list_any p (filter_map f xs) ≡ list_any q xs → list_any p (cons_option o (filter_map f xs)) ≡ (q x || list_any q xs)
any_through_one f p q x xs None e rest = rest ∙ ap (λ b. b || list_any q xs) e
any_through_one f p q x xs (Some y) e rest = ap (λ b. p y || b) rest ∙ ap (λ b. b || list_any q xs) e

any_through : {X Y : Type 0} (f : X → Option Y) (p : Y → Bool) (q : X → Bool) → ((x : X) → holds (f x) p ≡ q x) → (xs : List X) → list_any p (filter_map f xs) ≡ list_any q xs
any_through f p q same [] = refl
any_through f p q same (x ∷ xs) = any_through_one f p q x xs (f x) (same x) (any_through f p q same xs)

-- one item more
pub filtered_more : {X Y : Type 0} (f : X → Option Y) (xs : List X) (i : ℕ) (d : X) → i < length xs → filter_map f (take (i + 1) xs) ≡ filter_map f (take i xs) ++ cons_option (f (get_or xs i d)) []
filtered_more f xs i d h = ap (filter_map f) (take_more xs i d h) ∙ filter_map-append f (take i xs) (get_or xs i d ∷ [])

pub filtered_step : {M X Y : Type 0} (f : X → Option Y) (g : M → X) (ms : List M) (i : ℕ) (m : M) (old new : List Y) (o : Option Y) → i < length ms → m ≡ get_or ms i m
    → old ≡ filter_map f (map g (take i ms)) → o ≡ f (g m) → new ≡ old ++ cons_option o [] → new ≡ filter_map f (map g (take (i + 1) ms))
filtered_step f g ms i m old new o h here before made e =
    e ∙ ap (λ y. old ++ cons_option y []) (made ∙ ap (λ n. f (g n)) here) ∙ ap (λ ys. ys ++ cons_option (f (g (get_or ms i m))) []) before
    ∙ sym (ap (λ ns. filter_map f (map g ns)) (take_more ms i m h) ∙ ap (filter_map f) (map-append g (take i ms) (get_or ms i m ∷ []))
    ∙ filter_map-append f (map g (take i ms)) (g (get_or ms i m) ∷ []))

-- ---- names that all modules see, from another module

seen_elsewhere : (D : Declarations) (from file : ℕ) (key : List ℕ) → (file == from) ≡ false → member_named D from file key ≡ first_named (is_public_at file key) D.names
seen_elsewhere D from file key e =
    ap (λ b. first_named (λ (n : NamedEntry). (if b then in_module file n.scope else is_public_in file n.scope) && has_key key n.name) D.names)
    (eq_symm from file ∙ e)

at_home : (D : Declarations) (k : Kinds) (from : ℕ) (m : Module) (o : Option Named)
    → behind (option_map (home_of D m) o) (foreign_at D k from) ≡ (if m.class || m.file == from then None else option_map (use6.Foreign m.file) (if_fits D k o))
at_home D k from m None = by (m.class || m.file == from)
  where
    by : (b : Bool) → None ≡ (if b then None else option_map (use6.Foreign m.file) (if_fits D k None))
    by true = refl
    by false = refl
at_home D k from m (Some n) = refl

foreign_home : (D : Declarations) (k : Kinds) (from : ℕ) (key : List ℕ) (m : Module) → behind (home_in D key m) (foreign_at D k from) ≡ foreign_in D k from key m
foreign_home D k from key m = at_home D k from m (first_named (is_public_at m.file key) D.names) ∙ by (m.class || m.file == from) refl
  where
    by : (b : Bool) → (m.class || m.file == from) ≡ b
        → (if b then None else option_map (use6.Foreign m.file) (if_fits D k (first_named (is_public_at m.file key) D.names)))
        ≡ (if b then None else option_map (use6.Foreign m.file) (if_fits D k (member_named D from m.file key)))
    by true e = refl
    by false e =
        ap (λ o. option_map (use6.Foreign m.file) (if_fits D k o)) (sym (seen_elsewhere D from m.file key (or_parts m.class (m.file == from) e).1))

pub foreign_homes : (D : Declarations) (k : Kinds) (from : ℕ) (key : List ℕ) → filter_map (foreign_at D k from) (homes_of D key) ≡ filter_map (foreign_in D k from key) D.project.modules
foreign_homes D k from key = through (home_in D key) (foreign_at D k from) (foreign_in D k from key) (foreign_home D k from key) D.project.modules

constant_at : (D : Declarations) (from : ℕ) (m : Module) (o : Option Named)
    → holds (option_map (home_of D m) o) (is_class_constant from) ≡ ((m.class && not (m.file == from)) && some_enum_member D o)
constant_at D from m None = by (m.class && not (m.file == from))
  where
    by : (b : Bool) → false ≡ (b && false)
    by true = refl
    by false = refl
constant_at D from m (Some n) = refl

constant_home : (D : Declarations) (from : ℕ) (key : List ℕ) (m : Module) → holds (home_in D key m) (is_class_constant from) ≡ has_constant_in D from key m
constant_home D from key m = constant_at D from m (first_named (is_public_at m.file key) D.names) ∙ by (m.class && not (m.file == from)) refl
  where
    by : (b : Bool) → (m.class && not (m.file == from)) ≡ b
        → (b && some_enum_member D (first_named (is_public_at m.file key) D.names)) ≡ (b && some_enum_member D (member_named D from m.file key))
    by false e = refl
    by true e =
        ap (some_enum_member D) (sym (seen_elsewhere D from m.file key (not-true (m.file == from) (and_parts m.class (not (m.file == from)) e).1)))

pub constant_homes : (D : Declarations) (from : ℕ) (key : List ℕ) → list_any (is_class_constant from) (homes_of D key) ≡ list_any (has_constant_in D from key) D.project.modules
constant_homes D from key = any_through (home_in D key) (is_class_constant from) (has_constant_in D from key) (constant_home D from key) D.project.modules

-- ---- the only one

only_more : (us : List Use6) (u : Option Use6) → the_only (us ++ cons_option u []) ≡ joined (the_only us) u
only_more [] None = refl
only_more [] (Some u) = refl
only_more (v ∷ []) None = refl
only_more (v ∷ []) (Some u) = refl
only_more (v ∷ w ∷ us) None = refl
only_more (v ∷ w ∷ us) (Some u) = refl

pub only_step : {X : Type 0} (f : X → Option Use6) (xs : List X) (i : ℕ) (d : X) (old new : Option Use6) → i < length xs → old ≡ the_only (filter_map f (take i xs))
    → new ≡ joined old (f (get_or xs i d)) → new ≡ the_only (filter_map f (take (i + 1) xs))
only_step f xs i d old new h o n =
    n ∙ ap (λ p. joined p (f (get_or xs i d))) o
    ∙ sym (only_more (filter_map f (take i xs)) (f (get_or xs i d))) ∙ ap the_only (sym (filtered_more f xs i d h))

-- ---- names that no module shows

find_none : {X : Type 0} (p q : X → Bool) → ((x : X) → p x ≡ false → q x ≡ false) → (xs : List X) → list_any p xs ≡ false → find q xs ≡ None
find_none p q fewer [] e = refl
find_none p q fewer (x ∷ xs) e =
    let parts = or_parts (p x) (list_any p xs) e in
    ap (λ b. cond b (Some x) (find q xs)) (fewer x parts.0) ∙ find_none p q fewer xs parts.1

public_there : (file : ℕ) (key : List ℕ) (n : NamedEntry) → is_public_name key n ≡ false → is_public_at file key n ≡ false
public_there file key n = by n.scope (has_key key n.name)
  where
    by : (s : Scope) (b : Bool) → (is_some (public_file_of s) && b) ≡ false → (is_public_in file s && b) ≡ false
    by (scope.Local p) b e = refl
    by (scope.Private f) b e = refl
    by (scope.Public f) true e = cc
    by (scope.Public f) false e = off (f == file)
      where
        off : (b : Bool) → (b && false) ≡ false
        off true = refl
        off false = refl

filter_none : {X Y : Type 0} (f : X → Option Y) → ((x : X) → f x ≡ None) → (xs : List X) → filter_map f xs ≡ []
filter_none f none [] = refl
filter_none f none (x ∷ xs) = ap (λ o. cons_option o (filter_map f xs)) (none x) ∙ filter_none f none xs

no_homes : (D : Declarations) (key : List ℕ) → list_any (is_public_name key) D.names ≡ false → homes_of D key ≡ []
no_homes D key e =
    filter_none (home_in D key)
    (λ (m : Module). ap (λ (o : Option NamedEntry). option_map (home_of D m) (option_map (λ (n : NamedEntry). n.named) o)) (find_none (is_public_name key) (is_public_at m.file key) (public_there m.file key) D.names e))
    D.project.modules

listed : (o : Option (Vec Home Global)) (D : Declarations) (key : List ℕ) (b : Bool) → list_any (is_public_name key) D.names ≡ b
    → option_map (λ (v : Vec Home Global). v.items) o ≡ cond b (Some (homes_of D key)) None → list_in o ≡ homes_of D key
listed None D key true e h = cc
listed None D key false e h = sym (no_homes D key e)
listed (Some v) D key true e h = cc
listed (Some v) D key false e h = cc

pub homes_listed : {S : Type 0} (m : IndexMap (Vec ℕ Global) (Vec Home Global) S) (D : Declarations) (key : List ℕ)
    → lists_noted m key ≡ cond (list_any (is_public_name key) D.names) (Some (homes_of D key)) None → list_in (noted m key) ≡ homes_of D key
homes_listed m D key h = listed (noted m key) D key (list_any (is_public_name key) D.names) refl h

-- ---- noting them

-- what is noted under a word is what is noted under each key that is the word
pub list_added : (o n : Option (Vec Home Global)) (word key : List ℕ) (v : Vec Home Global) (D : Declarations) → v.items ≡ homes_of D word
    → n ≡ first_of o (cond (pointwise nat_eq word key) (Some v) None)
    → option_map (λ (w : Vec Home Global). w.items) n ≡ first_of (option_map (λ (w : Vec Home Global). w.items) o) (cond (pointwise nat_eq word key) (Some (homes_of D key)) None)
list_added (Some w) n word key v D made e = ap (option_map (λ (w : Vec Home Global). w.items)) e
list_added None n word key v D made e = ap (option_map (λ (w : Vec Home Global). w.items)) e ∙ by (pointwise nat_eq word key) refl
  where
    by : (b : Bool) → pointwise nat_eq word key ≡ b → option_map (λ (w : Vec Home Global). w.items) (cond b (Some v) None) ≡ cond b (Some (homes_of D key)) None
    by true s = ap Some (made ∙ ap (homes_of D) ((bytes_decides word key).0 s))
    by false s = refl

pub any_end : {X Z : Type 0} (p : X → Bool) (xs : List X) (i : ℕ) (z : Z) → length xs ≤ i → cond (list_any p (take i xs)) (Some z) None ≡ cond (list_any p xs) (Some z) None
any_end p xs i z h = ap (λ ys. cond (list_any p ys) (Some z) None) (take_all i xs h)
