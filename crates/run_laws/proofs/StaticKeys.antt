-- The Statics of a covered procedure: each has the key of its place among the declarations, and the target's frame has it by its name.
use Rattle.std.proofs.Common.{◌≡◌, ◌∙◌, refl, sym, ap, subst, inl, inr, ℕ, zero, suc, ◌+◌, Bool, true, false, cond, not, nat_eq, nat_lt, length, true≢false, Option, Some, None, option_map, List, [], ◌∷◌, ◌++◌, map, arith}
use Rattle.std.specs.Prelude.{slice_get, option_and_then, position}
use Rattle.std.specs.List.{prefix_len}
use Rattle.std.proofs.lemmas.Bool.{eqb-true}
use Rattle.std.proofs.lemmas.Bool.Decides.{nat_tests}
use Rattle.up_base.specs.Names.{is_same_name}
use Rattle.up_base.proofs.Tests.{both_true, not_true, neither}
use Rattle.bound_tree.specs.Tree.{Constant, Declarations, Variable}
use Rattle.net_tree.specs.Tree as net_tree
use Rattle.vb6_run.specs.Programs.{is_static_of, owned_from}
use Rattle.vb6_run.specs.Store.{Address}
use Rattle.net_run.specs.Members.{Code}
use Rattle.net_run.specs.Names.{var_in}
use Rattle.net_run.specs.Program.{static_key, static_root}
use Rattle.net_run.specs.Store as net
use Rattle.vb_tree.specs.declared.declared.Owner.{Owner}
use Rattle.vb_tree.specs.declared.declared.Owner.TheVariants as owner
use Rattle.written_trees.specs.Names.{Scope}
use Rattle.written_trees.specs.Prologues.{is_static}
use Rattle.run_matches.specs.CoveredVariables.{are_different, is_named_in}
use Rattle.run_matches.specs.Frames.{dim_name}
use Rattle.run_matches.specs.Maps.{World}
use Rattle.run_matches.specs.Pledges.{Pledge}
use Rattle.run_matches.specs.Shared.{others_differ}
use Rattle.run_matches.specs.Sites.{Own, own_constant, own_name, own_variable, static_numbers}
use Rattle.run_matches.specs.Upgrades.{Upgrade, code_of, declared_key, is_dim_named, owned_key, static_key_in, variable_key}
use Rattle.run_statements.specs.Kept.{own_dim}
use Rattle.name_laws.proofs.Keys.{key_of_static, static_parts}
use Rattle.name_laws.proofs.Led.{differing}
use Rattle.name_laws.proofs.Lists.{Among}
use Rattle.run_laws.specs.Entered.{LocalsMatch, StaticMatch, KeyAt, AllKeyed, net_static_in, no_locals, next_constant, next_static, next_variable}
use Rattle.run_laws.proofs.Covered.{same_name, some_is}
use Rattle.name_laws.proofs.FrameNames.{own_dim_name}

-- ---- the first place of a name

abbrev AllFail : {X : Type 0} → (X → Bool) → List X → Type 0
AllFail p [] = Unit {0}
AllFail p (x ∷ xs) = (p x ≡ false) × AllFail p xs

one_more : (n : ℕ) → 1 + n ≡ suc n
one_more n = omega arith

prefix_here : {X : Type 0} (p : X → Bool) (xs : List X) (x : X) (ys : List X) → AllFail p xs → p x ≡ true
    → prefix_len (λ y. not (p y)) (xs ++ x ∷ ys) ≡ length xs
prefix_here p [] x ys h e = ap (λ b. cond (not b) (1 + prefix_len (λ y. not (p y)) ys) 0) e
prefix_here p (z ∷ xs) x ys h e =
    ap (λ b. cond (not b) (1 + prefix_len (λ y. not (p y)) (xs ++ x ∷ ys)) 0) h.0
    ∙ ap (λ n. 1 + n) (prefix_here p xs x ys h.1 e) ∙ one_more (length xs)

within : {X : Type 0} (xs : List X) (x : X) (ys : List X) → nat_lt (length xs) (length (xs ++ x ∷ ys)) ≡ true
within [] x ys = grind (arith, nat_tests)
within (z ∷ xs) x ys = let h = within xs x ys in grind (arith, nat_tests, h)

position_here : {X : Type 0} (p : X → Bool) (xs : List X) (x : X) (ys : List X) → AllFail p xs → p x ≡ true → position p (xs ++ x ∷ ys) ≡ Some (length xs)
position_here p xs x ys h e =
    ap (λ n. cond (nat_lt n (length (xs ++ x ∷ ys))) (Some n) None) (prefix_here p xs x ys h e)
    ∙ ap (λ b. cond b (Some (length xs)) None) (within xs x ys)

-- ---- names

dim_named : (d : net_tree.Dim) (name : List ℕ) → is_dim_named name d ≡ is_same_name (dim_name d) name
dim_named (net_tree.local v) name = refl
dim_named (net_tree.static_local v) name = refl
dim_named (net_tree.constant c) name = refl

-- no earlier declaration has the name of a later one
not_among : (name : List ℕ) (os : List Own) (o : Own) → is_named_in name (map own_name os) ≡ false → Among os o → is_same_name name (own_name o) ≡ false
not_among name [] o h m = absurd m
not_among name (x ∷ os) o h (inl e) =
    ap (λ (z : Own). is_same_name name (own_name z)) (sym e) ∙ (neither (is_same_name name (own_name x)) (is_named_in name (map own_name os)) h).0
not_among name (x ∷ os) o h (inr m) =
    not_among name os o (neither (is_same_name name (own_name x)) (is_named_in name (map own_name os)) h).1 m

first_differs : (o : Own) (os : List Own) → are_different (map own_name (o ∷ os)) ≡ true
    → (is_named_in (own_name o) (map own_name os) ≡ false) × (are_different (map own_name os) ≡ true)
first_differs o os h =
    let both = both_true (not (is_named_in (own_name o) (map own_name os))) (are_different (map own_name os)) h in
    (not_true (is_named_in (own_name o) (map own_name os)) both.0, both.1)

-- ---- keys

static_belongs : (o : Owner) → is_static o ≡ true → (q : ℕ) × ((p : ℕ) → is_static_of p o ≡ nat_eq p q)
    × ((U : Upgrade) (name : List ℕ) → owned_key U name o ≡ option_and_then (static_key_in name) (code_of U q))
static_belongs (owner.Static q) h = (q.0, λ p. refl, λ U name. refl)
static_belongs _ h = absurd (true≢false (sym h))

plus_none : (n : ℕ) → 0 + n ≡ n
plus_none n = omega arith

snoc_append : {X : Type 0} (ds : List X) (d : X) (rest : List X) → (ds ++ d ∷ []) ++ rest ≡ ds ++ d ∷ rest
snoc_append [] d rest = refl
snoc_append {X} (x ∷ ds) d rest = ap {B = List X} (λ zs. x ∷ zs) (snoc_append ds d rest)

snoc_length : {X : Type 0} (ds : List X) (d : X) → length (ds ++ d ∷ []) ≡ suc (length ds)
snoc_length [] d = refl
snoc_length (x ∷ ds) d = ap suc (snoc_length ds d)

snoc_fails : {X : Type 0} (p : X → Bool) (ds : List X) (d : X) → AllFail p ds → p d ≡ false → AllFail p (ds ++ d ∷ [])
snoc_fails p [] d h e = (e, tt)
snoc_fails p (x ∷ ds) d h e = (h.0, snoc_fails p ds d h.1 e)

module _ (U : Upgrade) (p : ℕ) (c : Code) (is_code : code_of U p ≡ Some c) (S : Scope) (me net_holder : Option ℕ) where
  abbrev vars : List Variable
  vars = U.program.declarations.vars

  -- what is known of each declaration
  abbrev pub IsDeclaredOwn : Own → Type 0
  IsDeclaredOwn (own_variable v x) =
      (slice_get vars v ≡ Some x)
      × (is_static x.owner ≡ true
      → (is_static_of p x.owner ≡ true) × ((i : ℕ) → static_root U.written c me i ≡ Some (net_static_in net_holder (static_key c i))))
      × (others_differ (is_static_of p) v x.name 0 vars ≡ true)
  IsDeclaredOwn (own_constant d x) = Unit {0}

  abbrev AllBefore : List net_tree.Dim → List Own → Type 0
  AllBefore ds os = (o : Own) → Among os o → AllFail (is_dim_named (own_name o)) ds

  named_here : (o : Own) → is_dim_named (own_name o) (own_dim S o) ≡ true
  named_here o = dim_named (own_dim S o) (own_name o) ∙ ap (λ n. is_same_name n (own_name o)) (own_dim_name S o) ∙ same_name (own_name o)

  before_next : (ds : List net_tree.Dim) (o : Own) (os : List Own) → AllBefore ds (o ∷ os) → is_named_in (own_name o) (map own_name os) ≡ false
      → AllBefore (ds ++ own_dim S o ∷ []) os
  before_next ds o os h other z m =
      snoc_fails (is_dim_named (own_name z)) ds (own_dim S o) (h z (inr m))
      (dim_named (own_dim S o) (own_name z) ∙ ap (λ n. is_same_name n (own_name z)) (own_dim_name S o) ∙ not_among (own_name o) os z other m)

  -- the key of a Static whose declaration stands behind these
  key_here : (ds : List net_tree.Dim) (v : ℕ) (x : Variable) (os : List Own) → c.procedure.prologue ≡ ds ++ map (own_dim S) (own_variable v x ∷ os)
      → AllFail (is_dim_named x.name) ds → IsDeclaredOwn (own_variable v x) → is_static x.owner ≡ true → KeyAt U c me net_holder (length ds) v
  key_here ds v x os e h is static =
      let of : is_static_of p x.owner ≡ true = (is.1 static).0 in
      let o = static_belongs x.owner static in
      let number : p ≡ o.0 = eqb-true p o.0 (sym (o.1 p) ∙ of) in
      let place : position (is_dim_named x.name) c.procedure.prologue ≡ Some (length ds) =
      ap (position (is_dim_named x.name)) e
      ∙ position_here (is_dim_named x.name) ds (own_dim S (own_variable v x)) (map (own_dim S) os) h (named_here (own_variable v x)) in
      let there : option_and_then (static_key_in x.name) (code_of U p) ≡ Some (static_key c (length ds)) =
      ap (option_and_then (static_key_in x.name)) is_code ∙ ap (option_map (static_key c)) place in
      let key : variable_key U v ≡ Some (static_key c (length ds)) =
      ap (declared_key U) is.0 ∙ o.2 U x.name ∙ ap (λ q. option_and_then (static_key_in x.name) (code_of U q)) (sym number) ∙ there in (
        key,
        λ u f.
            let z = key_of_static U p x.name (static_key c (length ds)) (static_parts U p x.name (static_key c (length ds)) there) u f in
            differing (is_static_of p) v x.name 0 u vars z.0 is.2 z.1 z.2 z.3 ∙ plus_none u,
        (is.1 static).1 (length ds),
      )

  pub all_keyed : (ds : List net_tree.Dim) (os : List Own) → c.procedure.prologue ≡ ds ++ map (own_dim S) os → AllBefore ds os
      → are_different (map own_name os) ≡ true → ((o : Own) → Among os o → IsDeclaredOwn o) → AllKeyed U c me net_holder (length ds) os
  all_keyed ds [] e before different is = tt
  all_keyed ds (own_variable v x ∷ os) e before different is =
      let o : Own = own_variable v x in
      let f = first_differs o os different in (
        λ static. key_here ds v x os e (before o (inl refl)) (is o (inl refl)) static,
        subst (λ n. AllKeyed U c me net_holder n os) (snoc_length ds (own_dim S o))
            (all_keyed (ds ++ own_dim S o ∷ []) os (e ∙ sym (snoc_append ds (own_dim S o) (map (own_dim S) os))) (before_next ds o os before f.0) f.1
            (λ z m. is z (inr m))),
      )
  all_keyed ds (own_constant d x ∷ os) e before different is =
      let o : Own = own_constant d x in
      let f = first_differs o os different in
      subst (λ n. AllKeyed U c me net_holder n os) (snoc_length ds (own_dim S o))
      (all_keyed (ds ++ own_dim S o ∷ []) os (e ∙ sym (snoc_append ds (own_dim S o) (map (own_dim S) os))) (before_next ds o os before f.0) f.1
      (λ z m. is z (inr m)))

-- ---- the frame of the target

pub record StaticFound (U : Upgrade) (holder : Option ℕ) (w : World) (v : ℕ) (x : Variable) (ys : List (List ℕ × net.Address)) : Type 0 where
  pub address : net.Address
  pub found : var_in ys x.name ≡ Some address
  pub match : StaticMatch U holder w v address

abbrev number_of : Own → ℕ
number_of (own_variable v x) = v
number_of (own_constant c x) = 0

abbrev variable_or : Variable → Own → Variable
variable_or y (own_variable v x) = x
variable_or y (own_constant c x) = y

module _ (U : Upgrade) (K : Pledge) (holder : Option ℕ) (w : World) (v : ℕ) (x : Variable) (static : is_static x.owner ≡ true) where
  behind : (o : Own) (b : List ℕ × net.Address) (os : List Own) (ys : List (List ℕ × net.Address)) → b.0 ≡ own_name o → is_named_in (own_name o) (map own_name os) ≡ false
      → Among os (own_variable v x) → StaticFound U holder w v x ys → StaticFound U holder w v x (b ∷ ys)
  behind o b os ys e other m f = record {
    address = f.address;
    found =
        ap (λ t. cond t (Some b.1) (var_in ys x.name)) (ap (λ n. is_same_name n x.name) e ∙ not_among (own_name o) os (own_variable v x) other m) ∙ f.found;
    match = f.match;
  }

  pub static_found : (os : List Own) (xs : List (ℕ × Address)) (ys : List (List ℕ × net.Address)) → LocalsMatch U K holder w os xs ys
      → are_different (map own_name os) ≡ true → Among os (own_variable v x) → StaticFound U holder w v x ys
  static_found _ _ _ no_locals different m = absurd m
  static_found _ _ _ (next_variable u y a b os xs ys local name l rest) different (inl e) =
      absurd (true≢false (sym static ∙ sym (ap (λ (o : Own). is_static (variable_or x o).owner) e) ∙ local))
  static_found _ _ _ (next_variable u y a b os xs ys local name l rest) different (inr m) =
      let f = first_differs (own_variable u y) os different in
      behind (own_variable u y) b os ys name f.0 m (static_found os xs ys rest f.1 m)
  static_found _ _ _ (next_static u y b os xs ys is name l rest) different (inl e) =
      let here : is_same_name b.0 x.name ≡ true =
      ap (λ n. is_same_name n x.name) (name ∙ ap (λ (o : Own). own_name o) e) ∙ same_name x.name in
      record {
        address = b.1;
        found = ap (λ t. cond t (Some b.1) (var_in ys x.name)) here;
        match = subst (λ n. StaticMatch U holder w n b.1) (ap number_of e) l;
      }
  static_found _ _ _ (next_static u y b os xs ys is name l rest) different (inr m) =
      let f = first_differs (own_variable u y) os different in
      behind (own_variable u y) b os ys name f.0 m (static_found os xs ys rest f.1 m)
  static_found _ _ _ (next_constant d y b os xs ys name rest) different (inl e) = absurd (not_constant d y e)
    where
      not_constant : (d : ℕ) (y : Constant) → own_constant d y ≡ own_variable v x → ⊥
      not_constant d y e = cc e
  static_found _ _ _ (next_constant d y b os xs ys name rest) different (inr m) =
      let f = first_differs (own_constant d y) os different in
      behind (own_constant d y) b os ys name f.0 m (static_found os xs ys rest f.1 m)

-- ---- the numbers of Statics

owned_there : (test : Owner → Bool) (k : ℕ) (xs : List Variable) (i : ℕ) (y : Variable) → slice_get xs i ≡ Some y → test y.owner ≡ true
    → Among (owned_from test k xs) (k + i)
owned_there test k [] i y e h = absurd (cc e)
owned_there test k (x ∷ xs) zero y e h =
    here (test x.owner) (ap (λ (z : Variable). test z.owner) (some_is e) ∙ h)
  where
    same : k ≡ k + 0
    same = omega arith

    here : (b : Bool) → b ≡ true → Among (cond b (k ∷ owned_from test (suc k) xs) (owned_from test (suc k) xs)) (k + 0)
    here true f = inl same
    here false f = absurd (cc f)
owned_there test k (x ∷ xs) (suc i) y e h = by (test x.owner) (owned_there test (suc k) xs i y e h)
  where
    same : suc k + i ≡ k + suc i
    same = omega arith

    by : (b : Bool) → Among (owned_from test (suc k) xs) (suc k + i) → Among (cond b (k ∷ owned_from test (suc k) xs) (owned_from test (suc k) xs)) (k + suc i)
    by true m = inr (subst (λ n. Among (owned_from test (suc k) xs) n) same m)
    by false m = subst (λ n. Among (owned_from test (suc k) xs) n) same m

-- a Static's number leads to its declaration
pub static_at : (os : List Own) (v : ℕ) → Among (static_numbers os) v → (z : Variable) × Among os (own_variable v z) × (is_static z.owner ≡ true)
static_at [] v m = absurd m
static_at (own_constant d x ∷ os) v m = let r = static_at os v m in (r.0, inr r.1, r.2)
static_at (own_variable u x ∷ os) v m = by (is_static x.owner) refl m (λ n. static_at os v n)
  where
    by : (b : Bool) → is_static x.owner ≡ b → Among (cond b (u ∷ []) [] ++ static_numbers os) v
        → (Among (static_numbers os) v → (z : Variable) × Among os (own_variable v z) × (is_static z.owner ≡ true))
        → (z : Variable) × Among (own_variable u x ∷ os) (own_variable v z) × (is_static z.owner ≡ true)
    by true e (inl f) more = (x, inl (ap (λ n. own_variable n x) f), e)
    by true e (inr n) more = let r = more n in (r.0, inr r.1, r.2)
    by false e n more = let r = more n in (r.0, inr r.1, r.2)

pub static_there : (D : Declarations) (p v : ℕ) (y : Variable) (os : List Own) → static_numbers os ≡ owned_from (is_static_of p) 0 D.vars
    → slice_get D.vars v ≡ Some y → is_static_of p y.owner ≡ true → (z : Variable) × Among os (own_variable v z) × (is_static z.owner ≡ true)
static_there D p v y os e is h =
    static_at os v
    (subst (λ ns. Among ns v) (sym e) (subst (λ n. Among (owned_from (is_static_of p) 0 D.vars) n) (plus_none v) (owned_there (is_static_of p) 0 D.vars v y is h)))
