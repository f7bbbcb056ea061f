-- The use of an As New variable makes its object where there is none, on both sides.
use Rattle.std.proofs.Common.{◌≡◌, ◌∙◌, refl, sym, ap, subst, inr, ℕ, Bool, true, false, cond, List, [], ◌∷◌, ◌++◌, codes, Some, eqb-true, true≢false}
use Rattle.std.proofs.lemmas.Bool.{eq-eqb}
use Rattle.std.specs.Prelude.{slice_get}
use Rattle.vb_tree.specs.BoundTree as types
use Rattle.vb_tree.specs.BoundTree.{Ty}
use Rattle.vb_tree.specs.declared.declared.VarId.{VarId}
use Rattle.vb_tree.specs.declared.value.Value6.{Value6}
use Rattle.vb_tree.specs.declared.value.Value6.TheVariants as v6
use Rattle.bound_tree.specs.Tree.{Declarations, Expr, typed, variable}
use Rattle.bound_facts.specs.Locks.{is_same_type}
use Rattle.bound_facts.specs.Node.{auto_class}
use Rattle.net_tree.specs.declared.declaration.NetPassing.{NetPassing}
use Rattle.net_tree.specs.declared.declaration.NetPassing.TheVariants as passing
use Rattle.net_tree.specs.Tree.{path}
use Rattle.net_meaning.specs.declared.value.ValueN.{ValueN}
use Rattle.net_meaning.specs.declared.value.ValueN.TheVariants as n
use Rattle.net_meaning.specs.ValueMatch.{Matches, no_object_of, objects_of}
use Rattle.run_base.specs.Frames.{Given, by_address}
use Rattle.run_base.specs.Outcomes.{Outcome, after, found, gives, outside, some_of, then}
use Rattle.run_base.specs.Positions.{Position}
use Rattle.vb6_run.specs.Expressions as source
use Rattle.vb6_run.specs.Expressions.{Context, at_address, declared}
use Rattle.vb6_run.specs.Forms.{SourceLine}
use Rattle.vb6_run.specs.Objects as objects
use Rattle.vb6_run.specs.Shapes.{simple}
use Rattle.vb6_run.specs.Store as store
use Rattle.vb6_run.specs.Store.{Address, root, Held, Locked, Memory, SourceCalls, SourceFrame, blank, single, table, parts, gathered, provided, single_in, value_if, with_held}
use Rattle.vb6_run.specs.Values.{Value, if_of_shape, is_of_shape, scalar}
use Rattle.net_run.specs.Calls.{Arguments, object_in, object_of_class, performed, some_function}
use Rattle.net_run.specs.Expressions as target
use Rattle.net_run.specs.Functions.{makes_object, passing_of_some, support_function}
use Rattle.net_run.specs.Lines.{NetFrame, NetLine, scope_of}
use Rattle.net_run.specs.Making as making
use Rattle.net_run.specs.Making.{Jobs}
use Rattle.net_run.specs.Members.{Code}
use Rattle.net_run.specs.Names as net_names
use Rattle.net_run.specs.Names.{Reached, at_place, called, path_start, to_support}
use Rattle.net_run.specs.Shapes as shape
use Rattle.net_run.specs.Shapes.{is_same_shape}
use Rattle.net_run.specs.Store as net
use Rattle.net_run.specs.Values as net_value
use Rattle.written_trees.specs.Conversions.{one, support_call}
use Rattle.written_trees.specs.Exprs.{exp_of, made_if}
use Rattle.written_trees.specs.Names.{Scope, auto_name, class_name, variable_path}
use Rattle.run_matches.specs.Addresses.{Same, same_item, same_root}
use Rattle.run_matches.specs.Agreeing.{Agrees}
use Rattle.run_matches.specs.Likeness.{LikeV, are_same, like_scalar}
use Rattle.run_matches.specs.Maps.{World, moved_at}
use Rattle.run_matches.specs.Match.{MemoryMatch}
use Rattle.run_matches.specs.Pledges.{Pledge}
use Rattle.run_matches.specs.Runs.{CallsAgree}
use Rattle.run_matches.specs.Upgrades.{Upgrade}
use Rattle.run_statements.specs.Members.{ObjectMatch}
use Rattle.run_statements.specs.Frames.{AnyUnits, CanMake, IsAutoOf, IsOpen, LeadsToClass, ScalarMatch, context_of}
use Rattle.run_statements.specs.Groups.{ValueMatch}
use Rattle.run_statements.specs.Objects.{IsMakeable}
use Rattle.run_statements.specs.Written.{Passes}
use Rattle.row_laws.proofs.Composing.{after_nil, then_assoc, then_gives}
use Rattle.row_laws.proofs.Support.{support_start}
use Rattle.agreeing_laws.proofs.Agreeing.{agrees_gives, left_alone, then_agrees}
use Rattle.agreeing_laws.proofs.Scalars.{scalar_later}
use Rattle.memory_laws.proofs.Autos.{autos_are_set}
use Rattle.memory_laws.proofs.Groups.{Gathered, gathered_like}
use Rattle.memory_laws.proofs.Positions.{updated_here}
use Rattle.expression_laws.specs.Calls.{Stands}
use Rattle.expression_laws.proofs.Checks.{provided_agrees}
use Rattle.expression_laws.proofs.Autos.{IsAutoHere, match_later}
use Rattle.expression_laws.proofs.NewValues.{created_agrees}
use Rattle.expression_laws.proofs.Nothings.{as_scalar}
use Rattle.expression_laws.proofs.ObjectMatches.{class_shaped, image_shaped}
use Rattle.expression_laws.proofs.UsedShapes.{auto_made}
use Rattle.expression_laws.proofs.Variables.{Checked}

-- ---- the source

other_class : (c : ℕ) (t : Ty) → is_same_type t (types.class c) ≡ true → t ≡ types.class c
other_class c (types.class d) h = ap types.class (eqb-true d c h)
other_class c _ h = absurd (true≢false (sym h))

-- an object that was written is read
module _ {A : Type 0} (locked : Locked) (c : ℕ) (z : Value6) (q : Position) (s : Memory) (go : Value → Memory → Outcome Memory A) where
  abbrev ty : Ty
  ty = types.class c

  abbrev x : Value
  x = scalar (types.class c) z

  abbrev a : Address
  a = root (simple (types.class c)) q

  abbrev Back : Outcome Memory Unit → Type 0
  Back r = then r (λ u s. then (store.read (root (simple (types.class c)) q) s) go) ≡ then r (λ u s. go (scalar (types.class c) z) s)

  held_back : (t : Ty) → is_same_type t ty ≡ true → single_in ty ((with_held q (single t z) s).held q) ≡ Some x
  held_back t e =
      ap (single_in ty) (updated_here s.held q (single t z)) ∙ ap (λ u. value_if (is_same_type ty u) (scalar u z)) (other_class c t e)
      ∙ ap (λ b. value_if b x) (eq-eqb c c refl)

  type_back : (t : Ty) (b : Bool) → is_same_type t ty ≡ b → Back (provided b (λ w. gives [] tt (with_held q (single t z) w)) s)
  type_back t false e = refl
  type_back t true e =
      ap (after []) (ap (λ o. then (found o (with_held q (single t z) s)) go) (held_back t e) ∙ after_nil (go x (with_held q (single t z) s)))

  held_by : (h : Held) → Back (store.put_single h q ty z s)
  held_by blank = refl
  held_by (single t old) = type_back t (is_same_type t ty) refl
  held_by (table e dims xs) = refl
  held_by parts = refl

  kept_by : (b : Bool) → Back (some_of (if_of_shape b x) (λ y w. store.store locked y q w) s)
  kept_by false = refl
  kept_by true = held_by (s.held q)

  pub read_back : then (store.write locked (scalar (types.class c) z) (root (simple (types.class c)) q) s)
      (λ u s. then (store.read (root (simple (types.class c)) q) s) go)
      ≡ then (store.write locked (scalar (types.class c) z) (root (simple (types.class c)) q) s) (λ u s. go (scalar (types.class c) z) s)
  read_back = kept_by (is_of_shape (simple ty) x)

-- ---- the function of the support module

-- it is the one that makes objects, of whatever class
pub auto_function : (name : List ℕ) → support_function (codes "Auto_" ++ name) ≡ Some makes_object
auto_function name = refl

-- ---- its use

-- what stands there on both sides
object_there : (U : Upgrade) (K : Pledge) (w : World) → MemoryMatch U w → (c : ℕ) (q : Position) (b : net.Address)
    → Same U K w (root (simple (types.class c)) q) b
    → (z : Value6) × (gathered (simple (types.class c)) q w.src.held ≡ Some (scalar (types.class c) z))
    × LikeV U w (scalar (types.class c) z) (net.looked_up b w.net)
object_there U K w start c q _ (same_root _ d _ sh m r) =
    let home = class_shaped U c d sh in
    let y : net_value.Value = net.gathered d (moved_at U w.map q) w.net.cell in
    let g : Gathered U w (simple (types.class c)) q y = gathered_like U w start (simple (types.class c)) q d (inr (c, home.0, refl, home.1)) sh m in
    let z : ScalarMatch U (types.class c) w g.value y = as_scalar U c w g.value y (g.of, g.like) in
    (z.0, g.is ∙ ap (λ o. Some o) z.1, z.2)

module _ (U : Upgrade) (K : Pledge) (p : ℕ) (f : SourceFrame) (g : NetFrame) (oracle : SourceCalls) (net_oracle : Jobs) (l : SourceLine) (k : NetLine)
    (c : Code) (T : Scope) (same_declarations : T.declarations ≡ U.program.declarations) (opened : IsOpen (scope_of U.written c g k))
    (agree : CallsAgree U (Passes U) oracle net_oracle) (w : World) (start : MemoryMatch U w) (stands : Stands U K w p f g) (class : ℕ) (v : VarId)
    (qualified : Bool) (r : IsAutoOf U v.0 class) (m : IsMakeable U class)
    (can : CanMake U K (scope_of U.written c g k) T class) (leads_to : LeadsToClass U (scope_of U.written c g k) T class)
    (x : IsAutoHere U K (context_of U oracle p f l) (scope_of U.written c g k) net_oracle T w class v qualified) where
  abbrev C : Context
  C = context_of U oracle p f l

  abbrev S : net_names.Scope
  S = scope_of U.written c g k

  abbrev D : Declarations
  D = U.program.declarations

  abbrev e : Expr
  e = typed (types.class class) (variable v qualified)

  abbrev name : List ℕ
  name = auto_name T.declarations class

  abbrev names : List (List ℕ)
  names = variable_path T qualified v.0

  abbrev q : Position
  q = x.match.position

  abbrev at : Address
  at = root (simple (types.class class)) x.match.position

  abbrev b : net.Address
  b = x.net_address

  abbrev Q : World → Value → net.Address → Type 0
  Q = ObjectMatch U class

  -- ---- what is written

  pub auto_exp : exp_of T (typed (types.class class) (variable v qualified))
      ≡ support_call (auto_name T.declarations class) (one (path (variable_path T qualified v.0)))
  auto_exp =
      ap (λ o. made_if T.declarations o (path names)) (ap (λ (E : Declarations). auto_class (slice_get E.vars v.0)) same_declarations ∙ auto_made U v.0 class r)

  image_goes : (a : Address) (b : net.Address) → Same U K w a b → ◌≡◌ {A = Given net_value.Value net.Address} (target.given_by b) (by_address b)
  image_goes _ _ (same_root s d q sh m r) = refl
  image_goes _ _ (same_item s t d q k j inside keeps m has part sh) = refl

  -- the variable goes by reference
  taken : (t : net.Memory) → target.reach S net_oracle false (support_call name (one (path names))) t
      ≡ gives [] (called (to_support name) (by_address b ∷ [])) t
  taken t =
      let give = λ (gs : Arguments) (w : net.Memory). gives [] (called (to_support name) gs) w in
      let modes = λ (z : List NetPassing) (w : net.Memory). target.args_of S net_oracle z (one (path names)) w in
      let values = λ (w : net.Memory). target.values_of S net_oracle (one (path names)) w in
      let more = λ (y : Given net_value.Value net.Address) (w : net.Memory). then (gives [] [] w) (λ gs w. gives [] (y ∷ gs) w) in
      ap (λ s. then (target.started S net_oracle s t) (target.applied S net_oracle modes values)) (support_start S net_oracle opened.support name)
      ∙ ap (λ z. after [] (then (modes z t) give)) (ap passing_of_some (auto_function (class_name T.declarations class)))
      ∙ ap (λ z. after [] (then (then (target.given S net_oracle passing.Reference z) more) give)) (x.leads t)
      ∙ ap (λ y. gives [] (called (to_support name) (y ∷ [])) t) (image_goes x.address b x.match.same)

  -- it is of the class that the function is named for
  home_is : net.shape_at b ≡ shape.class m.home
  home_is =
      let there = image_shaped U K w class q b (subst (λ z. Same U K w z b) x.match.stands x.match.same) in
      there.2 ∙ ap shape.class (same_number there.0 m.home (sym there.1 ∙ m.is_home))
    where
      same_number : (i j : ℕ) → Some i ≡ Some j → i ≡ j
      same_number i j e = cc e

  looked_at : (t : net.Memory) → target.address_from S net_oracle (gives [] (called (to_support name) (by_address b ∷ [])) t)
      ≡ object_in U.written net_oracle m.home b (net.looked_up b t) t
  looked_at t =
      let does = performed S net_oracle (to_support name) (by_address b ∷ []) t in
      ap (λ z. then z target.finished) (after_nil (then does (λ a w. gives [] (net_names.at_address a) w)))
      ∙ then_assoc does (λ a w. gives [] (net_names.at_address a) w) target.finished ∙ then_gives does
      ∙ ap (λ o. some_function U.written net_oracle name (by_address b ∷ []) o t) (auto_function (class_name T.declarations class))
      ∙ ap (λ s. object_of_class U.written net_oracle b s t) (leads_to m.home m.is_home)
      ∙ ap (λ s. cond (is_same_shape s (shape.class m.home)) (object_in U.written net_oracle m.home b (net.looked_up b t) t) (outside [])) home_is
      ∙ ap (λ z. cond z (object_in U.written net_oracle m.home b (net.looked_up b t) t) (outside [])) (eq-eqb m.home m.home refl)

  -- ---- what the source does

  -- the object is made, and then read where it is put
  abbrev Reads : Memory → Outcome Memory Value
  Reads s = then (store.read (root (simple (types.class class)) x.match.position) s) (Checked C (types.class class))

  value_is : source.value_of C e w.src ≡ then (objects.made_at D oracle f.env class at w.src) (λ u s. Reads s)
  value_is =
      let made = λ (a : Address). then (objects.made_at D oracle f.env class a w.src) (λ u s. gives [] (at_address a) s) in
      ap (λ z. then (then z (source.as_new C (variable v qualified))) (source.value_in C e)) (x.found w.src)
      ∙ ap (λ o. then (after [] (source.made_for C o (at_address x.address) w.src)) (source.value_in C e)) (auto_made U v.0 class r)
      ∙ ap (λ z. then z (source.value_in C e)) (after_nil (after [] (made x.address)) ∙ after_nil (made x.address))
      ∙ ap (λ a. then (made a) (source.value_in C e)) x.match.stands
      ∙ then_assoc (objects.made_at D oracle f.env class at w.src) (λ u s. gives [] (at_address at) s) (source.value_in C e)
      ∙ ap (λ j. then (objects.made_at D oracle f.env class at w.src) j)
      (λ i u s. (after_nil (then (after [] (store.read at s)) (Checked C (types.class class)))
      ∙ ap (λ z. then z (Checked C (types.class class))) (after_nil (store.read at s))) i)

  there : (z : Value6) × (gathered (simple (types.class class)) q w.src.held ≡ Some (scalar (types.class class) z))
      × LikeV U w (scalar (types.class class) z) (net.looked_up b w.net)
  there = object_there U K w start class q b (subst (λ z. Same U K w z b) x.match.stands x.match.same)

  -- what is read there
  is_read : (go : Value → Memory → Outcome Memory Value) → then (store.read at w.src) go ≡ go (scalar (types.class class) there.0) w.src
  is_read go = ap (λ o. then (found o w.src) go) there.1 ∙ after_nil (go (scalar (types.class class) there.0) w.src)

  checked : (u : World) (z : Value6) (y : net_value.Value) → MemoryMatch U u → LikeV U u (scalar (types.class class) z) y
      → Agrees U K u Q (Checked C (types.class class) (scalar (types.class class) z) u.src) (gives [] (net.constant (shape.class m.home) y) u.net)
  checked u z y match like =
      let s : Value = scalar (types.class class) z in
      let r' = gives [] (net.constant (shape.class m.home) y) u.net in
      provided_agrees U K u Q (is_of_shape (source.type_shape (declared C) (types.class class)) s) s r' (λ ok.
      agrees_gives U K u Q s (net.constant (shape.class m.home) y) match (record {
        like = (z, refl, like);
        home = m.home;
        is_home = m.is_home;
        shaped = refl;
      }))

  -- ---- both

  -- an object that is made is put there
  made_agrees : Agrees U K w Q (then (then (objects.created D oracle f.env class w.src) (λ z s. store.write f.env z at s)) (λ u s. Reads s))
      (then (making.created U.written net_oracle m.home w.net)
      (λ y t. then (net.written b y t) (λ u t. gives [] (net.constant (shape.class m.home) y) t)))
  made_agrees =
      let made = objects.created D oracle f.env class w.src in
      let made' = making.created U.written net_oracle m.home w.net in
      let put' = λ (y : net_value.Value) (t : net.Memory). then (net.written b y t) (λ u t. gives [] (net.constant (shape.class m.home) y) t) in
      subst (λ z. Agrees U K w Q z (then made' put')) (sym (then_assoc made (λ z s. store.write f.env z at s) (λ u s. Reads s)))
      (then_agrees U K w (ValueMatch U (simple (types.class class))) Q made made' (λ z s. then (store.write f.env z at s) (λ u s. Reads s)) put' start
      (created_agrees U K p f g oracle net_oracle l k c T agree w start stands class m can)
      (λ z y u match later.
      let o = as_scalar U class u z y match in
      let s : Value = scalar (types.class class) o.0 in
      subst (λ z. Agrees U K u Q (then (store.write f.env z at u.src) (λ u s. Reads s)) (put' y u.net)) (sym o.1)
      (subst (λ z. Agrees U K u Q z (put' y u.net)) (sym (read_back f.env class o.0 q u.src (Checked C (types.class class))))
      (then_agrees U K u AnyUnits Q (store.write f.env s at u.src) (net.written b y u.net) (λ u s'. Checked C (types.class class) s s')
      (λ u t. gives [] (net.constant (shape.class m.home) y) t) later.match
      (subst (λ z. Agrees U K u AnyUnits (store.write f.env s z u.src) (net.written b y u.net)) x.match.stands
      (autos_are_set U K u class x.address b f.env o.0 y later.match (match_later U K class w u x.address b later x.match) o.2))
      (λ i j z any behind. checked z o.0 y behind.match (scalar_later U K u z (types.class class) o.0 y behind o.2))))))

  at_it : (z : Value6) (y : ValueN) → Matches (are_same w) (types.class class) z y → z ≡ there.0
      → Agrees U K w Q (then (objects.made_at_scalar D oracle f.env class at z w.src) (λ u s. Reads s))
      (object_in U.written net_oracle m.home b (net_value.single y) w.net)
  at_it _ _ (no_object_of _) is = made_agrees
  at_it _ _ (objects_of _ o j same) is =
      let y' = gives [] (net.constant (shape.class m.home) (net_value.single (n.Object j))) w.net in
      left_alone U K w Q (Reads w.src) y'
      (subst (λ z. Agrees U K w Q z y') (sym
      (is_read (Checked C (types.class class)) ∙ ap (λ z. Checked C (types.class class) (scalar (types.class class) z) w.src) (sym is)))
      (checked w (v6.Object o) (net_value.single (n.Object j)) start (like_scalar (types.class class) (v6.Object o) (n.Object j) (objects_of class o j same))))

  of_value : (z : Value6) (y : net_value.Value) → LikeV U w (scalar (types.class class) z) y → z ≡ there.0
      → Agrees U K w Q (then (objects.made_at_scalar D oracle f.env class at z w.src) (λ u s. Reads s)) (object_in U.written net_oracle m.home b y w.net)
  of_value _ _ (like_scalar _ z y match) is = at_it z y match is

  -- the use of the variable
  pub use_agrees : Agrees U K w (ObjectMatch U class) (source.value_of (context_of U oracle p f l) (typed (types.class class) (variable v qualified)) w.src)
      (target.address_of (scope_of U.written c g k) net_oracle
      (support_call (auto_name T.declarations class) (one (path (variable_path T qualified v.0)))) w.net)
  use_agrees =
      let go = λ (z : Value) (s : Memory). objects.made_at_value D oracle f.env class at z s in
      subst (λ z. Agrees U K w Q (source.value_of C e w.src) z) (sym (ap (target.address_from S net_oracle) (taken w.net) ∙ looked_at w.net))
      (subst (λ z. Agrees U K w Q z (object_in U.written net_oracle m.home b (net.looked_up b w.net) w.net))
      (sym (value_is ∙ ap (λ o. then (then (found o w.src) go) (λ u s. Reads s)) there.1
      ∙ ap (λ z. then z (λ u s. Reads s)) (after_nil (objects.made_at_scalar D oracle f.env class at there.0 w.src))))
      (of_value there.0 (net.looked_up b w.net) there.2 refl))
