-- While a call with elements by reference is evaluated, their arrays are kept.
use Rattle.std.proofs.Common.{◌≡◌, ◌⊎◌, inl, inr, refl, ap, ◌∙◌, ℕ, Bool, not, Option, Some, None, List, [], ◌∷◌, ◌++◌}
use Rattle.vb_tree.specs.BoundTree.{Ty}
use Rattle.bound_tree.specs.Tree.{Expr, typed, constant, variable, field, element, call, library, unary, binary, convert, new_object, me, with_object, err_number, err_raise, err_clear, is_same, loose, Exprs, no_exprs, next_expr, Object, no_object, of_object, Passed, no_passed, next_passed, by_value, by_reference}
use Rattle.bound_facts.specs.Calls.{initializer_of}
use Rattle.bound_facts.specs.Locks.{Keeps}
use Rattle.bound_facts.specs.Members.{initializer}
use Rattle.bound_facts.specs.Nodes.{nodes, nodes_of_all, nodes_of_object, nodes_of_passed}
use Rattle.written_trees.specs.Names.{Scope}
use Rattle.vb6_run.specs.Store.{Address, SourceFrame}
use Rattle.vb6_run.specs.Forms.{SourceLine}
use Rattle.net_run.specs.Lines.{NetFrame, NetLine}
use Rattle.net_run.specs.Names as net_names
use Rattle.net_run.specs.Store as net
use Rattle.run_matches.specs.Frames.{is_mirrored}
use Rattle.run_matches.specs.Addresses.{Bound, images, mirrored}
use Rattle.run_matches.specs.CoveredExprs.{Uses}
use Rattle.run_matches.specs.Maps.{World}
use Rattle.run_matches.specs.Match.{MemoryMatch}
use Rattle.run_matches.specs.Pledges.{Pledge}
use Rattle.run_matches.specs.Upgrades.{Upgrade}
use Rattle.run_statements.specs.Frames.{AllCalled, AllCalledOf, AllCalledAll, AllCalledFor, CanCall, CanMake, Demands, Initializes, IsOne, KeepsEach, NodesKeep, demands}
use Rattle.agreeing_laws.specs.Promises.{Weaker}
use Rattle.agreeing_laws.proofs.Lasting.{later_weaker}
use Rattle.agreeing_laws.proofs.Moves.{address_promised, locks_promised}
use Rattle.expression_laws.specs.Calls.{Stands}
use Rattle.expression_laws.specs.Images.{HasImage, HaveImages, IsImage}

-- arrays of elements of these types are kept too
abbrev pub giving : Pledge → List Ty → Pledge
giving K ts = record { keeps = λ t. K.keeps t ⊎ IsOne ts t; steady = K.steady; base = K.base; own = K.own; takes = K.takes }

pub giving_more : (K : Pledge) (ts : List Ty) (w : World) → Weaker w K (giving K ts)
giving_more K ts w = record {
  keeps = λ t h. inl h;
  steady = λ h. h;
  old = λ r m s o. record { is_made = o.is_made; foreign = o.foreign };
  takes = λ k lt h. h;
}

-- ---- the frames

-- what stands for each other does so under a pledge that promises no less
module _ (U : Upgrade) (K L : Pledge) (w : World) (start : MemoryMatch U w) (less : Weaker w K L) where
  bound_promised : (exact : Bool) (a : Address) (b : net.Address) → Bound U K w exact a b → Bound U L w exact a b
  bound_promised _ _ _ (images exact a b same) = images exact a b (address_promised U K L w w a b less same)
  bound_promised _ _ _ (mirrored a b m) = mirrored a b (record { holds = λ z l. m.holds z (later_weaker U K L w z start less l) })

  image_promised : (v : ℕ) (a : Address) (b : net.Address) → IsImage U K w v a b → IsImage U L w v a b
  image_promised v a b x = record {
    same = address_promised U K L w w a b less x.same;
    target = x.target;
    plain = x.plain;
    position = x.position;
    auto = x.auto;
    stands = x.stands;
    ranked = x.ranked;
  }

  pub images_promised : (f : SourceFrame) (S : net_names.Scope) (T : Scope) (uses : Uses) → HaveImages U K w f S T uses → HaveImages U L w f S T uses
  images_promised f S T uses h v a used is =
      let x : HasImage U K w S T (uses.named v) v.0 a = h v a used is in
      record {
        address = x.address;
        found = x.found;
        bound = bound_promised (not (is_mirrored U v.0)) a x.address x.bound;
        of_scalars = x.of_scalars;
        whole = x.whole;
        image = λ exact. image_promised v.0 a x.address (x.image exact);
      }

module _ (U : Upgrade) (K : Pledge) (ts : List Ty) (w : World) (start : MemoryMatch U w) where
  pub stands_giving : (p : ℕ) (f : SourceFrame) (g : NetFrame) → Stands U K w p f g → Stands U (giving K ts) w p f g
  stands_giving p f g h = record {
    me = h.me;
    object = h.object;
    own_object = h.own_object;
    locks = locks_promised U K (giving K ts) w w f.env (giving_more K ts w) h.locks;
    low = h.low;
  }

-- ---- what is called

nodes_left : (U : Upgrade) (ts : List Ty) (ds es : List Expr) → NodesKeep U ts (ds ++ es) → NodesKeep U ts ds
nodes_left U ts [] es h = tt
nodes_left U ts (d ∷ ds) es h = (h.0, nodes_left U ts ds es h.1)

nodes_right : (U : Upgrade) (ts : List Ty) (ds es : List Expr) → NodesKeep U ts (ds ++ es) → NodesKeep U ts es
nodes_right U ts [] es h = h
nodes_right U ts (d ∷ ds) es h = nodes_right U ts ds es h.1

pub keeps_both : (U : Upgrade) (K : Pledge) (ts : List Ty) (q : ℕ) → ((t : Ty) → K.keeps t → Keeps U.program q t) → KeepsEach U q ts → (t : Ty)
    → K.keeps t ⊎ IsOne ts t → Keeps U.program q t
keeps_both U K ts q old new t (inl h) = old t h
keeps_both U K ts q old new t (inr h) = new t h

module _ (U : Upgrade) (K : Pledge) (S : net_names.Scope) (T : Scope) (ts : List Ty) where
  abbrev pub can_giving : (p q : ℕ) (qualified : Bool) (of : Object) (args : Passed) → KeepsEach U q ts → CanCall U K S T p q qualified of args
      → CanCall U (giving K ts) S T p q qualified of args
  can_giving p q qualified of args new c = record {
    passes = c.passes;
    keeps = keeps_both U K ts q c.keeps new;
    inward = c.inward;
    number = c.number;
    is_number = c.is_number;
    way = c.way;
    is_way = c.is_way;
    receives = c.receives;
    suits = c.suits;
    hands = c.hands;
    given = c.given;
    inside = c.inside;
    ranks = c.ranks;
    passings = c.passings;
    quiet = c.quiet;
    found = c.found;
    result = c.result;
  }

  -- a new object can be made then, where its Class_Initialize keeps them
  initializes_giving : (class home : ℕ) (i : Option ℕ) → ((q : ℕ) → i ≡ Some q → KeepsEach U q ts) → Initializes U K class home i
      → Initializes U (giving K ts) class home i
  initializes_giving class home None new calls = calls
  initializes_giving class home (Some q) new calls = (
    record {
      passes = calls.0.passes;
      keeps = keeps_both U K ts q calls.0.keeps (new q refl);
      steady = calls.0.steady;
      number = calls.0.number;
      is_number = calls.0.is_number;
      stands = calls.0.stands;
    },
    calls.1,
  )

  make_giving : (class : ℕ) → ((q : ℕ) → initializer U.program.declarations class ≡ Some q → KeepsEach U q ts) → CanMake U K S T class
      → CanMake U (giving K ts) S T class
  make_giving class new can = record {
    initializes = λ home is. initializes_giving class home (initializer U.program.declarations class) new (can.initializes home is);
    leads = can.leads;
  }

  module _ (p : ℕ) (l : SourceLine) (k : NetLine) where
    abbrev Q : Demands
    Q = demands U K p l k S T

    abbrev R : Demands
    R = demands U (giving K ts) p l k S T

    abbrev Keep : List Expr → Type 0
    Keep ds = NodesKeep U ts ds

    mutual
      called_giving : (e : Expr) → Keep (nodes e) → AllCalled Q e → AllCalled R e
      called_giving (typed ty (constant x origin)) s h = tt
      called_giving (typed ty (variable v qualified)) s h = λ class is made.
          let can = h class is made in
          (make_giving class (λ q e. s.0.1 q (ap (initializer_of U.program.declarations) is ∙ e)) can.0, can.1)
      called_giving (typed ty (field e k)) s h = called_giving e s.1 h
      called_giving (typed ty (element e indexes)) s h = (h.0, called_giving_all indexes (nodes_right U ts (nodes e) (nodes_of_all indexes) s.1) h.1)
      called_giving (typed ty (call q qualified of args)) s h = (
        can_giving p q.0 qualified of args (s.0.0 q.0 refl) h.0,
        called_giving_for args (nodes_right U ts (nodes_of_object of) (nodes_of_passed args) s.1) h.1,
        called_giving_of of (nodes_left U ts (nodes_of_object of) (nodes_of_passed args) s.1) h.2,
      )
      called_giving (typed ty (library f args)) s h = (h.0, called_giving_all args s.1 h.1)
      called_giving (typed ty (unary op e)) s h = called_giving e s.1 h
      called_giving (typed ty (binary op d e)) s h =
          (called_giving d (nodes_left U ts (nodes d) (nodes e) s.1) h.0, called_giving e (nodes_right U ts (nodes d) (nodes e) s.1) h.1)
      called_giving (typed ty (convert to e)) s h = called_giving e s.1 h
      called_giving (typed ty (new_object c)) s h = λ made. make_giving c.0 s.0.1 (h made)
      called_giving (typed ty me) s h = tt
      called_giving (typed ty (with_object root)) s h = h
      called_giving (typed ty err_number) s h = tt
      called_giving (typed ty (err_raise e)) s h = called_giving e s.1 h
      called_giving (typed ty err_clear) s h = tt
      called_giving (typed ty (is_same d e)) s h =
          (called_giving d (nodes_left U ts (nodes d) (nodes e) s.1) h.0, called_giving e (nodes_right U ts (nodes d) (nodes e) s.1) h.1)
      called_giving (typed ty (loose e rules)) s h = tt

      called_giving_all : (es : Exprs) → Keep (nodes_of_all es) → AllCalledAll Q es → AllCalledAll R es
      called_giving_all no_exprs s h = tt
      called_giving_all (next_expr e rest) s h =
          (called_giving e (nodes_left U ts (nodes e) (nodes_of_all rest) s) h.0, called_giving_all rest (nodes_right U ts (nodes e) (nodes_of_all rest) s) h.1)

      called_giving_of : (of : Object) → Keep (nodes_of_object of) → AllCalledOf Q of → AllCalledOf R of
      called_giving_of no_object s h = tt
      called_giving_of (of_object e) s h = called_giving e s h

      pub called_giving_for : (args : Passed) → Keep (nodes_of_passed args) → AllCalledFor Q args → AllCalledFor R args
      called_giving_for no_passed s h = tt
      called_giving_for (next_passed (by_value e) rest) s h =
          (called_giving e (nodes_left U ts (nodes e) (nodes_of_passed rest) s) h.0, called_giving_for rest (nodes_right U ts (nodes e) (nodes_of_passed rest) s) h.1)
      called_giving_for (next_passed (by_reference e) rest) s h =
          (called_giving e (nodes_left U ts (nodes e) (nodes_of_passed rest) s) h.0, called_giving_for rest (nodes_right U ts (nodes e) (nodes_of_passed rest) s) h.1)
